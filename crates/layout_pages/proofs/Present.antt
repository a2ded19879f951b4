-- What is there, and what is not.
use Rattle.std.proofs.Common.{◌≡◌, ◌<◌, ℕ, zero, suc, false, List, [], ◌∷◌, length, Option, Some, None, IsSome, is_some, refl, sym, arith, true≢false}
use Rattle.std.specs.Prelude.{slice_get}
use Rattle.std.specs.Option.{unwrap_or}

module _ {X : Type 0} where
  -- what is there has a value
  pub value-of : (o : Option X) → IsSome o → (x : X) × (o ≡ Some x)
  value-of None some = absurd (true≢false (sym some))
  value-of (Some x) some = (x, refl)

  -- and what is not there is nothing
  pub nothing-of : (o : Option X) → is_some o ≡ false → o ≡ None
  nothing-of None none = refl
  nothing-of (Some x) none = absurd (true≢false none)

  -- the value of what is there, in place of another one
  pub there : (o : Option X) (d : X) → IsSome o → Some (unwrap_or o d) ≡ o
  there None d some = absurd (true≢false (sym some))
  there (Some x) d some = refl

  -- an index of a list has an element
  pub some-at : (xs : List X) (i : ℕ) → i < length xs → (x : X) × (slice_get xs i ≡ Some x)
  some-at [] i low = absurd (omega (arith, low))
  some-at (x ∷ xs) zero low = (x, refl)
  some-at (x ∷ xs) (suc i) low = some-at xs i (omega (arith, low))
