-- A window on two lists is the same where the items in it are.
use Rattle.std.proofs.Common.{◌≡◌, ◌<◌, ◌≤◌, ◌+◌, ℕ, zero, suc, List, [], ◌∷◌, map, take, drop, slice_get, Some, refl, arith}

module _ {X Y : Type 0} where
  -- what two functions make of the items in a window is the same where they agree on these
  pub window-alike : (f g : X → Y) (xs : List X) (a n : ℕ) → ((i : ℕ) (x : X) → slice_get xs i ≡ Some x → a ≤ i → i < a + n → f x ≡ g x) → take n (drop a (map f xs)) ≡ take n (drop a (map g xs))
  window-alike f g [] a n same = refl
  window-alike f g (x ∷ xs) zero zero same = refl
  window-alike f g (x ∷ xs) zero (suc n) same =
      let here : f x ≡ g x = same 0 x refl (omega arith) (omega arith) in
      let rest : take n (map f xs) ≡ take n (map g xs) = window-alike f g xs zero n (λ i y e p q. same (suc i) y e (omega arith) (omega (arith, q))) in
      λ j. here j ∷ rest j
  window-alike f g (x ∷ xs) (suc a) n same = window-alike f g xs a n (λ i y e p q. same (suc i) y e (omega (arith, p)) (omega (arith, q)))
