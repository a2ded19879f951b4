-- Lists that are written at some indexes, one after the other.
use Rattle.std.proofs.Common.{◌≡◌, ◌<◌, ◌==◌, ◌||◌, ℕ, Bool, true, false, List, [], ◌∷◌, map, fold, length, Some, refl, sym, ap, subst, ◌∙◌, arith, true≢false, eqb-true}
use Rattle.std.specs.Prelude.{slice_get, slice_set}
use Rattle.std.proofs.lemmas.List.{length-set, map-set}
use Rattle.grid_model.specs.Lists.{is_among}
use Rattle.history_pages.proofs.Numbers.{not-first}
use Rattle.page_states.proofs.Lists.{get_set_same, get_set_other}
use Rattle.layout_pages.proofs.Among.{one-among, later-among}

-- what is not one of two is not the second
pub not-rest : (a b : Bool) → (a || b) ≡ false → b ≡ false
not-rest true b out = absurd (true≢false out)
not-rest false b out = out

first-is : (a b : Bool) → (a || b) ≡ true → b ≡ false → a ≡ true
first-is true b is out = refl
first-is false b is out = absurd (true≢false (sym is ∙ out))

module _ {X : Type 0} (value : ℕ → X) where
  -- an index is written with its value
  abbrev pub write : List X → ℕ → List X
  write xs p = slice_set xs p (value p)

  -- each of these indexes is written with its value
  abbrev pub written : List X → List ℕ → List X
  written xs ps = fold write xs ps

  -- an index beside those that are written
  pub beside : (xs : List X) (ps : List ℕ) (q : ℕ) → is_among ps q ≡ false → slice_get (written xs ps) q ≡ slice_get xs q
  beside xs [] q out = refl
  beside xs (p ∷ ps) q out = beside (write xs p) ps q (not-rest (p == q) (is_among ps q) out) ∙ get_set_other xs p q (value p) (not-first p q (is_among ps q) out)

  -- an index that is written
  pub within : (xs : List X) (ps : List ℕ) (q : ℕ) → is_among ps q ≡ true → q < length xs → slice_get (written xs ps) q ≡ Some (value q)
  within xs [] q is low = absurd (true≢false (sym is))
  within xs (p ∷ ps) q is low = by (is_among ps q) refl (λ e. within (write xs p) ps q e (omega (arith, low, length-set xs p (value p))))
    where
      by : (b : Bool) → is_among ps q ≡ b → (is_among ps q ≡ true → slice_get (written (write xs p) ps) q ≡ Some (value q)) → slice_get (written (write xs p) ps) q ≡ Some (value q)
      by true e rest = rest e
      by false e rest =
          beside (write xs p) ps q e
          ∙ subst (λ (k : ℕ). slice_get (write xs k) q ≡ Some (value q)) (sym (eqb-true p q (first-is (p == q) (is_among ps q) is e))) (get_set_same xs q (value q) low)

  -- as many elements are there
  pub length-written : (xs : List X) (ps : List ℕ) → length (written xs ps) ≡ length xs
  length-written xs [] = refl
  length-written xs (p ∷ ps) = length-written (write xs p) ps ∙ length-set xs p (value p)

-- the images of what is written
pub map-written : {X Y : Type 0} (value : ℕ → X) (f : X → Y) (xs : List X) (ps : List ℕ) → map f (written value xs ps) ≡ written (λ p. f (value p)) (map f xs) ps
map-written value f xs [] = refl
map-written value f xs (p ∷ ps) = map-written value f (write value xs p) ps ∙ ap (λ ys. written (λ q. f (value q)) ys ps) (map-set f xs p (value p))

-- two values that agree at the indexes
pub same-written : {X : Type 0} (one other : ℕ → X) (xs : List X) (ps : List ℕ) → ((q : ℕ) → is_among ps q ≡ true → one q ≡ other q) → written one xs ps ≡ written other xs ps
same-written one other xs [] same = refl
same-written {X} one other xs (p ∷ ps) same =
    let here : one p ≡ other p = same p (one-among p ps) in
    same-written one other (write one xs p) ps (λ q e. same q (later-among p q ps e)) ∙ ap (λ (x : X). written other (slice_set xs p x) ps) here
