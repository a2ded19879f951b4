-- The values of K pieces, one after another.
use Rattle.std.proofs.Common.{◌≡◌, ◌∙◌, ◌<◌, ℕ, cond, List, [], ◌∷◌, ◌++◌, map, length, Option, Some, None, refl, sym, ap, append_assoc, arith, length-append}
use Rattle.std.specs.Option.{option_map, option_and_then}
use Rattle.std.proofs.lemmas.Bool.{eq-eqb, ne_eqb}
use Rattle.std.proofs.lemmas.List.{append-nil}
use Rattle.grid_model.specs.Script.{all_of, if_count}

-- values, and then those that follow, if there are any
abbrev pub after : {X : Type 0} → List X → Option (List X) → Option (List X)
after xs o = option_map (λ ys. xs ++ ys) o

module _ {X : Type 0} (f : List ℕ → Option X) where
  abbrev values : List (List ℕ) → Option (List X)
  values ps = all_of (map f ps)

  after-cons : (xs : List X) (x : X) (o : Option (List X)) → after xs (option_map (λ ys. x ∷ ys) o) ≡ after (xs ++ x ∷ []) o
  after-cons xs x None = refl
  after-cons xs x (Some ys) = ap Some (sym (append_assoc xs (x ∷ []) ys))

  values-cons : (p : List ℕ) (ps : List (List ℕ)) (o : Option X) → f p ≡ o → values (p ∷ ps) ≡ all_of (o ∷ map f ps)
  values-cons p ps o e = ap (λ v. all_of (v ∷ map f ps)) e

  -- one value more
  pub all-next : (whole : Option (List X)) (xs longer : List X) (x : X) (p : List ℕ) (ps left : List (List ℕ)) → whole ≡ after xs (all_of (map f left)) → left ≡ p ∷ ps → f p ≡ Some x → longer ≡ xs ++ x ∷ [] → whole ≡ after longer (all_of (map f ps))
  all-next whole xs longer x p ps left was split e more =
      was ∙ ap (λ l. after xs (values l)) split ∙ ap (after xs) (values-cons p ps (Some x) e) ∙ after-cons xs x (values ps) ∙ ap (λ l. after l (values ps)) (sym more)

  -- a piece without a value
  pub all-bad : (K : ℕ) (whole : Option (List X)) (xs : List X) (p : List ℕ) (ps left : List (List ℕ)) → whole ≡ after xs (all_of (map f left)) → left ≡ p ∷ ps → f p ≡ None → option_and_then (if_count K) whole ≡ None
  all-bad K whole xs p ps left was split e =
      ap (option_and_then (if_count K)) (was ∙ ap (λ l. after xs (values l)) split ∙ ap (after xs) (values-cons p ps None e))

  if_count-other : (K : ℕ) (xs : List X) → (length xs ≡ K → ⊥) → if_count K xs ≡ None
  if_count-other K xs h = ap (λ t. cond t (Some xs) None) (ne_eqb (length xs) K h)

  -- too few pieces
  pub all-short : (K : ℕ) (whole : Option (List X)) (xs : List X) → whole ≡ after xs (Some []) → length xs < K → option_and_then (if_count K) whole ≡ None
  all-short K whole xs was few =
      ap (option_and_then (if_count K)) (was ∙ ap Some (append-nil xs)) ∙ if_count-other K xs (λ e. omega (arith, few, e))

  if_count-longer : (K : ℕ) (xs : List X) (x : X) (o : Option (List X)) → length xs ≡ K → option_and_then (if_count K) (after xs (option_map (λ ys. x ∷ ys) o)) ≡ None
  if_count-longer K xs x None e = refl
  if_count-longer K xs x (Some ys) e = if_count-other K (xs ++ x ∷ ys) (λ h. omega (arith, h, e, length-append xs (x ∷ ys)))

  -- too many pieces
  pub all-long : (K : ℕ) (whole : Option (List X)) (xs : List X) (left : List (List ℕ)) → whole ≡ after xs (all_of (map f left)) → length xs ≡ K → 0 < length left → option_and_then (if_count K) whole ≡ None
  all-long K whole xs [] was count some = absurd (omega (arith, some))
  all-long K whole xs (p ∷ ps) was count some = ap (option_and_then (if_count K)) was ∙ cases (f p) refl
    where
      cases : (o : Option X) → f p ≡ o → option_and_then (if_count K) (after xs (all_of (f p ∷ map f ps))) ≡ None
      cases None e = ap (λ v. option_and_then (if_count K) (after xs (all_of (v ∷ map f ps)))) e
      cases (Some x) e = ap (λ v. option_and_then (if_count K) (after xs (all_of (v ∷ map f ps)))) e ∙ if_count-longer K xs x (values ps) count

  -- as many pieces as there have to be
  pub all-done : (K : ℕ) (whole : Option (List X)) (xs : List X) → whole ≡ after xs (Some []) → length xs ≡ K → option_and_then (if_count K) whole ≡ Some xs
  all-done K whole xs was count =
      ap (option_and_then (if_count K)) (was ∙ ap Some (append-nil xs)) ∙ ap (λ t. cond t (Some xs) None) (eq-eqb (length xs) K count)

pub after-none : {X : Type 0} (o : Option (List X)) → o ≡ after [] o
after-none None = refl
after-none (Some ys) = refl
