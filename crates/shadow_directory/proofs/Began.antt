-- What was written begins as before, along several calls.
use Rattle.std.proofs.Common.{◌≡◌, ◌≤◌, ◌+◌, ℕ, List, [], ◌∷◌, ◌++◌, length, take, map, refl, sym, ap, ◌∙◌, arith, append_assoc, length-append, suc}
use Rattle.std.proofs.lemmas.List.{take-append-le, length-map, length-take, append-nil, map-append}
use Rattle.grid_types.specs.declared.owner.Owner.{Owner}
use Rattle.shadow_directory.specs.Pages.{BeganFor}

-- nothing more was written
pub began-none : (owners : List Owner) (old new : List (Owner × List ℕ)) → new ≡ old → BeganFor owners old new
began-none owners old new e = record { more = []; is = e ∙ sym (append-nil old); order = refl }

-- more owners were to follow
pub began-longer : (owners rest : List Owner) (old new : List (Owner × List ℕ)) → BeganFor owners old new → BeganFor (owners ++ rest) old new
began-longer owners rest old new b =
    let few : length b.more ≤ length owners = omega (arith, ap length b.order, length-map b.more (λ w. w.0), length-take (length b.more) owners) in
    record { more = b.more; is = b.is; order = b.order ∙ sym (take-append-le (length b.more) owners rest few) }

take-behind : (xs ys : List Owner) (n : ℕ) → take (length xs + n) (xs ++ ys) ≡ xs ++ take n ys
take-behind [] ys n = ap (λ k. take k ys) (omega arith)
take-behind (x ∷ xs) ys n =
    let next : length (x ∷ xs) + n ≡ suc (length xs + n) = omega arith in
    ap (λ k. take k (x ∷ (xs ++ ys))) next ∙ ap (λ zs. x ∷ zs) (take-behind xs ys n)

-- pages of other owners were written before
pub began-behind : (done owners : List Owner) (old mid new front : List (Owner × List ℕ)) → mid ≡ old ++ front → map (λ w. w.0) front ≡ done → BeganFor owners mid new → BeganFor (done ++ owners) old new
began-behind done owners old mid new front e f b = record {
  more = front ++ b.more;
  is = b.is ∙ ap (λ xs. xs ++ b.more) e ∙ append_assoc old front b.more;
  order =
      let long : length (front ++ b.more) ≡ length done + length b.more = length-append front b.more ∙ ap (λ n. n + length b.more) (sym (length-map front (λ w. w.0)) ∙ ap length f) in
      map-append (λ w. w.0) front b.more ∙ (λ i. f i ++ b.order i) ∙ sym (ap (λ n. take n (done ++ owners)) long ∙ take-behind done owners (length b.more));
}
