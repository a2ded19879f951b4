-- Fields of a page, one behind the other, up to a whole page.
use Rattle.std.proofs.Common.{◌≡◌, ◌≤◌, ◌<◌, ◌+◌, ◌-◌, ℕ, List, ◌++◌, length, take, get_or, sym, ap, ◌∙◌, append_assoc, length-append, arith, replicate}
use Rattle.std.specs.List.{flat_map}
use Rattle.std.proofs.lemmas.List.{take_more, flat_map_more, take_all, length-take-le}
use Rattle.page_fields.specs.Padded.{padded}

-- one element more of a list whose elements are spelled one behind the other
pub elements_more : {X : Type 0} (f : X → List ℕ) (front : List ℕ) (xs : List X) (now next : List ℕ) (i : ℕ) (d : X) → i < length xs → now ≡ front ++ flat_map f (take i xs) → next ≡ now ++ f (get_or xs i d) → next ≡ front ++ flat_map f (take (i + 1) xs)
elements_more f front xs now next i d lt h e = e ∙ ap (λ (p : List ℕ). p ++ f (get_or xs i d)) h ∙ flat_map_more f front (take i xs) (get_or xs i d) ∙ ap (λ ys. front ++ flat_map f ys) (sym (take_more xs i d lt))

-- a page whose first n bytes are known is a head of m bytes and behind it fields that are filled up, where zeros were written from there to its end
pub filled_up : (size n m : ℕ) (head flat now next : List ℕ) → take n now ≡ head ++ flat → length head ≡ m → n ≤ length now → m ≤ n → take size next ≡ take n now ++ replicate (size - n) 0 → length next ≡ size → next ≡ head ++ padded (size - m) flat
unfolding padded
filled_up size n m head flat now next front len le low e whole =
    let start : length (take n now) ≡ n = length-take-le n now le in
    let joined : length (head ++ flat) ≡ n = sym (ap length front) ∙ start in
    let long : length flat + m ≡ n = omega (arith, joined, length-append head flat) in
    let zeros : size - n ≡ (size - m) - length flat = omega arith in
    sym (take_all size next (omega arith))
    ∙ e
    ∙ ap (λ (p : List ℕ). p ++ replicate (size - n) 0) front
    ∙ append_assoc head flat (replicate (size - n) 0)
    ∙ ap (λ (k : ℕ). head ++ (flat ++ replicate k 0)) zeros
