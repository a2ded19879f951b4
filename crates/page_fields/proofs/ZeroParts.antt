-- Parts of a page that are zeros.
use Rattle.std.proofs.Common.{◌≡◌, ◌≤◌, ◌<◌, ◌+◌, ◌-◌, ℕ, List, ◌++◌, length, take, drop, get_or, refl, sym, ap, ◌∙◌, arith}
use Rattle.std.specs.Prelude.{replicate}
use Rattle.std.proofs.lemmas.List.{drop-drop, take-append-drop, drop_all, append-nil, take-replicate, get_or_append_left, get_or-take, get_or-drop, get_or-replicate, same_lists, get_or_default, length-drop, length-take-le, length-replicate}
use Rattle.page_fields.specs.Fields.{AreZeros}

-- a number of the part
part_at : (from n : ℕ) (page : List ℕ) (i d : ℕ) → i < n → get_or (take n (drop from page)) i d ≡ get_or page (from + i) d
part_at from n page i d lt = get_or-take n (drop from page) i d lt ∙ get_or-drop from page i d

zero_at : (n size i d : ℕ) → n ≤ size → i < n → get_or (take n (replicate size 0)) i d ≡ 0
zero_at n size i d le lt = get_or-take n (replicate size 0) i d lt ∙ get_or-replicate size i 0 d (omega arith)

pub zeros_there : (from to size : ℕ) (page : List ℕ) → to ≤ size → take (to - from) (drop from page) ≡ take (to - from) (replicate size 0) → AreZeros from to page
zeros_there from to size page le e i low high =
    ap (λ (k : ℕ). get_or page k 0) (omega arith)
    ∙ sym (part_at from (to - from) page (i - from) 0 (omega arith))
    ∙ ap (λ (xs : List ℕ). get_or xs (i - from) 0) e
    ∙ zero_at (to - from) size (i - from) 0 (omega arith) (omega arith)

pub zeros_same : (from to size : ℕ) (page : List ℕ) → from ≤ to → to ≤ size → length page ≡ size → AreZeros from to page → take (to - from) (drop from page) ≡ take (to - from) (replicate size 0)
zeros_same from to size page ordered le len zeros =
    let left : length (take (to - from) (drop from page)) ≡ to - from = length-take-le (to - from) (drop from page) (simp length-drop (omega arith)) in
    let right : length (take (to - from) (replicate {A = ℕ} size 0)) ≡ to - from = length-take-le (to - from) (replicate size 0) (omega (arith, length-replicate {A = ℕ} size 0)) in
    same_lists _ _ (left ∙ sym right) (λ k d h.
    let lt : k < to - from = omega arith in
    part_at from (to - from) page k d lt
    ∙ get_or_default page (from + k) d 0 (omega arith)
    ∙ zeros (from + k) (omega arith) (omega arith)
    ∙ sym (zero_at (to - from) size k d (omega arith) lt))

-- zeros stand where they are spelled
pub zeros_spelled : (from to n : ℕ) (page rest : List ℕ) → drop from page ≡ replicate n 0 ++ rest → to ≤ from + n → AreZeros from to page
zeros_spelled from to n page rest e le i low high =
    let lt : i - from < n = omega arith in
    let long : length (replicate {A = ℕ} n 0) ≡ n = length-replicate {A = ℕ} n 0 in
    ap (λ (k : ℕ). get_or page k 0) (omega arith)
    ∙ sym (get_or-drop from page (i - from) 0)
    ∙ ap (λ (xs : List ℕ). get_or xs (i - from) 0) e
    ∙ get_or_append_left (replicate n 0) rest 0 (i - from) (omega arith)
    ∙ get_or-replicate n (i - from) 0 0 lt

-- a part of a page that is zeros is spelled as zeros
pub zeros_are : (from to : ℕ) (page : List ℕ) → from ≤ to → to ≤ length page → AreZeros from to page → drop from page ≡ replicate (to - from) 0 ++ drop to page
zeros_are from to page le low zeros =
    let n = to - from in
    let same : take n (drop from page) ≡ replicate n 0 = zeros_same from to (length page) page le low refl zeros ∙ take-replicate n (length page) 0 (omega arith) in
    sym (take-append-drop n (drop from page))
    ∙ ap (λ (z : List ℕ). z ++ drop n (drop from page)) same
    ∙ ap (λ (r : List ℕ). replicate n 0 ++ r) (drop-drop n from page ∙ ap (λ (k : ℕ). drop k page) (omega arith))

-- a page that is zeros from an offset on ends in as many zeros
pub zeros_to_end : (from size : ℕ) (page : List ℕ) → from ≤ size → length page ≡ size → AreZeros from size page → drop from page ≡ replicate (size - from) 0
zeros_to_end from size page le long zeros =
    zeros_are from size page le (omega (arith, long)) zeros
    ∙ ap (λ (r : List ℕ). replicate (size - from) 0 ++ r) (drop_all size page (omega (arith, long)))
    ∙ append-nil (replicate (size - from) 0)
