-- Changes of several ranges of an image, one after the other.
use Rattle.std.proofs.Common.{◌≡◌, ◌<◌, ◌≤◌, ◌+◌, ◌-◌, ◌*◌, ℕ, List, [], ◌∷◌, length, take, drop, refl, sym, ap, arith, ◌∙◌}
use Rattle.std.specs.Prelude.{min}
use Rattle.std.proofs.lemmas.List.{ext_get_or, length-take, length-drop, get_or-take, get_or-drop}
use Rattle.grid_types.specs.Pages.{page_of}
use Rattle.grid_types.specs.declared.sizes.TheConstants.{PAGE_BYTES}
use Rattle.disk_trait.specs.Disk.{Agrees}
use Rattle.disk_trait.specs.Moments.{IsOutside, AgreesOutside}
use Rattle.disk_trait.proofs.Pages.{byte_apart}

-- an image agrees with itself
pub outside_same : (rs : List (ℕ × ℕ)) (c : List ℕ) → AgreesOutside rs c c
outside_same rs c = record { same_length = refl; each = λ i o. refl }

-- one change of the ranges after another
pub outside_then : (rs : List (ℕ × ℕ)) (c d e : List ℕ) → AgreesOutside rs c d → AgreesOutside rs d e → AgreesOutside rs c e
outside_then rs c d e a b = record { same_length = b.same_length ∙ a.same_length; each = λ i o. b.each i o ∙ a.each i o }

-- images that agree outside of some ranges agree outside of more
pub outside_more : (rs qs : List (ℕ × ℕ)) (c d : List ℕ) → ((i : ℕ) → IsOutside qs i → IsOutside rs i) → AgreesOutside rs c d → AgreesOutside qs c d
outside_more rs qs c d sub a = record { same_length = a.same_length; each = λ i o. a.each i (sub i o) }

-- one range
pub outside_one : (at n : ℕ) (c d : List ℕ) → Agrees at n c d → AgreesOutside ((at, n) ∷ []) c d
outside_one at n c d a = record { same_length = a.same_length; each = λ i o. byte_apart at n i c d o.0 a }

-- a part that none of the ranges meets stays
pub outside_part : (rs : List (ℕ × ℕ)) (from m : ℕ) (c d : List ℕ) → ((i : ℕ) → from ≤ i → i < from + m → IsOutside rs i) → AgreesOutside rs c d → take m (drop from d) ≡ take m (drop from c)
outside_part rs from m c d apart a =
    let long : length (take m (drop from d)) ≡ length (take m (drop from c)) = length-take m (drop from d) ∙ ap (λ (k : ℕ). min m k) (length-drop from d ∙ ap (λ (k : ℕ). k - from) a.same_length ∙ sym (length-drop from c)) ∙ sym (length-take m (drop from c)) in
    ext_get_or 0 (take m (drop from d)) (take m (drop from c)) long (λ i h.
    let lt : i < m = omega (arith, h, length-take m (drop from d)) in
    get_or-take m (drop from d) i 0 lt ∙ get_or-drop from d i 0 ∙ a.each (from + i) (apart (from + i) (omega arith) (omega (arith, lt))) ∙ sym (get_or-drop from c i 0) ∙ sym (get_or-take m (drop from c) i 0 lt))

-- two images have the same page
abbrev pub SamePage : ℕ → List ℕ → List ℕ → Type 0
SamePage page c d = page_of page d ≡ page_of page c

-- a page lies beside each of these ranges
abbrev pub PageIsOutside : List (ℕ × ℕ) → ℕ → Type 0
PageIsOutside rs page = (i : ℕ) → page * PAGE_BYTES ≤ i → i < page * PAGE_BYTES + PAGE_BYTES → IsOutside rs i

-- a page beside the ranges in which two images differ is the same
pub page_outside : (rs : List (ℕ × ℕ)) (page : ℕ) (c d : List ℕ) → PageIsOutside rs page → AgreesOutside rs c d → SamePage page c d
page_outside rs page c d apart a = outside_part rs (page * PAGE_BYTES) PAGE_BYTES c d apart a
