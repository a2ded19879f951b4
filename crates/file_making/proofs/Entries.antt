-- The entries on a page of a new file's bucket table.
use Rattle.std.proofs.Common.{◌≡◌, ◌≤◌, inl, inr, ◌-◌, ℕ, zero, suc, List, ◌∷◌, take, drop, replicate, sym, ap, ◌∙◌, arith}
use Rattle.std.specs.Prelude.{min}
use Rattle.std.proofs.lemmas.Bool.{cases_lt}
use Rattle.std.proofs.lemmas.List.{take-replicate, drop-replicate, take_all, length-replicate}
use Rattle.grid_model.specs.Lawful.{nowhere}
use Rattle.file_making.specs.Contents.{first_entry}

-- of equal entries those up to a place or the end
equal_until : (n m count x : ℕ) → count ≡ min m n → take n (replicate m x) ≡ replicate count x
equal_until n m count x is = elim (cases_lt n m) [
  | inl short ↦ take-replicate n m x (omega (arith, short)) ∙ ap (λ (k : ℕ). replicate k x) (omega (arith, is, short))
  | inr long ↦ take_all n (replicate m x) (omega (arith, length-replicate m x, long)) ∙ ap (λ (k : ℕ). replicate k x) (omega (arith, is, long))
]

-- as many of the entries that a page has at most as the table has there
pub entries_there : (pages from count : ℕ) → 1 ≤ pages → count ≡ min (pages - from) 1000 → take count (first_entry from ∷ replicate 999 nowhere) ≡ take 1000 (drop from (1 ∷ replicate (pages - 1) nowhere))
entries_there pages zero zero some is = absurd (omega (arith, some, is))
entries_there pages zero (suc count) some is =
    let most : count ≤ 999 = omega (arith, is) in
    ap (λ (ns : List ℕ). 1 ∷ ns) (take-replicate count 999 nowhere most ∙ sym (equal_until 999 (pages - 1) count nowhere (omega (arith, is, some))))
entries_there pages (suc from) count some is =
    take-replicate count 1000 nowhere (omega (arith, is))
    ∙ sym (ap (take 1000) (drop-replicate from (pages - 1) nowhere) ∙ equal_until 1000 (pages - 1 - from) count nowhere (omega (arith, is)))
