-- The data pages that a table area names, each by the owner for which it is named.
use Rattle.std.proofs.Common.{◌≡◌, ◌<◌, ◌==◌, inl, inr, ℕ, true, not, List, length, sym, ap, subst, ◌∙◌, arith}
use Rattle.std.specs.Prelude.{slice_index, Contains}
use Rattle.std.proofs.lemmas.List.{get_or_default}
use Rattle.std.proofs.lemmas.List.Elements.{Contains-append_cases}
use Rattle.grid_model.specs.Lawful.{Area, pages_named, nowhere}
use Rattle.grid_model.specs.Lists.{below, is_among}
use Rattle.grid_model.specs.Images.{numbers_of}
use Rattle.grid_model.proofs.Counts.{among-filter, among-range}
use Rattle.grid_model.proofs.Members.{contains-filter, contains-from-filter, contains-range, among-from-contains}
use Rattle.layout_pages.specs.Holding.{named_by}

-- a number of a table has a page: it is one of its entries, which is not nowhere
pub numbered-entry : (table : List ℕ) (n : ℕ) → is_among (numbers_of table) n ≡ true → (n < length table) × (not (slice_index table n == nowhere) ≡ true)
numbered-entry table n h =
    let at = among-filter (λ i. not (slice_index table i == nowhere)) (below (length table)) n h in
    let inside = among-range 0 (length table) n at.0 in
    (omega (arith, inside.1), at.1)

-- and each such entry is a number of it
pub entry-numbered : (table : List ℕ) (n : ℕ) → n < length table → not (slice_index table n == nowhere) ≡ true → is_among (numbers_of table) n ≡ true
entry-numbered table n low some =
    among-from-contains (numbers_of table) n (contains-filter (λ i. not (slice_index table i == nowhere)) (below (length table)) n (contains-range 0 (length table) n (omega arith) (omega (arith, low))) some)

module _ (P : ℕ → Type 0) (a : Area) (part : (k : ℕ) → k < length a.parts → P (slice_index a.parts k)) (bucket : (n : ℕ) → is_among (numbers_of a.table) n ≡ true → P (slice_index a.table n)) where
  by-part : (p : ℕ) → Contains a.parts p → P p
  by-part p h = subst P (sym (get_or_default a.parts h.0 p 0 h.1) ∙ h.2) (part h.0 h.1)

  by-bucket : (p : ℕ) → Contains (pages_named a.table) p → P p
  by-bucket p h =
      let at = contains-from-filter (λ q. not (q == nowhere)) a.table p h in
      let is : slice_index a.table at.0.0 ≡ p = sym (get_or_default a.table at.0.0 p 0 at.0.1) ∙ at.0.2 in
      subst P is (bucket at.0.0 (entry-numbered a.table at.0.0 at.0.1 (ap (λ q. not (q == nowhere)) is ∙ at.1)))

  -- what holds of the page of each part and of each bucket number holds of each page that is named
  pub each-named : (p : ℕ) → Contains (named_by a) p → P p
  each-named p h = elim (Contains-append_cases a.parts (pages_named a.table) p h) [
    | inl g ↦ by-part p g
    | inr g ↦ by-bucket p g
  ]
