-- What the lists of a lawful root name.
use Rattle.std.proofs.Common.{◌≡◌, ◌≢◌, ◌<◌, ◌++◌, ◌==◌, ◌∙◌, ℕ, List, All, Contains, length, length-append, not, slice_index, ap, subst, arith}
use Rattle.std.proofs.lemmas.Bool.{ne_eqb}
use Rattle.std.proofs.lemmas.List.{get_or_append_left}
use Rattle.std.proofs.lemmas.List.Elements.{All-contains, All-drop}
use Rattle.std.proofs.Math.Seq.{drop-append_seam}
use Rattle.grid_types.specs.declared.shape.Shape.{Shape}
use Rattle.grid_types.specs.Shapes.{word_pages}
use Rattle.grid_model.specs.Lawful.{Area, IsAreaOf, nowhere, pages_named}
use Rattle.grid_model.specs.Lists.{below}
use Rattle.grid_model.specs.Spellings.{RootFields}
use Rattle.grid_model.specs.Images.{numbers_of}
use Rattle.grid_model.specs.Cells.{cells}
use Rattle.grid_model.proofs.Members.{contains-filter, contains-map, contains-range}
use Rattle.linear_scales.specs.Limited.{scales_of}
use Rattle.linear_scales.specs.Roots.{IsRoot}
use Rattle.linear_scales.specs.declared.root.Root.{Root}
use Rattle.file_state.proofs.Named.{named_pages}
use Rattle.file_state.proofs.Rooted.{counted_cells}

-- a number of a table that a bucket has is among its numbers
pub had_there : (table : List ℕ) (n : ℕ) → n < length table → slice_index table n ≢ nowhere → Contains (numbers_of table) n
had_there table n lt named =
    contains-filter (λ m. not (slice_index table m == nowhere)) (below (length table)) n (contains-range 0 (length table) n (omega arith) (omega (arith, lt))) (ap not (ne_eqb (slice_index table n) nowhere named))

module _ (s : Shape) (r : RootFields) (a : Area) (is : IsAreaOf s r a) where
  pub part_low : (p : ℕ) → p < length a.parts → slice_index a.parts p < s.pages
  part_low p lt = subst (λ q. q < s.pages) (get_or_append_left a.parts (pages_named a.table) 0 p lt) (is.pages p 0 (omega (arith, lt, length-append a.parts (pages_named a.table))))

  pub number_low : (n : ℕ) → n < length a.table → slice_index a.table n ≢ nowhere → slice_index a.table n < s.pages
  number_low n lt named =
      let behind : All (λ p. p < s.pages) (pages_named a.table) = subst (All (λ p. p < s.pages)) (drop-append_seam a.parts (pages_named a.table)) (All-drop (λ p. p < s.pages) (length a.parts) (a.parts ++ pages_named a.table) is.pages) in
      All-contains (λ p. p < s.pages) (pages_named a.table) (slice_index a.table n) behind
      (subst (λ (ps : List ℕ). Contains ps (slice_index a.table n)) (named_pages a.table) (contains-map (slice_index a.table) (numbers_of a.table) n (had_there a.table n lt named)))

-- as many parts are listed as the cells fill
pub parts_listed : {K : ℕ} (s : Shape) (root : Root K) → IsRoot s root → length root.parts.items ≡ word_pages (cells (scales_of root.scales))
parts_listed s root is = is.fields.parts ∙ ap word_pages (counted_cells (scales_of root.scales))
