-- What is judged by what stands in memory is judged by the pages that it was read of.
use Rattle.std.proofs.Common.{◌≡◌, ◌≢◌, ◌<◌, ◌≤◌, ◌+◌, ◌*◌, ◌/◌, ◌%◌, ◌↔◌, ◌∙◌, ℕ, List, Option, Some, None, length, slice_index, sym, subst, arith}
use Rattle.grid_types.specs.declared.shape.Shape.{Shape}
use Rattle.grid_types.specs.declared.sizes.TheConstants.{WORDS_ON_PAGE}
use Rattle.grid_model.specs.Lawful.{nowhere}
use Rattle.grid_model.specs.Lists.{product}
use Rattle.grid_model.specs.Images.{entry_page}
use Rattle.directory_pages.specs.CellBoxes.{cells_on}
use Rattle.directory_pages.specs.Spelling.{bucket_in}
use Rattle.grid_check.specs.Rules.{JudgesListed, JudgesNumbers, IsNumbered, HasCells, number_named}
use Rattle.grid_check.specs.Reads.{AreNamed, AreNumbered}

-- a rule of parts that says the same as another one is judged the same
pub as_listed : (s : Shape) (listed : List ℕ) (P Q : ℕ → Type 0) → ((p : ℕ) → P p ↔ Q p) → (found : Option ℕ) → JudgesListed s listed P found → JudgesListed s listed Q found
as_listed s listed P Q same None kept = λ p lt. (same p).0 (kept p lt)
as_listed s listed P Q same (Some page) first = record {
  part = first.part;
  inside = first.inside;
  page_is = first.page_is;
  bad = λ q. first.bad ((same first.part).1 q);
  before = λ p lt. (same p).0 (first.before p lt);
}

-- and so is a rule of bucket numbers that says the same of each number that a bucket has
pub as_numbers : (s : Shape) (table : List ℕ) (P Q : ℕ → Type 0) → ((n : ℕ) → n < length table → slice_index table n ≢ nowhere → P n ↔ Q n) → (found : Option ℕ) → JudgesNumbers s table P found → JudgesNumbers s table Q found
as_numbers s table P Q same None kept = λ n lt named. (same n lt named).0 (kept n lt named)
as_numbers s table P Q same (Some page) first = record {
  number = first.number;
  inside = first.inside;
  named = first.named;
  page_is = first.page_is;
  bad = λ q. first.bad ((same first.number first.inside first.named).1 q);
  before = λ n lt named. (same n (omega (arith, lt, first.inside)) named).0 (first.before n lt named);
}

at_part : (p i : ℕ) → i < 1000 → (1000 * p + i) / 1000 ≡ p
at_part p i lt = omega (arith, lt)

in_part : (p i : ℕ) → i < 1000 → (1000 * p + i) % 1000 ≡ i
in_part p i lt = omega (arith, lt)

-- the number of a cell is on the page of its part
pub named_on_part : (s : Shape) (image listed : List ℕ) (p i : ℕ) → i < WORDS_ON_PAGE → number_named s image listed (WORDS_ON_PAGE * p + i) ≡ bucket_in i (entry_page s image listed p)
named_on_part s image listed p i lt = λ j. bucket_in (in_part p i lt j) (entry_page s image listed (at_part p i lt j))

-- the numbers that were read name buckets where the cells on the pages do
pub numbered_cells : (s : Shape) (image ns listed table names : List ℕ) → length names ≡ product ns → AreNamed s image listed names (product ns) → (p : ℕ) → AreNumbered table names p ↔ HasCells s image ns listed table p
numbered_cells s image ns listed table names long named p = (
  (λ each. record { each = λ i lt. subst (IsNumbered table) (here i lt) (each i (omega (arith, lt, long))) }),
  (λ has i lt. let there : i < cells_on ns p = omega (arith, lt, long) in subst (IsNumbered table) (sym (here i there)) (has.each i there)),
)
  where
    here : (i : ℕ) → i < cells_on ns p → slice_index names (WORDS_ON_PAGE * p + i) ≡ bucket_in i (entry_page s image listed p)
    here i lt = named (WORDS_ON_PAGE * p + i) (omega (arith, lt)) ∙ named_on_part s image listed p i (omega (arith, lt))

-- where the cells of each part name numbers that buckets have, each cell does
pub all_numbered : (table names : List ℕ) (n : ℕ) → ((p : ℕ) → p < n → AreNumbered table names p) → length names ≤ 1000 * n → (at : ℕ) → at < length names → IsNumbered table (slice_index names at)
all_numbered table names n each few at lt =
    subst (λ i. IsNumbered table (slice_index names i)) (whole at) (each (at / 1000) (omega (arith, lt, few)) (at % 1000) (omega (arith, lt)))
  where
    whole : (at : ℕ) → 1000 * (at / 1000) + at % 1000 ≡ at
    whole at = omega arith
