-- What a part's page says where it is told.
use Rattle.std.proofs.Common.{◌≡◌, ◌<◌, ◌≤◌, ◌+◌, ◌-◌, ◌*◌, ◌/◌, ◌%◌, ◌^◌, ◌⊎◌, inl, inr, ℕ, List, min, length, drop, slice_index, Option, Some, sym, ap, ◌∙◌, arith}
use Rattle.std.proofs.lemmas.Bool.{cases_lt}
use Rattle.std.proofs.lemmas.List.{length-take, length-drop, get_or-take, get_or-drop, get_or_past}
use Rattle.grid_types.specs.declared.owner.Owner.{Owner}
use Rattle.grid_types.specs.declared.owner.Owner.TheVariants.{Part}
use Rattle.grid_types.specs.declared.sizes.TheConstants.{WORDS_ON_PAGE}
use Rattle.grid_model.specs.Lists.{product}
use Rattle.grid_model.specs.Spellings.{directory_spelling}
use Rattle.grid_model.proofs.Boxes.{one-value}
use Rattle.directory_pages.specs.Spelling.{SpellsPart, IsDirectoryPage, bucket_in}
use Rattle.directory_pages.specs.CellBoxes.{cells_on}
use Rattle.directory_pages.proofs.Standing.{part_there}
use Rattle.shadow_directory.specs.Directories.{part_of, SpellDirectory}

-- a part has as many cells as are left for it
pub length-part : (ns D : List ℕ) (p : ℕ) → length D ≡ product ns → length (part_of D p) ≡ cells_on ns p
length-part ns D p e = length-take WORDS_ON_PAGE (drop (WORDS_ON_PAGE * p) D) ∙ ap (min WORDS_ON_PAGE) (length-drop (WORDS_ON_PAGE * p) D ∙ ap (λ n. n - WORDS_ON_PAGE * p) e)

-- a cell of a part is one of the directory
pub part-cell : (D : List ℕ) (p j : ℕ) → j < 1000 → slice_index (part_of D p) j ≡ slice_index D (1000 * p + j)
part-cell D p j lt = get_or-take WORDS_ON_PAGE (drop (WORDS_ON_PAGE * p) D) j 0 lt ∙ get_or-drop (WORDS_ON_PAGE * p) D j 0

part-fits : (D : List ℕ) (p : ℕ) → ((i : ℕ) → slice_index D i < 2 ^ 32) → (j : ℕ) → slice_index (part_of D p) j < 2 ^ 32
part-fits D p fits j = by (cases_lt j 1000)
  where
    by : (j < 1000) ⊎ (1000 ≤ j) → slice_index (part_of D p) j < 2 ^ 32
    by (inl lt) = omega (arith, part-cell D p j lt, fits (1000 * p + j))
    by (inr ge) = omega (arith, get_or_past (part_of D p) j 0 (omega (arith, ge, length-take WORDS_ON_PAGE (drop (WORDS_ON_PAGE * p) D))))

-- the page that is told of a part spells its cells
pub told-spells : (ns D : List ℕ) (f : Owner → Option (List ℕ)) (p : ℕ) (page : List ℕ) → SpellDirectory ns D f → 1000 * p < product ns → p < 2 ^ 32 → f (Part p) ≡ Some page → SpellsPart p page (part_of D p)
told-spells ns D f p page s inside fit e = record {
  part_in_range = fit;
  in_range = part-fits D p s.in_range;
  few = omega (arith, length-take WORDS_ON_PAGE (drop (WORDS_ON_PAGE * p) D));
  bytes = one-value page (directory_spelling p (part_of D p)) (sym e ∙ s.each p (omega (arith, inside)));
}

-- so it is a directory page
pub told-page : (ns D : List ℕ) (f : Owner → Option (List ℕ)) (p : ℕ) (page : List ℕ) → SpellDirectory ns D f → 1000 * p < product ns → p < 2 ^ 32 → f (Part p) ≡ Some page → IsDirectoryPage p (cells_on ns p) page
told-page ns D f p page s inside fit e = record { cells = part_of D p; count_is = length-part ns D p s.count; spelled = told-spells ns D f p page s inside fit e }

-- and the number that stands in it for a cell is the cell's bucket
pub told-bucket : (ns D : List ℕ) (f : Owner → Option (List ℕ)) (p x : ℕ) (page : List ℕ) → SpellDirectory ns D f → x < product ns → x / 1000 ≡ p → p < 2 ^ 32 → f (Part p) ≡ Some page → bucket_in (x % 1000) page ≡ slice_index D x
told-bucket ns D f p x page s inside on fit e =
    let spelled = told-spells ns D f p page s (omega (arith, inside, on)) fit e in
    let short : x % 1000 < 1000 = omega arith in
    let low : x % 1000 < length (part_of D p) = omega (arith, length-part ns D p s.count, inside, on) in
    sym ((part_there p page (part_of D p) spelled).each (x % 1000) low) ∙ part-cell D p (x % 1000) short ∙ ap (slice_index D) (omega (arith, on))
