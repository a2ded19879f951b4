-- The cells of a part after a change, as the patch of those that were read or gathered.
use Rattle.std.proofs.Common.{◌≡◌, ◌<◌, ◌≤◌, ◌+◌, ◌*◌, ◌/◌, ◌%◌, ◌^◌, ◌⊎◌, inl, inr, ℕ, List, [], map, length, slice_index, slice_index_or, Option, Some, sym, ap, ◌∙◌, subst, arith}
use Rattle.std.proofs.lemmas.Bool.{cases_lt}
use Rattle.std.proofs.lemmas.Option.{slice_get-get_or}
use Rattle.grid_types.specs.declared.cell_box.CellBox.{CellBox}
use Rattle.grid_types.specs.declared.owner.Owner.{Owner}
use Rattle.grid_types.specs.declared.owner.Owner.TheVariants.{Part}
use Rattle.grid_model.specs.Lists.{below, choices, product}
use Rattle.grid_model.specs.Cells.{cell_index}
use Rattle.grid_model.specs.ScaleLaws.{IsCell}
use Rattle.grid_model.proofs.Indices.{cells-counted, index-there}
use Rattle.directory_pages.specs.Spelling.{bucket_in}
use Rattle.directory_pages.specs.CellBoxes.{cells_on, IsPatched}
use Rattle.directory_changes.specs.Changes.{grown}
use Rattle.directory_changes.specs.declared.change.DirectoryChange.TheVariants.{Patch, Grow}
use Rattle.shadow_directory.specs.Directories.{part_of, SpellDirectory, IsPartAfter}
use Rattle.shadow_directory.specs.Images.{AreImages, IsNextNeeded}
use Rattle.shadow_directory.proofs.Spelled.{length-part, part-cell, told-bucket}

-- each index below the number of cells has its cell
pub cell-at : (ns : List ℕ) (i : ℕ) → i < product ns → (cell : List ℕ) × IsCell ns cell × (cell_index ns cell ≡ i)
cell-at ns i p =
    let all = choices (map below ns) in
    let cell = slice_index_or all i [] in
    let found = index-there ns i cell (slice_get-get_or all i [] (omega (arith, p, cells-counted ns))) in
    (cell, found.0, found.1)

-- after a patch
pub patched-from : {K : ℕ} (ns D after : List ℕ) (b : CellBox K) (part x : ℕ) → length D ≡ product ns → IsPartAfter ns (Patch b x) D part after → IsPatched ns b part x (part_of D part) after
patched-from ns D after b part x long p = record {
  count = p.count ∙ sym (length-part ns D part long);
  inside = λ i lt h. p.named i h.cell (short i lt) h.is_cell h.index_is h.inside;
  outside = λ i lt no.
      let low : i < cells_on ns part = omega (arith, lt, length-part ns D part long) in
      let there = cell-at ns (1000 * part + i) (omega (arith, low)) in
      p.others i there.0 (short i lt) there.1 there.2 (λ inside. no (record { cell = there.0; is_cell = there.1; inside = inside; index_is = there.2 }))
      ∙ ap (slice_index D) there.2
      ∙ sym (part-cell D part i (omega (arith, low)));
}
  where
    short : (i : ℕ) → i < length (part_of D part) → i < length after
    short i lt = omega (arith, lt, p.count, length-part ns D part long)

-- after a growth
pub grown-from : {K : ℕ} (ns new D images before after : List ℕ) (b : CellBox K) (a i part x : ℕ) → new ≡ grown ns a → length before ≡ cells_on new part → AreImages ns new a i part (cells_on new part) images
    → ((k : ℕ) → k < cells_on new part → slice_index before k ≡ slice_index D (slice_index images k)) → IsPartAfter ns (Grow a i b x) D part after → IsPatched new b part x before after
grown-from {K} ns new D images before after b a i part x e long m given p = record {
  count = many ∙ sym long;
  inside = λ k lt h. p.named k h.cell (omega (arith, lt, many, long)) (here h.cell h.is_cell) (at h.cell (1000 * part + k) h.index_is) h.inside;
  outside = λ k lt no.
      let low : k < cells_on new part = omega (arith, lt, long) in
      let there = cell-at new (1000 * part + k) (omega (arith, low)) in
      p.others k there.0 (omega (arith, lt, many, long)) (here there.0 there.1) (at there.0 (1000 * part + k) there.2) (λ inside. no (record { cell = there.0; is_cell = there.1; inside = inside; index_is = there.2 }))
      ∙ ap (slice_index D) (sym (m.each k there.0 low there.1 there.2))
      ∙ sym (given k low);
}
  where
    many : length after ≡ cells_on new part
    many = p.count ∙ ap (λ ns. cells_on ns part) (sym e)

    here : (cell : List ℕ) → IsCell new cell → IsCell (grown ns a) cell
    here cell c = subst (λ ns. IsCell ns cell) e c

    at : (cell : List ℕ) (k : ℕ) → cell_index new cell ≡ k → cell_index (grown ns a) cell ≡ k
    at cell k q = ap (λ ns. cell_index ns cell) (sym e) ∙ q

-- the buckets of the first n indices that lie below a part are those of the directory
abbrev pub AreGathered : List ℕ → List ℕ → ℕ → ℕ → List ℕ → Type 0
AreGathered D images n from buckets = (k : ℕ) → k < n → slice_index images k / 1000 < from → slice_index buckets k ≡ slice_index D (slice_index images k)

-- one part more
pub gathered-more : (ns D : List ℕ) (f : Owner → Option (List ℕ)) (images : List ℕ) (n from part : ℕ) (page old new : List ℕ) → SpellDirectory ns D f → ((k : ℕ) → k < n → slice_index images k < product ns) → IsNextNeeded images n from part → part < 2 ^ 32 → f (Part part) ≡ Some page
    → ((k : ℕ) → k < n → slice_index images k / 1000 ≡ part → slice_index new k ≡ bucket_in (slice_index images k % 1000) page) → ((k : ℕ) → (slice_index images k / 1000 ≡ part → ⊥) → slice_index new k ≡ slice_index old k)
    → AreGathered D images n from old → AreGathered D images n (part + 1) new
gathered-more ns D f images n from part page old new s fit next few told taken others was k lt low = by (cases_lt (slice_index images k / 1000) part)
  where
    by : (slice_index images k / 1000 < part) ⊎ (part ≤ slice_index images k / 1000) → slice_index new k ≡ slice_index D (slice_index images k)
    by (inr high) =
        let on : slice_index images k / 1000 ≡ part = omega (arith, low, high) in
        taken k lt on ∙ told-bucket ns D f part (slice_index images k) page s (fit k lt) on few told
    by (inl below) = others k (λ e. absurd (omega (arith, e, below))) ∙ was k lt (earlier (cases_lt (slice_index images k / 1000) from))
      where
        earlier : (slice_index images k / 1000 < from) ⊎ (from ≤ slice_index images k / 1000) → slice_index images k / 1000 < from
        earlier (inl p) = p
        earlier (inr p) = absurd (omega (arith, below, next.least k lt p))
