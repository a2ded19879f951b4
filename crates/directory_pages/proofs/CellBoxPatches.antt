-- The patch of a box of cells, one index after the other.
use Rattle.std.proofs.Common.{◌≡◌, ◌<◌, ◌≤◌, ◌+◌, ◌*◌, ◌^◌, ◌/◌, ◌%◌, ◌≢◌, inl, inr, ℕ, List, length, get_or, slice_index, set, refl, sym, subst, ◌∙◌, arith}
use Rattle.std.proofs.lemmas.Bool.Decides.{eqb_tells}
use Rattle.std.proofs.lemmas.List.{length-set, get_or-set_same, get_or-set_other, same_lists, get_or_default}
use Rattle.page_fields.specs.Fields.{bytes_of, replaced}
use Rattle.page_fields.proofs.BytesOf.{length-bytes_of}
use Rattle.grid_types.specs.declared.cell_box.CellBox.{CellBox}
use Rattle.grid_model.specs.Lists.{product}
use Rattle.grid_model.specs.Cells.{cell_index, InCellBox}
use Rattle.grid_model.specs.ScaleLaws.{IsCell}
use Rattle.grid_model.proofs.Filled.{below-more}
use Rattle.grid_model.proofs.Indices.{cell_index-below}
use Rattle.directory_pages.specs.Spelling.{SpellsPart, bucket_in, IsBeside}
use Rattle.directory_pages.specs.CellBoxes.{cells_on, LiesOnPart, HoldsCell, HasIndex, IsPatched, IsBesideCellBox}
use Rattle.directory_pages.proofs.Patches.{written_there, byte_kept, bucket_kept}

-- the cell at an index lies in the box
pub has_index : {K : ℕ} (ns : List ℕ) (b : CellBox K) (cell : List ℕ) (at : ℕ) → IsCell ns cell → cell_index ns cell ≡ at → InCellBox b cell → HasIndex ns b at
has_index ns b cell at h e i = record { cell = cell; is_cell = h; inside = i; index_is = e }

-- the cell at an index does not
pub no_index : {K : ℕ} (ns : List ℕ) (b : CellBox K) (cell : List ℕ) (at : ℕ) → ((other : List ℕ) → IsCell ns other → cell_index ns other ≡ at → other ≡ cell) → (InCellBox b cell → ⊥) → HasIndex ns b at → ⊥
no_index ns b cell at only out h = out (subst (InCellBox b) (only h.cell h.is_cell h.index_is) h.inside)

-- a cell of the box on a part has one of its indices
pub index_on : (ns cell : List ℕ) (part : ℕ) → IsCell ns cell → cell_index ns cell / 1000 ≡ part → cell_index ns cell % 1000 < cells_on ns part
index_on ns cell part h e = omega (arith, cell_index-below ns cell h, e)

pub index_on_part : {K : ℕ} (ns : List ℕ) (b : CellBox K) (cell : List ℕ) (part : ℕ) → LiesOnPart ns b part cell → HasIndex ns b (1000 * part + cell_index ns cell % 1000)
index_on_part ns b cell part o = has_index ns b cell (1000 * part + cell_index ns cell % 1000) o.is_cell (omega (arith, o.on_part)) o.inside

-- the part of a cell begins below the number of cells
pub part_begins : {K : ℕ} (ns : List ℕ) (b : CellBox K) (part : ℕ) → HoldsCell ns b part → 1000 * part < product ns
part_begins ns b part h = omega (arith, cell_index-below ns h.cell h.lies.is_cell, h.lies.on_part)

-- the cells after the patch of the first n cells of a part
pub record PatchedBelow {K : ℕ} (ns : List ℕ) (b : CellBox K) (part bucket n : ℕ) (cells after : List ℕ) : Type 0 where
  pub count : length after ≡ length cells
  pub inside : (i : ℕ) → i < n → HasIndex ns b (1000 * part + i) → slice_index after i ≡ bucket
  pub outside : (i : ℕ) → i < length cells → (i < n → HasIndex ns b (1000 * part + i) → ⊥) → slice_index after i ≡ slice_index cells i

-- the patch of no cell changes nothing
unpatched : {K : ℕ} (ns : List ℕ) (b : CellBox K) (part x : ℕ) (cells after : List ℕ) → PatchedBelow ns b part x 0 cells after → cells ≡ after
unpatched ns b part x cells after p =
    same_lists cells after (sym p.count) (λ k d lt.
    get_or_default cells k d 0 lt ∙ sym (p.outside k lt (λ no h. absurd (omega (arith, no)))) ∙ get_or_default after k 0 d (omega (arith, lt, p.count)))

-- where the index of cell n has no cell of the box, its patch changes nothing
patched_same : {K : ℕ} (ns : List ℕ) (b : CellBox K) (part x n : ℕ) (cells after : List ℕ) → (HasIndex ns b (1000 * part + n) → ⊥) → PatchedBelow ns b part x (n + 1) cells after → PatchedBelow ns b part x n cells after
patched_same ns b part x n cells after out p = record {
  count = p.count;
  inside = λ i lt. p.inside i (omega (arith, lt));
  outside = λ i lt no. p.outside i lt (below-more (λ j. HasIndex ns b (1000 * part + j) → ⊥) n i no out);
}

-- before the patch of cell n, it was as it had been
patched_before : {K : ℕ} (ns : List ℕ) (b : CellBox K) (part x n : ℕ) (cells after : List ℕ) → n < length cells → PatchedBelow ns b part x (n + 1) cells after → PatchedBelow ns b part x n cells (set after n (slice_index cells n))
patched_before ns b part x n cells after there p =
    let v = slice_index cells n in
    record {
      count = length-set after n v ∙ p.count;
      inside = λ i lt h.
          let other : i ≢ n = omega (arith, lt) in
          get_or-set_other after n i v 0 other ∙ p.inside i (omega (arith, lt)) h;
      outside = λ i lt no. elim (eqb_tells n i) [
        | inl e ↦ subst (λ (j : ℕ). slice_index (set after n v) j ≡ slice_index cells j) e.1 (get_or-set_same after n v 0 (omega (arith, there, p.count)))
        | inr e ↦
            let other : i ≢ n = λ same. e.1 (sym same) in
            get_or-set_other after n i v 0 other ∙ p.outside i lt (λ few. no (omega (arith, few, e.1)))
      ];
    }

-- and with the bucket it is what it is after the patch
set_back : (after : List ℕ) (n v x : ℕ) → n < length after → slice_index after n ≡ x → set (set after n v) n x ≡ after
set_back after n v x lt e =
    let long : length (set (set after n v) n x) ≡ length after = length-set (set after n v) n x ∙ length-set after n v in
    same_lists (set (set after n v) n x) after long (λ k d h. elim (eqb_tells n k) [
      | inl p ↦
          let there : get_or (set (set after n v) n x) n d ≡ x = get_or-set_same (set after n v) n x d (omega (arith, lt, length-set after n v)) in
          subst (λ (j : ℕ). get_or (set (set after n v) n x) j d ≡ get_or after j d) p.1 (there ∙ sym e ∙ get_or_default after n 0 d lt)
      | inr p ↦
          let other : k ≢ n = λ same. p.1 (sym same) in
          get_or-set_other (set after n v) n k x d other ∙ get_or-set_other after n k v d other
    ])

-- a part's page after the patch of its first n cells
pub record PagePatched {K : ℕ} (ns : List ℕ) (b : CellBox K) (part bucket n : ℕ) (old new : List ℕ) : Type 0 where
  pub long : length new ≡ 4096
  pub named : (i : ℕ) → i < n → HasIndex ns b (1000 * part + i) → bucket_in i new ≡ bucket
  pub others : (k : ℕ) → ((i : ℕ) → i < n → HasIndex ns b (1000 * part + i) → IsBeside i k) → slice_index new k ≡ slice_index old k
  pub cells : (cells after : List ℕ) → SpellsPart part old cells → length cells ≡ cells_on ns part → PatchedBelow ns b part bucket n cells after → SpellsPart part new after

pub page_unpatched : {K : ℕ} (ns : List ℕ) (b : CellBox K) (part x : ℕ) (page : List ℕ) → length page ≡ 4096 → PagePatched ns b part x 0 page page
page_unpatched ns b part x page long = record {
  long = long;
  named = λ i no h. absurd (omega (arith, no));
  others = λ k out. refl;
  cells = λ cells after s e p. subst (SpellsPart part page) (unpatched ns b part x cells after p) s;
}

-- an index with no cell of the box
pub index_passed : {K : ℕ} (ns : List ℕ) (b : CellBox K) (part x n : ℕ) (old new : List ℕ) → (HasIndex ns b (1000 * part + n) → ⊥) → PagePatched ns b part x n old new → PagePatched ns b part x (n + 1) old new
index_passed ns b part x n old new out p = record {
  long = p.long;
  named = λ i. below-more (λ j. HasIndex ns b (1000 * part + j) → bucket_in j new ≡ x) n i (p.named i) (λ h. absurd (out h));
  others = λ k beside. p.others k (λ i lt. beside i (omega (arith, lt)));
  cells = λ cells after s e q. p.cells cells after s e (patched_same ns b part x n cells after out q);
}

-- an index with a cell of the box
pub index_patched : {K : ℕ} (ns : List ℕ) (b : CellBox K) (part x n : ℕ) (first old new : List ℕ) → HasIndex ns b (1000 * part + n) → n < cells_on ns part → x < 2 ^ 32 → new ≡ replaced (96 + 4 * n) (bytes_of 4 x) old → length new ≡ 4096
    → ((cells : List ℕ) → SpellsPart part old cells → n < length cells → SpellsPart part new (set cells n x)) → PagePatched ns b part x n first old → PagePatched ns b part x (n + 1) first new
index_patched ns b part x n first old new here lt fit e long spelled p =
    let room : 96 + 4 * n + 4 ≤ length old = omega (arith, lt, p.long) in
    record {
      long = long;
      named = λ i. below-more (λ j. HasIndex ns b (1000 * part + j) → bucket_in j new ≡ x) n i
          (λ low h.
          let other : i ≢ n = omega (arith, low) in
          bucket_kept i n x old new e room other ∙ p.named i low h)
          (λ h. written_there (96 + 4 * n) x old new e (omega (arith, room)) fit);
      others = λ k beside. byte_kept (96 + 4 * n) 4 k (bytes_of 4 x) old new e (length-bytes_of 4 x) room (beside n (omega arith) here) ∙ p.others k (λ i few. beside i (omega (arith, few)));
      cells = λ cells after s count q.
          let there : n < length cells = omega (arith, lt, count) in
          let v = slice_index cells n in
          let before = set after n v in
          let was : SpellsPart part old before = p.cells cells before s count (patched_before ns b part x n cells after there q) in
          let is : SpellsPart part new (set before n x) = spelled before was (omega (arith, there, length-set after n v, q.count)) in
          subst (SpellsPart part new) (set_back after n v x (omega (arith, there, q.count)) (q.inside n (omega arith) here)) is;
    }

-- what each cell of the part has given
pub all_named : {K : ℕ} (ns : List ℕ) (b : CellBox K) (part x n : ℕ) (old new : List ℕ) → cells_on ns part ≤ n → PagePatched ns b part x n old new
    → (cell : List ℕ) → LiesOnPart ns b part cell → bucket_in (cell_index ns cell % 1000) new ≡ x
all_named ns b part x n old new le p cell o = p.named (cell_index ns cell % 1000) (omega (arith, le, index_on ns cell part o.is_cell o.on_part)) (index_on_part ns b cell part o)

pub all_others : {K : ℕ} (ns : List ℕ) (b : CellBox K) (part x n : ℕ) (old new : List ℕ) → n ≤ cells_on ns part → PagePatched ns b part x n old new
    → (k : ℕ) → IsBesideCellBox ns b part k → slice_index new k ≡ slice_index old k
all_others ns b part x n old new le p k out =
    p.others k (λ i lt h.
    let index : cell_index ns h.cell % 1000 ≡ i = omega (arith, h.index_is, lt, le) in
    subst (λ (j : ℕ). IsBeside j k) index (out h.cell (record { is_cell = h.is_cell; inside = h.inside; on_part = omega (arith, h.index_is, lt, le) })))

pub all_cells : {K : ℕ} (ns : List ℕ) (b : CellBox K) (part x n : ℕ) (old new : List ℕ) → n ≡ cells_on ns part → PagePatched ns b part x n old new
    → (before after : List ℕ) → SpellsPart part old before → length before ≡ cells_on ns part → IsPatched ns b part x before after → SpellsPart part new after
all_cells ns b part x n old new end p before after s count q =
    p.cells before after s count (record {
      count = q.count;
      inside = λ i lt. q.inside i (omega (arith, lt, end, count));
      outside = λ i lt no. q.outside i lt (no (omega (arith, lt, end, count)));
    })
