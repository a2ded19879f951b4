-- What is known where a walk comes to a cell.
use Rattle.std.proofs.Common.{◌≡◌, ◌<◌, ◌≤◌, ◌/◌, ◌%◌, ◌*◌, ℕ, Bool, true, false, List, All, Err, IsTrue, refl, sym, ap, ◌∙◌, subst, arith, true≢false}
use Rattle.grid_types.specs.declared.cell_box.CellBox.{CellBox}
use Rattle.grid_types.specs.declared.refusal.Refusal.{Refusal}
use Rattle.grid_types.specs.declared.refusal.Refusal.TheVariants.{ReadFault, Damaged}
use Rattle.grid_model.specs.Lists.{is_among}
use Rattle.grid_model.specs.Cells.{dims, cells, cell_index, part_of}
use Rattle.grid_model.specs.ScaleLaws.{IsCell}
use Rattle.grid_model.specs.Spellings.{BucketOf}
use Rattle.grid_model.specs.Expected.{SoughtCell}
use Rattle.grid_model.specs.Layouts.{Layout}
use Rattle.grid_model.specs.Tables.{Table}
use Rattle.grid_model.proofs.Members.{contains-among}
use Rattle.query_paths.specs.declared.room.Room.{Room}
use Rattle.query_paths.specs.Pinned.{Place, IsPinnedTo}
use Rattle.query_paths.specs.Paths.{index_in_part, IsUnexpected, AsBucket}
use Rattle.query_paths.specs.Readings.{IsCellBucketRead, IsDamagedForCell, NamesNothing, Unexpected}
use Rattle.query_paths.specs.Walks.{IsHeldGood, IsHeldBy, Kept, Fresh, ReadsOnce, HasCellCause, bucket_numbers}
use Rattle.query_paths.proofs.Distinct.{among-numbers}
use Rattle.query_paths.proofs.Judged.{IsNumberAt, part-inside, nameless}
use Rattle.query_paths.proofs.Naming.{place_over, pinned-place, as-expected}
use Rattle.query_paths.proofs.Refusing.{IsPartOf, part-of-key, part-names, at-cell, rose-later}
use Rattle.query_paths.proofs.Visits.{held-good}

-- a number among some has what each of them has
pub each-among : (P : ℕ → Type 0) (ns : List ℕ) (n : ℕ) → All P ns → IsTrue (is_among ns n) → P n
each-among P ns n h g = let x = contains-among ns n g in subst P x.2 (h x.0 n x.1)

module _ (p : Place) (cell : List ℕ) (i : ℕ) (r : ℕ × ℕ) (c : IsCell (dims p.scales) cell) (is : i ≡ cell_index (dims p.scales) cell) (parted : r ≡ (i / 1000, i % 1000)) where
  -- the part and the place in it
  pub cell-at : (r.0 ≡ part_of p.scales cell) × (r.1 ≡ index_in_part p.scales cell)
  cell-at = at-cell p.scales (dims p.scales) cell cell i r refl refl is parted

  pub part-there : 1000 * r.0 < cells p.scales
  part-there = let h = part-inside p.scales cell c in omega (arith, h, cell-at.0)

  -- the part that is held now, as it was read
  pub held-part : {K : ℕ} (low : i < 1000000) (old new : Room K) (before now at number : ℕ) (bytes : List ℕ) → IsHeldGood p old → IsHeldBy p r.0 old new before now at → bytes ≡ new.part.value → IsNumberAt r.1 bytes number → IsPartOf p cell r.0 new.part.value at number
  held-part {K} low old new before now at number bytes good held same read =
      part-of-key p cell r.0 r.1 new.part.value at number cell-at (omega (arith, low, ap (λ (x : ℕ × ℕ). x.0) parted)) c (held-good p r.0 old new before now at good held) (subst (λ (b : List ℕ). IsNumberAt r.1 b number) same read)

-- holding a part leaves the marks
pub marks-kept : {K : ℕ} (p : Place) (part : ℕ) (old new : Room K) (before now at : ℕ) → IsHeldBy p part old new before now at → new.marks ≡ old.marks
marks-kept {K} p part old new before now at (Kept s) = ap (λ (r : Room K). r.marks) s.same
marks-kept p part old new before now at (Fresh f) = f.marks

module _ (K : ℕ) (p : Place) (cell : List ℕ) (part : ℕ) (bytes : List ℕ) (directory number : ℕ) (h : IsPartOf p cell part bytes directory number) where
  -- a number that no bucket has makes the directory's page another one than is expected
  pub names-none : (other : List ℕ) → (IsTrue (is_among p.numbers number) → ⊥) → IsUnexpected K p cell (SoughtCell p.scales cell) bytes other directory
  names-none other none = nameless p cell part bytes directory h.part_is h.low h.good h.is_cell number h.read K (SoughtCell p.scales cell) other none

  -- a bucket that was refused is the cause
  pub cell-cause : {T : Type 0} (lacks : Bool) (room : Room K) (before mid now : ℕ) (was : List ℕ) (e : Refusal) → before ≤ mid → mid ≤ now → room.part.value ≡ bytes → IsCellBucketRead K p cell mid now number directory was room.bucket.value (Err e)
      → HasCellCause {K = K} {T = T} lacks p cell room before now (Err e)
  cell-cause lacks room before mid now was ReadFault l m same d = record { later = omega (arith, l, m); refused = rose-later before mid now l d }
  cell-cause lacks room before mid now was (Damaged at) l m same d = record { later = omega (arith, l, m); refused = by d }
    where
      by : IsDamagedForCell K p cell number directory was room.bucket.value at → IsUnexpected K p cell (SoughtCell p.scales cell) room.part.value room.bucket.value at
      by (NamesNothing n) =
          subst (λ (f : ℕ). IsUnexpected K p cell (SoughtCell p.scales cell) room.part.value room.bucket.value f) (sym n.directory_is)
          (subst (λ (b : List ℕ). IsUnexpected K p cell (SoughtCell p.scales cell) b room.bucket.value directory) (sym same) (names-none room.bucket.value n.not_named))
      by (Unexpected u) = AsBucket number (part-names p cell part bytes directory number h u.named) u.page u.not_expected
  cell-cause lacks room before mid now was _ l m same d = absurd d

-- the number of a bucket that was read is one of the place
pub read-among : {K : ℕ} (p : Place) (b : CellBox K) (parts : List ℕ) (read : List (BucketOf K)) (n : ℕ) → ReadsOnce p b parts read → IsTrue (is_among (bucket_numbers read) n) → IsTrue (is_among p.numbers n)
read-among {K} p b parts read n h g =
    let x = among-numbers (λ (y : BucketOf K). y.number) read n g in
    let names = (h.each x.0 x.1).names in
    subst (λ (m : ℕ). IsTrue (is_among p.numbers m)) (sym names.named ∙ x.2) names.expected.part.named

module _ {K : ℕ} (p : Place) (L : Layout K) (t : Table) (pin : IsPinnedTo p L t) (cell : List ℕ) (c : IsCell (dims p.scales) cell) where
  expected-over : (part_bytes bucket_bytes : List ℕ) (at : ℕ) → IsCell (dims L.scales) cell → IsUnexpected K (place_over p.shape L t p.file_page) cell (SoughtCell L.scales cell) part_bytes bucket_bytes at → ⊥
  expected-over part_bytes bucket_bytes at d u = as-expected p.shape L t p.file_page pin.stands cell d (SoughtCell L.scales cell) part_bytes bucket_bytes at (λ k s. s) u

  -- where the place has the pages of a layout and a table, each page is the one expected for a cell
  pub cell-expected : (part_bytes bucket_bytes : List ℕ) (at : ℕ) → IsUnexpected K p cell (SoughtCell p.scales cell) part_bytes bucket_bytes at → ⊥
  cell-expected part_bytes bucket_bytes at u =
      expected-over part_bytes bucket_bytes at (subst (λ (s : List (List ℕ)). IsCell (dims s) cell) pin.scales_are c)
      (subst (λ (q : Place). IsUnexpected K q cell (SoughtCell q.scales cell) part_bytes bucket_bytes at) (pinned-place p L t pin) u)

  -- so each number that the directory has is one of the place
  pub pinned-among : (part : ℕ) (bytes : List ℕ) (at number : ℕ) → IsPartOf p cell part bytes at number → IsTrue (is_among p.numbers number)
  pinned-among part bytes at number h = by (is_among p.numbers number) refl
    where
      by : (t : Bool) → is_among p.numbers number ≡ t → t ≡ true
      by true e = refl
      by false e = absurd (cell-expected bytes bytes at (names-none K p cell part bytes at number h bytes (λ g. true≢false (sym g ∙ e))))
