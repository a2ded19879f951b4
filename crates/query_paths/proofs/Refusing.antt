-- Why a get is refused.
use Rattle.std.proofs.Common.{◌≡◌, ◌<◌, ◌≤◌, ◌^◌, ◌/◌, ◌%◌, ℕ, List, Result, Ok, Err, IfErr, IsTrue, refl, sym, ap, ◌∙◌, subst, arith}
use Rattle.grid_types.specs.declared.refusal.Refusal.{Refusal}
use Rattle.grid_types.specs.declared.refusal.Refusal.TheVariants.{ReadFault, Damaged}
use Rattle.grid_types.specs.Keys.{IsKey}
use Rattle.grid_model.specs.Lists.{is_among}
use Rattle.grid_model.specs.Cells.{dims, cell_of, cell_index, part_of}
use Rattle.grid_model.specs.ScaleLaws.{IsCell}
use Rattle.grid_model.specs.Expected.{SoughtKey}
use Rattle.grid_model.specs.Layouts.{Layout}
use Rattle.grid_model.specs.Tables.{Table}
use Rattle.disk_trait.specs.Causes.{Rose}
use Rattle.query_paths.specs.Pinned.{Place, IsPinnedTo}
use Rattle.query_paths.specs.Paths.{index_in_part, IsUnexpected, IsGetRefusal, HasGetCause, NamesBucket}
use Rattle.query_paths.specs.Readings.{IsGoodPart, IsPartRead, IsBucketRead, IsDamagedBucket, Nameless, Unspelled}
use Rattle.query_paths.proofs.Judged.{IsNumberAt, bad-part, names-bucket, nameless, bad-bucket}
use Rattle.query_paths.proofs.Answered.{get-expected}

-- a count that rose later rose
pub rose-later : (before mid now : ℕ) → before ≤ mid → Rose mid now → Rose before now
rose-later before mid now l r = omega (arith, l, r)

-- a part was good, and has this number at a cell
pub record IsPartOf (p : Place) (cell : List ℕ) (part : ℕ) (bytes : List ℕ) (at number : ℕ) : Type 0 where
  pub part_is : part ≡ part_of p.scales cell
  pub low : part < 2 ^ 32
  pub is_cell : IsCell (dims p.scales) cell
  pub good : IsGoodPart p part bytes at
  pub read : IsNumberAt (index_in_part p.scales cell) bytes number

-- such a part names each number of the place
pub part-names : (p : Place) (cell : List ℕ) (part : ℕ) (bytes : List ℕ) (at number : ℕ) → IsPartOf p cell part bytes at number → IsTrue (is_among p.numbers number) → NamesBucket p cell number
part-names p cell part bytes at number h among = names-bucket p cell part bytes at h.part_is h.low h.good h.is_cell number h.read among

module _ {T : Type 0} (K : ℕ) (p : Place) (before now : ℕ) (key : List ℕ) where
  -- a part that was refused is the cause
  pub part-cause : (part : ℕ) (bytes : List ℕ) (e : Refusal) → part ≡ part_of p.scales (cell_of p.scales key) → part < 2 ^ 32 → before ≤ now → IsPartRead p before now part bytes (Err e) → HasGetCause {T = T} K p before now key bytes (Err e)
  part-cause part bytes ReadFault is low later h = record { later = later; refused = h }
  part-cause part bytes (Damaged at) is low later h = record { later = later; refused = bad-part p (cell_of p.scales key) part bytes at is low K (SoughtKey key) bytes h }
  part-cause part bytes _ is low later h = absurd h

  -- and so is a bucket that was refused
  pub bucket-cause : (mid part : ℕ) (part_bytes : List ℕ) (directory number : ℕ) (bytes : List ℕ) (e : Refusal) → before ≤ mid → mid ≤ now → IsPartOf p (cell_of p.scales key) part part_bytes directory number
      → IsBucketRead K p mid now number directory part_bytes bytes (Err e) → HasGetCause {T = T} K p before now key bytes (Err e)
  bucket-cause mid part part_bytes directory number bytes ReadFault l m part_of_key h = record { later = omega (arith, l, m); refused = rose-later before mid now l h }
  bucket-cause mid part part_bytes directory number bytes (Damaged at) l m part_of_key h = record { later = omega (arith, l, m); refused = by h }
    where
      by : IsDamagedBucket K p number directory part_bytes bytes at → IsUnexpected K p (cell_of p.scales key) (SoughtKey key) bytes bytes at
      by (Nameless n) =
          subst (λ (f : ℕ). IsUnexpected K p (cell_of p.scales key) (SoughtKey key) bytes bytes f) (sym n.directory_is)
          (subst (λ (b : List ℕ). IsUnexpected K p (cell_of p.scales key) (SoughtKey key) b bytes directory) (sym n.same_bytes)
          (nameless p (cell_of p.scales key) part part_bytes directory part_of_key.part_is part_of_key.low part_of_key.good part_of_key.is_cell number part_of_key.read K (SoughtKey key) bytes n.not_named))
      by (Unspelled b) = bad-bucket p number (SoughtKey key) bytes at (cell_of p.scales key) bytes (part-names p (cell_of p.scales key) part part_bytes directory number part_of_key b.named) b
  bucket-cause mid part part_bytes directory number bytes _ l m part_of_key h = absurd h

  -- where the place has the pages of a layout and a table, only a failed reading is
  pub honest-get : {L : Layout K} {t : Table} (bytes : List ℕ) (result : Result T Refusal) → IsKey K key → HasGetCause K p before now key bytes result → IsPinnedTo p L t → IfErr result (λ e. e ≡ ReadFault)
  honest-get bytes (Ok x) is_key h pin = tt
  honest-get {L} {t} bytes (Err e) is_key h pin = by e h.refused
    where
      by : (e : Refusal) → IsGetRefusal K p before now key bytes e → e ≡ ReadFault
      by ReadFault r = refl
      by (Damaged at) r = absurd (get-expected p L t pin key is_key bytes at r)
      by _ r = absurd r

-- the part and the place in it of a cell with this index
pub at-cell : (scales : List (List ℕ)) (ns cell is : List ℕ) (index : ℕ) (r : ℕ × ℕ) → ns ≡ dims scales → is ≡ cell → index ≡ cell_index ns is → r ≡ (index / 1000, index % 1000) → (r.0 ≡ part_of scales cell) × (r.1 ≡ index_in_part scales cell)
at-cell scales ns cell is index r d e f h =
    let whole : index ≡ cell_index (dims scales) cell = f ∙ (λ i. cell_index (d i) (e i)) in
    (ap (λ (x : ℕ × ℕ). x.0) h ∙ ap (λ n. n / 1000) whole, ap (λ (x : ℕ × ℕ). x.1) h ∙ ap (λ n. n % 1000) whole)

-- the part that has a cell, as it was read
pub part-of-key : (p : Place) (cell : List ℕ) (part index : ℕ) (bytes : List ℕ) (at number : ℕ) → (part ≡ part_of p.scales cell) × (index ≡ index_in_part p.scales cell) → part < 2 ^ 32 → IsCell (dims p.scales) cell → IsGoodPart p part bytes at → IsNumberAt index bytes number
    → IsPartOf p cell part bytes at number
part-of-key p cell part index bytes at number is low c good read = record { part_is = is.0; low = low; is_cell = c; good = good; read = subst (λ (i : ℕ). IsNumberAt i bytes number) is.1 read }
