-- A walk that has come to a cell: the page of the cell's part is held, and names a bucket there.
use Rattle.std.proofs.Common.{◌≡◌, ◌<◌, ◌≤◌, ◌+◌, ◌/◌, ◌%◌, ℕ, Bool, false, List, slice_index_or, IsTrue, sym, ap, ◌∙◌, subst}
use Rattle.grid_types.specs.declared.cell_box.CellBox.{CellBox}
use Rattle.grid_types.specs.declared.query.Query.{Query}
use Rattle.grid_types.specs.declared.sizes.TheConstants.{WORDS_ON_PAGE}
use Rattle.grid_model.specs.Lists.{is_among}
use Rattle.grid_model.specs.Cells.{dims, cell_index, InCellBox}
use Rattle.grid_model.specs.ScaleLaws.{IsCell}
use Rattle.grid_model.specs.Tables.{Table}
use Rattle.query_paths.specs.declared.room.Room.{Room}
use Rattle.query_paths.specs.Pinned.{Place}
use Rattle.query_paths.specs.Paths.{NamesBucket}
use Rattle.query_paths.specs.Walks.{IsBoxCell, IsHeldGood, IsHeldBy, IsWalked, IsCutShort, bucket_numbers}
use Rattle.query_paths.proofs.Coming.{held-part, read-among}
use Rattle.query_paths.proofs.Judged.{IsNumberAt}
use Rattle.query_paths.proofs.Refusing.{IsPartOf, part-names}
use Rattle.query_paths.proofs.Visits.{HasPart, part-held, passed, cut-at-bucket}

-- a walk has come to a cell of the box, holds the page of its part, and has read from it the number of a bucket
pub record HasCome {K : ℕ} (p : Place) (q : Query K) (b : CellBox K) (i start : ℕ) (H : Table → Type 0) (cell : List ℕ) (room : Room K) (now part directory number : ℕ) : Type 0 where
  pub is_in : IsBoxCell p b cell
  pub at : i ≡ cell_index (dims p.scales) cell
  pub held : HasPart p q b i start H room now
  pub read : IsPartOf p cell part room.part.value directory number

-- holding the part of the cell's index, and reading the number there, brings a walk to the cell
pub come : {K : ℕ} (p : Place) (q : Query K) (b : CellBox K) (i start : ℕ) (H : Table → Type 0) (cell : List ℕ) (r : ℕ × ℕ) (old new : Room K) (before now directory number : ℕ) (bytes : List ℕ)
    → IsCell (dims p.scales) cell → i ≡ cell_index (dims p.scales) cell → r ≡ (i / 1000, i % 1000) → i < 1000000 → InCellBox b cell
    → IsHeldGood p old → IsHeldBy p r.0 old new before now directory → bytes ≡ new.part.value → IsNumberAt r.1 bytes number
    → IsWalked p q b i old start before H → HasCome p q b i start H cell new now r.0 directory number
come p q b i start H cell r old new before now directory number bytes c is parted low inside good held same read w =
    let is_in : IsBoxCell p b cell = record { is_cell = c; inside = inside } in
    let first : r.0 ≡ i / WORDS_ON_PAGE = ap (λ (x : ℕ × ℕ). x.0) parted in
    record {
      is_in = is_in;
      at = is;
      held = part-held p q b i start H cell is_in is old new before now directory w (subst (λ (n : ℕ). IsHeldBy p n old new before now directory) first held);
      read = held-part p cell i r c is parted low old new before now directory number bytes good held same read;
    }

module _ {K : ℕ} {p : Place} {q : Query K} {b : CellBox K} {i start : ℕ} {H : Table → Type 0} {cell : List ℕ} {room : Room K} {now part directory number : ℕ} (h : HasCome p q b i start H cell room now part directory number) where
  -- the directory names the bucket there, where there is one
  pub come-names : IsTrue (is_among p.numbers number) → NamesBucket p cell number
  come-names among = part-names p cell part room.part.value directory number h.read among

  -- a bucket is marked exactly where it was read
  pub come-marked : (t : Bool) → t ≡ slice_index_or room.marks number false → is_among (bucket_numbers h.held.walked.read) number ≡ t
  come-marked t e = sym (h.held.walked.marked number) ∙ sym e

  -- a cell whose bucket was read already is passed
  pub come-passed : IsTrue (is_among (bucket_numbers h.held.walked.read) number) → IsWalked p q b (i + 1) room start now H
  come-passed has = passed p q b i start H cell h.is_in h.at room now h.held number (come-names (read-among p b h.held.walked.parts h.held.walked.read number h.held.walked.reading has)) has

  -- a walk that is refused where it reads the bucket was cut short
  pub come-cut : IsTrue (is_among p.numbers number) → is_among (bucket_numbers h.held.walked.read) number ≡ false → (after : ℕ) → now ≤ after → after ≤ now + 1 → IsCutShort p b start after
  come-cut among out after least most = cut-at-bucket p q b i start H cell h.is_in h.at room now h.held number (come-names among) out after least most
