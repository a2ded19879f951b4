-- A disk that meets what a file keeps: as it reads, and in each image that a crash now may leave. And less that may be asked of it.
use Rattle.std.specs.Prelude.{◌≡◌, ◌⊎◌, ◌≤◌, ◌*◌, ℕ, List, slice_get, Option, Some, ⊤, IsTrue}
use Rattle.grid_types.specs.declared.sizes.TheConstants.{PAGE_BYTES}
use Rattle.grid_types.specs.Shapes.{file_pages, header_page}
use Rattle.disk_trait.specs.declared.disk.Disk.{Ghosts}
use Rattle.disk_trait.specs.Moments.{Always}
use Rattle.grid_model.specs.Images.{header_gate}
use Rattle.grid_model.specs.Roots.{HasOlderOrTried}
use Rattle.file_images.specs.Kept.{OtherHeader, ShutHeader, LooseHeader, Flying, Kept, next_number}
use Rattle.file_images.specs.Shows.{HoldsPages, Shows}

-- under the gate of a loose header page stand the fields of an older root, or those of the one that was tried; nothing is said of a closed one
abbrev pub IsLooseUnder : {K : ℕ} → Kept K → OtherHeader → List ℕ → Type 0
IsLooseUnder k ShutHeader image = ⊤
IsLooseUnder k (LooseHeader tried) image = HasOlderOrTried k.shape (header_page (next_number k)) (Some k.root) tried image

-- where the gate of the other header page reads as open, something stands under it in each image that a crash may leave
abbrev pub MayBeClosed : {K : ℕ} → Kept K → List ℕ → (List ℕ → Type 0) → Type 0
MayBeClosed k read may_leave = header_gate read (header_page (next_number k)) ≡ 1 → Always may_leave (IsLooseUnder k k.other)

-- a disk meets what a file keeps: where it tells its content, each image that a crash now may leave shows it, the other header page may be closed, and the fresh pages read as they should; no count fell; and it is long enough
pub record Meets {K : ℕ} {D : Type 0} (g : Ghosts D) (k : Kept K) (d : D) : Type 0 where
  pub crash : IsTrue (g.honest d) → Always (g.may_leave d) (Shows k)
  pub loose : IsTrue (g.honest d) → MayBeClosed k (g.seen d) (g.may_leave d)
  pub fresh : IsTrue (g.honest d) → HoldsPages k.shape k.fresh (g.seen d)
  pub reads : k.reads ≤ g.read_count d
  pub writes : k.writes ≤ g.write_count d
  pub size : file_pages k.shape * PAGE_BYTES ≤ g.extent d

-- what is said of pages is among what was said of them
abbrev pub AreFewer : (then now : List (Option (List ℕ))) → Type 0
AreFewer then now = (p : ℕ) (bytes : List ℕ) → slice_get now p ≡ Some (Some bytes) → slice_get then p ≡ Some (Some bytes)

-- what was asked of a disk covers what is asked of it now: less is said of data pages, the next slot may have begun to fly, no count is higher, and all else is the same
pub record Covers {K : ℕ} (then now : Kept K) : Type 0 where
  pub shape : now.shape ≡ then.shape
  pub always : AreFewer then.always now.always
  pub fresh : AreFewer then.fresh now.fresh
  pub root : now.root ≡ then.root
  pub other : now.other ≡ then.other
  pub first : now.first ≡ then.first
  pub second : now.second ≡ then.second
  pub half : now.half ≡ then.half
  pub next : (now.next ≡ then.next) ⊎ (now.next ≡ Flying)
  pub reads : now.reads ≤ then.reads
  pub writes : now.writes ≤ then.writes
