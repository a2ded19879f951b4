-- What is on a disk for good: what was held at its last sync.
use Rattle.std.specs.Prelude.{◌≢◌, ◌<◌, ◌≤◌, ◌+◌, ◌⊎◌, ℕ, List, [], ◌∷◌, length, slice_index, Bool, true, false, if◌then◌else◌, ⊤}
use Rattle.std.specs.List.{list_any}
use Rattle.disk_memory.specs.Past.{Change, Written, Failed, Synced, Past, contents_after}

-- whether a change is a sync
abbrev pub is_sync : Change → Bool
is_sync (Written at bytes) = false
is_sync (Failed at n) = false
is_sync Synced = true

-- the changes up to the last sync, and none where there was no sync
abbrev pub up_to_sync : List Change → List Change
up_to_sync [] = []
up_to_sync (e ∷ es) = if list_any is_sync (e ∷ es) then e ∷ up_to_sync es else []

-- what was held at the last sync, or at first where there was none
abbrev pub on_disk : Past → List ℕ
on_disk p = (contents_after p.first (up_to_sync p.changes)).bytes

-- a change writes, or fails to write, inside a disk of this size
abbrev pub LiesInside : ℕ → Change → Type 0
LiesInside size (Written at bytes) = at + length bytes ≤ size
LiesInside size (Failed at n) = at + n ≤ size
LiesInside size Synced = ⊤

-- a byte lies inside one of these ranges; a range is its start and its length
abbrev pub IsInside : List (ℕ × ℕ) → ℕ → Type 0
IsInside [] i = ⊥
IsInside (r ∷ rs) i = ((r.0 ≤ i) × (i < r.0 + r.1)) ⊎ IsInside rs i

-- a byte of an image is neither that of the one nor that of the other of two images
abbrev pub IsOther : List ℕ → List ℕ → List ℕ → ℕ → Type 0
IsOther a b image i = (slice_index image i ≢ slice_index a i) × (slice_index image i ≢ slice_index b i)
