-- What a disk in memory has held, and which of its bytes are on the disk.
use Rattle.std.specs.Prelude.{◌≤◌, ◌+◌, ℕ, List, [], ◌∷◌, ◌++◌, length, take, drop}
use Rattle.disk_trait.specs.Moments.{AgreesOutside}

-- bytes are written from an offset on, or a write of n bytes fails there, or all is put on the disk
pub data Change : Type 0 where
  Written : ℕ → List ℕ → Change
  Failed : ℕ → ℕ → Change
  Synced : Change

-- the first bytes, and what has happened to them
pub record Past : Type 0 where
  pub first : List ℕ
  pub changes : List Change

-- what reads give, and the ranges that were written since the last sync, each its start and its length
pub record Contents : Type 0 where
  pub bytes : List ℕ
  pub dirty : List (ℕ × ℕ)

-- what is held after one change more
abbrev pub turned : Contents → Change → Contents
turned h (Written at bytes) = record { bytes = take at h.bytes ++ (bytes ++ drop (at + length bytes) h.bytes); dirty = (at, length bytes) ∷ h.dirty }
turned h (Failed at n) = record { bytes = h.bytes; dirty = (at, n) ∷ h.dirty }
turned h Synced = record { bytes = h.bytes; dirty = [] }

-- what is held after these changes
abbrev pub run : Contents → List Change → Contents
run h [] = h
run h (e ∷ es) = run (turned h e) es

-- what is held over these first bytes, all of them on the disk, after these changes
abbrev pub contents_after : List ℕ → List Change → Contents
contents_after first changes = run (record { bytes = first; dirty = [] }) changes

-- what is held now
abbrev pub contents_now : Past → Contents
contents_now p = contents_after p.first p.changes

-- a crash leaves what reads give, but for the ranges written since the last sync
abbrev pub Leaves : Contents → List ℕ → Type 0
Leaves h image = AgreesOutside h.dirty h.bytes image

-- an image that a crash might have left after some of the changes, at least the first t
pub record HadBeen (p : Past) (t : ℕ) (image : List ℕ) : Type 0 where
  pub count : ℕ
  pub since : t ≤ count
  pub made : count ≤ length p.changes
  pub left : Leaves (contents_after p.first (take count p.changes)) image

-- a past that is written down, and for how many failed writes more there is room
pub record Recorded : Type 0 where
  pub past : Past
  pub room : ℕ

-- the same past with one change more
abbrev pub with_change : Past → Change → Past
with_change p e = record { first = p.first; changes = p.changes ++ e ∷ [] }

-- the same record with one change more, and as much room
abbrev pub with_recorded : Recorded → Change → Recorded
with_recorded r e = record { past = with_change r.past e; room = r.room }
