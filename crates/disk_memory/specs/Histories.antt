-- What the fields of a disk's history stand for.
use Rattle.std.specs.Prelude.{◌≡◌, ◌<◌, ◌≤◌, ◌+◌, ◌*◌, true, false, [], length, map, All, vec_len, vec_capacity}
use Rattle.disk_memory.specs.declared.history.DiskHistory.TheInside.{Inside}
use Rattle.disk_memory.specs.Events.{change_of}
use Rattle.disk_memory.specs.Past.{Past, Recorded, contents_now}
use Rattle.disk_memory.specs.OnDisk.{LiesInside}

-- the past that is recorded
abbrev pub past_of : Inside → Past
past_of h = record { first = h.first.items; changes = map change_of h.events.items }

-- the past that is recorded, and the room that is kept
abbrev pub recorded_of : Inside → Recorded
recorded_of h = record { past = past_of h; room = h.spare }

-- a history is one of a disk: each write lies inside it, and there is room for the failed writes that are to come, for a sync behind each, and for one where not all is on the disk
pub record IsDiskHistory (h : Inside) : Type 0 where
  pub inside : All (λ e. LiesInside (length h.first.items) (change_of e)) h.events.items
  pub clean : h.is_clean ≡ true → (contents_now (past_of h)).dirty ≡ []
  pub spare : vec_len h.events + 2 * h.spare ≤ vec_capacity h.events
  pub room : h.is_clean ≡ false → vec_len h.events + 2 * h.spare < vec_capacity h.events
