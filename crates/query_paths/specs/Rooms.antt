-- What is seen of the room in which a count or a listing works.
use Rattle.std.specs.Prelude.{ℕ, List, length}
use Rattle.query_paths.specs.declared.room.Room.{Room}

-- for how many bucket numbers a room has marks: those below
abbrev pub room_for : {K : ℕ} → Room K → ℕ
room_for room = length room.marks

-- the page of a directory part that was read last
abbrev pub part_bytes : {K : ℕ} → Room K → List ℕ
part_bytes room = room.part.value

-- the page of a bucket that was read last
abbrev pub bucket_bytes : {K : ℕ} → Room K → List ℕ
bucket_bytes room = room.bucket.value
