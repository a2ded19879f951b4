-- What a seat's view becomes by each move. A view exists in proofs alone.
use Rattle.std.specs.Prelude.{◌≡◌, ℕ, List, [], ◌++◌, Option, Some, None, slice_set}
use Rattle.seat_lock.specs.declared.view.View.{View}

-- a place with its part, where it has one
abbrev pub seat_at : {P : Type 0} → ℕ → Option P → Option (ℕ × P)
seat_at p (Some x) = Some (p, x)
seat_at p None = None

-- the noted parts, without that of the guest's place
abbrev pub notes_without : {P : Type 0} → Option (ℕ × P) → Option (List (Option P)) → Option (List (Option P))
notes_without (Some guest) (Some notes) = Some (slice_set notes guest.0 None)
notes_without (Some guest) None = None
notes_without None notes = notes

-- the noted parts, with this one at that place
abbrev pub notes_with : {P : Type 0} → ℕ → Option P → Option (List (Option P)) → Option (List (Option P))
notes_with place part (Some notes) = Some (slice_set notes place part)
notes_with place part None = None

module _ {E P : Type 0} where
  -- a view at rest has seen this much behind that front, and has this place or none; it has no turn, no guest, and nothing that it was told of and has not seen
  abbrev pub resting_view : ℕ → List E → Option (ℕ × P) → View E P
  resting_view from seen seat = record { from = from; seen = seen; told = []; seat = seat; guest = None; notes = None }

  -- the view of the first seat: it has place 0, and has seen nothing
  abbrev pub first_view : ℕ → Option P → View E P
  first_view from part = resting_view from [] (seat_at 0 part)

  -- the view is at rest
  abbrev pub IsAtRest : View E P → Type 0
  IsAtRest v = (v.notes ≡ None) × (v.told ≡ []) × (v.guest ≡ None)

  -- the seat has the turn, has seen all of the history, and notes the parts by place
  abbrev pub with_turn : View E P → List E → List (Option P) → View E P
  with_turn v history parts = record { from = v.from; seen = history; told = v.told; seat = v.seat; guest = v.guest; notes = Some parts }

  -- the seat has given the turn back, and has this place with this part
  abbrev pub without_turn : View E P → Option (ℕ × P) → View E P
  without_turn v seat = record { from = v.from; seen = v.seen; told = v.told; seat = seat; guest = v.guest; notes = None }

  -- the seat has seen this history
  abbrev pub with_seen : View E P → List E → View E P
  with_seen v seen = record { from = v.from; seen = seen; told = v.told; seat = v.seat; guest = v.guest; notes = v.notes }

  -- the seat has seen these entries more
  abbrev pub with_more : View E P → List E → View E P
  with_more v more = with_seen v (v.seen ++ more)

  -- the seat has seen all of the history, which covers what it was told of
  abbrev pub with_all_seen : View E P → List E → View E P
  with_all_seen v history = record { from = v.from; seen = history; told = []; seat = v.seat; guest = v.guest; notes = v.notes }

  -- the seat with the turn notes the place that it gives away, with its part
  abbrev pub with_note : ℕ → Option P → View E P → View E P
  with_note place part v = record { from = v.from; seen = v.seen; told = v.told; seat = v.seat; guest = v.guest; notes = notes_with place part v.notes }

  -- the seat was told of what another had seen, and the other's place is its guest's
  abbrev pub with_guest : View E P → View E P → View E P
  with_guest v w = record { from = v.from; seen = v.seen; told = w.seen; seat = v.seat; guest = w.seat; notes = v.notes }

  -- the guest's place is given up
  abbrev pub without_guest : View E P → View E P
  without_guest v = record { from = v.from; seen = v.seen; told = []; seat = v.seat; guest = None; notes = notes_without v.guest v.notes }
