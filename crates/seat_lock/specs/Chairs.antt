-- What a chair is to the one who has it, between two calls.
use Rattle.std.specs.Prelude.{◌≡◌, ℕ, List, [], ◌∷◌, Option, Some, None}
use Rattle.atomic_table.specs.Seated.{TableId}
use Rattle.seat_lock.specs.declared.view.View.{View}
use Rattle.seat_lock.specs.Views.{resting_view, IsAtRest}

-- the place of a seat, where it has one
abbrev pub place_in : {P : Type 0} → Option (ℕ × P) → Option ℕ
place_in (Some s) = Some s.0
place_in None = None

-- a chair tells its table, the front at the opening, what it has seen of the history since, and its place with its part
pub record Sight (E P : Type 0) : Type 0 where
  pub table_id : TableId
  pub from : ℕ
  pub seen : List E
  pub seat : Option (ℕ × P)

module _ {E P : Type 0} where
  -- what a chair with this view tells
  abbrev pub sight_of : TableId → View E P → Sight E P
  sight_of t v = record { table_id = t; from = v.from; seen = v.seen; seat = v.seat }

  -- the view of a chair, which is at rest
  abbrev pub view_of : Sight E P → View E P
  view_of s = resting_view s.from s.seen s.seat

  -- a note of a chair: it has seen as much, and has no place
  abbrev pub note_of : Sight E P → Sight E P
  note_of s = record { table_id = s.table_id; from = s.from; seen = s.seen; seat = None }

  -- the chair, once it has seen this history
  abbrev pub seeing : Sight E P → List E → Sight E P
  seeing s history = record { table_id = s.table_id; from = s.from; seen = history; seat = s.seat }

  -- what a badge tells: its one view, or nothing
  abbrev pub sight : TableId → List (View E P) → Sight E P
  sight t [] = record { table_id = t; from = 0; seen = []; seat = None }
  sight t (v ∷ vs) = sight_of t v

  -- a badge rests where its one view does, and has this place
  abbrev pub IsResting : List (View E P) → Option ℕ → Type 0
  IsResting views place = (v : View E P) × (views ≡ v ∷ []) × IsAtRest v × (place ≡ place_in v.seat)

  -- the chair has a place
  abbrev pub HasPlace : Sight E P → Type 0
  HasPlace s = (p : ℕ) × (x : P) × (s.seat ≡ Some (p, x))

  -- the chair is of this table, and has a place
  abbrev pub IsSeated : TableId → Sight E P → Type 0
  IsSeated t s = (s.table_id ≡ t) × HasPlace s
