-- What a seat may do with the value while it has the turn, and what is left of the seat.
use Rattle.std.specs.Prelude.{◌≡◌, ◌<◌, ℕ, List, [], Option, Some, length, slice_set}
use Rattle.atomic_table.specs.declared.shared.Seat.{Seat}
use Rattle.atomic_table.specs.Table.{Me}
use Rattle.seat_lock.specs.declared.view.View.{View}
use Rattle.seat_lock.specs.declared.stepped.Stepped.{Ghosts}
use Rattle.seat_lock.specs.Parts.{Has}
use Rattle.seat_lock.specs.Rule.{MeOf, Fits}
use Rattle.seat_lock.specs.Plays.{Carries}
use Rattle.seat_lock.specs.Views.{IsAtRest}

module _ {S V : Type 0} where
  -- the seat is still the same one of the same table
  pub record SameSeat (old new : Seat S V) : Type 0 where
    pub table : new.table_id ≡ old.table_id
    pub id : new.id ≡ old.id

  -- that, and this is now its view with the slots that it has taken
  pub record Becomes (old new : Seat S V) (me : Me S V) : Type 0 where
    pub table : new.table_id ≡ old.table_id
    pub id : new.id ≡ old.id
    pub me_is : new.me ≡ me

module _ {S E P : Type 0} where
  -- the seat is at rest, and has taken nothing
  abbrev pub IsBetweenCalls : Me S (View E P) → Type 0
  IsBetweenCalls m = (m.1 ≡ []) × IsAtRest m.0

module _ {E P : Type 0} where
  -- the seat has the turn, and notes the parts by place
  abbrev pub HasTurn : View E P → Type 0
  HasTurn v = (parts : List (Option P)) × (v.notes ≡ Some parts)

  -- that, and it has a guest
  pub record HasGuest (v : View E P) : Type 0 where
    pub parts : List (Option P)
    pub place : ℕ
    pub part : P
    pub notes : v.notes ≡ Some parts
    pub guest : v.guest ≡ Some (place, part)

  -- it has the turn, and may give this place with this part away, which no seat has
  pub record MayGiveAway (v : View E P) (place : ℕ) (given : Option P) : Type 0 where
    pub parts : List (Option P)
    pub part : P
    pub notes : v.notes ≡ Some parts
    pub within : place < length parts
    pub free : (x : P) → Has parts place x → ⊥
    pub given_is : given ≡ Some part

module _ {C Ev R P E : Type 0} (g : Ghosts C Ev R P E) where
  -- the value that the seat carries may go home as it is
  pub record MayPutBack (m : MeOf C E P) : Type 0 where
    pub core : C
    pub carries : Carries m core
    pub parts : List (Option P)
    pub notes : m.0.notes ≡ Some parts
    pub fits : Fits g core m.0.from m.0.seen parts

  -- the value that the seat carries may go home, and with it the part that it has of the seat's place
  pub record MayHandOver (m : MeOf C E P) (place : ℕ) : Type 0 where
    pub core : C
    pub carries : Carries m core
    pub parts : List (Option P)
    pub old : P
    pub new : P
    pub notes : m.0.notes ≡ Some parts
    pub seat : m.0.seat ≡ Some (place, old)
    pub has : Has parts place old
    pub new_is : g.part_at core place ≡ Some new
    pub fits : Fits g core m.0.from m.0.seen (slice_set parts place (Some new))
