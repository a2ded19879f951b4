-- What each call on a chair leaves, said of the views before and after it.
use Rattle.std.specs.Prelude.{◌≡◌, ◌≢◌, ◌<◌, ℕ, List, ◌++◌, Option, Some, None, true, Result, Ok, Err, slice_set}
use Rattle.seat_lock.specs.declared.view.View.{View}
use Rattle.seat_lock.specs.declared.stepped.Stepped.{Ghosts}
use Rattle.seat_lock.specs.Parts.{Has, Begins, how_many}
use Rattle.seat_lock.specs.Rule.{Fits}
use Rattle.seat_lock.specs.Views.{resting_view, without_turn, with_seen}

module _ {C Ev R P E : Type 0} (g : Ghosts C Ev R P E) where
  -- the seat has this place, and its part and what it has seen allow the event
  abbrev pub MayActAt : View E P → ℕ → Ev → Type 0
  MayActAt v place event = (x : P) × (v.seat ≡ Some (place, x)) × g.allowed x v.seen event

  -- that, at some place
  abbrev pub MayAct : View E P → Ev → Type 0
  MayAct v event = (place : ℕ) × MayActAt v place event

  -- the seat has this place, with an idle part
  abbrev pub MayEndAt : View E P → ℕ → Type 0
  MayEndAt v place = (x : P) × (v.seat ≡ Some (place, x)) × g.idle x

  -- that, at some place
  abbrev pub MayEnd : View E P → Type 0
  MayEnd v = (place : ℕ) × MayEndAt v place

  -- the value that the seat of this place met fits a history that begins with what the seat had seen, and its part of the place is onward of the seat's
  pub record Meeting (core : C) (v : View E P) (place : ℕ) : Type 0 where
    pub history : List E
    pub parts : List (Option P)
    pub known : P
    pub found : P
    pub had : v.seat ≡ Some (place, known)
    pub fits : Fits g core v.from history parts
    pub has : Has parts place known
    pub begins : Begins v.seen history
    pub found_is : g.part_at core place ≡ Some found
    pub moved : g.onward known found

  -- a move was made in the value that the seat met, and the seat's part of the new value is this
  pub record Move (v : View E P) : Type 0 where
    pub before : C
    pub after : C
    pub place : ℕ
    pub meeting : Meeting before v place
    pub open meeting use *
    pub new : P
    pub new_is : g.part_at after place ≡ Some new

  -- one enabled step was made in the value that the seat met; the seat has then seen that history with what the event appended, and its part is the new value's
  pub record Acted (v w : View E P) (event : Ev) (reply : R) : Type 0 where
    pub move : Move v
    pub open move use *
    pub enabled : g.is_enabled before place event ≡ true
    pub did : g.does before place event after reply
    pub kept : g.safe after v.from (history ++ g.appended before place event) (slice_set parts place (Some new))
    pub view : w ≡ without_turn (with_seen v (history ++ g.appended before place event)) (Some (place, new))

  -- a fork was answered by the value that the seat met; the seat has then seen that history, and its part is the new value's
  pub record ForkAnswered (v w : View E P) (answer : Result ℕ R) : Type 0 where
    pub move : Move v
    pub open move use *
    pub did : g.forks before place after answer
    pub view : w ≡ without_turn (with_seen v history) (Some (place, new))

  -- a fork of this seat was refused, and it has done nothing since
  abbrev pub WasRefused : View E P → Type 0
  WasRefused w = (v : View E P) × (reply : R) × ForkAnswered v w (Err reply)

  -- a fork was made, and the new seat has seen as much and has the new place, with the part that the new value has of it
  pub record SplitOff (v w o : View E P) (new : ℕ) : Type 0 where
    pub fork : ForkAnswered v w (Ok new)
    pub given : P
    pub free : g.part_at fork.before new ≡ None
    pub given_is : g.part_at fork.after new ≡ Some given
    pub view : o ≡ resting_view v.from fork.history (Some (new, given))

  -- the place of another seat was taken back, in the value that the seat met, whose history begins with what the other had seen too; the seat has then seen that history, and its part is the new value's
  pub record TakenBack (v w o : View E P) : Type 0 where
    pub move : Move v
    pub open move use *
    pub other : ℕ
    pub other_known : P
    pub other_had : o.seat ≡ Some (other, other_known)
    pub other_has : Has parts other other_known
    pub other_begins : Begins o.seen history
    pub did : g.joins before place other after
    pub freed : g.part_at after other ≡ None
    pub view : w ≡ resting_view v.from history (Some (place, new))

  -- the value that the seat met was taken out for good, and the seat's place alone is out
  pub record Closed (core : C) (v : View E P) : Type 0 where
    pub place : ℕ
    pub meeting : Meeting core v place
    pub open meeting use *
    pub alone : (p : ℕ) → p < g.places core → p ≢ place → g.part_at core p ≡ None

  -- the value that lay in the lock fits a history that begins with what the seat had seen, and so many of its places are out; the seat has seen that history, and is otherwise as it was
  pub record StillShared (v w : View E P) (out : ℕ) : Type 0 where
    pub core : C
    pub history : List E
    pub parts : List (Option P)
    pub fits : Fits g core v.from history parts
    pub begins : Begins v.seen history
    pub counted : out ≡ how_many (g.part_at core) (g.places core)
    pub view : w ≡ without_turn (with_seen v history) v.seat
