-- The rule of the lock's table, which holds between any two atomic steps: one history, of which each seat has seen a beginning; one turn; and a value that is safe for that history and for the parts that the seats have.
use Rattle.std.specs.Prelude.{◌≡◌, ◌≢◌, ◌⊎◌, ℕ, ◌+◌, List, [], length, slice_index, Option, Some, None}
use mathlib.Core.Option.{some}
use lib.ListN.{get_elem?}
use Rattle.atomic_table.specs.Table.{State, Me, Step}
use Rattle.seat_lock.specs.declared.view.View.{View}
use Rattle.seat_lock.specs.declared.stepped.Stepped.{Ghosts}
use Rattle.seat_lock.specs.Parts.{Has, Begins, Leads, listing}

-- the table, as plain data
abbrev pub StateOf : Type 0 → Type 0 → Type 0 → Type 0
StateOf C E P = State (Option C) (View E P)

-- what a seat is at the table: its view, and the slots that it has taken
abbrev pub MeOf : Type 0 → Type 0 → Type 0 → Type 0
MeOf C E P = Me (Option C) (View E P)

-- what an atomic step tells the seat that makes it: of the seat before, the number that was found, and the seat after
abbrev pub PlayOf : Type 0 → Type 0 → Type 0 → Type 1
PlayOf C E P = Step (Option C) → MeOf C E P → ℕ → MeOf C E P → Type 0

module _ {E P : Type 0} where
  -- the view has this place, its own or that of a guest, with this part
  abbrev pub Sits : View E P → ℕ → P → Type 0
  Sits v p x = (v.seat ≡ Some (p, x)) ⊎ (v.guest ≡ Some (p, x))

  -- each view has seen a beginning of one history and has its place with the part that is listed there, and no place is in two views
  pub record Fair (from : ℕ) (history : List E) (parts : List (Option P)) (views : List (View E P)) : Type 0 where
    pub begins : (j : ℕ) (v : View E P) → get_elem? views j ≡ some v → (v.from ≡ from) × Begins v.seen history × Begins v.told history
    pub placed : (j : ℕ) (v : View E P) (p : ℕ) (x : P) → get_elem? views j ≡ some v → Sits v p x → Has parts p x
    pub apart : (i j : ℕ) (v w : View E P) (p : ℕ) (x y : P) → get_elem? views i ≡ some v → get_elem? views j ≡ some w → Sits v p x → Sits w p y → i ≡ j
    pub twice : (j : ℕ) (v : View E P) (p q : ℕ) (x y : P) → get_elem? views j ≡ some v → v.seat ≡ Some (p, x) → v.guest ≡ Some (q, y) → p ≢ q

  -- and some view has all of the history
  pub record Agree (from : ℕ) (history : List E) (parts : List (Option P)) (views : List (View E P)) : Type 0 where
    pub knower : (j : ℕ) × (v : View E P) × (get_elem? views j ≡ some v) × ((v.seen ≡ history) ⊎ (v.told ≡ history))
    pub fair : Fair from history parts views

  -- no view has the turn
  abbrev pub NoTurn : List (View E P) → Type 0
  NoTurn views = (j : ℕ) (v : View E P) → get_elem? views j ≡ some v → v.notes ≡ None

  -- exactly one view has the turn; it notes the parts by place, and has seen all of the history
  pub record OneTurn (history : List E) (parts : List (Option P)) (views : List (View E P)) : Type 0 where
    pub holder : ℕ
    pub view : View E P
    pub there : get_elem? views holder ≡ some view
    pub notes : view.notes ≡ Some parts
    pub knows : view.seen ≡ history
    pub alone : (j : ℕ) (v : View E P) → j ≢ holder → get_elem? views j ≡ some v → v.notes ≡ None

module _ {C Ev R P E : Type 0} (g : Ghosts C Ev R P E) where
  -- the value fits a history and parts where it is safe for them, there is one part for each of its places, and each part goes onward to its own
  pub record Fits (core : C) (from : ℕ) (history : List E) (parts : List (Option P)) : Type 0 where
    pub is_safe : g.safe core from history parts
    pub each : length parts ≡ g.places core
    pub leads : Leads g.part_at g.onward parts core

  -- the value is safe for a history without entries and for the parts that it has itself
  abbrev pub IsSafeAtFirst : C → Type 0
  IsSafeAtFirst core = g.safe core (g.front_is core) [] (listing (g.part_at core) (g.places core))

  -- word 1 is 0, no seat has the turn, and a value that fits is at home
  pub record TurnFree (from : ℕ) (history : List E) (parts : List (Option P)) (s : StateOf C E P) : Type 0 where
    pub free : slice_index s.words 1 ≡ 0
    pub nobody : NoTurn s.views
    pub core : C
    pub home : get_elem? s.homes 0 ≡ some (some (Some core))
    pub fits : Fits core from history parts

  -- word 1 is not 0, and exactly one seat has the turn
  pub record TurnHeld (from : ℕ) (history : List E) (parts : List (Option P)) (s : StateOf C E P) : Type 0 where
    pub busy : slice_index s.words 1 ≢ 0
    pub one : OneTurn history parts s.views

  -- the turn is free or held
  abbrev pub Turn : ℕ → List E → List (Option P) → StateOf C E P → Type 0
  Turn from history parts s = TurnFree from history parts s ⊎ TurnHeld from history parts s

  -- word 0 counts the history behind what was there at the opening, the views agree on it, and there is one turn
  pub record Ruled (from : ℕ) (s : StateOf C E P) : Type 0 where
    pub history : List E
    pub parts : List (Option P)
    pub wide : length s.words ≡ 3
    pub counted : slice_index s.words 0 ≡ from + length history
    pub agree : Agree from history parts s.views
    pub turn : Turn from history parts s
