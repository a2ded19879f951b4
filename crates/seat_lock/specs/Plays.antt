-- What each atomic step on the lock's table tells the seat that makes it.
use Rattle.std.specs.Prelude.{◌≡◌, ◌≢◌, ℕ, ◌+◌, List, [], ◌∷◌, length, Option, Some, Bool, MatchBool}
use Rattle.atomic_table.specs.Table.{rest}
use Rattle.seat_lock.specs.declared.view.View.{View}
use Rattle.seat_lock.specs.declared.stepped.Stepped.{Ghosts}
use Rattle.seat_lock.specs.Parts.{Has, Begins}
use Rattle.seat_lock.specs.Rule.{MeOf, PlayOf, Fits}
use Rattle.seat_lock.specs.Views.{with_turn, with_more, without_turn, with_all_seen, without_guest, seat_at}

module _ {C V : Type 0} where
  -- the seat carries this value, and nothing else
  abbrev pub Carries : V × List (ℕ × Option C) → C → Type 0
  Carries m core = m.1 ≡ (0, Some core) ∷ []

module _ {C Ev R P E : Type 0} (g : Ghosts C Ev R P E) where
  -- the seat with the view v has taken the value, which fits all of the history and the parts that the seats have; its view is then w
  pub record Holds (core : C) (v w : View E P) : Type 0 where
    pub history : List E
    pub parts : List (Option P)
    pub fits : Fits g core v.from history parts
    pub begins : Begins v.seen history
    pub told : Begins v.told history
    pub placed : (p : ℕ) (x : P) → v.seat ≡ Some (p, x) → Has parts p x
    pub guest : (q : ℕ) (y : P) → v.guest ≡ Some (q, y) → Has parts q y × ((p : ℕ) (x : P) → v.seat ≡ Some (p, x) → p ≢ q)
    pub view : w ≡ with_turn v history parts

  -- the seat has the turn, and the value with it
  pub record Taken (m m' : MeOf C E P) : Type 0 where
    pub core : C
    pub holds : Holds core m.0 m'.0
    pub carried : m'.1 ≡ (0, Some core) ∷ m.1

  -- the seat has taken the turn, and the value with it, or it is as it was
  abbrev pub TakenIf : Bool → MeOf C E P → MeOf C E P → Type 0
  TakenIf taken m m' = MatchBool taken (Taken m m') (m' ≡ m)

  -- where the turn's word was 0 the seat has the turn, and otherwise nothing changed for it
  abbrev pub Takes : PlayOf C E P
  Takes st m r m' = (r ≡ 0 → Taken m m') × (r ≢ 0 → m' ≡ m)

  -- the value is home, and the part of the seat is the value's
  abbrev pub Gives : PlayOf C E P
  Gives st m r m' = (core : C) (p : ℕ) (x : P) → Carries m core → m.0.seat ≡ Some (p, x) → m' ≡ (without_turn m.0 (seat_at p (g.part_at core p)), [])

module _ {C E P : Type 0} where
  -- the value is home, and the part of the seat is as it was
  abbrev pub GivesBack : PlayOf C E P
  GivesBack st m r m' = m' ≡ (without_turn m.0 m.0.seat, rest m.1)

  -- the entries were added to what the seat had seen, which was all
  abbrev pub Grows : List E → PlayOf C E P
  Grows more st m r m' = (m' ≡ (with_more m.0 more, m.1)) × (r ≡ m.0.from + length m.0.seen)

  -- nothing changed for the seat
  abbrev pub Stays : PlayOf C E P
  Stays st m r m' = m' ≡ m

  -- the whole history was seen, and it begins with what was seen before and with what was told of
  pub record Looked (m m' : MeOf C E P) (found : ℕ) : Type 0 where
    pub history : List E
    pub seen : Begins m.0.seen history
    pub told : Begins m.0.told history
    pub view : m' ≡ (with_all_seen m.0 history, m.1)
    pub counted : found ≡ m.0.from + length history

  -- the whole history was seen
  abbrev pub Looks : PlayOf C E P
  Looks st m r m' = Looked m m' r

  -- the guest's place was given up
  abbrev pub Releases : PlayOf C E P
  Releases st m r m' = m' ≡ (without_guest m.0, m.1)
