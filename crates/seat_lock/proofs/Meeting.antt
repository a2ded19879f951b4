-- What a seat that takes the turn meets, what one move leaves of it, and what the seat is when the value has gone home.
use Rattle.std.proofs.Common.{◌≡◌, ℕ, ◌≢◌, List, [], ◌∷◌, length, set, sym, refl, ap, ◌∙◌, subst, inl, inr, Option, Some, length-set}
use Rattle.atomic_table.specs.Table.{rest}
use Rattle.atomic_table.specs.Seated.{TableId}
use Rattle.atomic_table.proofs.Lists.{at_set}
use Rattle.seat_lock.specs.declared.view.View.{View}
use Rattle.seat_lock.specs.declared.stepped.Stepped.{Ghosts}
use Rattle.seat_lock.specs.Parts.{Has, Begins, Moves, Meets, StaysSafe}
use Rattle.seat_lock.specs.Laws.{Laws}
use Rattle.seat_lock.specs.Rule.{MeOf, Fits}
use Rattle.seat_lock.specs.Plays.{Carries, Holds, Taken}
use Rattle.seat_lock.specs.Turns.{IsBetweenCalls, MayHandOver}
use Rattle.seat_lock.specs.Outcomes.{Meeting}
use Rattle.seat_lock.specs.Chairs.{Sight, view_of, sight, IsResting}
use Rattle.seat_lock.specs.Views.{IsAtRest, seat_at, with_turn, with_seen, without_turn}
use Rattle.seat_lock.proofs.Lists.{begins_trans, value_found, slot_alone}

module _ {C Ev R P E : Type 0} (g : Ghosts C Ev R P E) where
  -- the laws of what lies in the lock
  abbrev pub LawsOf : Type 0
  LawsOf = Laws g.part_at g.onward g.places g.safe g.appended g.allowed g.is_enabled g.does g.forks g.joins g.idle g.front_is

  -- the seat of this place, whose view was v and became u, has taken the value that it met
  pub record HasMet (core : C) (v u : View E P) (w : MeOf C E P) (place : ℕ) : Type 0 where
    pub meeting : Meeting g core v place
    pub view : w.0 ≡ with_turn u meeting.history meeting.parts
    pub taken : C
    pub carries : Carries w taken

  -- from each part of these places in the list, the state's part of the place is onward
  abbrev pub LeadsAt : (ℕ → Type 0) → List (Option P) → C → Type 0
  LeadsAt these ps t = (p : ℕ) (x : P) → these p → Has ps p x → (y : P) × (g.part_at t p ≡ Some y) × g.onward x y

module _ {C Ev R P E : Type 0} {g : Ghosts C Ev R P E} where
  -- who took the turn carries the value alone
  pub taken_carries : {m m' : MeOf C E P} (t : Taken g m m') → m.1 ≡ [] → Carries m' t.core
  taken_carries t none = t.carried ∙ ap (λ (l : List (ℕ × Option C)). (0, Some t.core) ∷ l) none

  -- the value that it carries is the one that was found in the slot
  pub found_carried : {m m' : MeOf C E P} {found : Option C} {core : C} (t : Taken g m m') → m.1 ≡ [] → m'.1 ≡ (0, found) ∷ rest m'.1 → found ≡ Some core → t.core ≡ core
  found_carried {m' = m'} t none value is = value_found m'.1 t.core (taken_carries t none) value is

  -- what a take tells of the value is so of the one that was found
  pub holds_found : {m m' : MeOf C E P} {found : Option C} {core : C} → Taken g m m' → m.1 ≡ [] → m'.1 ≡ (0, found) ∷ rest m'.1 → found ≡ Some core → Holds g core m.0 m'.0
  holds_found {m} {m'} t none value is = subst (λ (c : C). Holds g c m.0 m'.0) (found_carried t none value is) t.holds

  -- who took the turn after it had seen more took it also from before
  pub taken_later : {m u w : MeOf C E P} {seen : List E} → m.1 ≡ [] → u ≡ (with_seen m.0 seen, []) → Begins m.0.seen seen → Taken g u w → Taken g m w
  taken_later {m} {u} {w} {seen} none is begins t = let t' : Taken g (with_seen m.0 seen, []) w = subst (λ (z : MeOf C E P). Taken g z w) is t in let h = t'.holds in record {
    core = t'.core;
    holds = record {
      history = h.history;
      parts = h.parts;
      fits = h.fits;
      begins = begins_trans m.0.seen seen h.history begins h.begins;
      told = h.told;
      placed = h.placed;
      guest = h.guest;
      view = h.view;
    };
    carried = t'.carried ∙ ap (λ (l : List (ℕ × Option C)). (0, Some t'.core) ∷ l) (sym none);
  }

  -- a seat of a place whose part is listed there meets the value that fits
  abbrev pub meeting_of : {core : C} {v : View E P} {history : List E} {parts : List (Option P)} {place : ℕ} {x : P} → v.seat ≡ Some (place, x) → Fits g core v.from history parts → Has parts place x → Begins v.seen history → Meeting g core v place
  meeting_of {history = history} {parts = parts} {place = place} {x = x} seat fits has begins = record {
    history = history;
    parts = parts;
    known = x;
    found = (fits.leads place x has).0;
    had = seat;
    fits = fits;
    has = has;
    begins = begins;
    found_is = (fits.leads place x has).1;
    moved = (fits.leads place x has).2;
  }

  -- the seat of a place that took the value has met what was found in the slot
  abbrev pub has_met : {m m' : MeOf C E P} {found : Option C} {core : C} {place : ℕ} {x : P} → Taken g m m' → m.1 ≡ [] → m'.1 ≡ (0, found) ∷ rest m'.1 → found ≡ Some core → m.0.seat ≡ Some (place, x) → HasMet g core m.0 m.0 m' place
  has_met {place = place} {x = x} t none value is seat = let h = holds_found t none value is in record { meeting = meeting_of seat h.fits (h.placed place x seat) h.begins; view = h.view; taken = t.core; carries = taken_carries t none }

  -- the seat, once the value was changed where it lies and its own view by f
  pub seat_changed : {core t : C} {v u : View E P} {w m : MeOf C E P} {place : ℕ} (f : View E P → View E P) (h : HasMet g core v u w place) → m ≡ (f w.0, (0, Some t) ∷ rest w.1) → m ≡ (f (with_turn u h.meeting.history h.meeting.parts), (0, Some t) ∷ [])
  seat_changed {t = t} {w = w} f h is = is ∙ (λ i. (f (h.view i), slot_alone w.1 (Some h.taken) (Some t) h.carries i))

  -- then the value may go home where it fits the parts with the seat's new one
  pub may_go_home : {m : MeOf C E P} {y : View E P} {t : C} {place : ℕ} {old new : P} {parts : List (Option P)} → m ≡ (y, (0, Some t) ∷ []) → y.notes ≡ Some parts → y.seat ≡ Some (place, old) → Has parts place old → g.part_at t place ≡ Some new
      → Fits g t y.from y.seen (set parts place (Some new)) → MayHandOver g m place
  may_go_home {t = t} {place = place} {old = old} {new = new} {parts = parts} e notes seat has new_is fits = subst (λ (z : MeOf C E P). MayHandOver g z place) (sym e) record {
    core = t;
    carries = refl;
    parts = parts;
    old = old;
    new = new;
    notes = notes;
    seat = seat;
    has = has;
    new_is = new_is;
    fits = fits;
  }

  -- a seat that has met the value meets it as the laws say
  abbrev pub meets : {core : C} {v : View E P} {place : ℕ} (m : Meeting g core v place) → Meets g.part_at g.onward g.places g.safe core place v.from m.history m.parts
  meets m = record { known = m.known; found = m.found; is_safe = m.fits.is_safe; has = m.has; found_is = m.found_is; moved = m.moved }

  -- where the parts of these places lead to the state, and a place has the state's part, so do these with that place
  pub leads_set : LawsOf g → (these : ℕ → Type 0) (ps : List (Option P)) (t : C) (i : ℕ) (o : Option P) → g.part_at t i ≡ o → LeadsAt g (λ p. (p ≢ i) × these p) ps t → LeadsAt g these (set ps i o) t
  leads_set laws these ps t i o is others p x this has = elim (at_set ps i p o (Some x) has) [
    | inl q ↦ (x, ap (g.part_at t) q.0 ∙ (is ∙ q.1), laws.onward_self x)
    | inr q ↦ others p x (q.0, this) q.1
  ]

  -- the parts of the places that a move leaves out lead to the state after
  pub leads_on : {core t : C} {from : ℕ} {h : List E} {ps : List (Option P)} → LawsOf g → (these : ℕ → Type 0) → Fits g core from h ps → Moves g.part_at g.onward these core t → LeadsAt g these ps t
  leads_on laws these fits moves p x this has = let l = fits.leads p x has in let m = moves p l.0 this l.1 in (m.0, m.1, laws.onward_on x l.0 m.0 l.2 m.2)

  -- the value that a move left fits the parts with the seat's new one
  pub fits_after : {core t : C} {from place : ℕ} {h : List E} {ps : List (Option P)} → LawsOf g → (k : StaysSafe g.part_at g.onward g.places g.safe place from core t h ps) → length ps ≡ g.places core → LeadsAt g (λ p. p ≢ place) ps t
      → Fits g t from h (set ps place (Some k.part))
  fits_after {t = t} {place = place} {ps = ps} laws k each others = record {
    is_safe = k.kept;
    each = length-set ps place (Some k.part) ∙ (each ∙ sym k.same);
    leads = λ p x has. leads_set laws (λ _. Unit {0}) ps t place (Some k.part) k.part_is (λ q y this. others q y this.0) p x tt has;
  }

-- the seat whose value has gone home, and with it the value's part of its place
pub handed_over : {C E P : Type 0} (part_at : C → ℕ → Option P) {m u : MeOf C E P} {y : View E P} {t : C} {place : ℕ} {new : P} → m ≡ (y, (0, Some t) ∷ []) → ((core : C) → Carries m core → u ≡ (without_turn m.0 (seat_at place (part_at core place)), []))
    → part_at t place ≡ Some new → u ≡ (without_turn y (Some (place, new)), [])
handed_over part_at {t = t} {place = place} e given is = given t (ap (λ z. z.1) e) ∙ (λ i. (without_turn (e i).0 (seat_at place (is i)), []))

-- a seat whose view is at rest, and that carries nothing, is idle
pub between_calls : {S E P : Type 0} {u : View E P × List (ℕ × S)} {y : View E P} → u ≡ (y, []) → IsAtRest y → IsBetweenCalls u
between_calls e rest = subst IsBetweenCalls (sym e) (refl, rest)

-- the badge of a seat at rest tells its view
pub view_of_badge : {E P : Type 0} {views : List (View E P)} {v : View E P} (table : TableId) → views ≡ v ∷ [] → IsAtRest v → view_of (sight table views) ≡ v
view_of_badge {v = v} table e rest = ap (λ vs. view_of (sight table vs)) e ∙ (λ i. record { from = v.from; seen = v.seen; told = sym rest.1 i; seat = v.seat; guest = sym rest.2 i; notes = sym rest.0 i })

-- a chair's view is that of the seat which its badge becomes
pub view_of_chair : {E P : Type 0} {chair : Sight E P} {views : List (View E P)} {v : View E P} {place : Option ℕ} (table : TableId) → sight table views ≡ chair → IsResting views place → views ≡ v ∷ [] → view_of chair ≡ v
view_of_chair {v = v} table is rests e = let same : rests.0 ≡ v = cc (sym rests.1 ∙ e) in sym (ap view_of is) ∙ view_of_badge table e (subst IsAtRest same rests.2)
