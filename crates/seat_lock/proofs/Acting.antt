-- What one step of the value leaves, by the laws of its trait.
use Rattle.std.proofs.Common.{◌≡◌, ℕ, ◌+◌, true, [], ◌∷◌, ◌++◌, length, set, refl, ap, subst, arith, Option, Some, length-append, ◌≢◌}
use Rattle.atomic_table.specs.Table.{rest}
use Rattle.seat_lock.specs.declared.view.View.{View}
use Rattle.seat_lock.specs.declared.stepped.Stepped.{Ghosts}
use Rattle.seat_lock.specs.Parts.{Keeps, MayStep}
use Rattle.seat_lock.specs.Rule.{MeOf}
use Rattle.seat_lock.specs.Plays.{Carries, Taken}
use Rattle.seat_lock.specs.Turns.{IsBetweenCalls, MayHandOver}
use Rattle.seat_lock.specs.Outcomes.{Acted, MayActAt}
use Rattle.seat_lock.specs.Views.{IsAtRest, seat_at, with_more, without_turn}
use Rattle.seat_lock.proofs.Meeting.{LawsOf, HasMet, taken_carries, found_carried, has_met, meets, seat_changed, may_go_home, leads_on, fits_after, handed_over, between_calls}

module _ {C Ev R P E : Type 0} (g : Ghosts C Ev R P E) where
  -- the seat of this place, whose view was v, has taken the value, and may make the event's step
  pub record Ready (core : C) (v : View E P) (w : MeOf C E P) (place : ℕ) (event : Ev) : Type 0 where
    pub has_met : HasMet g core v v w place
    pub open has_met use *
    pub enabled : g.is_enabled core place event ≡ true
    pub may : g.allowed meeting.found meeting.history event

module _ {C Ev R P E : Type 0} {g : Ghosts C Ev R P E} (laws : LawsOf g) where
  -- a seat that has taken the value, in which its event is enabled, may make the step
  pub taken_ready : {m w : MeOf C E P} {found : Option C} {core : C} (place : ℕ) (event : Ev) → Taken g m w → m.1 ≡ [] → w.1 ≡ (0, found) ∷ rest w.1 → found ≡ Some core → MayActAt g m.0 place event
      → ((c : C) → Carries w c → g.is_enabled c place event ≡ true) → Ready g core m.0 w place event
  taken_ready {m} {w} {found} {core} place event t none value is may enabled = let met : HasMet g core m.0 m.0 w place = has_met t none value is may.1 in record {
    has_met = met;
    enabled = enabled core (subst (λ (c : C). Carries w c) (found_carried t none value is) (taken_carries t none));
    may = laws.allowed_stays may.0 met.meeting.found m.0.seen met.meeting.history event met.meeting.moved met.meeting.begins may.2;
  }

  -- the step may be made
  pub may_step : {core : C} {v : View E P} {w : MeOf C E P} (place : ℕ) (event : Ev) → Ready g core v w place event → MayStep g.part_at g.safe g.allowed core place event
  may_step {v = v} place event r = (v.from, r.meeting.history, r.meeting.parts, r.meeting.found, r.meeting.fits.is_safe, r.meeting.found_is, r.may)

  -- what the step leaves
  step_keeps : {core : C} {v : View E P} {w : MeOf C E P} (t : C) (place : ℕ) (event : Ev) (reply : R) (r : Ready g core v w place event) → g.does core place event t reply
      → Keeps g.part_at g.onward g.places g.safe place v.from core t (r.meeting.history ++ g.appended core place event) r.meeting.parts
  step_keeps {core} {v} t place event reply r did = laws.step_keeps core t place v.from r.meeting.history r.meeting.parts event reply (meets r.meeting) r.enabled r.may did

  -- the front rises by the number of entries that the event appends
  pub step_counts : {core : C} {v : View E P} {w : MeOf C E P} (t : C) (place : ℕ) (event : Ev) (reply : R) → Ready g core v w place event → g.does core place event t reply
      → (g.front_is core ≡ w.0.from + length w.0.seen) × (g.front_is t ≡ w.0.from + length w.0.seen + length (g.appended core place event))
  step_counts {core} {v} {w} t place event reply r did = let k = (step_keeps t place event reply r did).stays in let m = r.meeting in
      let a = laws.front_counts core v.from m.history m.parts m.fits.is_safe in
      let b = laws.front_counts t v.from (m.history ++ g.appended core place event) (set m.parts place (Some k.part)) k.kept in
      let e : w.0.from + length w.0.seen ≡ v.from + length m.history = ap (λ (z : View E P). z.from + length z.seen) r.view in
      (omega arith, omega (arith, length-append m.history (g.appended core place event)))

  -- then the value may go home with the seat's new part
  pub may_hand_over : {core : C} {v : View E P} {w m : MeOf C E P} (t : C) (place : ℕ) (event : Ev) (reply : R) → Ready g core v w place event → g.does core place event t reply
      → m ≡ (with_more w.0 (g.appended core place event), (0, Some t) ∷ rest w.1) → MayHandOver g m place
  may_hand_over {core} {v} t place event reply r did is = let k = step_keeps t place event reply r did in let met = r.meeting in
      may_go_home (seat_changed (λ z. with_more z (g.appended core place event)) r.has_met is) refl met.had met.has k.stays.part_is (fits_after laws k.stays met.fits.each (leads_on laws (λ p. p ≢ place) met.fits k.moves))

  -- and the seat has acted
  pub act_outcome : {core : C} {v : View E P} {w m u : MeOf C E P} (t : C) (place : ℕ) (event : Ev) (reply : R) → Ready g core v w place event → g.does core place event t reply
      → m ≡ (with_more w.0 (g.appended core place event), (0, Some t) ∷ rest w.1) → ((c : C) → Carries m c → u ≡ (without_turn m.0 (seat_at place (g.part_at c place)), [])) → IsAtRest v → IsBetweenCalls u × Acted g v u.0 event reply
  act_outcome {core} {v} t place event reply r did is given rest = let k = (step_keeps t place event reply r did).stays in
      let e = handed_over g.part_at (seat_changed (λ z. with_more z (g.appended core place event)) r.has_met is) given k.part_is in (
        between_calls e (refl, rest.1, rest.2),
        record {
          move = record { before = core; after = t; place = place; meeting = r.meeting; new = k.part; new_is = k.part_is };
          enabled = r.enabled;
          did = did;
          kept = k.kept;
          view = ap (λ z. z.0) e;
        },
      )
