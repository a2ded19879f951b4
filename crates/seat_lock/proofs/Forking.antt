-- What a fork of the value leaves, by the laws of its trait.
use Rattle.std.proofs.Common.{◌≡◌, ℕ, ◌<◌, ◌≢◌, List, [], ◌∷◌, sym, refl, ap, ◌∙◌, subst, Option, Some, Result, Ok, Err, length-set}
use Rattle.std.proofs.lemmas.Option.{none-some}
use Rattle.atomic_table.specs.Table.{rest}
use Rattle.atomic_table.proofs.Lists.{set_else}
use Rattle.seat_lock.specs.declared.view.View.{View}
use Rattle.seat_lock.specs.declared.stepped.Stepped.{Ghosts}
use Rattle.seat_lock.specs.Parts.{StaysSafe, Keeps, Forked}
use Rattle.seat_lock.specs.Rule.{MeOf}
use Rattle.seat_lock.specs.Plays.{Carries}
use Rattle.seat_lock.specs.Turns.{IsBetweenCalls, MayGiveAway, MayHandOver}
use Rattle.seat_lock.specs.Outcomes.{ForkAnswered, SplitOff}
use Rattle.seat_lock.specs.Views.{IsAtRest, resting_view, seat_at, with_turn, with_note, with_seen, without_turn}
use Rattle.seat_lock.proofs.Meeting.{LawsOf, HasMet, meets, seat_changed, may_go_home, leads_set, leads_on, fits_after, handed_over, between_calls}

module _ {C Ev R P E : Type 0} {g : Ghosts C Ev R P E} (laws : LawsOf g) {core : C} {v : View E P} {w : MeOf C E P} (t : C) (place : ℕ) (h : HasMet g core v v w place) where
  -- what a fork that was refused leaves
  refusal_keeps : (reply : R) → g.forks core place t (Err reply) → Keeps g.part_at g.onward g.places g.safe place v.from core t h.meeting.history h.meeting.parts
  refusal_keeps reply did = laws.refusal_keeps core t place v.from h.meeting.history h.meeting.parts reply (meets h.meeting) did

  -- what a fork that was made leaves
  fork_keeps : (new : ℕ) → g.forks core place t (Ok new) → Forked g.part_at g.onward g.places g.safe place new v.from core t h.meeting.history h.meeting.parts
  fork_keeps new did = laws.fork_keeps core t place new v.from h.meeting.history h.meeting.parts (meets h.meeting) did

  -- the place that it put out is no seat's, and may be given away
  pub may_give_away : {after : C} (new : ℕ) → g.forks core place t (Ok new) → after ≡ t → MayGiveAway w.0 new (g.part_at after new)
  may_give_away new did same = let f = fork_keeps new did in record {
    parts = h.meeting.parts;
    part = f.given;
    notes = ap (λ (z : View E P). z.notes) h.view;
    within = subst (λ (n : ℕ). new < n) (sym h.meeting.fits.each) f.within;
    free = λ x has. let l = h.meeting.fits.leads new x has in none-some l.0 (sym f.free ∙ l.1);
    given_is = ap (λ (c : C). g.part_at c new) same ∙ f.given_is;
  }

  -- the seat, once it has given the new place away
  seat_cut : {after : C} {m : MeOf C E P} (new : ℕ) (did : g.forks core place t (Ok new)) → after ≡ t → m ≡ (with_note new (g.part_at after new) w.0, (0, Some t) ∷ rest w.1)
      → m ≡ (with_note new (Some (fork_keeps new did).given) (with_turn v h.meeting.history h.meeting.parts), (0, Some t) ∷ [])
  seat_cut new did same is = let f = fork_keeps new did in let given = ap (λ (c : C). g.part_at c new) same ∙ f.given_is in
      seat_changed (with_note new (Some f.given)) h (is ∙ (λ i. (with_note new (given i) w.0, (0, Some t) ∷ rest w.1)))

  -- after a fork that was refused the value may go home
  pub may_hand_over_refused : {m : MeOf C E P} (reply : R) → g.forks core place t (Err reply) → m ≡ (w.0, (0, Some t) ∷ rest w.1) → MayHandOver g m place
  may_hand_over_refused reply did is = let k = refusal_keeps reply did in
      may_go_home (seat_changed (λ z. z) h is) refl h.meeting.had h.meeting.has k.stays.part_is (fits_after laws k.stays h.meeting.fits.each (leads_on laws (λ p. p ≢ place) h.meeting.fits k.moves))

  -- after a fork that was made, and the cut, the value may go home
  pub may_hand_over_forked : {after : C} {m : MeOf C E P} (new : ℕ) → g.forks core place t (Ok new) → after ≡ t → m ≡ (with_note new (g.part_at after new) w.0, (0, Some t) ∷ rest w.1) → MayHandOver g m place
  may_hand_over_forked new did same is = let f = fork_keeps new did in let met = h.meeting in
      let apart : place ≢ new = λ e. none-some met.found (sym f.free ∙ (ap (g.part_at core) (sym e) ∙ met.found_is)) in
      let leads = leads_set laws (λ p. p ≢ place) met.parts t new (Some f.given) f.given_is (leads_on laws (λ p. (p ≢ new) × (p ≢ place)) met.fits (λ p x these. f.moves p x these.1)) in
      may_go_home (seat_cut new did same is) refl met.had (set_else met.parts new place (Some f.given) apart ∙ met.has) f.stays.part_is (fits_after laws f.stays (length-set met.parts new (Some f.given) ∙ met.fits.each) leads)

  -- the fork was answered, where the seat has then seen the history and has the value's part
  fork_answered : {u : MeOf C E P} {history : List E} {parts : List (Option P)} (r : Result ℕ R) (k : StaysSafe g.part_at g.onward g.places g.safe place v.from core t history parts) → g.forks core place t r
      → u ≡ (without_turn (with_seen v h.meeting.history) (Some (place, k.part)), []) → ForkAnswered g v u.0 r
  fork_answered r k did end = record { move = record { before = core; after = t; place = place; meeting = h.meeting; new = k.part; new_is = k.part_is }; did = did; view = ap (λ z. z.0) end }

  -- a fork was refused
  pub refusal_outcome : {m u : MeOf C E P} (reply : R) → g.forks core place t (Err reply) → m ≡ (w.0, (0, Some t) ∷ rest w.1) → ((c : C) → Carries m c → u ≡ (without_turn m.0 (seat_at place (g.part_at c place)), [])) → IsAtRest v
      → IsBetweenCalls u × ForkAnswered g v u.0 (Err reply)
  refusal_outcome reply did is given rest = let k = (refusal_keeps reply did).stays in let end = handed_over g.part_at (seat_changed (λ z. z) h is) given k.part_is in (between_calls end (refl, rest.1, rest.2), fork_answered (Err reply) k did end)

  -- a fork was made, and the new seat has the new place
  pub fork_outcome : {after : C} {m u o : MeOf C E P} (new : ℕ) → g.forks core place t (Ok new) → after ≡ t → m ≡ (with_note new (g.part_at after new) w.0, (0, Some t) ∷ rest w.1)
      → ((c : C) → Carries m c → u ≡ (without_turn m.0 (seat_at place (g.part_at c place)), [])) → o ≡ (resting_view w.0.from w.0.seen (seat_at new (g.part_at after new)), []) → IsAtRest v → IsBetweenCalls u × IsBetweenCalls o × SplitOff g v u.0 o.0 new
  unfolding fork_answered
  fork_outcome new did same is given came rest = let f = fork_keeps new did in let end = handed_over g.part_at (seat_cut new did same is) given f.stays.part_is in
      let part = ap (λ (c : C). g.part_at c new) same ∙ f.given_is in let end' = came ∙ (λ i. (resting_view (h.view i).from (h.view i).seen (seat_at new (part i)), [])) in (
        between_calls end (refl, rest.1, rest.2),
        between_calls end' (refl, refl, refl),
        record { fork = fork_answered (Ok new) f.stays did end; given = f.given; free = f.free; given_is = f.given_is; view = ap (λ z. z.0) end' },
      )
