-- What a join of the value leaves, by the laws of its trait.
use Rattle.std.proofs.Common.{◌≡◌, ℕ, ◌≢◌, [], ◌∷◌, refl, ap, ◌∙◌, subst, Option, Some, None, length-set}
use Rattle.atomic_table.specs.Table.{rest}
use Rattle.atomic_table.proofs.Lists.{set_else}
use Rattle.seat_lock.specs.declared.view.View.{View}
use Rattle.seat_lock.specs.declared.stepped.Stepped.{Ghosts}
use Rattle.seat_lock.specs.Parts.{Has, Begins, Meets, Joined}
use Rattle.seat_lock.specs.Rule.{MeOf}
use Rattle.seat_lock.specs.Plays.{Carries, Holds, Taken}
use Rattle.seat_lock.specs.Turns.{IsBetweenCalls, HasGuest, MayHandOver}
use Rattle.seat_lock.specs.Outcomes.{MayEndAt, TakenBack}
use Rattle.seat_lock.specs.Views.{notes_without, seat_at, with_guest, without_guest, without_turn}
use Rattle.seat_lock.proofs.Meeting.{LawsOf, HasMet, taken_carries, holds_found, meeting_of, meets, seat_changed, may_go_home, leads_set, leads_on, fits_after, handed_over, between_calls}

module _ {C Ev R P E : Type 0} (g : Ghosts C Ev R P E) where
  -- the seat of this place, whose view was v, has taken in the seat of another place, whose view was o and whose part is idle, and then the value
  pub record Hosts (core : C) (v o : View E P) (w : MeOf C E P) (place other : ℕ) : Type 0 where
    pub has_met : HasMet g core v (with_guest v o) w place
    pub open has_met use *
    pub other_known : P
    pub other_had : o.seat ≡ Some (other, other_known)
    pub other_has : Has meeting.parts other other_known
    pub other_begins : Begins o.seen meeting.history
    pub apart : place ≢ other
    pub other_idle : g.idle other_known

module _ {C Ev R P E : Type 0} {g : Ghosts C Ev R P E} where
  -- a seat that took another in, and then the value
  pub hosts : {m' w : MeOf C E P} {found : Option C} {core : C} {place : ℕ} {x : P} (m : MeOf C E P) (o : View E P) (other : ℕ) → m' ≡ (with_guest m.0 o, m.1) → Taken g m' w → m.1 ≡ [] → w.1 ≡ (0, found) ∷ rest w.1 → found ≡ Some core → m.0.seat ≡ Some (place, x)
      → MayEndAt g o other → Hosts g core m.0 o w place other
  hosts {m'} {w} {found} {core} {place} {x} m o other is t none value found_is seat ends = let u : View E P = with_guest m.0 o in let t' : Taken g (u, m.1) w = subst (λ (z : MeOf C E P). Taken g z w) is t in
      let h : Holds g core u w.0 = holds_found t' none value found_is in let guest = h.guest other ends.0 ends.1 in record {
        has_met = record { meeting = meeting_of seat h.fits (h.placed place x seat) h.begins; view = h.view; taken = t'.core; carries = taken_carries t' none };
        other_known = ends.0;
        other_had = ends.1;
        other_has = guest.0;
        other_begins = h.told;
        apart = guest.1 place x seat;
        other_idle = ends.2;
      }

module _ {C Ev R P E : Type 0} {g : Ghosts C Ev R P E} (laws : LawsOf g) {core : C} {v o : View E P} {w : MeOf C E P} (t : C) (place other : ℕ) (h : Hosts g core v o w place other) where
  -- the other seat meets the value too
  abbrev other_meets : Meets g.part_at g.onward g.places g.safe core other v.from h.meeting.history h.meeting.parts
  other_meets = let l = h.meeting.fits.leads other h.other_known h.other_has in record { known = h.other_known; found = l.0; is_safe = h.meeting.fits.is_safe; has = h.other_has; found_is = l.1; moved = l.2 }

  -- its part in the value is idle
  other_rests : g.idle other_meets.found
  other_rests = laws.idle_stays h.other_known other_meets.found other_meets.moved h.other_idle

  -- so the join may be made
  pub may_join : (y : P) × (g.part_at core other ≡ Some y) × g.idle y
  may_join = (other_meets.found, other_meets.found_is, other_rests)

  -- what the join leaves
  join_keeps : g.joins core place other t → Joined g.part_at g.onward g.places g.safe place other v.from core t h.meeting.history h.meeting.parts
  join_keeps did = laws.join_keeps core t place other v.from h.meeting.history h.meeting.parts h.apart (meets h.meeting) other_meets other_rests did

  -- the seat may give its guest's place up
  pub has_guest : HasGuest w.0
  has_guest = record { parts = h.meeting.parts; place = other; part = h.other_known; notes = ap (λ (z : View E P). z.notes) h.view; guest = ap (λ (z : View E P). z.guest) h.view ∙ h.other_had }

  -- once it has given it up, the value may go home
  pub may_hand_over : {m : MeOf C E P} → g.joins core place other t → m ≡ (without_guest w.0, (0, Some t) ∷ rest w.1) → MayHandOver g m place
  may_hand_over did is = let k = join_keeps did in let met = h.meeting in
      let notes = ap (λ (s : Option (ℕ × P)). notes_without s (Some met.parts)) h.other_had in
      let leads = leads_set laws (λ p. p ≢ place) met.parts t other None k.free (leads_on laws (λ p. (p ≢ other) × (p ≢ place)) met.fits (λ p x these. k.moves p x (these.1, these.0))) in
      may_go_home (seat_changed without_guest h.has_met is) notes met.had (set_else met.parts other place None h.apart ∙ met.has) k.stays.part_is (fits_after laws k.stays (length-set met.parts other None ∙ met.fits.each) leads)

  -- and the other's place was taken back
  pub join_outcome : {m u : MeOf C E P} → g.joins core place other t → m ≡ (without_guest w.0, (0, Some t) ∷ rest w.1) → ((c : C) → Carries m c → u ≡ (without_turn m.0 (seat_at place (g.part_at c place)), [])) → IsBetweenCalls u × TakenBack g v u.0 o
  join_outcome did is given = let k = join_keeps did in let end = handed_over g.part_at (seat_changed without_guest h.has_met is) given k.stays.part_is in (
    between_calls end (refl, refl, refl),
    record {
      move = record { before = core; after = t; place = place; meeting = h.meeting; new = k.stays.part; new_is = k.stays.part_is };
      other = other;
      other_known = h.other_known;
      other_had = h.other_had;
      other_has = h.other_has;
      other_begins = h.other_begins;
      did = did;
      freed = k.free;
      view = ap (λ z. z.0) end;
    },
  )
