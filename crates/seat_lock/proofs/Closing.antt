-- What is known of a value that is taken out for good.
use Rattle.std.proofs.Common.{◌≡◌, ℕ, zero, suc, ◌<◌, ◌≤◌, ◌≢◌, [], ◌∷◌, sym, refl, ap, ◌∙◌, subst, arith, Option, Some, None}
use mathlib.Core.Logic.{dite}
use native.Mathlib.Decide.{ℕ_discrete}
use Rattle.atomic_table.specs.Table.{rest}
use Rattle.seat_lock.specs.declared.stepped.Stepped.{Ghosts}
use Rattle.seat_lock.specs.Parts.{weight, how_many}
use Rattle.seat_lock.specs.Rule.{MeOf}
use Rattle.seat_lock.specs.Plays.{Carries, Taken}
use Rattle.seat_lock.specs.Outcomes.{Meeting, Closed}
use Rattle.seat_lock.proofs.Lists.{found_in_bounds}
use Rattle.seat_lock.proofs.Meeting.{taken_carries, found_carried, has_met}

module _ {P : Type 0} where
  -- a place below n that is out is counted
  how_many-out : (f : ℕ → Option P) (n p : ℕ) (x : P) → p < n → f p ≡ Some x → 1 ≤ how_many f n
  how_many-out f zero p x h e = absurd (omega arith)
  how_many-out f (suc n) p x h e = dite (ℕ_discrete p n)
      (λ same. let w : weight (f n) ≡ 1 = ap weight (ap f (sym same) ∙ e) in omega arith)
      (λ other. let i = how_many-out f n p x (omega arith) e in omega arith)

  -- what weighs nothing is not out
  weight-none : (o : Option P) → weight o ≡ 0 → o ≡ None
  weight-none None e = refl
  weight-none (Some x) e = absurd (omega arith)

  -- where none is out, this one is not
  none_is_out : (f : ℕ → Option P) (n q : ℕ) → how_many f n ≡ 0 → q < n → f q ≡ None
  none_is_out f zero q e h = absurd (omega arith)
  none_is_out f (suc n) q e h = dite (ℕ_discrete q n) (λ last. ap f last ∙ weight-none (f n) (omega arith)) (λ not_last. none_is_out f n q (omega arith) (omega arith))

  -- where at most one of the first n places is out, and this one is, no other is
  only_one_out : (f : ℕ → Option P) (n p q : ℕ) (x : P) → how_many f n ≤ 1 → p < n → f p ≡ Some x → q < n → q ≢ p → f q ≡ None
  only_one_out f zero p q x one h e i ne = absurd (omega arith)
  only_one_out f (suc n) p q x one h e i ne = dite (ℕ_discrete q n)
      (λ last. let c = how_many-out f n p x (omega arith) e in ap f last ∙ weight-none (f n) (omega arith))
      (λ not_last. dite (ℕ_discrete p n)
      (λ same. let w : weight (f n) ≡ 1 = ap weight (ap f (sym same) ∙ e) in none_is_out f n q (omega arith) (omega arith))
      (λ other. only_one_out f n p q x (omega arith) (omega arith) e (omega arith) ne))

module _ {C Ev R P E : Type 0} {g : Ghosts C Ev R P E} where
  -- where at most one place is out in the value that was taken out, the seat's is
  pub closed_alone : {m w z : MeOf C E P} {found : Option C} {core : C} {place : ℕ} {x : P} {out : ℕ} → Taken g m w → m.1 ≡ [] → z ≡ w → z.1 ≡ (0, found) ∷ rest z.1 → found ≡ Some core → m.0.seat ≡ Some (place, x)
      → ((c : C) → Carries w c → out ≡ how_many (g.part_at c) (g.places c)) → out ≤ 1 → Closed g core m.0
  closed_alone {m} {w} {z} {found} {core} {place} {x} t none same value is seat counted few = let value' : w.1 ≡ (0, found) ∷ rest w.1 = subst (λ (q : MeOf C E P). q.1 ≡ (0, found) ∷ rest q.1) same value in
      let met : Meeting g core m.0 place = (has_met t none value' is seat).meeting in
      let count = counted core (subst (λ (c : C). Carries w c) (found_carried t none value' is) (taken_carries t none)) in record {
        place = place;
        meeting = met;
        alone = λ q i ne. only_one_out (g.part_at core) (g.places core) place q met.found (omega (arith, count, few)) (subst (λ (n : ℕ). place < n) met.fits.each (found_in_bounds met.parts place (Some x) met.has)) met.found_is i ne;
      }
