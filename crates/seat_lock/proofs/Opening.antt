-- A new lock's table meets the rule.
use Rattle.std.proofs.Common.{◌≡◌, ℕ, ◌<◌, List, [], ◌∷◌, sym, refl, ap, ◌∙◌, subst, inl, inr, Option, Some, add-zero}
use Rattle.std.proofs.lemmas.Option.{same_Some, none-some}
use mathlib.Core.Option.{some}
use Rattle.atomic_table.specs.Table.{opening}
use Rattle.seat_lock.specs.declared.view.View.{View}
use Rattle.seat_lock.specs.declared.stepped.Stepped.{Ghosts}
use Rattle.seat_lock.specs.Parts.{Has, Begins, IsOut, listing}
use Rattle.seat_lock.specs.Rule.{Sits, IsSafeAtFirst, Ruled}
use Rattle.seat_lock.specs.Views.{seat_at, first_view}
use Rattle.seat_lock.proofs.Lists.{found_alone, listing-found, listing-at, listing-length}

module _ {C Ev R P E : Type 0} (g : Ghosts C Ev R P E) (onward_self : (x : P) → g.onward x x) where
  pub opening_meets_rule : (core : C) → 0 < g.places core → IsOut g.part_at core 0 → IsSafeAtFirst g core
      → Ruled g (g.front_is core) (opening (g.front_is core ∷ 0 ∷ 0 ∷ []) (Some core ∷ []) (first_view (g.front_is core) (g.part_at core 0)))
  opening_meets_rule core some_places out safe = let n : ℕ = g.front_is core in let v : View E P = first_view n (g.part_at core 0) in let ps : List (Option P) = listing (g.part_at core) (g.places core) in record {
    history = [];
    parts = ps;
    wide = refl;
    counted = sym (add-zero n);
    agree = record {
      knower = (0, v, refl, inl refl);
      fair = record {
        begins = λ j u e. let a = found_alone v u j e in subst (λ (z : View E P). (z.from ≡ n) × Begins z.seen [] × Begins z.told []) a.1 (refl, ([], refl), ([], refl));
        placed = λ j u p y e is. elim (subst (λ (z : View E P). Sits z p y) (sym (found_alone v u j e).1) is) [
          | inl its ↦ subst (λ (z : ℕ × P). Has ps z.0 z.1) (same_Some (0, out.0) (p, y) (ap (seat_at 0) (sym out.1) ∙ its)) (listing-at (g.part_at core) (g.places core) 0 some_places ∙ ap some out.1)
          | inr its ↦ absurd (none-some (p, y) its)
        ];
        apart = λ i j u u' p y z e e' _ _. (found_alone v u i e).0 ∙ sym (found_alone v u' j e').0;
        twice = λ j u p q y z e _ is. absurd (none-some (q, z) (ap (λ (c : View E P). c.guest) (found_alone v u j e).1 ∙ is));
      };
    };
    turn = inl (record {
      free = refl;
      nobody = λ j u e. sym (ap (λ (z : View E P). z.notes) (found_alone v u j e).1);
      core = core;
      home = refl;
      fits = record {
        is_safe = safe;
        each = listing-length (g.part_at core) (g.places core);
        leads = λ p y has. (y, listing-found (g.part_at core) (g.places core) p (Some y) has, onward_self y);
      };
    });
  }
