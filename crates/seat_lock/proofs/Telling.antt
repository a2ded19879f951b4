-- Giving a note of what was seen, and seeing all of the history, keep the rule.
use Rattle.std.proofs.Common.{ℕ, ◌+◌, List, [], ◌∷◌, ◌++◌, length, set, sym, refl, ap, ◌∙◌, subst, None}
use Rattle.std.proofs.lemmas.List.{set-get_or}
use mathlib.Core.Option.{none}
use Rattle.atomic_table.specs.Table.{step, keeps, Allows, Splits}
use Rattle.atomic_table.proofs.Lists.{set_again}
use Rattle.seat_lock.specs.declared.view.View.{View}
use Rattle.seat_lock.specs.declared.stepped.Stepped.{Ghosts}
use Rattle.seat_lock.specs.Rule.{MeOf, Ruled}
use Rattle.seat_lock.specs.Plays.{Looks}
use Rattle.seat_lock.specs.Views.{resting_view, with_all_seen}
use Rattle.seat_lock.proofs.Lists.{begins_self}
use Rattle.seat_lock.proofs.Fairness.{sits_nowhere, agree_set, keeps_places, agree_append}
use Rattle.seat_lock.proofs.Turning.{turn_set, turn_append}

module _ {C Ev R P E : Type 0} (g : Ghosts C Ev R P E) (from : ℕ) where
  -- a look at all of the history
  pub look_keeps_rule : (slots id : ℕ) (m : MeOf C E P) → Allows (Ruled g from) slots id m 0 (λ n. n) (Looks (step slots 0 0 0 none) m)
  look_keeps_rule slots id m s r deep at _ = let a = r.agree.fair in let b = a.begins id m.0 at in let w : View E P = with_all_seen m.0 r.history in (
    w,
    keeps,
    tt,
    subst (λ (ws : List ℕ). Ruled g from (record { words = ws; homes = s.homes; views = set s.views id w })) (sym (set-get_or s.words 0 0)) record {
      history = r.history;
      parts = r.parts;
      wide = r.wide;
      counted = r.counted;
      agree = agree_set a at (begins_self r.history) refl (keeps_places a at refl (begins_self r.history) (r.history, refl) refl refl);
      turn = turn_set id m.0 w at refl (λ _ _. refl) r.turn;
    },
    record { history = r.history; seen = b.1; told = b.2; view = refl; counted = r.counted ∙ ap (λ (f : ℕ). f + length r.history) (sym b.0) },
  )

  -- a note for another seat
  pub note_keeps_rule : (id : ℕ) (v : View E P) → Splits (Ruled g from) id v v (resting_view v.from v.seen None)
  note_keeps_rule id v s r at = let w : View E P = resting_view v.from v.seen None in let b = r.agree.fair.begins id v at in
      subst (λ (vs : List (View E P)). Ruled g from (record { words = s.words; homes = s.homes; views = vs ++ w ∷ [] })) (sym (set_again s.views id v at)) record {
        history = r.history;
        parts = r.parts;
        wide = r.wide;
        counted = r.counted;
        agree = agree_append w r.agree b.0 b.1 (r.history, refl) (λ p x is. absurd (sits_nowhere w p x refl refl is)) refl (λ j u p x y _ is _. sits_nowhere w p x refl refl is);
        turn = turn_append w refl r.turn;
      }
