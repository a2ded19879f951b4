-- Giving a place away, taking one in and giving it up keep the rule.
use Rattle.std.proofs.Common.{◌≡◌, ℕ, ◌≢◌, List, [], set, sym, refl, ap, ◌∙◌, subst, inl, inr, Option, Some, None}
use Rattle.std.proofs.lemmas.List.{set-get_or}
use Rattle.std.proofs.lemmas.Option.{same_Some, none-some}
use mathlib.Core.Option.{none, some}
use lib.ListN.{get_elem?}
use Rattle.atomic_table.specs.Table.{step, keeps, Allows, Splits, Joins}
use Rattle.atomic_table.proofs.Lists.{at_set, set_here, set_else}
use Rattle.seat_lock.specs.declared.view.View.{View}
use Rattle.seat_lock.specs.declared.stepped.Stepped.{Ghosts}
use Rattle.seat_lock.specs.Parts.{Has}
use Rattle.seat_lock.specs.Rule.{MeOf, Sits, Agree, Ruled}
use Rattle.seat_lock.specs.Plays.{Releases}
use Rattle.seat_lock.specs.Turns.{HasGuest, MayGiveAway}
use Rattle.seat_lock.specs.Views.{IsAtRest, resting_view, seat_at, notes_with, notes_without, with_note, with_guest, without_guest}
use Rattle.seat_lock.proofs.Lists.{begins_self}
use Rattle.seat_lock.proofs.Fairness.{notes_clash, sits_alone, agree_set, agree_append, agree_joined, holder_set}
use Rattle.seat_lock.proofs.Turning.{noter_holds_turn, turn_set, turn_append}

module _ {C Ev R P E : Type 0} (g : Ghosts C Ev R P E) (from : ℕ) where
  -- the seat is told of what another has seen, and takes in its place
  pub take_in_keeps_rule : (id : ℕ) (v : View E P) (other : ℕ) (w : View E P) (f : ℕ) → IsAtRest v → IsAtRest w → f ≡ v.from → Joins (Ruled g from) id v other w (with_guest v w) (resting_view f [] None)
  take_in_keeps_rule id v other w f rest rest' same s r at apart there = record {
    history = r.history;
    parts = r.parts;
    wide = r.wide;
    counted = r.counted;
    agree = agree_joined (with_guest v w) f r.agree at apart there refl refl refl rest.1 rest'.1 same (λ p x is. elim is [ inl e ↦ inl (inl e) | inr e ↦ inr (inl e) ])
        (λ p q x y is is' a there'. λ e. apart (a.apart other id w v p y x there' at (inl (is' ∙ ap (λ (k : ℕ). Some (k, y)) (sym e))) (inl is)));
    turn = turn_set other w (resting_view f [] None) there (sym rest'.0) (λ on _. absurd (notes_clash w r.parts rest'.0 on)) (turn_set id v (with_guest v w) at refl (λ _ e. e) r.turn);
  }

  -- the seat with the turn gives its guest's place up
  pub release_keeps_rule : (slots id : ℕ) (m : MeOf C E P) → HasGuest m.0 → Allows (Ruled g from) slots id m 0 (λ n. n) (Releases (step slots 0 0 0 none) m)
  release_keeps_rule slots id m o s r deep at _ = let h = noter_holds_turn r at o.notes in let me = h.1 in let a = r.agree.fair in let b = a.begins id m.0 at in let w : View E P = without_guest m.0 in let ns : List (Option P) = set o.parts o.place None in
      let to : (p : ℕ) (x : P) → p ≢ o.place → Has r.parts p x → Has ns p x = λ p x ne has. set_else o.parts o.place p None ne ∙ subst (λ (z : List (Option P)). Has z p x) (sym me.same) has in (
        w,
        keeps,
        tt,
        subst (λ (ws : List ℕ). Ruled g from (record { words = ws; homes = s.homes; views = set s.views id w })) (sym (set-get_or s.words 0 0)) record {
          history = r.history;
          parts = ns;
          wide = r.wide;
          counted = r.counted;
          agree = agree_set a at (begins_self r.history) me.knows (record {
            from_is = b.0;
            seen = b.1;
            told = (r.history, refl);
            own = λ p x is. elim is [
              | inl e ↦ (to p x (a.twice id m.0 p o.place x o.part at e o.guest) (a.placed id m.0 p x at (inl e)), sits_alone p x a at (inl e))
              | inr e ↦ absurd (none-some (p, x) e)
            ];
            two = λ p q x y _ e. absurd (none-some (q, y) e);
            others = λ j u p x other e is. to p x (λ same. other (a.apart j id u m.0 o.place x o.part e at (subst (λ (k : ℕ). Sits u k x) same is) (inr o.guest))) (a.placed j u p x e is);
          });
          turn = inr (record { busy = h.0.busy; one = holder_set w h.0.one me at (λ i. notes_without (o.guest i) (o.notes i)) me.knows });
        },
        refl,
      )

  -- the seat with the turn gives a place away that no view has
  give_away_keeps_rule : (id : ℕ) (v : View E P) (k : ℕ) (y : P) → MayGiveAway v k (Some y) → Splits (Ruled g from) id v (with_note k (Some y) v) (resting_view v.from v.seen (Some (k, y)))
  give_away_keeps_rule id v k y o s r at = let ns : List (Option P) = o.parts in let h = noter_holds_turn r at o.notes in let me = h.1 in let a = r.agree.fair in let b = a.begins id v at in let ns' : List (Option P) = set ns k (Some y) in
      let u : View E P = with_note k (Some y) v in let w : View E P = resting_view v.from v.seen (Some (k, y)) in
      let far : (j : ℕ) (z : View E P) (p : ℕ) (x : P) → get_elem? s.views j ≡ some z → Sits z p x → p ≢ k = λ j z p x e is same. o.free x (subst (λ (q : ℕ × List (Option P)). Has q.1 q.0 x) (λ i. (same i, sym me.same i)) (a.placed j z p x e is)) in
      let still : (j : ℕ) (z : View E P) (p : ℕ) (x : P) → get_elem? s.views j ≡ some z → Sits z p x → Has ns' p x = λ j z p x e is. set_else ns k p (Some y) (far j z p x e is) ∙ subst (λ (q : List (Option P)). Has q p x) (sym me.same) (a.placed j z p x e is) in
      let views1 : List (View E P) = set s.views id u in
      let a1 : Agree from r.history ns' views1 = agree_set a at (begins_self r.history) me.knows (record {
        from_is = b.0;
        seen = b.1;
        told = b.2;
        own = λ p x is. (still id v p x at is, sits_alone p x a at is);
        two = λ p q x y' is is'. a.twice id v p q x y' at is is';
        others = λ j z p x _ e is. still j z p x e is;
      }) in
      let here : (p : ℕ) (x : P) → Sits w p x → (k, y) ≡ (p, x) = λ p x mine. elim mine [ inl c ↦ same_Some (k, y) (p, x) c | inr c ↦ absurd (none-some (p, x) c) ] in
      let fresh : (j : ℕ) (z : View E P) (p : ℕ) (x x' : P) → get_elem? views1 j ≡ some z → Sits w p x → Sits z p x' → ⊥ = λ j z p x x' e mine its. let same : p ≡ k = sym (ap (λ (q : ℕ × P). q.0) {x = (k, y)} {y = (p, x)} (here p x mine)) in elim (at_set s.views id j u z e) [
        | inl q ↦ far id v p x' at (subst (λ (c : View E P). Sits c p x') (sym q.1) its) same
        | inr q ↦ far j z p x' q.1 its same
      ] in
      record {
        history = r.history;
        parts = ns';
        wide = r.wide;
        counted = r.counted;
        agree = agree_append w a1 b.0 b.1 (r.history, refl) (λ p x is. subst (λ (q : ℕ × P). Has ns' q.0 q.1) (here p x is) (set_here ns k (Some y) o.within)) refl fresh;
        turn = turn_append w refl (inr (record { busy = h.0.busy; one = holder_set u h.0.one me at (ap (notes_with k (Some y)) o.notes) me.knows }));
      }

  -- the same, where the part is known by an equation
  pub cut_keeps_rule : (id : ℕ) (v : View E P) (k : ℕ) (given : Option P) → MayGiveAway v k given → Splits (Ruled g from) id v (with_note k given v) (resting_view v.from v.seen (seat_at k given))
  cut_keeps_rule id v k given o = subst (λ (q : Option P). Splits (Ruled g from) id v (with_note k q v) (resting_view v.from v.seen (seat_at k q))) (sym o.given_is)
      (give_away_keeps_rule id v k o.part (subst (λ (q : Option P). MayGiveAway v k q) o.given_is o))
