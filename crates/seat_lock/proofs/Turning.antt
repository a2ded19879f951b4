-- Taking the turn and giving it back keep the rule, and so does each step on the other words.
use Rattle.std.proofs.Common.{◌≡◌, ℕ, ◌+◌, ◌<◌, ◌%◌, ◌^◌, eqb, ◌≢◌, List, [], ◌∷◌, ◌++◌, length, get_or, set, sym, refl, ap, ◌∙◌, subst, inl, inr, arith, Option, Some, None, length-append, length-set, get_or-set_other, get_or-set_same}
use Rattle.std.proofs.lemmas.List.{set-get_or}
use Rattle.std.proofs.lemmas.Option.{same_Some}
use Rattle.std.proofs.Math.Nat.{mod-eq_of_lt}
use mathlib.Core.List.{append-nil}
use mathlib.Core.Logic.{dite}
use mathlib.Core.Option.{none, some}
use native.Mathlib.Decide.{ℕ_discrete}
use lib.ListN.{get_elem?}
use prog.Atomic.{either}
use Rattle.atomic_table.specs.Table.{Act, Step, step, keeps, takes, gives, Valid, carried_after, stepped, rest, Allows}
use Rattle.atomic_table.proofs.Lists.{at_set, set_here, set_else, set_again, at_longer, exchanged}
use Rattle.seat_lock.specs.declared.view.View.{View}
use Rattle.seat_lock.specs.declared.stepped.Stepped.{Ghosts}
use Rattle.seat_lock.specs.Parts.{Has, Begins}
use Rattle.seat_lock.specs.Rule.{StateOf, MeOf, Sits, Fits, TurnHeld, Turn, Ruled}
use Rattle.seat_lock.specs.Plays.{Takes, Grows, GivesBack, Gives, Carries}
use Rattle.seat_lock.specs.Turns.{MayPutBack, MayHandOver}
use Rattle.seat_lock.specs.Views.{seat_at, with_turn, with_more, without_turn}
use Rattle.seat_lock.proofs.Lists.{found_in_bounds, begins_self, begins_trans, same_place, one_value, found_at_end}
use Rattle.seat_lock.proofs.Fairness.{notes_clash, sits_alone, MayStand, agree_set, keeps_places, HasTheTurn, noter_has_turn, no_turn_set, one_turn_set, holder_set}

-- the state with these views
abbrev pub with_views : {C E P : Type 0} → StateOf C E P → List (View E P) → StateOf C E P
with_views s views = record { words = s.words; homes = s.homes; views = views }

module _ {C Ev R P E : Type 0} {g : Ghosts C Ev R P E} {from : ℕ} where
  -- the turn stays where it is where a view changes neither its notes nor, where it has all of the history, what it has seen
  pub turn_set : {h : List E} {ps : List (Option P)} {s : StateOf C E P} (id : ℕ) (v w : View E P) → get_elem? s.views id ≡ some v → w.notes ≡ v.notes → (v.notes ≡ Some ps → v.seen ≡ h → w.seen ≡ h) → Turn g from h ps s
      → Turn g from h ps (with_views s (set s.views id w))
  turn_set {s = s} id v w at same seen turn = elim turn [
    | inl t ↦ inl (record { free = t.free; nobody = no_turn_set s.views id v w at same t.nobody; core = t.core; home = t.home; fits = t.fits })
    | inr t ↦ inr (record { busy = t.busy; one = one_turn_set id v w at same seen t.one })
  ]

  -- and where a view comes that has no notes
  pub turn_append : {h : List E} {ps : List (Option P)} {s : StateOf C E P} (w : View E P) → w.notes ≡ None → Turn g from h ps s → Turn g from h ps (with_views s (s.views ++ w ∷ []))
  turn_append {s = s} w off turn =
      let quiet : (u : View E P) (j : ℕ) → (get_elem? s.views j ≡ some u → u.notes ≡ None) → get_elem? (s.views ++ w ∷ []) j ≡ some u → u.notes ≡ None = λ u j old e. elim (found_at_end s.views w u j e) [
        | inl q ↦ old q
        | inr q ↦ sym (ap (λ (z : View E P). z.notes) q.1) ∙ off
      ] in
      elim turn [
        | inl t ↦ inl (record { free = t.free; nobody = λ j u. quiet u j (t.nobody j u); core = t.core; home = t.home; fits = t.fits })
        | inr t ↦ let o = t.one in inr (record {
          busy = t.busy;
          one = record { holder = o.holder; view = o.view; there = at_longer s.views (w ∷ []) o.holder o.view o.there; notes = o.notes; knows = o.knows; alone = λ j u other. quiet u j (o.alone j u other) };
        })
      ]

  -- a view with notes has the turn
  pub noter_holds_turn : {s : StateOf C E P} {id : ℕ} {v : View E P} {ns : List (Option P)} (r : Ruled g from s) → get_elem? s.views id ≡ some v → v.notes ≡ Some ns → (t : TurnHeld g from r.history r.parts s) × HasTheTurn r.history r.parts ns id v t.one.holder
  noter_holds_turn {id = id} {v = v} {ns = ns} r at e = elim r.turn [ inl t ↦ absurd (notes_clash v ns (t.nobody id v at) e) | inr t ↦ (t, noter_has_turn t.one at e) ]

  -- a word may become another where the count of the history stays and the turn does
  word_set : (s : StateOf C E P) (r : Ruled g from s) (i n id : ℕ) (m : MeOf C E P) → get_elem? s.views id ≡ some m.0 → get_or (set s.words i n) 0 0 ≡ get_or s.words 0 0
      → Turn g from r.history r.parts (record { words = set s.words i n; homes = s.homes; views = s.views }) → Ruled g from (stepped s i n id m.1 m.0 keeps)
  word_set s r i n id m at count turn = subst (λ (views : List (View E P)). Ruled g from (record { words = set s.words i n; homes = s.homes; views = views })) (sym (set_again s.views id m.0 at)) record {
    history = r.history;
    parts = r.parts;
    wide = length-set s.words i n ∙ r.wide;
    counted = count ∙ r.counted;
    agree = r.agree;
    turn = turn;
  }

  -- the value goes home, and the view may come to stand without the turn
  home_keeps_rule : (s : StateOf C E P) (r : Ruled g from s) (id : ℕ) (m : MeOf C E P) (ns ns' : List (Option P)) (core : C) (t : Option (ℕ × P)) → get_elem? s.views id ≡ some m.0 → 0 < length s.homes → m.0.notes ≡ Some ns → Carries m core
      → Fits g core m.0.from m.0.seen ns' → MayStand from m.0.seen ns' s.views id (without_turn m.0 t) → Ruled g from (stepped s 1 0 id m.1 (without_turn m.0 t) gives)
  home_keeps_rule s r id m ns ns' core t at deep turn carried fits stands = let h = noter_holds_turn r at turn in let o = h.0.one in let me = h.1 in let w : View E P = without_turn m.0 t in
      subst (λ (c : List (ℕ × Option C)). Ruled g from (stepped s 1 0 id c w gives)) (sym carried) record {
        history = m.0.seen;
        parts = ns';
        wide = length-set s.words 1 0 ∙ r.wide;
        counted = get_or-set_other s.words 1 0 0 0 (λ e. omega arith) ∙ (r.counted ∙ ap (λ (z : List E). from + length z) (sym me.knows));
        agree = agree_set r.agree.fair at ([], append-nil r.history ∙ sym me.knows) refl stands;
        turn = inl (record {
          free = get_or-set_same s.words 1 0 0 (let wide = r.wide in omega arith);
          nobody = λ j u e. elim (at_set s.views id j w u e) [
            | inl q ↦ sym (ap (λ (z : View E P). z.notes) q.1)
            | inr q ↦ o.alone j u (λ same. q.0 (same ∙ sym me.me)) q.1
          ];
          core = core;
          home = set_here s.homes 0 (some (Some core)) deep;
          fits = subst (λ (f : ℕ). Fits g core f m.0.seen ns') stands.from_is fits;
        });
      }

module _ {C Ev R P E : Type 0} (g : Ghosts C Ev R P E) (from : ℕ) where
  -- what is owed of a step by which the turn's word becomes k and tells what a try to take the turn does, where the word was n
  abbrev Trying : StateOf C E P → ℕ → ℕ → MeOf C E P → Step (Option C) → ℕ → Type 0
  Trying s k id m st n = (w : View E P) × (a : Act (Option C)) × Valid s.homes m.1 a × Ruled g from (stepped s 1 k id m.1 w a) × Takes g st m n (w, carried_after m.1 a)

  -- where the turn is free, the seat takes it and the value
  take_free : (s : StateOf C E P) (r : Ruled g from s) (id k : ℕ) (m : MeOf C E P) (st : Step (Option C)) → k ≢ 0 → get_elem? s.views id ≡ some m.0 → 0 < length s.homes → get_or s.words 1 0 ≡ 0 → Trying s k id m st (get_or s.words 1 0)
  take_free s r id k m st busy at deep free = elim r.turn [
    | inr t ↦ absurd (t.busy free)
    | inl t ↦ let a = r.agree.fair in let b = a.begins id m.0 at in let w : View E P = with_turn m.0 r.history r.parts in let wide = r.wide in (
      w,
      takes 0 (Some t.core),
      t.home,
      record {
        history = r.history;
        parts = r.parts;
        wide = length-set s.words 1 k ∙ r.wide;
        counted = get_or-set_other s.words 1 0 k 0 (λ e. omega arith) ∙ r.counted;
        agree = agree_set a at (begins_self r.history) refl (keeps_places a at refl (begins_self r.history) b.2 refl refl);
        turn = inr (record {
          busy = λ e. busy (sym (get_or-set_same s.words 1 k 0 (omega arith)) ∙ e);
          one = record {
            holder = id;
            view = w;
            there = set_here s.views id w (found_in_bounds s.views id m.0 at);
            notes = refl;
            knows = refl;
            alone = λ j u other e. t.nobody j u (sym (set_else s.views id j w other) ∙ e);
          };
        });
      },
      (
        (λ _. record {
          core = t.core;
          holds = record {
            history = r.history;
            parts = r.parts;
            fits = subst (λ (f : ℕ). Fits g t.core f r.history r.parts) (sym b.0) t.fits;
            begins = b.1;
            told = b.2;
            placed = λ p x is. a.placed id m.0 p x at (inl is);
            guest = λ q y is. (a.placed id m.0 q y at (inr is), λ p x its. a.twice id m.0 p q x y at its is);
            view = refl;
          };
          carried = refl;
        }),
        λ not. absurd (not free),
      ),
    )
  ]

  -- a try to take the turn
  pub try_keeps_rule : (slots id : ℕ) (m : MeOf C E P) → slots ≡ 1 → Allows (Ruled g from) slots id m 1 (λ n. either (eqb n 0) 1 n) (Takes g (step slots 1 0 1 none) m)
  try_keeps_rule slots id m one s r deep at _ = let n : ℕ = get_or s.words 1 0 in
      let same : set s.words 1 n ≡ s.words = set-get_or s.words 1 0 in
      exchanged n 0 1 (λ k. Trying s k id m (step slots 1 0 1 none) n)
      (λ free. take_free s r id 1 m (step slots 1 0 1 none) (λ e. omega arith) at (omega arith) free)
      (λ busy. (
        m.0,
        keeps,
        tt,
        word_set s r 1 n id m at (ap (λ (ws : List ℕ). get_or ws 0 0) same) (subst (λ (ws : List ℕ). Turn g from r.history r.parts (record { words = ws; homes = s.homes; views = s.views })) (sym same) r.turn),
        ((λ e. absurd (busy e)), λ _. refl),
      ))

  -- the same, by which a busy turn's word tells that a seat waits
  pub call_keeps_rule : (slots id : ℕ) (m : MeOf C E P) (k : ℕ) → slots ≡ 1 → k ≢ 0 → Allows (Ruled g from) slots id m 1 (λ _. k) (Takes g (step slots 1 k 0 none) m)
  call_keeps_rule slots id m k one not_0 s r deep at _ = dite (ℕ_discrete (get_or s.words 1 0) 0)
      (λ free. take_free s r id k m (step slots 1 k 0 none) not_0 at (omega arith) free)
      (λ busy. (
        m.0,
        keeps,
        tt,
        word_set s r 1 k id m at (get_or-set_other s.words 1 0 k 0 (λ e. omega arith)) (elim r.turn [
          | inl t ↦ absurd (busy t.free)
          | inr t ↦ inr (record { busy = λ e. not_0 (sym (get_or-set_same s.words 1 k 0 (let wide = r.wide in omega arith)) ∙ e); one = t.one })
        ]),
        ((λ e. absurd (busy e)), λ _. refl),
      ))

  -- the word of changes may become anything
  pub change_keeps_rule : (slots id : ℕ) (m : MeOf C E P) (f : ℕ → ℕ) → Allows (Ruled g from) slots id m 2 f (λ _ m'. m' ≡ m)
  change_keeps_rule slots id m f s r deep at _ = let n : ℕ = f (get_or s.words 2 0) in let same : get_or (set s.words 2 n) 1 0 ≡ get_or s.words 1 0 = get_or-set_other s.words 2 1 n 0 (λ e. omega arith) in (
    m.0,
    keeps,
    tt,
    word_set s r 2 n id m at (get_or-set_other s.words 2 0 n 0 (λ e. omega arith)) (elim r.turn [
      | inl t ↦ inl (record { free = same ∙ t.free; nobody = t.nobody; core = t.core; home = t.home; fits = t.fits })
      | inr t ↦ inr (record { busy = λ e. t.busy (sym same ∙ e); one = t.one })
    ]),
    refl,
  )

  -- the seat with the turn adds entries
  pub grow_keeps_rule : (slots id : ℕ) (m : MeOf C E P) (ns : List (Option P)) (more : List E) (k : ℕ) → m.0.notes ≡ Some ns → k ≡ length more → m.0.from + length m.0.seen + k < 2 ^ 64
      → Allows (Ruled g from) slots id m 0 (λ n. (n + k) % 2 ^ 64) (Grows more (step slots 0 k 0 none) m)
  grow_keeps_rule slots id m ns more k turn len small s r deep at _ = let h = noter_holds_turn r at turn in let mine = h.1 in let a = r.agree.fair in let b = a.begins id m.0 at in
      let w : View E P = with_more m.0 more in
      let found : get_or s.words 0 0 ≡ m.0.from + length m.0.seen = r.counted ∙ (λ i. sym b.0 i + length (sym mine.knows i)) in
      let n : ℕ = (get_or s.words 0 0 + k) % 2 ^ 64 in
      let n_is : n ≡ get_or s.words 0 0 + k = mod-eq_of_lt (omega arith) in
      let longer : Begins r.history (m.0.seen ++ more) = (more, ap (λ (z : List E). z ++ more) (sym mine.knows)) in (
        w,
        keeps,
        tt,
        record {
          history = m.0.seen ++ more;
          parts = r.parts;
          wide = length-set s.words 0 n ∙ r.wide;
          counted = get_or-set_same s.words 0 n 0 (let wide = r.wide in omega arith) ∙ (let e = b.0 in omega (arith, length-append m.0.seen more));
          agree = agree_set a at longer refl (keeps_places a at refl (begins_self (m.0.seen ++ more)) (begins_trans m.0.told r.history (m.0.seen ++ more) b.2 longer) refl refl);
          turn = inr (record {
            busy = λ e. h.0.busy (sym (get_or-set_other s.words 0 1 n 0 (λ q. omega arith)) ∙ e);
            one = holder_set w h.0.one mine at (turn ∙ ap Some mine.same) refl;
          });
        },
        (refl, found),
      )

  -- the value goes home unchanged
  pub back_keeps_rule : (slots id : ℕ) (m : MeOf C E P) → slots ≡ 1 → MayPutBack g m → Allows (Ruled g from) slots id m 1 (λ _. 0) (GivesBack (step slots 1 0 0 none) m)
  back_keeps_rule slots id m one o s r deep at _ = let mine = (noter_holds_turn r at o.notes).1 in let a = r.agree.fair in
      let stands : MayStand from m.0.seen o.parts s.views id (without_turn m.0 m.0.seat) = subst (λ (ps : List (Option P)). MayStand from m.0.seen ps s.views id (without_turn m.0 m.0.seat)) (sym mine.same)
      (keeps_places a at refl (begins_self m.0.seen) (subst (λ (h : List E). Begins m.0.told h) (sym mine.knows) (a.begins id m.0 at).2) refl refl) in
      (without_turn m.0 m.0.seat, gives, tt, home_keeps_rule s r id m o.parts o.parts o.core m.0.seat at (omega arith) o.notes o.carries o.fits stands, refl)

  -- the value goes home, and the seat's part becomes the value's
  pub give_keeps_rule : (slots id : ℕ) (m : MeOf C E P) (p : ℕ) → slots ≡ 1 → MayHandOver g m p → Allows (Ruled g from) slots id m 1 (λ _. 0) (Gives g (step slots 1 0 0 none) m)
  give_keeps_rule slots id m p one o s r deep at _ = let mine = (noter_holds_turn r at o.notes).1 in let a = r.agree.fair in let ns : List (Option P) = o.parts in let z : Option P = Some o.new in
      let listed : (q : ℕ) (y : P) → Has r.parts q y → Has ns q y = λ q y has. subst (λ (k : List (Option P)). Has k q y) (sym mine.same) has in
      let stands : MayStand from m.0.seen (set ns p z) s.views id (without_turn m.0 (Some (p, o.new))) = record {
        from_is = (a.begins id m.0 at).0;
        seen = begins_self m.0.seen;
        told = subst (λ (h : List E). Begins m.0.told h) (sym mine.knows) (a.begins id m.0 at).2;
        own = λ q y is. elim is [
          | inl its ↦ let e : (p, o.new) ≡ (q, y) = same_Some (p, o.new) (q, y) its in (
            subst (λ (k : ℕ × P). Has (set ns p z) k.0 k.1) e (set_here ns p z (found_in_bounds ns p (Some o.old) o.has)),
            sits_alone q o.old a at (inl (o.seat ∙ ap (λ (k : ℕ × P). Some (k.0, o.old)) e)),
          )
          | inr its ↦ (
            set_else ns p q z (λ e. a.twice id m.0 p q o.old y at o.seat its (sym e)) ∙ listed q y (a.placed id m.0 q y at (inr its)),
            sits_alone q y a at (inr its),
          )
        ];
        two = λ q q' y y' is is'. let e : (p, o.new) ≡ (q, y) = same_Some (p, o.new) (q, y) is in subst (λ (k : ℕ). k ≢ q') (ap (λ (k : ℕ × P). k.0) e) (a.twice id m.0 p q' o.old y' at o.seat is');
        others = λ j u q y other e is. set_else ns p q z (λ same. other (a.apart j id u m.0 p y o.old e at (subst (λ (k : ℕ). Sits u k y) same is) (inl o.seat))) ∙ listed q y (a.placed j u q y e is);
      } in (
        without_turn m.0 (Some (p, o.new)),
        gives,
        tt,
        home_keeps_rule s r id m ns (set ns p z) o.core (Some (p, o.new)) at (omega arith) o.notes o.carries o.fits stands,
        λ core' q y carried' seat'.
            let same : o.core ≡ core' = one_value m.1 o.core core' o.carries carried' in
            let there : p ≡ q = same_place (p, o.old) (q, y) (sym o.seat ∙ seat') in
            let now : Some (p, o.new) ≡ seat_at q (g.part_at core' q) = sym (ap (seat_at p) o.new_is) ∙ (λ i. seat_at (there i) (g.part_at (same i) (there i))) in
            λ i. (without_turn m.0 (now i), rest (o.carries i)),
      )
