-- What stays fair among the views, whatever lies in the lock.
use Rattle.std.proofs.Common.{◌≡◌, ℕ, ◌≢◌, ◌⊎◌, List, [], ◌∷◌, ◌++◌, set, sym, refl, ap, ◌∙◌, subst, inl, inr, Option, Some, None}
use Rattle.std.proofs.lemmas.Option.{same_Some, none-some}
use mathlib.Core.Logic.{dite}
use mathlib.Core.Option.{some, some-injective}
use native.Mathlib.Decide.{ℕ_discrete}
use lib.ListN.{get_elem?}
use Rattle.atomic_table.proofs.Lists.{at_set, set_here, set_else, at_longer}
use Rattle.seat_lock.specs.declared.view.View.{View}
use Rattle.seat_lock.specs.Parts.{Has, Begins}
use Rattle.seat_lock.specs.Rule.{Sits, Fair, Agree, NoTurn, OneTurn}
use Rattle.seat_lock.specs.Views.{resting_view}
use Rattle.seat_lock.proofs.Lists.{found_in_bounds, begins_self, begins_trans, begins_empty, set_swap, found_at_end}

module _ {E P : Type 0} where
  -- a view without notes notes nothing
  pub notes_clash : (v : View E P) (ns : List (Option P)) → v.notes ≡ None → v.notes ≡ Some ns → ⊥
  notes_clash v ns a b = none-some ns (sym a ∙ b)

  -- a view without a seat and a guest has no place
  pub sits_nowhere : (v : View E P) (p : ℕ) (x : P) → v.seat ≡ None → v.guest ≡ None → Sits v p x → ⊥
  sits_nowhere v p x a b is = elim is [ inl e ↦ none-some (p, x) (sym a ∙ e) | inr e ↦ none-some (p, x) (sym b ∙ e) ]

  -- no view but this one has the place
  abbrev pub NoOtherSits : List (View E P) → ℕ → ℕ → Type 0
  NoOtherSits views id p = (j : ℕ) (z : View E P) (y : P) → j ≢ id → get_elem? views j ≡ some z → Sits z p y → ⊥

  -- the view w may come to stand at id: it has seen beginnings of the history, it has its places alone, and the others' are still listed
  pub record MayStand (from : ℕ) (h : List E) (ps : List (Option P)) (views : List (View E P)) (id : ℕ) (w : View E P) : Type 0 where
    pub from_is : w.from ≡ from
    pub seen : Begins w.seen h
    pub told : Begins w.told h
    pub own : (p : ℕ) (x : P) → Sits w p x → Has ps p x × NoOtherSits views id p
    pub two : (p q : ℕ) (x y : P) → w.seat ≡ Some (p, x) → w.guest ≡ Some (q, y) → p ≢ q
    pub others : (j : ℕ) (u : View E P) (p : ℕ) (x : P) → j ≢ id → get_elem? views j ≡ some u → Sits u p x → Has ps p x

  -- what stays fair where one view changes, the history may grow, and the parts by place may change
  pub fair_set : {from : ℕ} {h h' : List E} {ps ps' : List (Option P)} {views : List (View E P)} {id : ℕ} {w : View E P} → Fair from h ps views → Begins h h' → MayStand from h' ps' views id w → Fair from h' ps' (set views id w)
  fair_set {from} {h} {h'} {ps} {ps'} {views} {id} {w} a more m = record {
    begins = λ j u e. elim (at_set views id j w u e) [
      | inl t ↦ subst (λ (z : View E P). (z.from ≡ from) × Begins z.seen h' × Begins z.told h') t.1 (m.from_is, m.seen, m.told)
      | inr t ↦ let b = a.begins j u t.1 in (b.0, begins_trans u.seen h h' b.1 more, begins_trans u.told h h' b.2 more)
    ];
    placed = λ j u p x e is. elim (at_set views id j w u e) [
      | inl t ↦ (m.own p x (subst (λ (z : View E P). Sits z p x) (sym t.1) is)).0
      | inr t ↦ m.others j u p x t.0 t.1 is
    ];
    apart = λ i j u u' p x y e e' is is'. elim (at_set views id i w u e) [
      | inl t ↦ elim (at_set views id j w u' e') [
        | inl t' ↦ t.0 ∙ sym t'.0
        | inr t' ↦ absurd ((m.own p x (subst (λ (z : View E P). Sits z p x) (sym t.1) is)).1 j u' y t'.0 t'.1 is')
      ]
      | inr t ↦ elim (at_set views id j w u' e') [
        | inl t' ↦ absurd ((m.own p y (subst (λ (z : View E P). Sits z p y) (sym t'.1) is')).1 i u x t.0 t.1 is)
        | inr t' ↦ a.apart i j u u' p x y t.1 t'.1 is is'
      ]
    ];
    twice = λ j u p q x y e is is'. elim (at_set views id j w u e) [
      | inl t ↦ m.two p q x y (ap (λ (z : View E P). z.seat) t.1 ∙ is) (ap (λ (z : View E P). z.guest) t.1 ∙ is')
      | inr t ↦ a.twice j u p q x y t.1 is is'
    ];
  }

  -- the same where the view goes on to all of the history
  pub agree_set : {from : ℕ} {h h' : List E} {ps ps' : List (Option P)} {views : List (View E P)} {id : ℕ} {v w : View E P} → Fair from h ps views → get_elem? views id ≡ some v → Begins h h' → w.seen ≡ h' → MayStand from h' ps' views id w
      → Agree from h' ps' (set views id w)
  agree_set {views = views} {id = id} {v = v} {w = w} a at more all m = record { knower = (id, w, set_here views id w (found_in_bounds views id v at), inl all); fair = fair_set a more m }

  -- the place of one view is no other's
  pub sits_alone : {from : ℕ} {h : List E} {ps : List (Option P)} {views : List (View E P)} {id : ℕ} {v : View E P} (p : ℕ) (x : P) → Fair from h ps views → get_elem? views id ≡ some v → Sits v p x → NoOtherSits views id p
  sits_alone {id = id} {v = v} p x a at is j z y other e its = other (a.apart j id z v p y x e at its is)

  -- a view that keeps its places may come to stand where it stood
  pub keeps_places : {from : ℕ} {h h' : List E} {ps : List (Option P)} {views : List (View E P)} {id : ℕ} {v w : View E P} → Fair from h ps views → get_elem? views id ≡ some v → w.from ≡ v.from → Begins w.seen h' → Begins w.told h'
      → w.seat ≡ v.seat → w.guest ≡ v.guest → MayStand from h' ps views id w
  keeps_places {id = id} {v = v} {w = w} a at same seen told seat guest =
      let sits : (p : ℕ) (x : P) → Sits w p x → Sits v p x = λ p x is. elim is [ inl e ↦ inl (sym seat ∙ e) | inr e ↦ inr (sym guest ∙ e) ] in record {
        from_is = same ∙ (a.begins id v at).0;
        seen = seen;
        told = told;
        own = λ p x is. (a.placed id v p x at (sits p x is), sits_alone p x a at (sits p x is));
        two = λ p q x y is is'. a.twice id v p q x y at (sym seat ∙ is) (sym guest ∙ is');
        others = λ j u p x _ e is. a.placed j u p x e is;
      }

  -- a view that was told of nothing and knows the whole history has seen it
  knower_has_seen : (v : View E P) (h : List E) → v.told ≡ [] → Begins v.seen h → (v.seen ≡ h) ⊎ (v.told ≡ h) → v.seen ≡ h
  knower_has_seen v h none_told b k = elim k [ inl e ↦ e | inr e ↦ subst (λ (z : List E). Begins v.seen z → v.seen ≡ z) (sym none_told ∙ e) (begins_empty v.seen) b ]

  -- the view has the turn: it has all of the history, and its notes are the parts
  pub record HasTheTurn (h : List E) (ps ns : List (Option P)) (id : ℕ) (v : View E P) (holder : ℕ) : Type 0 where
    pub me : id ≡ holder
    pub knows : v.seen ≡ h
    pub same : ns ≡ ps

  -- a view with notes is the one that has the turn
  pub noter_has_turn : {h : List E} {ps ns : List (Option P)} {views : List (View E P)} {id : ℕ} {v : View E P} (o : OneTurn h ps views) → get_elem? views id ≡ some v → v.notes ≡ Some ns → HasTheTurn h ps ns id v o.holder
  noter_has_turn {h} {ps} {ns} {views} {id} {v} o at e = dite (ℕ_discrete id o.holder)
      (λ is. let same : o.view ≡ v = some-injective o.view v (sym o.there ∙ (ap (get_elem? views) (sym is) ∙ at)) in
      record { me = is; knows = ap (λ (z : View E P). z.seen) (sym same) ∙ o.knows; same = same_Some ns ps (sym e ∙ (ap (λ (z : View E P). z.notes) (sym same) ∙ o.notes)) })
      (λ other. absurd (notes_clash v ns (o.alone id v other at) e))

  -- a view that keeps its notes leaves the turn free
  pub no_turn_set : (views : List (View E P)) (id : ℕ) (v w : View E P) → get_elem? views id ≡ some v → w.notes ≡ v.notes → NoTurn views → NoTurn (set views id w)
  no_turn_set views id v w at same off j u e = elim (at_set views id j w u e) [ inl t ↦ sym (ap (λ (z : View E P). z.notes) t.1) ∙ (same ∙ off id v at) | inr t ↦ off j u t.1 ]

  -- a view that changes neither its notes nor, where it has all of the history, what it has seen, leaves the turn where it is
  pub one_turn_set : {h : List E} {ps : List (Option P)} {views : List (View E P)} (id : ℕ) (v w : View E P) → get_elem? views id ≡ some v → w.notes ≡ v.notes → (v.notes ≡ Some ps → v.seen ≡ h → w.seen ≡ h) → OneTurn h ps views → OneTurn h ps (set views id w)
  one_turn_set {h} {ps} {views} id v w at same seen o = dite (ℕ_discrete id o.holder)
      (λ is. let e : o.view ≡ v = some-injective o.view v (sym o.there ∙ (ap (get_elem? views) (sym is) ∙ at)) in record {
        holder = id;
        view = w;
        there = set_here views id w (found_in_bounds views id v at);
        notes = same ∙ (ap (λ (z : View E P). z.notes) (sym e) ∙ o.notes);
        knows = seen (ap (λ (z : View E P). z.notes) (sym e) ∙ o.notes) (ap (λ (z : View E P). z.seen) (sym e) ∙ o.knows);
        alone = λ j u other is'. o.alone j u (λ q. other (q ∙ sym is)) (sym (set_else views id j w other) ∙ is');
      })
      (λ other. record {
        holder = o.holder;
        view = o.view;
        there = set_else views id o.holder w (λ q. other (sym q)) ∙ o.there;
        notes = o.notes;
        knows = o.knows;
        alone = λ j u off e. elim (at_set views id j w u e) [ inl t ↦ sym (ap (λ (z : View E P). z.notes) t.1) ∙ (same ∙ o.alone id v other at) | inr t ↦ o.alone j u off t.1 ];
      })

  -- the view that has the turn may change what it has seen with the history, and its notes with the parts
  pub holder_set : {h h' : List E} {ps ps' ns : List (Option P)} {views : List (View E P)} {id : ℕ} {v : View E P} (w : View E P) (o : OneTurn h ps views) → HasTheTurn h ps ns id v o.holder → get_elem? views id ≡ some v → w.notes ≡ Some ps' → w.seen ≡ h' → OneTurn h' ps' (set views id w)
  holder_set {views = views} {id = id} {v = v} w o m at notes seen = record {
    holder = id;
    view = w;
    there = set_here views id w (found_in_bounds views id v at);
    notes = notes;
    knows = seen;
    alone = λ j u other e. o.alone j u (λ same. other (same ∙ sym m.me)) (sym (set_else views id j w other) ∙ e);
  }

  -- a new view comes, whose place, if it has one, no other has
  pub agree_append : {from : ℕ} {h : List E} {ps : List (Option P)} {views : List (View E P)} (w : View E P) → Agree from h ps views → w.from ≡ from → Begins w.seen h → Begins w.told h → ((p : ℕ) (x : P) → Sits w p x → Has ps p x) → w.guest ≡ None
      → ((j : ℕ) (u : View E P) (p : ℕ) (x y : P) → get_elem? views j ≡ some u → Sits w p x → Sits u p y → ⊥) → Agree from h ps (views ++ w ∷ [])
  agree_append {from} {h} {ps} {views} w g wf ws wt mine off fresh = let k = g.knower in let a = g.fair in record {
    knower = (k.0, k.1, at_longer views (w ∷ []) k.0 k.1 k.2, k.3);
    fair = record {
      begins = λ j u e. elim (found_at_end views w u j e) [ inl t ↦ a.begins j u t | inr t ↦ subst (λ (z : View E P). (z.from ≡ from) × Begins z.seen h × Begins z.told h) t.1 (wf, ws, wt) ];
      placed = λ j u p x e is. elim (found_at_end views w u j e) [ inl t ↦ a.placed j u p x t is | inr t ↦ mine p x (subst (λ (z : View E P). Sits z p x) (sym t.1) is) ];
      apart = λ i j u u' p x y e e' is is'. elim (found_at_end views w u i e) [
        | inl t ↦ elim (found_at_end views w u' j e') [
          | inl t' ↦ a.apart i j u u' p x y t t' is is'
          | inr t' ↦ absurd (fresh i u p y x t (subst (λ (z : View E P). Sits z p y) (sym t'.1) is') is)
        ]
        | inr t ↦ elim (found_at_end views w u' j e') [
          | inl t' ↦ absurd (fresh j u' p x y t' (subst (λ (z : View E P). Sits z p x) (sym t.1) is) is')
          | inr t' ↦ t.0 ∙ sym t'.0
        ]
      ];
      twice = λ j u p q x y e is is'. elim (found_at_end views w u j e) [
        | inl t ↦ a.twice j u p q x y t is is'
        | inr t ↦ absurd (none-some (q, y) (sym off ∙ (ap (λ (z : View E P). z.guest) t.1 ∙ is')))
      ];
    };
  }

  abbrev Knower : List E → List (View E P) → Type 0
  Knower h views = (j : ℕ) × (z : View E P) × (get_elem? views j ≡ some z) × ((z.seen ≡ h) ⊎ (z.told ≡ h))

  -- who knew the whole history knows it where one seat is told of what another had seen, who is spent
  knower_joined : {h : List E} (views : List (View E P)) {id other : ℕ} {v w : View E P} (u gone : View E P) → Knower h views → get_elem? views id ≡ some v → ¬ (other ≡ id) → get_elem? (set views id u) other ≡ some w → u.seen ≡ v.seen → u.told ≡ w.seen
      → v.told ≡ [] → w.told ≡ [] → Begins v.seen h → Begins w.seen h → Knower h (set (set views id u) other gone)
  knower_joined {h} views {id} {other} {v} {w} u gone k at apart there us ut told told' begins begins' =
      let here : get_elem? (set views id u) id ≡ some u = set_here views id u (found_in_bounds views id v at) in
      let k' : Knower h (set views id u) = dite (ℕ_discrete k.0 id)
      (λ e. let same : v ≡ k.1 = some-injective v k.1 (sym at ∙ (ap (get_elem? views) (sym e) ∙ k.2)) in
      (id, u, here, inl (us ∙ knower_has_seen v h told begins (subst (λ (z : View E P). (z.seen ≡ h) ⊎ (z.told ≡ h)) (sym same) k.3))))
      (λ ne. (k.0, k.1, set_else views id k.0 u ne ∙ k.2, k.3)) in
      dite (ℕ_discrete k'.0 other)
      (λ e. let same : w ≡ k'.1 = some-injective w k'.1 (sym there ∙ (ap (get_elem? (set views id u)) (sym e) ∙ k'.2)) in
      (id, u, set_else (set views id u) other id gone (λ q. apart (sym q)) ∙ here, inr (ut ∙ knower_has_seen w h told' begins' (subst (λ (z : View E P). (z.seen ≡ h) ⊎ (z.told ≡ h)) (sym same) k'.3))))
      (λ ne. (k'.0, k'.1, set_else (set views id u) other k'.0 gone ne ∙ k'.2, k'.3))

  -- the seat id is told of what the seat other has seen, which is spent, and may take in its place
  pub agree_joined : {from : ℕ} {h : List E} {ps : List (Option P)} {views : List (View E P)} {id other : ℕ} {v w : View E P} (u : View E P) (f : ℕ) → Agree from h ps views → get_elem? views id ≡ some v → ¬ (other ≡ id) → get_elem? (set views id u) other ≡ some w
      → u.from ≡ v.from → u.seen ≡ v.seen → u.told ≡ w.seen → v.told ≡ [] → w.told ≡ [] → f ≡ v.from → ((p : ℕ) (x : P) → Sits u p x → Sits v p x ⊎ Sits w p x)
      → ((p q : ℕ) (x y : P) → u.seat ≡ Some (p, x) → u.guest ≡ Some (q, y) → Fair from h ps views → get_elem? views other ≡ some w → p ≢ q) → Agree from h ps (set (set views id u) other (resting_view f [] None))
  agree_joined {from} {h} {ps} {views} {id} {other} {v} {w} u f g at apart there uf us ut told told' same from_one two =
      let a = g.fair in let gone : View E P = resting_view f [] None in let there' : get_elem? views other ≡ some w = sym (set_else views id other u apart) ∙ there in
      let b = a.begins id v at in let b' = a.begins other w there' in
      let views1 : List (View E P) = set views other gone in let at1 : get_elem? views1 id ≡ some v = set_else views other id gone (λ q. apart (sym q)) ∙ at in
      let f1 : Fair from h ps views1 = fair_set a (begins_self h) record {
        from_is = same ∙ b.0;
        seen = (h, refl);
        told = (h, refl);
        own = λ p x is. absurd (sits_nowhere gone p x refl refl is);
        two = λ p q x y is _. absurd (none-some (p, x) is);
        others = λ j z p x _ e is. a.placed j z p x e is;
      } in
      let alone : (c : ℕ) (z : View E P) (p : ℕ) (x : P) → get_elem? views c ≡ some z → Sits z p x → ((c ≡ id) ⊎ (c ≡ other)) → NoOtherSits views1 id p = λ c z p x e is which j z' y ne e' its. elim (at_set views other j gone z' e') [
        | inl t ↦ sits_nowhere gone p y refl refl (subst (λ (q : View E P). Sits q p y) (sym t.1) its)
        | inr t ↦ let q : j ≡ c = a.apart j c z' z p y x t.1 e its is in elim which [ inl i ↦ ne (q ∙ i) | inr i ↦ t.0 (q ∙ i) ]
      ] in
      let f2 : Fair from h ps (set views1 id u) = fair_set f1 (begins_self h) record {
        from_is = uf ∙ b.0;
        seen = subst (λ (z : List E). Begins z h) (sym us) b.1;
        told = subst (λ (z : List E). Begins z h) (sym ut) b'.1;
        own = λ p x is. elim (from_one p x is) [ inl t ↦ (a.placed id v p x at t, alone id v p x at t (inl refl)) | inr t ↦ (a.placed other w p x there' t, alone other w p x there' t (inr refl)) ];
        two = λ p q x y is is'. two p q x y is is' a there';
        others = λ j z p x _ e is. f1.placed j z p x e is;
      } in
      record { knower = knower_joined views u gone g.knower at apart there us ut told told' b.1 b'.1; fair = subst (Fair from h ps) (set_swap views other id gone u apart) f2 }
