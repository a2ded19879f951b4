-- What each step of the journal, and each root, leaves of where what is kept leads.
use Rattle.std.proofs.Common.{◌≡◌, ◌<◌, ◌≤◌, ◌⊎◌, inl, inr, ◌+◌, ◌++◌, ℕ, Bool, true, false, List, [], ◌∷◌, length, refl, sym, ap, subst, ◌∙◌, arith, true≢false}
use Rattle.std.specs.Prelude.{slice_get, Option, Some, fold, Contains}
use Rattle.std.proofs.lemmas.List.{append-nil}
use Rattle.std.proofs.lemmas.List.Sums.{fold-append}
use Rattle.std.proofs.lemmas.Grind.{flat_map-append}
use Rattle.grid_types.specs.declared.layout_change.LoggedUpdate.{LoggedUpdate}
use Rattle.grid_model.specs.Tables.{Table}
use Rattle.grid_model.specs.Layouts.{Layout}
use Rattle.grid_model.specs.Spellings.{LoggedBatch}
use Rattle.grid_model.specs.Images.{logged_effect, layout_after}
use Rattle.grid_model.specs.Roots.{WholeRoot}
use Rattle.file_images.specs.Kept.{GateRule, Counting, Barred, PlacedBatch, NextSlot, Shut, Flying, InDoubt, Kept, OtherHeader, on_half, used}
use Rattle.file_images.specs.Steps.{ruled, with_placed, with_next_shut, with_flying}
use Rattle.file_images.specs.Leads.{Standing, behind, updates_in, RootHolds, CountsOn, reach, CountsBefore, IsPassed, IsKnown, Lineage, and_then, MayFollow, LeadsAlong}
use Rattle.file_images.proofs.Halves.{old_or_new, still_there, placed_there}
use Rattle.file_images.proofs.Elements.{Among, here, there, among_left, among_right, from_append, among_these, contains_it}
use Rattle.file_images.proofs.Chains.{chain_more}

-- what is kept, with other roots, other batches and another half
abbrev pub kept_with : {K : ℕ} → Kept K → WholeRoot → OtherHeader → List (PlacedBatch K) → List (PlacedBatch K) → ℕ → NextSlot K → Kept K
kept_with k root other a b h n = record k { root = root; other = other; first = a; second = b; half = h; next = n }

-- what a root's pages hold does not speak of these
pub holds_over : {K : ℕ} (k : Kept K) (root : WholeRoot) (other : OtherHeader) (a b : List (PlacedBatch K)) (h : ℕ) (n : NextSlot K) (w : WholeRoot) (L : Layout K) (t : Table) → RootHolds k w L t → RootHolds (kept_with k root other a b h n) w L t
holds_over k root other a b h n w L t is = record {
  scales = is.scales;
  directory = is.directory;
  numbers = is.numbers;
  stands = is.stands;
  records = is.records;
  pages = is.pages;
}

pub follows_over : {K : ℕ} (k : Kept K) (root : WholeRoot) (other : OtherHeader) (a b : List (PlacedBatch K)) (h : ℕ) (n : NextSlot K) (w : WholeRoot) (x : Lineage K) (place : ℕ) (d : LoggedBatch K) → MayFollow k w x place d → MayFollow (kept_with k root other a b h n) w x place d
follows_over k root other a b h n w x place d is = record { session = is.session; first = is.first; may = is.may }

pub reach_up : {K : ℕ} (n : NextSlot K) (place : ℕ) → place ≤ reach n place
reach_up Shut place = omega arith
reach_up Flying place = omega arith
reach_up (InDoubt b) place = omega arith

-- a batch that is passed over stays so, where each taken one that counts before it goes on doing so, and those that are taken up to the place are among those of before
pub passed_still : {K : ℕ} (k now : Kept K) (taken more : List (LoggedBatch K)) (place onward h i : ℕ) (p : PlacedBatch K) → place ≤ onward
    → ((b : LoggedBatch K) → Contains more b → b.first ≤ place → Contains taken b) → ((b : LoggedBatch K) → Contains taken b → CountsBefore k b h i → CountsBefore now b h i)
    → IsPassed k taken place h i p → IsPassed now more onward h i p
passed_still k now taken more place onward h i p le back counts is = record {
  behind = omega (arith, is.behind, le);
  later = λ b on same. let old = back b on (omega (arith, same, is.behind)) in counts b old (is.later b old same);
}

-- a batch that is known stays so, where as much may be reached as before, or less
pub known_still : {K : ℕ} (k now : Kept K) (from : ℕ) (taken more : List (LoggedBatch K)) (place onward far near h i : ℕ) (p : PlacedBatch K) → near ≤ far → ((b : LoggedBatch K) → Contains taken b → Contains more b)
    → (IsPassed k taken place h i p → IsPassed now more onward h i p) → IsKnown k from taken place far h i p → IsKnown now from more onward near h i p
known_still k now from taken more place onward far near h i p le wider passed (inl barred) = inl barred
known_still k now from taken more place onward far near h i p le wider passed (inr (inl low)) = inr (inl low)
known_still k now from taken more place onward far near h i p le wider passed (inr (inr (inl m))) = inr (inr (inl (wider p.batch m)))
known_still k now from taken more place onward far near h i p le wider passed (inr (inr (inr (inl is)))) = inr (inr (inr (inl (passed is))))
known_still k now from taken more place onward far near h i p le wider passed (inr (inr (inr (inr beyond)))) = inr (inr (inr (inr (omega (arith, beyond, le)))))

-- what is known does not speak of pages and roots, nor of which half is current, and less of what may be reached
pub known_over : {K : ℕ} (k : Kept K) (always fresh : List (Option (List ℕ))) (root : WholeRoot) (other : OtherHeader) (half : ℕ) (n : NextSlot K) (from : ℕ) (taken : List (LoggedBatch K)) (place far near h i : ℕ) (p : PlacedBatch K) → near ≤ far
    → IsKnown k from taken place far h i p → IsKnown (record k { always = always; fresh = fresh; root = root; other = other; half = half; next = n }) from taken place near h i p
known_over k always fresh root other half n from taken place far near h i p le =
    let now = record k { always = always; fresh = fresh; root = root; other = other; half = half; next = n } in
    known_still k now from taken taken place place far near h i p le (λ b on. on)
    (passed_still k now taken taken place place h i p (omega arith) (λ b on low. on) (λ b on c. record { on = record { half = c.on.half; slot = c.on.slot; two = c.on.two; there = c.on.there }; before = c.before }))

abbrev is_in_doubt : {K : ℕ} → NextSlot K → Bool
is_in_doubt Shut = false
is_in_doubt Flying = false
is_in_doubt (InDoubt b) = true

pub shut_no_doubt : {K : ℕ} {A : Type 0} (d : LoggedBatch K) → Shut ≡ InDoubt d → A
shut_no_doubt d e = absurd (true≢false (sym (ap is_in_doubt e)))

flying_no_doubt : {K : ℕ} {A : Type 0} (d : LoggedBatch K) → Flying ≡ InDoubt d → A
flying_no_doubt d e = absurd (true≢false (sym (ap is_in_doubt e)))

abbrev is_flying : {K : ℕ} → NextSlot K → Bool
is_flying Shut = false
is_flying Flying = true
is_flying (InDoubt b) = false

pub shut_not_flying : {K : ℕ} → ◌≡◌ {A = NextSlot K} Shut Flying → ⊥
shut_not_flying e = true≢false (sym (ap is_flying e))

-- the batch in doubt is none but this one
pub one_doubt : {K : ℕ} (b d : LoggedBatch K) → ◌≡◌ {A = NextSlot K} (InDoubt b) (InDoubt d) → b ≡ d
one_doubt {K} b d e = ap in_it e
  where
    in_it : NextSlot K → LoggedBatch K
    in_it Shut = b
    in_it Flying = b
    in_it (InDoubt c) = c

module _ {K : ℕ} (k : Kept K) (w : WholeRoot) (m : Standing K) (x : Lineage K) (c : LeadsAlong k w m x) where
  -- where no batch is in doubt on the next slot
  leads_undoubted : (n : NextSlot K) → ((d : LoggedBatch K) → n ≡ InDoubt d → ⊥) → reach n m.place ≡ m.place → LeadsAlong (record k { next = n }) w m x
  leads_undoubted n none near = record {
    holds = holds_over k k.root k.other k.first k.second k.half n w x.layout x.table c.holds;
    chain = c.chain;
    there = λ b on. let at = c.there b on in (at.0, record { half = at.1.half; slot = at.1.slot; two = at.1.two; there = at.1.there });
    known = λ h i p two is mine. known_over k k.always k.fresh k.root k.other k.half n w.fields.front x.taken m.place (reach k.next m.place) (reach n m.place) h i p (omega (arith, near, reach_up k.next m.place)) (c.known h i p two is mine);
    sessions = c.sessions;
    makes_table = c.makes_table;
    makes_layout = c.makes_layout;
    may = c.may;
    doubt = λ d is. absurd (none d is);
  }

  pub leads_shut : LeadsAlong (with_next_shut k) w m x
  leads_shut = leads_undoubted Shut (λ d is. shut_no_doubt d is) refl

  pub leads_flying : LeadsAlong (with_flying k) w m x
  leads_flying = leads_undoubted Flying (λ d is. flying_no_doubt d is) refl

  -- where other roots are kept, as one that was tried
  pub leads_over : (root : WholeRoot) (other : OtherHeader) (h : ℕ) → LeadsAlong (kept_with k root other k.first k.second h k.next) w m x
  leads_over root other h = record {
    holds = holds_over k root other k.first k.second h k.next w x.layout x.table c.holds;
    chain = c.chain;
    there = λ b on. let at = c.there b on in (at.0, record { half = at.1.half; slot = at.1.slot; two = at.1.two; there = at.1.there });
    known = λ j i p two is mine. known_over k k.always k.fresh root other h k.next w.fields.front x.taken m.place (reach k.next m.place) (reach k.next m.place) j i p (omega arith) (c.known j i p two is mine);
    sessions = c.sessions;
    makes_table = c.makes_table;
    makes_layout = c.makes_layout;
    may = c.may;
    doubt = λ d is. follows_over k root other k.first k.second h k.next w x m.place d (c.doubt d is);
  }

  module _ (d : LoggedBatch K) (is : k.next ≡ InDoubt d) (half_two : k.half < 2) (rule : GateRule) where
    abbrev p : PlacedBatch K
    p = ruled d rule

    abbrev k2 : Kept K
    k2 = with_placed k p

    counts_still : (b : LoggedBatch K) → CountsOn k b → CountsOn k2 b
    counts_still b on = record { half = on.half; slot = on.slot; two = on.two; there = still_there k p half_two on.half on.slot (ruled b Counting) on.two on.there }

    before_still : (h i : ℕ) (b : LoggedBatch K) → CountsBefore k b h i → CountsBefore k2 b h i
    before_still h i b c = record {
      on = record { half = c.on.half; slot = c.on.slot; two = c.on.two; there = still_there k p half_two c.on.half c.on.slot (ruled b Counting) c.on.two c.on.there };
      before = c.before;
    }

    far_is : reach k.next m.place ≡ m.place + length d.updates
    far_is = ap (λ (n : NextSlot K). reach n m.place) is

    sessions_still : (h i : ℕ) (q : PlacedBatch K) → h < 2 → slice_get (on_half k2 h) i ≡ Some q → q.batch.session ≤ w.fields.session
    sessions_still h i q two at = elim (old_or_new k p half_two h i q two at) [
      | inl old ↦ c.sessions h i q two old
      | inr new ↦ omega (arith, ap (λ (y : PlacedBatch K). y.batch.session) new, (c.doubt d is).session)
    ]

    -- a batch that was in doubt and is barred changes nothing
    pub leads_barred : rule ≡ Barred → LeadsAlong k2 w m x
    leads_barred barred = record {
      holds = holds_over k k.root k.other k2.first k2.second k.half Shut w x.layout x.table c.holds;
      chain = c.chain;
      there = λ b on. let at = c.there b on in (at.0, counts_still b at.1);
      known = λ h i q two at mine. elim (old_or_new k p half_two h i q two at) [
        | inl old ↦
            known_still k k2 w.fields.front x.taken x.taken m.place m.place (reach k.next m.place) m.place h i q (reach_up k.next m.place) (λ b on. on)
            (passed_still k k2 x.taken x.taken m.place m.place h i q (omega arith) (λ b on low. on) (λ b on before. before_still h i b before)) (c.known h i q two old mine)
        | inr new ↦ inl (ap (λ (y : PlacedBatch K). y.gate) new ∙ barred)
      ];
      sessions = sessions_still;
      makes_table = c.makes_table;
      makes_layout = c.makes_layout;
      may = c.may;
      doubt = λ e eq. shut_no_doubt e eq;
    }

    abbrev more : List (LoggedBatch K)
    more = (and_then x d).taken

    updates_more : updates_in more ≡ updates_in x.taken ++ d.updates
    updates_more = flat_map-append (λ (b : LoggedBatch K). b.updates) x.taken (d ∷ []) ∙ ap (λ (us : List (LoggedUpdate K)). updates_in x.taken ++ us) (append-nil d.updates)

    -- of those that are taken then, those that begin up to the place were taken before
    taken_back : d.first ≡ m.place + 1 → (b : LoggedBatch K) → Contains more b → b.first ≤ m.place → Contains x.taken b
    taken_back first b on low = by (from_append b x.taken (d ∷ []) (among_these b more on))
      where
        last : (e : LoggedBatch K) → Among e (d ∷ []) → e.first ≤ m.place → ⊥
        last _ here le = omega (arith, le, first)
        last e (there none) le = elim none [ ]

        by : Among b x.taken ⊎ Among b (d ∷ []) → Contains x.taken b
        by (inl old) = contains_it b x.taken old
        by (inr new) = absurd (last b new low)

    -- a batch that was in doubt and counts takes the place behind it
    pub leads_placed : 0 < length d.updates → rule ≡ Counting → LeadsAlong k2 w (behind m d) (and_then x d)
    unfolding layout_after
    leads_placed some counting_is =
        let follows = c.doubt d is in
        record {
          holds = holds_over k k.root k.other k2.first k2.second k.half Shut w x.layout x.table c.holds;
          chain = chain_more w.fields.front m.place x.taken d c.chain follows.first some;
          there = λ b on. elim (from_append b x.taken (d ∷ []) (among_these b more on)) [
            | inl old ↦ let at = c.there b (contains_it b x.taken old) in (at.0, counts_still b at.1)
            | inr new ↦ last_there b new follows.session counting_is
          ];
          known = λ h i q two at mine. elim (old_or_new k p half_two h i q two at) [
            | inl old ↦
                known_still k k2 w.fields.front x.taken more m.place (m.place + length d.updates) (reach k.next m.place) (m.place + length d.updates) h i q (omega (arith, far_is))
                (λ b on. contains_it b more (among_left b x.taken (d ∷ []) (among_these b x.taken on)))
                (passed_still k k2 x.taken more m.place (m.place + length d.updates) h i q (omega arith) (taken_back follows.first) (λ b on before. before_still h i b before)) (c.known h i q two old mine)
            | inr new ↦ inr (inr (inl (subst (λ (y : PlacedBatch K). Contains more y.batch) (sym new) (contains_it d more (among_right d x.taken (d ∷ []) here)))))
          ];
          sessions = sessions_still;
          makes_table = ap (λ (u : Table). fold logged_effect u d.updates) c.makes_table ∙ sym (fold-append logged_effect x.table (updates_in x.taken) d.updates) ∙ ap (fold logged_effect x.table) (sym updates_more);
          makes_layout = ap (λ (u : Layout K). layout_after u d.updates) c.makes_layout ∙ sym (fold-append _ x.layout (updates_in x.taken) d.updates) ∙ ap (layout_after x.layout) (sym updates_more);
          may = follows.may;
          doubt = λ e eq. shut_no_doubt e eq;
        }
      where
        last_there : (b : LoggedBatch K) → Among b (d ∷ []) → d.session ≡ w.fields.session → rule ≡ Counting → (b.session ≡ w.fields.session) × CountsOn k2 b
        last_there _ here session gate =
            (session, record { half = k.half; slot = used k k.half; two = half_two; there = subst (λ (r : GateRule). slice_get (on_half k2 k.half) (used k k.half) ≡ Some (ruled d r)) gate (placed_there k p half_two) })
        last_there b (there on) session gate = elim on [ ]
