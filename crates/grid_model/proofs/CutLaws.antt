-- A cut is the best candidate, else the best value of the first attribute that has one.
use Rattle.std.proofs.Common.{◌≡◌, ◌<◌, ◌≤◌, ◌+◌, ◌-◌, ◌%◌, ◌⊎◌, inl, inr, ℕ, Bool, true, false, cond, ◌&&◌, List, length, slice_index, map, Contains, Option, Some, None, option_map, refl, sym, ap, ◌∙◌, subst, arith, true≢false}
use Rattle.std.proofs.Math.Nat.{mod-eq_of_lt, add-mod_right, mod-add-mod}
use Rattle.std.proofs.lemmas.Bool.{cases_lt}
use Rattle.std.proofs.lemmas.Nat.{mod_below}
use Rattle.std.proofs.lemmas.Option.{none-some}
use Rattle.std.proofs.lemmas.List.FromFn.{get_or-map-range_with_len, length-map-range_with_len}
use Rattle.grid_types.specs.declared.shape.Shape.{Shape}
use Rattle.grid_types.specs.declared.layout_change.Cut.{Cut}
use Rattle.grid_types.proofs.Numbers.{both, first, second}
use Rattle.grid_types.specs.Regions.{is_within}
use Rattle.grid_model.specs.Lists.{below, first_some, ranks_below}
use Rattle.grid_model.specs.Scales.{scale_of}
use Rattle.grid_model.specs.Layouts.{BucketBox}
use Rattle.grid_model.specs.Cuts.{cut, divides, candidates, candidates_in, existing_in, best_existing, rank, dividing_values, best_value, value_rank, may_grow, cycle, old_cut, new_cut, refinement, refinements}
use Rattle.grid_model.specs.CutLaws.{IsCandidate, IsValue, IsBestOld, IsBestNew, CutsBest}
use Rattle.grid_model.proofs.LeastLaws.{least-is-one, none-below-least, no-least}
use Rattle.grid_model.proofs.Members.{contains-none, contains-filter, contains-from-filter, contains-map, contains-from-map, contains-flat, contains-from-flat, contains-range, contains-from-range, contains-among, among-from-contains}
use Rattle.grid_model.proofs.Choosing.{or-else-some, or-else-none, map-some, map-none, FirstAt, first-there, none-there}

module _ {K : ℕ} (scales : List (List ℕ)) (b : BucketBox K) (keys : List (List ℕ)) where
  -- each candidate is listed
  pub candidate-listed : (a v : ℕ) → IsCandidate scales b keys a v → Contains (candidates scales b.region keys) (a, v)
  unfolding candidates
  candidate-listed a v c = contains-flat (candidates_in scales b.region keys) (below (length scales)) a (a, v) (contains-range 0 (length scales) a (omega arith) (omega (arith, c.attribute)))
      (contains-map (λ (v : ℕ). (a, v)) (existing_in scales b.region keys a) v
      (contains-filter (λ v. is_within b.region a v && divides keys a v) (scale_of scales a) v (contains-among (scale_of scales a) v c.boundary) (both (is_within b.region a v) (divides keys a v) c.within c.divides)))

  one-listed : (a v : ℕ) → a < length scales → Contains (existing_in scales b.region keys a) v → IsCandidate scales b keys a v
  one-listed a v p h =
      let kept : Contains (scale_of scales a) v × ((is_within b.region a v && divides keys a v) ≡ true) = contains-from-filter (λ v. is_within b.region a v && divides keys a v) (scale_of scales a) v h in
      record {
        attribute = p;
        boundary = among-from-contains (scale_of scales a) v kept.0;
        within = first (is_within b.region a v) (divides keys a v) kept.1;
        divides = second (is_within b.region a v) (divides keys a v) kept.1;
      }

  -- what is listed is a candidate
  pub listed-candidate : (c : ℕ × ℕ) → Contains (candidates scales b.region keys) c → IsCandidate scales b keys c.0 c.1
  unfolding candidates
  listed-candidate c h =
      let found : (a : ℕ) × Contains (below (length scales)) a × Contains (candidates_in scales b.region keys a) c = contains-from-flat (candidates_in scales b.region keys) (below (length scales)) c h in
      let pair : (v : ℕ) × Contains (existing_in scales b.region keys found.0) v × ((found.0, v) ≡ c) = contains-from-map (λ (v : ℕ). (found.0, v)) (existing_in scales b.region keys found.0) c found.2 in
      subst (λ (c : ℕ × ℕ). IsCandidate scales b keys c.0 c.1) pair.2 (one-listed found.0 pair.0 (omega (arith, (contains-from-range 0 (length scales) found.0 found.1).1)) pair.1)

  -- where there is no best candidate there is none
  pub no-candidate : best_existing scales b.region keys ≡ None → (a v : ℕ) → IsCandidate scales b keys a v → ⊥
  unfolding best_existing
  no-candidate e a v c = contains-none (a, v) (subst (λ cs. Contains cs (a, v)) (no-least (rank keys) (candidates scales b.region keys) e) (candidate-listed a v c))

  -- the best of those that are listed is the best candidate
  pub best-old : (x : ℕ × ℕ) → best_existing scales b.region keys ≡ Some x → IsBestOld scales b keys (old_cut x)
  unfolding best_existing
  best-old x e = record {
    candidate = listed-candidate x (least-is-one (rank keys) (candidates scales b.region keys) x e);
    best = λ a v c. none-below-least (rank keys) (candidates scales b.region keys) x (a, v) e (candidate-listed a v c);
  }

module _ (shape : Shape) (scales keys : List (List ℕ)) (a : ℕ) where
  -- each value is listed
  pub value-listed : (v : ℕ) → IsValue shape scales keys a v → Contains (dividing_values keys a) v
  unfolding dividing_values
  value-listed v i = contains-filter (λ v. divides keys a v) (map (λ k. slice_index k a) keys) v (contains-among (map (λ k. slice_index k a) keys) v i.value) i.divides

  -- what is listed is a value, where the attribute may grow
  pub listed-value : (v : ℕ) → a < length scales → may_grow shape scales a ≡ true → Contains (dividing_values keys a) v → IsValue shape scales keys a v
  unfolding dividing_values
  listed-value v p grows h =
      let kept : Contains (map (λ k. slice_index k a) keys) v × (divides keys a v ≡ true) = contains-from-filter (λ v. divides keys a v) (map (λ k. slice_index k a) keys) v h in
      record { attribute = p; grows = grows; value = among-from-contains (map (λ k. slice_index k a) keys) v kept.0; divides = kept.1 }

  -- an attribute without a refinement has no value
  pub no-value : refinement shape scales keys a ≡ None → (v : ℕ) → IsValue shape scales keys a v → ⊥
  unfolding refinement best_value
  no-value e v i =
      let none : best_value keys a ≡ None = map-none (new_cut a) (best_value keys a) (ap (λ t. cond t (option_map (new_cut a) (best_value keys a)) None) (sym i.grows) ∙ e) in
      contains-none v (subst (λ vs. Contains vs v) (no-least (value_rank keys a) (dividing_values keys a) none) (value-listed v i))

  -- a refinement is at the value of least rank
  pub record IsRefinement (c : Cut) : Type 0 where
    pub value : ℕ
    pub grows : may_grow shape scales a ≡ true
    pub best : best_value keys a ≡ Some value
    pub is : new_cut a value ≡ c

  -- each refinement is one
  pub refinement-is : (c : Cut) → refinement shape scales keys a ≡ Some c → IsRefinement c
  unfolding refinement
  refinement-is c e = by (may_grow shape scales a) refl e
    where
      by : (t : Bool) → may_grow shape scales a ≡ t → cond t (option_map (new_cut a) (best_value keys a)) None ≡ Some c → IsRefinement c
      by true g e = let m : (v : ℕ) × (best_value keys a ≡ Some v) × (new_cut a v ≡ c) = map-some (new_cut a) (best_value keys a) c e in record { value = m.0; grows = g; best = m.1; is = m.2 }
      by false g e = absurd (none-some c e)

  best-is-value : (c : Cut) (r : IsRefinement c) → a < length scales → IsValue shape scales keys a r.value
  unfolding best_value
  best-is-value c r p = listed-value r.value p r.grows (least-is-one (value_rank keys a) (dividing_values keys a) r.value r.best)

  best-is-least : (c : Cut) (r : IsRefinement c) (v : ℕ) → IsValue shape scales keys a v → ranks_below (rank keys (a, v)) (rank keys (a, r.value)) ≡ false
  unfolding best_value
  best-is-least c r v i = none-below-least (value_rank keys a) (dividing_values keys a) r.value v r.best (value-listed v i)

-- an attribute's place in the cyclic order is how far it is from the turn
pub cycle-at : (n turn i : ℕ) → i < n → slice_index (cycle n turn) i ≡ (turn + i) % n
cycle-at n turn i p = get_or-map-range_with_len (λ s. (turn + s) % n) 0 n i i 0 p (omega arith)

cycle-inside : (n turn i : ℕ) → i < length (cycle n turn) → i < n
cycle-inside n turn i p = omega (arith, p, length-map-range_with_len (λ s. (turn + s) % n) 0 n)

-- the cyclic order has attributes alone
pub cycle-below : (n turn i : ℕ) → i < length (cycle n turn) → slice_index (cycle n turn) i < n
cycle-below n turn i p =
    let q : i < n = cycle-inside n turn i p in
    omega (arith, cycle-at n turn i q, mod_below (turn + i) n (omega (arith, q)))

turned : (n turn a s : ℕ) → (turn % n + s) % n ≡ a → (turn + s) % n ≡ a
turned n turn a s e = sym (mod-add-mod turn n s) ∙ e

turns-to : (n turn a : ℕ) → a < n → (s : ℕ) × (s < n) × ((turn + s) % n ≡ a)
turns-to n turn a p = by (cases_lt a (turn % n)) (mod_below turn n (omega (arith, p)))
  where
    by : (a < turn % n) ⊎ (turn % n ≤ a) → turn % n < n → (s : ℕ) × (s < n) × ((turn + s) % n ≡ a)
    by (inl r) q =
        let whole : turn % n + (a + n - turn % n) ≡ a + n = omega (arith, r, q) in
        (a + n - turn % n, omega (arith, r, q), turned n turn a (a + n - turn % n) (ap (λ w. w % n) whole ∙ add-mod_right a n ∙ mod-eq_of_lt p))
    by (inr r) q =
        let whole : turn % n + (a - turn % n) ≡ a = omega (arith, r) in
        (a - turn % n, omega (arith, p), turned n turn a (a - turn % n) (ap (λ w. w % n) whole ∙ mod-eq_of_lt p))

-- it has each attribute
pub cycle-has : (n turn a : ℕ) → a < n → Contains (cycle n turn) a
cycle-has n turn a p =
    let at : (s : ℕ) × (s < n) × ((turn + s) % n ≡ a) = turns-to n turn a p in
    subst (Contains (cycle n turn)) at.2 (contains-map (λ s. (turn + s) % n) (below n) at.0 (contains-range 0 n at.0 (omega arith) (omega (arith, at.1))))

-- no place before which an attribute does not stand is behind one where it stands
earlier : (at : ℕ → ℕ) (a place j i : ℕ) → at place ≡ a → ((i : ℕ) → i < j → at i ≡ a → ⊥) → i < j → i < place
earlier at a place j i here fresh p = by (cases_lt i place)
  where
    by : (i < place) ⊎ (place ≤ i) → i < place
    by (inl q) = q
    by (inr q) = absurd (fresh place (omega (arith, p, q)) here)

module _ {K : ℕ} (shape : Shape) (scales : List (List ℕ)) (b : BucketBox K) (keys : List (List ℕ)) where
  abbrev turn : ℕ → ℕ
  turn i = slice_index (cycle (length scales) b.turn) i

  best-new : (c : Cut) → best_existing scales b.region keys ≡ None → FirstAt (refinement shape scales keys) (cycle (length scales) b.turn) c → IsBestNew shape scales b keys c
  best-new c none f = at (refinement-is shape scales keys (turn f.place) c f.there) (cycle-below (length scales) b.turn f.place f.inside)
    where
      at : IsRefinement shape scales keys (turn f.place) c → turn f.place < length scales → IsBestNew shape scales b keys c
      at r p = subst (λ (c : Cut). IsBestNew shape scales b keys c) r.is (record {
        no_candidate = no-candidate scales b keys none;
        value = best-is-value shape scales keys (turn f.place) c r p;
        best = best-is-least shape scales keys (turn f.place) c r;
        first = λ j v there fresh q i l. no-value shape scales keys (turn i) (f.before i (earlier turn (turn f.place) f.place j i refl fresh l)) v;
      })

  -- where a cut comes from: it is at the best candidate, or it is the first refinement where there is no candidate
  pub data Comes (c : Cut) : Type 0 where
    Old : (x : ℕ × ℕ) → best_existing scales b.region keys ≡ Some x → old_cut x ≡ c → Comes c
    New : best_existing scales b.region keys ≡ None → FirstAt (refinement shape scales keys) (cycle (length scales) b.turn) c → Comes c

  -- each cut comes from there
  pub cut-comes : (c : Cut) → cut shape scales b keys ≡ Some c → Comes c
  unfolding cut
  cut-comes c e = by (or-else-some (option_map old_cut (best_existing scales b.region keys)) (first_some (refinements shape scales b.turn keys)) c e)
    where
      old : (x : ℕ × ℕ) × (best_existing scales b.region keys ≡ Some x) × (old_cut x ≡ c) → Comes c
      old m = Old m.0 m.1 m.2

      by : (option_map old_cut (best_existing scales b.region keys) ≡ Some c) ⊎ ((option_map old_cut (best_existing scales b.region keys) ≡ None) × (first_some (refinements shape scales b.turn keys) ≡ Some c)) → Comes c
      by (inl g) = old (map-some old_cut (best_existing scales b.region keys) c g)
      by (inr g) = New (map-none old_cut (best_existing scales b.region keys) g.0) (first-there (refinement shape scales keys) (cycle (length scales) b.turn) c g.1)

  refinement-is-fresh : (c : Cut) → FirstAt (refinement shape scales keys) (cycle (length scales) b.turn) c → c.fresh ≡ true
  refinement-is-fresh c f = ap (λ (c : Cut). c.fresh) (sym (refinement-is shape scales keys (turn f.place) c f.there).is)

  -- a cut that is not fresh is at the best candidate
  pub old-cut-best : (c : Cut) → c.fresh ≡ false → Comes c → IsBestOld scales b keys c
  old-cut-best c old (Old x e is) = subst (λ (c : Cut). IsBestOld scales b keys c) is (best-old scales b keys x e)
  old-cut-best c old (New none f) = absurd (true≢false (sym (refinement-is-fresh c f) ∙ old))

  -- a fresh cut is the best at a new boundary
  pub new-cut-best : (c : Cut) → c.fresh ≡ true → Comes c → IsBestNew shape scales b keys c
  new-cut-best c fresh (Old x e is) = absurd (true≢false (sym fresh ∙ ap (λ (c : Cut). c.fresh) (sym is)))
  new-cut-best c fresh (New none f) = best-new c none f

  -- where there is no cut there is neither a candidate nor a value
  pub no-cut : cut shape scales b keys ≡ None → (a v : ℕ) → (IsCandidate scales b keys a v → ⊥) × (IsValue shape scales keys a v → ⊥)
  unfolding cut
  no-cut e a v =
      let parts : (option_map old_cut (best_existing scales b.region keys) ≡ None) × (first_some (refinements shape scales b.turn keys) ≡ None) = or-else-none (option_map old_cut (best_existing scales b.region keys)) (first_some (refinements shape scales b.turn keys)) e in (
        no-candidate scales b keys (map-none old_cut (best_existing scales b.region keys) parts.0) a v,
        λ i. no-value shape scales keys a (none-there (refinement shape scales keys) (cycle (length scales) b.turn) a parts.1 (cycle-has (length scales) b.turn a i.attribute)) v i,
      )

-- a cut is the best that there is
pub cuts-best : (K : ℕ) → CutsBest K
cuts-best K = record { old = old; new = new; none = λ shape scales b keys. (no-cut shape scales b keys, never shape scales b keys) }
  where
    old : (shape : Shape) (scales : List (List ℕ)) (b : BucketBox K) (keys : List (List ℕ)) (c : Cut) → cut shape scales b keys ≡ Some c → c.fresh ≡ false → IsBestOld scales b keys c
    old shape scales b keys c e h = old-cut-best shape scales b keys c h (cut-comes shape scales b keys c e)

    new : (shape : Shape) (scales : List (List ℕ)) (b : BucketBox K) (keys : List (List ℕ)) (c : Cut) → cut shape scales b keys ≡ Some c → c.fresh ≡ true → IsBestNew shape scales b keys c
    new shape scales b keys c e h = new-cut-best shape scales b keys c h (cut-comes shape scales b keys c e)

    -- a cut is at a candidate or at a value
    never : (shape : Shape) (scales : List (List ℕ)) (b : BucketBox K) (keys : List (List ℕ)) → ((a v : ℕ) → (IsCandidate scales b keys a v → ⊥) × (IsValue shape scales keys a v → ⊥)) → cut shape scales b keys ≡ None
    never shape scales b keys h = by (cut shape scales b keys) refl
      where
        of-cut : (c : Cut) (t : Bool) → c.fresh ≡ t → cut shape scales b keys ≡ Some c → ⊥
        of-cut c true f e = (h c.attribute c.value).1 (new shape scales b keys c e f).value
        of-cut c false f e = (h c.attribute c.value).0 (old shape scales b keys c e f).candidate

        by : (o : Option Cut) → cut shape scales b keys ≡ o → o ≡ None
        by None e = refl
        by (Some c) e = absurd (of-cut c c.fresh refl e)
