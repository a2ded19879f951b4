-- The box that a key is found in.
use Rattle.std.proofs.Common.{◌≡◌, ℕ, Bool, true, false, cond, T, List, [], ◌∷◌, Some, refl, sym, ap, subst, ◌∙◌, true≢false, nat_cmp, IsSome}
use Rattle.std.specs.Ordering.{eq_by_cmp}
use Rattle.std.specs.List as lists
use Rattle.std.specs.FinMap.Entries.{find, is_sorted, below_all}
use Rattle.grid_types.specs.Regions.{contains}
use Rattle.std.specs.Option.{option_map_or}
use Rattle.grid_types.specs.declared.layout_change.LayoutChange.{LayoutChange}
use Rattle.grid_model.specs.Layouts.{BucketBox, Layout, box, holder}
use Rattle.grid_model.specs.Notes.{after_note, after_note_at}
use Rattle.std.specs.Cmp.{nat_cmp_total}
use Rattle.std.specs.FinMap.{nat_cmp-IsAntisymmetric}
use Rattle.grid_model.proofs.Ascending.{first-found, behind-found}
use Rattle.grid_model.proofs.Boxes.{one-value, some-not-none}
use Rattle.grid_model.proofs.Truths.{part-one, part-two}

module _ {X : Type 0} where
  -- two tests that answer alike at each entry find the same one
  pub same-found : (p q : ℕ × X → Bool) (es : List (ℕ × X)) → T (is_sorted nat_cmp es) → ((n : ℕ) (x : X) → find nat_cmp n es ≡ Some x → p (n, x) ≡ q (n, x)) → lists.find p es ≡ lists.find q es
  same-found p q [] s h = refl
  same-found p q (e ∷ es) s h =
      let below = part-one (below_all nat_cmp e.0 es) (is_sorted nat_cmp es) s in
      let sorted = part-two (below_all nat_cmp e.0 es) (is_sorted nat_cmp es) s in
      let here : p e ≡ q e = h e.0 e.1 (first-found nat_cmp nat_cmp_total nat_cmp-IsAntisymmetric e es) in
      let rest : lists.find p es ≡ lists.find q es = same-found p q es sorted (λ n x f. h n x (behind-found nat_cmp nat_cmp_total nat_cmp-IsAntisymmetric e es n x below f)) in
      λ i. cond (here i) (Some e) (rest i)

module _ {K : ℕ} (k : List ℕ) where
  -- whether a box has the key
  abbrev has : ℕ × BucketBox K → Bool
  has e = contains e.1.region k

  is-found : (es : List (ℕ × BucketBox K)) (n : ℕ) (b : BucketBox K) → find nat_cmp n es ≡ Some b → contains b.region k ≡ true → IsSome (lists.find has es)
  is-found [] n b e h = absurd (some-not-none b (sym e))
  is-found (x ∷ es) n b e h = by (has x) refl (eq_by_cmp nat_cmp n x.0) e (is-found es n b)
    where
      by : (t : Bool) → contains x.1.region k ≡ t → (s : Bool) → cond s (Some x.1) (find nat_cmp n es) ≡ Some b → (find nat_cmp n es ≡ Some b → contains b.region k ≡ true → IsSome (lists.find has es)) → IsSome (cond t (Some x) (lists.find has es))
      by true p s q rest = refl
      by false p true q rest = absurd (true≢false (sym h ∙ ap (λ (d : BucketBox K). contains d.region k) (sym (one-value x.1 b q)) ∙ p))
      by false p false q rest = rest q h

  is-there : (es : List (ℕ × BucketBox K)) (e : ℕ × BucketBox K) → T (is_sorted nat_cmp es) → lists.find has es ≡ Some e → (find nat_cmp e.0 es ≡ Some e.1) × (contains e.1.region k ≡ true)
  is-there [] e s q = absurd (some-not-none e (sym q))
  is-there (x ∷ es) e s q = by (has x) refl q (is-there es e (part-two (below_all nat_cmp x.0 es) (is_sorted nat_cmp es) s))
    where
      by : (t : Bool) → contains x.1.region k ≡ t → cond t (Some x) (lists.find has es) ≡ Some e → (lists.find has es ≡ Some e → (find nat_cmp e.0 es ≡ Some e.1) × (contains e.1.region k ≡ true)) → (find nat_cmp e.0 (x ∷ es) ≡ Some e.1) × (contains e.1.region k ≡ true)
      by true p f rest =
          let same : x ≡ e = one-value x e f in
          subst (λ (y : ℕ × BucketBox K). (find nat_cmp y.0 (x ∷ es) ≡ Some y.1) × (contains y.1.region k ≡ true)) same (first-found nat_cmp nat_cmp_total nat_cmp-IsAntisymmetric x es, p)
      by false p f rest = (behind-found nat_cmp nat_cmp_total nat_cmp-IsAntisymmetric x es e.0 e.1 (part-one (below_all nat_cmp x.0 es) (is_sorted nat_cmp es) s) (rest f).0, (rest f).1)

-- a key that some box has is found
pub holder-finds : {K : ℕ} (k : List ℕ) (L : Layout K) (n : ℕ) (b : BucketBox K) → box L n ≡ Some b → contains b.region k ≡ true → IsSome (holder L k)
unfolding holder
holder-finds k L n b e h = is-found k L.boxes n b e h

-- the box that is found is there, and has the key
pub holder-box : {K : ℕ} (k : List ℕ) (L : Layout K) (e : ℕ × BucketBox K) → T (is_sorted nat_cmp L.boxes) → holder L k ≡ Some e → (box L e.0 ≡ Some e.1) × (contains e.1.region k ≡ true)
unfolding holder
holder-box k L e s q = is-there k L.boxes e s q

-- the note of a request's update is of the box that has its key
pub after-there : {K : ℕ} (L : Layout K) (k : List ℕ) (e : ℕ × BucketBox K) (n : LayoutChange) → holder L k ≡ Some e → after_note L k n ≡ after_note_at L e n
unfolding after_note
after-there L k e n q = ap (λ o. option_map_or (λ x. after_note_at L x n) o L) q
