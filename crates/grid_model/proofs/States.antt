-- Each request of a lone caller leaves a state: what is rooted is among the owners, and the pages fit.
use Rattle.std.proofs.Common.{◌≡◌, ◌<◌, ◌≤◌, ◌+◌, ◌==◌, ◌||◌, ◌&&◌, inl, inr, ℕ, zero, suc, Bool, true, false, cond, not, List, [], ◌∷◌, map, length, Option, Some, None, IsSome, IsTrue, refl, sym, ap, ◌∙◌, arith, true≢false, subst, nat_lt, ltb-false, ltb-true, slice_index_or}
use Rattle.std.specs.List.{Contains}
use Rattle.std.proofs.lemmas.List.Filters.{length-filter_both}
use Rattle.std.specs.Option.{is_some, option_map_or, option_map, option_and_then, unwrap_or}
use Rattle.grid_types.specs.declared.shape.Shape.{Shape}
use Rattle.grid_types.specs.declared.update.Update.{Update}
use Rattle.grid_types.specs.declared.update.Update.TheVariants.{Put, Remove}
use Rattle.grid_types.specs.declared.refusal.Refusal.TheVariants.{Full, BadQuery}
use Rattle.grid_types.specs.declared.request.Request.{Request}
use Rattle.grid_types.specs.declared.request.Request.TheVariants as ask
use Rattle.grid_types.specs.declared.request.Reply.TheVariants as told
use Rattle.grid_types.specs.declared.key.Key.{Key}
use Rattle.grid_types.specs.declared.layout_change.LayoutChange.{LayoutChange}
use Rattle.grid_types.specs.declared.layout_change.LayoutChange.TheVariants as note
use Rattle.grid_types.specs.declared.layout_change.Cut.{Cut}
use Rattle.grid_model.specs.Lawful.{IsUpdateOf}
use Rattle.grid_types.specs.Queries.{is_lawful}
use Rattle.grid_model.specs.Lists.{is_among}
use Rattle.grid_model.specs.Scales.{scale_of, is_scale}
use Rattle.grid_model.specs.Cells.{parts}
use Rattle.grid_model.specs.Tables.{Table, get, without, effect}
use Rattle.grid_model.specs.Listings.{rows}
use Rattle.grid_model.specs.Layouts.{BucketBox, Layout, box, holder, unused, records_inside, IsSound}
use Rattle.grid_model.specs.Cuts.{cut}
use Rattle.grid_model.specs.Neighbours.{partners}
use Rattle.grid_model.specs.Notes.{updated_key, keys_with, cut_note, put_note, put_note_at, merges, merges_at, after_note_at, joined, IsLawfulNote}
use Rattle.grid_model.specs.LayoutLaws.{StandsOver, Fits, KeepsSound, IsLeastUnused, MergesTwo, IsMerge}
use Rattle.grid_model.specs.LoneLaws.{IsState, IsRequest}
use Rattle.grid_model.specs.Lone.{record_of, State, free, root, opened, root_if, how_many, renewed, dropped, need, published, claimed, queued, change, change_claimed, done, refused, answered, remove_note, remove_found, put_noted, update_at, update_held, updated, lone}
use Rattle.grid_model.proofs.Counts.{filter-distinct, among-filter, among-range, range-distinct, sorted-distinct, among-found}
use Rattle.grid_model.proofs.Holders.{holder-box, after-there}
use Rattle.grid_model.proofs.Partners.{no-merge-of-put}
use Rattle.grid_model.proofs.Swapping.{Swaps, IsRooted, plain-swaps, cut-swaps, merge-swaps}
use Rattle.grid_model.proofs.Truths.{not-true}

module _ {K : ℕ} (shape : Shape) where
  -- a file that was opened has a state
  pub opened-state : (t : Table) (L : Layout K) (n : ℕ) → StandsOver shape L t → Fits shape L → IsState shape (opened t L n)
  opened-state t L n h f = record {
    stands = h;
    rooted_buckets = among-found L.boxes;
    distinct_buckets = sorted-distinct L.boxes h.sound.numbered;
    rooted_parts = λ p g. omega (arith, (among-range 0 (parts L.scales) p g).1);
    distinct_parts = range-distinct 0 (parts L.scales);
    pages = omega (arith, f);
  }

  -- a root step leaves a state
  pub root-state : (s : State K) → IsState shape s → IsState shape (root s)
  root-state s h = record {
    stands = h.stands;
    rooted_buckets = among-found s.layout.boxes;
    distinct_buckets = sorted-distinct s.layout.boxes h.stands.sound.numbered;
    rooted_parts = λ p g. omega (arith, (among-range 0 (parts s.layout.scales) p g).1);
    distinct_parts = range-distinct 0 (parts s.layout.scales);
    pages = omega (arith, h.pages);
  }

-- what is rooted in a state
rooted-of : {K : ℕ} (shape : Shape) (s : State K) → IsState shape s → IsRooted s.layout s.rooted
rooted-of shape s h = record { buckets = h.rooted_buckets; distinct_buckets = h.distinct_buckets; parts_there = h.rooted_parts; distinct_parts = h.distinct_parts }

-- the number of the right part of a cut
abbrev right-number : Option LayoutChange → ℕ
right-number None = 0
right-number (Some note.Plain) = 0
right-number (Some (note.Cut c right)) = right
right-number (Some (note.Merge m)) = 0

abbrev is-cut : Option LayoutChange → Bool
is-cut None = false
is-cut (Some note.Plain) = false
is-cut (Some (note.Cut c right)) = true
is-cut (Some (note.Merge m)) = false

abbrev is-merge : Option LayoutChange → Bool
is-merge None = false
is-merge (Some note.Plain) = false
is-merge (Some (note.Cut c right)) = false
is-merge (Some (note.Merge m)) = true

-- a put cuts with the least number that no box has
pub cut-right : {K : ℕ} (shape : Shape) (L : Layout K) (t : Table) (k : List ℕ) (c : Cut) (right : ℕ) → put_note shape L t k ≡ Some (note.Cut c right) → right ≡ unused L
unfolding put_note
cut-right {K} shape L t k c right e = held (holder L k) e
  where
    from-cut : (o : Option Cut) → option_map (cut_note L) o ≡ Some (note.Cut c right) → right ≡ unused L
    from-cut None q = absurd (true≢false (sym (ap is_some q)))
    from-cut (Some d) q = ap right-number (sym q)

    noted : (t : Bool) (o : Option Cut) → cond t (Some note.Plain) (option_map (cut_note L) o) ≡ Some (note.Cut c right) → right ≡ unused L
    noted true o q = absurd (true≢false (sym (ap is-cut q)))
    noted false o q = from-cut o q

    held : (o : Option (ℕ × BucketBox K)) → option_and_then (λ x. put_note_at shape L t k x.1) o ≡ Some (note.Cut c right) → right ≡ unused L
    held None q = absurd (true≢false (sym (ap is_some q)))
    held (Some x) q = noted (is_some (get t k) || nat_lt (length (records_inside t x.1.region)) shape.capacity) (cut shape L.scales x.1 (keys_with t x.1.region k)) q

listed-merge : (ms : List ℕ) (n : LayoutChange) (i : ℕ) → i < length (map note.Merge ms) → slice_index_or (map note.Merge ms) i n ≡ n → is-merge (Some n) ≡ true
listed-merge [] n i h e = absurd (omega (arith, h))
listed-merge (m ∷ ms) n zero h e = ap (λ x. is-merge (Some x)) (sym e)
listed-merge (m ∷ ms) n (suc i) h e = listed-merge ms n i (omega (arith, h)) e

-- the merges of a remove are merges
merges-merge : {K : ℕ} (shape : Shape) (L : Layout K) (t : Table) (k : List ℕ) (n : LayoutChange) → Contains (merges shape L t k) n → is-merge (Some n) ≡ true
unfolding merges
merges-merge {K} shape L t k n c = held (holder L k) c
  where
    held : (o : Option (ℕ × BucketBox K)) → Contains (option_map_or (λ x. merges_at shape L t k x.1) o []) n → is-merge (Some n) ≡ true
    held None g = absurd (omega (arith, g.1))
    held (Some x) g = listed-merge (partners shape L (without t k) x.1.region) n g.0 g.1 g.2

-- past the scales there is a scale too, with no boundary
scale-past : (scales : List (List ℕ)) (a : ℕ) → length scales ≤ a → scale_of scales a ≡ []
scale-past [] a h = refl
scale-past (s ∷ ss) zero h = absurd (omega (arith, h))
scale-past (s ∷ ss) (suc a) h = scale-past ss a (omega (arith, h))

-- each scale of a sound layout is one
scale-is : {K : ℕ} (shape : Shape) (L : Layout K) (t : Table) (a : ℕ) → IsSound shape L t → IsTrue (is_scale (scale_of L.scales a))
scale-is {K} shape L t a h = by (nat_lt a K) refl
  where
    by : (t : Bool) → nat_lt a K ≡ t → IsTrue (is_scale (scale_of L.scales a))
    by true e = h.scales a (ltb-true a K e)
    by false e = ap is_scale (scale-past L.scales a (omega (arith, ltb-false a K e, h.attributes)))

module _ {K : ℕ} (shape : Shape) where
  -- the note that a remove takes is lawful
  pub remove-lawful : (s : State K) (e : ℕ × BucketBox K) (k : Key K) → IsSome (get s.table k.numbers) → (ms : List LayoutChange) → ((n : LayoutChange) → Contains ms n → Contains (merges shape s.layout s.table k.numbers) n)
      → IsLawfulNote shape s.layout s.table (Remove k) (remove_note shape s e (Remove k) ms)
  remove-lawful s e k some [] all = (some, inl refl)
  remove-lawful s e k some (m ∷ ms) all = by (nat_lt (free shape s) (need s.layout e (Remove k) m))
    where
      by : (t : Bool) → IsLawfulNote shape s.layout s.table (Remove k) (cond t note.Plain m)
      by true = (some, inl refl)
      by false = (some, inr (all m (zero, omega arith, refl)))

module _ {K : ℕ} (shape : Shape) (keeps : KeepsSound K) (least : IsLeastUnused K) (merging : MergesTwo K) where
  -- a lawful note swaps owners
  swaps : (s : State K) (e : ℕ × BucketBox K) (u : Update K) (n : LayoutChange) → IsState shape s → holder s.layout (updated_key u) ≡ Some e → IsLawfulNote shape s.layout s.table u n
      → Swaps s.layout (after_note_at s.layout e n) (dropped s.layout e n) (renewed s.layout e n) s.rooted
  unfolding dropped renewed
  swaps s e u note.Plain h q l = plain-swaps s.layout e.0 s.rooted (rooted-of shape s h)
  swaps s e (Put r) (note.Cut c right) h q l =
      let b = holder-box r.key.numbers s.layout e h.stands.sound.numbered q in
      cut-swaps s.layout e.0 e.1 c right s.rooted b.0 (ap (box s.layout) (cut-right shape s.layout s.table r.key.numbers c right l) ∙ least.none s.layout) h.stands.sound.numbered (rooted-of shape s h) (scale-is shape s.layout s.table c.attribute h.stands.sound)
  swaps s e (Remove k) (note.Cut c right) h q (some, inl p) = absurd (true≢false (ap (λ x. is-cut (Some x)) p))
  swaps s e (Remove k) (note.Cut c right) h q (some, inr p) = absurd (true≢false (sym (merges-merge shape s.layout s.table k.numbers (note.Cut c right) p)))
  swaps s e (Put r) (note.Merge m) h q l = absurd (no-merge-of-put shape s.layout s.table r.key.numbers m l)
  swaps s e (Remove k) (note.Merge m) h q l =
      let b = holder-box k.numbers s.layout e h.stands.sound.numbered q in
      let g = merging.merge shape s.layout s.table (Remove k) m e.0 e.1 h.stands l q in
      let same : after_note_at s.layout e (note.Merge m) ≡ joined s.layout e.0 e.1 m g.0 = ap (λ o. joined s.layout e.0 e.1 m (unwrap_or o e.1)) g.1 in
      subst (λ (M : Layout K). Swaps s.layout M (dropped s.layout e (note.Merge m)) (renewed s.layout e (note.Merge m)) s.rooted) (sym same)
      (merge-swaps s.layout e.0 e.1 m g.0 s.rooted b.0 g.1 g.2 h.stands.sound.numbered (rooted-of shape s h)
      (subst (λ (M : Layout K). IsMerge s.layout e.0 e.1 m g.0 M) (after-there s.layout k.numbers e (note.Merge m) q ∙ same) g.3))

  pub published-state : (s : State K) (e : ℕ × BucketBox K) (u : Update K) (n : LayoutChange) → IsState shape s → IsUpdateOf K u → holder s.layout (updated_key u) ≡ Some e → IsLawfulNote shape s.layout s.table u n
      → how_many (renewed s.layout e n) ≤ free shape s → IsState shape (published e u n s)
  unfolding published
  published-state s e u n h k q l room =
      let w = swaps s e u n h q l in
      record {
        stands = subst (λ (M : Layout K). StandsOver shape M (effect s.table u)) (after-there s.layout (updated_key u) e n q)
            (keeps.after shape s.layout s.table u n h.stands k l (subst (Fits shape) (sym (after-there s.layout (updated_key u) e n q)) (omega (arith, w.total, h.pages, room))));
        rooted_buckets = λ m g. let p = among-filter (λ i. not (is_among (dropped s.layout e n).buckets i)) s.rooted.buckets m g in
            ap is_some (w.boxes m (not-true (is_among (dropped s.layout e n).buckets m) p.1)) ∙ h.rooted_buckets m p.0;
        distinct_buckets = filter-distinct (λ m. not (is_among (dropped s.layout e n).buckets m)) s.rooted.buckets h.distinct_buckets;
        rooted_parts = λ p g. let f = among-filter (λ i. not (is_among (dropped s.layout e n).parts i)) s.rooted.parts p g in
            w.stay p (h.rooted_parts p f.0) (not-true (is_among (dropped s.layout e n).parts p) f.1);
        distinct_parts = filter-distinct (λ m. not (is_among (dropped s.layout e n).parts m)) s.rooted.parts h.distinct_parts;
        pages = omega (arith, w.total, h.pages, room);
      }

  -- a root step for want of slots leaves a state in which the update is done
  done-state : (s : State K) (e : ℕ × BucketBox K) (u : Update K) (n : LayoutChange) → IsState shape s → IsUpdateOf K u → holder s.layout (updated_key u) ≡ Some e → IsLawfulNote shape s.layout s.table u n
      → how_many (renewed s.layout e n) ≤ free shape s → IsState shape (published e u n (queued shape s))
  unfolding queued
  done-state s e u n h k q l room = by (s.used == shape.slots)
    where
      by : (t : Bool) → IsState shape (published e u n (root_if t s))
      by true = published-state (root s) e u n (root-state shape s h) k q l (omega (arith, room))
      by false = published-state s e u n h k q l room

  -- an update with as many free pages as it needs, or refused
  claimed-state : (s : State K) (e : ℕ × BucketBox K) (u : Update K) (n : LayoutChange) (wanted : ℕ) → IsState shape s → IsUpdateOf K u → holder s.layout (updated_key u) ≡ Some e → IsLawfulNote shape s.layout s.table u n
      → how_many (renewed s.layout e n) ≤ wanted → IsState shape (change_claimed shape e u n wanted s).state
  claimed-state s e u n wanted h k q l few = by (nat_lt (free shape s) wanted) refl
    where
      by : (t : Bool) → nat_lt (free shape s) wanted ≡ t → IsState shape (cond t (refused s (Full (free shape s) wanted)) (done e u n (queued shape s))).state
      by true p = h
      by false p = done-state s e u n h k q l (omega (arith, few, ltb-false (free shape s) wanted p))

  -- an update with its note
  pub change-state : (s : State K) (e : ℕ × BucketBox K) (u : Update K) (n : LayoutChange) → IsState shape s → IsUpdateOf K u → holder s.layout (updated_key u) ≡ Some e → IsLawfulNote shape s.layout s.table u n → IsState shape (change shape s e u n).state
  unfolding change claimed need
  change-state s e u n h k q l = by (nat_lt (free shape s) (need s.layout e u n) && nat_lt 0 s.kept)
    where
      by : (t : Bool) → IsState shape (change_claimed shape e u n (need s.layout e u n) (root_if t s)).state
      by true = claimed-state (root s) e u n (need s.layout e u n) (root-state shape s h) k q l (omega arith)
      by false = claimed-state s e u n (need s.layout e u n) h k q l (omega arith)

  held-state : (s : State K) (u : Update K) (e : ℕ × BucketBox K) → IsState shape s → IsUpdateOf K u → holder s.layout (updated_key u) ≡ Some e → IsState shape (update_at shape s u e).state
  held-state s (Put r) e h k q = by (put_note shape s.layout s.table r.key.numbers) refl
    where
      by : (o : Option LayoutChange) → put_note shape s.layout s.table r.key.numbers ≡ o → IsState shape (put_noted shape s e (Put r) o).state
      by None p = h
      by (Some n) p = change-state s e (Put r) n h k q p
  held-state s (Remove d) e h k q = by (get s.table d.numbers) refl
    where
      by : (o : Option (List ℕ)) → get s.table d.numbers ≡ o → IsState shape (remove_found shape s e (Remove d) o).state
      by None p = h
      by (Some x) p = change-state s e (Remove d) (remove_note shape s e (Remove d) (merges shape s.layout s.table d.numbers)) h k q (remove-lawful shape s e d (ap is_some p) (merges shape s.layout s.table d.numbers) (λ n c. c))

  updated-state : (s : State K) (u : Update K) → IsState shape s → IsUpdateOf K u → IsState shape (updated shape s u).state
  unfolding updated
  updated-state s u h k = by (holder s.layout (updated_key u)) refl
    where
      by : (o : Option (ℕ × BucketBox K)) → holder s.layout (updated_key u) ≡ o → IsState shape (update_held shape s u o).state
      by None p = h
      by (Some e) p = held-state s u e h k p

  -- each request leaves a state
  pub lone-state : (s : State K) (r : Request K) → IsState shape s → IsRequest r → IsState shape (lone shape s r).state
  unfolding lone
  lone-state s (ask.Put r) h k = updated-state s (Put r) h k
  lone-state s (ask.Remove d) h k = updated-state s (Remove d) h k
  lone-state s (ask.Get d) h k = h
  lone-state s (ask.List q) h k = by (is_lawful q.sides)
    where
      by : (t : Bool) → IsState shape (cond t (answered s (told.Listed (record { at = s.front; value = map record_of (rows s.table q) }))) (refused s BadQuery)).state
      by true = h
      by false = h
  lone-state s (ask.Count q) h k = by (is_lawful q.sides)
    where
      by : (t : Bool) → IsState shape (cond t (answered s (told.Counted (record { at = s.front; value = length (rows s.table q) }))) (refused s BadQuery)).state
      by true = h
      by false = h
  lone-state s ask.Stat h k = h
  lone-state s ask.Checkpoint h k = root-state shape s h

-- the free pages are those that neither a box nor a part nor the root has
pub free-pages : {K : ℕ} (shape : Shape) (s : State K) → IsState shape s → free shape s + length s.layout.boxes + parts s.layout.scales + s.kept ≡ shape.pages
free-pages shape s h = omega (arith, h.pages)

-- the pages of the root that an update replaces are kept
pub kept-pages : {K : ℕ} (s : State K) (e : ℕ × BucketBox K) (u : Update K) (n : LayoutChange) → (published e u n s).kept + how_many (published e u n s).rooted ≡ s.kept + how_many s.rooted
unfolding published
kept-pages s e u n = omega (
  arith,
  length-filter_both (is_among (dropped s.layout e n).buckets) (λ i. not (is_among (dropped s.layout e n).buckets i)) (λ i. refl) s.rooted.buckets,
  length-filter_both (is_among (dropped s.layout e n).parts) (λ i. not (is_among (dropped s.layout e n).parts i)) (λ i. refl) s.rooted.parts,
)
