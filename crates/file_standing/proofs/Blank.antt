-- A table whose records have no data: which notes are lawful and how layouts stand depends on keys alone.
use Rattle.std.proofs.Common.{◌≡◌, ◌+◌, ◌*◌, ◌/◌, inl, inr, ℕ, Bool, true, false, cond, not, ◌&&◌, ◌||◌, T, List, [], ◌∷◌, map, length, Option, Some, None, is_some, refl, sym, ap, subst, ◌∙◌, arith, true≢false, nat_le, nat_lt, is_lt}
use Rattle.std.specs.Prelude.{Contains}
use Rattle.std.specs.Option.{option_and_then, option_map, option_map_or}
use Rattle.std.specs.List.{filter_map}
use Rattle.std.specs.Ordering.{eq_by_cmp}
use Rattle.std.specs.declared.cmp.Ordering.{Ordering}
use Rattle.std.specs.declared.cmp.Ordering.TheVariants.{Less, Equal, Greater}
use Rattle.std.specs.FinMap.Entries.{where_key, is_sorted, below_all, by_order}
use Rattle.std.proofs.lemmas.List.{length-map}
use Rattle.grid_types.specs.declared.layout_change.LayoutChange.{LayoutChange}
use Rattle.grid_types.specs.declared.layout_change.LayoutChange.TheVariants as note
use Rattle.grid_types.specs.declared.region.Region.{Region}
use Rattle.grid_types.specs.declared.shape.Shape.{Shape}
use Rattle.grid_types.specs.declared.update.Update.{Update}
use Rattle.grid_types.specs.declared.update.Update.TheVariants.{Put, Remove}
use Rattle.grid_types.specs.Keys.{key_cmp, IsKey}
use Rattle.grid_types.specs.Regions.{contains, make_a_box}
use Rattle.grid_model.specs.Tables.{Table, get, with_data, without, effect}
use Rattle.grid_model.specs.Layouts.{BucketBox, Layout, holder, records_inside}
use Rattle.grid_model.specs.LayoutLaws.{StandsOver}
use Rattle.grid_model.specs.Cuts.{cut}
use Rattle.grid_model.specs.Neighbours.{Direction, directions, neighbour, joins, partners}
use Rattle.grid_model.specs.Notes.{updated_key, put_note, put_note_at, cut_note, keys_with, merges, IsLawfulNote}
use Rattle.grid_model.proofs.Boxes.{one-value, some-not-none}
use Rattle.grid_model.proofs.LayoutKept.{kept-layout}

-- an entry without its data
abbrev pub bare : List ℕ × List ℕ → List ℕ × List ℕ
bare e = (e.0, [])

-- a table without data
abbrev pub blank : Table → Table
blank t = map bare t

-- an update without its data
abbrev pub bare_update : {K : ℕ} → Update K → Update K
bare_update (Put r) = Put (record { key = r.key; value = [] })
bare_update (Remove k) = Remove k

pub bare-key : {K : ℕ} (u : Update K) → updated_key (bare_update u) ≡ updated_key u
bare-key (Put r) = refl
bare-key (Remove k) = refl

-- the same keys are found
pub found-bare : (k : List ℕ) (t : Table) → is_some (get (blank t) k) ≡ is_some (get t k)
found-bare k [] = refl
found-bare k (e ∷ t) = by (eq_by_cmp key_cmp k e.0) (found-bare k t)
  where
    by : (b : Bool) → is_some (get (blank t) k) ≡ is_some (get t k) → is_some (cond b (Some []) (get (blank t) k)) ≡ is_some (cond b (Some e.1) (get t k))
    by true rest = refl
    by false rest = rest

found-nothing : (k d : List ℕ) (t : Table) → get (blank t) k ≡ Some d → d ≡ []
found-nothing k d [] is = absurd (some-not-none d (sym is))
found-nothing k d (e ∷ t) is = by (eq_by_cmp key_cmp k e.0) is (found-nothing k d t)
  where
    by : (b : Bool) → cond b (Some []) (get (blank t) k) ≡ Some d → (get (blank t) k ≡ Some d → d ≡ []) → d ≡ []
    by true q rest = sym (one-value [] d q)
    by false q rest = rest q

put-bare : (k d : List ℕ) (t : Table) → with_data (blank t) k [] ≡ blank (with_data t k d)
put-bare k d [] = refl
put-bare k d (e ∷ t) = by (key_cmp k e.0) (put-bare k d t)
  where
    by : (o : Ordering) → with_data (blank t) k [] ≡ blank (with_data t k d)
        → by_order o ((k, []) ∷ bare e ∷ blank t) ((e.0, []) ∷ blank t) (bare e ∷ with_data (blank t) k []) ≡ blank (by_order o ((k, d) ∷ e ∷ t) ((e.0, d) ∷ t) (e ∷ with_data t k d))
    by Less rest = refl
    by Equal rest = refl
    by Greater rest = ap (λ (s : Table). bare e ∷ s) rest

where-bare : (p : List ℕ → Bool) (t : Table) → where_key key_cmp p (blank t) ≡ blank (where_key key_cmp p t)
where-bare p [] = refl
where-bare p (e ∷ t) = by (p e.0) (where-bare p t)
  where
    by : (b : Bool) → where_key key_cmp p (blank t) ≡ blank (where_key key_cmp p t)
        → cond b (bare e ∷ where_key key_cmp p (blank t)) (where_key key_cmp p (blank t)) ≡ blank (cond b (e ∷ where_key key_cmp p t) (where_key key_cmp p t))
    by true rest = ap (λ (s : Table). bare e ∷ s) rest
    by false rest = rest

pub effect-bare : {K : ℕ} (t : Table) (u : Update K) → effect (blank t) (bare_update u) ≡ blank (effect t u)
unfolding effect
effect-bare t (Put r) = put-bare r.key.numbers r.value t
effect-bare t (Remove k) = where-bare (λ x. not (eq_by_cmp key_cmp k.numbers x)) t

-- as many records are inside of a region
inside-bare : {K : ℕ} (t : Table) (r : Region K) → length (records_inside (blank t) r) ≡ length (records_inside t r)
inside-bare t r = ap length (where-bare (contains r) t) ∙ length-map (records_inside t r) bare

below-bare : (x : List ℕ) (t : Table) → below_all key_cmp x (blank t) ≡ below_all key_cmp x t
below-bare x [] = refl
below-bare x (e ∷ t) = ap (λ (b : Bool). is_lt (key_cmp x e.0) && b) (below-bare x t)

sorted-bare : (t : Table) → is_sorted key_cmp (blank t) ≡ is_sorted key_cmp t
sorted-bare [] = refl
sorted-bare (e ∷ t) = λ i. below-bare e.0 t i && sorted-bare t i

names-bare : (t : Table) → map (λ (e : List ℕ × List ℕ). e.0) (blank t) ≡ map (λ (e : List ℕ × List ℕ). e.0) t
names-bare [] = refl
names-bare (e ∷ t) = ap (λ (ks : List (List ℕ)). e.0 ∷ ks) (names-bare t)

-- a layout stands over a table without data too
pub stands-bare : {K : ℕ} (shape : Shape) (L : Layout K) (t : Table) → StandsOver shape L t → StandsOver shape L (blank t)
stands-bare {K} shape L t h = kept-layout shape L t (blank t) h (record {
  table = subst T (sym (sorted-bare t)) h.table;
  keys = keys;
  values = λ k d is. omega (arith, ap length (found-nothing k d t is));
}) (λ n b there. omega (arith, inside-bare t b.region, h.sound.room n b there))
  where
    keys : (k d : List ℕ) → get (blank t) k ≡ Some d → IsKey K k
    keys k d is = by (get t k) refl
      where
        by : (o : Option (List ℕ)) → get t k ≡ o → IsKey K k
        by None e = absurd (true≢false (sym (ap is_some is) ∙ found-bare k t ∙ ap is_some e))
        by (Some x) e = h.keys k x e

module _ {K : ℕ} (shape : Shape) (L : Layout K) (t : Table) where
  keys-bare : (r : Region K) (k : List ℕ) → keys_with (blank t) r k ≡ keys_with t r k
  keys-bare r k =
      ap (λ (s : Table). map (λ (e : List ℕ × List ℕ). e.0) (records_inside s r)) (put-bare k [] t)
      ∙ ap (map (λ (e : List ℕ × List ℕ). e.0)) (where-bare (contains r) (with_data t k []))
      ∙ names-bare (records_inside (with_data t k []) r)

  note-bare : (k : List ℕ) (b : BucketBox K) → put_note_at shape L (blank t) k b ≡ put_note_at shape L t k b
  note-bare k b = λ i. cond (found-bare k t i || nat_lt (inside-bare t b.region i) shape.capacity) (Some note.Plain) (option_map (cut_note L) (cut shape L.scales b (keys-bare b.region k i)))

  put-note-bare : (k : List ℕ) → put_note shape L (blank t) k ≡ put_note shape L t k
  unfolding put_note
  put-note-bare k = ap (λ (f : BucketBox K → Option LayoutChange). option_and_then (λ e. f e.1) (holder L k)) (λ i b. note-bare k b i)

-- the same boxes may be joined
joins-bare : {K : ℕ} (shape : Shape) (L : Layout K) (t : Table) (r : Region K) (side : Direction) → joins shape L (blank t) r side ≡ joins shape L t r side
joins-bare {K} shape L t r side = ap (λ (f : ℕ × BucketBox K → Option ℕ). option_and_then f (neighbour L r side))
    (λ i x. cond (make_a_box r x.1.region && nat_le (inside-bare t r i + inside-bare t x.1.region i) (7 * shape.capacity / 10)) (Some x.0) None)

partners-bare : {K : ℕ} (shape : Shape) (L : Layout K) (t : Table) (r : Region K) → partners shape L (blank t) r ≡ partners shape L t r
unfolding partners
partners-bare shape L t r = ap (λ (f : Direction → Option ℕ). filter_map f (directions (length r.lo))) (λ i side. joins-bare shape L t r side i)

merges-bare : {K : ℕ} (shape : Shape) (L : Layout K) (t : Table) (k : List ℕ) → merges shape L (blank t) k ≡ merges shape L t k
unfolding merges
merges-bare {K} shape L t k = ap (λ (f : BucketBox K → List LayoutChange). option_map_or (λ e. f e.1) (holder L k) []) (λ i b. map note.Merge (same b i))
  where
    same : (b : BucketBox K) → partners shape L (without (blank t) k) b.region ≡ partners shape L (without t k) b.region
    same b = ap (λ (s : Table). partners shape L s b.region) (where-bare (λ x. not (eq_by_cmp key_cmp k x)) t) ∙ partners-bare shape L (without t k) b.region

-- and the same notes are lawful
pub lawful-bare : {K : ℕ} (shape : Shape) (L : Layout K) (t : Table) (u : Update K) (n : LayoutChange) → IsLawfulNote shape L t u n → IsLawfulNote shape L (blank t) (bare_update u) n
lawful-bare shape L t (Put r) n is = put-note-bare shape L t r.key.numbers ∙ is
lawful-bare shape L t (Remove k) n (there, inl plain) = (found-bare k.numbers t ∙ there, inl plain)
lawful-bare shape L t (Remove k) n (there, inr merge) = (found-bare k.numbers t ∙ there, inr (subst (λ (ms : List LayoutChange). Contains ms n) (sym (merges-bare shape L t k.numbers)) merge))
