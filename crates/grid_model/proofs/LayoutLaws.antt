-- A lawful note keeps a layout sound.
use Rattle.std.proofs.Common.{◌≡◌, ◌≢◌, ◌<◌, ◌≤◌, ◌+◌, ◌-◌, ◌⊎◌, inl, inr, ℕ, Bool, true, false, List, [], map, length, get_or, slice_index, Option, Some, None, refl, sym, subst, arith, IsTrue, Contains}
use Rattle.std.proofs.lemmas.List.{length-map, get_or-map}
use Rattle.std.specs.Option.{option_map_or}
use Rattle.grid_types.specs.declared.key.Key.{Key}
use Rattle.grid_types.specs.declared.layout_change.Cut.{Cut}
use Rattle.grid_types.specs.declared.layout_change.LayoutChange.{LayoutChange}
use Rattle.grid_types.specs.declared.layout_change.LayoutChange.TheVariants as note
use Rattle.grid_types.specs.declared.shape.Shape.{Shape}
use Rattle.grid_types.specs.declared.update.Record.{Record}
use Rattle.grid_types.specs.declared.update.Update.{Update}
use Rattle.grid_types.specs.declared.update.Update.TheVariants.{Put, Remove}
use Rattle.grid_types.specs.Regions.{contains, IsRegion}
use Rattle.grid_types.proofs.Parted.{set-each, below-region, from-region}
use Rattle.grid_model.specs.Tables.{Table, IsTableOf, with_data, without, effect}
use Rattle.grid_model.specs.Lawful.{IsUpdateOf}
use Rattle.grid_model.specs.Scales.{scale_of, is_drawn}
use Rattle.grid_model.specs.Layouts.{BucketBox, Layout, box, holder, records_inside, unused, IsDrawn}
use Rattle.grid_model.specs.Cuts.{cut}
use Rattle.grid_model.specs.Notes.{updated_key, put_note, merges, merges_at, left_of, right_of, next_turn, scales_after, cut_note, keys_with, after_note, after_note_at, split, IsLawfulNote}
use Rattle.grid_model.specs.Neighbours.{partners}
use Rattle.grid_model.specs.ScaleLaws.{PartsNumbers}
use Rattle.grid_model.specs.CutLaws.{CutsBest}
use Rattle.grid_model.specs.LayoutLaws.{StandsOver, Fits, KeepsSound}
use Rattle.grid_model.proofs.Holders.{after-there}
use Rattle.grid_model.proofs.LeastUnused.{least-unused}
use Rattle.grid_model.proofs.RegionCounts.{count-put-outside}
use Rattle.grid_model.proofs.CutScales.{AreScales, AreAfter, cut-scales, drawn-below, drawn-above}
use Rattle.grid_model.proofs.CutBoxes.{each-part, split-numbered, length-split, split-covers, split-apart}
use Rattle.grid_model.proofs.CutParts.{Cuts, cuts}
use Rattle.grid_model.proofs.LayoutKept.{table-after, its-table, remove-plain, put-plain, put-never-merges, PutBox, put-box, PutNote, There, HasRoom, IsCut, noted}
use Rattle.grid_model.proofs.NewLayout.{new-stands}

module _ {K : ℕ} (numbers : PartsNumbers) (shape : Shape) (L : Layout K) (t : Table) (r : Record K) (n : ℕ) (b : BucketBox K) (c : Cut) (h : StandsOver shape L t) (lawful : IsUpdateOf K (Put r)) (there : box L n ≡ Some b)
    (has : contains b.region r.key.numbers ≡ true) (is : Cuts shape L.scales b t r.key.numbers c) where
  scales : AreScales K shape L.scales
  scales = record { attributes = h.sound.attributes; ascend = h.sound.scales; few_boundaries = h.sound.few_boundaries; few_cells = h.sound.few_cells }

  after_cut : AreAfter K shape L.scales (scales_after L.scales c) c.attribute c.value
  after_cut = cut-scales numbers shape L.scales scales c is.attribute is.scale

  region : IsRegion K b.region
  region = h.sound.regions n b there

  in_low : c.attribute < length b.region.lo
  in_low = let count : length b.region.lo ≡ K = region.low.count in let records_inside = is.attribute in omega (arith, count, records_inside)

  in_high : c.attribute < length b.region.hi
  in_high = let count : length b.region.hi ≡ K = region.high.count in let records_inside = is.attribute in omega (arith, count, records_inside)

  left_region : IsRegion K (left_of b c).region
  left_region = below-region b.region c.attribute c.value region is.attribute is.within

  right_region : IsRegion K (right_of b c).region
  right_region = from-region b.region c.attribute c.value region is.attribute is.within

  -- a box that was drawn is drawn on the scales after the cut
  still_drawn : (m : ℕ) (d : BucketBox K) → box L m ≡ Some d → IsDrawn (scales_after L.scales c) d
  still_drawn m d at a i = after_cut.drawn a (slice_index d.region.lo a) (slice_index d.region.hi a) i (h.sound.drawn m d at a i)

  left_drawn : IsDrawn (scales_after L.scales c) (left_of b c)
  left_drawn a i = set-each (λ j x. IsTrue (is_drawn (scale_of (scales_after L.scales c) j) (slice_index b.region.lo j) x)) b.region.hi c.attribute (c.value - 1) a in_high
      (drawn-below (scale_of (scales_after L.scales c) c.attribute) c.value (slice_index b.region.lo c.attribute) (slice_index b.region.hi c.attribute) after_cut.boundary (still_drawn n b there c.attribute is.attribute))
      (still_drawn n b there a i)

  right_drawn : IsDrawn (scales_after L.scales c) (right_of b c)
  right_drawn a i = set-each (λ j x. IsTrue (is_drawn (scale_of (scales_after L.scales c) j) x (slice_index b.region.hi j))) b.region.lo c.attribute c.value a in_low
      (drawn-above (scale_of (scales_after L.scales c) c.attribute) c.value (slice_index b.region.lo c.attribute) (slice_index b.region.hi c.attribute) after_cut.boundary (still_drawn n b there c.attribute is.attribute))
      (still_drawn n b there a i)

  turn : next_turn K c < K
  turn = let records_inside = is.attribute in omega (arith, records_inside)

  none : box L (unused L) ≡ None
  none = least-unused.none L

  room : length (records_inside t b.region) ≤ shape.capacity
  room = h.sound.room n b there

  -- a box without the key has as many records as before
  other_room : (m : ℕ) (d : BucketBox K) → box L m ≡ Some d → m ≢ n → length (records_inside (with_data t r.key.numbers r.value) d.region) ≤ shape.capacity
  other_room m d at differ = by (contains d.region r.key.numbers) refl
    where
      by : (s : Bool) → contains d.region r.key.numbers ≡ s → length (records_inside (with_data t r.key.numbers r.value) d.region) ≤ shape.capacity
      by true e = absurd (differ (h.sound.apart r.key.numbers m n d b at there e has))
      by false e = let same = count-put-outside (contains d.region) r.key.numbers r.value t e in let old = h.sound.room m d at in omega (arith, same, old)

  -- the new number is below the number of pages
  unused_below : Fits shape (split L n b c (unused L)) → unused L < shape.pages
  unused_below fits =
      let few : unused L ≤ length L.boxes = least-unused.few L in
      let one_more : length (split L n b c (unused L)).boxes ≡ length L.boxes + 1 = length-split L n b c (unused L) there none h.sound.numbered in
      omega (arith, few, one_more, fits)

  after_put : IsTableOf K (effect t (Put r))
  after_put = table-after t (Put r) (its-table shape L t h) lawful

  -- a layout with a box cut stands over the table after the put
  split-stands : Fits shape (split L n b c (unused L)) → StandsOver shape (split L n b c (unused L)) (effect t (Put r))
  unfolding split effect
  split-stands fits = record {
    lawful = h.lawful;
    attributes = h.attributes;
    table = after_put.table;
    keys = after_put.keys;
    values = after_put.values;
    sound = record {
      attributes = after_cut.lawful.attributes;
      scales = after_cut.lawful.ascend;
      few_boundaries = after_cut.lawful.few_boundaries;
      few_cells = after_cut.lawful.few_cells;
      numbered = split-numbered L n b c (unused L) there none h.sound.numbered;
      regions = each-part L n b c (unused L) there none (λ _ d. IsRegion K d.region) left_region right_region (λ m d at _. h.sound.regions m d at);
      turns = each-part L n b c (unused L) there none (λ _ d. d.turn < K) turn turn (λ m d at _. h.sound.turns m d at);
      drawn = each-part L n b c (unused L) there none (λ _ d. IsDrawn (scales_after L.scales c) d) left_drawn right_drawn (λ m d at _. still_drawn m d at);
      covers = λ k k_is. split-covers L n b c (unused L) there none region is.attribute is.within k h.sound.numbered (h.sound.covers k k_is);
      apart = split-apart L n b c (unused L) there none region is.attribute is.within h.sound.apart;
      room = each-part L n b c (unused L) there none (λ _ d. length (records_inside (with_data t r.key.numbers r.value) d.region) ≤ shape.capacity)
          (let fewer = is.left r.value in omega (arith, fewer, room)) (let fewer = is.right r.value in omega (arith, fewer, room)) other_room;
      below_pages = each-part L n b c (unused L) there none (λ m _. m < shape.pages) (h.sound.below_pages n b there) (unused_below fits) (λ m d at _. h.sound.below_pages m d at);
    };
  }

-- without a cut or a merge it is the layout as it was
after-plain : {K : ℕ} (L : Layout K) (k : List ℕ) → after_note L k note.Plain ≡ L
unfolding after_note
after-plain {K} L k = by (holder L k)
  where
    by : (o : Option (ℕ × BucketBox K)) → option_map_or (λ e. after_note_at L e note.Plain) o L ≡ L
    by None = refl
    by (Some e) = refl

-- a put with a cut keeps a layout sound
pub put-cut : {K : ℕ} → PartsNumbers → CutsBest K → (shape : Shape) (L : Layout K) (t : Table) (r : Record K) (c : Cut) (right : ℕ) → StandsOver shape L t → IsUpdateOf K (Put r)
    → put_note shape L t r.key.numbers ≡ Some (note.Cut c right) → Fits shape (after_note L r.key.numbers (note.Cut c right)) → StandsOver shape (after_note L r.key.numbers (note.Cut c right)) (effect t (Put r))
put-cut {K} numbers best shape L t r c right h lawful e fits = by (noted shape L t r.key.numbers p.here (note.Cut c right) p.noted)
  where
    p : PutBox shape L t r.key.numbers (note.Cut c right)
    p = put-box shape L t r.key.numbers (note.Cut c right) h e

    held : (n : LayoutChange) → after_note L r.key.numbers n ≡ after_note_at L (p.number, p.here) n
    held n = after-there L r.key.numbers (p.number, p.here) n p.held

    stands : (d : Cut) → cut shape L.scales p.here (keys_with t p.here.region r.key.numbers) ≡ Some d → Fits shape (after_note L r.key.numbers (cut_note L d)) → StandsOver shape (after_note L r.key.numbers (cut_note L d)) (effect t (Put r))
    stands d is enough = subst (λ (M : Layout K). StandsOver shape M (effect t (Put r))) (sym (held (cut_note L d)))
        (split-stands numbers shape L t r p.number p.here d h lawful p.there p.has (cuts best shape L.scales p.here t r.key.numbers d h.sound.attributes (h.sound.regions p.number p.here p.there) is) (subst (λ (M : Layout K). Fits shape M) (held (cut_note L d)) enough))

    by : PutNote shape L t r.key.numbers p.here (note.Cut c right) → StandsOver shape (after_note L r.key.numbers (note.Cut c right)) (effect t (Put r))
    by (There same _) = absurd (cc)
    by (HasRoom same _) = absurd (cc)
    by (IsCut d same is) = subst (λ n. StandsOver shape (after_note L r.key.numbers n) (effect t (Put r))) (sym same) (stands d is (subst (λ n. Fits shape (after_note L r.key.numbers n)) same fits))

-- a note that a remove may merge by is a merge
pub merges_only : {K : ℕ} (shape : Shape) (L : Layout K) (t : Table) (k : List ℕ) (c : Cut) (right : ℕ) → Contains (merges shape L t k) (note.Cut c right) → ⊥
unfolding merges
merges_only {K} shape L t k c right h = by (holder L k) h
  where
    none : (ms : List ℕ) (i : ℕ) → i < length (map note.Merge ms) → get_or (map note.Merge ms) i (note.Cut c right) ≡ note.Cut c right → ⊥
    none ms i l e = let long = length-map ms note.Merge in let is = get_or-map note.Merge ms i 0 (note.Cut c right) (omega (arith, l, long)) in cc

    by : (o : Option (ℕ × BucketBox K)) → Contains (option_map_or (λ e. merges_at shape L t k e.1) o []) (note.Cut c right) → ⊥
    by None h = absurd (omega (arith, h.1))
    by (Some e) h = none (partners shape L (without t k) e.1.region) h.0 h.1 h.2

-- lawful notes keep layouts sound, where merges do
pub keeps-sound : {K : ℕ} → PartsNumbers → CutsBest K
    → ((shape : Shape) (L : Layout K) (t : Table) (k : Key K) (m : ℕ) → StandsOver shape L t → IsUpdateOf K (Remove k) → Contains (merges shape L t k.numbers) (note.Merge m) → StandsOver shape (after_note L k.numbers (note.Merge m)) (effect t (Remove k)))
    → KeepsSound K
keeps-sound {K} numbers best merge = record { new = new-stands; after = kept }
  where
    plain : (shape : Shape) (L : Layout K) (k : List ℕ) (s : Table) → StandsOver shape L s → StandsOver shape (after_note L k note.Plain) s
    plain shape L k s h = subst (λ (M : Layout K). StandsOver shape M s) (sym (after-plain L k)) h

    removed : (shape : Shape) (L : Layout K) (t : Table) (k : Key K) (n : LayoutChange) → StandsOver shape L t → IsUpdateOf K (Remove k) → (n ≡ note.Plain) ⊎ Contains (merges shape L t k.numbers) n → StandsOver shape (after_note L k.numbers n) (effect t (Remove k))
    removed shape L t k note.Plain h is e = plain shape L k.numbers (effect t (Remove k)) (remove-plain shape L t k h is)
    removed shape L t k (note.Cut c right) h is (inl e) = absurd (cc)
    removed shape L t k (note.Cut c right) h is (inr e) = absurd (merges_only shape L t k.numbers c right e)
    removed shape L t k (note.Merge m) h is (inl e) = absurd (cc)
    removed shape L t k (note.Merge m) h is (inr e) = merge shape L t k m h is e

    kept : (shape : Shape) (L : Layout K) (t : Table) (u : Update K) (n : LayoutChange) → StandsOver shape L t → IsUpdateOf K u → IsLawfulNote shape L t u n
        → Fits shape (after_note L (updated_key u) n) → StandsOver shape (after_note L (updated_key u) n) (effect t u)
    kept shape L t (Put r) note.Plain h is e fits = plain shape L r.key.numbers (effect t (Put r)) (put-plain shape L t r h is e)
    kept shape L t (Put r) (note.Cut c right) h is e fits = put-cut numbers best shape L t r c right h is e fits
    kept shape L t (Put r) (note.Merge m) h is e fits = absurd (put-never-merges shape L t r.key.numbers m e)
    kept shape L t (Remove k) n h is e fits = removed shape L t k n h is e.1
