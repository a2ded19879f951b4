-- Puts and removals that leave the layout as it is.
use Rattle.std.proofs.Common.{◌≡◌, ◌<◌, ◌≤◌, ℕ, Bool, true, false, cond, not, ◌||◌, List, length, Option, Some, None, refl, sym, ap, subst, ◌∙◌, arith, is_some, nat_lt, ltb-true, option_map, option_and_then}
use Rattle.std.specs.Ordering.{eq_by_cmp}
use Rattle.std.specs.Cmp.Lexicographic.{nat_list_cmp_total}
use Rattle.std.specs.FinMap.{slice_cmp-IsAntisymmetric, nat_cmp-IsAntisymmetric}
use Rattle.std.specs.FinMap.Entries.{find-put, find-where_key}
use Rattle.grid_types.specs.declared.key.Key.{Key}
use Rattle.grid_types.specs.declared.layout_change.Cut.{Cut}
use Rattle.grid_types.specs.declared.layout_change.LayoutChange.{LayoutChange}
use Rattle.grid_types.specs.declared.layout_change.LayoutChange.TheVariants as note
use Rattle.grid_types.specs.declared.shape.Shape.{Shape}
use Rattle.grid_types.specs.declared.update.Record.{Record}
use Rattle.grid_types.specs.declared.update.Update.{Update}
use Rattle.grid_types.specs.declared.update.Update.TheVariants.{Put, Remove}
use Rattle.grid_types.specs.Keys.{key_cmp, IsKey}
use Rattle.grid_types.specs.Regions.{contains}
use Rattle.grid_model.specs.Tables.{Table, IsData, IsTableOf, get, with_data, effect}
use Rattle.grid_model.specs.Lawful.{IsUpdateOf}
use Rattle.grid_model.specs.Layouts.{BucketBox, Layout, box, holder, records_inside, EachBox}
use Rattle.grid_model.specs.Cuts.{cut}
use Rattle.grid_model.specs.Notes.{put_note, put_note_at, cut_note, keys_with}
use Rattle.grid_model.specs.LayoutLaws.{StandsOver}
use Rattle.grid_model.proofs.TableLaws.{equal_order, effect-table, alike}
use Rattle.grid_model.proofs.Boxes.{one-value, some-not-none}
use Rattle.grid_model.proofs.Holders.{holder-box}
use Rattle.grid_model.proofs.RegionCounts.{count-put, count-put-outside, count-put-there, count-without}

one_key : (k q : List ℕ) → eq_by_cmp key_cmp k q ≡ true → k ≡ q
one_key k q e = slice_cmp-IsAntisymmetric nat_cmp-IsAntisymmetric k q (equal_order (key_cmp k q) e)

-- what each entry of a table is, each is after a put of an entry that is so
pub each-after-put : {K : ℕ} (P : List ℕ → List ℕ → Type 0) (t : Table) (r : Record K) → P r.key.numbers r.value → ((k d : List ℕ) → get t k ≡ Some d → P k d) → (k d : List ℕ) → get (effect t (Put r)) k ≡ Some d → P k d
unfolding effect
each-after-put {K} P t r new each q d e = by (eq_by_cmp key_cmp q r.key.numbers) refl
  where
    is : cond (eq_by_cmp key_cmp q r.key.numbers) (Some r.value) (get t q) ≡ Some d
    is = sym (find-put key_cmp nat_list_cmp_total q r.key.numbers r.value t) ∙ e

    by : (b : Bool) → eq_by_cmp key_cmp q r.key.numbers ≡ b → P q d
    by true same =
        let value : r.value ≡ d = one-value r.value d (ap (λ b. cond b (Some r.value) (get t q)) (sym same) ∙ is) in
        subst (P q) value (subst (λ k. P k r.value) (sym (one_key q r.key.numbers same)) new)
    by false differ = each q d (ap (λ b. cond b (Some r.value) (get t q)) (sym differ) ∙ is)

-- and after a removal
pub each-after-removal : {K : ℕ} (P : List ℕ → List ℕ → Type 0) (t : Table) (k : Key K) → ((q d : List ℕ) → get t q ≡ Some d → P q d) → (q d : List ℕ) → get (effect t (Remove k)) q ≡ Some d → P q d
unfolding effect
each-after-removal {K} P t k each q d e = by (eq_by_cmp key_cmp k.numbers q) refl
  where
    is : cond (not (eq_by_cmp key_cmp k.numbers q)) (get t q) None ≡ Some d
    is = sym (find-where_key key_cmp (λ x. not (eq_by_cmp key_cmp k.numbers x)) q (alike (λ x. not (eq_by_cmp key_cmp k.numbers x)) q) t) ∙ e

    by : (b : Bool) → eq_by_cmp key_cmp k.numbers q ≡ b → P q d
    by true same = absurd (some-not-none d (sym is ∙ ap (λ b. cond (not b) (get t q) None) same))
    by false differ = each q d (ap (λ b. cond (not b) (get t q) None) (sym differ) ∙ is)

-- an update keeps a table of K attributes
pub table-after : {K : ℕ} (t : Table) (u : Update K) → IsTableOf K t → IsUpdateOf K u → IsTableOf K (effect t u)
table-after {K} t (Put r) h is = record {
  table = effect-table t (Put r) h.table;
  keys = each-after-put (λ k d. IsKey K k) t r is.key h.keys;
  values = each-after-put (λ k d. IsData d) t r is.value h.values;
}
table-after {K} t (Remove k) h is = record {
  table = effect-table t (Remove k) h.table;
  keys = each-after-removal (λ q d. IsKey K q) t k h.keys;
  values = each-after-removal (λ q d. IsData d) t k h.values;
}

-- the table over which a layout stands
pub its-table : {K : ℕ} (shape : Shape) (L : Layout K) (t : Table) → StandsOver shape L t → IsTableOf K t
its-table shape L t h = record { table = h.table; keys = h.keys; values = h.values }

-- a layout stands over another table, where the boxes have room for its records
pub kept-layout : {K : ℕ} (shape : Shape) (L : Layout K) (t s : Table) → StandsOver shape L t → IsTableOf K s → EachBox L (λ n b. length (records_inside s b.region) ≤ shape.capacity) → StandsOver shape L s
kept-layout shape L t s h is room = record {
  lawful = h.lawful;
  attributes = h.attributes;
  table = is.table;
  keys = is.keys;
  values = is.values;
  sound = record {
    attributes = h.sound.attributes;
    scales = h.sound.scales;
    few_boundaries = h.sound.few_boundaries;
    few_cells = h.sound.few_cells;
    numbered = h.sound.numbered;
    regions = h.sound.regions;
    turns = h.sound.turns;
    drawn = h.sound.drawn;
    covers = h.sound.covers;
    apart = h.sound.apart;
    room = room;
    below_pages = h.sound.below_pages;
  };
}

-- a removal without a merge leaves the layout
pub remove-plain : {K : ℕ} (shape : Shape) (L : Layout K) (t : Table) (k : Key K) → StandsOver shape L t → IsUpdateOf K (Remove k) → StandsOver shape L (effect t (Remove k))
unfolding effect
remove-plain shape L t k h is = kept-layout shape L t (effect t (Remove k)) h (table-after t (Remove k) (its-table shape L t h) is) (λ n b there.
    let least = count-without (contains b.region) k.numbers t in
    let room = h.sound.room n b there in
    omega (arith, least, room))

-- the box of a put: the one that has the key
pub record PutBox {K : ℕ} (shape : Shape) (L : Layout K) (t : Table) (k : List ℕ) (note : LayoutChange) : Type 0 where
  pub number : ℕ
  pub here : BucketBox K
  pub held : holder L k ≡ Some (number, here)
  pub there : box L number ≡ Some here
  pub has : contains here.region k ≡ true
  pub noted : put_note_at shape L t k here ≡ Some note

-- a put with a note has a box
pub put-box : {K : ℕ} (shape : Shape) (L : Layout K) (t : Table) (k : List ℕ) (n : LayoutChange) → StandsOver shape L t → put_note shape L t k ≡ Some n → PutBox shape L t k n
unfolding put_note
put-box {K} shape L t k n h e = by (holder L k) refl e
  where
    by : (o : Option (ℕ × BucketBox K)) → holder L k ≡ o → option_and_then (λ x. put_note_at shape L t k x.1) o ≡ Some n → PutBox shape L t k n
    by None held e = absurd (some-not-none n (sym e))
    by (Some x) held e = let box-is = holder-box k L x h.sound.numbered held in record { number = x.0; here = x.1; held = held; there = box-is.0; has = box-is.1; noted = e }

-- the note of a put, by what is the case: none of it is cut where the key is there or the box has room, else it is the cut's
pub data PutNote {K : ℕ} (shape : Shape) (L : Layout K) (t : Table) (k : List ℕ) (b : BucketBox K) (n : LayoutChange) : Type 0 where
  There : n ≡ note.Plain → is_some (get t k) ≡ true → PutNote shape L t k b n
  HasRoom : n ≡ note.Plain → length (records_inside t b.region) < shape.capacity → PutNote shape L t k b n
  IsCut : (c : Cut) → n ≡ cut_note L c → cut shape L.scales b (keys_with t b.region k) ≡ Some c → PutNote shape L t k b n

-- a note says one of these
pub noted : {K : ℕ} (shape : Shape) (L : Layout K) (t : Table) (k : List ℕ) (b : BucketBox K) (n : LayoutChange) → put_note_at shape L t k b ≡ Some n → PutNote shape L t k b n
noted {K} shape L t k b n e = by (is_some (get t k)) (nat_lt (length (records_inside t b.region)) shape.capacity) refl refl e
  where
    of_cut : (o : Option Cut) → cut shape L.scales b (keys_with t b.region k) ≡ o → option_map (cut_note L) o ≡ Some n → PutNote shape L t k b n
    of_cut None is e = absurd (some-not-none n (sym e))
    of_cut (Some c) is e = IsCut c (sym (one-value (cut_note L c) n e)) is

    by : (there room : Bool) → is_some (get t k) ≡ there → nat_lt (length (records_inside t b.region)) shape.capacity ≡ room
        → cond (there || room) (Some note.Plain) (option_map (cut_note L) (cut shape L.scales b (keys_with t b.region k))) ≡ Some n → PutNote shape L t k b n
    by true room p q e = There (sym (one-value note.Plain n e)) p
    by false true p q e = HasRoom (sym (one-value note.Plain n e)) (ltb-true (length (records_inside t b.region)) shape.capacity q)
    by false false p q e = of_cut (cut shape L.scales b (keys_with t b.region k)) refl e

-- a put never merges
pub put-never-merges : {K : ℕ} (shape : Shape) (L : Layout K) (t : Table) (k : List ℕ) (m : ℕ) → put_note shape L t k ≡ Some (note.Merge m) → ⊥
unfolding put_note
put-never-merges {K} shape L t k m e = by (holder L k) e
  where
    no : (b : BucketBox K) → PutNote shape L t k b (note.Merge m) → ⊥
    no b (There e p) = cc
    no b (HasRoom e p) = cc
    no b (IsCut c e p) = cc

    by : (o : Option (ℕ × BucketBox K)) → option_and_then (λ x. put_note_at shape L t k x.1) o ≡ Some (note.Merge m) → ⊥
    by None e = some-not-none (note.Merge m) (sym e)
    by (Some x) e = no x.1 (noted shape L t k x.1 (note.Merge m) e)

-- a put without a cut leaves the layout
pub put-plain : {K : ℕ} (shape : Shape) (L : Layout K) (t : Table) (r : Record K) → StandsOver shape L t → IsUpdateOf K (Put r) → put_note shape L t r.key.numbers ≡ Some note.Plain → StandsOver shape L (effect t (Put r))
unfolding effect
put-plain {K} shape L t r h is e = kept-layout shape L t (effect t (Put r)) h (table-after t (Put r) (its-table shape L t h) is) (λ n b there. room n b there (noted shape L t r.key.numbers p.here note.Plain p.noted))
  where
    p : PutBox shape L t r.key.numbers note.Plain
    p = put-box shape L t r.key.numbers note.Plain h e

    has_room : (n : ℕ) (b : BucketBox K) → box L n ≡ Some b → length (records_inside t p.here.region) < shape.capacity → (c : Bool) → contains b.region r.key.numbers ≡ c → length (records_inside (with_data t r.key.numbers r.value) b.region) ≤ shape.capacity
    has_room n b there some true has =
        let number : n ≡ p.number = h.sound.apart r.key.numbers n p.number b p.here there p.there has p.has in
        let same : b ≡ p.here = one-value b p.here (sym there ∙ ap (box L) number ∙ p.there) in
        let most = count-put (contains b.region) r.key.numbers r.value t in
        let as_many : length (records_inside t b.region) ≡ length (records_inside t p.here.region) = ap (λ (d : BucketBox K). length (records_inside t d.region)) same in
        omega (arith, most, as_many, some)
    has_room n b there some false out =
        let same = count-put-outside (contains b.region) r.key.numbers r.value t out in
        let room = h.sound.room n b there in
        omega (arith, same, room)

    room : (n : ℕ) (b : BucketBox K) → box L n ≡ Some b → PutNote shape L t r.key.numbers p.here note.Plain → length (records_inside (with_data t r.key.numbers r.value) b.region) ≤ shape.capacity
    room n b there (There e is) =
        let same = count-put-there (contains b.region) r.key.numbers r.value t h.table is in
        let room = h.sound.room n b there in
        omega (arith, same, room)
    room n b there (HasRoom e some) = has_room n b there some (contains b.region r.key.numbers) refl
    room n b there (IsCut c e is) = absurd (cc)
