-- What an update does to the layout: nothing, a cut, or a merge.
use Rattle.std.specs.Prelude.{◌≡◌, ◌⊎◌, ℕ, ◌+◌, ◌%◌, List, [], ◌||◌, not, map, min, max, length, nat_lt, ◌==◌, if◌then◌else◌, slice_set, Option, Some, is_some, IsSome, unwrap_or, Contains}
use Rattle.std.specs.Option.{option_map, option_and_then, option_map_or}
use Rattle.std.specs.Ordering.{nat_cmp}
use Rattle.std.specs.FinMap.Entries.{put, where_key}
use Rattle.grid_types.specs.declared.shape.Shape.{Shape}
use Rattle.grid_types.specs.declared.update.Update.{Update}
use Rattle.grid_types.specs.declared.update.Update.TheVariants.{Put, Remove}
use Rattle.grid_types.specs.declared.region.Region.{Region}
use Rattle.grid_types.specs.declared.layout_change.Cut.{Cut}
use Rattle.grid_types.specs.declared.layout_change.LayoutChange.{LayoutChange}
use Rattle.grid_types.specs.declared.layout_change.LayoutChange.TheVariants as note
use Rattle.grid_types.specs.Regions.{part_below, part_from, hull}
use Rattle.grid_model.specs.Scales.{scale_of, refined}
use Rattle.grid_model.specs.Tables.{Table, get, without, with_data}
use Rattle.grid_model.specs.Layouts.{BucketBox, Layout, box, holder, records_inside, unused}
use Rattle.grid_model.specs.Cuts.{cut}
use Rattle.grid_model.specs.Neighbours.{partners}

-- the key that an update is about
abbrev pub updated_key : {K : ℕ} → Update K → List ℕ
updated_key (Put r) = r.key.numbers
updated_key (Remove k) = k.numbers

-- the keys of the records of a region, with one more
abbrev pub keys_with : {K : ℕ} → Table → Region K → List ℕ → List (List ℕ)
keys_with t r k = map (λ e. e.0) (records_inside (with_data t k []) r)

-- a cut as a note: the right part gets the least number that no box has
abbrev pub cut_note : {K : ℕ} → Layout K → Cut → LayoutChange
cut_note L c = note.Cut c (unused L)

-- the note of a put into a box: none of it is cut where the key is there or the box has room; else it is cut, if there is a cut
abbrev pub put_note_at : {K : ℕ} → Shape → Layout K → Table → List ℕ → BucketBox K → Option LayoutChange
put_note_at shape L t k b =
    if is_some (get t k) || nat_lt (length (records_inside t b.region)) shape.capacity then Some note.Plain
    else option_map (cut_note L) (cut shape L.scales b (keys_with t b.region k))

-- the note of a put, where there is one
unfoldable pub put_note : {K : ℕ} → Shape → Layout K → Table → List ℕ → Option LayoutChange
put_note shape L t k = option_and_then (λ e. put_note_at shape L t k e.1) (holder L k)

-- the merges that a remove of a key from a box may take, by sides
abbrev pub merges_at : {K : ℕ} → Shape → Layout K → Table → List ℕ → BucketBox K → List LayoutChange
merges_at shape L t k b = map note.Merge (partners shape L (without t k) b.region)

-- the merges that a remove of a key may take, by sides
unfoldable pub merges : {K : ℕ} → Shape → Layout K → Table → List ℕ → List LayoutChange
merges shape L t k = option_map_or (λ e. merges_at shape L t k e.1) (holder L k) []

-- the notes that an update may have: a put the one of the rule; a remove of a key that is there none, or a merge
abbrev pub IsLawfulNote : {K : ℕ} → Shape → Layout K → Table → Update K → LayoutChange → Type 0
IsLawfulNote shape L t (Put r) n = put_note shape L t r.key.numbers ≡ Some n
IsLawfulNote shape L t (Remove k) n = IsSome (get t k.numbers) × ((n ≡ note.Plain) ⊎ Contains (merges shape L t k.numbers) n)

-- the turn of both parts of a cut: the attribute behind the one that was cut
abbrev pub next_turn : ℕ → Cut → ℕ
next_turn K c = (c.attribute + 1) % K

-- the left part of a box ends below the boundary
abbrev pub left_of : {K : ℕ} → BucketBox K → Cut → BucketBox K
left_of {K} b c = record { region = part_below b.region c.attribute c.value; turn = next_turn K c }

-- the right part of a box begins at the boundary
abbrev pub right_of : {K : ℕ} → BucketBox K → Cut → BucketBox K
right_of {K} b c = record { region = part_from b.region c.attribute c.value; turn = next_turn K c }

-- the scales after a cut: a fresh boundary is added to its scale
abbrev pub scales_after : List (List ℕ) → Cut → List (List ℕ)
scales_after scales c = if c.fresh then slice_set scales c.attribute (refined (scale_of scales c.attribute) c.value) else scales

-- the layout with box n cut: the left part keeps the number
unfoldable pub split : {K : ℕ} → Layout K → ℕ → BucketBox K → Cut → ℕ → Layout K
split L n b c right = record { scales = scales_after L.scales c; boxes = put nat_cmp right (right_of b c) (put nat_cmp n (left_of b c) L.boxes) }

-- the box that two make, with the turn of the first
abbrev pub together : {K : ℕ} → BucketBox K → BucketBox K → BucketBox K
together b c = record { region = hull b.region c.region; turn = b.turn }

-- the layout with boxes n and m joined under the lower number, with the turn of n
unfoldable pub joined : {K : ℕ} → Layout K → ℕ → BucketBox K → ℕ → BucketBox K → Layout K
joined L n b m c = record { scales = L.scales; boxes = put nat_cmp (min n m) (together b c) (where_key nat_cmp (λ x. not (x == max n m)) L.boxes) }

-- the layout after an update with this note, where this box has the key
abbrev pub after_note_at : {K : ℕ} → Layout K → ℕ × BucketBox K → LayoutChange → Layout K
after_note_at L e note.Plain = L
after_note_at L e (note.Cut c right) = split L e.0 e.1 c right
after_note_at L e (note.Merge m) = joined L e.0 e.1 m (unwrap_or (box L m) e.1)

-- the layout after an update of a key with this note
unfoldable pub after_note : {K : ℕ} → Layout K → List ℕ → LayoutChange → Layout K
after_note L k n = option_map_or (λ e. after_note_at L e n) (holder L k) L
