-- The note of a put is the same over two tables that agree on the box that has its key.
use Rattle.std.proofs.Common.{◌≡◌, ℕ, true, cond, ◌||◌, List, [], map, length, Some, is_some, ap, ◌∙◌, nat_lt, lt-ltb, option_and_then, option_map}
use Rattle.std.proofs.lemmas.Bool.{or_left, or_right}
use Rattle.grid_types.specs.declared.layout_change.LayoutChange.TheVariants as note
use Rattle.grid_types.specs.declared.region.Region.{Region}
use Rattle.grid_types.specs.declared.shape.Shape.{Shape}
use Rattle.grid_types.specs.declared.update.Record.{Record}
use Rattle.grid_types.specs.declared.update.Update.TheVariants.{Put}
use Rattle.grid_types.specs.Regions.{contains}
use Rattle.grid_model.specs.Tables.{Table, IsTable, get, effect}
use Rattle.grid_model.specs.Layouts.{BucketBox, Layout, holder, records_inside}
use Rattle.grid_model.specs.Cuts.{cut}
use Rattle.grid_model.specs.Notes.{put_note, put_note_at, cut_note, keys_with}
use Rattle.grid_model.proofs.LayoutKept.{PutNote, There, HasRoom, IsCut, noted}
use Rattle.history_pages.proofs.Agreeing.{Agree, same-records, records-after}

-- the note of a put, by the box that has its key
pub note-at : {K : ℕ} (shape : Shape) (L : Layout K) (t : Table) (k : List ℕ) (e : ℕ × BucketBox K) → holder L k ≡ Some e → put_note shape L t k ≡ put_note_at shape L t k e.1
unfolding put_note
note-at shape L t k e holds = ap (option_and_then (λ x. put_note_at shape L t k x.1)) holds

-- the keys of a region with one more are the same where tables agree on it
same-keys : {K : ℕ} (r : Region K) (s t : Table) (w : Record K) → IsTable s → IsTable t → Agree r s t → keys_with s r w.key.numbers ≡ keys_with t r w.key.numbers
unfolding effect
same-keys {K} r s t w g h a = ap (map (λ x. x.0)) (records-after r s t (Put (record { key = w.key; value = [] })) g h a)

-- a put's note is the same over tables that agree on the box that has its key
pub same-note : {K : ℕ} (shape : Shape) (L : Layout K) (s t : Table) (w : Record K) (b : BucketBox K) → IsTable s → IsTable t → Agree b.region s t → contains b.region w.key.numbers ≡ true → put_note_at shape L s w.key.numbers b ≡ put_note_at shape L t w.key.numbers b
same-note shape L s t w b g h a has = λ i.
    cond (is_some (a w.key.numbers has i) || nat_lt (length (same-records b.region s t g h a i)) shape.capacity) (Some note.Plain) (option_map (cut_note L) (cut shape L.scales b (same-keys b.region s t w g h a i)))

-- a plain one is so over another layout too
pub plain-note : {K : ℕ} (shape : Shape) (M L : Layout K) (s t : Table) (k : List ℕ) (b : BucketBox K) → IsTable s → IsTable t → Agree b.region s t → contains b.region k ≡ true → put_note_at shape L t k b ≡ Some note.Plain → put_note_at shape M s k b ≡ Some note.Plain
plain-note {K} shape M L s t k b g h a has is = by (noted shape L t k b note.Plain is)
  where
    plain : (is_some (get s k) || nat_lt (length (records_inside s b.region)) shape.capacity) ≡ true → put_note_at shape M s k b ≡ Some note.Plain
    plain e = ap (λ t. cond t (Some note.Plain) (option_map (cut_note M) (cut shape M.scales b (keys_with s b.region k)))) e

    by : PutNote shape L t k b note.Plain → put_note_at shape M s k b ≡ Some note.Plain
    by (There _ there) = plain (or_left (is_some (get s k)) (nat_lt (length (records_inside s b.region)) shape.capacity) (ap is_some (a k has) ∙ there))
    by (HasRoom _ room) = plain (or_right (is_some (get s k)) (nat_lt (length (records_inside s b.region)) shape.capacity)
        (ap (λ x. nat_lt (length x) shape.capacity) (same-records b.region s t g h a) ∙ lt-ltb (length (records_inside t b.region)) shape.capacity room))
    by (IsCut c same found) = absurd (cc)
