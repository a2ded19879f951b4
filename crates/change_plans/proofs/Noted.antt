-- The note of a put into the box that has the key.
use Rattle.std.proofs.Common.{◌≡◌, ◌<◌, ◌||◌, ℕ, Bool, true, false, cond, List, length, Option, Some, None, refl, ap, ◌∙◌, arith, is_some, nat_lt, lt-ltb, option_map, option_and_then}
use Rattle.std.proofs.lemmas.Bool.{le-ltb}
use Rattle.grid_types.specs.declared.layout_change.LayoutChange.TheVariants as note
use Rattle.grid_types.specs.declared.layout_change.LayoutChange.{LayoutChange}
use Rattle.grid_types.specs.declared.shape.Shape.{Shape}
use Rattle.grid_model.specs.Tables.{Table, get}
use Rattle.grid_model.specs.Layouts.{BucketBox, Layout, holder, records_inside}
use Rattle.grid_model.specs.Cuts.{cut}
use Rattle.grid_model.specs.Notes.{put_note, put_note_at, cut_note, keys_with}

module _ {K : ℕ} (shape : Shape) (L : Layout K) (t : Table) (k : List ℕ) (e : ℕ × BucketBox K) (holds : holder L k ≡ Some e) where
  -- it is that of the box
  pub note-at : put_note shape L t k ≡ put_note_at shape L t k e.1
  unfolding put_note
  note-at = ap (option_and_then (λ x. put_note_at shape L t k x.1)) holds

  abbrev has_room : Bool
  has_room = nat_lt (length (records_inside t e.1.region)) shape.capacity

  abbrev if_cut : Option LayoutChange
  if_cut = option_map (cut_note L) (cut shape L.scales e.1 (keys_with t e.1.region k))

  -- it is plain where the key is there
  pub plain-there : is_some (get t k) ≡ true → put_note shape L t k ≡ Some note.Plain
  plain-there there = note-at ∙ ap (λ b. cond (b || has_room) (Some note.Plain) if_cut) there

  -- and where there is room
  pub plain-room : length (records_inside t e.1.region) < shape.capacity → put_note shape L t k ≡ Some note.Plain
  plain-room room = note-at ∙ ap (λ b. cond (is_some (get t k) || b) (Some note.Plain) if_cut) (lt-ltb (length (records_inside t e.1.region)) shape.capacity room) ∙ either (is_some (get t k))
    where
      either : (b : Bool) → cond (b || true) (Some note.Plain) if_cut ≡ Some note.Plain
      either true = refl
      either false = refl

  -- else it is the cut's
  pub cut-full : get t k ≡ None → length (records_inside t e.1.region) ≡ shape.capacity → put_note shape L t k ≡ if_cut
  cut-full absent full =
      note-at
      ∙ ap (λ o. cond (is_some o || has_room) (Some note.Plain) if_cut) absent
      ∙ ap (λ b. cond b (Some note.Plain) if_cut) (le-ltb (length (records_inside t e.1.region)) shape.capacity (omega (arith, full)))
