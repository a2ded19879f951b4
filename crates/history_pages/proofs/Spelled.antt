-- What the page of an owner says: a bucket's its box with the records inside of it, a part's a number of a box for each of its cells.
use Rattle.std.proofs.Common.{◌≡◌, ◌-◌, ◌*◌, ◌<◌, ℕ, Bool, true, false, cond, List, map, min, length, drop, slice_index_or, Option, Some, None, IsSome, IsTrue, All, is_some, refl, sym, ap, ◌∙◌, arith, true≢false, nat_lt, option_map}
use Rattle.std.proofs.lemmas.List.{length-map, length-take, length-drop}
use Rattle.std.proofs.lemmas.List.Elements.{All-map, All-take, All-drop}
use Rattle.std.proofs.lemmas.Option.{slice_get-get_or}
use Rattle.std.specs.Option.{option_map_or}
use Rattle.grid_types.specs.declared.owner.Owner.TheVariants.{Bucket, Part}
use Rattle.grid_types.specs.declared.shape.Shape.{Shape}
use Rattle.grid_types.specs.declared.sizes.TheConstants.{WORDS_ON_PAGE}
use Rattle.grid_types.specs.Keys.{IsKey}
use Rattle.grid_model.specs.Lists.{is_among}
use Rattle.grid_model.specs.Cells.{parts, all_cells, corner}
use Rattle.grid_model.specs.Tables.{Table}
use Rattle.grid_model.specs.Layouts.{BucketBox, Layout, box, holder, number_at, directory, directory_part}
use Rattle.grid_model.specs.LayoutLaws.{StandsOver}
use Rattle.grid_model.specs.Lone.{owners}
use Rattle.grid_model.specs.Spellings.{bucket_spelling, directory_spelling}
use Rattle.grid_model.specs.Buckets.{SpellsBucket}
use Rattle.grid_model.specs.Images.{bucket_on}
use Rattle.grid_model.specs.Expected.{IsExpectedPart}
use Rattle.grid_model.proofs.Boxes.{one-value, some-not-none}
use Rattle.grid_model.proofs.CellLaws.{have-indices}
use Rattle.grid_model.proofs.Divided.{lawful-bucket}
use Rattle.grid_model.proofs.Holders.{holder-box}
use Rattle.grid_model.proofs.Numbered.{found-among}
use Rattle.history_pages.specs.OwnerPages.{as_bucket, numbered_bucket, owner_page}
use Rattle.history_pages.specs.SpellingLaws.{cells_in_part}
use Rattle.history_pages.proofs.PartCells.{placed}

-- the page of a bucket spells it
pub bucket-spelled : {K : ℕ} (shape : Shape) (L : Layout K) (t : Table) (n : ℕ) (b : BucketBox K) (bytes : List ℕ) → StandsOver shape L t → box L n ≡ Some b → owner_page L t (Bucket n) ≡ Some bytes → SpellsBucket shape.capacity bytes (bucket_on t (n, b))
unfolding owner_page numbered_bucket
bucket-spelled shape L t n b bytes stands there page = record {
  lawful = lawful-bucket shape L t n b stands there;
  bytes = one-value bytes (bucket_spelling (bucket_on t (n, b))) (sym page ∙ ap (λ o. option_map bucket_spelling (option_map (as_bucket t n) o)) there);
}

module _ {K : ℕ} (shape : Shape) (L : Layout K) (t : Table) (p : ℕ) (stands : StandsOver shape L t) where
  -- the name of a cell's lowest key
  abbrev name : List ℕ → ℕ
  name cell = number_at L (corner L.scales cell)

  -- a number is that of a box
  abbrev IsNumber : ℕ → Type 0
  IsNumber n = IsTrue (is_among (owners L).buckets n)

  -- a key's number is that of a box
  number-of-box : (k : List ℕ) → IsKey K k → IsNumber (number_at L k)
  number-of-box k key = by (holder L k) refl (stands.sound.covers k key)
    where
      by : (o : Option (ℕ × BucketBox K)) → holder L k ≡ o → IsSome o → IsNumber (option_map_or (λ e. e.0) o 0)
      by None e some = absurd (true≢false (sym some))
      by (Some x) e some = found-among L.boxes x.0 (ap is_some (holder-box k L x stands.sound.numbered e).0)

  -- a part has the cells that are left, a thousand at most
  part-count : length (directory_part L p) ≡ cells_in_part L.scales p
  unfolding directory_part directory
  part-count =
      length-take WORDS_ON_PAGE (drop (WORDS_ON_PAGE * p) (map name (all_cells L.scales)))
      ∙ ap (min WORDS_ON_PAGE) (length-drop (WORDS_ON_PAGE * p) (map name (all_cells L.scales))
      ∙ ap (λ m. m - WORDS_ON_PAGE * p) (length-map (all_cells L.scales) name ∙ (have-indices K).count L.scales))

  -- each cell of a part names a box
  part-names : All IsNumber (directory_part L p)
  unfolding directory_part directory
  part-names =
      All-take IsNumber WORDS_ON_PAGE (drop (WORDS_ON_PAGE * p) (map name (all_cells L.scales)))
      (All-drop IsNumber (WORDS_ON_PAGE * p) (map name (all_cells L.scales))
      (All-map IsNumber name (all_cells L.scales)
      (λ i d l. number-of-box (corner L.scales (slice_index_or (all_cells L.scales) i d)) (placed K L.scales stands.sound.attributes stands.sound.scales i (slice_index_or (all_cells L.scales) i d) (slice_get-get_or (all_cells L.scales) i d l)).key)))

  -- the page of a part is the expected one for each cell that is read
  pub part-expected : (read : ℕ) (bytes : List ℕ) → owner_page L t (Part p) ≡ Some bytes → read < cells_in_part L.scales p → IsExpectedPart bytes p (cells_in_part L.scales p) (owners L).buckets read (directory_part L p)
  unfolding owner_page
  part-expected read bytes page inside = record {
    spelled = by (nat_lt p (parts L.scales)) page;
    count_is = part-count;
    inside = inside;
    named = part-names read 0 (omega (arith, inside, part-count));
  }
    where
      by : (b : Bool) → cond b (Some (directory_spelling p (directory_part L p))) None ≡ Some bytes → bytes ≡ directory_spelling p (directory_part L p)
      by true e = sym (one-value (directory_spelling p (directory_part L p)) bytes e)
      by false e = absurd (some-not-none bytes (sym e))
