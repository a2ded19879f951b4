-- The page of the box that has a key after an update.
use Rattle.std.proofs.Common.{◌≡◌, ◌<◌, ◌⊎◌, inl, inr, ℕ, true, List, length, Option, Some, None, refl, sym, ap, ◌∙◌, arith, is_some, option_map}
use Rattle.grid_types.specs.declared.key.Key.{Key}
use Rattle.grid_types.specs.declared.layout_change.LayoutChange.TheVariants as note
use Rattle.grid_types.specs.declared.owner.Owner.TheVariants.{Bucket}
use Rattle.grid_types.specs.declared.shape.Shape.{Shape}
use Rattle.grid_types.specs.declared.update.Record.{Record}
use Rattle.grid_types.specs.declared.update.Update.TheVariants.{Put, Remove}
use Rattle.grid_types.specs.Regions.{contains}
use Rattle.grid_model.specs.Buckets.{SpellsBucket}
use Rattle.grid_model.specs.Images.{bucket_on}
use Rattle.grid_model.specs.Layouts.{BucketBox, Layout, records_inside}
use Rattle.grid_model.specs.Notes.{put_note}
use Rattle.grid_model.specs.Spellings.{BucketOf, bucket_spelling}
use Rattle.grid_model.specs.Tables.{Table, get, pairs_of, effect}
use Rattle.history_pages.specs.OwnerPages.{numbered_bucket, owner_page}
use Rattle.bucket_page.specs.Putting.{with_record}
use Rattle.bucket_page.specs.Changing.{without_key}
use Rattle.change_plans.specs.Plans.{IsPageOf, IsCutDue, IsPlainPut, IsPlainRemove}
use Rattle.change_plans.proofs.Buckets.{count-on, get-on, held, plain-put, plain-remove}
use Rattle.change_plans.proofs.Noted.{plain-there, plain-room}

-- the page that spells the bucket of a number is its page
pub page-of : {K : ℕ} (L : Layout K) (t : Table) (n c : ℕ) (b : BucketOf K) (bytes : List ℕ) → numbered_bucket L t n ≡ Some b → SpellsBucket c bytes b → owner_page L t (Bucket n) ≡ Some bytes
unfolding owner_page
page-of L t n c b bytes e s = ap (option_map bucket_spelling) e ∙ ap Some (sym s.bytes)

module _ {K : ℕ} (shape : Shape) (L : Layout K) (t : Table) (e : ℕ × BucketBox K) (from : List ℕ) (n : ℕ) where
  -- the box that has the key has it
  pub has-key : (k : List ℕ) → IsPageOf shape L t k e from n → contains e.1.region k ≡ true
  has-key k h = (held shape L t k e h.stands h.holds).1

  -- the bucket's page tells the data of the key
  pub tells-data : (k : List ℕ) → IsPageOf shape L t k e from n → get (pairs_of (bucket_on t e).rows) k ≡ get t k
  tells-data k h = get-on t e k (has-key k h)

  -- and how many records the region has
  pub tells-count : (k : List ℕ) → IsPageOf shape L t k e from n → length (records_inside t e.1.region) ≡ n
  tells-count k h = sym (count-on t e) ∙ h.count

  -- a put that has room is plain, and the page that spells the bucket with the record is its new page
  pub puts-plainly : (r : Record K) (c : ℕ) (had : Option (List ℕ)) (bytes : List ℕ) → IsPageOf shape L t r.key.numbers e from n → had ≡ get (pairs_of (bucket_on t e).rows) r.key.numbers → (is_some had ≡ true) ⊎ (n < shape.capacity)
      → SpellsBucket c bytes (with_record (bucket_on t e) r) → IsPlainPut shape L t r e had bytes
  unfolding effect
  puts-plainly r c had bytes h old room s = record {
    noted = by room;
    old = old ∙ tells-data r.key.numbers h;
    page = page-of L (effect t (Put r)) e.0 c (with_record (bucket_on t e) r) bytes (plain-put shape L t r e h.stands h.holds) s;
  }
    where
      by : (is_some had ≡ true) ⊎ (n < shape.capacity) → put_note shape L t r.key.numbers ≡ Some note.Plain
      by (inl there) = plain-there shape L t r.key.numbers e h.holds (ap is_some (sym (old ∙ tells-data r.key.numbers h)) ∙ there)
      by (inr less) = plain-room shape L t r.key.numbers e h.holds (let count = tells-count r.key.numbers h in omega (arith, count, less))

  -- a remove of a key that is there may be plain, and the page that spells the bucket without the key is its new page
  pub removes-plainly : (k : Key K) (c : ℕ) (d bytes : List ℕ) → IsPageOf shape L t k.numbers e from n → Some d ≡ get (pairs_of (bucket_on t e).rows) k.numbers → SpellsBucket c bytes (without_key (bucket_on t e) k.numbers) → IsPlainRemove shape L t k e bytes
  unfolding effect
  removes-plainly k c d bytes h old s = record {
    noted = (ap is_some (sym (old ∙ tells-data k.numbers h)), inl refl);
    page = page-of L (effect t (Remove k)) e.0 c (without_key (bucket_on t e) k.numbers) bytes (plain-remove shape L t k.numbers e h.stands h.holds) s;
  }

  -- a cut is due of a full box without the key
  pub cut-due : (k : List ℕ) → IsPageOf shape L t k e from n → get (pairs_of (bucket_on t e).rows) k ≡ None → n ≡ shape.capacity → IsCutDue shape L t k e from n
  cut-due k h absent full = record { there = h; absent = sym (tells-data k h) ∙ absent; full = full }
