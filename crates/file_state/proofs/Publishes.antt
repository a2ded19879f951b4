-- A change that may be published leaves what memory keeps lawful.
use Rattle.std.proofs.Common.{◌≡◌, ℕ, zero, suc, ◌+◌, ◌*◌, ◌<◌, ◌≤◌, List, [], ◌∷◌, Bool, true, false, ◌||◌, cond, Option, None, refl, sym, ◌∙◌, ap, subst, length, min, max, arith, IsTrue}
use Rattle.std.specs.Prelude.{◌==◌, is_some}
use Rattle.std.specs.List.{list_any}
use Rattle.grid_types.specs.declared.owner.Owner.TheVariants.{Bucket}
use Rattle.grid_types.specs.declared.layout_change.LayoutChange.{LayoutChange}
use Rattle.grid_types.specs.declared.layout_change.LayoutChange.TheVariants as note
use Rattle.grid_model.specs.Lists.{is_among}
use Rattle.grid_model.specs.Cells.{dims}
use Rattle.page_states.specs.declared.page_state.PageState.{PageState}
use Rattle.page_states.specs.States.{shows}
use Rattle.page_states.specs.Changes.{with_pages, without_owners, all_published, all_vanished}
use Rattle.page_states.proofs.PagesStay.{pages_stay}
use Rattle.layout_pages.specs.Steps.{publications, buckets_renewed, owners_renewed, owners_vanishing, published_states}
use Rattle.linear_scales.specs.Limited.{LimitedScale, scales_of, limits_of}
use Rattle.directory_changes.specs.Changes.{parts_after, parts_changed}
use Rattle.file_books.specs.Books.{Books, has_page, AreBooksOf, OwnersHavePages}
use Rattle.file_books.specs.Effects.{Publishing, IsPublishable, HasOther, buckets_after, records_after, scales_after_change, published_books}
use Rattle.file_books.specs.declared.record_change.RecordChange.{RecordChange}
use Rattle.file_books.specs.declared.record_change.RecordChange.TheVariants.{More, Same, Fewer}
use Rattle.file_state.specs.declared.memory.Memory.{Memory}
use Rattle.file_state.specs.declared.change.Change.{Change}
use Rattle.file_state.specs.Memories.{AreUsedBelow, IsMemory, books_of, publishing_of}
use Rattle.file_state.specs.Publishings.{AreNumbersBelow, buckets_vanishing, unused_after}
use Rattle.file_state.proofs.Shown.{content_at, no_bytes}
use Rattle.file_state.proofs.Scaling as scaling
use Rattle.file_state.proofs.Published.{BucketsAfter, plain, cut, merge, settled_after, one_after, bucket_after, bucket_published, part_after, no_part_vanishes}
use Rattle.file_state.proofs.Rooms.{fewer_parts}
use Rattle.file_state.proofs.Walks.{published_length}

few_records : (most n : ℕ) (x : RecordChange) → records_after most n x ≤ most
few_records most n More = omega arith
few_records most n Same = omega arith
few_records most n Fewer = omega arith

some_if : (t : Bool) (c : Option (List ℕ)) → is_some (cond t None c) ≡ cond t false (is_some c)
some_if true c = refl
some_if false c = refl

vanished_length : (at : ℕ) (k : ℕ) (n : LayoutChange) (states : List PageState) → length (all_vanished at (owners_vanishing k n) states) ≡ length states
vanished_length at k note.Plain states = refl
vanished_length at k (note.Cut c right) states = refl
vanished_length at k (note.Merge m) states = pages_stay.vanishing at (Bucket (max k m)) states

-- numbers one and two are below
below_one : (n a : ℕ) → a < n → AreNumbersBelow n (a ∷ [])
below_one n a low zero d less = low
below_one n a low (suc i) d less = absurd (omega (arith, less))

below_two : (n a b : ℕ) → a < n → b < n → AreNumbersBelow n (a ∷ b ∷ [])
below_two n a b low other zero d less = low
below_two n a b low other (suc zero) d less = other
below_two n a b low other (suc (suc i)) d less = absurd (omega (arith, less))

-- the buckets of a change have numbers of pages
pub renewed_below : (b : Books) (k : ℕ) (n : LayoutChange) → OwnersHavePages b → IsTrue (has_page b (Bucket k)) → HasOther b k n → AreNumbersBelow b.shape.pages (buckets_renewed k n)
renewed_below b k note.Plain owners there other = below_one b.shape.pages k (owners.numbers k there)
renewed_below b k (note.Cut c right) owners there other = below_two b.shape.pages k right (owners.numbers k there) other.0
renewed_below b k (note.Merge m) owners there other = below_one b.shape.pages (min k m) (omega (arith, owners.numbers k there))

pub vanishing_below : (b : Books) (k : ℕ) (n : LayoutChange) → OwnersHavePages b → IsTrue (has_page b (Bucket k)) → HasOther b k n → AreNumbersBelow b.shape.pages (buckets_vanishing k n)
vanishing_below b k note.Plain owners there other = λ i d less. absurd (omega (arith, less))
vanishing_below b k (note.Cut c right) owners there other = λ i d less. absurd (omega (arith, less))
vanishing_below b k (note.Merge m) owners there other = below_one b.shape.pages (max k m) (omega (arith, owners.numbers k there, owners.numbers m other.1))

module _ {K : ℕ} (b : Books) (x : Publishing K) (is : AreBooksOf K b) (may : IsPublishable b x) where
  new : List ℕ
  new = parts_changed (dims b.scales) x.directory

  states : List PageState
  states = published_states (b.front + 1) x.bucket x.note new x.pages b.pages

  has : ℕ → Bool
  has m = list_any (shows (Bucket m) (b.front + 1)) (published_states (b.front + 1) x.bucket x.note (parts_changed (dims b.scales) x.directory) x.pages b.pages)

  -- which buckets have a page then, by the kind of the change
  buckets : (n : LayoutChange) → x.note ≡ n → HasOther b x.bucket n → ((m : ℕ) → has m ≡ is_some (without_owners (with_pages (content_at b.front b.pages) no_bytes (publications (owners_renewed x.bucket n (parts_changed (dims b.scales) x.directory)) x.pages)) (owners_vanishing x.bucket n) (Bucket m)))
      → ((m : ℕ) → is_some (with_pages (content_at b.front b.pages) no_bytes (publications (owners_renewed x.bucket n (parts_changed (dims b.scales) x.directory)) x.pages) (Bucket m)) ≡ (has_page b (Bucket m) || is_among (buckets_renewed x.bucket n) m))
      → BucketsAfter b has x.bucket n
  buckets note.Plain e other made told = plain b is.owners x.bucket may.bucket is.some has (λ m. made m ∙ told m)
  buckets (note.Cut c right) e other made told = cut b is.owners x.bucket may.bucket is.some has c right other.0 other.1 (λ m. made m ∙ told m)
  buckets (note.Merge w) e other made told = merge b is.owners x.bucket may.bucket is.some has w other.0 other.1 (λ m.
      made m ∙ some_if (m == max x.bucket w) (with_pages (content_at b.front b.pages) no_bytes (publications (owners_renewed x.bucket (note.Merge w) (parts_changed (dims b.scales) x.directory)) x.pages) (Bucket m))
      ∙ ap (λ (t : Bool). cond t false (is_some (with_pages (content_at b.front b.pages) no_bytes (publications (owners_renewed x.bucket (note.Merge w) (parts_changed (dims b.scales) x.directory)) x.pages) (Bucket m)))) refl
      ∙ ap (λ (t : Bool). cond (m == max x.bucket w) false t) (told m))

  buckets_published : BucketsAfter b has x.bucket x.note
  unfolding published_states has
  buckets_published = buckets x.note refl may.other
      (bucket_after b is.owners x.bucket x.note (parts_changed (dims b.scales) x.directory) x.pages may.claimed may.count)
      (bucket_published b is.owners x.bucket x.note (parts_changed (dims b.scales) x.directory) x.pages may.claimed may.count)

  owners_published : OwnersHavePages (published_books b x)
  unfolding published_states has
  owners_published = record {
    settled = settled_after b is.owners x.bucket x.note (parts_changed (dims b.scales) x.directory) x.pages may.claimed may.count;
    one = one_after b is.owners x.bucket x.note (parts_changed (dims b.scales) x.directory) x.pages may.claimed may.count;
    directory = λ p.
        part_after b is.owners x.bucket x.note (parts_changed (dims b.scales) x.directory) x.pages may.claimed may.count p
        (no_part_vanishes (with_pages (content_at b.front b.pages) no_bytes (publications (owners_renewed x.bucket x.note (parts_changed (dims b.scales) x.directory)) x.pages)) x.bucket x.note p)
        ∙ ap (λ (t : Bool). t || is_among (parts_changed (dims b.scales) x.directory) p) (is.owners.directory p)
        ∙ scaling.parts_renewed b.shape b.scales is.scales x.note x.directory may.kind may.fresh may.directory p;
    numbers = buckets_published.numbers;
    buckets = buckets_published.count;
  }

  pub books_published : AreBooksOf K (published_books b x)
  unfolding published_states has
  books_published = record {
    lawful = is.lawful;
    attributes = is.attributes;
    size = vanished_length (b.front + 1) x.bucket x.note (all_published (b.front + 1) (publications (owners_renewed x.bucket x.note (parts_changed (dims b.scales) x.directory)) x.pages) b.pages)
        ∙ published_length (b.front + 1) (publications (owners_renewed x.bucket x.note (parts_changed (dims b.scales) x.directory)) x.pages) b.pages ∙ is.size;
    ranges = record { session = is.ranges.session; number = is.ranges.number; front = may.place; half = is.ranges.half; first = is.ranges.first; second = is.ranges.second };
    scales = record { attributes = may.scales.attributes; ascend = may.scales.ascend; few_boundaries = may.scales.few_boundaries; few_cells = may.scales.few_cells };
    owners = owners_published;
    some = buckets_published.some;
    records = few_records (buckets_after b.buckets x.note * b.shape.capacity) b.records x.change;
  }

  pub used_published : (from : ℕ) → AreUsedBelow b from → AreUsedBelow (published_books b x) (unused_after from x.bucket x.note)
  unfolding has
  used_published from used = buckets_published.used from used

  -- there are no more directory parts then than data pages
  pub parts_have_room : parts_after (dims b.scales) x.directory ≤ b.shape.pages
  parts_have_room = omega (arith, fewer_parts (published_books b x) books_published.size owners_published, scaling.parts_agree b.shape b.scales is.scales x.note x.directory may.kind may.fresh may.directory)

-- what memory keeps after a publication is lawful
pub memory_published : {K : ℕ} (m : Memory K) (x : Change K) (ps : List ℕ) (ns : List ℕ) (records most buckets used : ℕ) (ss : List LimitedScale) (states : List PageState) → IsMemory m → IsPublishable (books_of m) (publishing_of x ps)
    → ns ≡ dims (scales_of m.scales) → buckets ≡ buckets_after m.counts.buckets x.note → most ≡ buckets * m.geometry.shape.capacity → records ≡ records_after most m.counts.records x.records
    → scales_of ss ≡ scales_after_change (scales_of m.scales) x.note → limits_of ss ≡ limits_of m.scales → states ≡ published_states (m.counts.front + 1) x.bucket x.note (parts_changed ns x.directory) ps m.pages
    → used ≡ unused_after m.unused_from x.bucket x.note
    → IsMemory (record m { counts = record m.counts { front = m.counts.front + 1; records = records; buckets = buckets }; scales = ss; pages = states; unused_from = used })
memory_published {K} m x ps ns records most buckets used ss states is may e_dims e_buckets e_most e_records e_scales e_limits e_states e_used = record {
  books = subst (AreBooksOf K) (sym same) (books_published (books_of m) (publishing_of x ps) is.books may);
  limits = e_limits ∙ is.limits;
  used = subst (λ (b : Books). AreUsedBelow b used) (sym same) (subst (AreUsedBelow (published_books (books_of m) (publishing_of x ps))) (sym e_used) (used_published (books_of m) (publishing_of x ps) is.books may m.unused_from is.used));
}
  where
    counted : records ≡ records_after (buckets_after m.counts.buckets x.note * m.geometry.shape.capacity) m.counts.records x.records
    counted = e_records ∙ ap (λ (n : ℕ). records_after n m.counts.records x.records) (e_most ∙ ap (λ (n : ℕ). n * m.geometry.shape.capacity) e_buckets)

    paged : states ≡ published_states (m.counts.front + 1) x.bucket x.note (parts_changed (dims (scales_of m.scales)) x.directory) ps m.pages
    paged = e_states ∙ ap (λ (k : List ℕ). published_states (m.counts.front + 1) x.bucket x.note (parts_changed k x.directory) ps m.pages) e_dims

    same : record (books_of m) { front = m.counts.front + 1; records = records; buckets = buckets; scales = scales_of ss; pages = states } ≡ published_books (books_of m) (publishing_of x ps)
    same = λ i. record (books_of m) { front = m.counts.front + 1; records = counted i; buckets = e_buckets i; scales = e_scales i; pages = paged i }
