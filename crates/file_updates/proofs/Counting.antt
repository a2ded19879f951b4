-- The new pages of a plan: they are those of its update, as many as were claimed, and may be published.
use Rattle.std.proofs.Common.{◌≡◌, ◌≤◌, ◌<◌, ◌+◌, ◌++◌, ℕ, List, [], length, map, ap, ◌∙◌, subst, arith, length-append}
use Rattle.std.specs.Prelude.{◌/◌, Result, OnOk}
use Rattle.std.specs.List.{count_by}
use Rattle.std.proofs.lemmas.List.{length-map}
use Rattle.std.proofs.lemmas.List.Sums.{count_by-le-length}
use Rattle.std.proofs.lemmas.List.FromFn.{length-range_with_len}
use Rattle.grid_types.specs.declared.layout_change.LayoutChange.{LayoutChange}
use Rattle.grid_types.specs.declared.layout_change.LayoutChange.TheVariants as note
use Rattle.grid_types.specs.declared.owner.Owner.TheVariants.{Bucket, Part}
use Rattle.grid_types.specs.declared.update.Update.{Update}
use Rattle.grid_types.proofs.Places.{within-limits}
use Rattle.grid_model.specs.Lists.{product}
use Rattle.grid_model.specs.Cells.{dims}
use Rattle.disk_trait.specs.declared.disk.Disk.{Ghosts}
use Rattle.page_states.specs.States.{is_free}
use Rattle.layout_pages.specs.Steps.{buckets_renewed, owners_renewed}
use Rattle.directory_changes.specs.Changes.{grown, parts_changed, IsChangeOf}
use Rattle.directory_changes.specs.declared.change.DirectoryChange.{DirectoryChange}
use Rattle.directory_changes.specs.declared.change.DirectoryChange.TheVariants.{Nothing, Patch, Grow}
use Rattle.directory_changes.proofs.Counted.{few-parts}
use Rattle.file_books.specs.Books.{Books, AreBooksOf}
use Rattle.file_books.specs.Effects.{HasOther, IsPublishable}
use Rattle.grid_file.specs.Files.{OpenFile, IsOpenFile, client, with_claim}
use Rattle.grid_file.proofs.Books.{claim_sound, claim_count}
use Rattle.grid_file.proofs.Claiming.{publishable}
use Rattle.update_plans.specs.declared.plan.Plan.{Plan}
use Rattle.file_updates.specs.Ready.{IsReadyPlan}
use Rattle.file_updates.specs.Writing.{CountsPages, publishing_by}
use Rattle.file_updates.proofs.Places.{claim_any}

-- where nothing was written before, what was written is the new pages
pub first_written : {T E W : Type 0} (r : Result T E) (old new more : List W) → old ≡ [] → OnOk r (new ≡ old ++ more) → OnOk r (new ≡ more)
first_written {W = W} r old new more none is = subst (λ (ws : List W). OnOk r (new ≡ ws ++ more)) none is

-- two buckets at most are renewed
few_buckets : (b : ℕ) (n : LayoutChange) → length (buckets_renewed b n) ≤ 2
few_buckets b note.Plain = omega arith
few_buckets b (note.Cut c right) = omega arith
few_buckets b (note.Merge m) = omega arith

-- a change renews a thousand directory parts at most
few_changed : {K : ℕ} (ns : List ℕ) (d : DirectoryChange K) → product ns ≤ 1000000 → IsChangeOf ns d → length (parts_changed ns d) ≤ 1000
unfolding parts_changed
few_changed ns Nothing few is = omega arith
few_changed ns (Patch b x) few is = omega (arith, few, few-parts ns b)
few_changed ns (Grow a i b x) few is = omega (arith, is.few, length-range_with_len 0 ((product (grown ns a) + 999) / 1000))

many_owners : (b : ℕ) (n : LayoutChange) (parts : List ℕ) → length (owners_renewed b n parts) ≡ length (buckets_renewed b n) + length parts
many_owners b n parts = length-append (map Bucket (buckets_renewed b n)) (map Part parts) ∙ (λ i. length-map (buckets_renewed b n) Bucket i + length-map parts Part i)

-- a plan makes 1,002 pages at most
pub few_pages : {K : ℕ} (b : Books) (p : Plan K) → AreBooksOf K b → CountsPages b p → p.pages ≤ 1002
few_pages b p are counts =
    let parts = few_changed (dims b.scales) p.directory (omega (arith, are.scales.few_cells, (within-limits b.shape are.lawful).few_cells)) counts.directory in
    omega (arith, parts, counts.pages, many_owners p.bucket p.note (parts_changed (dims b.scales) p.directory), few_buckets p.bucket p.note)

-- as many pages as the buckets and the parts together
pub room_is : {K : ℕ} (b : Books) (p : Plan K) (n : LayoutChange) → CountsPages b p → p.note ≡ n → p.pages ≡ length (buckets_renewed p.bucket n) + length (parts_changed (dims b.scales) p.directory)
room_is b p n counts is = counts.pages ∙ many_owners p.bucket p.note (parts_changed (dims b.scales) p.directory) ∙ ap (λ (m : LayoutChange). length (buckets_renewed p.bucket m) + length (parts_changed (dims b.scales) p.directory)) is

-- a plan may be published with the pages that are claimed for it
module _ {K : ℕ} {D : Type 0} (g : Ghosts D) (f : OpenFile D) (is : IsOpenFile K g f) (u : Update K) (p : Plan K) (ready : IsReadyPlan f.books u p) (none : f.claimed ≡ []) (free : p.pages ≤ count_by is_free f.books.pages) where
  abbrev claimed : OpenFile D
  claimed = with_claim p.pages f

  other : (n : LayoutChange) → HasOther f.books p.bucket n → HasOther claimed.books p.bucket n
  other note.Plain has = has
  other (note.Cut c right) has = (has.0, claim_any g f is.books_are.owners p.pages (Bucket right) ∙ has.1)
  other (note.Merge m) has = (has.0, claim_any g f is.books_are.owners p.pages (Bucket m) ∙ has.1)

  many : length claimed.claimed ≡ p.pages
  many = let empty : length f.claimed ≡ 0 = ap (λ (ps : List ℕ). length ps) none in omega (arith, claim_count f p.pages free, empty)

  pub publishable_claimed : f.books.front + 1 < 9223372036854775808 → IsPublishable claimed.books (publishing_by p claimed.claimed)
  publishable_claimed place = record {
    place = place;
    bucket = claim_any g f is.books_are.owners p.pages (Bucket p.bucket) ∙ ready.bucket;
    other = other p.note ready.other;
    kind = ready.sound.kind;
    directory = ready.sound.directory;
    fresh = ready.sound.fresh;
    scales = ready.sound.scales;
    claimed = publishable client claimed.books.pages claimed.claimed (claim_sound g f p.pages is).claimed_are;
    count = many ∙ ready.sound.pages;
    few = omega (arith, many, free, count_by-le-length is_free f.books.pages, is.books_are.size);
  }
