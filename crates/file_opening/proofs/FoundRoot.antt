-- A file that is found in an image is on its way once that image is on the disk for good.
use Rattle.std.proofs.Common.{◌≡◌, ◌≤◌, ◌*◌, ◌∷◌, ℕ, zero, suc, List, [], Option, Some, None, refl, sym, ap, subst, ◌∙◌, map, length, replicate, arith}
use Rattle.std.specs.Prelude.{IsTrue, slice_get, slice_index}
use Rattle.std.proofs.lemmas.List.{length-map, length-append}
use Rattle.std.proofs.lemmas.List.FromFn.{length-range_with_len}
use Rattle.grid_types.specs.declared.layout_change.LoggedUpdate.{LoggedUpdate}
use Rattle.grid_types.specs.declared.sizes.TheConstants.{PAGE_BYTES}
use Rattle.grid_types.specs.declared.shape.Shape.{Shape}
use Rattle.grid_types.specs.Shapes.{file_pages, header_page}
use Rattle.disk_trait.specs.declared.disk.Disk.{Ghosts}
use Rattle.disk_trait.specs.Calls.{IsSynced}
use Rattle.grid_model.specs.Images.{numbers_of, header_gate}
use Rattle.grid_model.specs.Lawful.{Area, pages_named}
use Rattle.grid_model.specs.Lists.{below}
use Rattle.grid_model.specs.Spellings.{LoggedBatch}
use Rattle.linear_scales.specs.Roots.{whole_of, area_of}
use Rattle.file_books.specs.Books.{Books}
use Rattle.file_books.specs.Effects.{opened_books}
use Rattle.file_images.specs.Kept.{Kept, used, next_number}
use Rattle.file_images.specs.Leads.{Standing, HasStanding, Lineage, updates_in}
use Rattle.file_images.specs.Meets.{Meets}
use Rattle.file_images.specs.Shows.{Shows}
use Rattle.file_images.proofs.Standing.{stands-once}
use Rattle.page_states.specs.Changes.{Publication, pages_of}
use Rattle.layout_pages.specs.Steps.{bucket_publication, part_publication, named_publications}
use Rattle.layout_pages.proofs.Distinct.{named-pages}
use Rattle.file_finding.specs.Finding.{Finding, IsFoundKept, FindsKept, finding_of}
use Rattle.file_finding.proofs.Finding.{standing_finds}
use Rattle.file_redo.specs.RedoLaws.{IsFoundRoot, ClaimsCount}
use Rattle.file_redo.specs.Redoing.{IsRedoing}
use Rattle.file_redo.proofs.Beginning.{redo-begins}
use Rattle.file_redo.proofs.Claims.{claims-count}
use Rattle.recovery.specs.declared.survey.Survey.{Survey}
use Rattle.recovery.specs.Surveys.{IsSurvey, found_in}
use Rattle.file_opening.specs.UnderWay.{IsUnderWay}

-- an image has one standing at most
one-standing : {K : ℕ} (image : List ℕ) (m n : Standing K) → HasStanding image m → HasStanding image n → n ≡ m
one-standing image m n a b = λ i. record {
  place = stands-once.place image n.place m.place n.table m.table b.stands.reads a.stands.reads i;
  table = stands-once.table image n.place m.place n.table m.table b.stands.reads a.stands.reads i;
  layout = stands-once.layout image n.layout m.layout b.shaped a.shaped i;
}

-- where nothing is asked of any page, none is asked to hold something
nothing-asked : {A : Type 0} (n p : ℕ) (bytes : List ℕ) → slice_get (replicate n None) p ≡ Some (Some bytes) → A
nothing-asked zero p bytes e = absurd (cc)
nothing-asked (suc n) zero bytes e = absurd (cc)
nothing-asked (suc n) (suc p) bytes e = nothing-asked n p bytes e

-- each publication has a page
pages-count : (xs : List Publication) → length (pages_of xs) ≡ length xs
pages-count [] = refl
pages-count (x ∷ xs) = ap suc (pages-count xs)

-- a table names as many pages as it has numbers
table-count : (a : Area) → length (pages_named a.table) ≡ length (numbers_of a.table)
table-count a =
    let numbers = map (bucket_publication a.table) (numbers_of a.table) in
    let parts = map (part_publication a.parts) (below (length a.parts)) in
    omega (
      arith,
      sym (length-append (pages_named a.table) a.parts) ∙ sym (ap length (named-pages a)) ∙ pages-count (named_publications a) ∙ length-append numbers parts,
      length-map (numbers_of a.table) (bucket_publication a.table),
      length-map (below (length a.parts)) (part_publication a.parts) ∙ length-range_with_len 0 (length a.parts),
    )

module _ {K : ℕ} (image : List ℕ) (survey : Survey K) (is : IsSurvey image survey) (m : Standing K) (has : HasStanding image m) where
  finds : FindsKept image (finding_of (found_in survey is.gates is.batches)) m.place m.table
  finds = standing_finds.kept image m.place m.table (found_in survey is.gates is.batches) survey.front has.stands is.found

  kept-there : IsFoundKept image (finding_of (found_in survey is.gates is.batches)) m finds.kept finds.lineage
  kept-there = subst (λ (n : Standing K). IsFoundKept image (finding_of (found_in survey is.gates is.batches)) n finds.kept finds.lineage) (one-standing image m finds.standing has finds.has) finds.found

  slots : survey.used ≡ used finds.kept 0 ∷ used finds.kept 1 ∷ []
  slots = is.used ∙ kept-there.slots_are

  buckets-counted : length (pages_named (area_of survey.root).table) ≡ length finds.lineage.layout.boxes
  buckets-counted =
      table-count (area_of survey.root) ∙ sym (ap length kept-there.along.holds.numbers) ∙ length-map finds.lineage.layout.boxes (λ e. e.0)

  found-root : IsFoundRoot survey.geometry.shape (whole_of survey.root) (slice_index survey.used 0) (slice_index survey.used 1) finds.kept m finds.lineage
  found-root = record {
    shape = kept-there.shape_is;
    root = kept-there.root_is;
    other = kept-there.other_is;
    area = is.found.area.lawful;
    buckets = buckets-counted;
    known = kept-there.known;
    fresh = kept-there.fresh_is;
    half = kept-there.half_is;
    next = kept-there.next_is;
    first_used = sym (ap (λ (us : List ℕ). slice_index us 0) slots);
    second_used = sym (ap (λ (us : List ℕ). slice_index us 1) slots);
    along = kept-there.along;
  }

  -- a disk that has the image for good meets what is found in it
  found-meets : {D : Type 0} (g : Ghosts D) (d : D) → IsSynced g d → (IsTrue (g.honest d) → g.seen d ≡ image) → file_pages survey.geometry.shape * PAGE_BYTES ≤ g.extent d → Meets g finds.kept d
  found-meets g d synced seen size = record {
    crash = λ h c left. subst (Shows finds.kept) (sym (synced.only h c left ∙ seen h)) kept-there.shows;
    loose = λ h gate c left. kept-there.loose (sym (ap (λ (i : List ℕ). header_gate i (header_page (next_number finds.kept))) (seen h)) ∙ gate) c (synced.only h c left ∙ seen h);
    fresh = λ h p bytes asked. nothing-asked survey.geometry.shape.pages p bytes (sym (ap (λ (xs : List (Option (List ℕ))). slice_get xs p) kept-there.fresh_is) ∙ asked);
    reads = subst (λ (n : ℕ). n ≤ g.read_count d) (sym kept-there.reads_are) (omega arith);
    writes = subst (λ (n : ℕ). n ≤ g.write_count d) (sym kept-there.writes_are) (omega arith);
    size = subst (λ (s : Shape). file_pages s * PAGE_BYTES ≤ g.extent d) (sym kept-there.shape_is) size;
  }

  -- it is on its way, with all updates that were taken left
  pub begins : {D : Type 0} (g : Ghosts D) (d : D) (b : Books) (taken : List (LoggedBatch K)) → b ≡ opened_books survey.geometry.shape (whole_of survey.root) (slice_index survey.used 0) (slice_index survey.used 1) → taken ≡ survey.taken
      → IsSynced g d → (IsTrue (g.honest d) → g.seen d ≡ image) → file_pages survey.geometry.shape * PAGE_BYTES ≤ g.extent d → IsUnderWay g b d m (updates_in taken)
  begins g d b taken is-b is-taken synced seen size =
      let s = survey.geometry.shape in
      let w = whole_of survey.root in
      let first = slice_index survey.used 0 in
      let second = slice_index survey.used 1 in
      let counts : ClaimsCount K = claims-count in
      subst (λ (x : Books). IsUnderWay g x d m (updates_in taken)) (sym is-b) (subst (λ (ys : List (LoggedBatch K)). IsUnderWay g (opened_books s w first second) d m (updates_in ys)) (kept-there.taken_are ∙ sym is-taken) (record {
        kept = finds.kept;
        lineage = finds.lineage;
        done = [];
        redoing = redo-begins s w first second finds.kept m finds.lineage found-root;
        meets = found-meets g d synced seen size;
        unclaimed = counts.opened s w first second;
      }))
