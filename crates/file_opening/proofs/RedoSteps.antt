-- One update that is redone, step by step: a sweep, its plan, its new pages on claimed pages, and these published.
use Rattle.std.proofs.Common.{◌≡◌, ◌≤◌, ℕ, List, [], ◌∷◌, ◌++◌, Option, Some, None, IsTrue, refl, sym, ap, subst, ◌∙◌, length, arith}
use Rattle.std.specs.List.{count_by}
use Rattle.grid_types.specs.declared.layout_change.LayoutChange.{LayoutChange}
use Rattle.grid_types.specs.declared.layout_change.LoggedUpdate.{LoggedUpdate}
use Rattle.disk_trait.specs.declared.disk.Disk.{Ghosts}
use Rattle.grid_model.specs.Layouts.{BucketBox}
use Rattle.grid_model.specs.Lawful.{IsUpdateOf}
use Rattle.grid_model.specs.Lone.{how_many, renewed}
use Rattle.history_pages.specs.NewPages.{new_pages}
use Rattle.history_pages.specs.PageLaws.{IsChange}
use Rattle.query_paths.specs.Pinned.{IsPinnedTo}
use Rattle.page_states.specs.Changes.{ArePublishable}
use Rattle.page_states.specs.States.{is_claimed, is_free}
use Rattle.layout_pages.specs.HoldingLaws.{ReadAs}
use Rattle.file_images.specs.Kept.{Kept}
use Rattle.file_images.specs.Leads.{Standing}
use Rattle.file_images.specs.Meets.{Meets}
use Rattle.file_images.proofs.Covering.{covers_meets}
use Rattle.file_books.specs.Books.{Books}
use Rattle.file_books.specs.Effects.{Publishing, IsPublishable, published_books, swept_books}
use Rattle.file_standing.specs.Open.{StaysStanding}
use Rattle.file_standing.specs.Steps.{IsWritten, publishing, swept_kept, with_fresh}
use Rattle.file_redo.specs.RedoLaws.{ClaimsCount, IsNextChange}
use Rattle.file_redo.specs.Redoing.{IsRedoing}
use Rattle.file_redo.proofs.Claims.{claims-count}
use Rattle.file_redo.proofs.Going.{redo-may-go-on}
use Rattle.file_redo.proofs.Leading.{redo-leads}
use Rattle.file_redo.proofs.PageSteps.{redo-page-steps}
use Rattle.file_redo.proofs.Publishing.{redo-goes-on}
use Rattle.update_plans.specs.declared.plan.Plan.{Plan}
use Rattle.update_plans.specs.Plans.{IsPlanOf}
use Rattle.grid_file.specs.Files.{OpenFile, client, opened_file, with_claim}
use Rattle.grid_file.specs.Keeping.{ReadsFile, KeepsFile}
use Rattle.grid_file.specs.Pages.{front_place}
use Rattle.grid_file.specs.RedoLaws.{IsBegunBeside, IsWrittenBeside, RedoReadingsTell}
use Rattle.grid_file.proofs.Beside.{writing_goes_on}
use Rattle.file_updates.specs.Plans.{IsPlannedAs}
use Rattle.file_updates.proofs.Committed.{publishes}
use Rattle.file_updates.specs.Ready.{IsReadyPlan}
use Rattle.file_updates.specs.Writing.{publishing_by, IsGivenBack}
use Rattle.file_opening.specs.Redoing.{stands_at, IsNextPlan}
use Rattle.file_opening.specs.UnderWay.{IsUnderWay}
use Rattle.file_opening.proofs.Redone.{shown-stands}

module _ {K : ℕ} {D : Type 0} (g : Ghosts D) (m : Standing K) (rest : List (LoggedUpdate K)) where
  -- a reading leaves a file on its way
  pub read-on : (old new : OpenFile D) → ReadsFile K g old new → IsUnderWay g old.books old.disk m rest → IsUnderWay g new.books new.disk m rest
  read-on old new reads w = record {
    kept = w.kept;
    lineage = w.lineage;
    done = w.done;
    redoing = subst (λ (x : Books). IsRedoing x w.kept m w.lineage w.done rest) (sym reads.books) w.redoing;
    meets = reads.kept w.kept w.meets;
    unclaimed = ap (λ (x : Books). count_by is_claimed x.pages) reads.books ∙ w.unclaimed;
  }

  -- and its front has the pages of where the redo stands
  pub pinned-on : RedoReadingsTell K g → (f : OpenFile D) → IsTrue (g.honest f.disk) → (w : IsUnderWay g f.books f.disk m rest) → IsPinnedTo (front_place g f) (stands_at w).layout (stands_at w).table
  pinned-on readings f told w = readings.pinned f w.kept (stands_at w) told w.meets w.redoing.agree.shape w.redoing.hold

  -- each moment of a reading leaves where all leads
  pub reading-stands : (old new : OpenFile D) → ReadsFile K g old new → IsUnderWay g old.books old.disk m rest → StaysStanding g m old.disk new.disk
  reading-stands old new reads w = shown-stands g old.books old.disk new.disk m rest w (reads.moments w.kept w.meets)

-- the writing of new pages on pages that are claimed for them
module _ {K : ℕ} {D : Type 0} (g : Ghosts D) (f : OpenFile D) (m : Standing K) (rest : List (LoggedUpdate K)) (w : IsUnderWay g f.books f.disk m rest) (count : ℕ) where
  abbrev begun_file : OpenFile D
  begun_file = with_claim count f

  claimed-redoing : IsRedoing begun_file.books w.kept m w.lineage w.done rest
  claimed-redoing = redo-page-steps.claim f.books w.kept m w.lineage w.done rest client count w.redoing

  begun-beside : IsBegunBeside g w.kept begun_file
  begun-beside = record { unkept = (writing_goes_on g).unkept begun_file.books w.kept m w.lineage w.done rest claimed-redoing; meets = w.meets; none = refl }

  -- at each moment of it a crash leaves where all leads
  pub writing-stands : (new : OpenFile D) → KeepsFile K g begun_file new → StaysStanding g m f.disk new.disk
  writing-stands new keeps = (writing_goes_on g).standing begun_file new w.kept m (redo-leads.leads f.books w.kept m w.lineage w.done rest w.redoing) w.redoing.shut begun-beside keeps

  -- also where it failed and the pages were given back
  pub undone-stands : (new : OpenFile D) → IsGivenBack K g count f new → StaysStanding g m f.disk new.disk
  undone-stands new undone = subst (λ (h : OpenFile D). StaysStanding g m f.disk h.disk) (sym undone.back) (writing-stands undone.failed undone.keeps)

-- once the new pages are published the update is redone
module _ {K : ℕ} {D : Type 0} (g : Ghosts D) (f : OpenFile D) (m : Standing K) (u : LoggedUpdate K) (rest : List (LoggedUpdate K)) (w : IsUnderWay g f.books f.disk m (u ∷ rest)) (count : ℕ) (new : OpenFile D) (keeps : KeepsFile K g (with_claim count f) new) where
  abbrev at : Standing K
  at = stands_at w

  abbrev claiming : OpenFile D
  claiming = with_claim count f

  pub published-on : (e : ℕ × BucketBox K) → IsChange f.books.shape at.layout at.table u.update u.note e → IsUpdateOf K u.update → count ≤ count_by is_free f.books.pages
      → new.written ≡ new_pages at.layout at.table u.update u.note e → length new.claimed ≡ length new.written → length new.claimed ≡ count
      → (x : Publishing K) → x ≡ publishing at e u.update u.note new.claimed → IsPublishable new.books x → IsUnderWay g (published_books new.books x) new.disk m rest
  published-on e change lawful few pages all many x is-x publishable =
      let counts : ClaimsCount K = claims-count in
      let beside : IsWrittenBeside g w.kept new.claimed new.written new.disk = (writing_goes_on g).written claiming new w.kept (begun-beside g f m (u ∷ rest) w count) keeps all in
      let may : IsPublishable claiming.books x = subst (λ (b : Books). IsPublishable b x) keeps.books publishable in
      let claimed : ArePublishable new.claimed claiming.books.pages = subst (λ (y : Publishing K). ArePublishable y.pages claiming.books.pages) is-x may.claimed in
      let written : IsWritten claiming.books at e u.update u.note new.claimed beside.fresh = record {
        change = change;
        update = lawful;
        claimed = claimed;
        reads = subst (λ ws. ReadAs beside.fresh new.claimed ws) pages beside.reads;
      } in
      let redoing : IsRedoing (published_books claiming.books (publishing at e u.update u.note new.claimed)) (with_fresh w.kept beside.fresh) m w.lineage (w.done ++ u ∷ []) rest =
      redo-goes-on claiming.books w.kept m w.lineage w.done rest u e new.claimed beside.fresh (claimed-redoing g f m (u ∷ rest) w count) written beside.others beside.many in
      let fewer = counts.published claiming.books x may in
      let more = counts.claim f.books client count few in
      subst (λ (b : Books). IsUnderWay g (published_books b x) new.disk m rest) (sym keeps.books) (record {
        kept = with_fresh w.kept beside.fresh;
        lineage = w.lineage;
        done = w.done ++ u ∷ [];
        redoing = subst (λ (y : Publishing K). IsRedoing (published_books claiming.books y) (with_fresh w.kept beside.fresh) m w.lineage (w.done ++ u ∷ []) rest) (sym is-x) redoing;
        meets = beside.meets;
        unclaimed = omega (arith, fewer, more, w.unclaimed, ap (λ (y : Publishing K). length y.pages) is-x, many);
      })

-- an update whose plan is known
module _ {K : ℕ} {D : Type 0} (g : Ghosts D) (f : OpenFile D) (m : Standing K) (u : LoggedUpdate K) (rest : List (LoggedUpdate K)) (first second : List ℕ) (p : Plan K) (next : IsNextPlan g f m u rest first second p) where
  abbrev there : Standing K
  there = stands_at next.way

  -- its front has the pages of where the redo stands
  pub plan-pinned : RedoReadingsTell K g → IsTrue (g.honest f.disk) → IsPinnedTo (front_place g f) there.layout there.table
  plan-pinned readings told = pinned-on g m (u ∷ rest) readings f told next.way

  -- once its new pages are written and published it is redone
  pub planned-redone : (mid new : OpenFile D) → KeepsFile K g (with_claim p.pages f) mid → p.pages ≤ count_by is_free f.books.pages → mid.written ≡ new_pages there.layout there.table u.update p.note next.box
      → length mid.written ≡ length mid.claimed → length mid.claimed ≡ p.pages → IsUpdateOf K u.update → IsPublishable mid.books (publishing_by p mid.claimed)
      → new ≡ opened_file mid.disk (published_books mid.books (publishing_by p mid.claimed)) → IsUnderWay g new.books new.disk m rest
  planned-redone mid new keeps few pages all many lawful publishable is =
      let change : IsChange f.books.shape there.layout there.table u.update u.note next.box =
      subst (λ (n : LayoutChange). IsChange f.books.shape there.layout there.table u.update n next.box) next.noted next.is.change in
      let written : mid.written ≡ new_pages there.layout there.table u.update u.note next.box = pages ∙ ap (λ (n : LayoutChange). new_pages there.layout there.table u.update n next.box) next.noted in
      let same : publishing_by p mid.claimed ≡ publishing there next.box u.update u.note mid.claimed =
      publishes f.books.shape there next.box u.update p first second mid.claimed f.books.shape f.books.scales next.is next.ready.sound ∙ ap (λ (n : LayoutChange). publishing there next.box u.update n mid.claimed) next.noted in
      subst (λ (h : OpenFile D). IsUnderWay g h.books h.disk m rest) (sym is)
      (published-on g f m u rest next.way p.pages mid keeps next.box change lawful few written (sym all) many (publishing_by p mid.claimed) same publishable)

-- the next update of a file that is opened, its sweep, and its planning
module _ {K : ℕ} {D : Type 0} (g : Ghosts D) (f : OpenFile D) (u : LoggedUpdate K) (m : Standing K) (rest : List (LoggedUpdate K)) (w : IsUnderWay g f.books f.disk m (u ∷ rest)) (clean : OpenFile D) (sweeps : clean ≡ record f { books = swept_books f.books }) where
  abbrev now : Standing K
  now = stands_at w

  -- the box of which it is a change
  next-box : (e : ℕ × BucketBox K) × IsNextChange f.books w.lineage w.done u e
  next-box = redo-may-go-on f.books w.kept m w.lineage w.done rest u w.redoing

  pub box : ℕ × BucketBox K
  box = next-box.0

  pub next-change : IsChange clean.books.shape now.layout now.table u.update u.note box
  unfolding box
  next-change = subst (λ (h : OpenFile D). IsChange h.books.shape now.layout now.table u.update u.note box) (sym sweeps) next-box.1.change

  -- after the sweep it is on its way as before
  swept-way : IsUnderWay g clean.books clean.disk m (u ∷ rest)
  swept-way =
      let counts : ClaimsCount K = claims-count in
      let kept : Kept K = swept_kept f.books w.kept in
      let redoing : IsRedoing (swept_books f.books) kept m w.lineage w.done (u ∷ rest) = redo-page-steps.sweep f.books w.kept m w.lineage w.done (u ∷ rest) w.redoing in
      let meets : Meets g kept f.disk = covers_meets w.kept kept (redo-page-steps.covered f.books w.kept) g f.disk w.meets in
      record {
        kept = kept;
        lineage = w.lineage;
        done = w.done;
        redoing = subst (λ (h : OpenFile D). IsRedoing h.books kept m w.lineage w.done (u ∷ rest)) (sym sweeps) redoing;
        meets = subst (λ (h : OpenFile D). Meets g kept h.disk) (sym sweeps) meets;
        unclaimed = ap (λ (h : OpenFile D). count_by is_claimed h.books.pages) sweeps ∙ counts.sweep f.books ∙ w.unclaimed;
      }

  -- its front has the pages of where the redo stands
  pub next-pinned : RedoReadingsTell K g → IsTrue (g.honest f.disk) → IsPinnedTo (front_place g clean) now.layout now.table
  unfolding swept-way
  next-pinned readings told = pinned-on g m (u ∷ rest) readings clean (ap (λ (h : OpenFile D). g.honest h.disk) sweeps ∙ told) swept-way

  module _ (planned : OpenFile D) (reads : ReadsFile K g clean planned) where
    pub planned-way : IsUnderWay g planned.books planned.disk m (u ∷ rest)
    planned-way = read-on g m (u ∷ rest) clean planned reads swept-way

    -- at each moment of the planning a crash leaves where all leads
    pub planning-stands : StaysStanding g m f.disk planned.disk
    planning-stands = subst (λ (h : OpenFile D). StaysStanding g m h.disk planned.disk) sweeps (reading-stands g m (u ∷ rest) clean planned reads swept-way)

    module _ (first second : List ℕ) (o : Option (Plan K)) (is : IsPlannedAs clean.books.shape now.layout now.table u.update box u.note first second o) where
      -- there is a plan
      pub no-plan : {A : Type 0} → o ≡ None → A
      no-plan none = let there = is.there in absurd (cc)

      module _ (p : Plan K) (same : o ≡ Some p) where
        that-plan : is.plan ≡ p
        that-plan = let there = is.there in cc

        -- as many pages are free as it makes new ones
        pub enough : p.pages ≤ count_by is_free planned.books.pages
        unfolding box
        enough =
            let free : how_many (renewed now.layout box u.note) ≤ count_by is_free (swept_books f.books).pages = next-box.1.enough w.unclaimed in
            let pages : p.pages ≡ how_many (renewed now.layout box u.note) = ap (λ (q : Plan K). q.pages) (sym that-plan) ∙ is.is.pages ∙ ap (λ (n : LayoutChange). how_many (renewed now.layout box n)) is.noted in
            omega (arith, free, pages, ap (λ (b : Books). count_by is_free b.pages) reads.books, ap (λ (h : OpenFile D). count_by is_free h.books.pages) sweeps)

        -- and it is that of the next update
        pub next-plan : IsReadyPlan clean.books u.update p → IsNextPlan g planned m u rest first second p
        unfolding planned-way read-on swept-way
        next-plan ready = record {
          way = planned-way;
          box = box;
          is = subst (λ (z : Books × Plan K). IsPlanOf z.0.shape now.layout now.table u.update box first second z.1) (λ i. (sym reads.books i, that-plan i)) is.is;
          noted = ap (λ (q : Plan K). q.note) (sym that-plan) ∙ is.noted;
          ready = subst (λ (b : Books). IsReadyPlan b u.update p) (sym reads.books) ready;
        }
