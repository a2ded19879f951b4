use Rattle.std.proofs.Common.{◌≡◌, ◌<◌, ◌+◌, ℕ, List, true, sym, ◌∙◌, ap, subst, length, filter, map, arith}
use Rattle.std.specs.Prelude.{slice_index}
use Rattle.grid_types.specs.declared.owner.Owner.TheVariants.{Part}
use Rattle.grid_model.specs.Lists.{below, is_among}
use Rattle.page_states.specs.declared.page_state.PageState.{PageState}
use Rattle.page_states.specs.Changes.{all_published}
use Rattle.page_states.proofs.PagesStay.{pages_stay}
use Rattle.layout_pages.specs.Steps.{publications}
use Rattle.directory_changes.specs.Changes.{parts_changed, parts_after}
use Rattle.directory_changes.specs.declared.change.DirectoryChange.{DirectoryChange}
use Rattle.directory_changes.proofs.Counted.{changed-filter}
use Rattle.file_state.proofs.Filters.{count_bound}
use Rattle.file_state.proofs.Walks.{HasWalked, walk_on, walk_one}
use Rattle.file_state.proofs.publishing.publish_parts.Goals as goal
use Rattle.file_state.proofs.publishing.publish_parts.Goals.{then-is_changed, else-is_changed}

-- a part that is renewed has a page of its own
within : {K : ℕ} (ns : List ℕ) (d : DirectoryChange K) (pages : List ℕ) (part next : ℕ) → length pages ≡ length (parts_changed ns d) → part < parts_after ns d → is_among (parts_changed ns d) part ≡ true
    → next ≡ length (filter (is_among (parts_changed ns d)) (below part)) → next < length pages
within ns d pages part next count low renewed is =
    omega (arith, count, is, count_bound (is_among (parts_changed ns d)) part (parts_after ns d) low renewed, ap length (changed-filter ns d))

-- where all parts were walked through, all that are renewed have their pages
done : {K : ℕ} (ns : List ℕ) (d : DirectoryChange K) (at : ℕ) (pages : List ℕ) (initial states : List PageState) (part next : ℕ) → HasWalked (is_among (parts_changed ns d)) at pages initial states part next → part ≡ parts_after ns d
    → states ≡ all_published at (publications (map Part (parts_changed ns d)) pages) initial
done ns d at pages initial states part next walked end =
    walked.made
    ∙ ap (λ (n : ℕ). all_published at (publications (map Part (filter (is_among (parts_changed ns d)) (below n))) pages) initial) end
    ∙ ap (λ (ps : List ℕ). all_published at (publications (map Part ps) pages) initial) (changed-filter ns d)

pub loop-part-preserved : goal.loop-part-preserved
loop-part-preserved g c =
    let test = is_among (parts_changed {K = g.row.K} c.args.dims.now.intervals c.args.directory.now) in
    elim c.if-is_changed.branch [
      | then-is_changed w ↦
          let renewed : is_among (parts_changed {K = g.row.K} c.args.dims.now.intervals c.args.directory.now) c.loop-part.part ≡ true = sym c.is_changed.ensures ∙ w.if-is_changed.true in
          let low : c.loop-part.next < length c.args.pages.now = within {K = g.row.K} c.args.dims.now.intervals c.args.directory.now c.args.pages.now c.loop-part.part c.loop-part.next c.requires.count (omega (arith, c.loop-part-test.true, c.parts_after-part-end.ensures)) renewed c.loop-part.invariant.walked.counted in
          record {
            walked = walk_one test c.args.at c.args.pages.now c.args.states.now c.loop-part.states c.loop-part.part c.loop-part.next c.loop-part.invariant.walked c.if-is_changed.states c.if-is_changed.next renewed low c.requires.claimed.distinct
                (w.states-is ∙ w.publish.ensures) w.next-is;
            size = ap length (w.states-is ∙ w.publish.ensures) ∙ pages_stay.publication (slice_index c.args.pages.now c.loop-part.next) c.args.at (Part c.loop-part.part) c.loop-part.states ∙ c.loop-part.invariant.size;
          }
      | else-is_changed w ↦ record {
        walked = subst (λ (n : ℕ). HasWalked test c.args.at c.args.pages.now c.args.states.now c.if-is_changed.states (c.loop-part.part + 1) n) (sym w.next-is)
            (subst (λ (s : List PageState). HasWalked test c.args.at c.args.pages.now c.args.states.now s (c.loop-part.part + 1) c.loop-part.next) (sym w.states-is)
            (walk_on test c.args.at c.args.pages.now c.args.states.now c.loop-part.states c.loop-part.part c.loop-part.next c.loop-part.invariant.walked (sym c.is_changed.ensures ∙ w.if-is_changed.false)));
        size = ap length w.states-is ∙ c.loop-part.invariant.size;
      }
    ]

pub bounds-pages-next : goal.bounds-pages-next
bounds-pages-next g c = within {K = g.row.K} c.args.dims.now.intervals c.args.directory.now c.args.pages.now c.loop-part.part c.loop-part.next c.requires.count (omega (arith, c.loop-part-test.true, c.parts_after-part-end.ensures)) (sym c.is_changed.ensures ∙ c.if-is_changed.true) c.loop-part.invariant.walked.counted

pub offset_bounds-pages-next : goal.offset_bounds-pages-next
offset_bounds-pages-next g c =
    let low : c.loop-part.next < length c.args.pages.now = within {K = g.row.K} c.args.dims.now.intervals c.args.directory.now c.args.pages.now c.loop-part.part c.loop-part.next c.requires.count (omega (arith, c.loop-part-test.true, c.parts_after-part-end.ensures)) (sym c.is_changed.ensures ∙ c.if-is_changed.true) c.loop-part.invariant.walked.counted in
    omega (arith, low)

pub overflow_add-next : goal.overflow_add-next
overflow_add-next g c =
    let low : c.loop-part.next < length c.args.pages.now = within {K = g.row.K} c.args.dims.now.intervals c.args.directory.now c.args.pages.now c.loop-part.part c.loop-part.next c.requires.count (omega (arith, c.loop-part-test.true, c.parts_after-part-end.ensures)) (sym c.is_changed.ensures ∙ c.if-is_changed.true) c.loop-part.invariant.walked.counted in
    omega (arith, low)

pub publish-requires-clause-claimed : goal.publish-requires-clause-claimed
publish-requires-clause-claimed g c =
    c.loop-part.invariant.walked.claimed c.loop-part.next (omega arith)
    (within {K = g.row.K} c.args.dims.now.intervals c.args.directory.now c.args.pages.now c.loop-part.part c.loop-part.next c.requires.count (omega (arith, c.loop-part-test.true, c.parts_after-part-end.ensures)) (sym c.is_changed.ensures ∙ c.if-is_changed.true) c.loop-part.invariant.walked.counted)

pub returns : goal.returns
returns g c =
    done {K = g.row.K} c.args.dims.now.intervals c.args.directory.now c.args.at c.args.pages.now c.args.states.now c.loop-part.states c.loop-part.part c.loop-part.next c.loop-part.invariant.walked
    (omega (arith, c.loop-part-test.false, c.loop-part.auto.part-end, c.parts_after-part-end.ensures))
