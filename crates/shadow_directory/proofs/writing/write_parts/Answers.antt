use Rattle.std.proofs.Common.{◌≡◌, ◌<◌, ◌+◌, ◌-◌, ◌∙◌, ◌++◌, ◌∷◌, ℕ, List, None, Bool, true, filter, length, map, sym, ap, arith, subst, rules}
use Rattle.std.specs.List.{range_with_len}
use Rattle.std.proofs.lemmas.List.{map-append}
use Rattle.grid_types.specs.declared.owner.Owner.{Owner}
use Rattle.grid_types.specs.declared.owner.Owner.TheVariants.{Part}
use Rattle.grid_model.specs.Lists.{below, is_among}
use Rattle.directory_changes.specs.Changes.{parts_changed, parts_after}
use Rattle.directory_changes.proofs.Counted.{changed-filter}
use Rattle.shadow_directory.specs.Pages.{BeganFor}
use Rattle.shadow_directory.specs.Calls.{IsFault, IsCause}
use Rattle.shadow_directory.specs.NewPages.{WroteParts, part_pages}
use Rattle.shadow_directory.proofs.Faults.{err-goes, err-there}
use Rattle.shadow_directory.proofs.Keeping.{tells-on, cause-behind}
use Rattle.shadow_directory.specs.Reads.{page_reads, part_reads}
use Rattle.shadow_directory.proofs.Read.{reads_along, along-so-far, reads-all, ticks-done, ticks-failed}
use Rattle.shadow_directory.proofs.PartLoop.{loop-at, part-passed, part-more}
use Rattle.shadow_directory.proofs.Written.{passing-split, passing-left, began-among}
use Rattle.shadow_directory.proofs.writing.write_parts.Goals as goal
use Rattle.shadow_directory.proofs.writing.write_parts.Goals.{then-is_changed+in_ok-write_part, else-is_changed}

pub write_part-requires : goal.write_part-requires
write_part-requires g c =
    let ns = c.args.dims.now.intervals in
    let t : ℕ → Bool = is_among (parts_changed {K = g.row.K} ns c.args.change.now) in
    let among : t c.loop-part.part ≡ true = sym c.is_changed.ensures ∙ c.if-is_changed.true in
    let inside : c.loop-part.part < parts_after {K = g.row.K} ns c.args.change.now = omega (arith, c.loop-part-test.true, c.parts_after-part-end.ensures) in
    let left = passing-left t c.loop-part.part (parts_after {K = g.row.K} ns c.args.change.now) inside among in
    let whole = ap length (changed-filter {K = g.row.K} ns c.args.change.now) in
    (search rules, (search rules, (c.requires.change, (among, (c.loop-part.invariant.keeps.count ∙ c.requires.parts, (omega (arith, left, whole, c.loop-part.invariant.left, c.requires.room), c.loop-part.invariant.held))))))

pub returns-in_err-write_part-clause-honest : goal.returns-in_err-write_part-clause-honest
returns-in_err-write_part-clause-honest g c = λ D tells.
    err-goes c.from_residual.result _ IsFault c.from_residual.ensures.1 (c.in_err-write_part.ensures.writes.honest D (tells-on c.loop-part.invariant.keeps tells))

pub returns-in_err-write_part-clause-cause : goal.returns-in_err-write_part-clause-cause
returns-in_err-write_part-clause-cause g c =
    err-goes c.from_residual.result _ (IsCause g.P.ChangePages c.args.dims.now.intervals c.args.pages.now c.write_part.new.pages c.write_part.new.room.old_page) c.from_residual.ensures.1
    (cause-behind c.args.pages.now c.loop-part.pages c.write_part.new.pages c.args.dims.now.intervals c.write_part.new.room.old_page _ c.loop-part.invariant.keeps c.in_err-write_part.ensures.writes.cause)

pub returns-in_err-write_part-clause-began : goal.returns-in_err-write_part-clause-began
returns-in_err-write_part-clause-began g c =
    let ns = c.args.dims.now.intervals in
    let t : ℕ → Bool = is_among (parts_changed {K = g.row.K} ns c.args.change.now) in
    let part = c.loop-part.part in
    let end = parts_after {K = g.row.K} ns c.args.change.now in
    let among : t part ≡ true = sym c.is_changed.ensures ∙ c.if-is_changed.true in
    let inside : part < end = omega (arith, c.loop-part-test.true, c.parts_after-part-end.ensures) in
    let rest = filter t (range_with_len (part + 1) (end - part - 1)) in
    let done = filter t (below part) in
    let old = g.P.ChangePages.written c.args.pages.now in
    let new = g.P.ChangePages.written c.write_part.new.pages in
    let all : map Part (parts_changed {K = g.row.K} ns c.args.change.now) ≡ map Part done ++ Part part ∷ map Part rest =
    ap (map Part) (sym (changed-filter {K = g.row.K} ns c.args.change.now) ∙ passing-split t part end inside among) ∙ map-append Part done (part ∷ rest) in
    err-there c.from_residual.result (BeganFor (map Part (parts_changed {K = g.row.K} ns c.args.change.now)) old new)
    (subst (λ (os : List Owner). BeganFor os old new) (sym all)
    (began-among (map Part done) (map Part rest) (Part part) old (g.P.ChangePages.written c.loop-part.pages) new c.loop-part.invariant.wrote.more c.loop-part.invariant.wrote.is c.loop-part.invariant.wrote.order c.in_err-write_part.ensures.writes.began))

pub returns-in_err-write_part-clause-ticks : goal.returns-in_err-write_part-clause-ticks
returns-in_err-write_part-clause-ticks g c =
    let ns = c.args.dims.now.intervals in
    let change = c.args.change.now in
    let t : ℕ → Bool = is_among (parts_changed {K = g.row.K} ns change) in
    let part = c.loop-part.part in
    let end = parts_after {K = g.row.K} ns change in
    let among : t part ≡ true = sym c.is_changed.ensures ∙ c.if-is_changed.true in
    let inside : part < end = omega (arith, c.loop-part-test.true, c.parts_after-part-end.ensures) in
    let rest = filter t (range_with_len (part + 1) (end - part - 1)) in
    let done = filter t (below part) in
    let all : parts_changed {K = g.row.K} ns change ≡ done ++ part ∷ rest = sym (changed-filter {K = g.row.K} ns change) ∙ passing-split t part end inside among in
    let most = along-so-far {K = g.row.K} ns change None done part rest in
    let whole = sym (reads-all {K = g.row.K} ns change) ∙ ap (reads_along {K = g.row.K} ns change None) all in
    let here = ap (λ h. part_reads {K = g.row.K} ns change h part) c.loop-part.invariant.last in
    let ticks = c.in_err-write_part.ensures.ticks in
    ticks-failed (page_reads {K = g.row.K} ns change) c.args.steps.now c.write_part.new.steps c.from_residual.result _ c.from_residual.ensures.1
    (omega (arith, ticks.least, c.loop-part.invariant.reads))
    (omega (arith, ticks.most, c.loop-part.invariant.reads, most, whole, here))

pub loop-part-preserved : goal.loop-part-preserved
loop-part-preserved g c =
    let ns = c.args.dims.now.intervals in
    let change = c.args.change.now in
    let part = c.loop-part.part in
    let first = c.args.pages.now in
    let start = c.args.steps.now in
    elim c.if-is_changed.branch [
      | then-is_changed+in_ok-write_part w ↦
          let did = w.in_ok-write_part.ensures in
          loop-at {K = g.row.K} ns change first w.write_part.new.pages c.if-is_changed.pages w.write_part.new.held c.if-is_changed.held w.write_part.new.room c.if-is_changed.room start w.write_part.new.steps c.if-is_changed.steps (part + 1) w.pages-is w.held-is w.room-is w.steps-is
          (part-more {K = g.row.K} ns change first c.loop-part.pages c.loop-part.held c.loop-part.room.old_page start c.loop-part.steps part c.loop-part.invariant g.met.P.ChangePages.stays_on w.write_part.new.pages w.write_part.new.held w.write_part.new.room.old_page
          w.write_part.new.steps _ (sym c.is_changed.ensures ∙ w.if-is_changed.true) did.writes did.held did.last did.ticks.all)
      | else-is_changed w ↦
          loop-at {K = g.row.K} ns change first c.loop-part.pages c.if-is_changed.pages c.loop-part.held c.if-is_changed.held c.loop-part.room c.if-is_changed.room start c.loop-part.steps c.if-is_changed.steps (part + 1) w.pages-is w.held-is w.room-is w.steps-is
          (part-passed {K = g.row.K} ns change first c.loop-part.pages c.loop-part.held c.loop-part.room.old_page start c.loop-part.steps part c.loop-part.invariant (sym c.is_changed.ensures ∙ w.if-is_changed.false))
    ]

pub returns-clause-written : goal.returns-clause-written
returns-clause-written g c = λ D after tells are.
    let end : c.loop-part.part ≡ parts_after {K = g.row.K} c.args.dims.now.intervals c.args.change.now = omega (arith, c.loop-part-test.false, c.loop-part.auto.part-end, c.parts_after-part-end.ensures) in
    let whole = ap (λ n. filter (is_among (parts_changed {K = g.row.K} c.args.dims.now.intervals c.args.change.now)) (below n)) end ∙ changed-filter {K = g.row.K} c.args.dims.now.intervals c.args.change.now in
    c.loop-part.invariant.written D after tells are ∙ ap (λ ps. g.P.ChangePages.written c.args.pages.now ++ part_pages after ps) whole

pub returns-clause-wrote : goal.returns-clause-wrote
returns-clause-wrote g c =
    let end : c.loop-part.part ≡ parts_after {K = g.row.K} c.args.dims.now.intervals c.args.change.now = omega (arith, c.loop-part-test.false, c.loop-part.auto.part-end, c.parts_after-part-end.ensures) in
    let whole = ap (λ n. filter (is_among (parts_changed {K = g.row.K} c.args.dims.now.intervals c.args.change.now)) (below n)) end ∙ changed-filter {K = g.row.K} c.args.dims.now.intervals c.args.change.now in
    subst (λ ps. WroteParts ps (g.P.ChangePages.written c.args.pages.now) (g.P.ChangePages.written c.loop-part.pages)) whole c.loop-part.invariant.wrote

pub returns-clause-ticks : goal.returns-clause-ticks
returns-clause-ticks g c =
    let ns = c.args.dims.now.intervals in
    let change = c.args.change.now in
    let end : c.loop-part.part ≡ parts_after {K = g.row.K} ns change = omega (arith, c.loop-part-test.false, c.loop-part.auto.part-end, c.parts_after-part-end.ensures) in
    let whole = ap (λ n. filter (is_among (parts_changed {K = g.row.K} ns change)) (below n)) end ∙ changed-filter {K = g.row.K} ns change in
    ticks-done (page_reads {K = g.row.K} ns change) c.args.steps.now c.loop-part.steps _
    (c.loop-part.invariant.reads ∙ ap (λ n. c.args.steps.now + n) (ap (reads_along {K = g.row.K} ns change None) whole ∙ reads-all {K = g.row.K} ns change))
