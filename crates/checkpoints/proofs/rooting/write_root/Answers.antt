use Rattle.std.proofs.Common.{◌∙◌, sym}
use Rattle.std.specs.Prelude.{Some}
use Rattle.linear_scales.specs.Roots.{whole_of}
use Rattle.root_pages.specs.Fields.{model_fields}
use Rattle.file_roots.proofs.Outcomes.{on_err}
use Rattle.file_images.specs.Steps.{with_tried}
use Rattle.checkpoints.proofs.Disks.{keeps-then, header-keeps}
use Rattle.checkpoints.proofs.Numbers.{awaits-known, awaits-root}
use Rattle.checkpoints.proofs.Standing.{shown-then}
use Rattle.checkpoints.proofs.rooting.write_root.Goals as goal

pub returns-in_err-write_whole-clause-moments : goal.returns-in_err-write_whole-clause-moments
returns-in_err-write_whole-clause-moments g c = λ k at was.
    let new = c.copy_root.new.root in
    let here = awaits-known {K = g.row.K} k c.args.state.now c.turn.new.self c.geometry-geometry.result.shape new c.geometry-geometry.ensures.shape c.turn.ensures c.copy_root.ensures.fields at in
    c.in_err-write_whole.ensures.moments k (Some (whole_of {K = g.row.K} new)) here was

pub returns-in_err-write_whole-clause-again : goal.returns-in_err-write_whole-clause-again
returns-in_err-write_whole-clause-again g c = λ k at was.
    let new = c.copy_root.new.root in
    let here = awaits-known {K = g.row.K} k c.args.state.now c.turn.new.self c.geometry-geometry.result.shape new c.geometry-geometry.ensures.shape c.turn.ensures c.copy_root.ensures.fields at in
    on_err c.from_residual.result (c.in_err-write_whole.ensures.loose k (Some (whole_of {K = g.row.K} new)) here was)

pub returns-in_err-finish_root-clause-moments : goal.returns-in_err-finish_root-clause-moments
returns-in_err-finish_root-clause-moments g c = λ k at was.
    let new = c.copy_root.new.root in
    let s = c.geometry-geometry.result.shape in
    let first = c.in_ok-write_whole.ensures in
    let here = awaits-known {K = g.row.K} k c.args.state.now c.turn.new.self s new c.geometry-geometry.ensures.shape c.turn.ensures c.copy_root.ensures.fields at in
    let next = awaits-root {K = g.row.K} k c.args.state.now c.turn.new.self s new c.geometry-geometry.ensures.shape c.turn.ensures c.copy_root.ensures.fields at c.header_of.result c.header_of.ensures c.copy_root.ensures.root in
    shown-then {K = g.row.K} {D = g.row.D.Denot} g.D.Disk (with_tried k (Some (whole_of {K = g.row.K} new))) first.changes.honest (first.moments k (Some (whole_of {K = g.row.K} new)) here was)
    (c.in_err-finish_root.ensures.moments g.row.K k (whole_of {K = g.row.K} new) next (λ h. first.written (sym first.changes.honest ∙ h)) (first.kept k here was))

pub returns-in_err-finish_root-clause-changes : goal.returns-in_err-finish_root-clause-changes
returns-in_err-finish_root-clause-changes g c =
    keeps-then {D = g.row.D.Denot} c.in_ok-write_whole.ensures.changes
    (header-keeps {D = g.row.D.Denot} (model_fields c.header_of.result) (λ h. g.met.D.Disk.seen_now c.write_whole.new.disk h) c.in_err-finish_root.ensures.changes)

pub returns-clause-moments : goal.returns-clause-moments
returns-clause-moments g c = λ k at was.
    let new = c.copy_root.new.root in
    let s = c.geometry-geometry.result.shape in
    let first = c.in_ok-write_whole.ensures in
    let here = awaits-known {K = g.row.K} k c.args.state.now c.turn.new.self s new c.geometry-geometry.ensures.shape c.turn.ensures c.copy_root.ensures.fields at in
    let next = awaits-root {K = g.row.K} k c.args.state.now c.turn.new.self s new c.geometry-geometry.ensures.shape c.turn.ensures c.copy_root.ensures.fields at c.header_of.result c.header_of.ensures c.copy_root.ensures.root in
    shown-then {K = g.row.K} {D = g.row.D.Denot} g.D.Disk (with_tried k (Some (whole_of {K = g.row.K} new))) first.changes.honest (first.moments k (Some (whole_of {K = g.row.K} new)) here was)
    (c.in_ok-finish_root.ensures.moments g.row.K k (whole_of {K = g.row.K} new) next (λ h. first.written (sym first.changes.honest ∙ h)) (first.kept k here was))

pub returns-clause-rooted : goal.returns-clause-rooted
returns-clause-rooted g c = λ k at was.
    let new = c.copy_root.new.root in
    let s = c.geometry-geometry.result.shape in
    let first = c.in_ok-write_whole.ensures in
    let here = awaits-known {K = g.row.K} k c.args.state.now c.turn.new.self s new c.geometry-geometry.ensures.shape c.turn.ensures c.copy_root.ensures.fields at in
    let next = awaits-root {K = g.row.K} k c.args.state.now c.turn.new.self s new c.geometry-geometry.ensures.shape c.turn.ensures c.copy_root.ensures.fields at c.header_of.result c.header_of.ensures c.copy_root.ensures.root in
    c.in_ok-finish_root.ensures.rooted g.row.K k (whole_of {K = g.row.K} new) next (λ h. first.written (sym first.changes.honest ∙ h)) (first.kept k here was)

pub returns-clause-changes : goal.returns-clause-changes
returns-clause-changes g c =
    keeps-then {D = g.row.D.Denot} c.in_ok-write_whole.ensures.changes
    (header-keeps {D = g.row.D.Denot} (model_fields c.header_of.result) (λ h. g.met.D.Disk.seen_now c.write_whole.new.disk h) c.in_ok-finish_root.ensures.changes)
