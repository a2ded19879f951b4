use Rattle.std.proofs.Common.{◌<◌, ◌∙◌, arith}
use Rattle.grid_types.specs.Shapes.{header_page, area_pages}
use Rattle.grid_model.specs.Images.{area_spelling}
use Rattle.disk_trait.proofs.Calls.{changes_none, changes_then}
use Rattle.disk_trait.proofs.Pages.{agrees_same, agrees_then}
use Rattle.linear_scales.specs.Roots.{area_of}
use Rattle.file_roots.proofs.Headers.{header_two}
use Rattle.file_roots.proofs.Areas.{page_in_area, pages_more}
use Rattle.file_roots.proofs.Sections.{awaits_area, ready_at_area}
use Rattle.file_roots.proofs.area_pages.write_area.Goals as goal

pub loop-i-init : goal.loop-i-init
loop-i-init g c = record { changes = changes_none (agrees_same _ _) (λ k h left. g.met.D.Disk.only_now c.args.disk.now k h left); pages = λ h k lt. absurd (omega arith) }

pub returns-in_err-write_area_page-clause-changes : goal.returns-in_err-write_area_page-clause-changes
returns-in_err-write_area_page-clause-changes g c =
    let s = c.args.geometry.now.shape in
    let lt : c.loop-i.i < area_pages s = omega (arith, c.loop-i-test.true, c.area_pages-i-end.ensures.value) in
    changes_then (λ x y a. a) (λ x y z a b. agrees_then _ _ x y z a (page_in_area s c.args.root.now.number c.loop-i.i y z lt b)) c.loop-i.invariant.changes c.in_err-write_area_page.ensures.changes

pub loop-i-preserved : goal.loop-i-preserved
loop-i-preserved g c =
    let s = c.args.geometry.now.shape in
    let area = header_page c.args.root.now.number in
    let two = header_two c.args.root.now.number in
    let lt : c.loop-i.i < area_pages s = omega (arith, c.loop-i-test.true, c.area_pages-i-end.ensures.value) in
    let was = c.loop-i.invariant in
    let now = c.in_ok-write_area_page.ensures in
    record {
      changes = changes_then (λ x y a. a) (λ x y z a b. agrees_then _ _ x y z a (page_in_area s c.args.root.now.number c.loop-i.i y z lt b)) was.changes now.changes;
      pages = λ h. pages_more s area c.loop-i.i (area_spelling c.args.root.now.number (area_of c.args.root.now)) _ _ two (was.pages h) (now.changes.outside (was.changes.honest ∙ h)) (now.written (was.changes.honest ∙ h));
    }

pub returns-in_err-write_area_page-clause-awaits : goal.returns-in_err-write_area_page-clause-awaits
returns-in_err-write_area_page-clause-awaits g c = λ old w. awaits_area c.args.geometry.now.shape c.args.geometry.now.lawful c.args.root.now.number old (returns-in_err-write_area_page-clause-changes g c) w

pub returns-in_err-write_area_page-clause-ready : goal.returns-in_err-write_area_page-clause-ready
returns-in_err-write_area_page-clause-ready g c = λ old w. ready_at_area c.args.geometry.now.shape c.args.geometry.now.lawful c.args.root.now.number old (returns-in_err-write_area_page-clause-changes g c) w

pub returns-clause-awaits : goal.returns-clause-awaits
returns-clause-awaits g c = λ old w. awaits_area c.args.geometry.now.shape c.args.geometry.now.lawful c.args.root.now.number old c.loop-i.invariant.changes w

pub returns-clause-ready : goal.returns-clause-ready
returns-clause-ready g c = λ old w. ready_at_area c.args.geometry.now.shape c.args.geometry.now.lawful c.args.root.now.number old c.loop-i.invariant.changes w
