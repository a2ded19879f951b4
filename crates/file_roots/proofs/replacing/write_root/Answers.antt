use Rattle.std.proofs.Common.{◌∙◌, sym, subst}
use Rattle.std.specs.Prelude.{Some}
use Rattle.std.proofs.lemmas.Result.{on_ok_weaker}
use Rattle.grid_model.specs.Images.{IsOtherOlder}
use Rattle.linear_scales.specs.Roots.{root_fields_of, whole_of}
use Rattle.disk_trait.specs.Calls.{Changes}
use Rattle.disk_trait.proofs.Calls.{changes_wider}
use Rattle.disk_trait.proofs.Moments.{joined, weakened}
use Rattle.file_roots.specs.Writing.{IsHeaderWritten, HeaderStep}
use Rattle.file_roots.proofs.Outcomes.{on_err}
use Rattle.file_roots.proofs.Alone.{area_in_root, older_alone}
use Rattle.file_roots.proofs.Exchange.{ready_is_replaceable, newest_once_written}
use Rattle.file_roots.proofs.Sections.{may_again, root_changes}
use Rattle.file_roots.proofs.replacing.write_root.Goals as goal

pub returns-in_err-write_area-clause-replaceable : goal.returns-in_err-write_area-clause-replaceable
returns-in_err-write_area-clause-replaceable g c = λ old w.
    weakened g.D.Disk.moment g.D.Disk.left_since c.args.disk.now c.write_area.new.disk _ _ (c.in_err-write_area.ensures.ready old w) (λ i ready. ready_is_replaceable c.args.geometry.now.shape c.args.root.now.number old (Some (whole_of c.args.root.now)) i ready)

pub returns-in_err-write_area-clause-again : goal.returns-in_err-write_area-clause-again
returns-in_err-write_area-clause-again g c = λ old w.
    on_err c.from_residual.result (may_again c.args.geometry.now.shape c.args.root.now.number old (Some (whole_of c.args.root.now)) (λ h. g.met.D.Disk.seen_now c.write_area.new.disk h) (c.in_err-write_area.ensures.awaits old w))

pub returns-in_err-write_area-clause-changes : goal.returns-in_err-write_area-clause-changes
returns-in_err-write_area-clause-changes g c = changes_wider (area_in_root c.args.geometry.now.shape c.args.root.now.number) c.in_err-write_area.ensures.changes

pub returns-clause-replaceable : goal.returns-clause-replaceable
returns-clause-replaceable g c = λ old w.
    let s = c.args.geometry.now.shape in
    let new = whole_of c.args.root.now in
    let first = c.in_ok-write_area.ensures in
    joined g.D.Disk.moment g.D.Disk.left_since c.args.disk.now c.write_area.new.disk c.write_header.new.disk _ _ _ (first.ready old w)
    (c.write_header.ensures.replaceable old new (record { fields_are = sym c.header_of.ensures; lawful = c.requires.root.fields; area = first.written w.honest; awaits = first.awaits old w }))
    (λ i ready. ready_is_replaceable s new.fields.number old (Some new) i ready) (λ i is. is)

pub returns-clause-again : goal.returns-clause-again
returns-clause-again g c = λ old w.
    let new = whole_of c.args.root.now in
    let first = c.in_ok-write_area.ensures in
    c.write_header.ensures.again old new (record { fields_are = sym c.header_of.ensures; lawful = c.requires.root.fields; area = first.written w.honest; awaits = first.awaits old w })

pub returns-clause-newest : goal.returns-clause-newest
returns-clause-newest g c = λ h other.
    let s = c.args.geometry.now.shape in
    let lawful = c.args.geometry.now.lawful in
    let new = whole_of c.args.root.now in
    let number = new.fields.number in
    let first = c.in_ok-write_area.ensures in
    let start = g.D.Disk.seen c.args.disk.now in
    let mid = g.D.Disk.seen c.write_area.new.disk in
    let end = g.D.Disk.seen c.write_header.new.disk in
    let still : IsOtherOlder s number mid = older_alone s lawful number start mid (area_in_root s number start mid (first.changes.outside h)) other in
    on_ok_weaker _ (λ w. newest_once_written s lawful new c.requires.root.fields mid end (first.written h) still (subst (λ f. IsHeaderWritten f mid end) c.header_of.ensures w)) (c.write_header.ensures.written (first.changes.honest ∙ h))

pub returns-clause-changes : goal.returns-clause-changes
returns-clause-changes g c =
    let mid = c.write_area.new.disk in
    let step = subst (λ f. Changes g.D.Disk (HeaderStep f (g.D.Disk.seen mid)) mid c.write_header.new.disk) c.header_of.ensures c.write_header.ensures.changes in
    root_changes c.args.geometry.now.shape (root_fields_of c.args.root.now) (g.met.D.Disk.seen_now mid) c.in_ok-write_area.ensures.changes step
