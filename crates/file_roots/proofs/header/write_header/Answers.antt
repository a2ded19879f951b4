use Rattle.std.proofs.Common.{◌≤◌, ◌∙◌, ◌∷◌, [], inl, sym, subst, arith, length}
use Rattle.std.proofs.lemmas.Result.{on_ok_weaker}
use Rattle.grid_types.specs.Shapes.{header_page, header_gate_at, root_fields_at}
use Rattle.root_pages.specs.Fields.{model_fields}
use Rattle.disk_trait.specs.Disk.{Holds}
use Rattle.disk_trait.specs.Calls.{Changes}
use Rattle.grid_model.specs.Roots.{IsNewestWhole}
use Rattle.file_roots.specs.Writing.{IsHeaderWritten, HeaderStep}
use Rattle.file_roots.proofs.Outcomes.{on_err}
use Rattle.file_roots.proofs.Exchange.{kept_is_older, newest_once_written}
use Rattle.disk_trait.proofs.Calls.{changes_wider}
use Rattle.disk_trait.proofs.Pages.{byte_written}
use Rattle.file_roots.proofs.Headers.{header_two, header_inside, gate_is, gate_stays}
use Rattle.file_roots.proofs.Sections.{FieldsFirst, opening, header_written, replaceable_at_header, again_header}
use Rattle.file_roots.proofs.header.write_header.Goals as goal

pub write_fields-requires : goal.write_fields-requires
write_fields-requires g c = record { size = omega (arith, header_inside c.args.geometry.now.shape 1 (g.D.Disk.extent c.args.disk.now) c.args.geometry.now.lawful (omega arith) c.requires.size) }

pub write_on_header-requires-clause-size : goal.write_on_header-requires-clause-size
write_on_header-requires-clause-size g c = omega (arith, header_inside c.args.geometry.now.shape 1 (g.D.Disk.extent c.args.disk.now) c.args.geometry.now.lawful (omega arith) c.requires.size, c.in_ok-write_fields.ensures.changes.extent)

pub returns-in_err-write_fields-clause-changes : goal.returns-in_err-write_fields-clause-changes
returns-in_err-write_fields-clause-changes g c = changes_wider (λ x y one. inl one) c.in_err-write_fields.ensures.changes

pub returns-in_err-write_fields-clause-fields_first : goal.returns-in_err-write_fields-clause-fields_first
returns-in_err-write_fields-clause-fields_first g c = λ h other.
    let header = header_page c.args.fields.now.number in
    absurd (other (gate_stays (root_fields_at header) 56 header _ _ (inl (omega arith)) (c.in_err-write_fields.ensures.changes.outside h)))

pub returns-clause-written : goal.returns-clause-written
returns-clause-written g c = λ h.
    let fields = model_fields c.args.fields.now in
    let header = header_page fields.number in
    let first = c.in_ok-write_fields.ensures in
    let told = first.changes.honest ∙ h in
    let mid = g.D.Disk.seen c.write_fields.new.disk in
    let end = g.D.Disk.seen c.write_on_header.new.disk in
    let low : header_gate_at header ≤ length mid = omega (arith, header_inside c.args.geometry.now.shape header (g.D.Disk.extent c.args.disk.now) c.args.geometry.now.lawful (header_two fields.number) c.requires.size, first.changes.extent, g.met.D.Disk.whole c.write_fields.new.disk told) in
    let opens = opening fields first.changes first.durable first.fields c.write_on_header.ensures.changes (g.met.D.Disk.seen_now c.write_fields.new.disk) in
    let done : Holds mid (header_gate_at header) (1 ∷ []) end → IsHeaderWritten fields (g.D.Disk.seen c.args.disk.now) end = λ w. record { written = opens.outside told; opened = gate_is end header ∙ byte_written mid (header_gate_at header) 1 end low w } in
    on_ok_weaker _ done (c.write_on_header.ensures.written told)

pub returns-clause-changes : goal.returns-clause-changes
returns-clause-changes g c =
    let first = c.in_ok-write_fields.ensures in
    header_written (model_fields c.args.fields.now) first.changes first.durable first.fields c.write_on_header.ensures.changes (g.met.D.Disk.seen_now c.write_fields.new.disk)

pub returns-clause-fields_first : goal.returns-clause-fields_first
returns-clause-fields_first g c = λ h other d now.
    let first = c.in_ok-write_fields.ensures in
    let opens = opening (model_fields c.args.fields.now) first.changes first.durable first.fields c.write_on_header.ensures.changes (g.met.D.Disk.seen_now c.write_fields.new.disk) in
    let from = opens.crash (first.changes.honest ∙ h) d now in
    from.2

pub returns-in_err-write_fields-clause-replaceable : goal.returns-in_err-write_fields-clause-replaceable
returns-in_err-write_fields-clause-replaceable g c = λ old new w.
    let step = subst (λ f. Changes g.D.Disk (HeaderStep f (g.D.Disk.seen c.args.disk.now)) c.args.disk.now c.write_fields.new.disk) (sym w.fields_are) (returns-in_err-write_fields-clause-changes g c) in
    replaceable_at_header c.args.geometry.now.shape c.args.geometry.now.lawful new w.lawful old (g.met.D.Disk.seen_now c.args.disk.now) step w.awaits w.area

pub returns-in_err-write_fields-clause-again : goal.returns-in_err-write_fields-clause-again
returns-in_err-write_fields-clause-again g c = λ old new w.
    let step = subst (λ f. Changes g.D.Disk (HeaderStep f (g.D.Disk.seen c.args.disk.now)) c.args.disk.now c.write_fields.new.disk) (sym w.fields_are) (returns-in_err-write_fields-clause-changes g c) in
    let fields_first = subst (FieldsFirst g.D.Disk c.args.disk.now c.write_fields.new.disk) (sym w.fields_are) (returns-in_err-write_fields-clause-fields_first g c w.awaits.honest) in
    on_err c.from_residual.result (again_header c.args.geometry.now.shape c.args.geometry.now.lawful new w.lawful old (g.met.D.Disk.seen_now c.args.disk.now) step w.awaits w.area fields_first)

pub returns-clause-replaceable : goal.returns-clause-replaceable
returns-clause-replaceable g c = λ old new w.
    let step = subst (λ f. Changes g.D.Disk (HeaderStep f (g.D.Disk.seen c.args.disk.now)) c.args.disk.now c.write_on_header.new.disk) (sym w.fields_are) (returns-clause-changes g c) in
    replaceable_at_header c.args.geometry.now.shape c.args.geometry.now.lawful new w.lawful old (g.met.D.Disk.seen_now c.args.disk.now) step w.awaits w.area

pub returns-clause-again : goal.returns-clause-again
returns-clause-again g c = λ old new w.
    let step = subst (λ f. Changes g.D.Disk (HeaderStep f (g.D.Disk.seen c.args.disk.now)) c.args.disk.now c.write_on_header.new.disk) (sym w.fields_are) (returns-clause-changes g c) in
    let fields_first = subst (FieldsFirst g.D.Disk c.args.disk.now c.write_on_header.new.disk) (sym w.fields_are) (returns-clause-fields_first g c w.awaits.honest) in
    on_err c.write_on_header.result (again_header c.args.geometry.now.shape c.args.geometry.now.lawful new w.lawful old (g.met.D.Disk.seen_now c.args.disk.now) step w.awaits w.area fields_first)

pub returns-clause-newest : goal.returns-clause-newest
returns-clause-newest g c = λ old new w.
    let s = c.args.geometry.now.shape in
    let seen = g.D.Disk.seen c.args.disk.now in
    let end = g.D.Disk.seen c.write_on_header.new.disk in
    let older = kept_is_older s new.fields.number old seen w.awaits.next (w.awaits.each seen (g.met.D.Disk.seen_now c.args.disk.now w.awaits.honest)).keeps in
    let done : IsHeaderWritten (model_fields c.args.fields.now) seen end → IsNewestWhole s new end = λ written. newest_once_written s c.args.geometry.now.lawful new w.lawful seen end w.area older (subst (λ f. IsHeaderWritten f seen end) (sym w.fields_are) written) in
    on_ok_weaker _ done (returns-clause-written g c w.awaits.honest)
