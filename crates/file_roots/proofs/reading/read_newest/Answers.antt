use Rattle.std.proofs.Common.{◌+◌, ◌∙◌, sym, ap, arith}
use Rattle.grid_types.specs.Pages.{page_of}
use Rattle.disk_trait.proofs.Calls.{reads_then}
use Rattle.file_roots.proofs.Headers.{header_inside}
use Rattle.file_roots.proofs.Telling.{told_before, tells_more, tells_none}
use Rattle.file_roots.proofs.reading.read_newest.Goals as goal

pub read_page-requires : goal.read_page-requires
read_page-requires g c = omega (arith, header_inside c.args.geometry.now.shape 0 (g.D.Disk.extent c.args.disk.now) c.args.geometry.now.lawful (omega arith) c.requires.size)

pub read_page-requires-2 : goal.read_page-requires-2
read_page-requires-2 g c = omega (arith, header_inside c.args.geometry.now.shape 1 (g.D.Disk.extent c.args.disk.now) c.args.geometry.now.lawful (omega arith) c.requires.size, c.in_ok-read_page.ensures.same.extent)

pub returns-in_err-read_page-clause-tells : goal.returns-in_err-read_page-clause-tells
returns-in_err-read_page-clause-tells g c = λ h.
    tells_none c.args.geometry.now.shape c.args.geometry.now.lawful (g.D.Disk.seen c.args.disk.now) c.args.steps.now c.read_page.new.steps c.from_residual.result c.in_err-read_page.field-0.0 c.from_residual.ensures.1 c.in_err-read_page.ensures.causes.no_other (omega (arith, c.in_err-read_page.ensures.ticks))

pub returns-in_err-read_page-2-clause-tells : goal.returns-in_err-read_page-2-clause-tells
returns-in_err-read_page-2-clause-tells g c = λ h.
    tells_none c.args.geometry.now.shape c.args.geometry.now.lawful (g.D.Disk.seen c.args.disk.now) c.args.steps.now c.read_page-2.new.steps c.from_residual-in_err-read_page-2.result c.in_err-read_page-2.field-0.0 c.from_residual-in_err-read_page-2.ensures.1 c.in_err-read_page-2.ensures.causes.no_other (omega (arith, c.in_ok-read_page.ensures.ticks, c.in_err-read_page-2.ensures.ticks))

pub returns-clause-tells : goal.returns-clause-tells
returns-clause-tells g c = λ h.
    let s = c.args.geometry.now.shape in
    let seen = g.D.Disk.seen c.args.disk.now in
    let one = c.in_ok-read_page.ensures in
    let two = c.in_ok-read_page-2.ensures in
    tells_more s c.args.geometry.now.lawful seen c.args.steps.now c.read_page-2.new.steps c.read_newest_from.new.steps c.read_newest_from.result (omega (arith, one.ticks, two.ticks))
    (told_before g.D.Disk s c.read_page.new.out c.read_page-2.new.out c.read_page-2.new.steps (c.read_newest_from.new.steps + 2) c.read_newest_from.result (reads_then one.same two.same) h
    (record { zeroth_is = sym (one.bytes h); first_is = sym (two.bytes (one.same.honest ∙ h) ∙ ap (page_of 1) (one.same.seen h)) })
    c.read_newest_from.ensures.tells)
