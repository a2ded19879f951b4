use Rattle.std.proofs.Common.{◌≤◌, ◌∙◌, ℕ, sym, ap, arith, length, take, drop}
use Rattle.std.proofs.lemmas.Result.{on_ok_weaker}
use Rattle.grid_types.specs.Shapes.{header_page, root_fields_at}
use Rattle.disk_trait.proofs.Pages.{part_written}
use Rattle.file_roots.proofs.Headers.{header_two, fields_are}
use Rattle.file_roots.proofs.header.write_fields.Goals as goal

pub returns-clause-fields : goal.returns-clause-fields
returns-clause-fields g c = λ h.
    let header = header_page c.args.fields.now.number in
    let seen = g.D.Disk.seen c.args.disk.now in
    let end = g.D.Disk.seen c.write_on_header.new.disk in
    let low : root_fields_at header ≤ length seen = omega (arith, header_two c.args.fields.now.number, c.requires.size, g.met.D.Disk.whole c.args.disk.now h) in
    on_ok_weaker _ (λ w. fields_are end header ∙ ap (λ (n : ℕ). take n (drop (root_fields_at header) end)) (sym c.encode_fields.array_long) ∙ part_written seen (root_fields_at header) c.encode_fields.new.bytes end low w ∙ c.encode_fields.ensures) (c.write_on_header.ensures.written h)
