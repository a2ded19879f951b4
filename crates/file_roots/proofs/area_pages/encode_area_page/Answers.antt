use Rattle.std.proofs.Common.{◌-◌, ◌*◌, ◌/◌, ◌%◌, drop, length, ap, arith}
use Rattle.std.proofs.lemmas.List.{length-take}
use Rattle.file_roots.proofs.Slices.{half_fits}
use Rattle.file_roots.proofs.area_pages.encode_area_page.Goals as goal

pub encode_scale-requires : goal.encode_scale-requires
encode_scale-requires g c =
    let few = half_fits (c.args.i % 2) c.boundaries_of-boundaries.result.now (omega (arith, ap length c.boundaries_of-boundaries.ensures, c.requires.boundaries (c.args.i / 2))) in
    omega (arith, few, ap length c.half_of.ensures)

pub encode_table-requires : goal.encode_table-requires
encode_table-requires g c = omega (arith, ap length c.entries_on.ensures, length-take 1000 (drop (1000 * (c.args.i - 9)) c.list-else-i-eq8.result.now))
