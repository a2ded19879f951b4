use Rattle.std.proofs.Common.{sym, ap, ◌∙◌, arith}
use Rattle.grid_types.specs.Shapes.{word_pages}
use Rattle.grid_model.specs.Lists.{product}
use Rattle.linear_scales.specs.Roots.{root_fields_of, area_of}
use Rattle.grid_check.proofs.RootLists.{part_low, parts_listed}
use Rattle.grid_check.proofs.judging.judge_directory.Goals as goal

pub first_bad_part-requires : goal.first_bad_part-requires
first_bad_part-requires g c =
    let s = c.args.geometry.now.shape in
    let root = c.args.root.now in
    let dims = ap product (sym c.requires.dims) in
    (omega (arith, c.requires.few), (c.requires.size, (parts_listed {K = g.row.K} s root c.requires.lawful ∙ ap word_pages dims, (part_low s (root_fields_of {K = g.row.K} root) (area_of {K = g.row.K} root) c.requires.lawful.area, c.requires.cells ∙ dims))))

pub first_bad_cell-requires : goal.first_bad_cell-requires
first_bad_cell-requires g c =
    let s = c.args.geometry.now.shape in
    let root = c.args.root.now in
    let dims = ap product (sym c.requires.dims) in
    (omega (arith, c.requires.few), (parts_listed {K = g.row.K} s root c.requires.lawful ∙ ap word_pages dims, (part_low s (root_fields_of {K = g.row.K} root) (area_of {K = g.row.K} root) c.requires.lawful.area, c.first_bad_part.ensures.cells ∙ c.requires.cells ∙ dims)))
