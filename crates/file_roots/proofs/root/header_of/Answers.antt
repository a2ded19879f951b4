use Rattle.std.proofs.Common.{rules, arith}
use Rattle.root_pages.proofs.Roots.{few_attributes}
use Rattle.file_roots.proofs.Writing.{lengths}
use Rattle.file_roots.proofs.root.header_of.Goals as goal

pub fields-requires : goal.fields-requires
fields-requires g c =
    let l = lengths c.args.geometry.now.shape c.args.root.now c.args.geometry.now.lawful c.requires.attributes c.requires.root in
    let few = few_attributes c.args.geometry.now.shape g.row.K c.args.geometry.now.lawful c.requires.attributes in
    (search rules, (few, (l.scales, (omega (arith, l.parts), omega (arith, l.numbers)))))
