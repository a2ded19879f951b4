use Rattle.std.proofs.Common.{◌*◌, ◌-◌, take, ap, ◌∙◌, arith}
use Rattle.grid_model.specs.Spellings.{bucket_table_spelling}
use Rattle.file_making.proofs.Entries.{entries_there}
use Rattle.file_making.proofs.area.encode_buckets.Goals as goal

pub returns : goal.returns
returns c =
    let from = 1000 * (c.args.index - 9) in
    let there = entries_there c.args.pages from c.min-count.result c.requires.some (omega (arith, c.min-count.ensures, c.saturating_sub.ensures)) in
    c.encode_table.ensures.written ∙ ap (bucket_table_spelling 0 c.args.index) (ap (take c.min-count.result) c.entries_from.ensures ∙ there)
