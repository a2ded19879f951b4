use Rattle.std.proofs.Common.{◌<◌, ◌∙◌, false, length, sym, arith}
use Rattle.std.proofs.lemmas.List.{get_or_read}
use Rattle.file_roots.proofs.Marking.{mark_more, marked_twice}
use Rattle.file_roots.proofs.gathering.mark.Goals as goal

pub returns-then-index-clause-refused : goal.returns-then-index-clause-refused
returns-then-index-clause-refused c = λ named more m no lt distinct.
    marked_twice c.args.marks.now.items named more c.args.page (sym (get_or_read c.args.marks.now.items c.args.page c.index.result.now lt c.index.ensures false) ∙ c.if-index.true) m distinct

pub returns-clause-marked : goal.returns-clause-marked
returns-clause-marked c = λ named m yes.
    let lt : c.args.page < length c.args.marks.now.items = omega (arith, c.if-at-len.false, c.len.ensures) in
    mark_more c.args.marks.now.items named c.args.page lt (sym (get_or_read c.args.marks.now.items c.args.page c.index.result.now lt c.index.ensures false) ∙ c.if-index.false) m
