use Rattle.std.proofs.Common.{◌∙◌, sym}
use Rattle.std.proofs.lemmas.List.{take_rest}
use Rattle.file_roots.proofs.Slices.{take_until, drop_until, first_half, second_half}
use Rattle.file_roots.proofs.area_pages.half_of.Goals as goal

pub returns-then-half-eq0 : goal.returns-then-half-eq0
returns-then-half-eq0 c = take_until c.args.boundaries.now 500 _ c.min-middle.ensures ∙ sym (first_half c.args.half c.args.boundaries.now c.if-half-eq0.true)

pub returns-else-half-eq0 : goal.returns-else-half-eq0
returns-else-half-eq0 c = take_rest c.args.boundaries.now c.min-middle.result ∙ drop_until c.args.boundaries.now 500 _ c.min-middle.ensures ∙ sym (second_half c.args.half c.args.boundaries.now c.if-half-eq0.false)
