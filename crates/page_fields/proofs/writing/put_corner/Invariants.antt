use Rattle.std.proofs.Common.{◌≡◌, take}
use Rattle.page_fields.specs.Fields.{replaced}
use Rattle.page_fields.specs.Padded.{numbers}
use Rattle.page_fields.proofs.writing.put_corner.Given as goal

abbrev pub invariant-loop-a : goal.invariant-loop-a
invariant-loop-a g l = l.page ≡ replaced l.at (numbers 8 (take l.a l.corner)) l.initial.page
