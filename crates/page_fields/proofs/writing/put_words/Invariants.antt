use Rattle.std.proofs.Common.{◌≡◌, take}
use Rattle.page_fields.specs.Fields.{replaced}
use Rattle.page_fields.specs.Padded.{numbers}
use Rattle.page_fields.proofs.writing.put_words.Given as goal

abbrev pub invariant-loop-i : goal.invariant-loop-i
invariant-loop-i l = l.page ≡ replaced l.at (numbers 4 (take l.i l.words)) l.initial.page
