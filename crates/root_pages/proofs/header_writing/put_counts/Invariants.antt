use Rattle.std.proofs.Common.{◌≡◌, ◌+◌, ◌*◌, ◌++◌, take}
use Rattle.page_fields.specs.Padded.{numbers}
use Rattle.root_pages.proofs.header_writing.put_counts.Given as goal

abbrev pub invariant-loop-a : goal.invariant-loop-a
invariant-loop-a l = take (32 + 4 * l.a) l.bytes ≡ take 32 l.initial.bytes ++ numbers 4 (take l.a l.counts)
