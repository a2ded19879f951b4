use Rattle.std.proofs.Common.{◌≡◌, ◌∙◌, ap, length, ◌*◌, ◌+◌, ◌++◌, arith, take, ℕ, List}
use Rattle.page_fields.specs.Padded.{numbers}
use Rattle.page_fields.proofs.Joining.{filled_up}
use Rattle.grid_model.specs.Spellings.{page, directory_spelling}
use Rattle.directory_pages.specs.Spelling.{part_head}
use Rattle.directory_pages.proofs.Standing.{length-head}
use Rattle.directory_pages.proofs.writing.encode.Goals as goal

pub returns-clause-written : goal.returns-clause-written
unfolding directory_spelling page part_head
returns-clause-written c =
    let cells = c.args.cells.now in
    let n = length cells in
    let front = part_head c.args.part n in
    let known : take (96 + 4 * n) c.put_words.new.page ≡ front ++ numbers 4 cells = c.put_words.ensures.front ∙ ap (λ (f : List ℕ). f ++ numbers 4 cells) c.put_head.ensures.front in
    filled_up 4096 (96 + 4 * n) 96 front (numbers 4 cells) c.put_words.new.page c.put_zeros.new.page known (length-head c.args.part n) (omega (arith, c.put_words.array_long, c.requires.few)) (omega arith) c.put_zeros.ensures.front c.put_zeros.array_long

pub returns-clause-spelled : goal.returns-clause-spelled
returns-clause-spelled c = record { part_in_range = omega arith; in_range = λ i. omega (arith, c.type_inv.cells i); few = c.requires.few; bytes = returns-clause-written c }
