use Rattle.std.proofs.Common.{◌≡◌, ◌∙◌, ap, length, ◌*◌, ◌+◌, ◌++◌, arith, take, ℕ, List}
use Rattle.page_fields.specs.Padded.{padded, numbers}
use Rattle.page_fields.proofs.Joining.{filled_up}
use Rattle.grid_model.specs.Spellings.{page, area_head}
use Rattle.root_pages.specs.Areas.{entries_page}
use Rattle.root_pages.proofs.Heads.{length-head}
use Rattle.root_pages.proofs.area_writing.encode_pages.Goals as goal

pub returns : goal.returns
unfolding entries_page page numbers
returns c =
    let ps = c.args.pages.now in
    let n = length ps in
    let front = padded 96 (area_head c.args.kind.now c.args.index n c.args.root) in
    let known : take (96 + 4 * n) c.put_words.new.page ≡ front ++ numbers 4 ps = c.put_words.ensures.front ∙ ap (λ (f : List ℕ). f ++ numbers 4 ps) c.put_head.ensures in
    filled_up 4096 (96 + 4 * n) 96 front (numbers 4 ps) c.put_words.new.page c.put_zeros.new.page known (length-head c.args.kind.now c.args.index n c.args.root c.told-kind) (omega (arith, c.put_words.array_long, c.requires)) (omega arith) c.put_zeros.ensures.front c.put_zeros.array_long
