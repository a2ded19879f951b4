use Rattle.std.proofs.Common.{◌≡◌, ◌∙◌, ap, length, ◌*◌, ◌+◌, ◌++◌, arith, take, codes, refl, ℕ, List}
use Rattle.page_fields.specs.Padded.{padded, numbers}
use Rattle.page_fields.proofs.Joining.{filled_up}
use Rattle.grid_model.specs.Spellings.{page, area_head, scale_spelling}
use Rattle.root_pages.proofs.Heads.{length-head}
use Rattle.root_pages.proofs.area_writing.encode_scale.Goals as goal

pub returns-clause-written : goal.returns-clause-written
unfolding scale_spelling page
returns-clause-written c =
    let bs = c.args.boundaries.now in
    let n = length bs in
    let front = padded 96 (area_head (codes "GFS1") c.args.index n c.args.root) in
    let known : take (96 + 8 * n) c.put_numbers.new.page ≡ front ++ numbers 8 bs = c.put_numbers.ensures.front ∙ ap (λ (f : List ℕ). f ++ numbers 8 bs) c.put_head.ensures in
    filled_up 4096 (96 + 8 * n) 96 front (numbers 8 bs) c.put_numbers.new.page c.put_zeros.new.page known (length-head (codes "GFS1") c.args.index n c.args.root refl) (omega (arith, c.put_numbers.array_long, c.requires)) (omega arith) c.put_zeros.ensures.front c.put_zeros.array_long

pub returns-clause-spelled : goal.returns-clause-spelled
returns-clause-spelled c = record { root_in_range = omega arith; index_in_range = omega arith; in_range = λ i. omega (arith, c.type_inv.boundaries i); few = c.requires; bytes = returns-clause-written c }
