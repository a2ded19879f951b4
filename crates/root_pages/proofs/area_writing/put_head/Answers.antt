use Rattle.std.proofs.Common.{◌≡◌, ◌∙◌, ◌+◌, ap, ℕ, length, take, arith}
use Rattle.root_pages.proofs.Heads.{head_written}
use Rattle.root_pages.proofs.area_writing.put_head.Goals as goal

pub returns : goal.returns
returns c =
    let four : length c.args.kind.now ≡ 4 = c.told-kind in
    let end : 4 ≡ 0 + length c.args.kind.now = omega (arith, four) in
    let first : take 4 c.put_bytes.new.page ≡ c.args.kind.now = ap (λ (n : ℕ). take n c.put_bytes.new.page) end ∙ c.put_bytes.ensures.front in
    head_written c.args.kind.now c.args.index c.args.count c.args.root _ _ _ _ _ _ four first c.set_u32.ensures.front c.set_u32-2.ensures.front c.put_zeros.ensures.front c.set_u64.ensures.front c.put_zeros-2.ensures.front
