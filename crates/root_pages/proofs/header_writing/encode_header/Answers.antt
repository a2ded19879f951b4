use Rattle.std.proofs.Common.{◌≡◌, ◌∙◌, ap, sym, arith, take, [], refl, ℕ, List, slice_index}
use Rattle.page_fields.proofs.Joining.{filled_up}
use Rattle.root_pages.proofs.Shapes.{shape_fields, shape_written, header_is, header_front, header_closed}
use Rattle.root_pages.proofs.header_writing.encode_header.Goals as goal

pub returns-clause-written : goal.returns-clause-written
returns-clause-written c =
    let s = c.args.geometry.now.shape in
    let known : take 32 c.set_u32-4.new.page ≡ shape_fields s = shape_written s _ _ _ _ _ _ _ _ _ c.put_bytes.ensures.front c.set_u16.ensures.front c.put_bytes-2.ensures.front c.set_u16-2.ensures.front c.put_bytes-3.ensures.front c.set_u32.ensures.front c.set_u32-2.ensures.front c.set_u32-3.ensures.front c.set_u32-4.ensures.front in
    filled_up 4096 32 0 [] (shape_fields s) c.set_u32-4.new.page c.put_zeros.new.page known refl (omega (arith, c.set_u32-4.array_long)) (omega arith) c.put_zeros.ensures.front c.put_zeros.array_long ∙ sym (header_is s)

pub returns-clause-front : goal.returns-clause-front
returns-clause-front c = ap (take 64) (returns-clause-written c) ∙ header_front c.args.geometry.now.shape

pub returns-clause-closed : goal.returns-clause-closed
returns-clause-closed c = ap (λ (p : List ℕ). slice_index p 64) (returns-clause-written c) ∙ header_closed c.args.geometry.now.shape
