use Rattle.std.proofs.Common.{◌≡◌, ◌∙◌, ◌+◌, ap, sym, ℕ, List, ◌++◌, length, append_assoc, codes, replicate, take, arith}
use Rattle.grid_types.specs.Halves.{half_number}
use Rattle.page_fields.specs.Fields.{bytes_of}
use Rattle.page_fields.proofs.Joining.{filled_up}
use Rattle.journal_slots.proofs.GatePages.{gate_head, gate_head_is, gate_page_is, length-gate_head}
use Rattle.journal_slots.proofs.gates.encode_gates.Goals as goal

pub returns : goal.returns
returns c =
    let h = half_number c.args.half in
    let gates = c.args.gates.now in
    let kind : take 4 c.put_bytes.new.page ≡ codes "GFG1" = c.put_bytes.ensures.front in
    let fields : take 96 c.put_zeros.new.page ≡ (codes "GFG1" ++ bytes_of 4 h) ++ replicate 88 0 = c.put_zeros.ensures.front
    ∙ ap (λ (f : List ℕ). f ++ replicate 88 0) (c.set_u32.ensures.front ∙ ap (λ (n : ℕ). take 4 c.put_bytes.new.page ++ bytes_of 4 n) c.number.ensures ∙ ap (λ (f : List ℕ). f ++ bytes_of 4 h) kind) in
    let joined : (codes "GFG1" ++ bytes_of 4 h) ++ replicate 88 0 ≡ codes "GFG1" ++ (bytes_of 4 h ++ replicate 88 0) = simp append_assoc in
    let front : take 96 c.put_zeros.new.page ≡ gate_head h = fields ∙ joined ∙ sym (gate_head_is h) in
    let known : take (96 + length gates) c.put_bytes-2.new.page ≡ gate_head h ++ gates = c.put_bytes-2.ensures.front ∙ ap (λ (f : List ℕ). f ++ gates) front in
    filled_up 4096 (96 + length gates) 96 (gate_head h) gates c.put_bytes-2.new.page c.put_zeros-2.new.page known (length-gate_head h) (omega (arith, c.put_bytes-2.array_long, c.requires)) (omega arith) c.put_zeros-2.ensures.front c.put_zeros-2.array_long
    ∙ sym (gate_page_is h gates)
