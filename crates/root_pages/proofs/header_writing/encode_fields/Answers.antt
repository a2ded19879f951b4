use Rattle.std.proofs.Common.{◌++◌, ◌∙◌, ℕ, List, take, ap, sym, arith}
use Rattle.std.proofs.lemmas.List.{take_all}
use Rattle.page_fields.specs.Padded.{padded, numbers}
use Rattle.root_pages.specs.Fields.{model_fields}
use Rattle.root_pages.proofs.Shapes.{fields_written}
use Rattle.root_pages.proofs.header_writing.encode_fields.Goals as goal

pub returns : goal.returns
returns c =
    sym (take_all 56 c.put_u32-2.new.bytes (omega (arith, c.put_u32-2.array_long)))
    ∙ fields_written (model_fields c.args.fields.now) _ _ _ _ _ _ _ c.put_u64.ensures c.put_u64-2.ensures c.put_u64-3.ensures c.put_u64-4.ensures (c.put_counts.ensures ∙ ap (λ (ns : List ℕ). take 32 c.put_u64-4.new.bytes ++ padded 16 (numbers 4 ns)) c.as_slice.ensures.value) c.put_u32.ensures c.put_u32-2.ensures
