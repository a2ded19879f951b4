use Rattle.std.proofs.Common.{◌≡◌, ◌∙◌, sym, ap, ℕ, List, ◌++◌, append_assoc, codes, replicate, take}
use Rattle.page_fields.specs.Fields.{bytes_of}
use Rattle.directory_pages.proofs.Standing.{head_is}
use Rattle.directory_pages.proofs.writing.put_head.Goals as goal

pub returns : goal.returns
returns c = record {
  front =
      let p = c.args.part in
      let n = c.args.count in
      let kind : take 4 c.put_bytes.new.page ≡ codes "GFD1" = c.put_bytes.ensures.front in
      let fields : take 96 c.put_zeros.new.page ≡ ((codes "GFD1" ++ bytes_of 4 p) ++ bytes_of 4 n) ++ replicate 84 0 = c.put_zeros.ensures.front
      ∙ ap (λ (f : List ℕ). f ++ replicate 84 0) (c.set_u32-2.ensures.front ∙ ap (λ (f : List ℕ). f ++ bytes_of 4 n) (c.set_u32.ensures.front ∙ ap (λ (f : List ℕ). f ++ bytes_of 4 p) kind)) in
      let joined : ((codes "GFD1" ++ bytes_of 4 p) ++ bytes_of 4 n) ++ replicate 84 0 ≡ codes "GFD1" ++ (bytes_of 4 p ++ (bytes_of 4 n ++ replicate 84 0)) = simp append_assoc in
      fields ∙ joined ∙ sym (head_is p n);
}
