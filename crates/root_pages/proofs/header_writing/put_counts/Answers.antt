use Rattle.std.proofs.Common.{◌≡◌, ◌∙◌, length, ◌+◌, ◌-◌, ◌*◌, get_or, replicate, ◌++◌, ap, sym, arith, take, List, ℕ, append_assoc}
use Rattle.std.proofs.lemmas.List.{take_all, append-nil}
use Rattle.page_fields.specs.Fields.{bytes_of}
use Rattle.page_fields.specs.Padded.{numbers}
use Rattle.page_fields.proofs.BytesOf.{numbers_none, numbers_more, padded_is, length-numbers}
use Rattle.root_pages.proofs.header_writing.put_counts.Goals as goal

pub loop-a-init : goal.loop-a-init
loop-a-init c = sym (ap (λ (w : List ℕ). take 32 c.args.bytes.now ++ w) (numbers_none 4) ∙ append-nil (take 32 c.args.bytes.now))

pub loop-a-preserved : goal.loop-a-preserved
loop-a-preserved c =
    let front = take 32 c.args.bytes.now in
    let end : 32 + 4 * (c.loop-a.a + 1) ≡ 32 + 4 * c.loop-a.a + 4 = omega arith in
    ap (λ (n : ℕ). take n c.put_u32.new.bytes) end
    ∙ c.put_u32.ensures
    ∙ ap (λ (f : List ℕ). f ++ bytes_of 4 (get_or c.args.counts.now c.loop-a.a 0)) c.loop-a.invariant
    ∙ append_assoc front (numbers 4 (take c.loop-a.a c.args.counts.now)) (bytes_of 4 (get_or c.args.counts.now c.loop-a.a 0))
    ∙ ap (λ (w : List ℕ). front ++ w) (numbers_more 4 c.args.counts.now c.loop-a.a 0 (omega (arith, c.loop-a-test.true)))

pub returns : goal.returns
returns c =
    let counts = c.args.counts.now in
    let front = take 32 c.args.bytes.now in
    let end : c.loop-a.a ≡ length c.args.counts.now = omega (arith, c.loop-a-test.false, c.loop-a.auto.a-end) in
    let all : take c.loop-a.a counts ≡ counts = take_all c.loop-a.a counts (omega (arith, end)) in
    let n = 48 - (32 + 4 * length c.args.counts.now) in
    c.clear.ensures
    ∙ ap (λ (f : List ℕ). f ++ replicate n 0) (ap (λ (a : ℕ). take (32 + 4 * a) c.loop-a.bytes) (sym end) ∙ c.loop-a.invariant ∙ ap (λ (cs : List ℕ). front ++ numbers 4 cs) all)
    ∙ append_assoc front (numbers 4 counts) (replicate n 0)
    ∙ ap (λ (w : List ℕ). front ++ w) (padded_is 16 n (numbers 4 counts) (omega (arith, length-numbers 4 counts, c.requires)))
