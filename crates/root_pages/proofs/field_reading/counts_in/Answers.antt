use Rattle.std.proofs.Common.{◌≡◌, ◌+◌, ◌*◌, ◌<◌, ℕ, List, drop, length, get_or, sym, subst, arith}
use Rattle.page_fields.specs.Fields.{number}
use Rattle.page_fields.proofs.Steps.{push_each}
use Rattle.root_pages.proofs.field_reading.counts_in.Goals as goal

pub loop-a-preserved : goal.loop-a-preserved
loop-a-preserved c =
    let Stands : ℕ → ℕ → Type 0 = λ k n. n ≡ number 4 (drop (104 + 4 * k) c.args.page.now) in
    let here : Stands (length c.loop-a.counts.items) c.get_u32.result = subst (λ k. Stands k c.get_u32.result) (sym c.loop-a.invariant.len) c.get_u32.ensures in
    record {
      len = omega (arith, c.push.ensures.len, c.loop-a.invariant.len);
      each = subst (λ (xs : List ℕ). (k d : ℕ) → k < length xs → Stands k (get_or xs k d)) (sym c.push.ensures.items) (push_each Stands c.loop-a.counts.items c.get_u32.result c.loop-a.invariant.each here);
    }
