use Rattle.std.proofs.Common.{◌≡◌, ◌<◌, ◌∙◌, ℕ, List, length, get_or, ap, sym, subst, arith}
use Rattle.std.proofs.lemmas.List.{length-map}
use Rattle.page_fields.proofs.Steps.{push_each}
use Rattle.grid_model.specs.Lawful.{pages_named}
use Rattle.grid_model.specs.Scales.{scale_of}
use Rattle.linear_scales.specs.Limited.{scales_of}
use Rattle.file_roots.proofs.Counting.{lengths_filled}
use Rattle.file_roots.proofs.root.fields.Goals as goal

pub loop-a-preserved : goal.loop-a-preserved
loop-a-preserved g c =
    let Stands : ℕ → ℕ → Type 0 = λ k n. n ≡ length (scale_of (scales_of c.args.root.now.scales) k) in
    let count = length c.boundaries.result.now in
    let here : Stands (length c.loop-a.boundaries.items) count = subst (λ k. Stands k count) (sym c.loop-a.invariant.count) (ap length (c.boundaries.ensures.value ∙ c.scale.ensures.boundaries)) in
    record {
      count = omega (arith, c.push.ensures.len, c.loop-a.invariant.count);
      each = subst (λ (xs : List ℕ). (k d : ℕ) → k < length xs → Stands k (get_or xs k d)) (sym c.push.ensures.items) (push_each Stands c.loop-a.boundaries.items count c.loop-a.invariant.each here);
    }

pub returns : goal.returns
returns g c =
    let root = c.args.root.now in
    let all : length c.loop-a.boundaries.items ≡ length (scales_of root.scales) = omega (arith, c.loop-a.invariant.count, c.loop-a-test.false, c.loop-a.auto.a-end, c.requires.count, length-map root.scales (λ s. s.boundaries)) in
    let boundaries = lengths_filled (scales_of root.scales) c.loop-a.boundaries.items all (λ k lt. c.loop-a.invariant.each k 0 lt) in
    let parts = ap length c.list.ensures.value in
    let buckets = c.count_named.ensures.value ∙ ap (λ (t : List ℕ). length (pages_named t)) c.list-2.ensures.value in
    λ i. record { number = root.number; session = root.session; front = root.front; records = root.records; boundaries = boundaries i; parts = parts i; buckets = buckets i }
