use Rattle.std.proofs.Common.{ℕ, ◌∙◌, ◌+◌, ◌*◌, ◌^◌, arith, drop}
use Rattle.std.proofs.lemmas.List.{length-set, length-replicate}
use Rattle.page_fields.specs.Fields.{number}
use Rattle.page_fields.proofs.Steps.{set_below, set_each, zeros_fit}
use Rattle.page_fields.proofs.corner.get_corner.Goals as goal

pub loop-a-init : goal.loop-a-init
loop-a-init g c = record { len = length-replicate {A = ℕ} g.row.K 0; in_range = zeros_fit g.row.K; each = λ k h. absurd (omega arith) }

pub loop-a-preserved : goal.loop-a-preserved
loop-a-preserved g c = record {
  len = length-set c.loop-a.corner c.loop-a.a c.get_u64.result ∙ c.loop-a.invariant.len;
  in_range = set_below (2 ^ 64) c.loop-a.corner c.loop-a.a c.get_u64.result (omega arith) (omega arith) c.loop-a.invariant.in_range;
  each = set_each (λ k. number 8 (drop (c.args.at + 8 * k) c.args.page.now)) c.loop-a.corner c.loop-a.a c.get_u64.result (omega arith) c.loop-a.invariant.each c.get_u64.ensures;
}

pub returns : goal.returns
returns g c = record { count = c.loop-a.invariant.len; in_range = c.loop-a.invariant.in_range; each = λ a h. c.loop-a.invariant.each a (omega (arith, c.loop-a-test.false, h)) }
