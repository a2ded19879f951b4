use Rattle.std.proofs.Common.{◌+◌, ◌*◌, ◌<◌, ℕ, List, [], ◌∷◌, length, get_or, arith, subst, sym}
use Rattle.grid_types.specs.declared.sizes.TheConstants.{HEAD_BYTES, UPDATE_BYTES}
use Rattle.grid_types.specs.declared.layout_change.LoggedUpdate.{LoggedUpdate}
use Rattle.page_fields.proofs.Steps.{push_each}
use Rattle.journal_slots.specs.Reading.{NotedAt, UpdatesAt}
use Rattle.journal_slots.proofs.reading.read_updates.Goals as goal

-- some update stands where there is one
one_there : (K : ℕ) (page : List ℕ) (us : List (LoggedUpdate K)) (i : ℕ) → UpdatesAt K page us → i < length us → ((u : LoggedUpdate K) → NotedAt K page (HEAD_BYTES + UPDATE_BYTES * i) u → ⊥) → ⊥
one_there K page [] i each lt none = omega (arith, lt)
one_there K page (u ∷ us) i each lt none = none (get_or (u ∷ us) i u) (each i u lt)

pub returns-in_default-clause-none : goal.returns-in_default-clause-none
returns-in_default-clause-none g c = λ no us count each. one_there g.row.K c.args.page.now us c.loop-i.i each (omega (arith, count)) c.in_default.ensures.none

pub loop-i-preserved : goal.loop-i-preserved
loop-i-preserved g c =
    let P : ℕ → LoggedUpdate g.row.K → Type 0 = λ i u. NotedAt g.row.K c.args.page.now (HEAD_BYTES + UPDATE_BYTES * i) u in
    record {
      len = omega (arith, c.push.ensures.len, c.loop-i.invariant.len);
      updates = subst (λ (us : List (LoggedUpdate g.row.K)). UpdatesAt g.row.K c.args.page.now us) (sym c.push.ensures.items)
          (push_each P c.loop-i.updates.items c.in-Some.noted c.loop-i.invariant.updates (subst (λ (n : ℕ). P n c.in-Some.noted) (sym c.loop-i.invariant.len) c.in-Some.ensures.found));
    }
