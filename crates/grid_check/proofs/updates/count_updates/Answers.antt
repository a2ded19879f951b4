use Rattle.std.proofs.Common.{◌≡◌, ◌∙◌, List, length, flat_map, ap, subst, arith}
use Rattle.std.proofs.lemmas.List.{take_all}
use Rattle.grid_types.specs.declared.layout_change.LoggedUpdate.{LoggedUpdate}
use Rattle.grid_check.specs.Marks.{CountsRecords}
use Rattle.grid_check.proofs.Counted.{updates_of, updates_alike, batch_counts, batch_fits}
use Rattle.grid_check.proofs.updates.count_updates.Goals as goal

pub count_batch-left-requires : goal.count_batch-left-requires
count_batch-left-requires g c =
    let items = c.list-batch-items.result.now in
    let here : length c.as_slice.result.now ≡ length c.batch-item.result.updates.items = ap (λ (us : List (LoggedUpdate g.row.K)). length us) c.as_slice.ensures.value in
    let fits = batch_fits {K = g.row.K} items c.loop-batch.batch-index c.batch-item.result c.loop-batch-test.true c.batch-item.is in
    let all : length (updates_of {K = g.row.K} items) ≡ length (flat_map (λ b. b.updates) c.args.taken.now) = ap (λ (us : List (LoggedUpdate g.row.K)). length us) (updates_alike items c.args.taken.now c.list-batch-items.ensures) in
    let most = c.loop-batch.invariant.most in
    (omega (arith, c.requires.few), (omega (arith, c.requires.few), omega (arith, here, fits, all, most, c.requires.room)))

pub loop-batch-preserved : goal.loop-batch-preserved
loop-batch-preserved g c =
    batch_counts {K = g.row.K} c.list-batch-items.result.now c.loop-batch.batch-index c.batch-item.result c.loop-batch-test.true c.batch-item.is c.args.marks.now c.loop-batch.marks c.count_batch-left.new.marks c.args.records c.loop-batch.left c.count_batch-left.result
    c.loop-batch.invariant (subst (λ (us : List (LoggedUpdate g.row.K)). CountsRecords us c.loop-batch.marks c.count_batch-left.new.marks c.loop-batch.left c.count_batch-left.result) c.as_slice.ensures.value c.count_batch-left.ensures)

pub returns : goal.returns
returns g c =
    let items = c.list-batch-items.result.now in
    subst (λ (us : List (LoggedUpdate g.row.K)). CountsRecords us c.args.marks.now c.loop-batch.marks c.args.records c.loop-batch.left)
    (ap (updates_of {K = g.row.K}) (take_all c.loop-batch.batch-index items (omega (arith, c.loop-batch-test.false))) ∙ updates_alike items c.args.taken.now c.list-batch-items.ensures) c.loop-batch.invariant
