use Rattle.std.proofs.Common.{◌≡◌, ◌≤◌, ◌-◌, ℕ, sym, ap, ◌∙◌, subst, map, length, take, drop, arith}
use Rattle.layout_pages.specs.Steps.{buckets_renewed, publications}
use Rattle.directory_changes.specs.Changes.{parts_changed}
use Rattle.grid_types.specs.declared.owner.Owner.TheVariants.{Part}
use Rattle.file_state.specs.Publishings.{AreNumbersBelow, buckets_vanishing}
use Rattle.file_state.proofs.Walks.{IsBehind, behind, whole_change, published_length}
use Rattle.file_state.proofs.publishing.publish_pages.Goals as goal

pub publish_parts-requires : goal.publish_parts-requires
publish_parts-requires g c =
    let few : g.row.K ≤ 4 = c.requires.attributes in
    let left : IsBehind (parts_changed {K = g.row.K} c.args.dims.now.intervals c.args.change.now.directory) (take (length c.args.pages.now - c.publish_buckets-count.result) (drop c.publish_buckets-count.result c.args.pages.now)) c.args.states.now c.publish_buckets-count.new.states =
    behind c.args.at c.publish_buckets-count.result (buckets_renewed c.args.change.now.bucket c.args.change.now.note) (parts_changed {K = g.row.K} c.args.dims.now.intervals c.args.change.now.directory) c.args.pages.now c.args.states.now c.publish_buckets-count.new.states
    c.publish_buckets-count.ensures.count c.requires.count c.publish_buckets-count.ensures.states c.requires.claimed in
    (omega (arith, few), (omega (arith, few), (c.requires.change, (left.claimed, (left.count, omega (arith, left.size, c.requires.parts))))))

pub returns : goal.returns
returns g c =
    whole_change c.args.at c.args.change.now.bucket c.args.change.now.note (parts_changed {K = g.row.K} c.args.dims.now.intervals c.args.change.now.directory) c.args.pages.now c.publish_buckets-count.result
    c.args.states.now c.publish_buckets-count.new.states c.publish_parts.new.states c.end_vanishing.new.states c.publish_buckets-count.ensures.count c.publish_buckets-count.ensures.states c.publish_parts.ensures c.end_vanishing.ensures

pub end_vanishing-requires : goal.end_vanishing-requires
end_vanishing-requires g c =
    let left : IsBehind (parts_changed {K = g.row.K} c.args.dims.now.intervals c.args.change.now.directory) (take (length c.args.pages.now - c.publish_buckets-count.result) (drop c.publish_buckets-count.result c.args.pages.now)) c.args.states.now c.publish_buckets-count.new.states =
    behind c.args.at c.publish_buckets-count.result (buckets_renewed c.args.change.now.bucket c.args.change.now.note) (parts_changed {K = g.row.K} c.args.dims.now.intervals c.args.change.now.directory) c.args.pages.now c.args.states.now c.publish_buckets-count.new.states
    c.publish_buckets-count.ensures.count c.requires.count c.publish_buckets-count.ensures.states c.requires.claimed in
    let size : length c.publish_parts.new.states ≡ length c.args.states.now =
    ap length c.publish_parts.ensures
    ∙ published_length c.args.at (publications (map Part (parts_changed {K = g.row.K} c.args.dims.now.intervals c.args.change.now.directory)) (take (length c.args.pages.now - c.publish_buckets-count.result) (drop c.publish_buckets-count.result c.args.pages.now))) c.publish_buckets-count.new.states
    ∙ left.size in
    subst (λ (n : ℕ). AreNumbersBelow n (buckets_vanishing c.args.change.now.bucket c.args.change.now.note)) (sym size) c.requires.vanishing
