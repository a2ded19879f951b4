use Rattle.std.proofs.Common.{rules, ◌≤◌, ◌+◌, length, ap, subst, arith}
use Rattle.grid_model.specs.Buckets.{SpellsBucket}
use Rattle.change_plans.proofs.Overfull.{left-fits, right-fits}
use Rattle.change_plans.proofs.cutting.write_parts.Goals as goal

pub encode-requires : goal.encode-requires
encode-requires g c =
    let cut = c.args.cut.now in
    let fits = left-fits c.args.bucket.now.rows.items cut.attribute cut.value c.args.capacity c.requires.divides c.requires.bucket.count in
    let few : length c.left_part.result.rows.items ≤ c.args.capacity = omega (arith, ap (λ b. length b.rows) c.left_part.ensures.part, fits) in
    (search rules, (c.requires.few, (c.requires.lawful, few)))

pub encode-requires-2 : goal.encode-requires-2
encode-requires-2 g c =
    let cut = c.args.cut.now in
    let fits = right-fits c.args.bucket.now.rows.items cut.attribute cut.value c.args.capacity c.requires.divides c.requires.bucket.count in
    let few : length c.right_part.result.rows.items ≤ c.args.capacity = omega (arith, ap (λ b. length b.rows) c.right_part.ensures.part, fits) in
    (search rules, (c.requires.few, (c.requires.lawful, few)))

pub returns-clause-left : goal.returns-clause-left
returns-clause-left g c =
    let cut = c.args.cut.now in
    let fits = left-fits c.args.bucket.now.rows.items cut.attribute cut.value c.args.capacity c.requires.divides c.requires.bucket.count in
    let few : length c.left_part.result.rows.items ≤ c.args.capacity = omega (arith, ap (λ b. length b.rows) c.left_part.ensures.part, fits) in
    subst (SpellsBucket c.args.capacity c.encode.new.page) c.left_part.ensures.part (c.encode.ensures.spelled (c.left_part.ensures.lawful c.args.capacity (c.args.capacity + 1) c.requires.bucket few))

pub returns-clause-right : goal.returns-clause-right
returns-clause-right g c =
    let cut = c.args.cut.now in
    let fits = right-fits c.args.bucket.now.rows.items cut.attribute cut.value c.args.capacity c.requires.divides c.requires.bucket.count in
    let few : length c.right_part.result.rows.items ≤ c.args.capacity = omega (arith, ap (λ b. length b.rows) c.right_part.ensures.part, fits) in
    subst (SpellsBucket c.args.capacity c.encode-2.new.page) c.right_part.ensures.part (c.encode-2.ensures.spelled (c.right_part.ensures.lawful c.args.capacity (c.args.capacity + 1) c.requires.bucket few))
