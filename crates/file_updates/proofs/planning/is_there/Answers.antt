use Rattle.std.proofs.Common.{◌∙◌, ℕ, List, is_some, sym, ap, subst}
use Rattle.grid_model.specs.Buckets.{SpellsBucket}
use Rattle.grid_model.specs.Images.{bucket_on}
use Rattle.change_plans.proofs.Pages.{tells-data}
use Rattle.merge_paths.proofs.Found.{page-found}
use Rattle.file_updates.proofs.planning.is_there.Goals as goal

pub returns : goal.returns
returns g c = λ shape L t e found.
    let k = c.args.key.now.numbers in
    let bytes = c.args.room.now.found.value in
    let head = c.args.head.now in
    let spelled : SpellsBucket shape.capacity c.deref.result.now (bucket_on t e) = subst (λ (page : List ℕ). SpellsBucket shape.capacity page (bucket_on t e)) (sym c.deref.ensures) found.spelled in
    c.is_some.ensures ∙ ap is_some (c.get_on.ensures shape.capacity (bucket_on t e) spelled (sym found.count))
    ∙ ap is_some (tells-data shape L t e bytes head.count k (page-found shape L t k e bytes head found))
