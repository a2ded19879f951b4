use Rattle.std.proofs.Common.{◌≡◌, ◌≤◌, ◌<◌, ◌∙◌, ℕ, List, sym, ap, subst, All, length, map, replicate, arith}
use Rattle.std.proofs.lemmas.List.{length-replicate}
use Rattle.grid_types.proofs.Places.{within-limits}
use Rattle.grid_model.specs.Images.{numbers_of}
use Rattle.grid_model.specs.Lists.{below}
use Rattle.grid_model.specs.Lawful.{nowhere}
use Rattle.layout_pages.specs.Steps.{bucket_publication, part_publication}
use Rattle.page_states.specs.declared.page_state.PageState.{PageState}
use Rattle.page_states.specs.declared.page_state.PageState.TheVariants.{Free}
use Rattle.page_states.specs.Changes.{all_published}
use Rattle.file_state.specs.Openings.{AreBeginnable, OthersStayFree}
use Rattle.file_state.proofs.Opened.{table_beginnable, list_beginnable, list_named, list_few, states_opened}
use Rattle.file_state.proofs.opening.open_pages.Goals as goal

pub new-requires : goal.new-requires
new-requires g c = (within-limits c.args.geometry.now.shape c.args.geometry.now.lawful).few_pages

pub begin_buckets-requires-clause-free : goal.begin_buckets-requires-clause-free
begin_buckets-requires-clause-free g c =
    subst (λ (t : List ℕ). AreBeginnable t c.in_ok-states.states) (sym c.list.ensures.value)
    (subst (AreBeginnable c.args.root.now.table.items) (sym c.in_ok-states.ensures)
    (table_beginnable c.args.geometry.now.shape.pages (within-limits c.args.geometry.now.shape c.args.geometry.now.lawful).few_pages c.args.root.now.table.items c.args.root.now.parts.items c.requires.area.pages c.requires.area.distinct))

pub begin_parts-requires-clause-few : goal.begin_parts-requires-clause-few
begin_parts-requires-clause-few g c =
    let few : c.args.geometry.now.shape.pages ≤ 65536 = (within-limits c.args.geometry.now.shape c.args.geometry.now.lawful).few_pages in
    omega (arith, ap length c.list-2.ensures.value, few, list_few c.args.geometry.now.shape.pages few c.args.root.now.table.items c.args.root.now.parts.items c.requires.area.pages c.requires.area.distinct)

pub begin_parts-requires-clause-known : goal.begin_parts-requires-clause-known
begin_parts-requires-clause-known g c =
    let few : c.args.geometry.now.shape.pages ≤ 65536 = (within-limits c.args.geometry.now.shape c.args.geometry.now.lawful).few_pages in
    let size : length c.in_ok-states.states ≡ c.args.geometry.now.shape.pages = ap length c.in_ok-states.ensures ∙ length-replicate c.args.geometry.now.shape.pages Free in
    omega (arith, ap length c.list-2.ensures.value, c.begin_buckets.ensures.count, size, list_few c.args.geometry.now.shape.pages few c.args.root.now.table.items c.args.root.now.parts.items c.requires.area.pages c.requires.area.distinct)

pub begin_parts-requires-clause-named : goal.begin_parts-requires-clause-named
begin_parts-requires-clause-named g c =
    subst (λ (ps : List ℕ). All (λ p. p < nowhere) ps) (sym c.list-2.ensures.value)
    (list_named c.args.geometry.now.shape.pages (within-limits c.args.geometry.now.shape c.args.geometry.now.lawful).few_pages c.args.root.now.table.items c.args.root.now.parts.items c.requires.area.pages c.requires.area.distinct)

pub begin_parts-requires-clause-free : goal.begin_parts-requires-clause-free
begin_parts-requires-clause-free g c =
    let others : OthersStayFree c.args.root.now.table.items (replicate c.args.geometry.now.shape.pages Free) c.begin_buckets.new.states =
    subst (λ (t : List ℕ). OthersStayFree t (replicate c.args.geometry.now.shape.pages Free) c.begin_buckets.new.states) c.list.ensures.value
    (subst (λ (s : List PageState). OthersStayFree c.list.result.now s c.begin_buckets.new.states) c.in_ok-states.ensures c.begin_buckets.ensures.others) in
    subst (λ (ps : List ℕ). AreBeginnable ps c.begin_buckets.new.states) (sym c.list-2.ensures.value)
    (list_beginnable c.args.geometry.now.shape.pages (within-limits c.args.geometry.now.shape c.args.geometry.now.lawful).few_pages c.args.root.now.table.items c.args.root.now.parts.items c.requires.area.pages c.requires.area.distinct c.begin_buckets.new.states others)

pub returns : goal.returns
returns g c =
    states_opened c.args.geometry.now.shape c.args.root.now c.in_ok-states.states c.begin_buckets.new.states c.begin_parts.new.states c.in_ok-states.ensures
    (c.begin_buckets.ensures.states ∙ ap (λ (t : List ℕ). all_published c.args.root.now.front (map (bucket_publication t) (numbers_of t)) c.in_ok-states.states) c.list.ensures.value)
    (c.begin_parts.ensures ∙ ap (λ (ps : List ℕ). all_published c.args.root.now.front (map (part_publication ps) (below (length ps))) c.begin_buckets.new.states) c.list-2.ensures.value)
