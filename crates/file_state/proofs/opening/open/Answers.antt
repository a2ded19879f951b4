use Rattle.std.proofs.Common.{◌∙◌, ℕ, List, ap, length, arith}
use Rattle.std.specs.Prelude.{slice_index}
use Rattle.grid_model.specs.Lawful.{pages_named}
use Rattle.grid_types.proofs.Places.{within-limits}
use Rattle.file_state.proofs.Opened.{memory_begun}
use Rattle.file_state.proofs.opening.open.Goals as goal

pub overflow_cast-shape : goal.overflow_cast-shape
overflow_cast-shape g c = omega (arith, (within-limits c.args.geometry.shape c.args.geometry.lawful).few_boundaries)

pub count_buckets-requires : goal.count_buckets-requires
count_buckets-requires g c = omega (arith, ap length c.list.ensures.value, c.requires.root.area.numbers, (within-limits c.args.geometry.shape c.args.geometry.lawful).few_pages)

pub returns-clause-memory : goal.returns-clause-memory
returns-clause-memory g c =
    memory_begun c.args.geometry c.args.root.now (slice_index c.args.used 0) (slice_index c.args.used 1) c.count_buckets.result c.in_ok-scales.scales c.in_ok-pages.pages
    c.requires.attributes c.requires.root c.requires.limits c.requires.first c.requires.second (c.count_buckets.ensures ∙ ap (λ (t : List ℕ). length (pages_named t)) c.list.ensures.value) c.in_ok-scales.ensures c.in_ok-pages.ensures
