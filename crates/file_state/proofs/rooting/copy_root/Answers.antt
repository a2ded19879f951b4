use Rattle.std.proofs.Common.{◌≡◌, ◌+◌, ◌/◌, ℕ, arith, refl, ap, ◌∙◌}
use Rattle.grid_types.proofs.Places.{within-limits}
use Rattle.grid_model.specs.Cells.{parts}
use Rattle.linear_scales.specs.Limited.{scales_of}
use Rattle.file_state.specs.Memories.{books_of}
use Rattle.file_state.proofs.Rooms.{fewer_parts}
use Rattle.file_state.proofs.Rooted.{div_ceil_is, root_fields_told, root_told}
use Rattle.file_state.proofs.rooting.copy_root.Goals as goal

pub tell_parts-requires-clause-few : goal.tell_parts-requires-clause-few
tell_parts-requires-clause-few g c =
    omega (arith, c.div_ceil-parts.ensures, div_ceil_is c.cells.result, c.cells.ensures, c.requires.memory.books.scales.few_cells, (within-limits c.args.memory.now.geometry.shape c.requires.memory.books.lawful).few_cells)

pub tell_parts-requires-clause-known : goal.tell_parts-requires-clause-known
tell_parts-requires-clause-known g c =
    omega (arith, c.div_ceil-parts.ensures, div_ceil_is c.cells.result, c.cells.ensures, fewer_parts (books_of c.args.memory.now) c.requires.memory.books.size c.requires.memory.books.owners, c.requires.memory.books.size)

pub tell_buckets-requires-clause-few : goal.tell_buckets-requires-clause-few
tell_buckets-requires-clause-few g c = (within-limits c.args.memory.now.geometry.shape c.requires.memory.books.lawful).few_pages

pub returns-clause-fields : goal.returns-clause-fields
returns-clause-fields g c =
    let count : c.div_ceil-parts.result ≡ parts (scales_of c.args.memory.now.scales) = c.div_ceil-parts.ensures ∙ div_ceil_is c.cells.result ∙ ap (λ (n : ℕ). (n + 999) / 1000) c.cells.ensures in
    root_fields_told c.args.memory.now c.requires.memory.books
    (record { number = c.args.memory.now.roots.number + 1; session = c.args.memory.now.counts.session; front = c.args.memory.now.counts.front; records = c.args.memory.now.counts.records; scales = c.copy_from.new.self; parts = c.tell_parts.new.parts; table = c.tell_buckets.new.table })
    refl refl refl refl c.copy_from.ensures (c.tell_parts.ensures.numbers ∙ count) c.tell_buckets.ensures.numbers c.tell_buckets.ensures.told c.tell_parts.ensures.told

pub returns-clause-root : goal.returns-clause-root
returns-clause-root g c =
    let count : c.div_ceil-parts.result ≡ parts (scales_of c.args.memory.now.scales) = c.div_ceil-parts.ensures ∙ div_ceil_is c.cells.result ∙ ap (λ (n : ℕ). (n + 999) / 1000) c.cells.ensures in
    root_told c.args.memory.now c.requires.memory.books
    (record { number = c.args.memory.now.roots.number + 1; session = c.args.memory.now.counts.session; front = c.args.memory.now.counts.front; records = c.args.memory.now.counts.records; scales = c.copy_from.new.self; parts = c.tell_parts.new.parts; table = c.tell_buckets.new.table })
    refl refl refl refl c.copy_from.ensures (c.tell_parts.ensures.numbers ∙ count) c.tell_buckets.ensures.numbers c.tell_buckets.ensures.told c.tell_parts.ensures.told c.requires.number
