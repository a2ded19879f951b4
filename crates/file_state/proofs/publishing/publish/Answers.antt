use Rattle.std.proofs.Common.{◌≡◌, ◌<◌, ◌≤◌, ◌*◌, ℕ, List, sym, subst, length, arith}
use Rattle.grid_types.proofs.Places.{within-limits}
use Rattle.grid_cells.specs.Dims.{IsDims}
use Rattle.linear_scales.specs.Limited.{scales_of}
use Rattle.directory_changes.specs.Changes.{IsChangeOf, parts_after, parts_changed}
use Rattle.layout_pages.specs.Steps.{buckets_renewed, owners_renewed}
use Rattle.file_state.specs.Memories.{books_of, publishing_of}
use Rattle.file_state.specs.Publishings.{AreNumbersBelow, buckets_vanishing}
use Rattle.file_state.proofs.Rooms.{interval_there, fewer_buckets, used_within}
use Rattle.file_state.proofs.Scaling.{takes_note}
use Rattle.file_state.proofs.Publishes.{renewed_below, vanishing_below, parts_have_room, memory_published}
use Rattle.file_state.proofs.publishing.publish.Goals as goal

pub dims-requires : goal.dims-requires
dims-requires g c =
    let few : c.args.memory.now.geometry.shape.k ≤ 4 = (within-limits c.args.memory.now.geometry.shape c.requires.memory.books.lawful).few_attributes in
    let same : c.args.memory.now.geometry.shape.k ≡ g.row.K = c.requires.memory.books.attributes in
    (omega arith, omega (arith, few, same))

pub invariant_of-dims : goal.invariant_of-dims
invariant_of-dims g c = record {
  lawful = subst IsDims (sym c.dims.ensures) (record {
    each = interval_there (scales_of c.args.memory.now.scales);
    few = omega (arith, c.requires.memory.books.scales.few_cells, (within-limits c.args.memory.now.geometry.shape c.requires.memory.books.lawful).few_cells);
  });
}

pub publish_pages-requires : goal.publish_pages-requires
publish_pages-requires g c =
    let few : c.args.memory.now.geometry.shape.k ≤ 4 = (within-limits c.args.memory.now.geometry.shape c.requires.memory.books.lawful).few_attributes in
    let same : c.args.memory.now.geometry.shape.k ≡ g.row.K = c.requires.memory.books.attributes in
    let size : length c.args.memory.now.pages ≡ c.args.memory.now.geometry.shape.pages = c.requires.memory.books.size in (
      omega (arith, few, same),
      (
        omega (arith, few, same),
        (
          omega (arith, few, same),
          (
            subst (λ (ns : List ℕ). IsChangeOf {K = g.row.K} ns c.args.change.now.directory) (sym c.dims.ensures) c.requires.change.directory,
            (
              c.requires.change.claimed,
              (
                subst (λ (ns : List ℕ). length c.args.pages.now ≡ length (owners_renewed c.args.change.now.bucket c.args.change.now.note (parts_changed {K = g.row.K} ns c.args.change.now.directory))) (sym c.dims.ensures) c.requires.change.count,
                (
                  subst (λ (n : ℕ). AreNumbersBelow n (buckets_renewed c.args.change.now.bucket c.args.change.now.note)) (sym size) (renewed_below (books_of c.args.memory.now) c.args.change.now.bucket c.args.change.now.note c.requires.memory.books.owners c.requires.change.bucket c.requires.change.other),
                  (
                    subst (λ (n : ℕ). AreNumbersBelow n (buckets_vanishing c.args.change.now.bucket c.args.change.now.note)) (sym size) (vanishing_below (books_of c.args.memory.now) c.args.change.now.bucket c.args.change.now.note c.requires.memory.books.owners c.requires.change.bucket c.requires.change.other),
                    subst (λ (ns : List ℕ). parts_after {K = g.row.K} ns c.args.change.now.directory ≤ length c.args.memory.now.pages) (sym c.dims.ensures)
                        (omega (arith, size, parts_have_room {K = g.row.K} (books_of c.args.memory.now) (publishing_of c.args.change.now c.args.pages.now) c.requires.memory.books c.requires.change)),
                  ),
                ),
              ),
            ),
          ),
        ),
      ),
    )

pub refine-requires : goal.refine-requires
refine-requires g c = (
  omega arith,
  takes_note c.args.memory.now.geometry.shape c.args.memory.now.scales c.args.change.now.note c.args.change.now.directory c.requires.memory.books.scales c.requires.memory.limits
      c.requires.change.kind c.requires.change.fresh c.requires.change.directory c.requires.change.scales,
)

pub buckets_after-buckets-requires-clause-few : goal.buckets_after-buckets-requires-clause-few
buckets_after-buckets-requires-clause-few g c =
    let low : c.args.memory.now.counts.buckets < c.args.memory.now.geometry.shape.pages = fewer_buckets (books_of c.args.memory.now) c.requires.memory.books.size c.requires.memory.books.owners in
    let few : c.args.memory.now.geometry.shape.pages ≤ 65536 = (within-limits c.args.memory.now.geometry.shape c.requires.memory.books.lawful).few_pages in
    omega (arith, low, few)

pub unused_after-memory-requires : goal.unused_after-memory-requires
unused_after-memory-requires g c =
    let low : c.args.memory.now.unused_from ≤ c.args.memory.now.geometry.shape.pages = used_within (books_of c.args.memory.now) c.requires.memory.books.size c.requires.memory.books.owners c.args.memory.now.unused_from c.requires.memory.used in
    let few : c.args.memory.now.geometry.shape.pages ≤ 65536 = (within-limits c.args.memory.now.geometry.shape c.requires.memory.books.lawful).few_pages in
    omega (arith, low, few)

pub returns-clause-memory : goal.returns-clause-memory
returns-clause-memory g c =
    memory_published c.args.memory.now c.args.change.now c.args.pages.now c.dims.result c.records_after-memory.result (c.from.result * c.from-2.result) c.buckets_after-buckets.result c.unused_after-memory.result c.refine.new.scales c.publish_pages.new.states
    c.requires.memory c.requires.change c.dims.ensures c.buckets_after-buckets.ensures (λ i. c.from.ensures i * c.from-2.ensures i) c.records_after-memory.ensures c.refine.ensures.scales c.refine.ensures.limits c.publish_pages.ensures c.unused_after-memory.ensures
