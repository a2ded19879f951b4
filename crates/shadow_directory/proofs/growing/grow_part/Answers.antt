use Rattle.std.proofs.Common.{◌≡◌, ◌≤◌, ◌∙◌, ap, arith, subst, ℕ, take, length}
use Rattle.std.proofs.lemmas.List.{get_or-take, length-take}
use Rattle.directory_pages.specs.CellBoxes.{cells_on}
use Rattle.directory_changes.specs.declared.change.DirectoryChange.TheVariants.{Grow}
use Rattle.shadow_directory.specs.Images.{AreImages}
use Rattle.shadow_directory.specs.Reads.{sources, readings, last_held}
use Rattle.shadow_directory.proofs.Faults.{ok-there}
use Rattle.shadow_directory.proofs.Keeping.{holds-on}
use Rattle.shadow_directory.proofs.Needed.{needed-are}
use Rattle.shadow_directory.proofs.PartWritten.{part-failed, part-ended}
use Rattle.shadow_directory.proofs.Patched.{grown-from}
use Rattle.shadow_directory.proofs.Read.{ticks-done, ticks-failed}
use Rattle.shadow_directory.proofs.growing.grow_part.Goals as goal

pub returns-in_err-gather-clause-writes : goal.returns-in_err-gather-clause-writes
returns-in_err-gather-clause-writes g c =
    part-failed {K = g.row.K} c.args.dims.now.intervals (Grow c.args.attribute c.args.interval c.args.cells.now c.args.bucket) c.args.part c.args.pages.now c.gather.new.pages c.gather.new.page c.from_residual.result _ c.from_residual.ensures.1 c.in_err-gather.ensures.reads

pub returns-in_err-gather-clause-ticks : goal.returns-in_err-gather-clause-ticks
returns-in_err-gather-clause-ticks g c =
    let ns = c.args.dims.now.intervals in
    let count = c.find_images-count.ensures.count in
    let few : c.find_images-count.result ≤ length c.find_images-count.new.images = omega (arith, count, c.gather.array_long) in
    let are = needed-are ns c.args.refined.now.intervals c.find_images-count.new.images c.args.attribute c.args.interval c.args.part c.find_images-count.result c.requires.refined count few c.find_images-count.ensures.found in
    let ticks = c.in_err-gather.ensures.ticks in
    ticks-failed (readings c.args.held.now (sources ns c.args.attribute c.args.interval c.args.part)) c.args.steps.now c.gather.new.steps c.from_residual.result _ c.from_residual.ensures.1 ticks.least (omega (arith, ticks.most, ap (readings c.args.held.now) are))

pub returns-clause-held : goal.returns-clause-held
returns-clause-held g c = holds-on c.write_page.ensures.same c.in_ok-gather.ensures.held

pub returns-clause-last : goal.returns-clause-last
returns-clause-last g c =
    let ns = c.args.dims.now.intervals in
    let count = c.find_images-count.ensures.count in
    let few : c.find_images-count.result ≤ length c.find_images-count.new.images = omega (arith, count, c.gather.array_long) in
    let are = needed-are ns c.args.refined.now.intervals c.find_images-count.new.images c.args.attribute c.args.interval c.args.part c.find_images-count.result c.requires.refined count few c.find_images-count.ensures.found in
    ok-there c.write_page.result (c.gather.new.held ≡ last_held c.args.held.now (sources ns c.args.attribute c.args.interval c.args.part)) (c.in_ok-gather.ensures.last ∙ ap (last_held c.args.held.now) are)

pub returns-clause-ticks : goal.returns-clause-ticks
returns-clause-ticks g c =
    let ns = c.args.dims.now.intervals in
    let count = c.find_images-count.ensures.count in
    let few : c.find_images-count.result ≤ length c.find_images-count.new.images = omega (arith, count, c.gather.array_long) in
    let are = needed-are ns c.args.refined.now.intervals c.find_images-count.new.images c.args.attribute c.args.interval c.args.part c.find_images-count.result c.requires.refined count few c.find_images-count.ensures.found in
    ticks-done (readings c.args.held.now (sources ns c.args.attribute c.args.interval c.args.part)) c.args.steps.now c.gather.new.steps c.write_page.result (omega (arith, c.in_ok-gather.ensures.ticks.all, ap (readings c.args.held.now) are))

pub returns-clause-writes : goal.returns-clause-writes
returns-clause-writes g c =
    let ns = c.args.dims.now.intervals in
    let new = c.args.refined.now.intervals in
    let part = c.args.part in
    let n = c.find_images-count.result in
    let images = c.find_images-count.new.images in
    let buckets = c.gather.new.buckets in
    let before = take n buckets in
    let count : n ≡ cells_on new part = c.find_images-count.ensures.count in
    let few : n ≤ 1000 = omega (arith, count) in
    let long : length before ≡ cells_on new part = length-take n buckets ∙ omega (arith, c.gather.array_long2, c.gather.array_long, few, count) in
    let found = subst (λ (k : ℕ). AreImages ns new c.args.attribute c.args.interval part k images) count c.find_images-count.ensures.found in
    let read = c.in_ok-gather.ensures in
    let put = c.write_page.ensures in
    part-ended {K = g.row.K} ns (Grow c.args.attribute c.args.interval c.args.cells.now c.args.bucket) part c.args.pages.now c.write_page.new.pages c.gather.new.page c.write_page.result g.met.P.ChangePages.stays_on c.gather.new.pages c.patch_cell_box.new.page read.reads.same
    (λ D after tells is.
    (c.patch_cell_box.ensures.cells before after c.encode.ensures.spelled long
    (grown-from ns new D images before after c.args.cells.now c.args.attribute c.args.interval part c.args.bucket c.requires.refined long found
    (λ k lt. get_or-take n buckets k 0 (omega (arith, lt, count)) ∙ read.gathered D tells k (omega (arith, lt, count))) is)).bytes)
    put.written put.began put.left put.same put.fault (put.cause ns c.gather.new.page)
