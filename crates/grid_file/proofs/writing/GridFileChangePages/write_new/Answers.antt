use Rattle.std.proofs.Common.{◌≡◌, ◌<◌, [], ◌∷◌, ◌++◌, ap, subst, length, arith}
use Rattle.grid_file.specs.declared.written.Written.{Written}
use Rattle.grid_file.specs.Files.{OpenFile}
use Rattle.grid_file.proofs.Leaving.{failed_leaves, written_leaves, written_sound, more_pages, room_left}
use Rattle.grid_file.proofs.writing.GridFileChangePages.write_new.Goals as goal

pub returns-in_err-write_data_page-clause-same : goal.returns-in_err-write_data_page-clause-same
returns-in_err-write_data_page-clause-same g c =
    let f : OpenFile g.row.D.Denot = record { disk = c.self.inside.disk.value; books = c.self.inside.state; claimed = c.self.inside.claimed; written = c.self.inside.written.value.pages } in
    let more = more_pages f c.args.self.now c.self.view_is c.self.inside.done c.self.invariant.1 c.requires in
    failed_leaves {K = g.row.K} {D = g.row.D.Denot} g.D.Disk f c.self.invariant.0 c.self.inside.done c.self.invariant.1 more c.deref_mut.result.now c.write_data_page.new.disk c.geometry.result.shape c.page-data.result
    c.deref_mut.ensures.value c.geometry.ensures.shape c.page-data.ensures.page c.write_data_page.ensures.changes (c.write_data_page.ensures.moments g.row.K) c.args.self.now c.self.view_is (c.in_err-write_data_page.ensures.failed g.row.K)

pub overflow_add-self : goal.overflow_add-self
overflow_add-self g c =
    let f : OpenFile g.row.D.Denot = record { disk = c.self.inside.disk.value; books = c.self.inside.state; claimed = c.self.inside.claimed; written = c.self.inside.written.value.pages } in
    let more : c.self.inside.done < length c.self.inside.claimed = more_pages f c.args.self.now c.self.view_is c.self.inside.done c.self.invariant.1 c.requires in
    omega (arith, more, c.page-data.ensures.few)

pub invariant_of-self-2 : goal.invariant_of-self-2
invariant_of-self-2 g c =
    let f : OpenFile g.row.D.Denot = record { disk = c.self.inside.disk.value; books = c.self.inside.state; claimed = c.self.inside.claimed; written = c.self.inside.written.value.pages } in
    let more = more_pages f c.args.self.now c.self.view_is c.self.inside.done c.self.invariant.1 c.requires in
    let one : c.with_one-self-inside.result.value.pages ≡ f.written ++ (c.args.owner, c.args.page.now) ∷ [] = ap (λ (w : Written). w.pages) c.with_one-self-inside.ensures in
    written_sound {K = g.row.K} {D = g.row.D.Denot} g.D.Disk f c.self.invariant.0 c.self.inside.done c.self.invariant.1 more c.deref_mut.result.now c.write_data_page.new.disk c.deref_mut.ensures.value c.write_data_page.ensures.changes.extent (c.args.owner, c.args.page.now) c.with_one-self-inside.result.value.pages one

pub returns-clause-written : goal.returns-clause-written
returns-clause-written g c =
    let one : c.with_one-self-inside.result.value.pages ≡ c.self.inside.written.value.pages ++ (c.args.owner, c.args.page.now) ∷ [] = ap (λ (w : Written). w.pages) c.with_one-self-inside.ensures in
    subst (λ (f : OpenFile g.row.D.Denot). c.with_one-self-inside.result.value.pages ≡ f.written ++ (c.args.owner, c.args.page.now) ∷ []) c.self.view_is one

pub returns-clause-room : goal.returns-clause-room
returns-clause-room g c =
    let f : OpenFile g.row.D.Denot = record { disk = c.self.inside.disk.value; books = c.self.inside.state; claimed = c.self.inside.claimed; written = c.self.inside.written.value.pages } in
    let more = more_pages f c.args.self.now c.self.view_is c.self.inside.done c.self.invariant.1 c.requires in
    room_left f c.args.self.now c.self.view_is c.self.inside.done c.self.invariant.1 more (c.args.owner, c.args.page.now) c.with_one-self-inside.result.value.pages (ap (λ (w : Written). w.pages) c.with_one-self-inside.ensures)

pub returns-clause-same : goal.returns-clause-same
returns-clause-same g c =
    let f : OpenFile g.row.D.Denot = record { disk = c.self.inside.disk.value; books = c.self.inside.state; claimed = c.self.inside.claimed; written = c.self.inside.written.value.pages } in
    let more = more_pages f c.args.self.now c.self.view_is c.self.inside.done c.self.invariant.1 c.requires in
    written_leaves {K = g.row.K} {D = g.row.D.Denot} g.D.Disk f c.self.invariant.0 c.self.inside.done c.self.invariant.1 more c.deref_mut.result.now c.write_data_page.new.disk c.geometry.result.shape c.page-data.result c.deref_mut.ensures.value
    c.geometry.ensures.shape c.page-data.ensures.page c.write_data_page.ensures.changes (c.write_data_page.ensures.moments g.row.K) c.args.self.now c.self.view_is c.args.owner c.args.page.now c.with_one-self-inside.result.value.pages
    (ap (λ (w : Written). w.pages) c.with_one-self-inside.ensures) (c.in_ok-write_data_page.ensures.written g.row.K)
