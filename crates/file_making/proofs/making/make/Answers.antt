use Rattle.std.proofs.Common.{◌≡◌, ◌≤◌, ◌*◌, ◌∙◌, ℕ, List, length, IsTrue, refl, sym, subst, arith}
use Rattle.std.proofs.lemmas.Result.{on_ok_weaker}
use Rattle.grid_types.specs.declared.shape.Shape.{Shape}
use Rattle.grid_types.specs.FilePages.{HeaderPage, AreaPage, GatePage, DataPage}
use Rattle.grid_types.specs.Shapes.{is_shape, file_pages}
use Rattle.grid_types.proofs.Places.{within-limits}
use Rattle.file_roots.proofs.Outcomes.{on_ok_also, on_ok_both}
use Rattle.file_images.specs.NewFiles.{IsNewFile}
use Rattle.file_images.proofs.NewFile.{new_has_standing}
use Rattle.file_images.proofs.Wholes.{is_new as by_pages}
use Rattle.file_making.specs.NewPages.{HasNewPages}
use Rattle.file_making.proofs.making.make.Goals as goal

-- an image with the pages of a new file is that of a new file
is_new : (K : ℕ) (s : Shape) (image : List ℕ) → IsTrue (is_shape s) → s.k ≡ K → file_pages s * 4096 ≤ length image → HasNewPages K s image → IsNewFile K s image
is_new K s image lawful attributes long has =
    let some = (within-limits s lawful).some_pages in
    by_pages K s image lawful attributes long (record {
      zeroth = has.each (HeaderPage 0) (omega arith);
      first = has.each (HeaderPage 1) (omega arith);
      area = λ i lt. has.each (AreaPage 0 i) (omega arith, lt);
      gates = λ h two. has.each (GatePage h) two;
      directory = has.each (DataPage 0) (omega (arith, some));
      bucket = has.each (DataPage 1) (omega (arith, some));
    })

pub returns-clause-pages : goal.returns-clause-pages
returns-clause-pages g c = λ h.
    let image = g.D.Disk.seen c.write_file.new.disk in
    on_ok_also c.write_file.result c.map_err.result c.map_err.ensures.variant (λ pages. subst (λ (s : Shape). HasNewPages s.k s image) c.in-Some.ensures.value pages) (c.write_file.ensures.pages h)

pub returns-clause-made : goal.returns-clause-made
returns-clause-made g c = λ h.
    let made = c.in-Some.geometry in
    let image = g.D.Disk.seen c.write_file.new.disk in
    let room = c.fits.ensures.0 c.if-not-fits.false in
    let whole : length image ≡ g.D.Disk.extent c.write_file.new.disk = g.met.D.Disk.whole c.write_file.new.disk (c.write_file.ensures.changes.honest ∙ h) in
    let long : file_pages made.shape * 4096 ≤ length image = omega (arith, room, c.size.ensures, whole, c.write_file.ensures.changes.extent) in
    on_ok_also c.write_file.result c.map_err.result c.map_err.ensures.variant
    (λ pages. subst (λ (s : Shape). IsNewFile s.k s image) c.in-Some.ensures.value (is_new made.shape.k made.shape image made.lawful refl long pages)) (c.write_file.ensures.pages h)

pub returns-clause-stands : goal.returns-clause-stands
returns-clause-stands g c = λ h. on_ok_weaker c.map_err.result (λ made. new_has_standing c.args.shape.now.k c.args.shape.now (g.D.Disk.seen c.write_file.new.disk) made) (returns-clause-made g c h)

pub returns-clause-crash : goal.returns-clause-crash
returns-clause-crash g c = λ h.
    let told = c.write_file.ensures.changes.honest ∙ h in
    on_ok_both c.map_err.result (λ made synced k now. subst (λ (image : List ℕ). IsNewFile c.args.shape.now.k c.args.shape.now image) (sym (synced.only told k now)) made)
    (returns-clause-made g c h) (on_ok_also c.write_file.result c.map_err.result c.map_err.ensures.variant (λ synced. synced) c.write_file.ensures.durable)
