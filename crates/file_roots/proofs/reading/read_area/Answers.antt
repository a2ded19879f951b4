use Rattle.std.proofs.Common.{◌≡◌, ◌∙◌, ℕ, sym, subst, arith}
use Rattle.grid_types.specs.declared.refusal.Refusal.TheVariants.{Damaged}
use Rattle.grid_types.specs.Shapes.{area_pages}
use Rattle.root_pages.specs.Fields.{model_fields}
use Rattle.file_roots.specs.Damage.{HasAreaUpTo, HasBadAreaPage}
use Rattle.file_roots.specs.Gathering.{HasGathered, MayBeGathered, area_in}
use Rattle.file_roots.proofs.Outcomes.{on_err, on_ok_none, same_refusal, refused_so, no_refusal}
use Rattle.file_roots.proofs.reading.read_area.Goals as goal

pub returns-in_err-read_area_page-clause-gathers : goal.returns-in_err-read_area_page-clause-gathers
returns-in_err-read_area_page-clause-gathers g c =
    let s = c.args.geometry.now.shape in
    let r = model_fields c.args.fields.now in
    let was = c.loop-i.invariant in
    let refusal = c.in_err-read_area_page.field-0.0 in
    record {
      gathered = λ h had. on_ok_none _ c.from_residual.result c.from_residual.ensures.0;
      lawful = λ may. on_ok_none _ c.from_residual.result c.from_residual.ensures.0;
      damaged = λ h had p e.
          let is = refused_so refusal (Damaged p) (same_refusal c.from_residual.result refusal (Damaged p) c.from_residual.ensures.1 e) in
          let here = subst (λ image. HasGathered s image r c.loop-i.i c.loop-i.gathered) (sym (was.same.seen h)) (was.gathered h had) in
          subst (λ image. HasBadAreaPage s image r p) (was.same.seen h) (c.in_err-read_area_page.ensures.gathers.damaged (was.same.honest ∙ h) here p is);
      room = c.in_err-read_area_page.ensures.gathers.room;
    }

pub returns-clause-gathers : goal.returns-clause-gathers
returns-clause-gathers g c =
    let s = c.args.geometry.now.shape in
    let r = model_fields c.args.fields.now in
    let was = c.loop-i.invariant in
    let last : c.loop-i.i ≡ area_pages s = omega (arith, c.loop-i-test.false, c.loop-i.auto.i-end, c.area_pages-i-end.ensures.value) in
    record {
      gathered = λ h had. subst (λ (n : ℕ). HasGathered s (g.D.Disk.seen c.args.disk.now) r n c.loop-i.gathered) last (was.gathered h had);
      lawful = λ may. subst (λ (n : ℕ). MayBeGathered s r n c.loop-i.gathered) last (was.lawful may);
      damaged = λ h had p e. absurd (no_refusal tt (Damaged p) e);
      room = was.room;
    }

pub returns-in_err-read_area_page-clause-good_before : goal.returns-in_err-read_area_page-clause-good_before
returns-in_err-read_area_page-clause-good_before g c = λ h had n is.
    let was = c.loop-i.invariant in
    let count : c.loop-i.i ≡ n = omega (arith, is, was.ticks, c.in_err-read_area_page.ensures.ticks) in
    on_err c.from_residual.result (area_in c.loop-i.gathered, subst (λ (k : ℕ). HasAreaUpTo c.args.geometry.now.shape (g.D.Disk.seen c.args.disk.now) (model_fields c.args.fields.now) k (area_in c.loop-i.gathered)) count (was.gathered h had).area)
