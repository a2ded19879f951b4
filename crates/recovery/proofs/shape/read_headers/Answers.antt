use Rattle.std.proofs.Common.{◌≡◌, inr, take, refl, sym, ap, subst, ◌∙◌, arith, true≢false}
use Rattle.grid_types.specs.Pages.{page_of}
use Rattle.root_pages.specs.Headers.{SpellsShape}
use Rattle.file_roots.proofs.Outcomes.{told_on}
use Rattle.recovery.proofs.Refusing.{shape_no_read, shape_no_write}
use Rattle.recovery.proofs.shape.read_headers.Goals as goal

pub returns-in_err-geometry-clause-causes : goal.returns-in_err-geometry-clause-causes
returns-in_err-geometry-clause-causes g c =
    let told = c.in_err-geometry.ensures.told in
    told_on c.from_residual-in_err-geometry.result c.in_err-geometry.field-0.0 c.from_residual-in_err-geometry.ensures.1 (shape_no_read _ told) (shape_no_write _ told) (inr told)

pub returns-then-not-begin_alike-clause-first : goal.returns-then-not-begin_alike-clause-first
returns-then-not-begin_alike-clause-first g c = λ h.
    let s = c.in_ok-geometry.geometry.shape in
    let seen = g.D.Disk.seen c.args.disk.now in
    let same = c.in_ok-read_page.ensures.same in
    let zeroth : c.read_page.new.out ≡ page_of 0 seen = c.in_ok-read_page.ensures.bytes h in
    let first : c.read_page-2.new.out ≡ page_of 1 seen = c.in_ok-read_page-2.ensures.bytes (same.honest ∙ h) ∙ ap (page_of 1) (same.seen h) in
    inr (inr (inr (record {
      shape = s;
      begins = record {
        spelled = subst (λ p. SpellsShape p s) zeroth c.in_ok-geometry.ensures.spelled;
        long = omega (arith, c.in_ok-geometry.ensures.long, c.size-size.ensures, g.met.D.Disk.whole c.args.disk.now h);
      };
      other = λ alike. true≢false (sym (c.begin_alike.ensures.1 (ap (take 64) first ∙ alike ∙ ap (take 64) (sym zeroth))) ∙ c.if-not-begin_alike.true);
      page_is = refl;
    })))

pub returns-clause-pages : goal.returns-clause-pages
returns-clause-pages g c = λ h.
    let same = c.in_ok-read_page.ensures.same in
    record {
      zeroth_is = sym (c.in_ok-read_page.ensures.bytes h);
      first_is = sym (c.in_ok-read_page-2.ensures.bytes (same.honest ∙ h) ∙ ap (page_of 1) (same.seen h));
    }

pub returns-clause-found : goal.returns-clause-found
returns-clause-found g c = λ h.
    let seen = g.D.Disk.seen c.args.disk.now in
    let same = c.in_ok-read_page.ensures.same in
    let zeroth : c.read_page.new.out ≡ page_of 0 seen = c.in_ok-read_page.ensures.bytes h in
    let first : c.read_page-2.new.out ≡ page_of 1 seen = c.in_ok-read_page-2.ensures.bytes (same.honest ∙ h) ∙ ap (page_of 1) (same.seen h) in
    let spelled = c.in_ok-geometry.ensures.spelled in
    record {
      lawful = spelled.lawful;
      attributes = refl;
      first = ap (take 64) (sym zeroth) ∙ spelled.bytes;
      second = ap (take 64) (sym first) ∙ c.begin_alike.ensures.0 c.if-not-begin_alike.false ∙ spelled.bytes;
      long = omega (arith, c.in_ok-geometry.ensures.long, c.size-size.ensures, g.met.D.Disk.whole c.args.disk.now h);
    }
