use Rattle.std.proofs.Common.{◌≡◌, ◌∙◌, ℕ, sym, subst}
use Rattle.grid_types.specs.declared.refusal.Refusal.TheVariants.{Damaged}
use Rattle.grid_types.specs.Pages.{page_of}
use Rattle.grid_types.specs.Shapes.{header_page, table_page}
use Rattle.root_pages.specs.Fields.{model_fields}
use Rattle.file_roots.proofs.Filling.{next_file, next_long, next_page, gathered_there}
use Rattle.file_roots.proofs.Outcomes.{no_refusal}
use Rattle.file_roots.proofs.reading.read_area_page.Goals as goal

pub returns-in-Ok-true-clause-gathers : goal.returns-in-Ok-true-clause-gathers
returns-in-Ok-true-clause-gathers g c =
    let s = c.args.geometry.now.shape in
    let r = model_fields c.args.fields.now in
    let lawful = c.args.geometry.now.lawful in
    let seen = g.D.Disk.seen c.args.disk.now in
    let page = c.read_page.new.out in
    let taken = c.in-Ok-true.ensures in
    record {
      gathered = λ h had.
          let at : c.into.result ≡ table_page c.args.geometry.now.shape (header_page c.args.fields.now.number) c.args.i = c.into.ensures ∙ c.table_page-number.ensures.value in
          let bytes : page ≡ page_of c.into.result seen = c.in_ok-read_page.ensures.bytes h in
          let here : page_of (table_page s (header_page c.args.fields.now.number) c.args.i) seen ≡ page = subst (λ (n : ℕ). page_of n seen ≡ page) at (sym bytes) in
          taken.gathered seen here had c.in-Ok-true.field-0-test;
      lawful = λ may. record {
        image = next_file s r lawful c.args.i c.requires.inside c.args.gathered.now page c.read_page.array_long may;
        long = next_long s r lawful c.args.i c.requires.inside c.args.gathered.now page c.read_page.array_long may;
        gathered = taken.gathered _ (next_page s r lawful c.args.i c.requires.inside c.args.gathered.now page c.read_page.array_long may)
            (gathered_there s r lawful c.args.i c.requires.inside c.args.gathered.now page c.read_page.array_long may) c.in-Ok-true.field-0-test;
      };
      damaged = λ h had p e. absurd (no_refusal tt (Damaged p) e);
      room = taken.room;
    }
