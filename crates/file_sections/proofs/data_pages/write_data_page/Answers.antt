use Rattle.std.proofs.Common.{◌≡◌, ◌∙◌, ◌*◌, ℕ, sym, ap, subst, arith}
use Rattle.std.specs.Prelude.{Some, None}
use Rattle.grid_types.specs.declared.shape.Shape.{Shape}
use Rattle.grid_types.specs.Pages.{page_of}
use Rattle.grid_types.specs.Shapes.{data_page}
use Rattle.disk_trait.specs.Calls.{Changes}
use Rattle.disk_trait.specs.Disk.{Agrees}
use Rattle.grid_model.proofs.Boxes.{one-value, some-not-none}
use Rattle.file_sections.proofs.Meeting.{on_ok_told, on_any_err}
use Rattle.file_sections.proofs.DataPages.{data_shown, data_meets}
use Rattle.file_sections.proofs.data_pages.write_data_page.Goals as goal

pub returns-clause-changes : goal.returns-clause-changes
returns-clause-changes g c =
    let at : c.from.result ≡ data_page c.args.geometry.now.shape c.args.page = omega (arith, c.from.ensures, c.data_page.ensures.value) in
    subst (λ (n : ℕ). Changes g.D.Disk (Agrees (n * 4096) 4096) c.args.disk.now c.write_page.new.disk) at c.write_page.ensures.changes

pub returns-clause-moments : goal.returns-clause-moments
returns-clause-moments g c = λ K k is was.
    data_shown k c.args.page is.nothing (subst (λ (s : Shape). Changes g.D.Disk (Agrees (data_page s c.args.page * 4096) 4096) c.args.disk.now c.write_page.new.disk) (sym is.shape) (returns-clause-changes g c)) was

pub returns-clause-written : goal.returns-clause-written
returns-clause-written g c = λ K k is was.
    let at : c.from.result ≡ data_page k.shape c.args.page = omega (arith, c.from.ensures, c.data_page.ensures.value, ap (λ (s : Shape). data_page s c.args.page) is.shape) in
    let r : Changes g.D.Disk (Agrees (data_page k.shape c.args.page * 4096) 4096) c.args.disk.now c.write_page.new.disk = subst (λ (n : ℕ). Changes g.D.Disk (Agrees (n * 4096) 4096) c.args.disk.now c.write_page.new.disk) at c.write_page.ensures.changes in
    on_ok_told c.write_page.result c.write_page.ensures.written
    (λ reads. data_meets k c.args.page is.nothing r was (g.met.D.Disk.seen_now c.args.disk.now) (Some c.args.bytes.now) (λ h bytes same. ap (λ (n : ℕ). page_of n (g.D.Disk.seen c.write_page.new.disk)) (sym at) ∙ reads h ∙ sym (one-value bytes c.args.bytes.now same)))

pub returns-clause-failed : goal.returns-clause-failed
returns-clause-failed g c = λ K k is was.
    let r : Changes g.D.Disk (Agrees (data_page k.shape c.args.page * 4096) 4096) c.args.disk.now c.write_page.new.disk = subst (λ (s : Shape). Changes g.D.Disk (Agrees (data_page s c.args.page * 4096) 4096) c.args.disk.now c.write_page.new.disk) (sym is.shape) (returns-clause-changes g c) in
    on_any_err c.write_page.result (data_meets k c.args.page is.nothing r was (g.met.D.Disk.seen_now c.args.disk.now) None (λ h bytes same. absurd (some-not-none bytes same)))
