use Rattle.std.proofs.Common.{◌≡◌, ◌<◌, ◌*◌, ◌∙◌, subst, arith, ℕ}
use Rattle.grid_types.specs.declared.sizes.TheConstants.{PAGE_BYTES}
use Rattle.grid_types.specs.Pages.{page_of}
use Rattle.grid_types.specs.Shapes.{file_pages}
use Rattle.disk_trait.specs.Calls.{Changes}
use Rattle.disk_trait.specs.Disk.{Agrees}
use Rattle.disk_trait.proofs.Calls.{changes_none, changes_then}
use Rattle.disk_trait.proofs.Pages.{agrees_same, agrees_then}
use Rattle.file_making.proofs.Growing.{PagesBelow, one_more, all_written, page_in_file, file_pages_small}
use Rattle.file_making.proofs.making.write_pages.Goals as goal

pub loop-number-init : goal.loop-number-init
loop-number-init g c = record { changes = changes_none (agrees_same _ _) (λ k h left. g.met.D.Disk.only_now c.args.disk.now k h left); pages = λ h p has lt. absurd (omega (arith, lt)) }

pub overflow_cast-number-end : goal.overflow_cast-number-end
overflow_cast-number-end g c = omega (arith, file_pages_small c.args.geometry.now.shape c.args.geometry.now.lawful, c.file_pages-number-end.ensures)

pub returns-in_err-write_page-clause-changes : goal.returns-in_err-write_page-clause-changes
returns-in_err-write_page-clause-changes g c =
    let s = c.args.geometry.now.shape in
    let lt : c.loop-number.number < file_pages s = omega (arith, c.loop-number-test.true, c.file_pages-number-end.ensures) in
    let now = subst (λ (n : ℕ). Changes g.D.Disk (Agrees (n * PAGE_BYTES) PAGE_BYTES) c.loop-number.disk c.write_page.new.disk) c.into.ensures c.in_err-write_page.ensures.changes in
    changes_then (λ x y a. a) (λ x y z a b. agrees_then _ _ x y z a (page_in_file s c.loop-number.number y z lt b)) c.loop-number.invariant.changes now

pub loop-number-preserved : goal.loop-number-preserved
loop-number-preserved g c =
    let s = c.args.geometry.now.shape in
    let number = c.loop-number.number in
    let lt : number < file_pages s = omega (arith, c.loop-number-test.true, c.file_pages-number-end.ensures) in
    let was = c.loop-number.invariant in
    let end = c.write_page.new.disk in
    let now = subst (λ (n : ℕ). Changes g.D.Disk (Agrees (n * PAGE_BYTES) PAGE_BYTES) c.loop-number.disk end) c.into.ensures c.in_ok-write_page.ensures.changes in
    record {
      changes = changes_then (λ x y a. a) (λ x y z a b. agrees_then _ _ x y z a (page_in_file s number y z lt b)) was.changes now;
      pages = λ h.
          let written = subst (λ (n : ℕ). page_of n (g.D.Disk.seen end) ≡ c.encode_page.new.page) c.into.ensures (c.in_ok-write_page.ensures.written (was.changes.honest ∙ h)) in
          one_more s.k s number _ _ c.encode_page.new.page (was.pages h) (now.outside (was.changes.honest ∙ h)) written c.encode_page.ensures;
    }

pub returns-clause-pages : goal.returns-clause-pages
returns-clause-pages g c = λ h.
    let s = c.args.geometry.now.shape in
    let end : c.loop-number.number ≡ file_pages s = omega (arith, c.loop-number-test.false, c.loop-number.auto.number-end, c.file_pages-number-end.ensures) in
    all_written s c.args.geometry.now.lawful s.k _ (subst (λ (n : ℕ). PagesBelow s.k s n (g.D.Disk.seen c.loop-number.disk)) end (c.loop-number.invariant.pages h))
