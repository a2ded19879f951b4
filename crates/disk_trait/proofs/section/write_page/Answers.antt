use Rattle.std.proofs.Common.{◌≡◌, ◌≤◌, ◌*◌, ℕ, length, subst, arith}
use Rattle.std.proofs.lemmas.Result.{on_ok_weaker}
use Rattle.grid_types.specs.declared.sizes.TheConstants.{PAGE_BYTES}
use Rattle.disk_trait.specs.Disk.{Agrees}
use Rattle.disk_trait.specs.Calls.{Changes}
use Rattle.disk_trait.proofs.Calls.{changes_write}
use Rattle.disk_trait.proofs.Pages.{agrees_same, page_written}
use Rattle.disk_trait.proofs.section.write_page.Goals as goal

pub returns-clause-written : goal.returns-clause-written
returns-clause-written g c = λ h.
    let seen = g.D.Disk.seen c.args.disk.now in
    let low : c.args.page * PAGE_BYTES ≤ length seen = omega (arith, c.requires, g.met.D.Disk.whole c.args.disk.now h) in
    on_ok_weaker c.write.result (λ holds. page_written seen c.args.page c.args.bytes.now _ low (omega arith) holds) (c.write.ensures.written h)

pub returns-clause-changes : goal.returns-clause-changes
returns-clause-changes g c =
    let w = c.write.ensures in
    let at = c.args.page * PAGE_BYTES in
    let long : length c.args.bytes.now ≡ PAGE_BYTES = omega arith in
    subst (λ (n : ℕ). Changes g.D.Disk (Agrees at n) c.args.disk.now c.write.new.self) long
    (changes_write (agrees_same at (length c.args.bytes.now)) (λ k h left. g.met.D.Disk.only_now c.args.disk.now k h left) w.extent w.honest w.other w.cause.later w.outside w.crash w.time)
