use Rattle.std.proofs.Common.{◌≡◌, ◌≤◌, ◌*◌, ◌∙◌, ℕ, length, rules, ap, subst, sym, arith}
use Rattle.std.proofs.lemmas.Result.{on_ok_weaker}
use Rattle.grid_types.specs.Pages.{page_of}
use Rattle.grid_types.specs.Shapes.{header_page, table_page}
use Rattle.disk_trait.specs.Disk.{Agrees}
use Rattle.disk_trait.specs.Calls.{Changes}
use Rattle.disk_trait.proofs.Calls.{changes_write, changes_wider}
use Rattle.disk_trait.proofs.Pages.{agrees_same, page_written}
use Rattle.file_roots.proofs.Writing.{lengths}
use Rattle.file_roots.proofs.Areas.{page_in_area}
use Rattle.file_roots.proofs.Sections.{awaits_area, ready_at_area}
use Rattle.file_roots.proofs.area_pages.write_area_page.Goals as goal

pub encode_area_page-requires : goal.encode_area_page-requires
encode_area_page-requires g c =
    let l = lengths c.args.geometry.now.shape c.args.root.now c.args.geometry.now.lawful c.requires.attributes c.requires.root in
    (search rules, (l.scales, (l.boundaries, l.parts)))

pub returns-clause-written : goal.returns-clause-written
returns-clause-written g c = λ h.
    let seen = g.D.Disk.seen c.args.disk.now in
    let end = g.D.Disk.seen c.write.new.self in
    let page : c.from.result ≡ table_page c.args.geometry.now.shape (header_page c.args.root.now.number) c.args.i = c.from.ensures ∙ c.table_page.ensures.value in
    let low : c.from.result * 4096 ≤ length seen = omega (arith, c.from.ensures, c.table_page.ensures.inside, c.requires.size, g.met.D.Disk.whole c.args.disk.now h) in
    on_ok_weaker _ (λ w. ap (λ (p : ℕ). page_of p end) (sym page) ∙ page_written seen c.from.result _ end low c.encode_area_page.array_long w ∙ c.encode_area_page.ensures) (c.write.ensures.written h)

pub returns-clause-changes : goal.returns-clause-changes
returns-clause-changes g c =
    let at = table_page c.args.geometry.now.shape (header_page c.args.root.now.number) c.args.i * 4096 in
    let is : c.from.result * 4096 ≡ at = ap (λ (n : ℕ). n * 4096) (c.from.ensures ∙ c.table_page.ensures.value) in
    let w = c.write.ensures in
    subst (λ n. Changes g.D.Disk (Agrees at n) c.args.disk.now c.write.new.self) c.encode_area_page.array_long
    (subst (λ p. Changes g.D.Disk (Agrees p (length c.encode_area_page.new.page)) c.args.disk.now c.write.new.self) is
    (changes_write (agrees_same _ _) (λ k h left. g.met.D.Disk.only_now c.args.disk.now k h left) w.extent w.honest w.other w.cause.later w.outside w.crash w.time))

pub returns-clause-awaits : goal.returns-clause-awaits
returns-clause-awaits g c = λ old w.
    let s = c.args.geometry.now.shape in
    let number = c.args.root.now.number in
    awaits_area s c.args.geometry.now.lawful number old (changes_wider (λ x y a. page_in_area s number c.args.i x y c.requires.inside a) (returns-clause-changes g c)) w

pub returns-clause-ready : goal.returns-clause-ready
returns-clause-ready g c = λ old w.
    let s = c.args.geometry.now.shape in
    let number = c.args.root.now.number in
    ready_at_area s c.args.geometry.now.lawful number old (changes_wider (λ x y a. page_in_area s number c.args.i x y c.requires.inside a) (returns-clause-changes g c)) w
