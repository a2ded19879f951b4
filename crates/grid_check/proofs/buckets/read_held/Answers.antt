use Rattle.std.proofs.Common.{◌∙◌, List, ℕ, slice_index, sym, ap, subst, arith}
use Rattle.std.specs.Prelude.{IfSome, OnSome}
use Rattle.grid_types.specs.Pages.{page_of}
use Rattle.grid_types.specs.Shapes.{data_page}
use Rattle.grid_types.proofs.Places.{within-limits}
use Rattle.bucket_page.specs.OnPage.{bucket_told}
use Rattle.grid_check.specs.Marks.{Marks, MarksKeys, keys_at, keys_in}
use Rattle.grid_check.specs.Reads.{HoldsPage}
use Rattle.grid_check.proofs.buckets.read_held.Goals as goal
use Rattle.grid_check.proofs.buckets.read_held.Goals.{in-Some, in_default}

pub held_of-found-requires : goal.held_of-found-requires
held_of-found-requires g c =
    let s = c.args.geometry.now in
    (omega (arith, c.requires.few), (c.requires.few, (within-limits s.shape s.lawful).small_capacity))

pub mark_page-requires : goal.mark_page-requires
mark_page-requires g c =
    let s = c.args.geometry.now in
    let held = subst (λ f. IfSome f (HoldsPage {K = g.row.K} s.shape.capacity c.read_page.new.out c.args.number)) c.in-Some.is c.held_of-found.ensures.held in
    (omega (arith, c.requires.few), (omega (arith, held.count_is, held.spelled.lawful.count, (within-limits s.shape s.lawful).small_capacity), c.requires.few))

pub returns-clause-marked : goal.returns-clause-marked
returns-clause-marked g c = λ h.
    let s = c.args.geometry.now.shape in
    let image = g.D.Disk.seen c.args.disk.now in
    let table = c.args.table.now.items in
    let n = c.args.number in
    let page = c.read_page.new.out in
    let at = c.in_ok-read_page.ensures.bytes h ∙ ap (λ p. page_of p image) (c.data_page-at.ensures.value ∙ ap (λ l. data_page s (slice_index l n)) c.list.ensures.value) in
    let P = λ (new : Marks). MarksKeys (keys_at g.row.K s image table n) c.args.marks.now new in
    elim c.match-found.branch [
      | in-Some w ↦
          let held = subst (λ f. IfSome f (HoldsPage {K = g.row.K} s.capacity page n)) w.in-Some.is c.held_of-found.ensures.held in
          let here = w.mark_page.ensures s.capacity (bucket_told g.row.K page) held.spelled (sym held.count_is) in
          subst (λ f. OnSome f (P c.match-found.marks)) (sym w.in-Some.is) (subst P (sym w.marks-is) (subst (λ (p : List ℕ). MarksKeys (keys_in (bucket_told g.row.K p).rows) c.args.marks.now w.mark_page.new.marks) at here))
      | in_default w ↦ subst (λ f. OnSome f (P c.match-found.marks)) (sym w.in_default.is) tt
    ]
