use Rattle.std.proofs.Common.{◌≡◌, ◌∙◌, List, ℕ, slice_index, sym, ap, subst, arith}
use Rattle.grid_types.specs.Pages.{page_of}
use Rattle.grid_types.specs.Shapes.{data_page}
use Rattle.grid_types.proofs.Places.{within-limits}
use Rattle.grid_model.specs.Buckets.{SpellsBucket}
use Rattle.grid_model.specs.Images.{entry_page}
use Rattle.bucket_page.specs.OnPage.{bucket_told}
use Rattle.grid_check.specs.Dumps.{put_all}
use Rattle.grid_check.proofs.gathering.put_bucket.Goals as goal

pub held_of-requires : goal.held_of-requires
held_of-requires g c =
    let s = c.args.geometry.now in
    (omega (arith, c.requires.few), (c.requires.few, (within-limits s.shape s.lawful).small_capacity))

pub put_page-requires : goal.put_page-requires
put_page-requires g c =
    let s = c.args.geometry.now in
    let held = c.in-Some.ensures.held in
    (omega (arith, c.requires.few), (omega (arith, held.count_is, held.spelled.lawful.count, (within-limits s.shape s.lawful).small_capacity), c.requires.few))

pub returns-in-Ok-put_page-clause-put : goal.returns-in-Ok-put_page-clause-put
returns-in-Ok-put_page-clause-put g c = λ h good.
    let s = c.args.geometry.now.shape in
    let image = g.D.Disk.seen c.args.disk.now in
    let table = c.args.pages.now.items in
    let n = c.args.number in
    let page = c.read_page.new.out in
    let held = c.in-Some.ensures.held in
    let at : page ≡ entry_page s image table n = c.in-Ok.ensures.bytes h ∙ ap (λ p. page_of p image) (c.data_page-at.ensures.value ∙ ap (λ l. data_page s (slice_index l n)) c.list.ensures.value) in
    let put = c.in-Ok-put_page.ensures s.capacity (bucket_told g.row.K page) held.spelled (sym held.count_is) in
    record {
      spelled = subst (λ (p : List ℕ). SpellsBucket s.capacity p (bucket_told g.row.K p)) at held.spelled;
      number_is = ap (λ (p : List ℕ). (bucket_told g.row.K p).number) (sym at) ∙ held.number_is;
      put = put ∙ ap (λ (p : List ℕ). put_all c.args.table.now.entries (bucket_told g.row.K p).rows) at;
    }
