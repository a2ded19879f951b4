use Rattle.std.proofs.Common.{◌∙◌, drop, sym, ap, arith}
use Rattle.std.proofs.lemmas.Bool.{false≢true}
use Rattle.page_fields.specs.Fields.{number}
use Rattle.bucket_page.specs.declared.head.Head.{Head}
use Rattle.bucket_page.proofs.OnPage.{length-rows}
use Rattle.bucket_page.proofs.Judged.{spelled_by, sound_of}
use Rattle.bucket_page.proofs.judging.judge.Goals as goal

pub returns-then-capacity-head-clause-none : goal.returns-then-capacity-head-clause-none
returns-then-capacity-head-clause-none g c = λ b s.
    let p = sound_of g.row.K c.args.capacity c.args.page.now b c.read_head-head.result c.requires.few c.requires.lawful c.fits-page c.read_head-head.ensures s in
    omega (arith, p.0, c.if-capacity-head.true)

pub returns-then-is_sound-clause-spelled : goal.returns-then-is_sound-clause-spelled
returns-then-is_sound-clause-spelled g c =
    spelled_by g.row.K c.args.capacity c.args.page.now c.read_head-head.result c.requires.few c.requires.lawful c.told-page c.fits-page c.read_head-head.ensures (omega (arith, c.if-capacity-head.false)) (c.is_sound.ensures.0 c.if-is_sound.true)

pub returns-then-is_sound-clause-records : goal.returns-then-is_sound-clause-records
returns-then-is_sound-clause-records g c =
    let page = c.args.page.now in
    length-rows g.row.K page 96 (number 2 (drop 8 page)) ∙ sym (ap (λ (h : Head g.row.K). h.count) c.read_head-head.ensures)

pub returns-else-is_sound-clause-none : goal.returns-else-is_sound-clause-none
returns-else-is_sound-clause-none g c = λ b s.
    let p = sound_of g.row.K c.args.capacity c.args.page.now b c.read_head-head.result c.requires.few c.requires.lawful c.fits-page c.read_head-head.ensures s in
    false≢true (sym c.if-is_sound.false ∙ c.is_sound.ensures.1 p.1)
