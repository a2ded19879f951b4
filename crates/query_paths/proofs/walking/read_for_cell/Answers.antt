use Rattle.std.proofs.Common.{◌∙◌, sym, arith}
use Rattle.grid_model.specs.Expected.{SoughtCell}
use Rattle.query_paths.specs.Calls.{place}
use Rattle.query_paths.specs.Readings.{IsGoodBucket, Unexpected}
use Rattle.query_paths.proofs.CellKeys.{AreKeysOf, has-all, lacks-one}
use Rattle.query_paths.proofs.Judged.{has-bucket, not-expected}
use Rattle.query_paths.proofs.walking.read_for_cell.Goals as goal

pub returns-then-has_corners-clause-read : goal.returns-then-has_corners-clause-read
returns-then-has_corners-clause-read g c =
    let p = place g.Q.Pinned c.args.pinned.now in
    let good : IsGoodBucket g.row.K p c.args.number c.read_spelled.new.page c.in_ok-at.at c.in_ok-at.head = c.in_ok-at.ensures.read in
    let keys : AreKeysOf g.row.K p.scales c.args.cell.now c.keys_of-keys.result = record { some = c.keys_of-keys.ensures.some; same = c.keys_of-keys.ensures.keys } in
    record {
      named = good.named;
      has = has-bucket p c.args.number (SoughtCell p.scales c.args.cell.now) c.read_spelled.new.page c.in_ok-at.at c.in_ok-at.head good (has-all p.scales c.args.cell.now c.keys_of-keys.result c.in_ok-at.head.region keys (sym c.has_corners.ensures ∙ c.if-has_corners.true));
      few = omega (arith, good.fits, good.few);
      rows = good.rows;
    }

pub returns-else-has_corners-clause-read : goal.returns-else-has_corners-clause-read
returns-else-has_corners-clause-read g c =
    let p = place g.Q.Pinned c.args.pinned.now in
    let good : IsGoodBucket g.row.K p c.args.number c.read_spelled.new.page c.in_ok-at.at c.in_ok-at.head = c.in_ok-at.ensures.read in
    let keys : AreKeysOf g.row.K p.scales c.args.cell.now c.keys_of-keys.result = record { some = c.keys_of-keys.ensures.some; same = c.keys_of-keys.ensures.keys } in
    let lacks = lacks-one p.scales c.args.cell.now c.keys_of-keys.result c.in_ok-at.head.region keys (sym c.has_corners.ensures ∙ c.if-has_corners.false) in
    Unexpected (record {
      named = good.named;
      page = good.page;
      not_expected = not-expected p c.args.number (SoughtCell p.scales c.args.cell.now) c.read_spelled.new.page c.in_ok-at.at c.in_ok-at.head c.requires.few good lacks.key lacks.sought lacks.out;
    })
