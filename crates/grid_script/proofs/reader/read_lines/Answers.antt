use Rattle.std.proofs.Common.{◌≡◌, ◌∙◌, ◌∷◌, ℕ, List, length, map, sym, ap, arith}
use Rattle.std.proofs.lemmas.Bool.{eqb-true}
use Rattle.grid_model.specs.Script.{Meaning, meaning, meanings, asked, lines_of}
use Rattle.grid_script.specs.Reading.{meant, so_far}
use Rattle.grid_script.proofs.Askings.{all-taken}
use Rattle.grid_script.proofs.Faults.{same_fault}
use Rattle.grid_script.proofs.Taking.{follows-more, refused-next}
use Rattle.grid_script.proofs.reader.read_lines.Goals as goal

-- what the lines of a text say, where its first line was read
said-first : {K : ℕ} (text line rest : List ℕ) (said : Meaning K) → lines_of text ≡ line ∷ lines_of rest → said ≡ meaning K line → meanings K text ≡ said ∷ meanings K rest
said-first {K} text line rest said e is = ap (map (meaning K)) e ∙ ap (λ (m : Meaning K). m ∷ meanings K rest) (sym is)

pub returns-in_err-take-clause-fault : goal.returns-in_err-take-clause-fault
returns-in_err-take-clause-fault g c = λ n is.
    let before = c.loop-rest.invariant in
    let reading = c.loop-rest.reading in
    let rest = c.loop-rest.rest.now in
    let after = c.first_line.result.1.now in
    let next = said-first rest c.first_line.result.0.now after (meant c.meaning_of.result) c.first_line.ensures.lines c.meaning_of.ensures in
    let told = same_fault c.from_residual.result _ _ c.from_residual.ensures.1 is in
    refused-next c.args.bytes.now reading.client (meant c.meaning_of.result) (meanings g.row.K after) (meanings g.row.K rest) reading.number n before.some (c.in_err-take.ensures.fault n told) next (c.in_err-take.ensures.refused n told) before.follows

pub loop-rest-preserved : goal.loop-rest-preserved
loop-rest-preserved g c =
    let before = c.loop-rest.invariant in
    let reading = c.loop-rest.reading in
    let rest = c.loop-rest.rest.now in
    let after = c.first_line.result.1.now in
    let all = meanings g.row.K c.args.bytes.now in
    let done = c.in_ok-take.ensures in
    let next = said-first rest c.first_line.result.0.now after (meant c.meaning_of.result) c.first_line.ensures.lines c.meaning_of.ensures in
    record {
      some = omega (arith, done.number);
      room = omega (arith, before.room, done.number, c.first_line.ensures.shorter);
      so_far = before.so_far ∙ ap (λ ms. so_far reading.list.items (asked reading.number reading.client ms)) next ∙ done.read (meanings g.row.K after);
      taken = done.taken before.taken;
      follows = follows-more all reading.client (meant c.meaning_of.result) (meanings g.row.K after) (meanings g.row.K rest) reading.number before.some next done.passed before.follows c.take.new.self.client c.take.new.self.number done.speaker done.number;
    }

pub returns-clause-read : goal.returns-clause-read
returns-clause-read g c =
    let reading = c.loop-rest.reading in
    let rest = c.loop-rest.rest.now in
    let none : length rest ≡ 0 = eqb-true (length rest) 0 (sym c.is_empty.ensures ∙ c.loop-rest-test.false) in
    c.loop-rest.invariant.so_far ∙ all-taken reading.list.items reading.number reading.client rest none
