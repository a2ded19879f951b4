use Rattle.std.proofs.Common.{◌∙◌, ◌+◌, ℕ, List, Result, sym, ap, subst}
use Rattle.grid_types.specs.declared.request.Line.{Line}
use Rattle.grid_model.specs.Script.{Meaning, asked}
use Rattle.grid_script.specs.Reading.{so_far}
use Rattle.grid_script.specs.Taken.{AreTaken}
use Rattle.grid_script.specs.declared.reader.Reading.{Reading}
use Rattle.grid_script.proofs.Askings.{taken-silent, taken-speaks, taken-asks}
use Rattle.grid_script.proofs.Taking.{taken-more}
use Rattle.grid_script.proofs.reader.Reading.take.Goals as goal
use Rattle.grid_script.proofs.reader.Reading.take.Goals.{in-Silent, in-Speaks, in-Asks+in_ok-add-in-Asks}

-- how it is read on where the next line has been counted
abbrev read_past : {K : ℕ} → List (Meaning K) → Reading K → Result (List (Line K)) ℕ
read_past ms r = so_far r.list.items (asked (r.number + 1) r.client ms)

pub returns-clause-read : goal.returns-clause-read
returns-clause-read g c = λ ms.
    let old = c.args.self.now in
    elim c.match-said.branch [
      | in-Silent w ↦ taken-silent old.list.items old.number old.client c.args.said ms w.in-Silent.is ∙ ap (read_past ms) (sym w.self-is)
      | in-Speaks w ↦ taken-speaks old.list.items old.number old.client w.in-Speaks.client c.args.said ms w.in-Speaks.is ∙ ap (read_past ms) (sym w.self-is)
      | in-Asks+in_ok-add-in-Asks w ↦
          taken-asks old.list.items w.add.new.self.list.items old.number old.client w.in-Asks.request c.args.said ms w.in-Asks.is w.in_ok-add-in-Asks.ensures.added
          ∙ ap (λ n. so_far w.add.new.self.list.items (asked (n + 1) old.client ms)) (sym w.add.ensures.number)
          ∙ ap (λ n. so_far w.add.new.self.list.items (asked (w.add.new.self.number + 1) n ms)) (sym w.add.ensures.client)
          ∙ ap (read_past ms) (sym w.self-is)
    ]

-- the lines that are read are taken
abbrev TakenIn : {K : ℕ} → Reading K → Type 0
TakenIn r = AreTaken r.list.items

pub returns-clause-taken : goal.returns-clause-taken
returns-clause-taken g c = λ before.
    let old = c.args.self.now in
    elim c.match-said.branch [
      | in-Silent w ↦ subst TakenIn (sym w.self-is) before
      | in-Speaks w ↦ subst TakenIn (sym w.self-is) before
      | in-Asks+in_ok-add-in-Asks w ↦
          let added = w.in_ok-add-in-Asks.ensures in
          subst TakenIn (sym w.self-is) (taken-more old.list.items w.add.new.self.list.items old.client w.in-Asks.request added.added added.passed before)
    ]
