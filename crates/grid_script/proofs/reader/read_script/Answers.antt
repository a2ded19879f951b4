use Rattle.std.proofs.Common.{◌≤◌, length, sym, subst, true≢false}
use Rattle.grid_script.proofs.Faults.{same_fault}
use Rattle.grid_script.proofs.Taking.{few-asked, fault-short, lines-read}
use Rattle.grid_script.proofs.reader.read_script.Goals as goal

pub returns-in_err-list-clause-fault : goal.returns-in_err-list-clause-fault
returns-in_err-list-clause-fault g c = λ n is.
    let told = same_fault c.from_residual.result _ _ c.from_residual.ensures.1 is in
    fault-short c.args.bytes.now n (λ long. true≢false (sym (c.if-is_too_long.ensures.long.1 long))) (c.in_err-list.ensures.fault n told)

pub returns-clause-count : goal.returns-clause-count
returns-clause-count g c =
    let asked = c.in_ok-list.list.items in
    let few = few-asked c.args.bytes.now asked (lines-read c.args.bytes.now asked c.if-is_too_long.ensures.test c.in_ok-list.ensures.read) in
    subst (λ ls. length ls ≤ length c.args.bytes.now) (sym c.of.ensures) few
