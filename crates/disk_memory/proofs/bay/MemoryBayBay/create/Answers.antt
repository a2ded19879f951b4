use Rattle.std.proofs.Common.{◌≡◌, rules}
use Rattle.disk_trait.specs.Bay.{Absent}
use Rattle.disk_memory.specs.Bays.{place_of}
use Rattle.disk_memory.proofs.Places.{counted_failure}
use Rattle.disk_memory.proofs.bay.MemoryBayBay.create.Goals as goal

pub returns-then-is_chosen-clause-cause : goal.returns-then-is_chosen-clause-cause
returns-then-is_chosen-clause-cause c =
    let absent : place_of c.args.self.now c.args.name.now ≡ Absent = search rules in
    counted_failure _ _ _ _ (λ there. there absent) c.count_failure.ensures.later c.count_failure.ensures.counted

pub returns-in_default-clause-cause : goal.returns-in_default-clause-cause
returns-in_default-clause-cause c =
    let absent : place_of c.args.self.now c.args.name.now ≡ Absent = search rules in
    counted_failure _ _ _ _ (λ there. there absent) c.count_failure-in_default.ensures.later c.count_failure-in_default.ensures.counted

pub returns-in-Err-clause-cause : goal.returns-in-Err-clause-cause
returns-in-Err-clause-cause c =
    let same = c.add_entry.ensures.failures in
    let counted = c.count_failure-in-Err.ensures in
    let absent : place_of c.args.self.now c.args.name.now ≡ Absent = search rules in
    counted_failure _ _ _ _ (λ there. there absent) (rw same at counted.later) (rw same at counted.counted)
