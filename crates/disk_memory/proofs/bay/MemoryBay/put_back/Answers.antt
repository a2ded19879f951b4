use Rattle.std.proofs.Common.{refl, sym}
use Rattle.disk_memory.proofs.Places.{changed_place, changed_others}
use Rattle.disk_memory.proofs.bay.MemoryBay.put_back.Goals as goal

pub returns-in-Some-clause-home : goal.returns-in-Some-clause-home
returns-in-Some-clause-home c = changed_place _ _ _ c.index_mut.result.now _ (sym c.in-Some.ensures.first) c.index_mut.ensures.value refl

pub returns-in-Some-clause-others : goal.returns-in-Some-clause-others
returns-in-Some-clause-others c = changed_others _ _ _ c.index_mut.result.now _ (sym c.in-Some.ensures.first) c.index_mut.ensures.value refl
