use Rattle.std.proofs.Common.{◌≡◌, ◌∙◌, ap, sym, subst, refl}
use Rattle.disk_trait.specs.Bay.{Tells}
use Rattle.disk_memory.specs.Memories.{reads_of}
use Rattle.disk_memory.specs.Bays.{place_of_disk}
use Rattle.disk_memory.proofs.Places.{found_place}
use Rattle.disk_memory.proofs.bay.MemoryBay.bytes.Goals as goal

pub returns-in_default-clause-none : goal.returns-in_default-clause-none
returns-in_default-clause-none c = λ d home. let absent = c.in_default.ensures.absent.0 refl in cc

pub returns-in-Some-disk-clause-found : goal.returns-in-Some-disk-clause-found
returns-in-Some-disk-clause-found c =
    let there = found_place _ _ _ c.index.result.now (sym c.in-Some.ensures.first) ∙ ap (λ e. place_of_disk e.disk) (sym c.index.ensures) ∙ ap place_of_disk c.in-Some-disk.is in
    subst (Tells (λ d. c.bytes.result.now ≡ reads_of d)) (sym there) c.bytes.ensures

pub returns-in-None-clause-none : goal.returns-in-None-clause-none
returns-in-None-clause-none c = λ d home.
    let there = found_place _ _ _ c.index.result.now (sym c.in-Some.ensures.first) ∙ ap (λ e. place_of_disk e.disk) (sym c.index.ensures) ∙ ap place_of_disk c.in-None.is in cc
