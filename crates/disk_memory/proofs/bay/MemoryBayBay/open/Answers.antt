use Rattle.std.proofs.Common.{◌≡◌, ◌∙◌, inr, ap, sym, subst, refl}
use Rattle.disk_trait.specs.Bay.{Tells, Home}
use Rattle.disk_memory.specs.Memories.{chosen_of, dirty_of}
use Rattle.disk_memory.specs.Fuses.{IsAs}
use Rattle.disk_memory.specs.Bays.{place_of_disk, place_among}
use Rattle.disk_memory.proofs.Places.{found_place, changed_place, changed_others, counted_failure, unfailed_same}
use Rattle.disk_memory.proofs.bay.MemoryBayBay.open.Goals as goal

pub returns-then-is_chosen-clause-cause : goal.returns-then-is_chosen-clause-cause
returns-then-is_chosen-clause-cause c = counted_failure _ _ _ _ (λ absent. let none = c.in-Some.ensures.absent.1 absent in cc) c.count_failure.ensures.later c.count_failure.ensures.counted

-- the disk that lay under the name
lay_there : (c : goal.After-unfailed) → place_among c.args.self.now.entries.items c.args.name.now ≡ Home c.in-Some-take.disk
lay_there c = found_place _ _ _ c.index_mut.result.now (sym c.in-Some.ensures.first) ∙ ap (λ e. place_of_disk e.disk) (sym c.index_mut.ensures.value) ∙ ap place_of_disk (sym c.in-Some-take.ensures.value)

pub returns-in-Some-take-clause-same : goal.returns-in-Some-take-clause-same
returns-in-Some-take-clause-same c = subst (Tells (IsAs c.unfailed.result)) (sym (lay_there c))
    (record { tells = unfailed_same c.in-Some-take.disk c.unfailed.result c.unfailed.ensures; dirty = ap dirty_of c.unfailed.ensures; chosen = ap chosen_of c.unfailed.ensures })

pub returns-in-None-clause-failed : goal.returns-in-None-clause-failed
returns-in-None-clause-failed c =
    let is_out = found_place _ _ _ c.index_mut.result.now (sym c.in-Some.ensures.first) ∙ ap (λ e. place_of_disk e.disk) (sym c.index_mut.ensures.value) ∙ ap place_of_disk (sym c.in-None.ensures.value) in
    inr (λ d home. cc)

pub returns-in-Some-take-clause-out : goal.returns-in-Some-take-clause-out
returns-in-Some-take-clause-out c = changed_place _ _ _ c.index_mut.result.now _ (sym c.in-Some.ensures.first) c.index_mut.ensures.value refl ∙ ap place_of_disk c.take.ensures.after

pub returns-in-Some-take-clause-others : goal.returns-in-Some-take-clause-others
returns-in-Some-take-clause-others c = changed_others _ _ _ c.index_mut.result.now _ (sym c.in-Some.ensures.first) c.index_mut.ensures.value refl

pub returns-in-None-clause-cause : goal.returns-in-None-clause-cause
returns-in-None-clause-cause c = counted_failure _ _ _ _ (λ absent. let none = c.in-Some.ensures.absent.1 absent in cc) c.count_failure-in-None.ensures.later c.count_failure-in-None.ensures.counted
