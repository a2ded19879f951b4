use Rattle.std.proofs.Common.{◌≡◌, ◌*◌, ◌∙◌, ℕ, ap, replicate, subst}
use Rattle.std.specs.Prelude.{IfOk}
use Rattle.disk_trait.specs.Bay.{blank}
use Rattle.disk_memory.specs.Memories.{IsNewMemory}
use Rattle.disk_memory.proofs.memory.Memory.new.Goals as goal

pub returns-in_ok-vec-in-Some-clause-zeros : goal.returns-in_ok-vec-in-Some-clause-zeros
unfolding blank
returns-in_ok-vec-in-Some-clause-zeros c =
    let v = c.in_ok-vec-in-Some.field-0 in
    let zeros : v.items ≡ blank (c.args.pages * 4096) = c.in_ok-vec-in-Some.ensures.items_if_clones_equal (λ y e. e) ∙ ap (λ (n : ℕ). replicate n 0) c.in-Some.ensures.1 in
    subst (λ xs. IfOk c.of.result (IsNewMemory xs)) zeros c.of.ensures
