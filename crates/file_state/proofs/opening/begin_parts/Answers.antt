use Rattle.std.proofs.Common.{◌≡◌, ◌∙◌, ◌<◌, ℕ, List, ap, arith, length, map, filter, IsTrue}
use Rattle.grid_types.specs.declared.owner.Owner.TheVariants.{Part}
use Rattle.grid_model.specs.Lists.{below}
use Rattle.layout_pages.specs.Steps.{part_publication}
use Rattle.page_states.specs.Changes.{all_published}
use Rattle.page_states.specs.declared.page_state.PageState.{PageState}
use Rattle.file_state.specs.Openings.{is_named}
use Rattle.file_state.proofs.Beginning.{begin_first, begin_one, named_if, all_named, HasBegun}
use Rattle.file_state.proofs.opening.begin_parts.Goals as goal

-- where all were walked through, all have begun
done : (at : ℕ) (parts : List ℕ) (initial states : List PageState) (p : ℕ) → HasBegun Part at parts initial states p → p ≡ length parts → ((k : ℕ) → k < length parts → IsTrue (is_named parts k))
    → states ≡ all_published at (map (part_publication parts) (below (length parts))) initial
done at parts initial states p begun end all =
    begun.made
    ∙ ap (λ (n : ℕ). all_published at (map (part_publication parts) (filter (is_named parts) (below n))) initial) end
    ∙ ap (λ (ns : List ℕ). all_published at (map (part_publication parts) ns) initial) (all_named parts all)

pub loop-p-init : goal.loop-p-init
loop-p-init c = begin_first Part c.args.at c.args.parts.now c.args.states.now c.requires.free

pub loop-p-preserved : goal.loop-p-preserved
loop-p-preserved c =
    begin_one Part c.args.at c.args.parts.now c.args.states.now c.loop-p.states c.loop-p.p c.loop-p.invariant c.begin.new.self
    (named_if c.args.parts.now c.loop-p.p (c.requires.named c.loop-p.p 0 c.loop-p-test.true)) c.loop-p-test.true c.requires.free.distinct c.begin.ensures

pub overflow_cast-p : goal.overflow_cast-p
overflow_cast-p c = omega (arith, c.requires.few, c.loop-p-test.true)

pub begin-requires-clause-free : goal.begin-requires-clause-free
begin-requires-clause-free c = c.loop-p.invariant.free c.loop-p.p (omega arith) c.loop-p-test.true (named_if c.args.parts.now c.loop-p.p (c.requires.named c.loop-p.p 0 c.loop-p-test.true))

pub returns : goal.returns
returns c = done c.args.at c.args.parts.now c.args.states.now c.loop-p.states c.loop-p.p c.loop-p.invariant (omega (arith, c.loop-p-test.false, c.loop-p.auto.p-end)) (λ k low. named_if c.args.parts.now k (c.requires.named k 0 low))
