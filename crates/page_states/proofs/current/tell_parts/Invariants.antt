use Rattle.std.proofs.Common.{◌≡◌, length}
use Rattle.grid_types.specs.declared.owner.Owner.TheVariants.{Part}
use Rattle.page_states.specs.Current.{TellsPages}
use Rattle.page_states.proofs.current.tell_parts.Given as goal

abbrev pub invariant-loop-n : goal.invariant-loop-n
invariant-loop-n l = record {
  told : TellsPages Part l.nowhere l.table.states.items l.out l.n;
  count : length l.out ≡ length l.fn.out;
}
