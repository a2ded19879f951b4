use Rattle.std.proofs.Common.{◌≡◌, length}
use Rattle.page_states.specs.Tables.{IsPageTable}
use Rattle.page_states.proofs.anchors.loosen_all.Given as goal

abbrev pub invariant-loop-table : goal.invariant-loop-table
invariant-loop-table l = record {
  table : IsPageTable l.table;
  states : l.table.states.items ≡ l.fn.table.states.items;
  second : l.table.second.place ≡ l.fn.table.second.place;
}

abbrev pub decreases-loop-table : goal.decreases-loop-table
decreases-loop-table l = length l.table.first.pages.items
