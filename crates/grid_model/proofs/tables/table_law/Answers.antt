use Rattle.grid_model.proofs.TableLaws.{same_tables, effect-table, put-there, put-elsewhere, gone-there, gone-elsewhere, update-there, update-elsewhere, removal-there, removal-elsewhere}
use Rattle.grid_model.proofs.tables.table_law.Goals as goal

pub returns : goal.returns
returns g c = record {
  same = same_tables;
  kept = effect-table;
  put_there = put-there;
  put_elsewhere = put-elsewhere;
  gone_there = gone-there;
  gone_elsewhere = gone-elsewhere;
  update_there = update-there;
  update_elsewhere = update-elsewhere;
  removal_there = removal-there;
  removal_elsewhere = removal-elsewhere;
}
