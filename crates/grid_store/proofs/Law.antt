-- The law of stores.
use Rattle.std.proofs.Common.{ℕ, IsTrue}
use Rattle.disk_trait.specs.declared.disk.Disk.{Ghosts}
use Rattle.grid_store.specs.Laws.{StoreTells}
use Rattle.grid_store.proofs.Pinning.{crash_at, front_at, held_at}
use Rattle.grid_store.proofs.Staying.{alone_at}

module _ {K : ℕ} {D : Type 0} (g : Ghosts D) (law : (d : D) → IsTrue (g.honest d) → g.may_leave d (g.seen d)) where
  pub store_tells : StoreTells K g
  store_tells = record {
    lone = alone_at g;
    front = λ s p is. front_at g s.file.books p s.file.disk is.file;
    table = λ s p is. let stands = (held_at g s.file.books p s.file.disk is.file).1.stands in record { table = stands.table; keys = stands.keys; values = stands.values };
    crash = λ s p told is. crash_at g s.file.books p s.file.disk is.file told;
    read = λ s p told is. crash_at g s.file.books p s.file.disk is.file told (g.seen s.file.disk) (law s.file.disk told);
  }
