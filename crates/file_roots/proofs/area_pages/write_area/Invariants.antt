use Rattle.std.proofs.Common.{◌≡◌, ◌<◌, ℕ, IsTrue}
use Rattle.grid_types.specs.Pages.{page_of}
use Rattle.grid_model.specs.Images.{area_spelling}
use Rattle.disk_trait.specs.Calls.{Changes}
use Rattle.linear_scales.specs.Roots.{area_of}
use Rattle.grid_types.specs.Ranges.{own_page}
use Rattle.file_roots.specs.Places.{AreaAlone}
use Rattle.file_roots.proofs.area_pages.write_area.Given as goal

abbrev pub invariant-loop-i : goal.invariant-loop-i
invariant-loop-i g l = record {
  changes : Changes g.D.Disk (AreaAlone l.geometry.shape l.root.number) l.initial.disk l.disk;
  pages : IsTrue (g.D.Disk.honest l.initial.disk) → (k : ℕ) → k < l.i → page_of (own_page l.geometry.shape l.root.number k) (g.D.Disk.seen l.disk) ≡ area_spelling l.root.number (area_of l.root) k;
}
