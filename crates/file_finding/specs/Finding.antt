-- What is kept on a file that is found in an image, and what is promised of it.
use Rattle.std.specs.Prelude.{◌≡◌, ◌∷◌, [], ℕ, List, map, length, replicate, None, is_some}
use Rattle.grid_types.specs.declared.shape.Shape.{Shape}
use Rattle.grid_model.specs.Lists.{below, is_among}
use Rattle.grid_model.specs.LayoutLaws.{StandsOver}
use Rattle.grid_model.specs.Spellings.{LoggedBatch}
use Rattle.grid_model.specs.Tables.{Table}
use Rattle.grid_model.specs.Images.{last_gate, Found, IsFound, Stands}
use Rattle.grid_model.specs.Roots.{WholeRoot}
use Rattle.history_pages.specs.KnownPages.{AreaHolds}
use Rattle.layout_pages.specs.Holding.{named_by}
use Rattle.file_images.specs.Kept.{LooseHeader, Shut, Kept, used}
use Rattle.file_images.specs.Shows.{Shows}
use Rattle.file_images.specs.Meets.{MayBeClosed}
use Rattle.file_images.specs.Leads.{Standing, HasStanding, Lineage, LeadsAlong}

-- what was found in an image before anything is written: its shape, its newest root with the whole table area, the batches that join the root, and how many slots of each half are in use
pub record Finding (K : ℕ) : Type 0 where
  pub shape : Shape
  pub root : WholeRoot
  pub taken : List (LoggedBatch K)
  pub used_slots : List ℕ

-- this is kept on a file of which an image was found: the image shows it, also of the other header page; it is the root that was found, beside which none was tried, and the pages that the root names and no others, with the root's layout and table; nothing reads as fresh, and nothing is on the next slot; as many slots are used as were found in use; and the root leads along the batches that were taken to a standing
pub record IsFoundKept {K : ℕ} (image : List ℕ) (f : Finding K) (m : Standing K) (k : Kept K) (x : Lineage K) : Type 0 where
  pub shows : Shows k image
  pub loose : MayBeClosed k image (λ left. left ≡ image)
  pub shape_is : k.shape ≡ f.shape
  pub root_is : k.root ≡ f.root
  pub other_is : k.other ≡ LooseHeader None
  pub known : map is_some k.always ≡ map (is_among (named_by f.root.area)) (below f.shape.pages)
  pub holds : AreaHolds k.always f.root.area x.layout x.table
  pub stands : StandsOver f.shape x.layout x.table
  pub records : f.root.fields.records ≡ length x.table
  pub fresh_is : k.fresh ≡ replicate f.shape.pages None
  pub slots_are : f.used_slots ≡ used k 0 ∷ used k 1 ∷ []
  pub half_is : k.half ≡ 0
  pub next_is : k.next ≡ Shut
  pub reads_are : k.reads ≡ 0
  pub writes_are : k.writes ≡ 0
  pub along : LeadsAlong k f.root m x
  pub taken_are : x.taken ≡ f.taken

-- something is kept on a file of which an image was found, and leads to a standing that the image has: this table at this place
pub record FindsKept {K : ℕ} (image : List ℕ) (f : Finding K) (n : ℕ) (t : Table) : Type 0 where
  pub kept : Kept K
  pub standing : Standing K
  pub lineage : Lineage K
  pub found : IsFoundKept image f standing kept lineage
  pub place : standing.place ≡ n
  pub table : standing.table ≡ t
  pub has : HasStanding image standing

-- what was found in an image, as what a survey tells of it
abbrev pub finding_of : {K : ℕ} → Found K → Finding K
finding_of f = record {
  shape = f.shape;
  root = record { fields = f.root; area = f.area };
  taken = f.taken;
  used_slots = last_gate f.gates.first ∷ last_gate f.gates.second ∷ [];
}

-- whatever is found in an image that stands for a table at a place, it is found up to that place, and with it something that is kept and leads there
pub record StandingFinds (K : ℕ) : Type 0 where
  pub place : (image : List ℕ) (n : ℕ) (t : Table) (f : Found K) (front : ℕ) → Stands K image n t → IsFound image f front → front ≡ n
  pub kept : (image : List ℕ) (n : ℕ) (t : Table) (f : Found K) (front : ℕ) → Stands K image n t → IsFound image f front → FindsKept image (finding_of f) n t
