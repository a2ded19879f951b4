-- An image stands for one place, one table and one layout at most.
use Rattle.std.proofs.Common.{◌≡◌, ◌≤◌, ℕ, List, fold, flat_map, IsTrue, sym, ap, subst, ◌∙◌}
use Rattle.grid_types.specs.declared.shape.Shape.{Shape}
use Rattle.grid_types.specs.declared.sizes.TheConstants.{MOST_ATTRIBUTES}
use Rattle.grid_types.specs.Shapes.{is_shape}
use Rattle.grid_types.proofs.Places.{within-limits}
use Rattle.grid_model.specs.Tables.{Table}
use Rattle.grid_model.specs.Layouts.{Layout, IsSound}
use Rattle.grid_model.specs.Lawful.{Area}
use Rattle.grid_model.specs.Spellings.{RootFields, LoggedBatch, BucketOf}
use Rattle.grid_model.specs.Images.{HasShape, IsNewest, HasArea, HasGates, HasBatches, HasBuckets, Gates, Join, of_session, open_slots, AreRecordsOf, Found, IsFound, Reads, PagesSpell, IsShaped, logged_effect, layout_after}
use Rattle.journal_slots.proofs.OneScan.{the_gates, one_list}
use Rattle.file_roots.proofs.Unique.{one_newest_root, one_table_area, one_file_shape}
use Rattle.file_images.specs.Laws.{StandsOnce}
use Rattle.file_images.proofs.Joining.{one_join}
use Rattle.file_images.proofs.Buckets.{one_list_of_buckets}
use Rattle.file_images.proofs.Layouts.{one_layout}

-- what two findings in one image have in common
pub record AreSame {K : ℕ} (f g : Found K) (n m : ℕ) : Type 0 where
  pub shape : f.shape ≡ g.shape
  pub root : f.root ≡ g.root
  pub area : f.area ≡ g.area
  pub taken : f.taken ≡ g.taken
  pub place : n ≡ m

few_attributes : (K : ℕ) (image : List ℕ) (s : Shape) → HasShape K image s → K ≤ MOST_ATTRIBUTES
few_attributes K image s x = subst (λ k. k ≤ MOST_ATTRIBUTES) x.attributes (within-limits s x.lawful).few_attributes

module _ {K : ℕ} (s : Shape) (image : List ℕ) (lawful : IsTrue (is_shape s)) (few : K ≤ MOST_ATTRIBUTES) where
  same_gates : (g h : Gates) → HasGates s image g → HasGates s image h → g ≡ h
  same_gates g h x y =
      let first = the_gates s image 0 g.first x.first ∙ sym (the_gates s image 0 h.first y.first) in
      let second = the_gates s image 1 g.second x.second ∙ sym (the_gates s image 1 h.second y.second) in
      λ i. record { first = first i; second = second i }

  -- the same batches are taken, up to the same place
  same_taken : (r : RootFields) (g : Gates) (n m : ℕ) (bs cs xs ys : List (LoggedBatch K)) → HasBatches s image (open_slots g) bs → HasBatches s image (open_slots g) cs
      → Join (of_session r.session bs) r.front xs n → Join (of_session r.session cs) r.front ys m → (n ≡ m) × (xs ≡ ys)
  same_taken r g n m bs cs xs ys x y join more =
      let same : bs ≡ cs = one_list s image few (open_slots g) bs cs x y in
      one_join (of_session r.session bs) r.front n m xs ys join (subst (λ zs. Join (of_session r.session zs) r.front ys m) (sym same) more)

  same_table : (a : Area) (bs cs : List (BucketOf K)) (t u : Table) → HasBuckets s image a.table bs → HasBuckets s image a.table cs → AreRecordsOf bs t → AreRecordsOf cs u → t ≡ u
  same_table a bs cs t u x y are be =
      let same : bs ≡ cs = one_list_of_buckets s image a.table few (within-limits s lawful).small_capacity bs cs x y in
      sym are.all ∙ (subst (λ zs. AreRecordsOf zs u) (sym same) be).all

module _ {K : ℕ} (image : List ℕ) where
  -- one finding is the other, where both are of one shape and one root
  same_found : (f g : Found K) (n m : ℕ) → IsFound image f n → IsFound image g m → AreSame f g n m
  same_found f g n m x y =
      let shape = one_file_shape K K image f.shape g.shape x.shape y.shape in
      let few = few_attributes K image f.shape x.shape in
      let root = one_newest_root f.shape image f.root g.root x.shape.lawful x.root (subst (λ s. IsNewest s image g.root) (sym shape) y.root) in
      let area = one_table_area f.shape image f.root f.area g.area x.shape.lawful x.root.opens.lawful x.area (subst (λ (p : Shape × RootFields). HasArea p.0 image p.1 g.area) (λ i. (sym shape i, sym root i)) y.area) in
      let gates = same_gates f.shape image x.shape.lawful few f.gates g.gates x.gates (subst (λ s. HasGates s image g.gates) (sym shape) y.gates) in
      let there = subst (λ (p : Shape × Gates). HasBatches p.0 image (open_slots p.1) g.batches) (λ i. (sym shape i, sym gates i)) y.batches in
      let taken = same_taken f.shape image x.shape.lawful few f.root f.gates n m f.batches g.batches f.taken g.taken x.batches there x.taken (subst (λ (r : RootFields). Join (of_session r.session g.batches) r.front g.taken m) (sym root) y.taken) in
      record { shape = shape; root = root; area = area; taken = taken.1; place = taken.0 }

  same_reading : (n m : ℕ) (s t : Table) → (x : Reads K image n s) (y : Reads K image m t) → s ≡ t
  same_reading n m s t x y =
      let f = x.found in
      let g = y.found in
      let is = same_found f g n m x.makes.is_found y.makes.is_found in
      let few = few_attributes K image f.shape x.makes.is_found.shape in
      let there = subst (λ (p : Shape × Area). HasBuckets p.0 image p.1.table g.buckets) (λ i. (sym is.shape i, sym is.area i)) y.makes.buckets in
      let base : f.table ≡ g.table = same_table f.shape image x.makes.is_found.shape.lawful few f.area f.buckets g.buckets f.table g.table x.makes.buckets there x.makes.records y.makes.records in
      x.makes.table ∙ (λ i. fold logged_effect (base i) (flat_map (λ (b : LoggedBatch K). b.updates) (is.taken i))) ∙ sym y.makes.table

  same_layout : (L M : Layout K) → IsShaped image L → IsShaped image M → L ≡ M
  same_layout L M x y =
      let f = x.reads.found in
      let g = y.reads.found in
      let is = same_found f g x.place y.place x.reads.makes.is_found y.reads.makes.is_found in
      let has = x.reads.makes.is_found.shape in
      let scales : x.layout.scales ≡ y.layout.scales = x.root.scales ∙ ap (λ a. a.scales) is.area ∙ sym y.root.scales in
      let there = subst (λ (p : Shape × Area). PagesSpell p.0 image p.1.parts p.1.table y.layout g.table) (λ i. (sym is.shape i, sym is.area i)) y.root.pages in
      let sound = subst (λ s. IsSound s y.layout g.table) (sym is.shape) y.root.sound in
      let root : x.layout ≡ y.layout = one_layout f.shape image f.area.parts f.area.table (few_attributes K image f.shape has) (within-limits f.shape has.lawful).small_capacity x.layout y.layout f.table g.table scales x.root.sound sound x.root.pages there in
      x.after ∙ (λ i. layout_after (root i) (flat_map (λ (b : LoggedBatch K). b.updates) (is.taken i))) ∙ sym y.after

-- an image stands for one thing
pub stands-once : {K : ℕ} → StandsOnce K
stands-once = record {
  place = λ image n m s t x y. (same_found image x.found y.found n m x.makes.is_found y.makes.is_found).place;
  table = λ image n m s t x y. same_reading image n m s t x y;
  layout = same_layout;
}
