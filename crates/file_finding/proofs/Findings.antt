-- Two findings in one image are one.
use Rattle.std.proofs.Common.{◌≡◌, ◌≤◌, ◌∷◌, [], ℕ, List, sym, subst, ◌∙◌}
use Rattle.grid_types.specs.declared.shape.Shape.{Shape}
use Rattle.grid_types.specs.declared.sizes.TheConstants.{MOST_ATTRIBUTES}
use Rattle.grid_types.proofs.Places.{within-limits}
use Rattle.grid_model.specs.Spellings.{RootFields, LoggedBatch}
use Rattle.grid_model.specs.Images.{HasShape, IsNewest, HasArea, HasGates, HasBatches, Gates, Join, of_session, open_slots, last_gate, Found, IsFound}
use Rattle.journal_slots.proofs.OneScan.{the_gates, one_list}
use Rattle.file_roots.proofs.Unique.{one_newest_root, one_table_area, one_file_shape}
use Rattle.file_images.proofs.Joining.{one_join}
use Rattle.file_finding.specs.Finding.{finding_of}

-- a file has few attributes
pub few_attributes : (K : ℕ) (image : List ℕ) (s : Shape) → HasShape K image s → K ≤ MOST_ATTRIBUTES
few_attributes K image s x = subst (λ k. k ≤ MOST_ATTRIBUTES) x.attributes (within-limits s x.lawful).few_attributes

-- an image spells its gates in one way
same_gates : (s : Shape) (image : List ℕ) (g h : Gates) → HasGates s image g → HasGates s image h → g ≡ h
same_gates s image g h x y =
    let first = the_gates s image 0 g.first x.first ∙ sym (the_gates s image 0 h.first y.first) in
    let second = the_gates s image 1 g.second x.second ∙ sym (the_gates s image 1 h.second y.second) in
    λ i. record { first = first i; second = second i }

-- two findings are of the same, up to the same place
pub record AreOne {K : ℕ} (f g : Found K) (n m : ℕ) : Type 0 where
  pub place : n ≡ m
  pub finding : finding_of f ≡ finding_of g

-- and so are any two in one image
pub one_finding : {K : ℕ} (image : List ℕ) (f g : Found K) (n m : ℕ) → IsFound image f n → IsFound image g m → AreOne f g n m
one_finding {K} image f g n m x y =
    let shape = one_file_shape K K image f.shape g.shape x.shape y.shape in
    let few = few_attributes K image f.shape x.shape in
    let root = one_newest_root f.shape image f.root g.root x.shape.lawful x.root (subst (λ s. IsNewest s image g.root) (sym shape) y.root) in
    let area = one_table_area f.shape image f.root f.area g.area x.shape.lawful x.root.opens.lawful x.area (subst (λ (p : Shape × RootFields). HasArea p.0 image p.1 g.area) (λ i. (sym shape i, sym root i)) y.area) in
    let gates = same_gates f.shape image f.gates g.gates x.gates (subst (λ s. HasGates s image g.gates) (sym shape) y.gates) in
    let there = subst (λ (p : Shape × Gates). HasBatches p.0 image (open_slots p.1) g.batches) (λ i. (sym shape i, sym gates i)) y.batches in
    let batches : f.batches ≡ g.batches = one_list f.shape image few (open_slots f.gates) f.batches g.batches x.batches there in
    let join = subst (λ (p : RootFields × List (LoggedBatch K)). Join (of_session p.0.session p.1) p.0.front g.taken m) (λ i. (sym root i, sym batches i)) y.taken in
    let taken = one_join (of_session f.root.session f.batches) f.root.front n m f.taken g.taken x.taken join in
    record {
      place = taken.0;
      finding = λ i. record {
        shape = shape i;
        root = record { fields = root i; area = area i };
        taken = taken.1 i;
        used_slots = last_gate (gates i).first ∷ last_gate (gates i).second ∷ [];
      };
    }
