-- What is kept on a file that is found in an image, and that the image shows it.
use Rattle.std.proofs.Common.{◌≡◌, ◌<◌, ◌≤◌, ℕ, zero, suc, List, length, refl, sym, ap, ◌∙◌, arith}
use Rattle.std.specs.Prelude.{None, replicate, slice_get}
use Rattle.grid_model.specs.Spellings.{LoggedBatch}
use Rattle.grid_model.specs.Images.{HasBatches, written_slots, last_gate, Found, IsFound}
use Rattle.grid_model.specs.Roots.{WholeRoot}
use Rattle.file_images.specs.Kept.{LooseHeader, PlacedBatch, Shut, Kept, on_half, used}
use Rattle.file_images.specs.Shows.{Shows}
use Rattle.file_images.specs.Meets.{MayBeClosed}
use Rattle.file_finding.proofs.Pages.{pages_held, image_holds}
use Rattle.file_finding.proofs.Roots.{roots_shown, loose_under}
use Rattle.file_finding.proofs.Slots.{placed_on, length_placed, placed_half, gates_of, begin_of, few_placed, zero_behind, gate_formed, placed_shown}

module _ {K : ℕ} (image : List ℕ) (f : Found K) (n : ℕ) (is : IsFound image f n) (batches : List (LoggedBatch K)) (written : HasBatches f.shape image (written_slots f.gates) batches) where
  -- the root that is found
  abbrev pub root : WholeRoot
  root = record { fields = f.root; area = f.area }

  -- what is kept
  abbrev pub kept : Kept K
  kept = record {
    shape = f.shape;
    always = pages_held f.shape image f.area;
    fresh = replicate f.shape.pages None;
    root = root;
    other = LooseHeader None;
    first = placed_on batches f.gates.first 0;
    second = placed_on batches f.gates.second (last_gate f.gates.first);
    half = 0;
    next = Shut;
    reads = 0;
    writes = 0;
  }

  abbrev pub gates_on : ℕ → List ℕ
  gates_on = gates_of f.shape image f.gates batches is.shape.lawful is.gates written

  abbrev pub placed : ℕ → List (PlacedBatch K)
  placed = placed_half f.shape image f.gates batches is.shape.lawful is.gates written

  pub half_is : (h : ℕ) → h < 2 → on_half kept h ≡ placed h
  half_is zero two = refl
  half_is (suc zero) two = refl
  half_is (suc (suc h)) two = absurd (omega (arith, two))

  pub used_is : (h : ℕ) → h < 2 → used kept h ≡ last_gate (gates_on h)
  used_is h two = ap length (half_is h two) ∙ length_placed batches (gates_on h) (begin_of f.shape image f.gates batches is.shape.lawful is.gates written h)

  few_used : (h : ℕ) → h < 2 → used kept h ≤ f.shape.slots
  few_used h two = omega (arith, used_is h two, few_placed f.shape image f.gates batches is.shape.lawful is.gates written h two)

  -- the image shows it
  pub kept_shows : Shows kept image
  kept_shows = record {
    sizes = record { two = omega arith; first = few_used 0 (omega arith); second = few_used 1 (omega arith) };
    shape = is.shape;
    roots = roots_shown f.shape root image is.root is.area;
    pages = image_holds f.shape image f.area;
    formed = gate_formed f.shape image f.gates batches is.shape.lawful is.gates written;
    slots = λ h i p two at. placed_shown f.shape image f.gates batches is.shape.lawful is.gates written h i p two (ap (λ (xs : List (PlacedBatch K)). slice_get xs i) (sym (half_is h two)) ∙ at);
    unused = λ h i at. zero_behind f.shape image f.gates batches is.shape.lawful is.gates written h i at.two (omega (arith, at.behind, used_is h at.two)) at.inside;
    next = λ lt. zero_behind f.shape image f.gates batches is.shape.lawful is.gates written 0 (used kept 0) (omega arith) (omega (arith, used_is 0 (omega arith))) lt;
  }

  -- also of the other header page
  pub kept_loose : MayBeClosed kept image (λ left. left ≡ image)
  kept_loose = loose_under f.shape root image is.root
