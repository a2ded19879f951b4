-- What a survey of a file finds.
use Rattle.std.specs.Prelude.{◌≡◌, ◌<◌, ◌≤◌, ◌+◌, ◌*◌, ◌^◌, ◌∷◌, [], ℕ, List, length, slice_index, flat_map, replicate}
use Rattle.grid_types.specs.declared.sizes.TheConstants.{PAGE_BYTES}
use Rattle.grid_types.specs.declared.shape.Shape.{Shape}
use Rattle.grid_types.specs.Shapes.{area_pages, file_pages}
use Rattle.grid_model.specs.Spellings.{LoggedBatch}
use Rattle.grid_model.specs.Images.{HasShape, Gates, HasGates, HasBatches, open_slots, of_session, last_gate, Found, IsFound}
use Rattle.grid_model.specs.Roots.{IsNewestWhole}
use Rattle.linear_scales.specs.Limited.{limits_of}
use Rattle.linear_scales.specs.Roots.{root_fields_of, area_of, whole_of, IsRoot}
use Rattle.journal_slots.specs.Scans.{AreLawfulOf}
use Rattle.recovery.specs.declared.journal.Journal.{Journal}
use Rattle.recovery.specs.declared.rooted.Rooted.{Rooted}
use Rattle.recovery.specs.declared.survey.Survey.{Survey}

-- the journal of a file for a session: both gate pages are spelled, so is the batch under each open gate, in order of half and slot, and of these they are those of the session; the slots in use are those up to the last gate that is not 0
pub record IsJournal {K : ℕ} (s : Shape) (image : List ℕ) (session : ℕ) (journal : Journal K) : Type 0 where
  pub gates : Gates
  pub spelled : HasGates s image gates
  pub all : List (LoggedBatch K)
  pub each : HasBatches s image (open_slots gates) all
  pub are : journal.batches ≡ of_session session all
  pub used : journal.used ≡ last_gate gates.first ∷ last_gate gates.second ∷ []

-- what a survey has found, beside these gates and the batches under open ones; no bucket was read
abbrev pub found_in : {K : ℕ} → Survey K → Gates → List (LoggedBatch K) → Found K
found_in survey gates batches = record {
  shape = survey.geometry.shape;
  root = root_fields_of survey.root;
  area = area_of survey.root;
  gates = gates;
  batches = batches;
  taken = survey.taken;
  buckets = [];
  table = [];
}

-- a survey tells what is found in an image: its shape, the newest root with its whole table area, and the batches that join it up to the survey's front; and the slots in use, up to the last gate of each half that is not 0
pub record IsSurvey {K : ℕ} (image : List ℕ) (survey : Survey K) : Type 0 where
  pub gates : Gates
  pub batches : List (LoggedBatch K)
  pub found : IsFound image (found_in survey gates batches) survey.front
  pub used : survey.used ≡ last_gate gates.first ∷ last_gate gates.second ∷ []

-- no more slots of each half are in use than it has
abbrev pub AreFewUsed : Shape → List ℕ → Type 0
AreFewUsed s used = (half : ℕ) → half < 2 → slice_index used half ≤ s.slots

-- what a journal tells is lawful, also of a disk that does not tell its content: no more slots are in use than there are, and each batch is lawful and of the session
pub record IsLawfulJournal {K : ℕ} (s : Shape) (session : ℕ) (journal : Journal K) : Type 0 where
  pub few : AreFewUsed s journal.used
  pub batches : AreLawfulOf session journal.batches

-- an image is a file of this shape, of K attributes, and this is its newest root with its whole table area
pub record IsRooted {K : ℕ} (image : List ℕ) (rooted : Rooted K) : Type 0 where
  pub shape : HasShape K image rooted.geometry.shape
  pub whole : IsNewestWhole rooted.geometry.shape (whole_of rooted.root) image

-- a shape and a root are lawful, also of a disk that does not tell its content: the shape is one of K attributes, whose pages are all there; the root is lawful, and its scales have the shape's limit
pub record IsLawfulRooted {K : ℕ} (extent : ℕ) (rooted : Rooted K) : Type 0 where
  pub attributes : rooted.geometry.shape.k ≡ K
  pub size : file_pages rooted.geometry.shape * PAGE_BYTES ≤ extent
  pub root : IsRoot rooted.geometry.shape rooted.root
  pub limits : limits_of rooted.root.scales ≡ replicate K rooted.geometry.shape.boundaries

-- what a survey tells is lawful, also of a disk that does not tell its content: the shape is one of K attributes, whose pages are all there; the root is lawful, and its scales have the shape's limit; each batch that was taken is lawful and of the root's session; the front is the root's and one more for each update that was taken, a place of 63 bits; and no more slots are in use than there are
pub record IsLawfulSurvey {K : ℕ} (extent : ℕ) (survey : Survey K) : Type 0 where
  pub attributes : survey.geometry.shape.k ≡ K
  pub size : file_pages survey.geometry.shape * PAGE_BYTES ≤ extent
  pub root : IsRoot survey.geometry.shape survey.root
  pub limits : limits_of survey.root.scales ≡ replicate K survey.geometry.shape.boundaries
  pub taken : AreLawfulOf survey.root.session survey.taken
  pub front_is : survey.front ≡ survey.root.front + length (flat_map (λ b. b.updates) survey.taken)
  pub small : survey.front < 2 ^ 63
  pub few : AreFewUsed survey.geometry.shape survey.used

-- how many pages a survey reads at most: both header pages, a table area, and both halves of the journal
abbrev pub survey_pages : Shape → ℕ
survey_pages s = 2 + area_pages s + (2 + 2 * s.slots)
