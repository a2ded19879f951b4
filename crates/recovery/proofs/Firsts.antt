-- Which refusals are first faults, and what makes a survey.
use Rattle.std.proofs.Common.{◌≡◌, ◌⊎◌, ◌∙◌, inl, inr, ℕ, List, sym, subst, Result, Ok, Err}
use Rattle.std.specs.Prelude.{IsErrAnd, IfErr}
use Rattle.grid_types.specs.declared.shape.Shape.{Shape}
use Rattle.grid_types.specs.declared.refusal.Refusal.{Refusal}
use Rattle.grid_types.specs.declared.refusal.Refusal.TheVariants as refusal
use Rattle.grid_types.specs.Pages.{page_of}
use Rattle.grid_model.specs.Images.{HasShape, Join, open_slots}
use Rattle.grid_model.specs.Roots.{WholeRoot, IsNewestWhole}
use Rattle.linear_scales.specs.Roots.{whole_of}
use Rattle.journal_slots.specs.Scans.{IsRefusalOfScan}
use Rattle.file_roots.specs.Damage.{IsRootDamage}
use Rattle.file_roots.specs.Refusals.{MayRefuseReading}
use Rattle.recovery.specs.Beginnings.{BeginsWhole, IsShapeFault}
use Rattle.recovery.specs.Faults.{IsJournalDamage, IsFirstFault, IsNoFaultOr, HasNewestRoot}
use Rattle.recovery.specs.Joins.{AreLawfulOrEmpty}
use Rattle.recovery.specs.Surveys.{IsRooted, IsJournal, IsSurvey}
use Rattle.recovery.specs.declared.journal.Journal.{Journal}
use Rattle.recovery.specs.declared.rooted.Rooted.{Rooted}
use Rattle.recovery.specs.declared.survey.Survey.{Survey}
use Rattle.recovery.proofs.Halves.{session_lawful}
use Rattle.recovery.proofs.OneAnswer.{one_shape_spelled}

-- what holds of a refusal is said of the result that it goes on in
pub on_refusal : {T : Type 0} (P : Refusal → Type 0) (result : Result T Refusal) (e : Refusal) → IsErrAnd result (λ x. x ≡ e) → P e → IfErr result P
on_refusal P (Ok x) e goes p = tt
on_refusal P (Err x) e goes p = subst P (sym goes) p

module _ (K : ℕ) (image : List ℕ) where
  -- why an image has no shape is its first fault
  shape_first : (e : Refusal) → IsShapeFault image e → IsFirstFault K image e
  shape_first (refusal.Damaged page) bad = inl bad
  shape_first (refusal.Arity found) bad = absurd bad
  shape_first other bad = bad

  pub after_shape : (e : Refusal) → (e ≡ refusal.ReadFault) ⊎ IsShapeFault image e → IsNoFaultOr (IsFirstFault K image) e
  after_shape e (inl fault) = inl fault
  after_shape e (inr bad) = inr (inr (shape_first e bad))

  module _ (s : Shape) (has : HasShape K image s) where
    -- damage of the roots is the first fault of an image with a shape
    pub after_root : (e : Refusal) → MayRefuseReading e → ((p : ℕ) → e ≡ refusal.Damaged p → IsRootDamage s image p) → IsNoFaultOr (IsFirstFault K image) e
    after_root e (inl memory) bad = inr (inl memory)
    after_root e (inr (inl fault)) bad = inl fault
    after_root e (inr (inr told)) bad = inr (inr (subst (IsFirstFault K image) (sym told.1) (inr (record { shape = s; has = has; damage = inl (bad told.0 told.1) }))))

    -- damage of the journal is, where the newest root is whole
    pub after_journal : (w : WholeRoot) → IsNewestWhole s w image → (e : Refusal) → IsRefusalOfScan e → ((p : ℕ) → e ≡ refusal.Damaged p → IsJournalDamage K s image p) → IsNoFaultOr (IsFirstFault K image) e
    after_journal w whole e (inl fault) bad = inl fault
    after_journal w whole e (inr (inl memory)) bad = inr (inl memory)
    after_journal w whole e (inr (inr told)) bad = inr (inr (subst (IsFirstFault K image) (sym told.1)
        (inr (record { shape = s; has = has; damage = inr (record { root = w; whole = whole; damage = bad told.0 told.1 }) }))))

-- shape, newest root, journal and what joins make a survey
pub survey_of : {K : ℕ} (image : List ℕ) (survey : Survey K) (journal : Journal K) → HasShape K image survey.geometry.shape → IsNewestWhole survey.geometry.shape (whole_of survey.root) image
    → IsJournal survey.geometry.shape image survey.root.session journal → (AreLawfulOrEmpty journal.batches → Join journal.batches survey.root.front survey.taken survey.front) → survey.used ≡ journal.used → IsSurvey image survey
survey_of image survey journal has whole is joined used =
    let lawful : AreLawfulOrEmpty journal.batches = subst AreLawfulOrEmpty (sym is.are) (session_lawful survey.geometry.shape image (open_slots is.gates) is.all survey.root.session is.each) in
    record {
      gates = is.gates;
      batches = is.all;
      found = record {
        shape = has;
        root = whole.newest;
        area = whole.area;
        gates = is.spelled;
        batches = is.each;
        taken = subst (λ bs. Join bs survey.root.front survey.taken survey.front) is.are (joined lawful);
      };
      used = used ∙ is.used;
    }

-- an image of a shape begins with that one
pub shape_same : (image : List ℕ) (K : ℕ) (s t : Shape) → HasShape K image s → BeginsWhole image t → s ≡ t
shape_same image K s t has begins = one_shape_spelled (page_of 0 image) s t (record { lawful = has.lawful; bytes = has.first }) begins.spelled

-- a file whose newest root is whole has a newest root
pub rooted_newest : {K : ℕ} (image : List ℕ) (rooted : Rooted K) → IsRooted image rooted → HasNewestRoot K image
rooted_newest image rooted is = record { shape = rooted.geometry.shape; has = is.shape; root = (whole_of rooted.root).fields; newest = is.whole.newest }
