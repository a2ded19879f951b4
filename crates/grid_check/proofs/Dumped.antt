-- What a dump tells of an image that was surveyed.
use Rattle.std.proofs.Common.{◌≡◌, ◌≤◌, ◌+◌, ◌∙◌, inl, inr, Result, Ok, Err, ℕ, List, [], Some, None, length, map, flat_map, sym, ap, subst, arith}
use Rattle.std.specs.Prelude.{fold, IfErr, IsErrAnd}
use Rattle.grid_types.specs.declared.refusal.Refusal.{Refusal}
use Rattle.grid_types.specs.declared.update.Record.{Record}
use Rattle.grid_model.specs.Lawful.{pages_named}
use Rattle.grid_model.specs.Lone.{record_of}
use Rattle.grid_model.specs.Tables.{Table, IsTable}
use Rattle.grid_model.specs.Images.{Found, IsFound, HasBuckets, Stands, logged_effect}
use Rattle.grid_model.proofs.Gathered.{puts-table}
use Rattle.file_images.specs.Leads.{updates_in}
use Rattle.file_finding.specs.Finding.{Finding}
use Rattle.linear_scales.specs.Roots.{whole_of}
use Rattle.recovery.specs.Faults.{IsFirstFault, IsNoFaultOr}
use Rattle.recovery.specs.Surveys.{IsSurvey, survey_pages}
use Rattle.recovery.specs.declared.survey.Survey.{Survey}
use Rattle.recovery.specs.Laws.{HasOneAnswer}
use Rattle.grid_check.specs.Dumps.{PutsBuckets, DumpsFound, IsDumped, IsDumpOf, HasBadBucket, dump_pages}
use Rattle.grid_check.specs.Reads.{MayRefusePages}
use Rattle.grid_check.specs.Rules.{JudgesBuckets}
use Rattle.grid_check.specs.declared.verdict.Rule.TheVariants.{Bucket}
use Rattle.grid_check.proofs.Checked.{found, one, not_both, stands_kept, stands_place, the_one}

module _ {K : ℕ} (image : List ℕ) (survey : Survey K) (is : IsSurvey image survey) where
  -- as many pages are read as may be
  pub few_dumped : (f : Found K) (n before middle after : ℕ) → IsFound image f n → middle ≤ before + survey_pages survey.geometry.shape → after ≤ middle + length (pages_named survey.root.table.items) → after ≤ before + dump_pages f
  few_dumped f n before middle after has first second =
      let same : dump_pages (found image survey is) ≡ dump_pages f = ap (λ (x : Finding K). survey_pages x.shape + length (pages_named x.root.area.table)) (one image survey is f n has).finding in
      omega (arith, first, second, same)

  -- the rows are those of the buckets' records behind the updates
  pub rows_found : (put : Table) (rows : List (Record K)) → PutsBuckets K survey.geometry.shape image survey.root.table.items [] put → (IsTable put → rows ≡ map record_of (fold logged_effect put (updates_in survey.taken)))
      → DumpsFound image (found image survey is) (record { front = survey.front; rows = rows })
  rows_found put rows puts told bs has =
      told (subst IsTable (sym (puts bs has)) (puts-table {K = K} [] (flat_map (λ b. b.rows) bs) tt)) ∙ ap (λ (t : Table). map record_of (fold logged_effect t (updates_in survey.taken))) (puts bs has)

  pub is_dumped : (put : Table) (rows : List (Record K)) → JudgesBuckets K survey.geometry.shape image survey.root.table.items None → PutsBuckets K survey.geometry.shape image survey.root.table.items [] put
      → (IsTable put → rows ≡ map record_of (fold logged_effect put (updates_in survey.taken))) → IsDumped K image (record { front = survey.front; rows = rows })
  is_dumped put rows kept puts told = record { found = found image survey is; is_found = is.found; spelled = kept; rows = rows_found put rows puts told }

  -- a page that is not spelled for its number
  pub bad_bucket : (page : ℕ) → JudgesBuckets K survey.geometry.shape image survey.root.table.items (Some page) → HasBadBucket K image page
  bad_bucket page first = record { found = found image survey is; place = survey.front; is_found = is.found; first = first }

  module _ (n : ℕ) (t : Table) (stands : Stands K image n t) where
    -- the table for which the image stands is dumped
    pub dump_stands : (rows : List (Record K)) → DumpsFound image (found image survey is) (record { front = survey.front; rows = rows }) → IsDumpOf n t (record { front = survey.front; rows = rows })
    dump_stands rows told =
        let f = stands.reads.found in
        let makes = stands.reads.makes in
        let alike = (the_one image survey is n t stands).finding in
        record {
          front = stands_place image survey is n t stands;
          rows = told f.buckets (subst (λ (x : Finding K). HasBuckets x.shape image x.root.area.table f.buckets) (sym alike) makes.buckets)
              ∙ ap (λ (u : Table). map record_of (fold logged_effect u (updates_in survey.taken))) makes.records.all
              ∙ ap (λ (x : Finding K). map record_of (fold logged_effect f.table (updates_in x.taken))) alike
              ∙ ap (λ (u : Table). map record_of u) (sym makes.table);
        }

    -- and each of its bucket pages is spelled
    pub stands_spelled : (page : ℕ) → JudgesBuckets K survey.geometry.shape image survey.root.table.items (Some page) → ⊥
    stands_spelled page first = not_both K survey.geometry.shape image (whole_of survey.root) Bucket page (stands_kept image survey is n t stands Bucket) first

-- an image that stands for a table has no fault that a survey finds
pub stands_refused : {K : ℕ} → HasOneAnswer K → (image : List ℕ) (n : ℕ) (t : Table) → Stands K image n t → (e : Refusal) → IsNoFaultOr (IsFirstFault K image) e → MayRefusePages e
stands_refused law image n t stands e (inl read) = inl read
stands_refused law image n t stands e (inr (inl memory)) = inr memory
stands_refused law image n t stands e (inr (inr fault)) = absurd (law.found image stands.reads.found n e stands.reads.makes.is_found fault)

-- what holds of a refusal that came holds of the one that is given on
pub given_on : {T : Type 0} (r : Result T Refusal) (came : Refusal) (P : Refusal → Type 0) → IsErrAnd r (λ e. e ≡ came) → P came → IfErr r P
given_on (Ok x) came P is p = tt
given_on (Err e) came P is p = subst P (sym is) p
