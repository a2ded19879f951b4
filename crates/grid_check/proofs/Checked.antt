-- What a survey finds is what is found.
use Rattle.std.proofs.Common.{IsTrue, ◌<◌, ◌*◌, ◌^◌, ◌≡◌, ◌≤◌, ◌+◌, ◌∙◌, ℕ, List, [], Some, None, length, flat_map, refl, sym, ap, subst, arith}
use Rattle.std.specs.Prelude.{fold, is_some}
use Rattle.std.proofs.lemmas.Nat.{mul-le}
use Rattle.grid_types.specs.declared.shape.Shape.{Shape}
use Rattle.grid_types.specs.declared.update.Record.{Record}
use Rattle.grid_types.specs.Shapes.{is_shape}
use Rattle.grid_types.proofs.Places.{within-limits}
use Rattle.grid_model.specs.Lawful.{pages_named}
use Rattle.grid_model.specs.Images.{Found, IsFound, HasBuckets, logged_effect, Stands}
use Rattle.grid_model.specs.Roots.{WholeRoot, AreRootFields}
use Rattle.grid_model.specs.Spellings.{RootFields}
use Rattle.grid_model.proofs.Gathered.{puts-table}
use Rattle.grid_model.specs.Tables.{Table, IsTable, get}
use Rattle.recovery.specs.Surveys.{IsSurvey, found_in, survey_pages}
use Rattle.recovery.specs.declared.survey.Survey.{Survey}
use Rattle.linear_scales.specs.Roots.{whole_of}
use Rattle.file_images.specs.Leads.{updates_in}
use Rattle.file_finding.specs.Finding.{Finding}
use Rattle.file_finding.proofs.Findings.{AreOne, one_finding}
use Rattle.grid_check.specs.Verdicts.{Judges, IsJudgedBelow, IsVerdict, LeavesRecords, KeepsAll, check_pages}
use Rattle.grid_check.specs.Marks.{Marks, NoneMarked, HaveMarks, MarksBuckets, CountsRecords, is_key_among, keys_in}
use Rattle.grid_check.specs.Rules.{HasRecords}
use Rattle.grid_check.specs.declared.verdict.Breach.{Breach}
use Rattle.grid_check.specs.declared.verdict.Rule.{Rule}
use Rattle.grid_check.specs.declared.verdict.Rule.TheVariants.{Part, Cell, Bucket, Face, Cover, Records}
use Rattle.grid_check.specs.declared.verdict.Verdict.TheVariants.{Sound, Unsound}
use Rattle.grid_check.proofs.Breaches.{before_end}
use Rattle.grid_check.proofs.Counted.{have_kept}
use Rattle.grid_check.proofs.Marking.{marks_keep, marks_say}
use Rattle.grid_check.proofs.Standing.{keeps_all}
use Rattle.grid_check.proofs.Tabled.{keys_after}

-- the records of a root and the updates behind it are few
pub room_left : (s : Shape) → IsTrue (is_shape s) → (r : RootFields) (front more : ℕ) → AreRootFields s r → front ≡ r.front + more → front < 2 ^ 63 → r.records + more < 2 ^ 64
room_left s lawful r front more are is small =
    let w = within-limits s lawful in
    let few : r.buckets * s.capacity ≤ 65536 * 48 = mul-le r.buckets s.capacity 65536 48 (omega (arith, are.few_buckets, w.few_pages)) w.small_capacity in
    omega (arith, few, are.records, is, small)

module _ {K : ℕ} (image : List ℕ) (survey : Survey K) (is : IsSurvey image survey) where
  abbrev pub found : Found K
  found = found_in survey is.gates is.batches

  pub one : (f : Found K) (n : ℕ) → IsFound image f n → AreOne found f survey.front n
  one f n has = one_finding image found f survey.front n is.found has

  -- as many pages are read as may be
  pub few_read : (f : Found K) (n before middle after : ℕ) → IsFound image f n → middle ≤ before + survey_pages survey.geometry.shape → after ≤ middle + length survey.root.parts.items + length (pages_named survey.root.table.items) → after ≤ before + check_pages f
  few_read f n before middle after has first second =
      let same : check_pages found ≡ check_pages f = ap (λ (x : Finding K). survey_pages x.shape + length x.root.area.parts + length (pages_named x.root.area.table)) (one f n has).finding in
      omega (arith, first, second, same)

  -- where all rules are kept, the file is sound
  pub is_sound : (records : ℕ) → IsJudgedBelow K survey.geometry.shape image (whole_of survey.root) 6 None → LeavesRecords image found records → IsVerdict K image (Sound survey.front records)
  is_sound records kept leaves = record { found = found; place = survey.front; is_found = is.found; said = ((λ rule. kept rule (before_end rule)), refl, leaves) }

  -- by the marks that the pages set, and then the updates, the records are counted
  pub leaves_records : (named marked counted : Marks) (records : ℕ) → NoneMarked named → HaveMarks named (updates_in survey.taken) → MarksBuckets K survey.geometry.shape image survey.root.table.items named marked
      → HasRecords K survey.geometry.shape image survey.root.table.items survey.root.records → CountsRecords (updates_in survey.taken) marked counted survey.root.records records → LeavesRecords image found records
  leaves_records named marked counted records none have marks total counts bs t has are =
      let rows : List (Record K) = flat_map (λ b. b.rows) bs in
      let told : (k : List ℕ) → is_some (get t k) ≡ is_key_among (keys_in rows) k = λ k. ap (λ (u : Table). is_some (get u k)) (sym are.all) ∙ keys_after rows [] k in
      counts.counted t (subst IsTable are.all (puts-table {K = K} [] rows tt)) (marks_say (keys_in rows) named marked t none (marks bs has) told)
      (have_kept named marked (updates_in survey.taken) (marks_keep (keys_in rows) named marked (marks bs has)) have) (sym (total bs has) ∙ are.once)

  -- and else this is the first breach
  pub is_unsound : (breach : Breach) → IsJudgedBelow K survey.geometry.shape image (whole_of survey.root) 6 (Some breach) → IsVerdict K image (Unsound breach)
  is_unsound breach broken = record { found = found; place = survey.front; is_found = is.found; said = broken }

-- no rule is kept and broken
pub not_both : (K : ℕ) (s : Shape) (image : List ℕ) (w : WholeRoot) (rule : Rule) (page : ℕ) → Judges K s image w rule None → Judges K s image w rule (Some page) → ⊥
not_both K s image w Part page kept first = first.bad (kept first.part first.inside)
not_both K s image w Cell page kept first = first.bad (kept first.part first.inside)
not_both K s image w Bucket page kept first = first.bad (kept first.number first.inside first.named)
not_both K s image w Face page kept first = first.bad (kept first.number first.inside first.named)
not_both K s image w Cover page kept first = first.bad (kept first.number first.inside first.named)
not_both K s image w Records page kept broken = broken.bad kept

module _ {K : ℕ} (image : List ℕ) (survey : Survey K) (is : IsSurvey image survey) (n : ℕ) (t : Table) (stands : Stands K image n t) where
  pub the_one : AreOne (found_in survey is.gates is.batches) stands.reads.found survey.front n
  the_one = one_finding image (found_in survey is.gates is.batches) stands.reads.found survey.front n is.found stands.reads.makes.is_found

  -- an image that stands for a table keeps all rules over what a survey finds
  pub stands_kept : KeepsAll K survey.geometry.shape image (whole_of survey.root)
  stands_kept =
      subst (λ (x : Finding K). KeepsAll K x.shape image x.root) (sym the_one.finding) (keeps_all image stands.reads.found n t stands.reads.makes stands.layout stands.root)

  -- so it has no breach
  pub stands_unbroken : (breach : Breach) → IsJudgedBelow K survey.geometry.shape image (whole_of survey.root) 6 (Some breach) → ⊥
  stands_unbroken breach broken = not_both K survey.geometry.shape image (whole_of survey.root) breach.rule breach.page (stands_kept breach.rule) broken.breaks

  -- as many records are counted as the table has
  pub stands_records : (records : ℕ) → LeavesRecords image (found_in survey is.gates is.batches) records → records ≡ length t
  stands_records records leaves =
      let f = stands.reads.found in
      let makes = stands.reads.makes in
      leaves f.buckets f.table (subst (λ (x : Finding K). HasBuckets x.shape image x.root.area.table f.buckets) (sym the_one.finding) makes.buckets) makes.records
      ∙ ap (λ (x : Finding K). length (fold logged_effect f.table (updates_in x.taken))) the_one.finding
      ∙ ap (λ (u : Table). length u) (sym makes.table)

  -- and the place is the survey's
  pub stands_place : survey.front ≡ n
  stands_place = the_one.place
