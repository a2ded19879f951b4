-- What is said of a file: that it keeps all rules, or which one is broken first, and at which page.
use Rattle.std.specs.Prelude.{◌≡◌, ◌<◌, ◌+◌, ℕ, List, fold, length, Option, Some, None}
use Rattle.grid_types.specs.declared.shape.Shape.{Shape}
use Rattle.grid_types.specs.Shapes.{header_page}
use Rattle.grid_model.specs.Cells.{dims}
use Rattle.grid_model.specs.Lawful.{pages_named}
use Rattle.grid_model.specs.Roots.{WholeRoot}
use Rattle.grid_model.specs.Spellings.{BucketOf}
use Rattle.grid_model.specs.Tables.{Table}
use Rattle.grid_model.specs.Images.{Found, IsFound, HasBuckets, AreRecordsOf, logged_effect, updates_taken}
use Rattle.recovery.specs.Surveys.{survey_pages}
use Rattle.grid_check.specs.Rules.{JudgesParts, JudgesCells, JudgesBuckets, JudgesFaces, JudgesCovers, HasRecords}
use Rattle.grid_check.specs.declared.verdict.Rule.{Rule}
use Rattle.grid_check.specs.declared.verdict.Rule.TheVariants.{Part, Cell, Bucket, Face, Cover, Records}
use Rattle.grid_check.specs.declared.verdict.Breach.{Breach}
use Rattle.grid_check.specs.declared.verdict.Verdict.{Verdict}
use Rattle.grid_check.specs.declared.verdict.Verdict.TheVariants.{Sound, Unsound}

-- the rule of records is broken, and this is the root's header page
pub record BreaksRecords (K : ℕ) (s : Shape) (image : List ℕ) (w : WholeRoot) (page : ℕ) : Type 0 where
  pub bad : HasRecords K s image w.area.table w.fields.records → ⊥
  pub page_is : page ≡ header_page w.fields.number

-- the rule of records is kept, or broken and this is the root's header page
abbrev pub JudgesRecords : ℕ → Shape → List ℕ → WholeRoot → Option ℕ → Type 0
JudgesRecords K s image w None = HasRecords K s image w.area.table w.fields.records
JudgesRecords K s image w (Some page) = BreaksRecords K s image w page

-- a rule is kept by the pages of an image with this newest root, or broken first at this page
abbrev pub Judges : ℕ → Shape → List ℕ → WholeRoot → Rule → Option ℕ → Type 0
Judges K s image w Part = JudgesParts s image (dims w.area.scales) w.area.parts
Judges K s image w Cell = JudgesCells s image (dims w.area.scales) w.area.parts w.area.table
Judges K s image w Bucket = JudgesBuckets K s image w.area.table
Judges K s image w Face = JudgesFaces K s image w.area.scales w.area.table
Judges K s image w Cover = JudgesCovers K s image w.area.scales w.area.parts w.area.table
Judges K s image w Records = JudgesRecords K s image w

-- the place of a rule in the order in which they are judged
abbrev pub order : Rule → ℕ
order Part = 0
order Cell = 1
order Bucket = 2
order Face = 3
order Cover = 4
order Records = 5

-- the pages keep each rule whose place in the order is below this one
abbrev pub KeepsBelow : ℕ → Shape → List ℕ → WholeRoot → ℕ → Type 0
KeepsBelow K s image w n = (rule : Rule) → order rule < n → Judges K s image w rule None

-- the pages keep each rule
abbrev pub KeepsAll : ℕ → Shape → List ℕ → WholeRoot → Type 0
KeepsAll K s image w = (rule : Rule) → Judges K s image w rule None

-- this rule is broken first at this page, and each rule before it is kept
pub record IsBreach (K : ℕ) (s : Shape) (image : List ℕ) (w : WholeRoot) (breach : Breach) : Type 0 where
  pub before : KeepsBelow K s image w (order breach.rule)
  pub breaks : Judges K s image w breach.rule (Some breach.page)

-- each rule whose place is below this one is kept, or this is the first breach of one
abbrev pub IsJudgedBelow : ℕ → Shape → List ℕ → WholeRoot → ℕ → Option Breach → Type 0
IsJudgedBelow K s image w n None = KeepsBelow K s image w n
IsJudgedBelow K s image w n (Some breach) = IsBreach K s image w breach

-- all rules are kept, or this is the first breach of one
abbrev pub IsJudged : ℕ → Shape → List ℕ → WholeRoot → Option Breach → Type 0
IsJudged K s image w None = KeepsAll K s image w
IsJudged K s image w (Some breach) = IsBreach K s image w breach

-- the newest root that was found in an image, with its whole table area
abbrev pub root_found : {K : ℕ} → Found K → WholeRoot
root_found f = record { fields = f.root; area = f.area }

-- so many records are in a table that what was found in an image makes: the records of the buckets that the root's pages spell, put together and changed by the updates that are taken
abbrev pub LeavesRecords : {K : ℕ} → List ℕ → Found K → ℕ → Type 0
LeavesRecords {K} image f records = (buckets : List (BucketOf K)) (t : Table) → HasBuckets f.shape image f.area.table buckets → AreRecordsOf buckets t → records ≡ length (fold logged_effect t (updates_taken f))

-- what is said of what was found in an image up to a place: all rules are kept, this is the place and so many records are there, or this is the first breach of a rule
abbrev pub IsSaid : {K : ℕ} → List ℕ → Found K → ℕ → Verdict → Type 0
IsSaid {K} image f n (Sound front records) = KeepsAll K f.shape image (root_found f) × (front ≡ n) × LeavesRecords image f records
IsSaid {K} image f n (Unsound breach) = IsBreach K f.shape image (root_found f) breach

-- a verdict is that on an image: something is found in it, and this is said of it
pub record IsVerdict (K : ℕ) (image : List ℕ) (verdict : Verdict) : Type 0 where
  pub found : Found K
  pub place : ℕ
  pub is_found : IsFound image found place
  pub said : IsSaid image found place verdict

-- how many pages a check reads at most: those of a survey, the directory pages, and the bucket pages
abbrev pub check_pages : {K : ℕ} → Found K → ℕ
check_pages f = survey_pages f.shape + length f.area.parts + length (pages_named f.area.table)
