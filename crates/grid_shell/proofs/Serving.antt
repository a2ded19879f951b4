-- The headline: a run of a file that stands, from what came of it.
use Rattle.std.proofs.Common.{◌≡◌, ◌≢◌, ◌⊎◌, ◌≤◌, inl, inr, ℕ, zero, suc, List, IsTrue, Result, Ok, Err, refl, sym, ap, subst, ◌∙◌, arith}
use Rattle.std.specs.Prelude.{max, ⊤}
use Rattle.grid_types.specs.declared.refusal.Refusal.{Refusal}
use Rattle.grid_types.specs.declared.refusal.Refusal.TheVariants as refusal
use Rattle.grid_types.specs.declared.request.Line.{Line}
use Rattle.grid_types.specs.declared.request.Reply.{Reply}
use Rattle.grid_types.specs.declared.shape.Shape.{Shape}
use Rattle.grid_model.specs.Images.{HasShape}
use Rattle.grid_model.specs.Script.{lines}
use Rattle.disk_trait.specs.declared.bay.Bay.{Ghosts as Bays}
use Rattle.disk_trait.specs.declared.disk.Disk.{Ghosts as Disks}
use Rattle.disk_trait.specs.declared.sink.Sink.{Ghosts as Sinks}
use Rattle.disk_trait.specs.declared.source.Source.{Ghosts as Sources}
use Rattle.disk_trait.specs.Bay.{BayPlace, Absent, Out, Home, Tells, TellsAll, IsUnfailed}
use Rattle.disk_trait.specs.Calls.{OnlyReads}
use Rattle.disk_trait.specs.Causes.{Rose}
use Rattle.disk_trait.specs.Moments.{LeavesOnly}
use Rattle.disk_trait.proofs.Moments.{started, weakened}
use Rattle.grid_script.specs.Taken.{IsScript}
use Rattle.grid_script.proofs.Taking.{script-sound}
use Rattle.recovery.specs.Beginnings.{IsShapeFault}
use Rattle.recovery.specs.Laws.{HasOneAnswer}
use Rattle.file_roots.specs.Uniqueness.{HasOneShape}
use Rattle.grid_types.proofs.Places.{within-limits}
use Rattle.file_images.specs.Leads.{Standing, HasStanding}
use Rattle.file_opening.specs.Refusals.{IsNoDamage}
use Rattle.script_sessions.specs.Replies.{AreRepliesTo}
use Rattle.file_sessions.specs.Sessions.{StandsAs, IsSession}
use Rattle.grid_shell.specs.declared.ending.Ending.{Ending}
use Rattle.grid_shell.specs.declared.ending.Ending.TheVariants.{Done, BadWords, BadScript, ForeignFile, OtherVersion, DamagedFile, OtherArity, WornFile, Damaged, Device, Memory, Refused, Unsure}
use Rattle.grid_shell.specs.Statuses.{greatest_status}
use Rattle.grid_shell.specs.Endings.{status_of, with_fault, unopened, IsOfLines, EndsBeside}
use Rattle.grid_shell.specs.Inputs.{IsUnreadSo}
use Rattle.grid_shell.specs.Printing.{PrintsSession}
use Rattle.grid_shell.specs.Runs.{IsNotOpened, IsAnswered, EndsUnopened, EndsAnswered, WorksLines, EndsUnread, EndsRead, RunsAt, EndsUnbegun, EndsShapeless, EndsShaped, RunsDisk, HasAttributes}
use Rattle.grid_shell.specs.Files.{IsHanded, IsPutBack, EndsUnhanded, IsReturned, EndsHanded, RunsFile}
use Rattle.grid_shell.specs.Headline.{AsksOver, IsUnbegun, IsServed}
use Rattle.grid_shell.proofs.Counting.{risen}
use Rattle.grid_shell.proofs.Errors.{error_of}
use Rattle.grid_shell.proofs.Reading.{session_since, left_at_start}
use Rattle.grid_shell.proofs.StatusLaws.{with_fault-line, with_fault-twice}

-- the shape of an image that stands
shape_of_standing : {K : ℕ} {image : List ℕ} (m : Standing K) → HasStanding image m → HasAttributes K image
shape_of_standing m has = record { shape = has.stands.reads.found.shape; has = has.stands.reads.makes.is_found.shape }

-- the laws on shapes that a run rests on: an image has one shape, and where it has one no fault says that it has none
pub record ShapeLaws : Type 0 where
  pub one : HasOneShape
  pub first : HasOneAnswer 1
  pub second : HasOneAnswer 2
  pub third : HasOneAnswer 3
  pub fourth : HasOneAnswer 4

one_to_four : (K : ℕ) → 1 ≤ K → K ≤ 4 → (K ≡ 1) ⊎ (K ≡ 2) ⊎ (K ≡ 3) ⊎ (K ≡ 4)
one_to_four zero some few = absurd (omega (arith, some))
one_to_four (suc zero) some few = inl refl
one_to_four (suc (suc zero)) some few = inr (inl refl)
one_to_four (suc (suc (suc zero))) some few = inr (inr (inl refl))
one_to_four (suc (suc (suc (suc zero)))) some few = inr (inr (inr refl))
one_to_four (suc (suc (suc (suc (suc n))))) some few = absurd (omega (arith, few))

-- an image with a shape has no fault that says that it has none
no_shape_fault : ShapeLaws → (K : ℕ) (image : List ℕ) (shape : Shape) (e : Refusal) → HasShape K image shape → IsShapeFault image e → ⊥
no_shape_fault laws K image shape e has bad = elim (one_to_four K some few) [
  | inl is ↦ laws.first.shape image shape e (as_one is) bad
  | inr (inl is) ↦ laws.second.shape image shape e (as_one is) bad
  | inr (inr (inl is)) ↦ laws.third.shape image shape e (as_one is) bad
  | inr (inr (inr is)) ↦ laws.fourth.shape image shape e (as_one is) bad
]
  where
    as_one : {n : ℕ} → K ≡ n → HasShape n image shape
    as_one is = subst (λ (k : ℕ). HasShape k image shape) is has

    some : 1 ≤ K
    some = subst (λ (k : ℕ). 1 ≤ k) has.attributes (within-limits shape has.lawful).some_attributes

    few : K ≤ 4
    few = subst (λ (k : ℕ). k ≤ 4) has.attributes (within-limits shape has.lawful).few_attributes

no_shapeless : ShapeLaws → {K : ℕ} (image : List ℕ) (m : Standing K) (e : Refusal) → HasStanding image m → (e ≡ refusal.ReadFault) ⊎ IsShapeFault image e → e ≡ refusal.ReadFault
no_shapeless laws {K} image m e has (inl fault) = fault
no_shapeless laws {K} image m e has (inr bad) = let h = shape_of_standing m has in absurd (no_shape_fault laws K image h.shape e h.has bad)

-- it has one number of attributes
one_arity : ShapeLaws → (K J : ℕ) (image : List ℕ) (s t : Shape) → HasShape K image s → HasShape J image t → J ≡ K
one_arity laws K J image s t has other = sym other.attributes ∙ ap (λ (r : Shape). r.k) (sym (laws.one K J image s t has other)) ∙ has.attributes

-- bytes ask one list of lines
one_script : {K : ℕ} (bytes : List ℕ) (these those : List (Line K)) → IsScript bytes these → IsScript bytes those → these ≡ those
one_script {K} bytes these those a b = ok_value (lines K bytes) a.read b.read
  where
    ok_value : (r : Result (List (Line K)) ℕ) → r ≡ Ok these → r ≡ Ok those → these ≡ those
    ok_value r p q = cc

-- the statuses with which a run ends before its lines, where the file stands and the script has no fault
abbrev IsEarly : Type 0 → Ending → Type 0
IsEarly Cause Device = Cause
IsEarly Cause Memory = ⊤
IsEarly Cause (WornFile count) = ⊤
IsEarly Cause other = ⊥

-- such an ending has its status, also where the bay failed too
early_status : (Bay Source : Type 0) (e now : Ending) (status before after : ℕ) → status ≡ status_of now → IsEarly (Bay ⊎ Source) e → EndsBeside e before after now → ((status ≡ 5) × (Bay ⊎ Source)) ⊎ (status ≡ 6) ⊎ (status ≡ 7)
early_status Bay Source Device now status before after is cause (inl same) = inl (is ∙ ap status_of same.0, cause)
early_status Bay Source Device now status before after is cause (inr rose) = inl (is ∙ ap status_of rose.0, cause)
early_status Bay Source Memory now status before after is cause (inl same) = inr (inl (is ∙ ap status_of same.0))
early_status Bay Source Memory now status before after is cause (inr rose) = inr (inl (is ∙ ap status_of rose.0))
early_status Bay Source (WornFile count) now status before after is cause (inl same) = inr (inr (is ∙ ap status_of same.0))
early_status Bay Source (WornFile count) now status before after is cause (inr rose) = inr (inr (is ∙ ap status_of rose.0))
early_status Bay Source other now status before after is cause ends = absurd cause

-- the status of lines that were printed, and whose file was put back
served_status : (Bay Sink : Type 0) (worst before now : Ending) (status greatest b0 b1 o0 o1 : ℕ) → status ≡ status_of now → IsOfLines worst → status_of worst ≡ greatest → EndsBeside worst o0 o1 before → EndsBeside before b0 b1 now → (Rose b0 b1 → Bay) → (Rose o0 o1 → Sink)
    → (status ≡ greatest) ⊎ ((status ≡ max 5 greatest) × (Bay ⊎ Sink))
served_status Bay Sink worst before now status greatest b0 b1 o0 o1 is line great (inl printed) (inl back) bay sink = inl (is ∙ ap status_of (back.0 ∙ printed.0) ∙ great)
served_status Bay Sink worst before now status greatest b0 b1 o0 o1 is line great (inl printed) (inr back) bay sink = inr (is ∙ ap status_of (back.0 ∙ ap with_fault printed.0) ∙ with_fault-line worst line ∙ ap (max 5) great, inl (bay back.1))
served_status Bay Sink worst before now status greatest b0 b1 o0 o1 is line great (inr printed) (inl back) bay sink = inr (is ∙ ap status_of (back.0 ∙ printed.0) ∙ with_fault-line worst line ∙ ap (max 5) great, inr (sink printed.1))
served_status Bay Sink worst before now status greatest b0 b1 o0 o1 is line great (inr printed) (inr back) bay sink = inr (is ∙ ap status_of (back.0 ∙ ap with_fault printed.0) ∙ with_fault-twice worst line ∙ ap (max 5) great, inl (bay back.1))

-- a disk that tells all that another one tells: what lay there may stand for what was handed out
module _ {D : Type 0} (d : Disks D) (home old : D) (same : TellsAll d old home) where
  stands_handed : {K : ℕ} (m : Standing K) → StandsAs d m home → StandsAs d m old
  stands_handed m s = record {
    told = same.same_honesty ∙ s.told;
    leaves = record {
      read = subst (λ (image : List ℕ). HasStanding image m) (sym same.same_bytes) s.leaves.read;
      crash = λ image left. s.leaves.crash image ((same.same_crash image).0 left);
    };
  }

  since_home : (new : D) (P : List ℕ → Type 0) → LeavesOnly d.moment d.left_since old new P → LeavesOnly d.moment d.left_since home new P
  since_home new P l = record {
    later = subst (λ (t : ℕ). t ≤ d.moment new) same.same_moment l.later;
    each = λ c left. l.each c (subst (λ (t : ℕ). d.left_since new t c) (sym same.same_moment) left);
    before = λ t c le left. elim (l.before t c (subst (λ (n : ℕ). t ≤ n) (sym same.same_moment) le) left) [
      | inl older ↦ inl ((same.same_past t c).0 older)
      | inr now ↦ inr now
    ];
  }

module _ {B D S O : Type 0} (b : Bays B D) (d : Disks D) (s : Sources S) (o : Sinks O) (name : List ℕ) (bay0 bay1 : B) (in0 in1 : S) (out0 out1 : O) (ending : Ending) (status : ℕ) (is : status ≡ status_of ending) (laws : ShapeLaws)
    (only_now : (disk : D) (c : List ℕ) → IsTrue (d.honest disk) → d.left_since disk (d.moment disk) c → d.may_leave disk c) where
  abbrev BayRose : Type 0
  BayRose = Rose (b.fault_count bay0) (b.fault_count bay1)

  abbrev SourceRose : Type 0
  SourceRose = Rose (s.fault_count in0) (s.fault_count in1)

  module _ {K : ℕ} (home : D) (m : Standing K) (asked : List (Line K)) (a : AsksOver b d s o name bay0 in0 out0 home m asked) where
    abbrev Outcome : Type 0
    Outcome = IsUnbegun b d s name (bay0, bay1) (in0, in1) (out0, out1) home m status ⊎ IsServed b d s o name (bay0, bay1) (in0, in1) (out0, out1) home m asked status

    stays_home : LeavesOnly d.moment d.left_since home home (λ image. HasStanding image m)
    stays_home = started d.moment d.left_since home _ (λ c left. a.stands.leaves.crash c (only_now home c a.stands.told left))

    -- no file was handed out
    unhanded : EndsUnhanded b name (bay0, bay1) (in0, in1) (out0, out1) ending → Outcome
    unhanded e = inl (record {
      silent = e.nothing.silent;
      ends = inl (is ∙ ap status_of e.ends, elim e.cause [ inl none ↦ absurd (not_absent none.1) | inr rose ↦ inl rose ]);
      disk = home;
      there = inl (e.stays a.bay_tells ∙ a.place);
      left = stays_home;
    })
      where
        not_absent : b.place bay0 name ≡ Absent → ⊥
        not_absent none = subst AbsentOr (sym a.place ∙ none) tt
          where
            AbsentOr : BayPlace D → Type 0
            AbsentOr Absent = ⊥
            AbsentOr Out = ⊤
            AbsentOr (Home x) = ⊤

    module _ (old new : D) (handed : IsHanded b d name bay0 old) (before : Ending) (back : IsPutBack b d name new (bay0, bay1) before ending) where
      same : TellsAll d old home
      same = subst (Tells (TellsAll d old)) a.place (handed.same a.bay_tells)

      stood : StandsAs d m old
      stood = stands_handed d home old same m a.stands

      there : (b.place bay1 name ≡ Home new) ⊎ BayRose
      there = back.home a.bay_tells

      read_failed : Rose (d.read_count old) (d.read_count new) → BayRose
      read_failed rose = back.failed (inl (risen (d.read_count old) (d.read_count new) rose))

      write_failed : Rose (d.write_count old) (d.write_count new) → BayRose
      write_failed rose = back.failed (inr (risen (d.write_count old) (d.write_count new) rose))

      -- a run that ended before its lines, and left the file as it stood
      early : out1 ≡ out0 → IsEarly (BayRose ⊎ SourceRose) before → LeavesOnly d.moment d.left_since old new (λ image. HasStanding image m) → Outcome
      early silent why left = inl (record {
        silent = silent;
        ends = early_status BayRose SourceRose before ending status (b.fault_count bay0) (b.fault_count bay1) is why back.ends;
        disk = new;
        there = there;
        left = since_home d home old same new _ left;
      })

      stays_old : new ≡ old → LeavesOnly d.moment d.left_since old new (λ image. HasStanding image m)
      stays_old at = subst (λ (x : D). LeavesOnly d.moment d.left_since old x (λ image. HasStanding image m)) (sym at) (started d.moment d.left_since old _ (λ c left. stood.leaves.crash c (only_now old c stood.told left)))

      stays_read : OnlyReads d old new → LeavesOnly d.moment d.left_since old new (λ image. HasStanding image m)
      stays_read reads = weakened d.moment d.left_since old new _ _ (reads.moments stood.told) stood.leaves.crash

      unread : (e : Ending) → IsUnreadSo K s in0 in1 e → IsEarly (BayRose ⊎ SourceRose) e
      unread (BadScript line) why = absurd (script-sound (s.left in0) asked line a.script (why.0 a.source_tells))
      unread Device why = inr why
      unread Memory why = tt
      unread other why = absurd why

      unopened_so : (e : Refusal) → IsNoDamage e → (e ≡ refusal.ReadFault → Rose (d.read_count old) (d.read_count new)) → (e ≡ refusal.WriteFault → Rose (d.write_count old) (d.write_count new)) → IsEarly (BayRose ⊎ SourceRose) (unopened e)
      unopened_so refusal.NoMemory sound reads writes = tt
      unopened_so refusal.ReadFault sound reads writes = inl (read_failed (reads refl))
      unopened_so refusal.WriteFault sound reads writes = inl (write_failed (writes refl))
      unopened_so (refusal.Worn count) sound reads writes = tt
      unopened_so other sound reads writes = absurd sound

      works : (lines : List (Line K)) → lines ≡ asked → WorksLines d o lines old new (out0, out1) before → Outcome
      works lines same_lines (inl e) =
          early e.silent
          (subst (IsEarly (BayRose ⊎ SourceRose)) (sym e.ends)
          (unopened_so e.refusal (e.unopened.sound stood.told m stood.leaves.read) (λ at. e.unopened.causes.read_fault (error_of {T = Unit} e.refusal refusal.ReadFault at)) (λ at. e.unopened.causes.write_fault (error_of {T = Unit} e.refusal refusal.WriteFault at))))
          (weakened d.moment d.left_since old new _ _ (e.unopened.moments stood.told m stood.leaves.read) (λ image at. elim at [ inl was ↦ stood.leaves.crash image was | inr has ↦ has ]))
      works lines same_lines (inr e) = inr (record {
        replies = e.replies;
        front = e.front;
        records = e.records;
        disk = new;
        kinds = subst (λ (ls : List (Line K)). AreRepliesTo ls e.replies) same_lines e.answered.kinds;
        session = subst (λ (ls : List (Line K)). IsSession d m ls e.replies e.front e.records home new) same_lines
            (session_since d m lines e.replies e.front e.records home old new (λ shape left. since_home d home old same new _ left) (e.answered.session m stood));
        there = there;
        printed = e.prints.printed;
        ends = served_status BayRose (Rose (o.fault_count out0) (o.fault_count out1)) e.prints.worst before ending status (greatest_status e.replies) (b.fault_count bay0) (b.fault_count bay1) (o.fault_count out0) (o.fault_count out1) is e.prints.line e.prints.greatest e.prints.ends back.ends (λ rose. rose) (λ rose. rose);
      })

      runs_at : RunsAt K d s o old new (in0, in1) (out0, out1) before → Outcome
      runs_at (inl e) = early e.silent (unread before e.why) (stays_read e.disk)
      runs_at (inr e) = works e.lines (one_script (s.left in0) e.lines asked (e.read.script a.source_tells) a.script) e.works

      shapeless : EndsShapeless d old new (in0, in1) (out0, out1) before → Outcome
      shapeless e =
          let at : e.refusal ≡ refusal.ReadFault = no_shapeless laws (d.seen old) m e.refusal stood.leaves.read (e.why stood.told) in
          early e.silent (subst (IsEarly (BayRose ⊎ SourceRose)) (sym (e.ends ∙ ap unopened at)) (inl (read_failed (e.causes.read_fault (error_of {T = Unit} e.refusal refusal.ReadFault at))))) (stays_read e.disk)

      shaped : EndsShaped d s o old new (in0, in1) (out0, out1) before → Outcome
      shaped e =
          let own = shape_of_standing m stood.leaves.read in
          let its = e.shaped stood.told in
          runs_at (subst (λ (n : ℕ). RunsAt n d s o old new (in0, in1) (out0, out1) before) (one_arity laws K e.attributes (d.seen old) own.shape its.shape own.has its.has) e.runs)

      over_disk : IsReturned b (bay0, bay1) old new (in0, in1) (out0, out1) before ⊎ RunsDisk d s o old new (in0, in1) (out0, out1) before → Outcome
      over_disk (inl e) = early e.nothing.silent (subst (IsEarly (BayRose ⊎ SourceRose)) (sym e.ends) (inl e.cause)) (stays_old e.disk)
      over_disk (inr (inl e)) = early e.silent (subst (IsEarly (BayRose ⊎ SourceRose)) (sym e.ends) tt) (stays_old e.disk)
      over_disk (inr (inr (inl e))) = shapeless e
      over_disk (inr (inr (inr e))) = shaped e

    pub serves_file : RunsFile b d s o name (bay0, bay1) (in0, in1) (out0, out1) ending → Outcome
    serves_file (inl e) = unhanded e
    serves_file (inr e) = over_disk e.old e.new e.handed e.before e.back e.runs

    -- where there was no memory for the words, nothing was touched
    pub serves_untouched : ending ≡ Memory → bay1 ≡ bay0 → out1 ≡ out0 → Outcome
    serves_untouched none bay_same silent = inl (record {
      silent = silent;
      ends = inr (inl (is ∙ ap status_of none));
      disk = home;
      there = inl (ap (λ (x : B). b.place x name) bay_same ∙ a.place);
      left = stays_home;
    })
