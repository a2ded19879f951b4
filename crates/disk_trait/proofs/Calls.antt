-- Calls as records of what they leave of a disk: from the clauses of the trait's own methods, one behind another, and in wider words.
use Rattle.std.proofs.Common.{◌≡◌, ◌≢◌, ◌≤◌, ◌∙◌, List, ℕ, refl, sym, ap, subst, arith}
use Rattle.std.specs.Prelude.{IsTrue, Result, Ok, Err, IsErrOf}
use Rattle.std.proofs.lemmas.Result.{IfErr-at_err, IfErr-weaker}
use Rattle.grid_types.specs.declared.refusal.Refusal.{Refusal}
use Rattle.grid_types.specs.declared.refusal.Refusal.TheVariants.{ReadFault, WriteFault}
use Rattle.disk_trait.specs.declared.disk.Disk.{Ghosts}
use Rattle.disk_trait.specs.Causes.{Rose}
use Rattle.disk_trait.specs.Disk.{Only, Stays}
use Rattle.disk_trait.specs.Moments.{After, Always, Elapses, SameImages}
use Rattle.disk_trait.specs.Calls.{OnlyReads, Changes, IsSynced, HasCauses}
use Rattle.disk_trait.proofs.Moments.{started, joined, weakened, stepped, stayed, goes_on}

-- a step behind none, none behind a step, and a step where nothing changes
stays_then : (step : List ℕ → List ℕ → Type 0) (x y z : List ℕ) → Stays x y → step y z → step x z
stays_then step x y z same s = subst (λ i. step i z) same s

then_stays : (step : List ℕ → List ℕ → Type 0) (x y z : List ℕ) → step x y → Stays y z → step x z
then_stays step x y z s same = subst (λ i. step x i) (sym same) s

stays_within : (step : List ℕ → List ℕ → Type 0) → ((x : List ℕ) → step x x) → (x y : List ℕ) → Stays x y → step x y
stays_within step still x y same = subst (λ i. step x i) (sym same) (still x)

-- what calls that only read leave
module _ {D : Type 0} {g : Ghosts D} where
  -- before the first call nothing was read
  pub reads_none : {a : D} → (IsTrue (g.honest a) → Always (g.left_since a (g.moment a)) (g.may_leave a)) → OnlyReads g a a
  reads_none {a} law = record {
    extent = refl;
    honest = refl;
    reads = omega arith;
    writes = omega arith;
    seen = λ h. refl;
    crash = λ h k. (λ l. l, λ l. l);
    moments = λ h. started g.moment g.left_since a (g.may_leave a) (law h);
  }

  -- what a read says of a disk is that it only reads
  pub reads_read : {a b : D} → (IsTrue (g.honest a) → Always (g.left_since a (g.moment a)) (g.may_leave a))
      → g.extent b ≡ g.extent a → g.honest b ≡ g.honest a → g.read_count a ≤ g.read_count b → g.write_count a ≤ g.write_count b
      → (IsTrue (g.honest a) → g.seen b ≡ g.seen a) → (IsTrue (g.honest a) → SameImages (g.may_leave a) (g.may_leave b))
      → (IsTrue (g.honest a) → Elapses g.moment g.left_since g.may_leave a b) → OnlyReads g a b
  reads_read {a} {b} law extent honest reads writes seen crash time = record {
    extent = extent;
    honest = honest;
    reads = reads;
    writes = writes;
    seen = seen;
    crash = crash;
    moments = λ h. stayed g.moment g.left_since g.may_leave a b (law h) (time h) (λ k now. (crash h k).0 now);
  }

  -- two calls that only read are one
  pub reads_then : {a b c : D} → OnlyReads g a b → OnlyReads g b c → OnlyReads g a c
  reads_then {a} {b} {c} r s = record {
    extent = s.extent ∙ r.extent;
    honest = s.honest ∙ r.honest;
    reads = omega (arith, r.reads, s.reads);
    writes = omega (arith, r.writes, s.writes);
    seen = λ h. s.seen (r.honest ∙ h) ∙ r.seen h;
    crash = λ h k. let x = s.crash (r.honest ∙ h) k in let y = r.crash h k in (λ l. y.0 (x.0 l), λ l. x.1 (y.1 l));
    moments = λ h. joined g.moment g.left_since a b c _ _ _ (r.moments h) (s.moments (r.honest ∙ h)) (λ i x. x) (λ i x. (r.crash h i).0 x);
  }

-- what calls that change images leave
module _ {D : Type 0} {g : Ghosts D} where
  -- before the first call nothing has changed
  pub changes_none : {a : D} {step : List ℕ → List ℕ → Type 0} → ((x : List ℕ) → step x x) → ((k : List ℕ) → IsTrue (g.honest a) → g.left_since a (g.moment a) k → g.may_leave a k) → Changes g step a a
  changes_none {a} {step} still law = record {
    extent = refl;
    honest = refl;
    reads = omega arith;
    writes = omega arith;
    outside = λ h. still (g.seen a);
    crash = λ h k now. (k, now, still k);
    moments = λ h. started g.moment g.left_since a (After step (g.may_leave a)) (λ k left. (k, law k h left, still k));
  }

  -- what a write says of a disk is a change
  pub changes_write : {a b : D} {step : List ℕ → List ℕ → Type 0} → ((x : List ℕ) → step x x) → ((k : List ℕ) → IsTrue (g.honest a) → g.left_since a (g.moment a) k → g.may_leave a k)
      → g.extent b ≡ g.extent a → g.honest b ≡ g.honest a → g.read_count a ≤ g.read_count b → g.write_count a ≤ g.write_count b
      → (IsTrue (g.honest a) → step (g.seen a) (g.seen b)) → (IsTrue (g.honest a) → Always (g.may_leave b) (After step (g.may_leave a)))
      → (IsTrue (g.honest a) → Elapses g.moment g.left_since g.may_leave a b) → Changes g step a b
  changes_write {a} {b} {step} still law extent honest reads writes outside crash time = record {
    extent = extent;
    honest = honest;
    reads = reads;
    writes = writes;
    outside = outside;
    crash = crash;
    moments = λ h. stepped g.moment g.left_since g.may_leave step a b still (λ k left. law k h left) (time h) (crash h);
  }

  -- a change by one step is a change by a wider one
  pub changes_wider : {a b : D} {step wider : List ℕ → List ℕ → Type 0} → ((x y : List ℕ) → step x y → wider x y) → Changes g step a b → Changes g wider a b
  changes_wider {a} {b} wide r = record {
    extent = r.extent;
    honest = r.honest;
    reads = r.reads;
    writes = r.writes;
    outside = λ h. wide _ _ (r.outside h);
    crash = λ h k now. let was = r.crash h k now in (was.0, was.1, wide was.0 k was.2);
    moments = λ h. weakened g.moment g.left_since a b _ _ (r.moments h) (λ k from. (from.0, from.1, wide from.0 k from.2));
  }

  -- a change after a change is a change by both steps
  pub changes_then : {a b c : D} {first second both : List ℕ → List ℕ → Type 0} → ((x y : List ℕ) → first x y → both x y) → ((x y z : List ℕ) → first x y → second y z → both x z)
      → Changes g first a b → Changes g second b c → Changes g both a c
  changes_then {a} {b} {c} one two r s = record {
    extent = s.extent ∙ r.extent;
    honest = s.honest ∙ r.honest;
    reads = omega (arith, r.reads, s.reads);
    writes = omega (arith, r.writes, s.writes);
    outside = λ h. two _ _ _ (r.outside h) (s.outside (r.honest ∙ h));
    crash = λ h k now.
        let mid = s.crash (r.honest ∙ h) k now in
        let old = r.crash h mid.0 mid.1 in
        (old.0, old.1, two old.0 mid.0 k old.2 mid.2);
    moments = λ h. joined g.moment g.left_since a b c _ _ _ (r.moments h) (s.moments (r.honest ∙ h)) (λ k from. (from.0, from.1, one from.0 k from.2))
        (λ k from. let old = r.crash h from.0 from.1 in (old.0, old.1, two old.0 from.0 k old.2 from.2));
  }

  -- a call that only reads changes nothing
  pub changes_read : {a b : D} → OnlyReads g a b → Changes g Stays a b
  changes_read {a} {b} r = record {
    extent = r.extent;
    honest = r.honest;
    reads = r.reads;
    writes = r.writes;
    outside = r.seen;
    crash = λ h k now. (k, (r.crash h k).0 now, refl);
    moments = λ h. weakened g.moment g.left_since a b _ _ (r.moments h) (λ k left. (k, left, refl));
  }

  -- a call that changes nothing, and a change behind it
  pub stays_then_changes : {a b c : D} {step : List ℕ → List ℕ → Type 0} → ((x : List ℕ) → step x x) → Changes g Stays a b → Changes g step b c → Changes g step a c
  stays_then_changes {step = step} still r s = changes_then (stays_within step still) (stays_then step) r s

  -- a change, and a call behind it that changes nothing
  pub changes_then_stays : {a b c : D} {step : List ℕ → List ℕ → Type 0} → Changes g step a b → Changes g Stays b c → Changes g step a c
  changes_then_stays {step = step} r s = changes_then (λ x y one. one) (then_stays step) r s

  -- a call that only reads, and a change behind it
  pub reads_then_changes : {a b c : D} {step : List ℕ → List ℕ → Type 0} → ((x : List ℕ) → step x x) → OnlyReads g a b → Changes g step b c → Changes g step a c
  reads_then_changes still r s = stays_then_changes still (changes_read r) s

  -- a change, and a call behind it that only reads
  pub changes_then_reads : {a b c : D} {step : List ℕ → List ℕ → Type 0} → Changes g step a b → OnlyReads g b c → Changes g step a c
  changes_then_reads r s = changes_then_stays r (changes_read s)

-- what a sync leaves
module _ {D : Type 0} {g : Ghosts D} where
  -- what a sync says of a disk, also one that failed, is that it changes nothing
  pub stays_sync : {a b : D} → (IsTrue (g.honest a) → Always (g.left_since a (g.moment a)) (g.may_leave a))
      → g.extent b ≡ g.extent a → g.honest b ≡ g.honest a → g.read_count a ≤ g.read_count b → g.write_count a ≤ g.write_count b
      → (IsTrue (g.honest a) → g.seen b ≡ g.seen a) → (IsTrue (g.honest a) → Always (g.may_leave b) (g.may_leave a))
      → (IsTrue (g.honest a) → Elapses g.moment g.left_since g.may_leave a b) → Changes g Stays a b
  stays_sync law extent honest reads writes seen crash time = changes_write (λ x. refl) (λ k h left. law h k left) extent honest reads writes seen (λ h k now. (k, crash h k now, refl)) time

  -- a sync that failed leaves all as a read does
  pub reads_failed_sync : {a b : D} → (IsTrue (g.honest a) → Always (g.left_since a (g.moment a)) (g.may_leave a))
      → g.extent b ≡ g.extent a → g.honest b ≡ g.honest a → g.read_count a ≤ g.read_count b → g.write_count a ≤ g.write_count b
      → (IsTrue (g.honest a) → g.seen b ≡ g.seen a) → (IsTrue (g.honest a) → Always (g.may_leave b) (g.may_leave a)) → (IsTrue (g.honest a) → Always (g.may_leave a) (g.may_leave b))
      → (IsTrue (g.honest a) → Elapses g.moment g.left_since g.may_leave a b) → OnlyReads g a b
  reads_failed_sync law extent honest reads writes seen crash stays time = reads_read law extent honest reads writes seen (λ h k. (crash h k, stays h k)) time

  -- a change, and a sync behind it
  pub changes_sync : {a b c : D} {step : List ℕ → List ℕ → Type 0} → Changes g step a b
      → g.extent c ≡ g.extent b → g.honest c ≡ g.honest b → g.read_count b ≤ g.read_count c → g.write_count b ≤ g.write_count c
      → (IsTrue (g.honest b) → g.seen c ≡ g.seen b) → (IsTrue (g.honest b) → Always (g.may_leave c) (g.may_leave b))
      → (IsTrue (g.honest b) → Elapses g.moment g.left_since g.may_leave b c) → Changes g step a c
  changes_sync {a} {b} {c} {step} r extent honest reads writes seen crash time = record {
    extent = extent ∙ r.extent;
    honest = honest ∙ r.honest;
    reads = omega (arith, reads, r.reads);
    writes = omega (arith, writes, r.writes);
    outside = λ h. subst (λ (x : List ℕ). step (g.seen a) x) (sym (seen (r.honest ∙ h))) (r.outside h);
    crash = λ h k now. r.crash h k (crash (r.honest ∙ h) k now);
    moments = λ h. goes_on g.moment g.left_since g.may_leave a b c (After step (g.may_leave a)) (r.moments h) (time (r.honest ∙ h)) (λ k now. r.crash h k (crash (r.honest ∙ h) k now));
  }

  -- a sync that succeeded leaves all on the disk
  pub synced_sync : (a b : D) → g.honest b ≡ g.honest a → (IsTrue (g.honest a) → g.seen b ≡ g.seen a) → (IsTrue (g.honest a) → Only (g.seen a) (g.may_leave b)) → IsSynced g b
  synced_sync a b honest seen durable = record { only = λ h k now. let told = sym honest ∙ h in durable told k now ∙ sym (seen told) }

  -- what is on the disk is there after a call that changes nothing
  pub synced_then_stays : {a b : D} → IsSynced g a → Changes g Stays a b → IsSynced g b
  synced_then_stays s r = record {
    only = λ h k now.
        let told = sym r.honest ∙ h in
        let was = r.crash told k now in
        was.2 ∙ s.only told was.0 was.1 ∙ sym (r.outside told);
  }

  -- what is on the disk is there after a call that only reads
  pub synced_then_reads : {a b : D} → IsSynced g a → OnlyReads g a b → IsSynced g b
  synced_then_reads s r = synced_then_stays s (changes_read r)

-- a count that rose has risen since any earlier time, and up to any later one
pub rose_within : (first before now last : ℕ) → first ≤ before → now ≤ last → Rose before now → Rose first last
rose_within first before now last early late rose = omega (arith, early, late, rose)

-- an error is the one that it is told to be
same_error : {T : Type 0} (e f : Refusal) → IsErrOf {T = T} {E = Refusal} (Err e) f → e ≡ f
same_error e f is = IfErr-at_err (λ x. e ≡ x) is refl

-- a failed read is no failed write
faults_differ : ReadFault ≡ WriteFault → ⊥
faults_differ is = cc

-- an error stays one at another type of answers
error_at : {T : Type 0} (e f : Refusal) → e ≡ f → IsErrOf {T = T} {E = Refusal} (Err e) f
error_at {T} e f is = let P : Refusal → Result T Refusal = λ x. Err x in ap P is

-- an answer is no error
no_error : {T : Type 0} (v : T) (f : Refusal) → IsErrOf {T = T} {E = Refusal} (Ok v) f → ⊥
no_error v f is = IfErr-at_err (λ x. ⊥) is tt

-- why calls are refused, along several of them; the counts of those before and behind a call do not fall, as their records say
module _ {D : Type 0} {g : Ghosts D} where
  -- an answer that is no refusal has no cause to tell
  pub causes_ok : {T : Type 0} {a b : D} {may_come : Refusal → Type 0} (v : T) → HasCauses g may_come a b (Ok v)
  causes_ok v = record {
    read_fault = λ is. absurd (no_error v ReadFault is);
    write_fault = λ is. absurd (no_error v WriteFault is);
    no_other = tt;
  }

  -- a read that failed is the cause of a refusal
  pub causes_read : {T : Type 0} {a b : D} {may_come : Refusal → Type 0} → may_come ReadFault → Rose (g.read_count a) (g.read_count b) → HasCauses {T = T} g may_come a b (Err ReadFault)
  causes_read may rose = record {
    read_fault = λ is. rose;
    write_fault = λ is. absurd (faults_differ (same_error ReadFault WriteFault is));
    no_other = may;
  }

  -- a write or a sync that failed is the cause of a refusal
  pub causes_write : {T : Type 0} {a b : D} {may_come : Refusal → Type 0} → may_come WriteFault → Rose (g.write_count a) (g.write_count b) → HasCauses {T = T} g may_come a b (Err WriteFault)
  causes_write may rose = record {
    read_fault = λ is. absurd (faults_differ (sym (same_error WriteFault ReadFault is)));
    write_fault = λ is. rose;
    no_other = may;
  }

  -- a refusal that is no fault of the disk
  pub causes_other : {T : Type 0} {a b : D} {may_come : Refusal → Type 0} (e : Refusal) → e ≢ ReadFault → e ≢ WriteFault → may_come e → HasCauses {T = T} g may_come a b (Err e)
  causes_other e reads writes may = record {
    read_fault = λ is. absurd (reads (same_error e ReadFault is));
    write_fault = λ is. absurd (writes (same_error e WriteFault is));
    no_other = may;
  }

  -- a refusal that goes on from a call to its caller, whose other answers are of another type
  pub causes_on : {T U : Type 0} {a b : D} {may_come : Refusal → Type 0} {e : Refusal} → HasCauses {T = T} g may_come a b (Err e) → HasCauses {T = U} g may_come a b (Err e)
  causes_on {T} {U} {a} {b} {may_come} {e} r = record {
    read_fault = λ is. r.read_fault (error_at e ReadFault (same_error e ReadFault is));
    write_fault = λ is. r.write_fault (error_at e WriteFault (same_error e WriteFault is));
    no_other = r.no_other;
  }

  -- more refusals may come
  pub causes_wider : {T : Type 0} {a b : D} {may_come wider : Refusal → Type 0} {result : Result T Refusal} → ((e : Refusal) → may_come e → wider e) → HasCauses g may_come a b result → HasCauses g wider a b result
  causes_wider {may_come = may_come} {wider = wider} {result = result} wide r = record { read_fault = r.read_fault; write_fault = r.write_fault; no_other = IfErr-weaker result may_come wider wide r.no_other }

  -- the causes of a call that came behind others
  pub causes_after : {T : Type 0} {a b c : D} {may_come : Refusal → Type 0} {result : Result T Refusal} → g.read_count a ≤ g.read_count b → g.write_count a ≤ g.write_count b
      → HasCauses g may_come b c result → HasCauses g may_come a c result
  causes_after {a} {b} {c} reads writes r = record {
    read_fault = λ is. rose_within (g.read_count a) (g.read_count b) (g.read_count c) (g.read_count c) reads (omega arith) (r.read_fault is);
    write_fault = λ is. rose_within (g.write_count a) (g.write_count b) (g.write_count c) (g.write_count c) writes (omega arith) (r.write_fault is);
    no_other = r.no_other;
  }

  -- the causes of a call that others came behind
  pub causes_before : {T : Type 0} {a b c : D} {may_come : Refusal → Type 0} {result : Result T Refusal} → HasCauses g may_come a b result
      → g.read_count b ≤ g.read_count c → g.write_count b ≤ g.write_count c → HasCauses g may_come a c result
  causes_before {a} {b} {c} r reads writes = record {
    read_fault = λ is. rose_within (g.read_count a) (g.read_count a) (g.read_count b) (g.read_count c) (omega arith) reads (r.read_fault is);
    write_fault = λ is. rose_within (g.write_count a) (g.write_count a) (g.write_count b) (g.write_count c) (omega arith) writes (r.write_fault is);
    no_other = r.no_other;
  }
