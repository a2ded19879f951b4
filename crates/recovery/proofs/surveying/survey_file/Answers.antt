use Rattle.std.proofs.Common.{◌+◌, ◌-◌, refl, ap, subst, ◌∙◌, arith}
use Rattle.std.proofs.lemmas.List.Elements.{All-contains}
use Rattle.grid_types.specs.declared.refusal.Refusal.TheVariants.{Damaged, NoMemory, ReadFault}
use Rattle.grid_types.specs.Shapes.{area_pages}
use Rattle.linear_scales.specs.Roots.{whole_of}
use Rattle.root_pages.proofs.Roots.{few_attributes}
use Rattle.journal_slots.specs.Scans.{IsLawfulOf}
use Rattle.disk_trait.proofs.Calls.{reads_then}
use Rattle.file_roots.proofs.Outcomes.{refused_so, same_refusal}
use Rattle.recovery.specs.Faults.{IsJournalDamage, IsFirstFault, IsNoFaultOr}
use Rattle.recovery.specs.Reads.{IsJournalGoodUpTo}
use Rattle.recovery.specs.Surveys.{IsJournal, survey_pages}
use Rattle.recovery.proofs.Good.{good_journal}
use Rattle.recovery.proofs.Firsts.{on_refusal, after_journal, survey_of, shape_same, rooted_newest}
use Rattle.recovery.proofs.surveying.survey_file.Goals as goal

pub returns-in_err-rooted-clause-first : goal.returns-in_err-rooted-clause-first
returns-in_err-rooted-clause-first g c = λ h.
    on_refusal (IsNoFaultOr (IsFirstFault g.row.K (g.D.Disk.seen c.args.disk.now))) c.from_residual.result c.in_err-rooted.field-0.0 c.from_residual.ensures.1 (c.in_err-rooted.ensures.first h)

pub returns-in_err-rooted-clause-no_memory : goal.returns-in_err-rooted-clause-no_memory
returns-in_err-rooted-clause-no_memory g c = λ h is.
    let e = c.in_err-rooted.field-0.0 in
    c.in_err-rooted.ensures.no_memory h (refused_so e NoMemory (same_refusal c.from_residual.result e NoMemory c.from_residual.ensures.1 is))

pub returns-in_err-rooted-clause-before : goal.returns-in_err-rooted-clause-before
returns-in_err-rooted-clause-before g c = λ h is.
    let e = c.in_err-rooted.field-0.0 in
    c.in_err-rooted.ensures.before h (refused_so e ReadFault (same_refusal c.from_residual.result e ReadFault c.from_residual.ensures.1 is))

pub returns-in_err-rooted-clause-most : goal.returns-in_err-rooted-clause-most
returns-in_err-rooted-clause-most g c = λ h s begins. omega (arith, c.in_err-rooted.ensures.most h s begins)

pub read_journal-requires : goal.read_journal-requires
read_journal-requires g c =
    let s = c.in_ok-rooted.rooted.geometry in
    let lawful = c.in_ok-rooted.ensures.lawful in
    (omega arith, (omega (arith, lawful.size, c.in_ok-rooted.ensures.same.extent), few_attributes s.shape g.row.K s.lawful lawful.attributes))

pub join-requires : goal.join-requires
join-requires g c =
    let s = c.in_ok-rooted.rooted.geometry in
    let lawful = c.in_ok-rooted.ensures.lawful in
    (omega arith, (omega arith, (few_attributes s.shape g.row.K s.lawful lawful.attributes, lawful.root.fields.front)))

pub returns-in_err-journal-clause-same : goal.returns-in_err-journal-clause-same
returns-in_err-journal-clause-same g c = reads_then c.in_ok-rooted.ensures.same c.in_err-journal.ensures.same

pub returns-in-Err-clause-same : goal.returns-in-Err-clause-same
returns-in-Err-clause-same g c = reads_then c.in_ok-rooted.ensures.same c.in_ok-journal.ensures.same

pub returns-clause-same : goal.returns-clause-same
returns-clause-same g c = reads_then c.in_ok-rooted.ensures.same c.in_ok-journal.ensures.same

pub returns-in_err-journal-clause-first : goal.returns-in_err-journal-clause-first
returns-in_err-journal-clause-first g c = λ h.
    let rooted = c.in_ok-rooted.rooted in
    let seen = g.D.Disk.seen c.args.disk.now in
    let is = c.in_ok-rooted.ensures.found h in
    let same = c.in_ok-rooted.ensures.same in
    let e = c.in_err-journal.field-0.0 in
    let journal = c.in_err-journal.ensures in
    on_refusal (IsNoFaultOr (IsFirstFault g.row.K seen)) c.from_residual-in_err-journal.result e c.from_residual-in_err-journal.ensures.1 (after_journal g.row.K seen rooted.geometry.shape is.shape (whole_of rooted.root) is.whole e journal.causes.no_other
    (λ p bad. subst (λ i. IsJournalDamage g.row.K rooted.geometry.shape i p) (same.seen h) (journal.damaged (same.honest ∙ h) p (refused_so e (Damaged p) bad))))

pub returns-in_err-journal-clause-no_memory : goal.returns-in_err-journal-clause-no_memory
returns-in_err-journal-clause-no_memory g c = λ h is. rooted_newest (g.D.Disk.seen c.args.disk.now) c.in_ok-rooted.rooted (c.in_ok-rooted.ensures.found h)

pub returns-in-Err-clause-no_memory : goal.returns-in-Err-clause-no_memory
returns-in-Err-clause-no_memory g c = λ h is. rooted_newest (g.D.Disk.seen c.args.disk.now) c.in_ok-rooted.rooted (c.in_ok-rooted.ensures.found h)

pub returns-in_err-journal-clause-before : goal.returns-in_err-journal-clause-before
returns-in_err-journal-clause-before g c = λ h is n e.
    let rooted = c.in_ok-rooted.rooted in
    let s = rooted.geometry.shape in
    let seen = g.D.Disk.seen c.args.disk.now in
    let found = c.in_ok-rooted.ensures.found h in
    let same = c.in_ok-rooted.ensures.same in
    let journal = c.in_err-journal.ensures in
    let told = same_refusal c.from_residual-in_err-journal.result c.in_err-journal.field-0.0 ReadFault c.from_residual-in_err-journal.ensures.1 is in
    let m = n - (2 + area_pages s) in
    good_journal seen s found.shape (whole_of rooted.root) found.whole n m (omega (arith, e, c.in_ok-rooted.ensures.ticks, journal.least))
    (subst (λ i. IsJournalGoodUpTo g.row.K s i m) (same.seen h) (journal.before (same.honest ∙ h) (refused_so _ _ told) m (omega (arith, e, c.in_ok-rooted.ensures.ticks, journal.least))))

pub returns-in_err-journal-clause-most : goal.returns-in_err-journal-clause-most
returns-in_err-journal-clause-most g c = λ h s begins.
    let rooted = c.in_ok-rooted.ensures in
    omega (arith, ap survey_pages (shape_same (g.D.Disk.seen c.args.disk.now) _ c.in_ok-rooted.rooted.geometry.shape s (rooted.found h).shape begins), rooted.ticks, c.in_err-journal.ensures.most)

pub returns-in-Err-clause-most : goal.returns-in-Err-clause-most
returns-in-Err-clause-most g c = λ h s begins.
    let rooted = c.in_ok-rooted.ensures in
    omega (arith, ap survey_pages (shape_same (g.D.Disk.seen c.args.disk.now) _ c.in_ok-rooted.rooted.geometry.shape s (rooted.found h).shape begins), rooted.ticks, c.in_ok-journal.ensures.most)

pub returns-clause-most : goal.returns-clause-most
returns-clause-most g c = λ h s begins.
    let rooted = c.in_ok-rooted.ensures in
    omega (arith, ap survey_pages (shape_same (g.D.Disk.seen c.args.disk.now) _ c.in_ok-rooted.rooted.geometry.shape s (rooted.found h).shape begins), rooted.ticks, c.in_ok-journal.ensures.most)

pub returns-clause-found : goal.returns-clause-found
returns-clause-found g c = λ h.
    let rooted = c.in_ok-rooted.rooted in
    let found = c.in_ok-rooted.ensures.found h in
    let same = c.in_ok-rooted.ensures.same in
    let journal = subst (λ i. IsJournal rooted.geometry.shape i rooted.root.session c.in_ok-journal.journal) (same.seen h) (c.in_ok-journal.ensures.found (same.honest ∙ h)) in
    survey_of (g.D.Disk.seen c.args.disk.now) _ c.in_ok-journal.journal found.shape found.whole journal c.in-Ok.ensures.joined refl

pub returns-clause-lawful : goal.returns-clause-lawful
returns-clause-lawful g c =
    let rooted = c.in_ok-rooted.ensures.lawful in
    let journal = c.in_ok-journal.ensures.lawful in
    let joined = c.in-Ok.ensures in
    record {
      attributes = rooted.attributes;
      size = rooted.size;
      root = rooted.root;
      limits = rooted.limits;
      taken = λ i d lt. All-contains (IsLawfulOf c.in_ok-rooted.rooted.root.session) c.in_ok-journal.journal.batches _ journal.batches (joined.among i d lt);
      front_is = joined.count;
      small = joined.small;
      few = journal.few;
    }
