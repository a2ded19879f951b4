use Rattle.std.proofs.Common.{◌≡◌, ◌<◌, ◌/◌, ℕ, List, length, refl, sym, ap, ◌∙◌, subst, arith, true≢false}
use Rattle.std.proofs.lemmas.Result.{err_from_is_err_and}
use Rattle.bucket_page.specs.OnPage.{bucket_told}
use Rattle.grid_model.specs.Buckets.{SpellsBucket}
use Rattle.grid_types.specs.declared.sizes.TheConstants.{WORDS_ON_PAGE}
use Rattle.query_paths.specs.Pinned.{Place}
use Rattle.query_paths.specs.Calls.{place}
use Rattle.query_paths.specs.Readings.{IsCellBucketRead, IsGoodForCell}
use Rattle.query_paths.specs.Walks.{IsBoxCell}
use Rattle.query_paths.proofs.Coming.{each-among, marks-kept, part-there, held-part, names-none, cell-cause, cell-expected, pinned-among}
use Rattle.query_paths.proofs.Found.{few-in-cells}
use Rattle.query_paths.proofs.Arriving.{come, come-names, come-marked, come-passed, come-cut}
use Rattle.query_paths.proofs.Visits.{good-after, gathered, cut-at-part}
use Rattle.query_paths.proofs.walking.visit_cell.Goals as goal

pub hold-requires : goal.hold-requires
hold-requires g c =
    let there = part-there (place g.Q.Pinned c.args.pinned.now) c.args.cell.now c.args.index c.part_of-part.result c.requires.cell c.requires.at c.part_of-part.ensures in
    (omega arith, (there, c.requires.few))

pub returns-in_err-directory-clause-reads : goal.returns-in_err-directory-clause-reads
returns-in_err-directory-clause-reads g c = λ b L t start pin inside w.
    let p = place g.Q.Pinned c.args.pinned.now in
    let e = err_from_is_err_and c.from_residual.result c.from_residual.ensures.1 in
    let first : c.part_of-part.result.0 ≡ c.args.index / WORDS_ON_PAGE = ap (λ (x : ℕ × ℕ). x.0) c.part_of-part.ensures in
    let is_in : IsBoxCell p b c.args.cell.now = record { is_cell = c.requires.cell; inside = inside } in
    rw e.1 (cut-at-part p c.args.query.now b c.args.index start (g.G.Gather.holds c.args.gathering.now) c.args.cell.now is_in c.requires.at c.args.room.now c.args.steps.now c.hold.new.steps w (λ h is same. c.in_err-directory.ensures.held.other h is (same ∙ sym first)) c.in_err-directory.ensures.held.least c.in_err-directory.ensures.held.steps)

pub returns-then-not-has-clause-cause : goal.returns-then-not-has-clause-cause
returns-then-not-has-clause-cause g c =
    let p = place g.Q.Pinned c.args.pinned.now in
    let part = held-part p c.args.cell.now c.args.index c.part_of-part.result c.requires.cell c.requires.at c.part_of-part.ensures c.requires.low c.args.room.now c.hold.new.room c.args.steps.now c.hold.new.steps c.in_ok-directory.directory c.bucket_at-number.result c.deref.result.now c.requires.good c.in_ok-directory.ensures.held c.deref.ensures c.bucket_at-number.ensures.cell in
    record {
      later = c.in_ok-directory.ensures.later;
      refused = names-none g.row.K p c.args.cell.now c.part_of-part.result.0 c.hold.new.room.part.value c.in_ok-directory.directory c.bucket_at-number.result part c.hold.new.room.bucket.value (λ among.
          let low : c.bucket_at-number.result < length c.args.room.now.marks = each-among (λ n. n < length c.args.room.now.marks) (g.Q.Pinned.numbers c.args.pinned.now) c.bucket_at-number.result c.requires.within among in
          let kept = ap length (marks-kept p c.part_of-part.result.0 c.args.room.now c.hold.new.room c.args.steps.now c.hold.new.steps c.in_ok-directory.directory c.in_ok-directory.ensures.held) in
          true≢false (sym (c.has.ensures.1 (omega (arith, low, kept))) ∙ c.if-not-has.true));
    }

pub returns-then-not-has-clause-reads : goal.returns-then-not-has-clause-reads
returns-then-not-has-clause-reads g c = λ b L t start pin inside w.
    absurd (cell-expected (place g.Q.Pinned c.args.pinned.now) L t pin c.args.cell.now c.requires.cell c.hold.new.room.part.value c.hold.new.room.bucket.value c.in_ok-directory.directory (returns-then-not-has-clause-cause g c).refused)

pub returns-then-is_marked-clause-walked : goal.returns-then-is_marked-clause-walked
returns-then-is_marked-clause-walked g c = λ b start inside w.
    let p = place g.Q.Pinned c.args.pinned.now in
    let here = come p c.args.query.now b c.args.index start (g.G.Gather.holds c.args.gathering.now) c.args.cell.now c.part_of-part.result c.args.room.now c.hold.new.room c.args.steps.now c.hold.new.steps c.in_ok-directory.directory c.bucket_at-number.result c.deref.result.now
    c.requires.cell c.requires.at c.part_of-part.ensures c.requires.low inside c.requires.good c.in_ok-directory.ensures.held c.deref.ensures c.bucket_at-number.ensures.cell w in
    come-passed here (come-marked here c.is_marked.result c.is_marked.ensures ∙ c.if-is_marked.true)

pub returns-then-is_marked-clause-good : goal.returns-then-is_marked-clause-good
returns-then-is_marked-clause-good g c =
    good-after (place g.Q.Pinned c.args.pinned.now) c.part_of-part.result.0 c.args.room.now c.hold.new.room c.args.steps.now c.hold.new.steps c.in_ok-directory.directory c.requires.good c.in_ok-directory.ensures.held

pub returns-in_err-head-clause-cause : goal.returns-in_err-head-clause-cause
returns-in_err-head-clause-cause g c =
    let p = place g.Q.Pinned c.args.pinned.now in
    let part = held-part p c.args.cell.now c.args.index c.part_of-part.result c.requires.cell c.requires.at c.part_of-part.ensures c.requires.low c.args.room.now c.hold.new.room c.args.steps.now c.hold.new.steps c.in_ok-directory.directory c.bucket_at-number.result c.deref.result.now c.requires.good c.in_ok-directory.ensures.held c.deref.ensures c.bucket_at-number.ensures.cell in
    let e = err_from_is_err_and c.from_residual-in_err-head.result c.from_residual-in_err-head.ensures.1 in
    let read = subst (λ (x : Place). IsCellBucketRead g.row.K x c.args.cell.now (g.Q.Pinned.faults c.hold.new.pinned) (g.Q.Pinned.faults c.read_for_cell.new.pinned) c.bucket_at-number.result c.in_ok-directory.directory c.deref_mut.result.now c.read_for_cell.new.page c.read_for_cell.result) c.in_ok-directory.ensures.same.same_place c.read_for_cell.ensures.read in
    rw (e.1, e.2) (cell-cause g.row.K p c.args.cell.now c.part_of-part.result.0 c.hold.new.room.part.value c.in_ok-directory.directory c.bucket_at-number.result part g.G.Gather.may_lack _ (g.Q.Pinned.faults c.args.pinned.now) (g.Q.Pinned.faults c.hold.new.pinned) (g.Q.Pinned.faults c.read_for_cell.new.pinned) c.deref_mut.result.now c.in_err-head.field-0.0 c.in_ok-directory.ensures.later c.read_for_cell.ensures.later refl (rw c.in_err-head.was at read))

pub returns-in_err-head-clause-reads : goal.returns-in_err-head-clause-reads
returns-in_err-head-clause-reads g c = λ b L t start pin inside w.
    let p = place g.Q.Pinned c.args.pinned.now in
    let here = come p c.args.query.now b c.args.index start (g.G.Gather.holds c.args.gathering.now) c.args.cell.now c.part_of-part.result c.args.room.now c.hold.new.room c.args.steps.now c.hold.new.steps c.in_ok-directory.directory c.bucket_at-number.result c.deref.result.now
    c.requires.cell c.requires.at c.part_of-part.ensures c.requires.low inside c.requires.good c.in_ok-directory.ensures.held c.deref.ensures c.bucket_at-number.ensures.cell w in
    let among = pinned-among p L t pin c.args.cell.now c.requires.cell c.part_of-part.result.0 c.hold.new.room.part.value c.in_ok-directory.directory c.bucket_at-number.result here.read in
    let e = err_from_is_err_and c.from_residual-in_err-head.result c.from_residual-in_err-head.ensures.1 in
    rw e.1 (come-cut here among (come-marked here c.is_marked.result c.is_marked.ensures ∙ c.if-is_marked.false) c.read_for_cell.new.steps c.in_err-head.ensures.reads.0 c.in_err-head.ensures.reads.1)

pub returns-in_default-clause-reads : goal.returns-in_default-clause-reads
returns-in_default-clause-reads g c = λ b L t start pin inside w.
    let p = place g.Q.Pinned c.args.pinned.now in
    let here = come p c.args.query.now b c.args.index start (g.G.Gather.holds c.args.gathering.now) c.args.cell.now c.part_of-part.result c.args.room.now c.hold.new.room c.args.steps.now c.hold.new.steps c.in_ok-directory.directory c.bucket_at-number.result c.deref.result.now
    c.requires.cell c.requires.at c.part_of-part.ensures c.requires.low inside c.requires.good c.in_ok-directory.ensures.held c.deref.ensures c.bucket_at-number.ensures.cell w in
    let good = subst (λ (x : Place). IsGoodForCell g.row.K x c.args.cell.now c.bucket_at-number.result c.read_for_cell.new.page c.in_ok-head.head) c.in_ok-directory.ensures.same.same_place c.in_ok-head.ensures.read in
    come-cut here good.named (come-marked here c.is_marked.result c.is_marked.ensures ∙ c.if-is_marked.false) c.read_for_cell.new.steps (omega (arith, c.in_ok-head.ensures.reads)) (omega (arith, c.in_ok-head.ensures.reads))

pub returns-clause-walked : goal.returns-clause-walked
returns-clause-walked g c = λ b start inside w.
    let p = place g.Q.Pinned c.args.pinned.now in
    let n = c.bucket_at-number.result in
    let here = come p c.args.query.now b c.args.index start (g.G.Gather.holds c.args.gathering.now) c.args.cell.now c.part_of-part.result c.args.room.now c.hold.new.room c.args.steps.now c.hold.new.steps c.in_ok-directory.directory c.bucket_at-number.result c.deref.result.now
    c.requires.cell c.requires.at c.part_of-part.ensures c.requires.low inside c.requires.good c.in_ok-directory.ensures.held c.deref.ensures c.bucket_at-number.ensures.cell w in
    let found = here.held.walked in
    let out = come-marked here c.is_marked.result c.is_marked.ensures ∙ c.if-is_marked.false in
    let good = subst (λ (x : Place). IsGoodForCell g.row.K x c.args.cell.now n c.read_for_cell.new.page c.in_ok-head.head) c.in_ok-directory.ensures.same.same_place c.in_ok-head.ensures.read in
    let bytes = c.read_for_cell.new.page in
    let holds = c.in-Ok.ensures.gathered found.found (few-in-cells (length found.found) c.args.index found.few c.requires.low) found.holds_found p.shape.capacity (bucket_told g.row.K bytes) (subst (λ (x : List ℕ). SpellsBucket p.shape.capacity x (bucket_told g.row.K bytes)) (sym c.deref-2.ensures) good.has.expected.spelled) good.rows in
    gathered p c.args.query.now b c.args.index start (g.G.Gather.holds c.args.gathering.now) c.args.cell.now here.is_in c.requires.at c.hold.new.room c.hold.new.steps here.held n (come-names here good.named) out (bucket_told g.row.K bytes) bytes good.has.expected.number_is good.has _ c.read_for_cell.new.steps (g.G.Gather.holds c.gather.new.self) (c.has.ensures.0 c.if-not-has.false) c.mark.ensures refl holds (omega (arith, good.rows, good.few)) c.in_ok-head.ensures.reads

pub returns-clause-good : goal.returns-clause-good
returns-clause-good g c =
    good-after (place g.Q.Pinned c.args.pinned.now) c.part_of-part.result.0 c.args.room.now c.hold.new.room c.args.steps.now c.hold.new.steps c.in_ok-directory.directory c.requires.good c.in_ok-directory.ensures.held
