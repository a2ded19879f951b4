use Rattle.std.proofs.Common.{◌≡◌, ◌<◌, ◌^◌, ℕ, false, List, Err, IsTrue, refl, sym, ap, ◌∙◌, subst, arith}
use Rattle.std.proofs.lemmas.Result.{err_from_is_err_and}
use Rattle.grid_types.specs.declared.refusal.Refusal.TheVariants.{Damaged}
use Rattle.grid_types.specs.Regions.{contains}
use Rattle.grid_model.specs.Cells.{dims, cell_of}
use Rattle.grid_model.specs.Expected.{SoughtKey}
use Rattle.grid_model.specs.ScaleLaws.{IsCell}
use Rattle.query_paths.specs.Pinned.{Place}
use Rattle.query_paths.specs.Calls.{place}
use Rattle.query_paths.specs.Readings.{IsBucketRead, IsGoodPart, IsGoodBucket}
use Rattle.query_paths.proofs.Judged.{wrong-bucket, key-found}
use Rattle.query_paths.proofs.Answered.{box-found}
use Rattle.query_paths.proofs.Refusing.{part-of-key, part-names, part-cause, bucket-cause, honest-get, at-cell}
use Rattle.query_paths.proofs.finding.find_bucket.Goals as goal

pub returns-in_err-directory-clause-cause : goal.returns-in_err-directory-clause-cause
returns-in_err-directory-clause-cause g c =
    let p = err_from_is_err_and c.from_residual.result c.from_residual.ensures.1 in
    let old = place g.Q.Pinned c.args.pinned.now in
    let at = at-cell old.scales c.dims.result.intervals (cell_of old.scales c.args.key.now.numbers) c.cell_of.result c.index.result c.part_of-part.result c.dims.ensures.value c.cell_of.ensures.value c.index.ensures.value c.part_of-part.ensures in
    let low : c.part_of-part.result.0 < 2 ^ 32 = omega (arith, c.index.ensures.below, c.dims.result.lawful.few, ap (λ (r : ℕ × ℕ). r.0) c.part_of-part.ensures) in
    rw (p.1, p.2) (part-cause g.row.K old (g.Q.Pinned.faults c.args.pinned.now) (g.Q.Pinned.faults c.read_directory.new.pinned) c.args.key.now.numbers c.part_of-part.result.0 c.read_directory.new.page c.in_err-directory.field-0.0 at.0 low c.read_directory.ensures.later (rw c.in_err-directory.was at c.read_directory.ensures.read))

pub returns-in_err-directory-clause-honest : goal.returns-in_err-directory-clause-honest
returns-in_err-directory-clause-honest g c = λ L t pin.
    honest-get g.row.K (place g.Q.Pinned c.args.pinned.now) (g.Q.Pinned.faults c.args.pinned.now) (g.Q.Pinned.faults c.read_directory.new.pinned) c.args.key.now.numbers c.read_directory.new.page c.from_residual.result c.numbers-numbers.ensures.key (returns-in_err-directory-clause-cause g c) pin

pub returns-in_err-at-clause-cause : goal.returns-in_err-at-clause-cause
returns-in_err-at-clause-cause g c =
    let p = err_from_is_err_and c.from_residual-in_err-at.result c.from_residual-in_err-at.ensures.1 in
    let old = place g.Q.Pinned c.args.pinned.now in
    let mid = g.Q.Pinned.faults c.read_directory.new.pinned in
    let now = g.Q.Pinned.faults c.read_spelled.new.pinned in
    let at = at-cell old.scales c.dims.result.intervals (cell_of old.scales c.args.key.now.numbers) c.cell_of.result c.index.result c.part_of-part.result c.dims.ensures.value c.cell_of.ensures.value c.index.ensures.value c.part_of-part.ensures in
    let low : c.part_of-part.result.0 < 2 ^ 32 = omega (arith, c.index.ensures.below, c.dims.result.lawful.few, ap (λ (r : ℕ × ℕ). r.0) c.part_of-part.ensures) in
    let good : IsGoodPart old c.part_of-part.result.0 c.read_directory.new.page c.in_ok-directory.directory = c.in_ok-directory.ensures.read in
    let part = part-of-key old (cell_of old.scales c.args.key.now.numbers) c.part_of-part.result.0 c.part_of-part.result.1 c.read_directory.new.page c.in_ok-directory.directory c.bucket_at-number.result at low (subst (λ (d : List ℕ). IsCell (dims old.scales) d) c.cell_of.ensures.value c.cell_of.ensures.inside) good c.bucket_at-number.ensures.cell in
    let read = subst (λ (q : Place). IsBucketRead g.row.K q mid now c.bucket_at-number.result c.in_ok-directory.directory c.read_directory.new.page c.read_spelled.new.page c.read_spelled.result) c.in_ok-directory.ensures.same.same_place c.read_spelled.ensures.read in
    rw (p.1, p.2) (bucket-cause g.row.K old (g.Q.Pinned.faults c.args.pinned.now) now c.args.key.now.numbers mid c.part_of-part.result.0 c.read_directory.new.page c.in_ok-directory.directory c.bucket_at-number.result c.read_spelled.new.page c.in_err-at.field-0.0 c.read_directory.ensures.later c.read_spelled.ensures.later part (rw c.in_err-at.was at read))

pub returns-in_err-at-clause-honest : goal.returns-in_err-at-clause-honest
returns-in_err-at-clause-honest g c = λ L t pin.
    honest-get g.row.K (place g.Q.Pinned c.args.pinned.now) (g.Q.Pinned.faults c.args.pinned.now) (g.Q.Pinned.faults c.read_spelled.new.pinned) c.args.key.now.numbers c.read_spelled.new.page c.from_residual-in_err-at.result c.numbers-numbers.ensures.key (returns-in_err-at-clause-cause g c) pin

pub returns-then-not-contains-clause-cause : goal.returns-then-not-contains-clause-cause
returns-then-not-contains-clause-cause g c =
    let old = place g.Q.Pinned c.args.pinned.now in
    let at = at-cell old.scales c.dims.result.intervals (cell_of old.scales c.args.key.now.numbers) c.cell_of.result c.index.result c.part_of-part.result c.dims.ensures.value c.cell_of.ensures.value c.index.ensures.value c.part_of-part.ensures in
    let low : c.part_of-part.result.0 < 2 ^ 32 = omega (arith, c.index.ensures.below, c.dims.result.lawful.few, ap (λ (r : ℕ × ℕ). r.0) c.part_of-part.ensures) in
    let good : IsGoodPart old c.part_of-part.result.0 c.read_directory.new.page c.in_ok-directory.directory = c.in_ok-directory.ensures.read in
    let part = part-of-key old (cell_of old.scales c.args.key.now.numbers) c.part_of-part.result.0 c.part_of-part.result.1 c.read_directory.new.page c.in_ok-directory.directory c.bucket_at-number.result at low (subst (λ (d : List ℕ). IsCell (dims old.scales) d) c.cell_of.ensures.value c.cell_of.ensures.inside) good c.bucket_at-number.ensures.cell in
    let bucket = subst (λ (q : Place). IsGoodBucket g.row.K q c.bucket_at-number.result c.read_spelled.new.page c.in_ok-at.at c.in_ok-at.head) c.in_ok-directory.ensures.same.same_place c.in_ok-at.ensures.read in
    let named = part-names old (cell_of old.scales c.args.key.now.numbers) c.part_of-part.result.0 c.read_directory.new.page c.in_ok-directory.directory c.bucket_at-number.result part bucket.named in
    let out : contains c.in_ok-at.head.region c.args.key.now.numbers ≡ false = sym c.contains.ensures.value ∙ c.if-not-contains.true in
    record {
      later = omega (arith, c.read_directory.ensures.later, c.read_spelled.ensures.later);
      refused = wrong-bucket old c.bucket_at-number.result (SoughtKey c.args.key.now.numbers) c.read_spelled.new.page c.in_ok-at.at (cell_of old.scales c.args.key.now.numbers) c.read_spelled.new.page c.in_ok-at.head c.requires named bucket c.args.key.now.numbers refl out;
    }

pub returns-then-not-contains-clause-honest : goal.returns-then-not-contains-clause-honest
returns-then-not-contains-clause-honest g c = λ L t pin.
    honest-get {T = ℕ} g.row.K (place g.Q.Pinned c.args.pinned.now) (g.Q.Pinned.faults c.args.pinned.now) (g.Q.Pinned.faults c.read_spelled.new.pinned) c.args.key.now.numbers c.read_spelled.new.page (Err (Damaged c.in_ok-at.at)) c.numbers-numbers.ensures.key
    (let h = returns-then-not-contains-clause-cause g c in record { later = h.later; refused = h.refused }) pin

pub returns-clause-expected : goal.returns-clause-expected
returns-clause-expected g c =
    let old = place g.Q.Pinned c.args.pinned.now in
    let bytes = c.read_spelled.new.page in
    let at = at-cell old.scales c.dims.result.intervals (cell_of old.scales c.args.key.now.numbers) c.cell_of.result c.index.result c.part_of-part.result c.dims.ensures.value c.cell_of.ensures.value c.index.ensures.value c.part_of-part.ensures in
    let low : c.part_of-part.result.0 < 2 ^ 32 = omega (arith, c.index.ensures.below, c.dims.result.lawful.few, ap (λ (r : ℕ × ℕ). r.0) c.part_of-part.ensures) in
    let good : IsGoodPart old c.part_of-part.result.0 c.read_directory.new.page c.in_ok-directory.directory = c.in_ok-directory.ensures.read in
    let part = part-of-key old (cell_of old.scales c.args.key.now.numbers) c.part_of-part.result.0 c.part_of-part.result.1 c.read_directory.new.page c.in_ok-directory.directory c.bucket_at-number.result at low (subst (λ (d : List ℕ). IsCell (dims old.scales) d) c.cell_of.ensures.value c.cell_of.ensures.inside) good c.bucket_at-number.ensures.cell in
    let bucket = subst (λ (q : Place). IsGoodBucket g.row.K q c.bucket_at-number.result bytes c.in_ok-at.at c.in_ok-at.head) c.in_ok-directory.ensures.same.same_place c.in_ok-at.ensures.read in
    let has : IsTrue (contains c.in_ok-at.head.region c.args.key.now.numbers) = sym c.contains.ensures.value ∙ c.if-not-contains.false in
    key-found old c.args.key.now.numbers bytes c.bucket_at-number.result c.in_ok-at.at c.in_ok-at.head bucket
    (part-names old (cell_of old.scales c.args.key.now.numbers) c.part_of-part.result.0 c.read_directory.new.page c.in_ok-directory.directory c.bucket_at-number.result part bucket.named)
    has

pub returns-clause-answer : goal.returns-clause-answer
returns-clause-answer g c = λ L t e pin holds.
    box-found (place g.Q.Pinned c.args.pinned.now) L t pin c.args.key.now.numbers c.numbers-numbers.ensures.key c.read_spelled.new.page c.in_ok-at.head e (returns-clause-expected g c) holds
