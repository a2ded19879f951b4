use Rattle.std.proofs.Common.{◌≡◌, ◌∙◌, ℕ, sym, ap, subst, arith}
use Rattle.std.specs.Prelude.{decimal, Result, Ok}
use Rattle.std.specs.Str.{IsUtf8}
use Rattle.std.proofs.lemmas.Str.{IsUtf8-from_ascii}
use Rattle.std.proofs.lemmas.Fmt.{parse-decimal, IsAscii-decimal}
use Rattle.std.proofs.lemmas.Bool.{false≢true}
use Rattle.std.proofs.lemmas.Bool.Decides.{Decides-eqb}
use Rattle.std.proofs.lemmas.Slice.Eq.{slice_eq-Decides}
use Rattle.grid_script.proofs.NumberTexts.{ok_or_err}
use Rattle.grid_script.proofs.NumberTexts.{number-found, number-none}
use Rattle.grid_script.proofs.number.parse_number.Goals as goal

same_ok : {E : Type 0} (r : Result ℕ E) (m n : ℕ) → r ≡ Ok m → r ≡ Ok n → m ≡ n
same_ok r m n a b = cc

pub returns-in_default-clause-none : goal.returns-in_default-clause-none
returns-in_default-clause-none c = λ n lt e. c.in_default.ensures.cases.0 (subst IsUtf8 (sym e) (IsUtf8-from_ascii (decimal n) (IsAscii-decimal n lt)))

pub returns-in_default-parse-clause-none : goal.returns-in_default-parse-clause-none
returns-in_default-parse-clause-none c = λ n lt e.
    let ok = parse-decimal 64 n c.in-Ok.digits.now c.parse.result lt lt (c.in-Ok.ensures.cases.0 ∙ e) c.parse.ensures.value.0 in
    ok_or_err c.parse.result n _ ok c.in_default-parse.is

pub returns-else-eq-clause-none : goal.returns-else-eq-clause-none
returns-else-eq-clause-none c = λ n lt e.
    let ok = parse-decimal 64 n c.in-Ok.digits.now c.parse.result lt lt (c.in-Ok.ensures.cases.0 ∙ e) c.parse.ensures.value.0 in
    let same : n ≡ c.in-Ok-parse.n = same_ok c.parse.result n c.in-Ok-parse.n ok c.in-Ok-parse.is in
    let equal : c.as_bytes.result.now ≡ c.args.text.now = c.as_bytes.ensures.value ∙ c.format.ensures.text ∙ ap decimal (sym same) ∙ sym e in
    false≢true (sym c.if-eq.false ∙ (slice_eq-Decides Decides-eqb _ _ _ c.eq.ensures).1 equal)

pub returns-in_default-clause-value : goal.returns-in_default-clause-value
returns-in_default-clause-value c = sym (number-none c.args.text.now (returns-in_default-clause-none c))

pub returns-in_default-parse-clause-value : goal.returns-in_default-parse-clause-value
returns-in_default-parse-clause-value c = sym (number-none c.args.text.now (returns-in_default-parse-clause-none c))

pub returns-then-eq-clause-value : goal.returns-then-eq-clause-value
returns-then-eq-clause-value c =
    let same = (slice_eq-Decides Decides-eqb _ _ _ c.eq.ensures).0 c.if-eq.true in
    sym (number-found c.args.text.now c.in-Ok-parse.n (omega arith) (sym same ∙ c.as_bytes.ensures.value ∙ c.format.ensures.text))

pub returns-else-eq-clause-value : goal.returns-else-eq-clause-value
returns-else-eq-clause-value c = sym (number-none c.args.text.now (returns-else-eq-clause-none c))
