use Rattle.std.proofs.Common.{◌≡◌, ◌∙◌, ℕ, sym, ap, arith}
use Rattle.std.specs.Prelude.{decimal, Result, Ok, Err}
use Rattle.std.proofs.lemmas.Fmt.{parse-decimal}
use Rattle.std.proofs.lemmas.Bool.{false≢true}
use Rattle.std.proofs.lemmas.Bool.Decides.{Decides-eqb}
use Rattle.std.proofs.lemmas.Slice.Eq.{slice_eq-Decides}
use Rattle.grid_words.proofs.numbers.number_of.Goals as goal

not_both : {E : Type 0} (r : Result ℕ E) (n : ℕ) (e : E) → r ≡ Ok n → r ≡ Err e → ⊥
not_both r n e ok err = cc

one_of : {E : Type 0} (r : Result ℕ E) (m n : ℕ) → r ≡ Ok m → r ≡ Ok n → m ≡ n
one_of r m n a b = cc

pub returns-in_default-clause-none : goal.returns-in_default-clause-none
returns-in_default-clause-none c = λ n lt e.
    not_both c.parse.result n _ (parse-decimal 32 n c.args.word.now c.parse.result lt (omega (arith, lt)) e c.parse.ensures.value.0) c.in_default.is

pub returns-else-eq-clause-none : goal.returns-else-eq-clause-none
returns-else-eq-clause-none c = λ n lt e.
    let ok = parse-decimal 32 n c.args.word.now c.parse.result lt (omega (arith, lt)) e c.parse.ensures.value.0 in
    let same : c.in-Ok.n ≡ n = one_of c.parse.result c.in-Ok.n n c.in-Ok.is ok in
    let equal : c.as_bytes.result.now ≡ c.as_bytes-2.result.now = c.as_bytes.ensures.value ∙ c.format.ensures.text ∙ ap decimal same ∙ sym e ∙ sym c.as_bytes-2.ensures.value in
    false≢true (sym c.if-eq.false ∙ (slice_eq-Decides Decides-eqb _ _ _ c.eq.ensures).1 equal)
