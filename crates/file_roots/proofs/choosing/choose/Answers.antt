use Rattle.std.proofs.Common.{◌≡◌, inl, inr, ◌∙◌, ℕ, List, true≢false, sym, ap, subst, refl, arith}
use Rattle.grid_types.specs.declared.refusal.Refusal.TheVariants.{Damaged}
use Rattle.grid_types.specs.Pages.{page_of}
use Rattle.file_roots.specs.Damage.{AreAlike, IsMisspelt, IsRootDamage}
use Rattle.file_roots.specs.Headers.{gate_of, root_number_at, Says, AreAlikeOn}
use Rattle.file_roots.proofs.Outcomes.{refusal_is, same_refusal}
use Rattle.file_roots.proofs.Newest.{first_misspelt, not_misspelt, is_misspelt}
use Rattle.file_roots.proofs.Verdicts.{named_page}
use Rattle.file_roots.proofs.choosing.choose.Goals as goal

-- header pages of an image that are not alike
unlike : (image zeroth first : List ℕ) → page_of 0 image ≡ zeroth → page_of 1 image ≡ first → (AreAlikeOn zeroth first → ⊥) → AreAlike image 1 → ⊥
unlike image zeroth first p0 p1 none alike =
    none (record {
      zeroth_open = ap gate_of (sym p0) ∙ alike.zeroth;
      first_open = ap gate_of (sym p1) ∙ alike.first;
      numbers = ap root_number_at (sym p0) ∙ alike.numbers ∙ ap root_number_at p1;
    })

pub returns-then-are_alike-clause-damaged : goal.returns-then-are_alike-clause-damaged
returns-then-are_alike-clause-damaged c = λ image p0 p1 p e.
    let alike = c.are_alike.ensures.0 c.if-are_alike.true in
    let is : 1 ≡ p = named_page 1 p (Damaged 1) refl (refusal_is (Damaged 1) (Damaged p) e) in
    inr (inl (record {
      zeroth = ap gate_of p0 ∙ alike.zeroth_open;
      first = ap gate_of p1 ∙ alike.first_open;
      numbers = ap root_number_at p0 ∙ alike.numbers ∙ ap root_number_at (sym p1);
      page_is = sym is;
    }))

pub returns-in_err-zeroth-clause-damaged : goal.returns-in_err-zeroth-clause-damaged
returns-in_err-zeroth-clause-damaged c = λ image p0 p1 p e.
    let d = c.in_err-zeroth.ensures.damaged in
    let is : 0 ≡ p = named_page 0 p c.in_err-zeroth.field-0.0 d.0 (same_refusal c.from_residual.result c.in_err-zeroth.field-0.0 (Damaged p) c.from_residual.ensures.1 e) in
    let misspelt = is_misspelt c.args.geometry.now.shape image c.args.zeroth.now 0 p0 d.1 in
    subst (IsRootDamage c.args.geometry.now.shape image) is
    (first_misspelt c.args.geometry.now.shape image 0 (omega arith) misspelt (λ header lt. absurd (omega (arith, lt))) (unlike image c.args.zeroth.now c.args.first.now p0 p1 (λ alike. true≢false (sym (c.are_alike.ensures.1 alike) ∙ c.if-are_alike.false))))

pub returns-in_err-first-clause-damaged : goal.returns-in_err-first-clause-damaged
returns-in_err-first-clause-damaged c = λ image p0 p1 p e.
    let d = c.in_err-first.ensures.damaged in
    let is : 1 ≡ p = named_page 1 p c.in_err-first.field-0.0 d.0 (same_refusal c.from_residual-in_err-first.result c.in_err-first.field-0.0 (Damaged p) c.from_residual-in_err-first.ensures.1 e) in
    let misspelt = is_misspelt c.args.geometry.now.shape image c.args.first.now 1 p1 d.1 in
    let zeroth = not_misspelt c.args.geometry.now.shape image 0 c.in_ok-zeroth.zeroth (subst (λ q. Says c.args.geometry.now.shape 0 q c.in_ok-zeroth.zeroth) (sym p0) c.in_ok-zeroth.ensures.said) in
    subst (IsRootDamage c.args.geometry.now.shape image) is
    (first_misspelt c.args.geometry.now.shape image 1 (omega arith) misspelt (λ header lt bad. zeroth (subst (IsMisspelt c.args.geometry.now.shape image) (omega (arith, lt)) bad)) (unlike image c.args.zeroth.now c.args.first.now p0 p1 (λ alike. true≢false (sym (c.are_alike.ensures.1 alike) ∙ c.if-are_alike.false))))

pub returns-in-Some-clause-found : goal.returns-in-Some-clause-found
returns-in-Some-clause-found c = λ image p0 p1.
    let s = c.args.geometry.now.shape in
    c.in-Some.ensures.found s image (subst (λ q. Says s 0 q c.in_ok-zeroth.zeroth) (sym p0) c.in_ok-zeroth.ensures.said) (subst (λ q. Says s 1 q c.in_ok-first.first) (sym p1) c.in_ok-first.ensures.said)

pub returns-in-Some-clause-lawful : goal.returns-in-Some-clause-lawful
returns-in-Some-clause-lawful c = c.in-Some.ensures.lawful c.args.geometry.now.shape c.args.zeroth.now c.args.first.now c.in_ok-zeroth.ensures.said c.in_ok-first.ensures.said

pub returns-in-None-clause-damaged : goal.returns-in-None-clause-damaged
returns-in-None-clause-damaged c = λ image p0 p1 p e.
    let s = c.args.geometry.now.shape in
    let is : 0 ≡ p = named_page 0 p (Damaged 0) refl (refusal_is (Damaged 0) (Damaged p) e) in
    let shut = c.in-None.ensures.none s image (subst (λ q. Says s 0 q c.in_ok-zeroth.zeroth) (sym p0) c.in_ok-zeroth.ensures.said) (subst (λ q. Says s 1 q c.in_ok-first.first) (sym p1) c.in_ok-first.ensures.said) in
    inl (record { zeroth = shut.0; first = shut.1; page_is = sym is })
