-- Which numbers tie.
use Rattle.std.proofs.Common.{◌≡◌, ◌≢◌, ℕ, Bool, true, false, refl, sym, ap, ◌∙◌, true≢false, nat_cmp, is_eq}
use Rattle.std.specs.Ordering.{eq_by_cmp}
use Rattle.std.specs.Cmp.{nat_cmp_total, tied_itself}
use Rattle.std.specs.FinMap.{nat_cmp-IsAntisymmetric}
use Rattle.grid_model.proofs.TableLaws.{equal_order}

-- numbers that tie are one
pub one-number : (m n : ℕ) → eq_by_cmp nat_cmp m n ≡ true → m ≡ n
one-number m n e = nat_cmp-IsAntisymmetric m n (equal_order (nat_cmp m n) e)

-- a number ties with itself
pub ties-itself : (n : ℕ) → eq_by_cmp nat_cmp n n ≡ true
ties-itself n = ap is_eq (tied_itself nat_cmp_total n)

-- two numbers do not tie
pub no-tie : (m n : ℕ) → m ≢ n → eq_by_cmp nat_cmp m n ≡ false
no-tie m n differ = by (eq_by_cmp nat_cmp m n) refl
  where
    by : (t : Bool) → eq_by_cmp nat_cmp m n ≡ t → t ≡ false
    by true e = absurd (differ (one-number m n e))
    by false e = refl

-- numbers that do not tie are two
pub two-numbers : (m n : ℕ) → eq_by_cmp nat_cmp m n ≡ false → m ≢ n
two-numbers m n e same = true≢false (sym (ties-itself n) ∙ ap (λ x. eq_by_cmp nat_cmp x n) (sym same) ∙ e)
