-- Entries by number: how many there are after a put, and which test tells two numbers apart.
use Rattle.std.proofs.Common.{◌≡◌, ◌≤◌, ◌+◌, ◌==◌, ℕ, Bool, true, false, cond, not, ◌||◌, T, List, [], ◌∷◌, map, length, Some, IsSome, refl, sym, ap, subst, ◌∙◌, arith, nat_cmp, true≢false}
use Rattle.std.specs.Ordering.{eq_by_cmp}
use Rattle.std.specs.Option.{is_some}
use Rattle.std.specs.Cmp.{nat_cmp_total, unsigned_tied}
use Rattle.std.specs.FinMap.Entries.{find, put, where_key, is_sorted, length-put, length_without}
use Rattle.grid_model.specs.Lists.{is_among}
use Rattle.grid_model.proofs.Counts.{swap-eq}

-- the test of equality and the order tell the same numbers apart
pub cmp-test : (a m : ℕ) → (a == m) ≡ eq_by_cmp nat_cmp m a
cmp-test a m = swap-eq a m ∙ sym (unsigned_tied m a)

pub cmp-apart : (a m : ℕ) → (a == m) ≡ false → eq_by_cmp nat_cmp m a ≡ false
cmp-apart a m e = sym (cmp-test a m) ∙ e

some-or-more : (t : Bool) (n : ℕ) → cond t n (n + 1) ≤ n + 1
some-or-more true n = omega arith
some-or-more false n = omega arith

module _ {X : Type 0} where
  -- a put makes one entry more at most
  pub put-few : (k : ℕ) (v : X) (es : List (ℕ × X)) → T (is_sorted nat_cmp es) → length (put nat_cmp k v es) ≤ length es + 1
  put-few k v es s = omega (arith, length-put nat_cmp nat_cmp_total k v es s, some-or-more (is_some (find nat_cmp k es)) (length es))

  -- and none where the number has an entry
  pub put-there : (k : ℕ) (v : X) (es : List (ℕ × X)) → T (is_sorted nat_cmp es) → IsSome (find nat_cmp k es) → length (put nat_cmp k v es) ≡ length es
  put-there k v es s h = length-put nat_cmp nat_cmp_total k v es s ∙ ap (λ t. cond t (length es) (length es + 1)) h

  -- one entry fewer without a number that has one
  pub without-one : (k : ℕ) (es : List (ℕ × X)) → T (is_sorted nat_cmp es) → IsSome (find nat_cmp k es) → length (where_key nat_cmp (λ x. not (x == k)) es) + 1 ≡ length es
  without-one k es s h =
      let same : where_key nat_cmp (λ x. not (x == k)) es ≡ where_key nat_cmp (λ x. not (eq_by_cmp nat_cmp k x)) es = ap (λ p. where_key nat_cmp p es) (λ i x. not (cmp-test x k i)) in
      let all : cond true 1 0 + length (where_key nat_cmp (λ x. not (eq_by_cmp nat_cmp k x)) es) ≡ length es = ap (λ t. cond t 1 0 + length (where_key nat_cmp (λ x. not (eq_by_cmp nat_cmp k x)) es)) (sym h) ∙ length_without nat_cmp nat_cmp_total k es s in
      omega (arith, ap length same, all)

  -- a number that is found is an entry's
  pub found-among : (es : List (ℕ × X)) (n : ℕ) → IsSome (find nat_cmp n es) → is_among (map (λ e. e.0) es) n ≡ true
  found-among [] n h = absurd (true≢false (sym h))
  found-among (e ∷ es) n h = by (e.0 == n) refl (found-among es n)
    where
      by : (t : Bool) → (e.0 == n) ≡ t → (IsSome (find nat_cmp n es) → is_among (map (λ e. e.0) es) n ≡ true) → is_among (map (λ e. e.0) (e ∷ es)) n ≡ true
      by true q rest = ap (λ t. t || is_among (map (λ e. e.0) es) n) q
      by false q rest = ap (λ t. t || is_among (map (λ e. e.0) es) n) q ∙ rest (subst (λ t. IsSome (cond t (Some e.1) (find nat_cmp n es))) (cmp-apart e.0 n q) h)
