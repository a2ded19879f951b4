-- Two ascending lists of numbers that have the same numbers are one.
use Rattle.std.proofs.Common.{◌≡◌, ◌<◌, ◌+◌, ◌==◌, ◌||◌, ◌&&◌, ℕ, zero, suc, Bool, true, false, cond, T, List, [], ◌∷◌, map, filter, Some, None, refl, sym, ap, subst, ◌∙◌, arith, nat_cmp, is_lt}
use Rattle.std.specs.List.{range_with_len}
use Rattle.std.specs.Cmp.{nat_cmp_total, nat_cmp_is}
use Rattle.std.specs.declared.cmp.Ordering.TheVariants.{Less}
use Rattle.std.specs.FinMap.{nat_cmp-IsAntisymmetric}
use Rattle.std.specs.FinMap.Entries.{find, where_key, is_sorted, below_all, is_sorted-where_key, same_entries}
use Rattle.grid_model.specs.Lists.{is_among}
use Rattle.grid_model.proofs.Numbered.{cmp-test}
use Rattle.grid_model.proofs.Truths.{both-parts}

-- a number as an entry
abbrev tagged : ℕ → ℕ × ℕ
tagged n = (n, 0)

-- numbers ascend
abbrev pub Ascends : List ℕ → Type 0
Ascends ns = T (is_sorted nat_cmp (map tagged ns))

-- a tagged number is found exactly where the number is there
find-tagged : (ns : List ℕ) (q : ℕ) → find nat_cmp q (map tagged ns) ≡ cond (is_among ns q) (Some 0) None
find-tagged [] q = refl
find-tagged (n ∷ ns) q = ap (λ t. cond t (Some 0) (find nat_cmp q (map tagged ns))) (sym (cmp-test n q)) ∙ by (n == q) (find-tagged ns q)
  where
    by : (t : Bool) → find nat_cmp q (map tagged ns) ≡ cond (is_among ns q) (Some 0) None → cond t (Some 0) (find nat_cmp q (map tagged ns)) ≡ cond (t || is_among ns q) (Some 0) None
    by true rest = refl
    by false rest = rest

-- without their tags the numbers are as before
untagged : (ns : List ℕ) → map (λ e. e.0) (map tagged ns) ≡ ns
untagged [] = refl
untagged (n ∷ ns) = ap (λ s. n ∷ s) (untagged ns)

-- two ascending lists that have the same numbers are one
pub same-numbers : (ns ms : List ℕ) → Ascends ns → Ascends ms → ((q : ℕ) → is_among ns q ≡ is_among ms q) → ns ≡ ms
same-numbers ns ms a b same =
    let one : map tagged ns ≡ map tagged ms = same_entries nat_cmp nat_cmp_total nat_cmp-IsAntisymmetric (map tagged ns) (map tagged ms) a b (λ q. find-tagged ns q ∙ ap (λ t. cond t (Some 0) None) (same q) ∙ sym (find-tagged ms q)) in
    sym (untagged ns) ∙ ap (map (λ (e : ℕ × ℕ). e.0)) one ∙ untagged ms

module _ {X : Type 0} where
  -- the order of entries is that of their numbers
  below-alike : (n : ℕ) (es : List (ℕ × X)) → below_all nat_cmp n (map tagged (map (λ e. e.0) es)) ≡ below_all nat_cmp n es
  below-alike n [] = refl
  below-alike n (e ∷ es) = ap (λ t. is_lt (nat_cmp n e.0) && t) (below-alike n es)

  sorted-alike : (es : List (ℕ × X)) → is_sorted nat_cmp (map tagged (map (λ e. e.0) es)) ≡ is_sorted nat_cmp es
  sorted-alike [] = refl
  sorted-alike (e ∷ es) = λ i. below-alike e.0 es i && sorted-alike es i

  -- the numbers of entries in their order ascend
  pub entries-ascend : (es : List (ℕ × X)) → T (is_sorted nat_cmp es) → Ascends (map (λ e. e.0) es)
  entries-ascend es s = subst T (sym (sorted-alike es)) s

-- the numbers that pass, tagged, are the tagged ones that pass
tagged-where : (p : ℕ → Bool) (ns : List ℕ) → map tagged (filter p ns) ≡ where_key nat_cmp p (map tagged ns)
tagged-where p [] = refl
tagged-where p (n ∷ ns) = by (p n) (tagged-where p ns)
  where
    by : (t : Bool) → map tagged (filter p ns) ≡ where_key nat_cmp p (map tagged ns) → map tagged (cond t (n ∷ filter p ns) (filter p ns)) ≡ cond t (tagged n ∷ where_key nat_cmp p (map tagged ns)) (where_key nat_cmp p (map tagged ns))
    by true rest = ap (λ s. tagged n ∷ s) rest
    by false rest = rest

-- a lower number compares as less
less : (x a : ℕ) → x < a → T (is_lt (nat_cmp x a))
less x a p = subst (λ o. T (is_lt o)) (nat_cmp_is x a Less p) tt

-- a range ascends
range-below : (x a n : ℕ) → x < a → T (below_all nat_cmp x (map tagged (range_with_len a n)))
range-below x a zero p = tt
range-below x a (suc n) p = both-parts (is_lt (nat_cmp x a)) (below_all nat_cmp x (map tagged (range_with_len (a + 1) n))) (less x a p) (range-below x (a + 1) n (omega (arith, p)))

range-ascends : (a n : ℕ) → Ascends (range_with_len a n)
range-ascends a zero = tt
range-ascends a (suc n) = both-parts (below_all nat_cmp a (map tagged (range_with_len (a + 1) n))) (is_sorted nat_cmp (map tagged (range_with_len (a + 1) n))) (range-below a (a + 1) n (omega arith)) (range-ascends (a + 1) n)

-- the numbers of a range that pass ascend
pub passing-ascend : (p : ℕ → Bool) (a n : ℕ) → Ascends (filter p (range_with_len a n))
passing-ascend p a n = subst (λ es. T (is_sorted nat_cmp es)) (sym (tagged-where p (range_with_len a n))) (is_sorted-where_key nat_cmp p (map tagged (range_with_len a n)) (range-ascends a n))
