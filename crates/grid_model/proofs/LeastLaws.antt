-- The least of a list.
use Rattle.std.proofs.Common.{◌≡◌, ◌<◌, ℕ, zero, suc, Bool, true, false, cond, List, [], ◌∷◌, length, get_or, refl, sym, ap, subst, ◌∙◌, true≢false, Some, None, fold, Contains, IsTrue, slice_get, arith}
use Rattle.std.specs.List.{AllByRecursion}
use Rattle.std.specs.Ordering.{nat_cmp, is_lt, ordering_reverse}
use Rattle.std.specs.declared.cmp.Ordering.{Ordering}
use Rattle.std.specs.declared.cmp.Ordering.TheVariants.{Less, Equal, Greater}
use Rattle.std.specs.Cmp.{tied_itself}
use Rattle.std.specs.Cmp.Lexicographic.{slice_cmp, nat_list_cmp_total}
use Rattle.std.proofs.lemmas.List.Elements.{All-contains, All-from_recursion}
use Rattle.std.proofs.lemmas.Bool.{false_from_ne_true}
use Rattle.std.proofs.lemmas.Option.{none-some, same_Some}
use Rattle.grid_model.specs.CutLaws.{HasLeast, IsFirstAt}
use Rattle.grid_model.specs.Lists.{ranks_below, lower, least}

abbrev compare : List ℕ → List ℕ → Ordering
compare = slice_cmp nat_cmp

less-order : (o : Ordering) → is_lt o ≡ true → o ≡ Less
less-order Less e = refl
less-order Equal e = absurd (true≢false (sym e))
less-order Greater e = absurd (true≢false (sym e))

not-itself : (x : List ℕ) → ranks_below x x ≡ false
not-itself x = ap is_lt (tied_itself nat_list_cmp_total x)

not-both : (x y : List ℕ) → ranks_below x y ≡ true → ranks_below y x ≡ false
not-both x y e = ap is_lt (nat_list_cmp_total.antisymm y x ∙ ap ordering_reverse (less-order (compare x y) e))

-- where y is not below m, and m is not below x, y is not below x
not-below : (x m y : List ℕ) → ranks_below m x ≡ false → ranks_below y m ≡ false → ranks_below y x ≡ false
not-below x m y mx ym =
    false_from_ne_true (ranks_below y x) (λ yx. true≢false (sym (ap is_lt (by (compare m y) refl (less-order (compare y x) yx))) ∙ mx))
  where
    by : (o : Ordering) → compare m y ≡ o → compare y x ≡ Less → compare m x ≡ Less
    by Less e l = nat_list_cmp_total.trans m y x e l
    by Equal e l = nat_list_cmp_total.congr m y x e ∙ l
    by Greater e l = absurd (true≢false (sym (ap is_lt (nat_list_cmp_total.antisymm y m ∙ ap ordering_reverse e)) ∙ ym))

-- what is below a rank is below the ranks above that one
below-more : (x y z : List ℕ) → ranks_below x y ≡ true → ranks_below y z ≡ true → ranks_below x z ≡ true
below-more x y z e f = ap is_lt (nat_list_cmp_total.trans x y z (less-order (compare x y) e) (less-order (compare y z) f))

-- and below those that are not below it
below-others : (x y z : List ℕ) → ranks_below x y ≡ true → ranks_below z y ≡ false → ranks_below x z ≡ true
below-others x y z e f = by (ranks_below x z) refl
  where
    by : (t : Bool) → ranks_below x z ≡ t → t ≡ true
    by true g = refl
    by false g = absurd (true≢false (sym e ∙ not-below y z x f g))

module _ {X : Type 0} (rank : X → List ℕ) where
  abbrev best : X → List X → X
  best x xs = fold (lower rank) x xs

  -- neither of two is below the lower
  lower-first : (x y : X) → ranks_below (rank x) (rank (lower rank x y)) ≡ false
  lower-first x y = by (ranks_below (rank y) (rank x)) refl
    where
      by : (b : Bool) → ranks_below (rank y) (rank x) ≡ b → ranks_below (rank x) (rank (cond b y x)) ≡ false
      by true e = not-both (rank y) (rank x) e
      by false e = not-itself (rank x)

  lower-second : (x y : X) → ranks_below (rank y) (rank (lower rank x y)) ≡ false
  lower-second x y = by (ranks_below (rank y) (rank x)) refl
    where
      by : (b : Bool) → ranks_below (rank y) (rank x) ≡ b → ranks_below (rank y) (rank (cond b y x)) ≡ false
      by true e = not-itself (rank y)
      by false e = e

  -- what starts it is not below the best
  first-not-below : (x : X) (xs : List X) → ranks_below (rank x) (rank (best x xs)) ≡ false
  first-not-below x [] = not-itself (rank x)
  first-not-below x (y ∷ ys) = not-below (rank (best (lower rank x y) ys)) (rank (lower rank x y)) (rank x) (first-not-below (lower rank x y) ys) (lower-first x y)

  -- no element is below the best
  none-below : (x : X) (xs : List X) → AllByRecursion (λ y. ranks_below (rank y) (rank (best x xs)) ≡ false) (x ∷ xs)
  none-below x xs = (first-not-below x xs, rest x xs)
    where
      rest : (x : X) (xs : List X) → AllByRecursion (λ y. ranks_below (rank y) (rank (best x xs)) ≡ false) xs
      rest x [] = tt
      rest x (y ∷ ys) = (not-below (rank (best (lower rank x y) ys)) (rank (lower rank x y)) (rank y) (first-not-below (lower rank x y) ys) (lower-second x y), rest (lower rank x y) ys)

  kept-first : (x y : X) (ys : List X) (b : X) (k : ℕ) → k < length (x ∷ ys) → get_or (x ∷ ys) k b ≡ b → Contains (x ∷ y ∷ ys) b
  kept-first x y ys b zero p e = (0, omega arith, e)
  kept-first x y ys b (suc k) p e = (suc (suc k), omega (arith, p), e)

  -- the best is the one that starts it, or one of the others
  best-is-one : (x : X) (xs : List X) → Contains (x ∷ xs) (best x xs)
  best-is-one x [] = (0, omega arith, refl)
  best-is-one x (y ∷ ys) = by (ranks_below (rank y) (rank x)) (best-is-one x ys) (best-is-one y ys)
    where
      by : (t : Bool) → Contains (x ∷ ys) (best x ys) → Contains (y ∷ ys) (best y ys) → Contains (x ∷ y ∷ ys) (best (cond t y x) ys)
      by true h g = (suc g.0, omega (arith, g.1), g.2)
      by false h g = kept-first x y ys (best x ys) h.0 h.1 h.2

  -- the best of an item and others is that item, or the first of those that rank as it does, and lower than the item
  data Comes (x : X) (xs : List X) (b : X) : Type 0 where
    Kept : x ≡ b → Comes x xs b
    Later : ranks_below (rank b) (rank x) ≡ true → IsFirstAt rank xs b → Comes x xs b

  -- one item more in front, which ranks above
  one-more : (y : X) (ys : List X) (b : X) → ranks_below (rank b) (rank y) ≡ true → IsFirstAt rank ys b → IsFirstAt rank (y ∷ ys) b
  one-more y ys b e h = record { index = suc h.index; there = h.there; before = before }
    where
      before : (i : ℕ) (z : X) → i < suc h.index → slice_get (y ∷ ys) i ≡ Some z → IsTrue (ranks_below (rank b) (rank z))
      before zero z l q = subst (λ (m : X). ranks_below (rank b) (rank m) ≡ true) (same_Some y z q) e
      before (suc i) z l q = h.before i z (omega (arith, l)) q

  here : (y : X) (ys : List X) (b : X) → y ≡ b → IsFirstAt rank (y ∷ ys) b
  here y ys b e = record { index = 0; there = ap Some e; before = λ i z l q. absurd (omega (arith, l)) }

  comes : (x : X) (xs : List X) → Comes x xs (best x xs)
  comes x [] = Kept refl
  comes x (y ∷ ys) = by (ranks_below (rank y) (rank x)) refl (comes x ys) (comes y ys)
    where
      of-x : ranks_below (rank y) (rank x) ≡ false → Comes x ys (best x ys) → Comes x (y ∷ ys) (best x ys)
      of-x e (Kept same) = Kept same
      of-x e (Later lower h) = Later lower (one-more y ys (best x ys) (below-others (rank (best x ys)) (rank x) (rank y) lower e) h)

      of-y : ranks_below (rank y) (rank x) ≡ true → Comes y ys (best y ys) → Comes x (y ∷ ys) (best y ys)
      of-y e (Kept same) = Later (subst (λ (m : X). ranks_below (rank m) (rank x) ≡ true) same e) (here y ys (best y ys) same)
      of-y e (Later lower h) = Later (below-more (rank (best y ys)) (rank y) (rank x) lower e) (one-more y ys (best y ys) lower h)

      by : (t : Bool) → ranks_below (rank y) (rank x) ≡ t → Comes x ys (best x ys) → Comes y ys (best y ys) → Comes x (y ∷ ys) (best (cond t y x) ys)
      by true e h g = of-y e g
      by false e h g = of-x e h

  -- the least of a list is the first of its rank
  pub least-is-first : (xs : List X) (x : X) → least rank xs ≡ Some x → IsFirstAt rank xs x
  least-is-first [] x e = absurd (none-some x e)
  least-is-first (y ∷ ys) x e = subst (IsFirstAt rank (y ∷ ys)) (same_Some (best y ys) x e) (first-of (comes y ys))
    where
      first-of : Comes y ys (best y ys) → IsFirstAt rank (y ∷ ys) (best y ys)
      first-of (Kept same) = here y ys (best y ys) same
      first-of (Later lower h) = one-more y ys (best y ys) lower h

  -- the least of a list is one of its items
  pub least-is-one : (xs : List X) (x : X) → least rank xs ≡ Some x → Contains xs x
  least-is-one [] x e = absurd (none-some x e)
  least-is-one (y ∷ ys) x e = subst (Contains (y ∷ ys)) (same_Some (best y ys) x e) (best-is-one y ys)

  -- none of them ranks below it
  pub none-below-least : (xs : List X) (x y : X) → least rank xs ≡ Some x → Contains xs y → ranks_below (rank y) (rank x) ≡ false
  none-below-least [] x y e h = absurd (none-some x e)
  none-below-least (z ∷ zs) x y e h = subst (λ (m : X). ranks_below (rank y) (rank m) ≡ false) (same_Some (best z zs) x e)
      (All-contains (λ (y : X). ranks_below (rank y) (rank (best z zs)) ≡ false) (z ∷ zs) y (All-from_recursion (λ (y : X). ranks_below (rank y) (rank (best z zs)) ≡ false) (z ∷ zs) (none-below z zs)) h)

  -- where there is no least there is no item
  pub no-least : (xs : List X) → least rank xs ≡ None → xs ≡ []
  no-least [] e = refl
  no-least (x ∷ xs) e = absurd (none-some (best x xs) (sym e))

-- the least of some items is what its law says
pub has-least : (X : Type 0) → HasLeast X
has-least X = record { one = least-is-one; none_below = none-below-least; first = least-is-first; none = no-least }
