-- Updates whose places follow one another are in the order of their places.
use Rattle.std.proofs.Common.{◌≡◌, ◌<◌, ◌+◌, ◌-◌, ℕ, List, [], ◌∷◌, ◌++◌, map, length, fold, refl, sym, ap, ◌∙◌, arith, append-nil, append_assoc, Greater}
use Rattle.std.specs.Cmp.{nat_cmp_is}
use Rattle.std.specs.FinMap.Entries.{put, by_order}
use Rattle.std.specs.List.{range_with_len}
use Rattle.std.specs.Ordering.{nat_cmp}
use Rattle.grid_types.specs.declared.update.Entry.{Entry}
use Rattle.grid_model.specs.Lists.{from_to}
use Rattle.grid_model.specs.Sessions.{with_entry, by_place}

module _ {X : Type 0} where
  -- the items have this number, the next one, and so on
  abbrev pub Follow : ℕ → List (ℕ × X) → Type 0
  Follow a [] = Unit {0}
  Follow a (e ∷ es) = (e.0 ≡ a) × Follow (a + 1) es

  -- the numbers of the items are below this one
  abbrev Below : ℕ → List (ℕ × X) → Type 0
  Below a [] = Unit {0}
  Below a (e ∷ es) = (e.0 < a) × Below a es

  -- an item whose number is above all others comes last
  put-last : (n : ℕ) (x : X) (es : List (ℕ × X)) → Below n es → put nat_cmp n x es ≡ es ++ (n, x) ∷ []
  put-last n x [] h = refl
  put-last n x (e ∷ es) h =
      ap (λ o. by_order o ((n, x) ∷ e ∷ es) ((e.0, x) ∷ es) (e ∷ put nat_cmp n x es)) (sym (nat_cmp_is n e.0 Greater h.0))
      ∙ ap (λ z. e ∷ z) (put-last n x es h.1)

  below-at : (a b : ℕ) (es : List (ℕ × X)) → b ≡ a → Below a es → Below b es
  below-at a b [] e h = tt
  below-at a b (x ∷ es) e h = (omega (arith, h.0, e), below-at a b es e h.1)

  below-more : (a : ℕ) (es : List (ℕ × X)) (e : ℕ × X) → e.0 ≡ a → Below a es → Below (a + 1) (es ++ e ∷ [])
  below-more a [] e is h = (omega (arith, is), tt)
  below-more a (x ∷ es) e is h = (omega (arith, h.0), below-more a es e is h.1)

  -- the numbers are those from a on
  pub numbers-are : (a : ℕ) (es : List (ℕ × X)) → Follow a es → map (λ e. e.0) es ≡ range_with_len a (length es)
  numbers-are a [] f = refl
  numbers-are a (e ∷ es) f = λ i. f.0 i ∷ numbers-are (a + 1) es f.1 i

  pub numbers-from-to : (a n : ℕ) (es : List (ℕ × X)) → Follow (a + 1) es → a + length es ≡ n → map (λ e. e.0) es ≡ from_to (a + 1) n
  numbers-from-to a n es f long = numbers-are (a + 1) es f ∙ ap (λ k. range_with_len (a + 1) k) (as-many n long)
    where
      as-many : (n : ℕ) → a + length es ≡ n → length es ≡ n + 1 - (a + 1)
      as-many n e = omega (arith, e)

module _ {K : ℕ} where
  placed : (a : ℕ) (before es : List (ℕ × Entry K)) → Below a before → Follow a es → fold with_entry before es ≡ before ++ es
  placed a before [] b f = sym (append-nil before)
  placed a before (e ∷ es) b f =
      ap (λ z. fold with_entry z es) (put-last e.0 e.1 before (below-at a e.0 before f.0 b))
      ∙ placed (a + 1) (before ++ e ∷ []) es (below-more a before e f.0 b) f.1
      ∙ append_assoc before (e ∷ []) es

  -- updates at places that follow one another are in order already
  pub in-order : (a : ℕ) (es : List (ℕ × Entry K)) → Follow a es → by_place es ≡ es
  unfolding by_place
  in-order a es f = placed a [] es tt f
