-- One page is named where the roots of an image are damaged.
use Rattle.std.proofs.Common.{◌≡◌, ◌<◌, inl, inr, ℕ, List, IsTrue, refl, sym, ap, ◌∙◌, subst, arith}
use Rattle.std.proofs.lemmas.Bool.{cases_lt}
use Rattle.grid_types.specs.declared.shape.Shape.{Shape}
use Rattle.grid_types.specs.Shapes.{is_shape, header_page, table_page}
use Rattle.grid_types.proofs.Places.{one-of-two}
use Rattle.grid_model.specs.Spellings.{RootFields}
use Rattle.grid_model.specs.Lawful.{IsRootOn}
use Rattle.grid_model.specs.Images.{header_gate, IsNewest}
use Rattle.file_roots.specs.Damage.{IsBadAreaPage, IsNoneOpen, AreAlike, IsFirstMisspelt, HasBadAreaPage, IsRootDamage, OneIsDamaged}
use Rattle.file_roots.proofs.Cutting.{none_bad}
use Rattle.file_roots.proofs.Unique.{one_newest, one_open_at_least, none_alike, none_misspelt}

module _ (s : Shape) (image : List ℕ) (lawful : IsTrue (is_shape s)) where
  -- where no gate is open, none is open over a misspelt root
  none_open : (p q : ℕ) → IsNoneOpen image p → IsFirstMisspelt s image q → ⊥
  none_open p q none bad = elim (one-of-two q bad.two) [
    | inl is ↦ none.zeroth (ap (header_gate image) (sym is) ∙ bad.misspelt.gate)
    | inr is ↦ none.first (ap (header_gate image) (sym is) ∙ bad.misspelt.gate)
  ]

  -- where the gates are open over one number, that is the damage
  alike_first : (p q : ℕ) → AreAlike image p → IsFirstMisspelt s image q → ⊥
  alike_first p q alike bad = bad.unlike (record { zeroth = alike.zeroth; first = alike.first; numbers = alike.numbers; page_is = refl })

  one_misspelt : (p q : ℕ) → IsFirstMisspelt s image p → IsFirstMisspelt s image q → p ≡ q
  one_misspelt p q x y = elim (cases_lt p q) [
    | inl lt ↦ absurd (y.before p lt x.misspelt)
    | inr ge ↦ elim (cases_lt q p) [ inl lt ↦ absurd (x.before q lt y.misspelt) | inr le ↦ omega (arith, ge, le) ]
  ]

  -- a page behind the first that is not spelled is not that one
  not_later : (r : RootFields) → IsRootOn s (header_page r.number) r → (i j : ℕ) → i < j → IsBadAreaPage s image r i → IsBadAreaPage s image r j → ⊥
  not_later r root i j lt x y =
      let more = none_bad s image r y.before lawful root j (omega (arith, y.inside)) y.spelled i lt in
      x.no_more more.0 more.1

  one_index : (r : RootFields) → IsRootOn s (header_page r.number) r → (i j : ℕ) → IsBadAreaPage s image r i → IsBadAreaPage s image r j → i ≡ j
  one_index r root i j x y = elim (cases_lt i j) [
    | inl lt ↦ absurd (not_later r root i j lt x y)
    | inr ge ↦ elim (cases_lt j i) [ inl lt ↦ absurd (not_later r root j i lt y x) | inr le ↦ omega (arith, ge, le) ]
  ]

  one_bad : (r q : RootFields) (i j : ℕ) → IsNewest s image r → IsNewest s image q → HasBadAreaPage s image r i → HasBadAreaPage s image q j → i ≡ j
  one_bad r q i j newest other x y =
      let same : q ≡ r = one_newest s image lawful q r other newest in
      let z : HasBadAreaPage s image r j = subst (λ f. HasBadAreaPage s image f j) same y in
      x.page_is ∙ ap (table_page s (header_page r.number)) (one_index r newest.opens.lawful x.index z.index x.bad z.bad) ∙ sym z.page_is

  pub one_damage : (p q : ℕ) → IsRootDamage s image p → IsRootDamage s image q → p ≡ q
  one_damage p q (inl x) (inl y) = x.page_is ∙ sym y.page_is
  one_damage p q (inl x) (inr (inl y)) = absurd (x.zeroth y.zeroth)
  one_damage p q (inl x) (inr (inr (inl y))) = absurd (none_open p q x y)
  one_damage p q (inl x) (inr (inr (inr y))) = absurd (one_open_at_least s image lawful y.0 y.1 x.zeroth x.first)
  one_damage p q (inr (inl x)) (inl y) = absurd (y.zeroth x.zeroth)
  one_damage p q (inr (inl x)) (inr (inl y)) = x.page_is ∙ sym y.page_is
  one_damage p q (inr (inl x)) (inr (inr (inl y))) = absurd (alike_first p q x y)
  one_damage p q (inr (inl x)) (inr (inr (inr y))) = absurd (none_alike s image lawful y.0 y.1 p x)
  one_damage p q (inr (inr (inl x))) (inl y) = absurd (none_open q p y x)
  one_damage p q (inr (inr (inl x))) (inr (inl y)) = absurd (alike_first q p y x)
  one_damage p q (inr (inr (inl x))) (inr (inr (inl y))) = one_misspelt p q x y
  one_damage p q (inr (inr (inl x))) (inr (inr (inr y))) = absurd (none_misspelt s image lawful y.0 y.1 p x)
  one_damage p q (inr (inr (inr x))) (inl y) = absurd (one_open_at_least s image lawful x.0 x.1 y.zeroth y.first)
  one_damage p q (inr (inr (inr x))) (inr (inl y)) = absurd (none_alike s image lawful x.0 x.1 q y)
  one_damage p q (inr (inr (inr x))) (inr (inr (inl y))) = absurd (none_misspelt s image lawful x.0 x.1 q y)
  one_damage p q (inr (inr (inr x))) (inr (inr (inr y))) = one_bad x.0 y.0 p q x.1 y.1 x.2 y.2

pub one_is_damaged : OneIsDamaged
one_is_damaged s image p q lawful x y = one_damage s image lawful p q x y
