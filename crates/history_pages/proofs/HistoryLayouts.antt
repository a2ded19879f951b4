-- A history makes its layouts one note after the other.
use Rattle.std.proofs.Common.{◌≡◌, ◌≤◌, ◌+◌, ◌-◌, ℕ, zero, suc, List, [], ◌∷◌, ◌++◌, take, length, fold, zip, refl, sym, ap, ◌∙◌, arith}
use Rattle.std.proofs.lemmas.List.{length-append, length-take, take_all, take-take}
use Rattle.std.proofs.lemmas.List.Sums.{fold-append}
use Rattle.grid_types.specs.declared.layout_change.LayoutChange.{LayoutChange}
use Rattle.grid_types.specs.declared.update.Entry.{Entry}
use Rattle.grid_model.specs.Notes.{updated_key, after_note}
use Rattle.grid_model.specs.Histories.{History, Layouts, front, layout_at, layout_effect, GoesOn}
use Rattle.grid_model.specs.TableLaws.{extended}
use Rattle.history_pages.specs.HistoryLaws.{extended_notes, NotesGoOn, HasNotes, MakesLayouts}

module _ {X Y : Type 0} where
  -- pairs end with the shorter list
  zip-short : (xs : List X) (ys : List Y) (n : ℕ) → length xs ≤ n → zip xs (take n ys) ≡ zip xs ys
  zip-short [] ys n l = refl
  zip-short (x ∷ xs) ys zero l = absurd (omega (arith, l))
  zip-short (x ∷ xs) [] (suc n) l = refl
  zip-short (x ∷ xs) (y ∷ ys) (suc n) l = ap (λ r. (x, y) ∷ r) (zip-short xs ys n (omega (arith, l)))

  -- one more item on both lists makes one more pair
  zip-one : (xs : List X) (ys : List Y) (x : X) (y : Y) → length ys ≡ length xs → zip (xs ++ x ∷ []) (ys ++ y ∷ []) ≡ zip xs ys ++ (x, y) ∷ []
  zip-one [] [] x y l = refl
  zip-one [] (b ∷ ys) x y l = absurd (omega (arith, l))
  zip-one (a ∷ xs) [] x y l = absurd (omega (arith, l))
  zip-one (a ∷ xs) (b ∷ ys) x y l = ap (λ r. (a, b) ∷ r) (zip-one xs ys x y (omega (arith, l)))

module _ {K : ℕ} where
  -- a history begins with the first layout
  layout-start : (h : History K) (ls : Layouts K) → layout_at h ls h.from ≡ ls.first
  unfolding layout_at
  layout-start h ls = let none : h.from - h.from ≡ 0 = omega arith in ap (λ n. fold layout_effect ls.first (zip (take n h.entries) ls.notes)) none

  -- what comes later changes no earlier layout
  layout-before : (h later : History K) (ls ls_later : Layouts K) (at : ℕ) → GoesOn h later → NotesGoOn ls ls_later → HasNotes h ls → at ≤ front h → layout_at later ls_later at ≡ layout_at h ls at
  unfolding layout_at
  layout-before h later ls ls_later at g n each l =
      ap (λ L. fold layout_effect L (zip (take (at - later.from) later.entries) ls_later.notes)) n.first
      ∙ ap (λ m. fold layout_effect ls.first (zip (take (at - m) later.entries) ls_later.notes)) g.from
      ∙ ap (λ xs. fold layout_effect ls.first (zip xs ls_later.notes)) (sym (take-take (at - h.from) (length h.entries) later.entries (omega (arith, l))) ∙ ap (take (at - h.from)) g.beginning)
      ∙ ap (fold layout_effect ls.first) (sym (zip-short (take (at - h.from) h.entries) ls_later.notes (length ls.notes) (omega (arith, each, l, length-take (at - h.from) h.entries))) ∙ ap (zip (take (at - h.from) h.entries)) n.beginning)

  -- one more entry changes the layout by its note
  layout-next : (h : History K) (ls : Layouts K) (x : Entry K) (n : LayoutChange) → HasNotes h ls → layout_at (extended h x) (extended_notes ls n) (front h + 1) ≡ after_note (layout_at h ls (front h)) (updated_key x.update) n
  unfolding layout_at
  layout-next h ls x n each =
      ap (λ xs. fold layout_effect ls.first (zip xs (ls.notes ++ n ∷ []))) (take_all (h.from + length h.entries + 1 - h.from) (h.entries ++ x ∷ []) (omega (arith, length-append h.entries (x ∷ []))))
      ∙ ap (fold layout_effect ls.first) (zip-one h.entries ls.notes x n each)
      ∙ fold-append layout_effect ls.first (zip h.entries ls.notes) ((x, n) ∷ [])
      ∙ ap (λ xs. after_note (fold layout_effect ls.first (zip xs ls.notes)) (updated_key x.update) n) (sym (take_all (h.from + length h.entries - h.from) h.entries (omega arith)))

  -- a history makes its layouts one note after the other
  pub makes-layouts : MakesLayouts K
  makes-layouts = record { start = layout-start; next = layout-next; before = layout-before }
