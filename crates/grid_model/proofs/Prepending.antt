-- A history with one more entry in front: later places have the same tables and layouts, and later answers stay legal.
use Rattle.std.proofs.Common.{◌≡◌, ◌<◌, ◌≤◌, ◌+◌, ◌-◌, ℕ, zero, suc, Bool, true, false, cond, ◌∷◌, take, fold, zip, Some, None, refl, sym, ap, subst, ◌∙◌, arith, true≢false, slice_get, nat_lt, ltb-true, lt-ltb}
use Rattle.std.specs.Option.{is_some}
use Rattle.grid_types.specs.declared.shape.Shape.{Shape}
use Rattle.grid_types.specs.declared.update.Update.{Update}
use Rattle.grid_types.specs.declared.update.Entry.{Entry}
use Rattle.grid_types.specs.declared.layout_change.LayoutChange.{LayoutChange}
use Rattle.grid_types.specs.declared.request.Request.{Request}
use Rattle.grid_types.specs.declared.request.Request.TheVariants as ask
use Rattle.grid_types.specs.declared.request.Reply.{Reply}
use Rattle.grid_types.specs.declared.request.Reply.TheVariants as told
use Rattle.grid_model.specs.Tables.{Table}
use Rattle.grid_model.specs.Layouts.{Layout}
use Rattle.grid_model.specs.Notes.{IsLawfulNote}
use Rattle.grid_model.specs.Histories.{History, Layouts, IsPlace, IsNoted, entry_at, entry_effect, layout_effect, state_at, layout_at}
use Rattle.grid_model.proofs.Boxes.{one-value}
use Rattle.grid_model.specs.Answers.{CallTrail, IsAnswer, IsCounted, SaysOfLayout, IsLegal}
use Rattle.grid_model.proofs.Carrying.{CarriesEntry, carried}

same-lawful : {K : ℕ} (shape : Shape) {L M : Layout K} {t s : Table} {u v : Update K} {n m : LayoutChange} → L ≡ M → t ≡ s → u ≡ v → n ≡ m → IsLawfulNote shape L t u n → IsLawfulNote shape M s v m
same-lawful shape {L} {M} {t} {s} {u} {v} {n} {m} p q r o l =
    subst (λ x. IsLawfulNote shape M s v x) o (subst (λ x. IsLawfulNote shape M s x n) r (subst (λ x. IsLawfulNote shape M x u n) q (subst (λ x. IsLawfulNote shape x t u n) p l)))

none-before : (a m : ℕ) → m ≡ a → m - a ≡ 0
none-before a m e = omega (arith, e)

-- a history's table is the base table where it begins, and its layout the first one
pub start-state : {K : ℕ} (h : History K) (m : ℕ) → m ≡ h.from → state_at h m ≡ h.base
unfolding state_at
start-state h m e = ap (λ j. fold entry_effect h.base (take j h.entries)) (none-before h.from m e)

pub start-layout : {K : ℕ} (h : History K) (ls : Layouts K) (m : ℕ) → m ≡ h.from → layout_at h ls m ≡ ls.first
unfolding layout_at
start-layout h ls m e = ap (λ j. fold layout_effect ls.first (zip (take j h.entries) ls.notes)) (none-before h.from m e)

module _ {K : ℕ} (h : History K) (ls : Layouts K) (begin : ℕ) (base : Table) (first : Layout K) (e : Entry K) (n : LayoutChange)
    (from : h.from ≡ begin + 1) (table : h.base ≡ entry_effect base e) (layout : ls.first ≡ layout_effect first (e, n)) where
  -- the history with the entry in front
  abbrev pub longer : History K
  longer = record { from = begin; base = base; entries = e ∷ h.entries }

  abbrev pub longer-layouts : Layouts K
  longer-layouts = record { first = first; notes = n ∷ ls.notes }

  later : (m : ℕ) → h.from ≤ m → m - begin ≡ suc (m - h.from)
  later m l = omega (arith, l, from)

  pub state-later : (m : ℕ) → h.from ≤ m → state_at longer m ≡ state_at h m
  unfolding state_at
  state-later m l =
      ap (λ j. fold entry_effect base (take j (e ∷ h.entries))) (later m l)
      ∙ ap (λ t. fold entry_effect t (take (m - h.from) h.entries)) (sym table)

  pub layout-later : (m : ℕ) → h.from ≤ m → layout_at longer longer-layouts m ≡ layout_at h ls m
  unfolding layout_at
  layout-later m l =
      ap (λ j. fold layout_effect first (zip (take j (e ∷ h.entries)) (n ∷ ls.notes))) (later m l)
      ∙ ap (λ t. fold layout_effect t (zip (take (m - h.from) h.entries) ls.notes)) (sym layout)

  earlier : (m : ℕ) → h.from < m → m - begin - 1 ≡ suc (m - h.from - 1)
  earlier m l = omega (arith, l, from)

  entry-later : (m : ℕ) → h.from < m → entry_at longer m ≡ entry_at h m
  entry-later m l =
      ap (λ t. cond t (slice_get (e ∷ h.entries) (m - begin - 1)) None) (lt-ltb begin m (omega (arith, l, from)))
      ∙ ap (λ j. slice_get (e ∷ h.entries) j) (earlier m l)
      ∙ sym (ap (λ t. cond t (slice_get h.entries (m - h.from - 1)) None) (lt-ltb h.from m l))

  place-later : (m : ℕ) → IsPlace h m → IsPlace longer m
  place-later m p = record { not_before = omega (arith, p.not_before, from); not_after = omega (arith, p.not_after, from) }

  entry-carries : (caller n : ℕ) (u : Update K) → entry_at h n ≡ Some (record { caller = caller; update = u }) → CarriesEntry h longer caller caller n u
  entry-carries caller n u there = by (nat_lt h.from n) refl
    where
      by : (t : Bool) → nat_lt h.from n ≡ t → CarriesEntry h longer caller caller n u
      by true p =
          let l : h.from < n = ltb-true h.from n p in
          record { there = entry-later n l ∙ there; table = state-later (n - 1) (omega (arith, l)) }
      by false p = absurd (true≢false (sym (ap is_some (sym (ap (λ t. cond t (slice_get h.entries (n - h.from - 1)) None) p) ∙ there))))

  answer-later : (caller : ℕ) (r : Request K) (reply : Reply K) → IsAnswer h caller r reply → IsAnswer longer caller r reply
  answer-later caller r reply is = carried h longer caller caller place-later (λ m p. state-later m p.not_before) (entry-carries caller) r reply is

  says-later : (shape : Shape) (caller : ℕ) (r : Request K) (reply : Reply K) → IsAnswer h caller r reply → SaysOfLayout shape h ls reply → SaysOfLayout shape longer longer-layouts reply
  says-later shape caller ask.Stat (told.Stood a) is says = subst (λ (L : Layout K). IsCounted shape L a.value) (sym (layout-later a.at is.place.not_before)) says
  says-later shape caller _ (told.Put a) is says = tt
  says-later shape caller _ (told.Removed a) is says = tt
  says-later shape caller _ (told.Got a) is says = tt
  says-later shape caller _ (told.Listed a) is says = tt
  says-later shape caller _ (told.Counted a) is says = tt
  says-later shape caller _ (told.Rooted at) is says = tt
  says-later shape caller _ (told.Refused why) is says = tt
  says-later shape caller _ (told.Stood a) is says = absurd is

  -- a legal answer of the later history is one of the longer history
  pub legal-later : (shape : Shape) (caller : ℕ) (call : CallTrail) (r : Request K) (reply : Reply K) → IsLegal shape h ls caller call r reply → IsLegal shape longer longer-layouts caller call r reply
  legal-later shape caller call r reply g = record { answer = answer-later caller r reply g.answer; layout = says-later shape caller r reply g.answer g.layout; own = g.own }

  first-table : state_at longer (begin + 0) ≡ base
  first-table = start-state longer (begin + 0) (omega arith)

  first-layout : layout_at longer longer-layouts (begin + 0) ≡ first
  first-layout = start-layout longer longer-layouts (begin + 0) (omega arith)

  place : (i : ℕ) → begin + suc i ≡ h.from + i
  place i = omega (arith, from)

  state-there : (i : ℕ) → state_at longer (begin + suc i) ≡ state_at h (h.from + i)
  state-there i = ap (state_at longer) (place i) ∙ state-later (h.from + i) (omega arith)

  layout-there : (i : ℕ) → layout_at longer longer-layouts (begin + suc i) ≡ layout_at h ls (h.from + i)
  layout-there i = ap (layout_at longer longer-layouts) (place i) ∙ layout-later (h.from + i) (omega arith)

  -- the notes are lawful, where that of the first entry is
  pub noted-longer : (shape : Shape) → IsLawfulNote shape first base e.update n → IsNoted shape h ls → IsNoted shape longer longer-layouts
  noted-longer shape l g = record { each = ap suc g.each; lawful = each }
    where
      each : (i : ℕ) (x : Entry K) (m : LayoutChange) → slice_get (e ∷ h.entries) i ≡ Some x → slice_get (n ∷ ls.notes) i ≡ Some m
          → IsLawfulNote shape (layout_at longer longer-layouts (begin + i)) (state_at longer (begin + i)) x.update m
      each zero x m p q = same-lawful shape (sym first-layout) (sym first-table) (ap (λ y. y.update) (one-value e x p)) (one-value n m q) l
      each (suc i) x m p q = same-lawful shape (sym (layout-there i)) (sym (state-there i)) refl refl (g.lawful i x m p q)
