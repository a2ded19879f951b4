-- A history whose callers have other numbers has the same tables, layouts and answers.
use Rattle.std.proofs.Common.{◌≡◌, ◌-◌, ℕ, Bool, true, false, cond, List, [], ◌∷◌, map, take, fold, zip, Option, Some, None, slice_get, nat_lt, option_map, refl, sym, ap, ◌∙◌, arith}
use Rattle.std.proofs.lemmas.List.{length-map, take-map}
use Rattle.std.proofs.lemmas.List.Folds.{fold-map}
use Rattle.std.proofs.lemmas.Option.{slice_get-map}
use Rattle.grid_types.specs.declared.layout_change.LayoutChange.{LayoutChange}
use Rattle.grid_types.specs.declared.update.Update.{Update}
use Rattle.grid_types.specs.declared.update.Entry.{Entry}
use Rattle.grid_types.specs.declared.request.Request.{Request}
use Rattle.grid_types.specs.declared.request.Reply.{Reply}
use Rattle.grid_model.specs.Layouts.{Layout}
use Rattle.grid_model.specs.Histories.{History, Layouts, IsPlace, entry_at, entry_effect, layout_effect, state_at, layout_at}
use Rattle.grid_model.specs.Answers.{IsAnswer}
use Rattle.grid_model.specs.PassLaws.{with_caller, renamed, RenamesCallers}
use Rattle.grid_model.proofs.Boxes.{one-value, some-not-none}
use Rattle.grid_model.proofs.Carrying.{carried}

module _ {K : ℕ} (number : ℕ → ℕ) where
  tables : (h : History K) (n : ℕ) → state_at (renamed number h) n ≡ state_at h n
  unfolding state_at
  tables h n = ap (fold entry_effect h.base) (take-map (with_caller number) (n - h.from) h.entries) ∙ fold-map entry_effect (with_caller number) h.base (take (n - h.from) h.entries)

  layouts-from : (L : Layout K) (es : List (Entry K)) (ns : List LayoutChange) → fold layout_effect L (zip (map (with_caller number) es) ns) ≡ fold layout_effect L (zip es ns)
  layouts-from L [] ns = refl
  layouts-from L (e ∷ es) [] = refl
  layouts-from L (e ∷ es) (n ∷ ns) = layouts-from (layout_effect L (e, n)) es ns

  layouts : (h : History K) (ls : Layouts K) (n : ℕ) → layout_at (renamed number h) ls n ≡ layout_at h ls n
  unfolding layout_at
  layouts h ls n = ap (λ es. fold layout_effect ls.first (zip es ls.notes)) (take-map (with_caller number) (n - h.from) h.entries) ∙ layouts-from ls.first (take (n - h.from) h.entries) ls.notes

  entry-renamed : (h : History K) (n : ℕ) → entry_at (renamed number h) n ≡ option_map (with_caller number) (entry_at h n)
  entry-renamed h n = by (nat_lt h.from n)
    where
      by : (b : Bool) → cond b (slice_get (map (with_caller number) h.entries) (n - h.from - 1)) None ≡ option_map (with_caller number) (cond b (slice_get h.entries (n - h.from - 1)) None)
      by true = slice_get-map (with_caller number) h.entries (n - h.from - 1)
      by false = refl

  place : (h : History K) (n : ℕ) → IsPlace h n → IsPlace (renamed number h) n
  place h n p = let long = length-map h.entries (with_caller number) in record { not_before = p.not_before; not_after = omega (arith, p.not_after, long) }

  place-back : (h : History K) (n : ℕ) → IsPlace (renamed number h) n → IsPlace h n
  place-back h n p = let long = length-map h.entries (with_caller number) in record { not_before = p.not_before; not_after = omega (arith, p.not_after, long) }

  answers : (h : History K) (caller : ℕ) (r : Request K) (reply : Reply K) → IsAnswer h caller r reply → IsAnswer (renamed number h) (number caller) r reply
  answers h caller r reply is = carried h (renamed number h) caller (number caller) (place h) (λ n p. tables h n)
      (λ n u there. record { there = entry-renamed h n ∙ ap (option_map (with_caller number)) there; table = tables h (n - 1) }) r reply is

  module _ (apart : (a b : ℕ) → number a ≡ number b → a ≡ b) (caller : ℕ) where
    -- an entry that has this number has this caller
    same-entry : (u : Update K) (o : Option (Entry K)) → option_map (with_caller number) o ≡ Some (record { caller = number caller; update = u }) → o ≡ Some (record { caller = caller; update = u })
    same-entry u None e = absurd (some-not-none (record { caller = number caller; update = u }) (sym e))
    same-entry u (Some x) e =
        let is = one-value (with_caller number x) (record { caller = number caller; update = u }) e in
        let who : x.caller ≡ caller = apart x.caller caller (ap (λ y. y.caller) is) in
        let what : x.update ≡ u = ap (λ y. y.update) is in
        λ i. Some (record { caller = who i; update = what i })

    back : (h : History K) (r : Request K) (reply : Reply K) → IsAnswer (renamed number h) (number caller) r reply → IsAnswer h caller r reply
    back h r reply is = carried (renamed number h) h (number caller) caller (place-back h) (λ n p. sym (tables h n))
        (λ n u there. record { there = same-entry u (entry_at h n) (sym (entry-renamed h n) ∙ there); table = sym (tables h (n - 1)) }) r reply is

-- callers may have other numbers
pub renames-callers : {K : ℕ} → RenamesCallers K
renames-callers {K} = record {
  tables = tables;
  layouts = layouts;
  answers = answers;
  back = λ number h caller r reply apart is. back number apart caller h r reply is;
}
