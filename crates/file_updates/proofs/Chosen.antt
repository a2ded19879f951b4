-- Which note a lone caller's update takes.
use Rattle.std.specs.Prelude.{◌≤◌, slice_get, IsSome}
use Rattle.std.proofs.Common.{◌≡◌, ◌<◌, inl, inr, ℕ, Bool, false, cond, List, [], ◌∷◌, nat_lt, Option, Some, None, is_some, refl, sym, ap, ◌∙◌, subst, true≢false, arith}
use Rattle.std.proofs.lemmas.Bool.{cases_lt, lt-ltb, le-ltb}
use Rattle.grid_types.specs.declared.key.Key.{Key}
use Rattle.grid_types.specs.declared.layout_change.LayoutChange.{LayoutChange}
use Rattle.grid_types.specs.declared.layout_change.LayoutChange.TheVariants as note
use Rattle.grid_types.specs.declared.shape.Shape.{Shape}
use Rattle.grid_types.specs.declared.update.Update.{Update}
use Rattle.grid_types.specs.declared.update.Update.TheVariants.{Put, Remove}
use Rattle.grid_model.specs.Layouts.{BucketBox, Layout}
use Rattle.grid_model.specs.Lone.{need}
use Rattle.grid_model.specs.Lone as lone
use Rattle.grid_model.specs.Notes.{merges}
use Rattle.grid_model.specs.Tables.{Table, get}
use Rattle.grid_model.proofs.Boxes.{one-value, some-not-none}
use Rattle.bucket_page.specs.declared.head.Head.{Head}
use Rattle.merge_paths.specs.Partners.{IsFirstPartner, IsLosing}
use Rattle.merge_paths.proofs.Found.{no-merges}
use Rattle.update_plans.specs.declared.plan.Plan.{Plan}
use Rattle.update_plans.specs.Plans.{IsPlanOf}
use Rattle.file_updates.specs.Outcomes.{first_merge, IsChosenPlan, IsFirstMerge}
use Rattle.file_updates.specs.Plans.{IsPlannedAs}

-- the first merge, if there are pages for it, is what the definition of a lone caller's states takes
pub lone_note : {K : ℕ} (shape : Shape) (s : lone.State K) (e : ℕ × BucketBox K) (u : Update K) (ms : List LayoutChange) → lone.remove_note shape s e u ms ≡ first_merge (lone.free shape s) s.layout e u ms
lone_note shape s e u [] = refl
lone_note shape s e u (m ∷ ms) = refl

module _ {K : ℕ} (free : ℕ) (L : Layout K) (e : ℕ × BucketBox K) (u : Update K) where
  -- of merges it is the first, where this is given
  first_some : (ms : List LayoutChange) (n : LayoutChange) → Some n ≡ slice_get ms 0 → first_merge free L e u ms ≡ cond (nat_lt free (need L e u n)) note.Plain n
  first_some [] n is = absurd (some-not-none n is)
  first_some (m ∷ ms) n is = ap (λ (x : LayoutChange). cond (nat_lt free (need L e u x)) note.Plain x) (sym (one-value n m is))

module _ {K : ℕ} (shape : Shape) (free : ℕ) (L : Layout K) (t : Table) (k : Key K) (e : ℕ × BucketBox K) (head : Head K) (losing : IsLosing shape L t k.numbers e head) (bytes first second : List ℕ) where
  -- where there is no neighbour that joins, no merge is taken
  pub none_first : IsFirstPartner shape L t k.numbers e bytes None → IsFirstMerge shape free L t k e first second None
  none_first f = record { chosen = ap (λ (ms : List LayoutChange). first_merge free L e (Remove k) ms) (no-merges shape L t k e head losing bytes f); is = _ }

  -- where there is one, the merge with it is taken if there are pages for it
  module _ (other : Head K) (f : IsFirstPartner shape L t k.numbers e bytes (Some other)) (plan result : Option (Plan K)) (planned : IsPlannedAs shape L t (Remove k) e (note.Merge other.number) first second plan) where
    chosen : first_merge free L e (Remove k) (merges shape L t k.numbers) ≡ cond (nat_lt free (need L e (Remove k) (note.Merge other.number))) note.Plain (note.Merge other.number)
    chosen = first_some free L e (Remove k) (merges shape L t k.numbers) (note.Merge other.number) f.merge

    needed : planned.plan.need ≡ need L e (Remove k) (note.Merge other.number)
    needed = planned.is.need ∙ ap (λ (n : LayoutChange). need L e (Remove k) n) planned.noted

    pub merge_first : ((p : Plan K) → plan ≡ Some p → p.need ≤ free → result ≡ Some p) → ((p : Plan K) → plan ≡ Some p → free < p.need → result ≡ None) → IsFirstMerge shape free L t k e first second result
    merge_first taken left = elim (cases_lt free planned.plan.need) [
      | inl less ↦ subst (IsFirstMerge shape free L t k e first second) (sym (left planned.plan planned.there less)) (record {
        chosen = chosen ∙ ap (λ (b : Bool). cond b note.Plain (note.Merge other.number)) (lt-ltb free (need L e (Remove k) (note.Merge other.number)) (omega (arith, less, needed)));
        is = _;
      })
      | inr few ↦ subst (IsFirstMerge shape free L t k e first second) (sym (taken planned.plan planned.there few)) (record {
        chosen = chosen ∙ ap (λ (b : Bool). cond b note.Plain (note.Merge other.number)) (le-ltb free (need L e (Remove k) (note.Merge other.number)) (omega (arith, few, needed))) ∙ sym planned.noted;
        is = planned.is;
      })
    ]

-- the merge that a removal takes is its plan
pub merge_chosen : {K : ℕ} (shape : Shape) (free : ℕ) (L : Layout K) (t : Table) (k : Key K) (e : ℕ × BucketBox K) (first second : List ℕ) (p : Plan K) → IsFirstMerge shape free L t k e first second (Some p) → IsChosenPlan shape free L t e (Remove k) first second p
merge_chosen shape free L t k e first second p f = record { is = f.is; chosen = ap Some f.chosen }

-- and where it takes none it leaves the layout
pub plain_chosen : {K : ℕ} (shape : Shape) (free : ℕ) (L : Layout K) (t : Table) (k : Key K) (e : ℕ × BucketBox K) (first second third fourth : List ℕ) (p : Plan K) → IsFirstMerge shape free L t k e third fourth None → IsPlanOf shape L t (Remove k) e first second p → p.note ≡ note.Plain
    → IsChosenPlan shape free L t e (Remove k) first second p
plain_chosen shape free L t k e first second third fourth p f is plain = record { is = is; chosen = ap Some (f.chosen ∙ sym plain) }

-- what is not there is none
pub none_there : {X : Type 0} (o : Option X) → is_some o ≡ false → o ≡ None
none_there None is = refl
none_there (Some x) is = absurd (true≢false is)

-- an update does what a lone caller's does, by a chosen plan's note
pub chosen_lone : {K : ℕ} (shape : Shape) (s : lone.State K) (e : ℕ × BucketBox K) (u : Update K) (first second : List ℕ) (p : Plan K) → IsChosenPlan shape (lone.free shape s) s.layout s.table e u first second p → lone.update_at shape s u e ≡ lone.change shape s e u p.note
chosen_lone shape s e (Put r) first second p f = ap (lone.put_noted shape s e (Put r)) f.chosen
chosen_lone {K = K} shape s e (Remove k) first second p f = by (get s.table k.numbers) f.is.change.lawful.0
  where
    taken : lone.remove_note shape s e (Remove k) (merges shape s.layout s.table k.numbers) ≡ p.note
    taken = lone_note shape s e (Remove k) (merges shape s.layout s.table k.numbers) ∙ one-value (first_merge (lone.free shape s) s.layout e (Remove k) (merges shape s.layout s.table k.numbers)) p.note f.chosen

    by : (o : Option (List ℕ)) → IsSome o → lone.remove_found shape s e (Remove k) o ≡ lone.change shape s e (Remove k) p.note
    by None there = absurd (true≢false (sym there))
    by (Some d) there = ap (lone.change shape s e (Remove k)) taken
