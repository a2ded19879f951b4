-- What a crash leaves of a file at the moments that matter most.
use Rattle.std.proofs.Common.{◌≡◌, ◌<◌, ◌⊎◌, inl, inr, ℕ, List, ap, refl, sym, subst, Bool, true, false, true≢false, ◌∙◌, arith}
use Rattle.std.specs.Prelude.{Some, None}
use Rattle.grid_types.specs.declared.shape.Shape.{Shape}
use Rattle.grid_model.specs.Spellings.{LoggedBatch}
use Rattle.grid_model.specs.Roots.{WholeRoot}
use Rattle.grid_model.proofs.Boxes.{some-not-none}
use Rattle.journal_slots.specs.Committing.{BatchStep}
use Rattle.file_images.specs.Kept.{OtherHeader, LooseHeader, IsTried, NextSlot, Shut, Flying, InDoubt, Kept, used}
use Rattle.file_images.specs.Shows.{Shows}
use Rattle.file_images.specs.Steps.{IsNextSlot, with_doubt, with_closed, with_tried, with_root, with_loose}
use Rattle.file_images.specs.Leads.{Standing, HasStanding, behind, Leads, HasStandingOrBehind}
use Rattle.file_images.specs.LeadingLaws.{IsBehind}
use Rattle.file_images.specs.CrashRows.{with_two, behind_two}
use Rattle.file_images.proofs.Committing.{step_shows}
use Rattle.file_images.proofs.Standings.{shows_stands}
use Rattle.file_images.proofs.Histories.{shut_no_doubt, shut_not_flying, one_doubt}
use Rattle.file_images.proofs.Leading.{leads_closed, leads_rooted, leads_loosened}

-- a batch in doubt is not one that is just written
doubt_not_flying : {K : ℕ} (b : LoggedBatch K) → ◌≡◌ {A = NextSlot K} (InDoubt b) Flying → ⊥
doubt_not_flying {K} b e = true≢false (ap is_doubt e)
  where
    is_doubt : NextSlot K → Bool
    is_doubt Shut = false
    is_doubt Flying = false
    is_doubt (InDoubt d) = true

-- an image with a batch in doubt has the standing before it or behind it
whole_or_nothing : {K : ℕ} (k : Kept K) (b : LoggedBatch K) (m : Standing K) (image : List ℕ) → HasStandingOrBehind (with_doubt k b) image m → HasStanding image m ⊎ HasStanding image (behind m b)
whole_or_nothing k b m image (inl before) = inl before
whole_or_nothing k b m image (inr (d, e, after)) = inr (subst (λ (c : LoggedBatch _). HasStanding image (behind m c)) (sym (one_doubt b d e)) after)

-- at each step of a commit on the next slot
pub committed_stands : {K : ℕ} (k : Kept K) (s : Shape) (half slot : ℕ) (b : LoggedBatch K) (m : Standing K) (old new : List ℕ) → IsNextSlot k s half slot → slot < s.slots → Leads (with_doubt k b) m → Shows k old → BatchStep s half slot b old new → HasStanding new m ⊎ HasStanding new (behind m b)
committed_stands {K} k s half slot b m old new is inside leads was step = whole_or_nothing k b m new (shows_stands (with_doubt k b) new m (step_shows k b is.shut room old new was step_there) (doubt_not_flying b) leads)
  where
    room : used k k.half < k.shape.slots
    room = omega (arith, inside, is.slot_is, ap (λ (t : Shape). t.slots) is.shape)

    step_there : BatchStep k.shape k.half (used k k.half) b old new
    step_there =
        subst (λ (t : Shape). BatchStep t k.half (used k k.half) b old new) (sym is.shape)
        (subst (λ (h : ℕ). BatchStep s h (used k k.half) b old new) (sym is.half_is)
        (subst (λ (i : ℕ). BatchStep s half i b old new) (sym is.slot_is) step))

-- an image that shows what is kept, where nothing is on the next slot, has the standing to which that leads
pub stands_there : {K : ℕ} (k : Kept K) (m : Standing K) (image : List ℕ) → k.next ≡ Shut → Leads k m → Shows k image → HasStanding image m
stands_there k m image shut leads was = by (shows_stands k image m was (λ e. shut_not_flying (sym shut ∙ e)) leads)
  where
    by : HasStandingOrBehind k image m → HasStanding image m
    by (inl stands) = stands
    by (inr (d, e, after)) = shut_no_doubt d (sym shut ∙ e)

-- before the new root, with its header page closed, or over one that was tried
pub closed_stands : {K : ℕ} (k : Kept K) (m : Standing K) (b c : LoggedBatch K) (image : List ℕ) → Leads (with_two k b c) (behind_two m b c) → Shows (with_closed (with_two k b c)) image → HasStanding image (behind_two m b c)
closed_stands k m b c image leads was = stands_there (with_closed (with_two k b c)) (behind_two m b c) image refl (leads_closed (with_two k b c) (behind_two m b c) leads) was

pub tried_stands : {K : ℕ} (k : Kept K) (m : Standing K) (b c : LoggedBatch K) (w : WholeRoot) (image : List ℕ)
    → Leads (with_tried (with_two k b c) (Some w)) (behind_two m b c) → Shows (with_tried (with_two k b c) (Some w)) image → HasStanding image (behind_two m b c)
tried_stands k m b c w image leads was = stands_there (with_tried (with_two k b c) (Some w)) (behind_two m b c) image refl leads was

-- once the new root is placed, all leads there
root_leads : {K : ℕ} (k : Kept K) (n : Standing K) (w : WholeRoot) → Leads (with_tried k (Some w)) n → Leads (with_root k w) n
root_leads k n w leads = leads_rooted (with_tried k (Some w)) n w (inr refl) leads

-- after the new root and before the clearing, with the other half's gates as they were, or loosened
pub rooted_stands : {K : ℕ} (k : Kept K) (m : Standing K) (b c : LoggedBatch K) (w : WholeRoot) (image : List ℕ)
    → Leads (with_tried (with_two k b c) (Some w)) (behind_two m b c) → Shows (with_root (with_two k b c) w) image → HasStanding image (behind_two m b c)
rooted_stands k m b c w image leads was = stands_there (with_root (with_two k b c) w) (behind_two m b c) image refl (root_leads (with_two k b c) (behind_two m b c) w leads) was

-- a half that the kept root has may be loosened where no other root was tried
loosened_lead : {K : ℕ} (k : Kept K) (h : ℕ) (n : Standing K) → h < 2 → k.other ≡ LooseHeader None → IsBehind k k.root h → Leads k n → Leads (with_loose k h) n
loosened_lead {K} k h n two none behind_all leads w (inl e) =
    let r = leads w (inl e) in
    record { lineage = r.lineage; along = leads_loosened k h n w r.lineage two (subst (λ (v : WholeRoot). IsBehind k v h) (sym e) behind_all) r.along }
loosened_lead {K} k h n two none behind_all leads w (inr tried) = absurd (some-not-none w (sym (subst (λ (o : OtherHeader). IsTried o w) none tried)))

pub loosened_stands : {K : ℕ} (k : Kept K) (m : Standing K) (b c : LoggedBatch K) (w : WholeRoot) (image : List ℕ) → k.half < 2
    → Leads (with_tried (with_two k b c) (Some w)) (behind_two m b c) → IsBehind (with_root (with_two k b c) w) w k.half → Shows (with_loose (with_root (with_two k b c) w) k.half) image → HasStanding image (behind_two m b c)
loosened_stands k m b c w image two leads behind_all was =
    stands_there (with_loose (with_root (with_two k b c) w) k.half) (behind_two m b c) image refl (loosened_lead (with_root (with_two k b c) w) k.half (behind_two m b c) two refl behind_all (root_leads (with_two k b c) (behind_two m b c) w leads)) was
