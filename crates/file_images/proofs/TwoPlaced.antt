-- Two batches that may follow, placed on the half that was taken since, lead behind both.
use Rattle.std.proofs.Common.{◌≡◌, ◌<◌, ◌+◌, ℕ, zero, suc, length, refl, arith}
use Rattle.grid_model.specs.Spellings.{LoggedBatch}
use Rattle.grid_model.specs.Roots.{WholeRoot}
use Rattle.file_images.specs.Kept.{Counting, Kept}
use Rattle.file_images.specs.Steps.{with_slot, with_turned, with_doubt, other_half}
use Rattle.file_images.specs.Leads.{Standing, behind, Lineage, and_then, MayFollow, LeadsAlong}
use Rattle.file_images.specs.LeadingLaws.{NoneBeyond}
use Rattle.file_images.specs.CrashRows.{with_two, behind_two, MayBothFollow}
use Rattle.file_images.proofs.Histories.{leads_over, leads_placed}
use Rattle.file_images.proofs.Leading.{leads_doubted, none_beyond}

other_two : (h : ℕ) → other_half h < 2
other_two zero = omega arith
other_two (suc h) = omega arith

-- a batch that may follow may do so whatever roots and batches are kept
follows_in : {K : ℕ} (k now : Kept K) (w : WholeRoot) (x : Lineage K) (place : ℕ) (d : LoggedBatch K) → now.shape ≡ k.shape → MayFollow k w x place d → MayFollow now w x place d
follows_in k now w x place d same is = record { session = is.session; first = is.first; may = rw same is.may }

-- a batch that follows, once it counts, leads a root behind it
pub leads_behind : {K : ℕ} (k : Kept K) (m : Standing K) (d : LoggedBatch K) (w : WholeRoot) (x : Lineage K) → k.half < 2 → 0 < length d.updates → NoneBeyond k w m.place → MayFollow k w x m.place d → LeadsAlong k w m x → LeadsAlong (with_slot k d) w (behind m d) (and_then x d)
leads_behind k m d w x two some none follows c = leads_placed (with_doubt k d) w m x (leads_doubted k m d w x none follows c) d refl two Counting some refl

pub two_lead : {K : ℕ} (k : Kept K) (m : Standing K) (b c : LoggedBatch K) (w : WholeRoot) (x : Lineage K) → MayBothFollow k m w x b c → LeadsAlong k w m x → LeadsAlong (with_two k b c) w (behind_two m b c) (and_then (and_then x b) c)
two_lead {K} k m b c w x both along =
    let turned = with_turned k in
    let first = follows_in k turned w x m.place b refl both.first in
    let one = with_slot turned b in
    let second = follows_in k one w (and_then x b) (m.place + length b.updates) c refl both.second in
    let two = other_two k.half in
    let behind_one = leads_behind turned m b w x two both.some both.none first (leads_over k w m x along k.root k.other (other_half k.half)) in
    leads_behind one (behind m b) c w (and_then x b) two both.some_more (none_beyond turned m.place b w two first.first both.some both.none) second behind_one
