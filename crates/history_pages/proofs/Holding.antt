-- A change is held where it is planned, and past each change that passes by it.
use Rattle.std.proofs.Common.{◌≡◌, ◌⊎◌, inl, inr, ℕ, Bool, true, false, [], ◌∷◌, Option, Some, None, IsSome, List, is_some, refl, sym, ap, ◌∙◌}
use Rattle.grid_types.specs.declared.layout_change.LayoutChange.{LayoutChange}
use Rattle.grid_types.specs.declared.layout_change.LayoutChange.TheVariants as note
use Rattle.grid_types.specs.declared.owner.Owner.{Owner}
use Rattle.grid_types.specs.declared.shape.Shape.{Shape}
use Rattle.grid_types.specs.declared.update.Update.{Update}
use Rattle.grid_model.specs.Lists.{is_among}
use Rattle.grid_model.specs.Tables.{Table, effect}
use Rattle.grid_model.specs.Layouts.{BucketBox, Layout, box}
use Rattle.grid_model.specs.Notes.{after_note_at}
use Rattle.grid_model.specs.LayoutLaws.{StandsOver}
use Rattle.grid_model.specs.Lone.{renewed, dropped}
use Rattle.grid_model.proofs.Boxes.{some-not-none}
use Rattle.history_pages.specs.OwnerPages.{has_owner}
use Rattle.history_pages.specs.PageLaws.{IsChange, Follow}
use Rattle.history_pages.specs.HoldingLaws.{IsHeld, PassesBy, StaysHeld, CarriesOn}
use Rattle.history_pages.proofs.Carried.{same-box, change-carries}
use Rattle.history_pages.proofs.Changes.{box-there, others-bucket}
use Rattle.history_pages.proofs.Following.{stands-after}
use Rattle.history_pages.proofs.NewPages.{pages-carry}
use Rattle.history_pages.proofs.Numbers.{one-of-one}

-- a change is held where it is planned
held-here : {K : ℕ} (shape : Shape) (L : Layout K) (t : Table) (n : LayoutChange) (e : ℕ × BucketBox K) → StandsOver shape L t → IsHeld shape L t n e L t
held-here shape L t n e stands = record { stands = stands; buckets = λ m among. refl; layout = inr refl }

-- and past a change that passes by it
held-past : {K : ℕ} (shape : Shape) (L M : Layout K) (t s : Table) (n : LayoutChange) (e : ℕ × BucketBox K) (v : Update K) (other : LayoutChange) (f : ℕ × BucketBox K) → IsHeld shape L t n e M s → PassesBy shape L n e M s v other f
    → IsHeld shape L t n e (after_note_at M f other) (effect s v)
held-past {K} shape L M t s n e v other f held p = record {
  stands = stands-after shape M s v other f p.is_change p.update p.fits;
  buckets = λ m among. others-bucket shape M s v other f m p.is_change (p.apart m among) ∙ held.buckets m among;
  layout = by held.layout p.one_plain;
}
  where
    by : (n ≡ note.Plain) ⊎ (M ≡ L) → (n ≡ note.Plain) ⊎ (other ≡ note.Plain) → (n ≡ note.Plain) ⊎ (after_note_at M f other ≡ L)
    by (inl q) _ = inl q
    by (inr q) (inl r) = inl r
    by (inr q) (inr r) = inr (ap (after_note_at M f) r ∙ q)

-- a box that is there does not have a number that none has
none-missing : {K : ℕ} (M : Layout K) (f : ℕ × BucketBox K) (m : ℕ) → box M f.0 ≡ Some f.1 → box M m ≡ None → is_among (f.0 ∷ []) m ≡ false
none-missing M f m there none = by (is_among (f.0 ∷ []) m) refl
  where
    by : (b : Bool) → is_among (f.0 ∷ []) m ≡ b → b ≡ false
    by true e = absurd (some-not-none f.1 (sym there ∙ ap (box M) (one-of-one f.0 m e) ∙ none))
    by false e = refl

-- two changes, of which one is plain, drop no bucket in common where they drop no box in common
apart-boxes : {K : ℕ} (shape : Shape) (L M : Layout K) (t s : Table) (u : Update K) (n : LayoutChange) (e : ℕ × BucketBox K) (v : Update K) (other : LayoutChange) (f : ℕ × BucketBox K) → IsChange shape L t u n e → IsHeld shape L t n e M s → IsChange shape M s v other f
    → (n ≡ note.Plain) ⊎ (other ≡ note.Plain) → ((m : ℕ) → IsSome (box M m) → is_among (dropped L e n).buckets m ≡ true → is_among (dropped M f other).buckets m ≡ false)
    → (m : ℕ) → is_among (dropped L e n).buckets m ≡ true → is_among (dropped M f other).buckets m ≡ false
unfolding renewed dropped
apart-boxes {K} shape L M t s u n e v other f h held g one_plain boxes m among = by one_plain
  where
    there : n ≡ note.Plain → IsSome (box M m)
    there q =
        let number : e.0 ≡ m = one-of-one e.0 m (ap (λ x. is_among (dropped L e x).buckets m) (sym q) ∙ among) in
        ap (λ i. is_some (box M i)) (sym number) ∙ ap is_some (same-box shape L M t s u e n h held).there

    missing : other ≡ note.Plain → (o : Option (BucketBox K)) → box M m ≡ o → is_among (dropped M f other).buckets m ≡ false
    missing q None none = ap (λ x. is_among (dropped M f x).buckets m) q ∙ none-missing M f m (box-there shape M s v other f g).0 none
    missing q (Some d) some = boxes m (ap is_some some) among

    by : (n ≡ note.Plain) ⊎ (other ≡ note.Plain) → is_among (dropped M f other).buckets m ≡ false
    by (inl q) = boxes m (there q) among
    by (inr q) = missing q (box M m) refl

-- a change that is held drops the same owners
same-dropped : {K : ℕ} (L M : Layout K) (n : LayoutChange) (e : ℕ × BucketBox K) → (n ≡ note.Plain) ⊎ (M ≡ L) → dropped M e n ≡ dropped L e n
unfolding renewed dropped
same-dropped L M n e (inl q) = ap (dropped M e) q ∙ sym (ap (dropped L e) q)
same-dropped L M n e (inr q) = ap (λ N. dropped N e n) q

-- and it renews the same
same-renewed : {K : ℕ} (L M : Layout K) (n : LayoutChange) (e : ℕ × BucketBox K) → (n ≡ note.Plain) ⊎ (M ≡ L) → renewed M e n ≡ renewed L e n
unfolding renewed
same-renewed L M n e (inl q) = ap (renewed M e) q ∙ sym (ap (renewed L e) q)
same-renewed L M n e (inr q) = ap (λ N. renewed N e n) q

-- pages that follow others by a change as it was planned follow them by it as it is held
follow-held : {K : ℕ} (shape : Shape) (L M : Layout K) (t s : Table) (u : Update K) (n : LayoutChange) (e : ℕ × BucketBox K) (before later : Owner → Option (List ℕ)) → IsChange shape L t u n e → IsHeld shape L t n e M s
    → Follow L t u n e before later → Follow M s u n e before later
follow-held shape L M t s u n e before later h held f = record {
  new = λ o new. let was = renewed-then o ∙ new in f.new o was ∙ sym (pages-carry shape L M t s u n e o h held was);
  others = λ o out. f.others o (dropped-then o ∙ out);
  gone = λ o new old. f.gone o (renewed-then o ∙ new) (dropped-then o ∙ old);
}
  where
    dropped-then : (o : Owner) → has_owner (dropped L e n) o ≡ has_owner (dropped M e n) o
    dropped-then o = ap (λ x. has_owner x o) (sym (same-dropped L M n e held.layout))

    renewed-then : (o : Owner) → has_owner (renewed L e n) o ≡ has_owner (renewed M e n) o
    renewed-then o = ap (λ x. has_owner x o) (sym (same-renewed L M n e held.layout))

-- what is held stays held
pub stays-held : {K : ℕ} → StaysHeld K
stays-held = record { here = held-here; stays = held-past; apart = apart-boxes }

-- what is held carries on
pub carries-on : {K : ℕ} → CarriesOn K
carries-on = record {
  change = change-carries;
  drops = λ shape L M t s n e held. same-dropped L M n e held.layout;
  renews = λ shape L M t s n e held. same-renewed L M n e held.layout;
  pages = pages-carry;
  follow = follow-held;
}
