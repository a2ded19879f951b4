-- At its own place a root has each owner's page, and keeps no other.
use Rattle.std.proofs.Common.{◌≡◌, ℕ, List, Bool, true, false, ◌&&◌, cond, Option, Some, None, refl, sym, ◌∙◌, ap, nat_lt, nat_le, is_some}
use Rattle.std.specs.Prelude.{slice_get}
use Rattle.std.specs.List.{count_by, list_any}
use Rattle.std.proofs.lemmas.Bool.{le-ltb}
use Rattle.grid_types.specs.declared.owner.Owner.{Owner}
use Rattle.grid_types.specs.declared.shape.Shape.{Shape}
use Rattle.grid_types.specs.Owners.{same_owner}
use Rattle.grid_model.specs.Cells.{parts}
use Rattle.grid_model.specs.Tables.{Table}
use Rattle.grid_model.specs.Layouts.{Layout}
use Rattle.grid_model.specs.LayoutLaws.{StandsOver}
use Rattle.grid_model.specs.Lists.{AreDistinct}
use Rattle.grid_model.specs.Lone.{owners}
use Rattle.grid_model.proofs.Counts.{range-distinct, sorted-distinct}
use Rattle.history_pages.specs.OwnerPages.{has_owner, owner_page}
use Rattle.history_pages.proofs.Named.{has-page}
use Rattle.layout_pages.specs.Holding.{HoldLayout}
use Rattle.page_states.specs.declared.page_state.PageState.{PageState}
use Rattle.page_states.specs.declared.page_state.PageState.TheVariants.{Free, Claimed, Live}
use Rattle.page_states.specs.States.{is_current_at, shows}
use Rattle.page_states.specs.Laws.{Settled, is_of_root}
use Rattle.page_states.proofs.Counting.{none_pass}
use Rattle.page_states.proofs.Shown.{and_false}
use Rattle.kept_pages.specs.Counts.{is_still}
use Rattle.kept_pages.specs.CountLaws.{RootsCount}
use Rattle.kept_pages.proofs.Tallies.{any-counts, any-alike, none-at}

-- the owners of a layout that stands are listed once each
pub buckets-distinct : {K : ℕ} (shape : Shape) (L : Layout K) (t : Table) → StandsOver shape L t → AreDistinct (owners L).buckets
buckets-distinct shape L t stands = sorted-distinct L.boxes stands.sound.numbered

pub parts-distinct : {K : ℕ} (L : Layout K) → AreDistinct (owners L).parts
parts-distinct L = range-distinct 0 (parts L.scales)

-- what is an owner's at the front is still there of a root of the front
still-shown : (o : Owner) (front : ℕ) (x : PageState) → is_still o front front x ≡ shows o front x
still-shown o front Free = refl
still-shown o front (Claimed s) = refl
still-shown o front (Live w from to) = twice (same_owner w o) (is_current_at front (Live w from to))
  where
    twice : (a b : Bool) → ((a && b) && b) ≡ (a && b)
    twice true true = refl
    twice true false = refl
    twice false b = refl

-- a test of one or none
one-passes : (b : Bool) → nat_lt 0 (cond b 1 0) ≡ b
one-passes true = refl
one-passes false = refl

-- each owner has its page at the front
still-owners : {K : ℕ} (states : List PageState) (always : List (Option (List ℕ))) (front : ℕ) (L : Layout K) (t : Table) → HoldLayout states always front L t → (o : Owner) → has_owner (owners L) o ≡ list_any (is_still o front front) states
still-owners states always front L t holds o =
    sym (has-page L t o) ∙ sym (one-passes (is_some (owner_page L t o))) ∙ ap (nat_lt 0) (sym (holds.served.one o)) ∙ sym (any-counts (shows o front) states) ∙ sym (any-alike (is_still o front front) (shows o front) states (λ q x has. still-shown o front x))

-- no replaced page was current at the front
none-kept : (front : ℕ) (states : List PageState) → Settled front states → count_by (is_of_root front) states ≡ 0
none-kept front states settled = none_pass (is_of_root front) states (λ q. none-at (is_of_root front) states q (λ x has. fails q x has))
  where
    fails : (q : ℕ) (x : PageState) → slice_get states q ≡ Some x → is_of_root front x ≡ false
    fails q Free has = refl
    fails q (Claimed s) has = refl
    fails q (Live o from None) has = refl
    fails q (Live o from (Some to)) has = ap (λ (b : Bool). nat_le from front && b) (le-ltb front to (settled.ended_by q o from to has)) ∙ and_false (nat_le from front)

pub roots-count : {K : ℕ} → RootsCount K
roots-count shape states always front L t stands holds = record {
  rooted = still-owners states always front L t holds;
  buckets = buckets-distinct shape L t stands;
  parts = parts-distinct L;
  kept = sym (none-kept front states holds.settled);
}
