-- What is promised of the pages that a root keeps, and of those that are free.
use Rattle.std.specs.Prelude.{◌≡◌, ◌≤◌, ◌+◌, ℕ, List, [], ◌∷◌, take, length, nat_lt, Option, Contains}
use Rattle.std.specs.List.{count_by, list_any}
use Rattle.grid_types.specs.declared.layout_change.LayoutChange.{LayoutChange}
use Rattle.grid_types.specs.declared.shape.Shape.{Shape}
use Rattle.grid_types.specs.declared.update.Update.{Update}
use Rattle.grid_model.specs.Tables.{Table}
use Rattle.grid_model.specs.Cells.{parts}
use Rattle.grid_model.specs.Layouts.{BucketBox, Layout}
use Rattle.grid_model.specs.LayoutLaws.{StandsOver}
use Rattle.grid_model.specs.Lone.{State, opened, free, published, how_many, renewed}
use Rattle.history_pages.specs.PageLaws.{IsChange}
use Rattle.page_states.specs.declared.page_state.PageState.{PageState}
use Rattle.page_states.specs.States.{is_free, is_claimed}
use Rattle.page_states.specs.Effects.{free_pages, claim_all, given_back, swept, is_of_roots}
use Rattle.page_states.specs.Changes.{ArePublishable}
use Rattle.layout_pages.specs.Holding.{HoldLayout}
use Rattle.layout_pages.specs.Steps.{published_states}
use Rattle.kept_pages.specs.Counts.{CountsRoot}

-- at its own place a root has each owner's page, and keeps no other
abbrev pub RootsCount : ℕ → Type 0
RootsCount K = (shape : Shape) (states : List PageState) (always : List (Option (List ℕ))) (front : ℕ) (L : Layout K) (t : Table) → StandsOver shape L t → HoldLayout states always front L t → CountsRoot states front front (opened t L front)

-- a change counts as a lone caller counts it
abbrev pub ChangeCounts : ℕ → Type 0
ChangeCounts K = (shape : Shape) (L : Layout K) (t : Table) (u : Update K) (n : LayoutChange) (e : ℕ × BucketBox K) (states : List PageState) (always : List (Option (List ℕ))) (front root : ℕ) (pages : List ℕ) (s : State K)
    → IsChange shape L t u n e → s.layout ≡ L → s.table ≡ t → root ≤ front → HoldLayout states always front L t → ArePublishable pages states → length pages ≡ how_many (renewed L e n) → CountsRoot states front root s
    → CountsRoot (published_states (front + 1) e.0 n (renewed L e n).parts pages states) (front + 1) root (published e u n s)

-- sweeps that keep the root's place, claims and what is given back count nothing else
pub record StepsCount (K : ℕ) : Type 0 where
  pub sweep : (states : List PageState) (front root : ℕ) (s : State K) (places : List ℕ) → Contains places root → CountsRoot states front root s → CountsRoot (swept places states) front root s
  pub claim : (states : List PageState) (front root : ℕ) (s : State K) (seat count : ℕ) → CountsRoot states front root s → CountsRoot (claim_all seat (take count (free_pages states)) states) front root s
  pub giving_back : (states : List PageState) (front root : ℕ) (s : State K) (seat : ℕ) → CountsRoot states front root s → CountsRoot (given_back seat states) front root s

-- data pages hold a layout of a file of this shape, and a root of this place counts as this state
pub record AreCounted {K : ℕ} (shape : Shape) (states : List PageState) (always : List (Option (List ℕ))) (front root : ℕ) (s : State K) : Type 0 where
  pub stands : StandsOver shape s.layout s.table
  pub holds : HoldLayout states always front s.layout s.table
  pub size : length states ≡ shape.pages
  pub counts : CountsRoot states front root s

-- boxes, directory parts, the pages that a root keeps and the claimed ones are data pages; after a sweep that keeps the root's place alone the free pages are as many as a lone caller counts, where none is claimed; after any sweep that keeps it they are at most as many; and a newer root would free a page exactly where the older one keeps one
pub record FreeCount (K : ℕ) : Type 0 where
  pub fit : (shape : Shape) (states : List PageState) (always : List (Option (List ℕ))) (front root : ℕ) (s : State K) → AreCounted shape states always front root s → length s.layout.boxes + parts s.layout.scales + s.kept + count_by is_claimed states ≤ shape.pages
  pub exact : (shape : Shape) (states : List PageState) (always : List (Option (List ℕ))) (front root : ℕ) (s : State K) → AreCounted shape states always front root s → count_by is_claimed states ≡ 0 → count_by is_free (swept (root ∷ []) states) ≡ free shape s
  pub most : (shape : Shape) (states : List PageState) (always : List (Option (List ℕ))) (front root : ℕ) (s : State K) (places : List ℕ) → Contains places root → AreCounted shape states always front root s → count_by is_free (swept places states) ≤ free shape s
  pub would_free : (states : List PageState) (front root : ℕ) (s : State K) → CountsRoot states front root s → list_any (is_of_roots [] (root ∷ [])) states ≡ nat_lt 0 s.kept
