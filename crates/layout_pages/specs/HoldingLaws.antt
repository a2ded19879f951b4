-- What is promised of data pages that hold a layout and its table.
use Rattle.std.specs.Prelude.{◌≡◌, ◌<◌, ◌+◌, ℕ, List, not, map, take, fold, length, slice_get, slice_index, slice_index_or, Option, Some, None, is_some, Contains, IsTrue}
use Rattle.grid_types.specs.declared.layout_change.LayoutChange.{LayoutChange}
use Rattle.grid_types.specs.declared.owner.Owner.{Owner}
use Rattle.grid_types.specs.declared.owner.Owner.TheVariants.{Bucket, Part}
use Rattle.grid_types.specs.declared.shape.Shape.{Shape}
use Rattle.grid_types.specs.declared.update.Update.{Update}
use Rattle.grid_model.specs.Lists.{below, is_among}
use Rattle.grid_model.specs.Tables.{Table, effect}
use Rattle.grid_model.specs.Cells.{parts}
use Rattle.grid_model.specs.Layouts.{BucketBox, Layout}
use Rattle.grid_model.specs.LayoutLaws.{StandsOver}
use Rattle.grid_model.specs.Lawful.{Area, IsAreaOf, nowhere}
use Rattle.grid_model.specs.Lone.{renewed}
use Rattle.grid_model.specs.Notes.{after_note_at}
use Rattle.grid_model.specs.Roots.{WholeRoot}
use Rattle.history_pages.specs.NewPages.{in_order, new_pages}
use Rattle.history_pages.specs.PageLaws.{IsChange}
use Rattle.page_states.specs.declared.page_state.PageState.{PageState}
use Rattle.page_states.specs.Current.{TellsPages}
use Rattle.page_states.specs.Changes.{ArePublishable}
use Rattle.page_states.specs.Effects.{free_pages, claim_all, given_back, swept}
use Rattle.history_pages.specs.KnownPages.{settle_page, ask_nothing, AreaHolds}
use Rattle.layout_pages.specs.Holding.{HoldLayout, NamesCurrent, named_by, is_live}
use Rattle.layout_pages.specs.Steps.{opened_states, published_states, owners_renewed, gone_pages}

-- these data pages read as pages that were written, each in its place
pub record ReadAs (fresh : List (Option (List ℕ))) (pages : List ℕ) (written : List (Owner × List ℕ)) : Type 0 where
  pub count : length pages ≡ length written
  pub each : (i : ℕ) (w : Owner × List ℕ) → slice_get written i ≡ Some w → slice_index_or fresh (slice_index pages i) None ≡ Some w.1

-- where a file is opened whose newest root's pages hold a layout over a table, and nothing is known of other pages, the pages that it names are current at its front and hold that layout and table
abbrev pub OpeningHolds : ℕ → Type 0
OpeningHolds K = (s : Shape) (w : WholeRoot) (always : List (Option (List ℕ))) (L : Layout K) (t : Table) → StandsOver s L t → IsAreaOf s w.fields w.area → AreaHolds always w.area L t → map is_some always ≡ map (is_among (named_by w.area)) (below s.pages)
    → HoldLayout (opened_states s.pages w.fields.front w.area) always w.fields.front L t × NamesCurrent w.fields.front (opened_states s.pages w.fields.front w.area) w.area

-- a change renews the owners that the model says, in the order in which their pages are written
abbrev pub RenewsOwners : ℕ → Type 0
RenewsOwners K = (L : Layout K) (e : ℕ × BucketBox K) (n : LayoutChange) → in_order (renewed L e n) ≡ owners_renewed e.0 n (renewed L e n).parts

-- when a change is published whose new pages were written to claimed pages, and these are on the disk for good, pages hold the layout and the table after it
abbrev pub ChangeHolds : ℕ → Type 0
ChangeHolds K = (shape : Shape) (L : Layout K) (t : Table) (u : Update K) (n : LayoutChange) (e : ℕ × BucketBox K) (states : List PageState) (always fresh : List (Option (List ℕ))) (front : ℕ) (pages : List ℕ)
    → IsChange shape L t u n e → HoldLayout states always front L t → ArePublishable pages states → ReadAs fresh pages (new_pages L t u n e)
    → HoldLayout (published_states (front + 1) e.0 n (renewed L e n).parts pages states) (fold (settle_page fresh) always pages) (front + 1) (after_note_at L e n) (effect t u)

-- sweeps, claims and what is given back leave what pages hold at the front
pub record StepsHold (K : ℕ) : Type 0 where
  pub sweep : (states : List PageState) (always : List (Option (List ℕ))) (front : ℕ) (L : Layout K) (t : Table) (places : List ℕ) → HoldLayout states always front L t → HoldLayout (swept places states) (fold ask_nothing always (gone_pages places states)) front L t
  pub claim : (states : List PageState) (always : List (Option (List ℕ))) (front : ℕ) (L : Layout K) (t : Table) (seat count : ℕ) → HoldLayout states always front L t → HoldLayout (claim_all seat (take count (free_pages states)) states) always front L t
  pub giving_back : (states : List PageState) (always : List (Option (List ℕ))) (front : ℕ) (L : Layout K) (t : Table) (seat : ℕ) → HoldLayout states always front L t → HoldLayout (given_back seat states) always front L t

-- pages that a table area names stay current at a place: after a change that is published behind it, a sweep that keeps the place, a claim, and what is given back
pub record NamedStay : Type 0 where
  pub change : (states : List PageState) (a : Area) (place at b : ℕ) (n : LayoutChange) (parts pages : List ℕ) → place < at → ArePublishable pages states → NamesCurrent place states a → NamesCurrent place (published_states at b n parts pages states) a
  pub sweep : (states : List PageState) (a : Area) (place : ℕ) (places : List ℕ) → Contains places place → NamesCurrent place states a → NamesCurrent place (swept places states) a
  pub claim : (states : List PageState) (a : Area) (place seat count : ℕ) → NamesCurrent place states a → NamesCurrent place (claim_all seat (take count (free_pages states)) states) a
  pub giving_back : (states : List PageState) (a : Area) (place seat : ℕ) → NamesCurrent place states a → NamesCurrent place (given_back seat states) a

-- pages that a sweep frees, and pages that are free or claimed, are none that a table area names whose pages are current at a kept place
pub record NamedApart : Type 0 where
  pub gone : (states : List PageState) (a : Area) (place p : ℕ) (places : List ℕ) → Contains places place → NamesCurrent place states a → Contains (gone_pages places states) p → Contains (named_by a) p → ⊥
  pub spare : (states : List PageState) (a : Area) (place p : ℕ) (x : PageState) → NamesCurrent place states a → slice_get states p ≡ Some x → IsTrue (not (is_live x)) → Contains (named_by a) p → ⊥

-- a table area tells the current page of each bucket number and of each directory part, for a layout
pub record TellsCurrent {K : ℕ} (states : List PageState) (L : Layout K) (a : Area) : Type 0 where
  pub scales : a.scales ≡ L.scales
  pub numbers : length a.table ≡ length states
  pub buckets : TellsPages Bucket nowhere states a.table (length a.table)
  pub count : length a.parts ≡ parts L.scales
  pub directory : TellsPages Part nowhere states a.parts (length a.parts)

-- a table area that tells the current pages, where these hold a layout over a table, names the pages that hold them; and these are current at the front
abbrev pub CopyHolds : ℕ → Type 0
CopyHolds K = (s : Shape) (a : Area) (states : List PageState) (always : List (Option (List ℕ))) (front : ℕ) (L : Layout K) (t : Table) → StandsOver s L t → length states ≡ s.pages → HoldLayout states always front L t → TellsCurrent states L a
    → AreaHolds always a L t × NamesCurrent front states a
