-- Free pages are counted as a lone caller counts them.
use Rattle.std.proofs.Common.{◌≡◌, ℕ, ◌+◌, ◌≤◌, List, [], ◌∷◌, Bool, true, false, ◌&&◌, ◌||◌, cond, Option, Some, None, refl, sym, ◌∙◌, ap, map, length, not, is_some, nat_lt, arith}
use Rattle.std.specs.Prelude.{Contains}
use Rattle.std.specs.List.{count_by, list_any}
use Rattle.std.proofs.lemmas.List.{length-map}
use Rattle.std.proofs.lemmas.List.FromFn.{length-range_with_len}
use Rattle.std.proofs.lemmas.List.Sums.{sum_by-cons}
use Rattle.grid_types.specs.declared.owner.Owner.{Owner}
use Rattle.grid_types.specs.declared.shape.Shape.{Shape}
use Rattle.grid_types.specs.Owners.{same_owner}
use Rattle.grid_model.specs.Cells.{parts}
use Rattle.grid_model.specs.Tables.{Table}
use Rattle.grid_model.specs.Layouts.{Layout}
use Rattle.grid_model.specs.LayoutLaws.{StandsOver}
use Rattle.grid_model.specs.Lone.{State, free, owners}
use Rattle.history_pages.specs.NewPages.{in_order}
use Rattle.history_pages.specs.OwnerPages.{owner_page}
use Rattle.history_pages.proofs.Named.{has-page}
use Rattle.layout_pages.specs.Holding.{bytes_in}
use Rattle.page_states.specs.declared.page_state.PageState.{PageState}
use Rattle.page_states.specs.declared.page_state.PageState.TheVariants.{Free, Claimed, Live}
use Rattle.page_states.specs.Counts.{once}
use Rattle.page_states.specs.States.{is_free, is_claimed, is_current_at, is_kept}
use Rattle.page_states.specs.Effects.{freed, is_gone, is_of_roots}
use Rattle.page_states.specs.Laws.{is_of_root}
use Rattle.page_states.proofs.KeptPlaces.{kept_at}
use Rattle.page_states.proofs.OwnersCounted.{free_pages_are_counted}
use Rattle.kept_pages.specs.Counts.{CountsRoot}
use Rattle.kept_pages.specs.CountLaws.{AreCounted, FreeCount}
use Rattle.kept_pages.proofs.Tallies.{any-counts, any-alike}
use Rattle.kept_pages.proofs.Listed.{in-order-length, listed-once}
use Rattle.kept_pages.proofs.Starts.{buckets-distinct, parts-distinct}

-- each owner of a layout that stands is listed once
owners-listed : {K : ℕ} (shape : Shape) (L : Layout K) (t : Table) → StandsOver shape L t → (o : Owner) → count_by (same_owner o) (in_order (owners L)) ≡ once is_some (owner_page L t o)
owners-listed shape L t stands o = listed-once (owners L) (buckets-distinct shape L t stands) (parts-distinct L) o ∙ ap (λ (b : Bool). cond {A = ℕ} b 1 0) (sym (has-page L t o))

owners-many : {K : ℕ} (L : Layout K) → length (in_order (owners L)) ≡ length L.boxes + parts L.scales
owners-many L = in-order-length (owners L) ∙ (λ i. length-map L.boxes (λ e. e.0) i + length-range_with_len 0 (parts L.scales) i)

-- the free pages, those of owners, those that the root keeps and the claimed ones are all
all-pages : {K : ℕ} (shape : Shape) (states : List PageState) (always : List (Option (List ℕ))) (front root : ℕ) (s : State K) → AreCounted shape states always front root s
    → count_by is_free (map (freed (is_gone (root ∷ []))) states) + (length s.layout.boxes + parts s.layout.scales) + s.kept + count_by is_claimed states ≡ shape.pages
all-pages shape states always front root s counted =
    let all : count_by is_free (map (freed (is_gone (root ∷ []))) states) + length (in_order (owners s.layout)) + count_by (is_of_root root) states + count_by is_claimed states ≡ length states =
    free_pages_are_counted (owner_page s.layout s.table) (bytes_in always) front root states (in_order (owners s.layout)) counted.holds.settled counted.holds.served (owners-listed shape s.layout s.table counted.stands) in
    let many : length (in_order (owners s.layout)) ≡ length s.layout.boxes + parts s.layout.scales = owners-many s.layout in
    omega (arith, all, many, counted.counts.kept, counted.size)

exact-free : {K : ℕ} (shape : Shape) (states : List PageState) (always : List (Option (List ℕ))) (front root : ℕ) (s : State K) → AreCounted shape states always front root s → count_by is_claimed states ≡ 0
    → count_by is_free (map (freed (is_gone (root ∷ []))) states) ≡ free shape s
exact-free shape states always front root s counted none = omega (arith, all-pages shape states always front root s counted, none)

all-fit : {K : ℕ} (shape : Shape) (states : List PageState) (always : List (Option (List ℕ))) (front root : ℕ) (s : State K) → AreCounted shape states always front root s → length s.layout.boxes + parts s.layout.scales + s.kept + count_by is_claimed states ≤ shape.pages
all-fit shape states always front root s counted = omega (arith, all-pages shape states always front root s counted)

-- a page that goes where more places are kept goes where one of them is
gone-more : (places : List ℕ) (root : ℕ) → Contains places root → (x : PageState) → once is_free (freed (is_gone places) x) ≤ once is_free (freed (is_gone (root ∷ [])) x)
gone-more places root within Free = by (is_gone (root ∷ []) Free) (is_gone places Free)
  where
    by : (a b : Bool) → once is_free (cond b Free Free) ≤ once is_free (cond a Free Free)
    by true true = omega arith
    by true false = omega arith
    by false true = omega arith
    by false false = omega arith
gone-more places root within (Claimed s) = omega arith
gone-more places root within (Live o from None) = omega arith
gone-more places root within (Live o from (Some to)) = by (is_current_at root (Live o from (Some to))) refl (is_kept places (Live o from (Some to))) refl
  where
    by : (r : Bool) → is_current_at root (Live o from (Some to)) ≡ r → (k : Bool) → is_kept places (Live o from (Some to)) ≡ k
        → once is_free (cond (not (is_kept places (Live o from (Some to)))) Free (Live o from (Some to))) ≤ once is_free (cond (not (is_current_at root (Live o from (Some to)) || false)) Free (Live o from (Some to)))
    by r e true kept = rw kept (omega arith)
    by true e false kept =
        let all : is_kept places (Live o from (Some to)) ≡ true = kept_at places root within.0 (Live o from (Some to)) within.1 within.2 e in
        let no : false ≡ true = sym kept ∙ all in
        absurd cc
    by false e false kept = rw (kept, e) (omega arith)

fewer-free : (places : List ℕ) (root : ℕ) → Contains places root → (states : List PageState) → count_by is_free (map (freed (is_gone places)) states) ≤ count_by is_free (map (freed (is_gone (root ∷ []))) states)
fewer-free places root within [] = omega arith
fewer-free places root within (x ∷ xs) = omega (
  arith,
  gone-more places root within x,
  fewer-free places root within xs,
  sum_by-cons (once is_free) (freed (is_gone places) x) (map (freed (is_gone places)) xs),
  sum_by-cons (once is_free) (freed (is_gone (root ∷ [])) x) (map (freed (is_gone (root ∷ []))) xs),
)

most-free : {K : ℕ} (shape : Shape) (states : List PageState) (always : List (Option (List ℕ))) (front root : ℕ) (s : State K) (places : List ℕ) → Contains places root → AreCounted shape states always front root s
    → count_by is_free (map (freed (is_gone places)) states) ≤ free shape s
most-free shape states always front root s places within counted = omega (arith, all-pages shape states always front root s counted, fewer-free places root within states)

-- a page that a newer root would free is one that the root keeps
of-root : (root : ℕ) (x : PageState) → is_of_roots [] (root ∷ []) x ≡ is_of_root root x
of-root root Free = refl
of-root root (Claimed s) = refl
of-root root (Live o from None) = refl
of-root root (Live o from (Some to)) = by (is_current_at root (Live o from (Some to)))
  where
    by : (b : Bool) → ((b || false) && true) ≡ b
    by true = refl
    by false = refl

would-free : {K : ℕ} (states : List PageState) (front root : ℕ) (s : State K) → CountsRoot states front root s → list_any (is_of_roots [] (root ∷ [])) states ≡ nat_lt 0 s.kept
would-free states front root s counts = any-alike (is_of_roots [] (root ∷ [])) (is_of_root root) states (λ q x has. of-root root x) ∙ any-counts (is_of_root root) states ∙ ap (nat_lt 0) (sym counts.kept)

pub free-count : {K : ℕ} → FreeCount K
free-count = record { fit = all-fit; exact = exact-free; most = most-free; would_free = would-free }
