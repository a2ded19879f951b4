-- New pages become current one after the other.
use Rattle.std.proofs.Common.{◌≡◌, ℕ, suc, ◌+◌, ◌-◌, ◌<◌, ◌≤◌, List, [], ◌∷◌, ◌++◌, Bool, true, false, cond, None, append-nil, refl, sym, ◌∙◌, ap, subst, map, filter, length, take, drop, length-append, length-drop, take_all, arith}
use Rattle.std.specs.Prelude.{◌≢◌, slice_index}
use Rattle.std.proofs.lemmas.List.{length-map}
use Rattle.grid_types.specs.declared.owner.Owner.{Owner}
use Rattle.grid_types.specs.declared.owner.Owner.TheVariants.{Bucket, Part}
use Rattle.grid_types.specs.declared.layout_change.LayoutChange.{LayoutChange}
use Rattle.grid_model.specs.Lists.{below}
use Rattle.directory_changes.proofs.Counted.{filter-more}
use Rattle.page_states.specs.declared.page_state.PageState.{PageState}
use Rattle.page_states.specs.declared.page_state.PageState.TheVariants.{Live}
use Rattle.page_states.specs.Effects.{with_end, with_newest, IsClaimed}
use Rattle.page_states.specs.Changes.{Publication, all_published, all_vanished, ArePublishable}
use Rattle.page_states.proofs.Lists.{get_set_other}
use Rattle.page_states.proofs.KeptPlaces.{claimed_still}
use Rattle.page_states.proofs.PagesStay.{pages_stay}
use Rattle.layout_pages.specs.Steps.{publications, buckets_renewed, owners_vanishing, published_states}

pub published_append : (at : ℕ) (xs ys : List Publication) (states : List PageState) → all_published at (xs ++ ys) states ≡ all_published at ys (all_published at xs states)
published_append at [] ys states = refl
published_append at (x ∷ xs) ys states = published_append at xs ys (with_newest x.page x.owner at states)

pub published_length : (at : ℕ) (xs : List Publication) (states : List PageState) → length (all_published at xs states) ≡ length states
published_length at [] states = refl
published_length at (x ∷ xs) states = published_length at xs (with_newest x.page x.owner at states) ∙ pages_stay.publication x.page at x.owner states

-- one owner more, on the next page
pub publications_more : (os : List Owner) (o : Owner) (ps : List ℕ) → length os < length ps → publications (os ++ o ∷ []) ps ≡ publications os ps ++ record { page = slice_index ps (length os); owner = o } ∷ []
publications_more [] o [] low = absurd (omega (arith, low))
publications_more [] o (p ∷ ps) low = refl
publications_more (w ∷ os) o [] low = absurd (omega (arith, low))
publications_more (w ∷ os) o (p ∷ ps) low = ap (λ (xs : List Publication). record { page = p; owner = w } ∷ xs) (publications_more os o ps (omega (arith, low)))

-- owners behind others have the pages behind theirs
pub publications_parted : (first second : List Owner) (ps : List ℕ) → publications (first ++ second) ps ≡ publications first ps ++ publications second (drop (length first) ps)
publications_parted [] second ps = refl
publications_parted (w ∷ first) [] [] = refl
publications_parted (w ∷ first) (o ∷ second) [] = refl
publications_parted (w ∷ first) second (p ∷ ps) = ap (λ (xs : List Publication). record { page = p; owner = w } ∷ xs) (publications_parted first second ps)

-- another claimed page is claimed still
pub claimed_beside : (page q at : ℕ) (owner : Owner) (states : List PageState) → q ≢ page → IsClaimed states q → IsClaimed (with_newest page owner at states) q
claimed_beside page q at owner states apart was = (was.0, get_set_other (map (with_end owner at) states) page q (Live owner at None) apart ∙ claimed_still owner at q was.0 states was.1)

-- the pages behind the first can be published still
others_publishable : (page at : ℕ) (owner : Owner) (pages : List ℕ) (states : List PageState) → ArePublishable (page ∷ pages) states → ArePublishable pages (with_newest page owner at states)
others_publishable page at owner pages states ok = record {
  claimed = λ i low. claimed_beside page (slice_index pages i) at owner states (ok.distinct 0 (suc i) (omega arith) (omega (arith, low))) (ok.claimed (suc i) (omega (arith, low)));
  distinct = λ i j low high. ok.distinct (suc i) (suc j) (omega (arith, low)) (omega (arith, high));
}

pub rest_publishable : (at : ℕ) (os : List Owner) (pages : List ℕ) (states : List PageState) → length os ≤ length pages → ArePublishable pages states → ArePublishable (drop (length os) pages) (all_published at (publications os pages) states)
rest_publishable at [] pages states enough ok = ok
rest_publishable at (w ∷ os) [] states enough ok = absurd (omega (arith, enough))
rest_publishable at (w ∷ os) (p ∷ pages) states enough ok = rest_publishable at os pages (with_newest p w at states) (omega (arith, enough)) (others_publishable p at w pages states ok)

map_append : (ns : List ℕ) (n : ℕ) → map Part (ns ++ n ∷ []) ≡ map Part ns ++ Part n ∷ []
map_append [] n = refl
map_append (m ∷ ns) n = ap (λ (os : List Owner). Part m ∷ os) (map_append ns n)

-- of the parts below one, those that a test passes have their pages; the pages behind them are claimed still
pub record HasWalked (test : ℕ → Bool) (at : ℕ) (pages : List ℕ) (initial states : List PageState) (part next : ℕ) : Type 0 where
  pub counted : next ≡ length (filter test (below part))
  pub made : states ≡ all_published at (publications (map Part (filter test (below part))) pages) initial
  pub claimed : (j : ℕ) → next ≤ j → j < length pages → IsClaimed states (slice_index pages j)

module _ (test : ℕ → Bool) (at : ℕ) (pages : List ℕ) (initial states : List PageState) (part next : ℕ) (walked : HasWalked test at pages initial states part next) where
  -- a part that does not pass changes nothing
  pub walk_on : test part ≡ false → HasWalked test at pages initial states (part + 1) next
  walk_on fails =
      let same : filter test (below (part + 1)) ≡ filter test (below part) = filter-more test part ∙ ap (λ (t : Bool). filter test (below part) ++ cond t (part ∷ []) []) fails ∙ append-nil (filter test (below part)) in
      record {
        counted = walked.counted ∙ ap length (sym same);
        made = walked.made ∙ ap (λ (ns : List ℕ). all_published at (publications (map Part ns) pages) initial) (sym same);
        claimed = walked.claimed;
      }

  -- one that passes gets the next page
  pub walk_one : (later : List PageState) (after : ℕ) → test part ≡ true → next < length pages → ((i j : ℕ) → i < j → j < length pages → slice_index pages j ≢ slice_index pages i)
      → later ≡ with_newest (slice_index pages next) (Part part) at states → after ≡ next + 1 → HasWalked test at pages initial later (part + 1) after
  walk_one later after passes low distinct is one = record {
    counted =
        let more : length (filter test (below (part + 1))) ≡ length (filter test (below part)) + 1 = ap length longer ∙ length-append (filter test (below part)) (part ∷ []) in
        omega (arith, one, walked.counted, more);
    made = is ∙ ap (with_newest (slice_index pages next) (Part part) at) walked.made ∙ sym published;
    claimed = λ j more less. subst (λ (s : List PageState). IsClaimed s (slice_index pages j)) (sym is)
        (claimed_beside (slice_index pages next) (slice_index pages j) at (Part part) states (distinct next j (omega (arith, one, more)) less) (walked.claimed j (omega (arith, one, more)) less));
  }
    where
      longer : filter test (below (part + 1)) ≡ filter test (below part) ++ part ∷ []
      longer = filter-more test part ∙ ap (λ (t : Bool). filter test (below part) ++ cond t (part ∷ []) []) passes

      count : length (map Part (filter test (below part))) ≡ next
      count = length-map (filter test (below part)) Part ∙ sym walked.counted

      published : all_published at (publications (map Part (filter test (below (part + 1)))) pages) initial
          ≡ with_newest (slice_index pages next) (Part part) at (all_published at (publications (map Part (filter test (below part))) pages) initial)
      published =
          ap (λ (ns : List ℕ). all_published at (publications (map Part ns) pages) initial) longer
          ∙ ap (λ (os : List Owner). all_published at (publications os pages) initial) (map_append (filter test (below part)) part)
          ∙ ap (λ (xs : List Publication). all_published at xs initial) (publications_more (map Part (filter test (below part))) (Part part) pages (omega (arith, count, low)))
          ∙ published_append at (publications (map Part (filter test (below part))) pages) (record { page = slice_index pages (length (map Part (filter test (below part)))); owner = Part part } ∷ []) initial
          ∙ ap (λ (k : ℕ). with_newest (slice_index pages k) (Part part) at (all_published at (publications (map Part (filter test (below part))) pages) initial)) count

-- what is left once the new pages of buckets are current: the pages of parts can be published
pub record IsBehind (parts rest : List ℕ) (old now : List PageState) : Type 0 where
  pub claimed : ArePublishable rest now
  pub count : length rest ≡ length parts
  pub size : length now ≡ length old

pub behind : (at r : ℕ) (buckets parts pages : List ℕ) (old now : List PageState) → r ≡ length buckets → length pages ≡ length (map Bucket buckets ++ map Part parts) → now ≡ all_published at (publications (map Bucket buckets) pages) old → ArePublishable pages old
    → IsBehind parts (take (length pages - r) (drop r pages)) old now
behind at r buckets parts pages old now is count made ok =
    let first : length (map Bucket buckets) ≡ length buckets = length-map buckets Bucket in
    let second : length (map Part parts) ≡ length parts = length-map parts Part in
    let sum : length (map Bucket buckets ++ map Part parts) ≡ length (map Bucket buckets) + length (map Part parts) = length-append (map Bucket buckets) (map Part parts) in
    let left : length (drop r pages) ≡ length pages - r = length-drop r pages in
    let whole : take (length pages - r) (drop r pages) ≡ drop r pages = take_all (length pages - r) (drop r pages) (omega (arith, left)) in
    let same : drop (length (map Bucket buckets)) pages ≡ drop r pages = ap (λ (k : ℕ). drop k pages) (first ∙ sym is) in
    record {
      claimed = subst (λ (s : List PageState). ArePublishable (take (length pages - r) (drop r pages)) s) (sym made)
          (subst (λ (ps : List ℕ). ArePublishable ps (all_published at (publications (map Bucket buckets) pages) old)) (same ∙ sym whole)
          (rest_publishable at (map Bucket buckets) pages old (omega (arith, sum, count)) ok));
      count = ap length whole ∙ omega (arith, left, first, second, sum, count, is);
      size = ap length made ∙ published_length at (publications (map Bucket buckets) pages) old;
    }

-- buckets, then parts, then who vanishes: the whole change
pub whole_change : (at b : ℕ) (n : LayoutChange) (parts pages : List ℕ) (r : ℕ) (old first second last : List PageState) → r ≡ length (buckets_renewed b n)
    → first ≡ all_published at (publications (map Bucket (buckets_renewed b n)) pages) old → second ≡ all_published at (publications (map Part parts) (take (length pages - r) (drop r pages))) first → last ≡ all_vanished at (owners_vanishing b n) second
    → last ≡ published_states at b n parts pages old
unfolding published_states
whole_change at b n parts pages r old first second last is one two three =
    let left : length (drop r pages) ≡ length pages - r = length-drop r pages in
    let whole : take (length pages - r) (drop r pages) ≡ drop r pages = take_all (length pages - r) (drop r pages) (omega (arith, left)) in
    let many : r ≡ length (map Bucket (buckets_renewed b n)) = is ∙ sym (length-map (buckets_renewed b n) Bucket) in
    three ∙ ap (all_vanished at (owners_vanishing b n))
    (two
    ∙ ap (λ (ps : List ℕ). all_published at (publications (map Part parts) ps) first) (whole ∙ ap (λ (k : ℕ). drop k pages) many)
    ∙ ap (all_published at (publications (map Part parts) (drop (length (map Bucket (buckets_renewed b n))) pages))) one
    ∙ sym (published_append at (publications (map Bucket (buckets_renewed b n)) pages) (publications (map Part parts) (drop (length (map Bucket (buckets_renewed b n))) pages)) old)
    ∙ ap (λ (xs : List Publication). all_published at xs old) (sym (publications_parted (map Bucket (buckets_renewed b n)) (map Part parts) pages)))
