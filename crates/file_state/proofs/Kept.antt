-- Steps that leave whose each page is at the front leave the books of a file lawful.
use Rattle.std.proofs.Common.{◌≡◌, ℕ, suc, ◌≤◌, List, [], ◌∷◌, Bool, ◌&&◌, ◌||◌, not, cond, Some, None, refl, sym, ◌∙◌, ap, subst, filter, length, take}
use Rattle.std.specs.Prelude.{slice_get, nat_le}
use Rattle.std.specs.List.{list_any}
use Rattle.std.proofs.lemmas.Bool.{le-ltb}
use Rattle.grid_types.specs.declared.owner.Owner.{Owner}
use Rattle.grid_types.specs.declared.owner.Owner.TheVariants.{Bucket, Part}
use Rattle.grid_model.specs.Lists.{below}
use Rattle.grid_model.proofs.Members.{contains-first}
use Rattle.page_states.specs.declared.page_state.PageState.{PageState}
use Rattle.page_states.specs.declared.page_state.PageState.TheVariants.{Free, Claimed, Live}
use Rattle.page_states.specs.States.{shows, is_kept, is_claimed_by}
use Rattle.page_states.specs.Effects.{swept, freed, is_gone, given_back, claim_all, free_pages}
use Rattle.page_states.specs.Laws.{Serves, Settled, Keeps}
use Rattle.page_states.proofs.Shown.{and_false}
use Rattle.page_states.proofs.KeptPlaces.{sweep_keeps_places, giving_back_keeps}
use Rattle.page_states.proofs.ClaimedPages.{claim_keeps_places}
use Rattle.page_states.proofs.SettledPlaces.{freeing_settles, claim_settles}
use Rattle.page_states.proofs.PagesStay.{pages_stay}
use Rattle.file_books.specs.Books.{Books, has_page, OwnersHavePages}
use Rattle.file_state.specs.declared.memory.Memory.{Memory}
use Rattle.file_state.specs.Memories.{books_of, IsMemory}
use Rattle.file_state.proofs.Shown.{content_at, no_bytes, serves_shown, some_content, few_shown, shown_is}

-- tests that agree pass the same numbers
pub filter_alike : (p q : ℕ → Bool) (ns : List ℕ) → ((n : ℕ) → p n ≡ q n) → filter p ns ≡ filter q ns
filter_alike p q [] same = refl
filter_alike p q (n ∷ ns) same =
    let here : p n ≡ q n = same n in
    let rest : filter p ns ≡ filter q ns = filter_alike p q ns same in
    λ i. cond (here i) (n ∷ rest i) (rest i)

module _ (b : Books) (states : List PageState) (owners : OwnersHavePages b) (keeps : Keeps b.front b.pages states) where
  served : Serves (content_at b.front b.pages) no_bytes b.front states
  served = keeps (content_at b.front b.pages) no_bytes (serves_shown b.front b.pages owners.one)

  -- the owners that have a page are the same
  pub same_owners : (o : Owner) → list_any (shows o b.front) states ≡ has_page b o
  same_owners o = shown_is (content_at b.front b.pages) no_bytes b.front states served o ∙ some_content (has_page b o)

  pub owners_kept : Settled b.front states → OwnersHavePages (record b { pages = states })
  owners_kept settled = record {
    settled = settled;
    one = few_shown (content_at b.front b.pages) no_bytes b.front states served;
    directory = λ p. same_owners (Part p) ∙ owners.directory p;
    numbers = λ n is. owners.numbers n (sym (same_owners (Bucket n)) ∙ is);
    buckets = owners.buckets ∙ ap length (filter_alike (λ n. has_page b (Bucket n)) (λ n. list_any (shows (Bucket n) b.front) states) (below b.shape.pages) (λ n. sym (same_owners (Bucket n))));
  }

-- what memory keeps stays lawful
pub memory_kept : {K : ℕ} (m : Memory K) (states : List PageState) → IsMemory m → length states ≡ length m.pages → Settled m.counts.front states → Keeps m.counts.front m.pages states → IsMemory (record m { pages = states })
memory_kept m states is count settled keeps = record {
  books = record {
    lawful = is.books.lawful;
    attributes = is.books.attributes;
    size = count ∙ is.books.size;
    ranges = record { session = is.books.ranges.session; number = is.books.ranges.number; front = is.books.ranges.front; half = is.books.ranges.half; first = is.books.ranges.first; second = is.books.ranges.second };
    scales = record { attributes = is.books.scales.attributes; ascend = is.books.scales.ascend; few_boundaries = is.books.scales.few_boundaries; few_cells = is.books.scales.few_cells };
    owners = owners_kept (books_of m) states is.books.owners keeps settled;
    some = is.books.some;
    records = is.books.records;
  };
  limits = is.limits;
  used = λ n low. same_owners (books_of m) states is.books.owners keeps (Bucket n) ∙ is.used n low;
}

-- a claim keeps it
pub claim_kept : {K : ℕ} (m : Memory K) (seat count : ℕ) (pages : List ℕ) → IsMemory m → pages ≡ take count (free_pages m.pages) → IsMemory (record m { pages = claim_all seat pages m.pages })
claim_kept m seat count pages is e = memory_kept m (claim_all seat pages m.pages) is (pages_stay.claim seat pages m.pages) (claim_settles seat m.counts.front pages m.pages is.books.owners.settled)
    (subst (λ (ps : List ℕ). Keeps m.counts.front m.pages (claim_all seat ps m.pages)) (sym e) (claim_keeps_places seat count m.counts.front m.pages))

pub giving_back_kept : {K : ℕ} (m : Memory K) (seat : ℕ) → IsMemory m → IsMemory (record m { pages = given_back seat m.pages })
giving_back_kept m seat is = memory_kept m (given_back seat m.pages) is (pages_stay.freeing (is_claimed_by seat) m.pages) (freeing_settles (is_claimed_by seat) m.counts.front m.pages is.books.owners.settled) (giving_back_keeps seat m.counts.front m.pages)

-- a page that ended at the front or before is as gone for the front as without it
gone_alike : (places : List ℕ) (front : ℕ) (x : PageState) → ((o : Owner) (from to : ℕ) → x ≡ Live o from (Some to) → to ≤ front) → is_gone (front ∷ places) x ≡ is_gone places x
gone_alike places front Free ended = refl
gone_alike places front (Claimed s) ended = refl
gone_alike places front (Live o from None) ended = refl
gone_alike places front (Live o from (Some to)) ended =
    ap (λ (b : Bool). not ((nat_le from front && b) || is_kept places (Live o from (Some to)))) (le-ltb front to (ended o from to refl))
    ∙ ap (λ (b : Bool). not (b || is_kept places (Live o from (Some to)))) (and_false (nat_le from front))

-- a sweep that keeps the front as well frees the same pages
swept_front : (places : List ℕ) (front : ℕ) (states : List PageState) → ((p : ℕ) (o : Owner) (from to : ℕ) → slice_get states p ≡ Some (Live o from (Some to)) → to ≤ front) → swept (front ∷ places) states ≡ swept places states
swept_front places front [] ended = refl
swept_front places front (x ∷ xs) ended =
    let first : freed (is_gone (front ∷ places)) x ≡ freed (is_gone places) x = ap (λ (b : Bool). cond b Free x) (gone_alike places front x (λ o from to e. ended 0 o from to (ap (λ (z : PageState). Some z) e))) in
    let rest : swept (front ∷ places) xs ≡ swept places xs = swept_front places front xs (λ p. ended (suc p)) in
    λ i. first i ∷ rest i

pub sweep_kept : {K : ℕ} (m : Memory K) (places : List ℕ) → IsMemory m → IsMemory (record m { pages = swept places m.pages })
sweep_kept m places is = memory_kept m (swept places m.pages) is (pages_stay.freeing (is_gone places) m.pages) (freeing_settles (is_gone places) m.counts.front m.pages is.books.owners.settled)
    (subst (Keeps m.counts.front m.pages) (swept_front places m.counts.front m.pages is.books.owners.settled.ended_by)
    (sweep_keeps_places (m.counts.front ∷ places) m.counts.front m.pages (contains-first m.counts.front places)))
