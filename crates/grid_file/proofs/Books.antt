-- What the books of a file say of owners, and that claims and what is given back leave them sound.
use Rattle.std.proofs.Common.{◌≡◌, ◌<◌, ◌≤◌, ◌*◌, ◌+◌, ℕ, Bool, true, false, List, [], Option, Some, None, IsTrue, refl, sym, ap, ◌∙◌, subst, length, take, length-append, arith}
use Rattle.std.specs.Prelude.{◌↔◌, IsSome, IfOk, Result, slice_index}
use Rattle.std.specs.Option.{option_map}
use Rattle.std.specs.List.{count_by}
use Rattle.std.proofs.lemmas.Bool.{lt-ltb}
use Rattle.std.proofs.lemmas.Option.{slice_get_within, slice_get-map}
use Rattle.grid_types.specs.declared.owner.Owner.{Owner}
use Rattle.grid_types.specs.declared.owner.Owner.TheVariants.{Bucket, Part}
use Rattle.grid_types.specs.Pages.{page_of}
use Rattle.grid_types.specs.Shapes.{file_pages, data_page}
use Rattle.disk_trait.specs.declared.disk.Disk.{Ghosts}
use Rattle.grid_model.specs.Cells.{cells, parts}
use Rattle.grid_model.specs.Lists.{is_among}
use Rattle.page_states.specs.declared.page_state.PageState.{PageState}
use Rattle.page_states.specs.Effects.{free_pages, claim_all, freed, given_back, is_gone, swept, IsPageAt}
use Rattle.page_states.specs.Laws.{Settled, Keeps}
use Rattle.page_states.specs.States.{is_free, is_claimed_by}
use Rattle.page_states.proofs.ClaimedPages.{claim_keeps_places}
use Rattle.page_states.proofs.KeptPlaces.{giving_back_keeps}
use Rattle.page_states.proofs.PagesStay.{pages_stay}
use Rattle.page_states.proofs.SettledPlaces.{freeing_settles, claim_settles}
use Rattle.file_books.specs.Books.{Books, AreBooksOf, has_page, numbers_now}
use Rattle.file_state.proofs.Filters.{among_passing}
use Rattle.file_state.proofs.Kept.{owners_kept}
use Rattle.grid_file.specs.Files.{AreClaimedBy, OpenFile, IsOpenFile, client, opened_file, with_claim, without_claim}
use Rattle.grid_file.specs.Pages.{page_here, IsFoundIn}
use Rattle.grid_file.proofs.Found.{none_first, shown_first}
use Rattle.grid_file.proofs.Claiming.{claimed_beside, none_claimed, many_free}

-- books with other states of pages, in which the same owners have pages
module _ {K : ℕ} (b : Books) (is : AreBooksOf K b) where
  books_kept : (states : List PageState) → length states ≡ length b.pages → Settled b.front states → Keeps b.front b.pages states → AreBooksOf K (record b { pages = states })
  books_kept states count settled keeps = record {
    lawful = is.lawful;
    attributes = is.attributes;
    size = count ∙ is.size;
    ranges = record { session = is.ranges.session; number = is.ranges.number; front = is.ranges.front; half = is.ranges.half; first = is.ranges.first; second = is.ranges.second };
    scales = record { attributes = is.scales.attributes; ascend = is.scales.ascend; few_boundaries = is.scales.few_boundaries; few_cells = is.scales.few_cells };
    owners = owners_kept b states is.owners keeps settled;
    some = is.some;
    records = is.records;
  }

  claimed_kept : (seat count : ℕ) → AreBooksOf K (record b { pages = claim_all seat (take count (free_pages b.pages)) b.pages })
  claimed_kept seat count = books_kept (claim_all seat (take count (free_pages b.pages)) b.pages) (pages_stay.claim seat (take count (free_pages b.pages)) b.pages)
      (claim_settles seat b.front (take count (free_pages b.pages)) b.pages is.owners.settled) (claim_keeps_places seat count b.front b.pages)

  given_kept : (seat : ℕ) → AreBooksOf K (record b { pages = given_back seat b.pages })
  given_kept seat = books_kept (given_back seat b.pages) (pages_stay.freeing (is_claimed_by seat) b.pages) (freeing_settles (is_claimed_by seat) b.front b.pages is.owners.settled) (giving_back_keeps seat b.front b.pages)

  -- the directory parts of the scales have a page
  pub part_there : (p : ℕ) → p < parts b.scales → has_page b (Part p) ≡ true
  part_there p low = is.owners.directory p ∙ lt-ltb p (parts b.scales) low

  pub low_part : (p : ℕ) → 1000 * p < cells b.scales → p < parts b.scales
  low_part p low = omega (arith, low)

  -- a bucket number is among those that have a page where it has one
  pub number_there : {E : Type 0} (n : ℕ) (r : Result (Option ℕ) E) → IfOk r (λ at. IsSome at ↔ IsTrue (has_page b (Bucket n))) → IfOk r (λ at. IsSome at ↔ IsTrue (is_among (numbers_now b) n))
  number_there n r there = subst (λ (t : Bool). IfOk r (λ at. IsSome at ↔ IsTrue t)) (sym (among_passing (λ m. has_page b (Bucket m)) b.shape.pages n (is.owners.numbers n))) there

  -- a page that is an owner's is one of the data pages, and the first that is
  pub page_low : (o : Owner) (p : ℕ) → IsPageAt o b.front b.pages p → p < b.shape.pages
  page_low o p at = let low : p < length b.pages = slice_get_within b.pages p at.state at.there in omega (arith, low, is.size)

  pub page_first : (o : Owner) (p : ℕ) → IsPageAt o b.front b.pages p → page_here b o ≡ Some p
  page_first o p at = shown_first o b.front b.pages p at.state at.there at.shown (is.owners.one o)

module _ {D : Type 0} (g : Ghosts D) (b : Books) (o : Owner) (disk : D) where
  -- no page was found
  pub none_found : (bytes : List ℕ) → has_page b o ≡ false → IsFoundIn g b o disk bytes None
  none_found bytes none =
      let e : page_here b o ≡ None = none_first o b.front b.pages none in
      record { stands = sym (ap (option_map (data_page b.shape)) e); given = λ h. ap (option_map (λ p. page_of (data_page b.shape p) (g.seen disk))) e ∙ sym (ap (option_map (λ p. bytes)) e) }

  -- a page was found, and read
  pub one_found : (bytes : List ℕ) (p at : ℕ) → page_here b o ≡ Some p → at ≡ data_page b.shape p → (IsTrue (g.honest disk) → bytes ≡ page_of at (g.seen disk)) → IsFoundIn g b o disk bytes (Some at)
  one_found bytes p at e is reads = record {
    stands = ap Some is ∙ sym (ap (option_map (data_page b.shape)) e);
    given = λ h.
        ap (option_map (λ q. page_of (data_page b.shape q) (g.seen disk))) e
        ∙ ap Some (ap (λ (q : ℕ). page_of q (g.seen disk)) (sym is) ∙ sym (reads h))
        ∙ sym (ap (option_map (λ q. bytes)) e);
  }

-- a sound file stays sound
module _ {K : ℕ} {D : Type 0} (g : Ghosts D) where
  -- where disk, books and claimed pages are these, and nothing is written
  pub sound_by : (disk : D) (b c : Books) (ps qs : List ℕ) (ws : List (Owner × List ℕ)) (n : ℕ) → b ≡ c → ps ≡ qs → ws ≡ [] → n ≡ 0 → IsOpenFile K g (record { disk = disk; books = c; claimed = qs; written = [] })
      → IsOpenFile K g (record { disk = disk; books = b; claimed = ps; written = ws }) × (n ≡ length ws)
  sound_by disk b c ps qs ws n books pages none done is = (
    subst (λ (z : Books × List ℕ × List (Owner × List ℕ)). IsOpenFile K g (record { disk = disk; books = z.0; claimed = z.1; written = z.2 })) (λ i. (sym books i, sym pages i, sym none i)) is,
    done ∙ sym (ap length none),
  )

  pub claim_sound : (f : OpenFile D) (count : ℕ) → IsOpenFile K g f → IsOpenFile K g (with_claim count f)
  claim_sound f count is = record {
    books_are = claimed_kept f.books is.books_are client count;
    size = is.size;
    claimed_are = claimed_beside client count f.books.pages f.claimed is.claimed_are;
    few = omega arith;
  }

  pub opened_sound : (disk : D) (b : Books) → AreBooksOf K b → file_pages b.shape * 4096 ≤ g.extent disk → IsOpenFile K g (opened_file disk b)
  opened_sound disk b are size = record { books_are = are; size = size; claimed_are = none_claimed client b.pages; few = omega arith }

  pub given_sound : (f : OpenFile D) → IsOpenFile K g f → IsOpenFile K g (without_claim f)
  given_sound f is = record {
    books_are = given_kept f.books is.books_are client;
    size = is.size;
    claimed_are = none_claimed client (given_back client f.books.pages);
    few = omega arith;
  }

  -- a file stays sound with other books and another disk, where the claimed pages are claimed there
  pub sound_with : (f : OpenFile D) (disk : D) (b : Books) (n : ℕ) → IsOpenFile K g f → AreBooksOf K b → b.shape ≡ f.books.shape → g.extent disk ≡ g.extent f.disk → AreClaimedBy client b.pages f.claimed → n ≡ length f.written
      → IsOpenFile K g (record { disk = disk; books = b; claimed = f.claimed; written = f.written }) × (n ≡ length f.written)
  sound_with f disk b n is are shape extent claimed done = (
    record { books_are = are; size = omega (arith, is.size, extent, ap file_pages shape); claimed_are = claimed; few = is.few },
    done,
  )

  -- and where nothing is claimed
  pub opened_with : (f : OpenFile D) (disk : D) (b : Books) (ps : List ℕ) (ws : List (Owner × List ℕ)) (n : ℕ) → IsOpenFile K g f → AreBooksOf K b → b.shape ≡ f.books.shape → g.extent disk ≡ g.extent f.disk → ps ≡ [] → ws ≡ [] → n ≡ 0
      → IsOpenFile K g (record { disk = disk; books = b; claimed = ps; written = ws }) × (n ≡ length ws)
  opened_with f disk b ps ws n is are shape extent pages none done = sound_by disk b b ps [] ws n refl pages none done (opened_sound disk b are (omega (arith, is.size, extent, ap file_pages shape)))

-- a sweep frees no claimed page
pub swept_claimed : (places : List ℕ) (states : List PageState) (pages : List ℕ) → AreClaimedBy client states pages → AreClaimedBy client (swept places states) pages
swept_claimed places states pages are = record {
  each = λ i low. slice_get-map (freed (is_gone places)) states (slice_index pages i) ∙ ap (option_map (freed (is_gone places))) (are.each i low);
  distinct = are.distinct;
}

-- how many pages are claimed after a claim
pub claim_count : {D : Type 0} (f : OpenFile D) (count : ℕ) → count ≤ count_by is_free f.books.pages → length (with_claim count f).claimed ≡ length f.claimed + count
claim_count f count free = length-append f.claimed (take count (free_pages f.books.pages)) ∙ ap (λ (n : ℕ). length f.claimed + n) (many_free count f.books.pages free)
