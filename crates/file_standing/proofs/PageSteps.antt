-- Sweeps, claims and what is given back leave a file where it stands.
use Rattle.std.proofs.Common.{◌≡◌, inl, inr, ℕ, zero, suc, List, [], ◌∷◌, take, fold, length, replicate, Option, Some, None, refl, sym, ap, subst, ◌∙◌}
use Rattle.std.specs.Prelude.{Contains}
use Rattle.std.specs.List.{count_by}
use Rattle.std.proofs.lemmas.List.{length-map}
use Rattle.grid_model.specs.Lone.{State, free}
use Rattle.grid_model.specs.Roots.{WholeRoot}
use Rattle.grid_model.proofs.Members.{contains-first, contains-later}
use Rattle.history_pages.specs.KnownPages.{ask_nothing}
use Rattle.page_states.specs.declared.page_state.PageState.{PageState}
use Rattle.page_states.specs.States.{is_free, is_claimed, is_claimed_by}
use Rattle.page_states.specs.Effects.{free_pages, claim_all, given_back, freed, is_gone, swept}
use Rattle.page_states.proofs.PagesStay.{pages_stay}
use Rattle.layout_pages.specs.Holding.{HoldLayout, NamesCurrent}
use Rattle.layout_pages.specs.Steps.{gone_pages}
use Rattle.layout_pages.proofs.Claiming.{claim-holds, given-holds}
use Rattle.layout_pages.proofs.Staying.{named-stay, named-apart}
use Rattle.layout_pages.proofs.Sweeps.{sweep-holds}
use Rattle.kept_pages.specs.Counts.{CountsRoot}
use Rattle.kept_pages.proofs.FreePages.{free-count}
use Rattle.kept_pages.proofs.Steps.{steps-count}
use Rattle.file_images.specs.Kept.{Kept, MayBeNewest}
use Rattle.file_images.specs.Leads.{Standing, Lineage}
use Rattle.file_images.proofs.PagesLeading.{leads_let_go, covers_let_go}
use Rattle.file_books.specs.Books.{Books}
use Rattle.file_books.specs.Effects.{root_places, with_place, swept_books}
use Rattle.file_standing.specs.Files.{state_along, AgreeWith, BooksHold, Follows, IsFile, IsAlone}
use Rattle.file_standing.specs.Steps.{swept_kept}
use Rattle.file_standing.specs.FileLaws.{PageStepsStay}
use Rattle.file_standing.proofs.Following.{counted-along}

-- where nothing is asked of any page, nothing is
nothing-set : (n p : ℕ) → ask_nothing (replicate n None) p ≡ replicate n None
nothing-set zero p = refl
nothing-set (suc n) zero = refl
nothing-set (suc n) (suc p) = ap (λ (xs : List (Option (List ℕ))). None ∷ xs) (nothing-set n p)

nothing-asked : (n : ℕ) (ps : List ℕ) → fold ask_nothing (replicate n None) ps ≡ replicate n None
nothing-asked n [] = refl
nothing-asked n (p ∷ ps) = ap (λ (xs : List (Option (List ℕ))). fold ask_nothing xs ps) (nothing-set n p) ∙ nothing-asked n ps

-- books with these states of pages
abbrev pub with_states : Books → List PageState → Books
with_states b states = record b { pages = states }

-- a sweep keeps the place of the newest root
kept-place : (b : Books) → Contains (root_places b) b.rooted_at
kept-place b = by b.trying_at
  where
    by : (o : Option ℕ) → Contains (with_place b.rooted_at o) b.rooted_at
    by None = contains-first b.rooted_at []
    by (Some p) = contains-first b.rooted_at (p ∷ [])

-- and that of one that is tried
tried-place : (b : Books) (p : ℕ) → b.trying_at ≡ Some p → Contains (root_places b) p
tried-place b p is = subst (λ (o : Option ℕ). Contains (with_place b.rooted_at o) p) (sym is) (contains-later b.rooted_at (p ∷ []) p (contains-first p []))

module _ {K : ℕ} (b : Books) (k : Kept K) (m : Standing K) where
  -- a sweep keeps the place of each root that may be the newest
  newest-place : AgreeWith b k → (w : WholeRoot) → MayBeNewest k w → Contains (root_places b) w.fields.front
  newest-place agree w (inl is) = subst (Contains (root_places b)) (sym agree.root ∙ ap (λ (v : WholeRoot). v.fields.front) (sym is)) (kept-place b)
  newest-place agree w (inr is) = tried-place b w.fields.front (agree.tried w is)

  -- where the states of pages change alone
  states-follow : (states : List PageState) (w : WholeRoot) (x : Lineage K) → NamesCurrent w.fields.front states w.area → CountsRoot states b.front w.fields.front (state_along w x) → Follows b k m w x → Follows (with_states b states) k m w x
  states-follow states w x names counts f = record { along = f.along; names = names; counts = counts; before = f.before; session = f.session; none = f.none }

  states-hold : (states : List PageState) → length states ≡ length b.pages → HoldLayout states k.always b.front m.layout m.table → BooksHold b k m → BooksHold (with_states b states) k m
  states-hold states many holds hold = record {
    place = hold.place;
    scales = hold.scales;
    records = hold.records;
    buckets = hold.buckets;
    stands = hold.stands;
    size = many ∙ hold.size;
    holds = holds;
    fresh = hold.fresh;
  }

  states-agree : (states : List PageState) → AgreeWith b k → AgreeWith (with_states b states) k
  states-agree states agree = record {
    shape = agree.shape;
    number = agree.number;
    root = agree.root;
    tried = agree.tried;
    half = agree.half;
    two = agree.two;
    first = agree.first;
    second = agree.second;
  }

  module _ (states : List PageState) (many : length states ≡ length b.pages) (holds : HoldLayout b.pages k.always b.front m.layout m.table → HoldLayout states k.always b.front m.layout m.table)
      (follows : (w : WholeRoot) (x : Lineage K) → Follows b k m w x → Follows (with_states b states) k m w x) where
    states-file : IsFile b k m → IsFile (with_states b states) k m
    states-file is = record {
      agree = states-agree states is.agree;
      hold = states-hold states many (holds is.hold.holds) is.hold;
      shut = is.shut;
      each = λ w may. let f = is.each w may in record { lineage = f.lineage; along = follows w f.lineage f.along };
    }

    states-alone : (s : State K) → IsAlone b k m s → IsAlone (with_states b states) k m s
    states-alone s alone = record { lineage = alone.lineage; follows = follows k.root alone.lineage alone.follows; state = alone.state; quiet = alone.quiet; clear = alone.clear }

  module _ (seat count : ℕ) where
    claim-many : length (claim_all seat (take count (free_pages b.pages)) b.pages) ≡ length b.pages
    claim-many = pages_stay.claim seat (take count (free_pages b.pages)) b.pages

    claim-follows : (w : WholeRoot) (x : Lineage K) → Follows b k m w x → Follows (with_states b (claim_all seat (take count (free_pages b.pages)) b.pages)) k m w x
    claim-follows w x f = states-follow (claim_all seat (take count (free_pages b.pages)) b.pages) w x
        (named-stay.claim b.pages w.area w.fields.front seat count f.names) (steps-count.claim b.pages b.front w.fields.front (state_along w x) seat count f.counts) f

    claim-hold : HoldLayout b.pages k.always b.front m.layout m.table → HoldLayout (claim_all seat (take count (free_pages b.pages)) b.pages) k.always b.front m.layout m.table
    claim-hold holds = claim-holds b.pages k.always b.front m.layout m.table seat count holds

  module _ (seat : ℕ) where
    given-many : length (given_back seat b.pages) ≡ length b.pages
    given-many = length-map b.pages (freed (is_claimed_by seat))

    given-follows : (w : WholeRoot) (x : Lineage K) → Follows b k m w x → Follows (with_states b (given_back seat b.pages)) k m w x
    given-follows w x f = states-follow (given_back seat b.pages) w x
        (named-stay.giving_back b.pages w.area w.fields.front seat f.names) (steps-count.giving_back b.pages b.front w.fields.front (state_along w x) seat f.counts) f

    given-hold : HoldLayout b.pages k.always b.front m.layout m.table → HoldLayout (given_back seat b.pages) k.always b.front m.layout m.table
    given-hold holds = given-holds b.pages k.always b.front m.layout m.table seat holds

  -- a root whose place is kept follows after a sweep
  swept-follows : (w : WholeRoot) (x : Lineage K) → Contains (root_places b) w.fields.front → Follows b k m w x → Follows (swept_books b) (swept_kept b k) m w x
  swept-follows w x within f = record {
    along = leads_let_go k m (gone_pages (root_places b) b.pages) w x (λ p gone named. named-apart.gone b.pages w.area w.fields.front p (root_places b) within f.names gone named) f.along;
    names = named-stay.sweep b.pages w.area w.fields.front (root_places b) within f.names;
    counts = steps-count.sweep b.pages b.front w.fields.front (state_along w x) (root_places b) within f.counts;
    before = f.before;
    session = f.session;
    none = f.none;
  }

  swept-file : IsFile b k m → IsFile (swept_books b) (swept_kept b k) m
  swept-file is = record {
    agree = record {
      shape = is.agree.shape;
      number = is.agree.number;
      root = is.agree.root;
      tried = is.agree.tried;
      half = is.agree.half;
      two = is.agree.two;
      first = is.agree.first;
      second = is.agree.second;
    };
    hold = record {
      place = is.hold.place;
      scales = is.hold.scales;
      records = is.hold.records;
      buckets = is.hold.buckets;
      stands = is.hold.stands;
      size = length-map b.pages (freed (is_gone (root_places b))) ∙ is.hold.size;
      holds = sweep-holds b.pages k.always b.front m.layout m.table (root_places b) is.hold.holds;
      fresh = ap (λ (xs : List (Option (List ℕ))). fold ask_nothing xs (gone_pages (root_places b) b.pages)) is.hold.fresh ∙ nothing-asked b.shape.pages (gone_pages (root_places b) b.pages);
    };
    shut = is.shut;
    each = λ w may. let f = is.each w may in record { lineage = f.lineage; along = swept-follows w f.lineage (newest-place is.agree w may) f.along };
  }

  swept-alone : (s : State K) → IsFile b k m → IsAlone b k m s → IsAlone (swept_books b) (swept_kept b k) m s
  swept-alone s is alone = record {
    lineage = alone.lineage;
    follows = swept-follows k.root alone.lineage (newest-place is.agree k.root (inl refl)) alone.follows;
    state = alone.state;
    quiet = alone.quiet;
    clear = alone.clear;
  }

  -- after a sweep as many pages are free as a lone caller counts
  swept-counted : (s : State K) → IsFile b k m → IsAlone b k m s → count_by is_claimed b.pages ≡ 0 → count_by is_free (swept_books b).pages ≡ free b.shape s
  swept-counted s is alone none =
      ap (λ (o : Option ℕ). count_by is_free (swept (with_place b.rooted_at o) b.pages)) alone.quiet
      ∙ ap (λ (p : ℕ). count_by is_free (swept (p ∷ []) b.pages)) (sym is.agree.root)
      ∙ free-count.exact b.shape b.pages k.always b.front k.root.fields.front (state_along k.root alone.lineage) (counted-along b k m is.hold k.root alone.lineage alone.follows) none
      ∙ ap (free b.shape) (sym alone.state)

pub page-steps : {K : ℕ} → PageStepsStay K
page-steps = record {
  sweep = λ b k m is. swept-file b k m is;
  covered = λ b k. covers_let_go k (gone_pages (root_places b) b.pages);
  sweep_alone = λ b k m s is alone. swept-alone b k m s is alone;
  claim = λ b k m seat count is. states-file b k m _ (claim-many b k m seat count) (claim-hold b k m seat count) (claim-follows b k m seat count) is;
  claim_alone = λ b k m s seat count is alone. states-alone b k m _ (claim-many b k m seat count) (claim-hold b k m seat count) (claim-follows b k m seat count) s alone;
  giving_back = λ b k m seat is. states-file b k m _ (given-many b k m seat) (given-hold b k m seat) (given-follows b k m seat) is;
  giving_back_alone = λ b k m s seat is alone. states-alone b k m _ (given-many b k m seat) (given-hold b k m seat) (given-follows b k m seat) s alone;
  counted = λ b k m s is alone none. swept-counted b k m s is alone none;
}
