-- Sweeps, claims and what is given back leave what is redone.
use Rattle.std.proofs.Common.{◌≡◌, ℕ, Bool, true, false, List, [], ◌∷◌, take, fold, length, Option, Some, None, refl, sym, subst, ◌∙◌}
use Rattle.std.specs.Prelude.{slice_index_or, Contains}
use Rattle.std.proofs.lemmas.List.{length-map}
use Rattle.grid_types.specs.declared.layout_change.LoggedUpdate.{LoggedUpdate}
use Rattle.grid_model.specs.Lists.{is_among}
use Rattle.grid_model.proofs.Members.{contains-first}
use Rattle.history_pages.specs.KnownPages.{ask_nothing}
use Rattle.page_states.specs.declared.page_state.PageState.{PageState}
use Rattle.page_states.specs.States.{is_claimed_by}
use Rattle.page_states.specs.Effects.{free_pages, claim_all, given_back, freed, is_gone, swept}
use Rattle.page_states.proofs.PagesStay.{pages_stay}
use Rattle.layout_pages.specs.Holding.{HoldLayout, NamesCurrent, named_by}
use Rattle.layout_pages.specs.Steps.{gone_pages}
use Rattle.layout_pages.proofs.Claiming.{claim-holds, given-holds}
use Rattle.layout_pages.proofs.Staying.{named-stay, named-apart}
use Rattle.layout_pages.proofs.Sweeps.{sweep-holds}
use Rattle.layout_pages.proofs.Writes.{length-written}
use Rattle.kept_pages.specs.Counts.{CountsRoot}
use Rattle.kept_pages.proofs.Steps.{steps-count}
use Rattle.file_images.specs.Kept.{Kept}
use Rattle.file_images.specs.Leads.{Standing, Lineage}
use Rattle.file_images.proofs.PagesLeading.{leads_let_go, covers_let_go}
use Rattle.file_books.specs.Books.{Books}
use Rattle.file_books.specs.Effects.{root_places, with_place, swept_books}
use Rattle.file_standing.specs.Steps.{swept_kept}
use Rattle.file_redo.specs.Redoing.{as_read, standing_behind, state_behind, IsRedoing}
use Rattle.file_redo.specs.RedoLaws.{RedoPageSteps}
use Rattle.file_redo.proofs.Reading.{unasked-index, unasked-other, unasked-read}

-- a sweep keeps the place of the root
pub kept-place : (b : Books) → Contains (root_places b) b.rooted_at
kept-place b = by b.trying_at
  where
    by : (o : Option ℕ) → Contains (with_place b.rooted_at o) b.rooted_at
    by None = contains-first b.rooted_at []
    by (Some p) = contains-first b.rooted_at (p ∷ [])

module _ {K : ℕ} (b : Books) (k : Kept K) (m : Standing K) (x : Lineage K) (done rest : List (LoggedUpdate K)) (is : IsRedoing b k m x done rest) where
  abbrev at : Standing K
  at = standing_behind b.rooted_at x done

  abbrev gone : List ℕ
  gone = gone_pages (root_places b) b.pages

  -- where the states of pages change alone
  states-redoing : (states : List PageState) → length states ≡ length b.pages → HoldLayout states (as_read k) b.front at.layout at.table → NamesCurrent b.rooted_at states k.root.area
      → CountsRoot states b.front b.rooted_at (state_behind b.rooted_at x done) → IsRedoing (record b { pages = states }) k m x done rest
  states-redoing states many holds names counts = record {
    agree = record {
      shape = is.agree.shape;
      number = is.agree.number;
      root = is.agree.root;
      tried = is.agree.tried;
      half = is.agree.half;
      two = is.agree.two;
      first = is.agree.first;
      second = is.agree.second;
    };
    other = is.other;
    shut = is.shut;
    along = is.along;
    parted = is.parted;
    hold = record {
      place = is.hold.place;
      scales = is.hold.scales;
      records = is.hold.records;
      buckets = is.hold.buckets;
      stands = is.hold.stands;
      size = many ∙ is.hold.size;
      holds = holds;
      always = is.hold.always;
      fresh = is.hold.fresh;
    };
    names = names;
    unwritten = is.unwritten;
    counts = counts;
    session = is.session;
    quiet = is.quiet;
  }

  claim-redoing : (seat count : ℕ) → IsRedoing (record b { pages = claim_all seat (take count (free_pages b.pages)) b.pages }) k m x done rest
  claim-redoing seat count = states-redoing (claim_all seat (take count (free_pages b.pages)) b.pages) (pages_stay.claim seat (take count (free_pages b.pages)) b.pages)
      (claim-holds b.pages (as_read k) b.front at.layout at.table seat count is.hold.holds) (named-stay.claim b.pages k.root.area b.rooted_at seat count is.names)
      (steps-count.claim b.pages b.front b.rooted_at (state_behind b.rooted_at x done) seat count is.counts)

  given-redoing : (seat : ℕ) → IsRedoing (record b { pages = given_back seat b.pages }) k m x done rest
  given-redoing seat = states-redoing (given_back seat b.pages) (length-map b.pages (freed (is_claimed_by seat)))
      (given-holds b.pages (as_read k) b.front at.layout at.table seat is.hold.holds) (named-stay.giving_back b.pages k.root.area b.rooted_at seat is.names)
      (steps-count.giving_back b.pages b.front b.rooted_at (state_behind b.rooted_at x done) seat is.counts)

  -- what the sweep asks for no more is not read
  swept-holds : HoldLayout (swept (root_places b) b.pages) (as_read (swept_kept b k)) b.front at.layout at.table
  swept-holds = subst (λ (known : List (Option (List ℕ))). HoldLayout (swept (root_places b) b.pages) known b.front at.layout at.table) (sym (unasked-read k.shape.pages k.fresh k.always gone))
      (sweep-holds b.pages (as_read k) b.front at.layout at.table (root_places b) is.hold.holds)

  swept-unwritten : (p : ℕ) → Contains (named_by k.root.area) p → slice_index_or (fold ask_nothing k.fresh gone) p None ≡ None
  swept-unwritten p named = by (is_among gone p) refl
    where
      by : (t : Bool) → is_among gone p ≡ t → slice_index_or (fold ask_nothing k.fresh gone) p None ≡ None
      by true on = unasked-index k.fresh gone p on
      by false off = unasked-other k.fresh gone p off ∙ is.unwritten p named

  swept-redoing : IsRedoing (swept_books b) (swept_kept b k) m x done rest
  swept-redoing = record {
    agree = record {
      shape = is.agree.shape;
      number = is.agree.number;
      root = is.agree.root;
      tried = is.agree.tried;
      half = is.agree.half;
      two = is.agree.two;
      first = is.agree.first;
      second = is.agree.second;
    };
    other = is.other;
    shut = is.shut;
    along = leads_let_go k m gone k.root x (λ p off named. named-apart.gone b.pages k.root.area b.rooted_at p (root_places b) (kept-place b) is.names off named) is.along;
    parted = is.parted;
    hold = record {
      place = is.hold.place;
      scales = is.hold.scales;
      records = is.hold.records;
      buckets = is.hold.buckets;
      stands = is.hold.stands;
      size = length-map b.pages (freed (is_gone (root_places b))) ∙ is.hold.size;
      holds = swept-holds;
      always = length-written {X = Option (List ℕ)} (λ p. None) k.always gone ∙ is.hold.always;
      fresh = length-written {X = Option (List ℕ)} (λ p. None) k.fresh gone ∙ is.hold.fresh;
    };
    names = named-stay.sweep b.pages k.root.area b.rooted_at (root_places b) (kept-place b) is.names;
    unwritten = swept-unwritten;
    counts = steps-count.sweep b.pages b.front b.rooted_at (state_behind b.rooted_at x done) (root_places b) (kept-place b) is.counts;
    session = is.session;
    quiet = is.quiet;
  }

pub redo-page-steps : {K : ℕ} → RedoPageSteps K
redo-page-steps = record {
  sweep = λ b k m x done rest is. swept-redoing b k m x done rest is;
  covered = λ b k. covers_let_go k (gone_pages (root_places b) b.pages);
  claim = λ b k m x done rest seat count is. claim-redoing b k m x done rest is seat count;
  giving_back = λ b k m x done rest seat is. given-redoing b k m x done rest is seat;
}
