-- Pages that a root names begin one after the other.
use Rattle.std.proofs.Common.{◌≡◌, ℕ, zero, suc, ◌+◌, ◌<◌, ◌≤◌, List, [], ◌∷◌, ◌++◌, Bool, true, false, cond, Some, None, append-nil, refl, sym, ◌∙◌, ap, subst, map, filter, length, arith, IsTrue}
use Rattle.std.specs.Prelude.{◌≢◌, not, slice_get, slice_index}
use Rattle.std.specs.List.{range_with_len}
use Rattle.std.specs.Option.{option_map}
use Rattle.std.proofs.lemmas.Option.{slice_get-map}
use Rattle.std.proofs.lemmas.Bool.{eq-eqb, ne_eqb}
use Rattle.grid_types.specs.declared.owner.Owner.{Owner}
use Rattle.grid_model.specs.Lists.{below}
use Rattle.grid_model.specs.Lawful.{nowhere}
use Rattle.directory_changes.proofs.Counted.{filter-more}
use Rattle.page_states.specs.declared.page_state.PageState.{PageState}
use Rattle.page_states.specs.declared.page_state.PageState.TheVariants.{Free, Live}
use Rattle.page_states.specs.Effects.{with_end, with_newest}
use Rattle.page_states.specs.Changes.{Publication, all_published}
use Rattle.page_states.proofs.Lists.{get_set_other}
use Rattle.page_states.proofs.PagesStay.{pages_stay}
use Rattle.file_state.specs.Openings.{is_named, OthersStayFree, AreBeginnable}
use Rattle.file_state.proofs.Walks.{published_append}

-- another free page is free still
pub free_beside : (page q at : ℕ) (owner : Owner) (states : List PageState) → q ≢ page → slice_get states q ≡ Some Free → slice_get (with_newest page owner at states) q ≡ Some Free
free_beside page q at owner states apart was =
    get_set_other (map (with_end owner at) states) page q (Live owner at None) apart
    ∙ slice_get-map (with_end owner at) states q ∙ ap (option_map (with_end owner at)) was

-- where all numbers from one on pass, they are those that pass
all_pass : (p : ℕ → Bool) (a n : ℕ) → ((k : ℕ) → a ≤ k → k < a + n → p k ≡ true) → filter p (range_with_len a n) ≡ range_with_len a n
all_pass p a zero all = refl
all_pass p a (suc n) all =
    let here : p a ≡ true = all a (omega arith) (omega arith) in
    ap (λ (t : Bool). cond t (a ∷ filter p (range_with_len (a + 1) n)) (filter p (range_with_len (a + 1) n))) here
    ∙ ap (λ (ns : List ℕ). a ∷ ns) (all_pass p (a + 1) n (λ k low high. all k (omega (arith, low)) (omega (arith, high))))

-- where all numbers are pages, all are named
pub all_named : (pages : List ℕ) → ((k : ℕ) → k < length pages → IsTrue (is_named pages k)) → filter (is_named pages) (below (length pages)) ≡ below (length pages)
all_named pages all = all_pass (is_named pages) 0 (length pages) (λ k low high. all k (omega (arith, high)))

pub named_if : (pages : List ℕ) (k : ℕ) → slice_index pages k < nowhere → IsTrue (is_named pages k)
named_if pages k low = ap not (ne_eqb (slice_index pages k) nowhere (λ e. omega (arith, low, e)))

-- an entry is named exactly where it is not nowhere
pub named_apart : (pages : List ℕ) (k : ℕ) → (slice_index pages k ≡ 4294967295 → ⊥) → IsTrue (is_named pages k)
unfolding nowhere
named_apart pages k distinct = ap not (ne_eqb (slice_index pages k) nowhere distinct)

pub not_named : (pages : List ℕ) (k : ℕ) → slice_index pages k ≡ 4294967295 → is_named pages k ≡ false
unfolding nowhere
not_named pages k same = ap not (eq-eqb (slice_index pages k) nowhere same)

-- of the numbers below one, those that are named have begun; those behind them are free still, and so are others
pub record HasBegun (owner : ℕ → Owner) (at : ℕ) (pages : List ℕ) (initial states : List PageState) (n : ℕ) : Type 0 where
  pub made : states ≡ all_published at (map (λ (k : ℕ). record { page = slice_index pages k; owner = owner k }) (filter (is_named pages) (below n))) initial
  pub free : (j : ℕ) → n ≤ j → j < length pages → IsTrue (is_named pages j) → slice_get states (slice_index pages j) ≡ Some Free
  pub others : OthersStayFree pages initial states
  pub size : length states ≡ length initial

map_more : (f : ℕ → Publication) (ns : List ℕ) (n : ℕ) → map f (ns ++ n ∷ []) ≡ map f ns ++ f n ∷ []
map_more f [] n = refl
map_more f (m ∷ ns) n = ap (λ (xs : List Publication). f m ∷ xs) (map_more f ns n)

pub begin_first : (owner : ℕ → Owner) (at : ℕ) (pages : List ℕ) (states : List PageState) → AreBeginnable pages states → HasBegun owner at pages states states 0
begin_first owner at pages states ok = record { made = refl; free = λ j low less named. ok.free j less named; others = λ q none free. free; size = refl }

module _ (owner : ℕ → Owner) (at : ℕ) (pages : List ℕ) (initial states : List PageState) (n : ℕ) (begun : HasBegun owner at pages initial states n) where
  abbrev publication : ℕ → Publication
  publication k = record { page = slice_index pages k; owner = owner k }

  -- a number that is not named changes nothing
  pub begin_none : is_named pages n ≡ false → HasBegun owner at pages initial states (n + 1)
  begin_none fails =
      let same : filter (is_named pages) (below (n + 1)) ≡ filter (is_named pages) (below n) =
      filter-more (is_named pages) n ∙ ap (λ (t : Bool). filter (is_named pages) (below n) ++ cond t (n ∷ []) []) fails ∙ append-nil (filter (is_named pages) (below n)) in
      record {
        made = begun.made ∙ ap (λ (ns : List ℕ). all_published at (map (λ (k : ℕ). record { page = slice_index pages k; owner = owner k }) ns) initial) (sym same);
        free = λ j low less named. begun.free j (omega (arith, low)) less named;
        others = begun.others;
        size = begun.size;
      }

  -- the page of one that is named begins
  pub begin_one : (later : List PageState) → is_named pages n ≡ true → n < length pages → ((i j : ℕ) → i < j → j < length pages → IsTrue (is_named pages j) → slice_index pages j ≢ slice_index pages i)
      → later ≡ with_newest (slice_index pages n) (owner n) at states → HasBegun owner at pages initial later (n + 1)
  begin_one later named low distinct is = record {
    made =
        is ∙ ap (with_newest (slice_index pages n) (owner n) at) begun.made
        ∙ sym (ap (λ (ns : List ℕ). all_published at (map publication ns) initial) longer
        ∙ ap (λ (xs : List Publication). all_published at xs initial) (map_more publication (filter (is_named pages) (below n)) n)
        ∙ published_append at (map publication (filter (is_named pages) (below n))) (publication n ∷ []) initial);
    free = λ j more less there. subst (λ (s : List PageState). slice_get s (slice_index pages j) ≡ Some Free) (sym is)
        (free_beside (slice_index pages n) (slice_index pages j) at (owner n) states (distinct n j (omega (arith, more)) less there) (begun.free j (omega (arith, more)) less there));
    others = λ q none was. subst (λ (s : List PageState). slice_get s q ≡ Some Free) (sym is)
        (free_beside (slice_index pages n) q at (owner n) states (λ e. none n low (sym e)) (begun.others q none was));
    size = ap length is ∙ pages_stay.publication (slice_index pages n) at (owner n) states ∙ begun.size;
  }
    where
      longer : filter (is_named pages) (below (n + 1)) ≡ filter (is_named pages) (below n) ++ n ∷ []
      longer = filter-more (is_named pages) n ∙ ap (λ (t : Bool). filter (is_named pages) (below n) ++ cond t (n ∷ []) []) named
