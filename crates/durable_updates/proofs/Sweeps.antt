-- What a sweep frees, and that a second one frees nothing more.
use Rattle.std.proofs.Common.{◌≡◌, ◌≤◌, ◌==◌, ℕ, zero, suc, Bool, true, false, cond, List, [], ◌∷◌, map, Some, None, refl, sym, ap, ◌∙◌, arith}
use Rattle.std.specs.List.{count_by}
use Rattle.std.proofs.lemmas.List.Sums.{sum_by-cons}
use Rattle.page_states.specs.declared.page_state.PageState.{PageState}
use Rattle.page_states.specs.declared.page_state.PageState.TheVariants.{Free, Claimed, Live}
use Rattle.page_states.specs.Counts.{once}
use Rattle.page_states.specs.Effects.{freed, is_gone, swept}
use Rattle.page_states.specs.States.{is_free}
use Rattle.file_books.specs.Books.{Books}
use Rattle.file_books.specs.Effects.{used_of, idle_half, with_used, cleaned_books, rooted_books, swept_books, root_places}
use Rattle.checkpoints.specs.Checkpoints.{trying_books, standing_books, checkpointed_books}
use Rattle.durable_updates.proofs.Roots.{checkpointed-pages}

-- a page is freed once
freed-twice : (test : PageState → Bool) (x : PageState) → freed test (freed test x) ≡ freed test x
freed-twice test x = by (test x) refl
  where
    none : (t : Bool) → cond t Free Free ≡ Free
    none true = refl
    none false = refl

    by : (t : Bool) → test x ≡ t → freed test (cond t Free x) ≡ cond t Free x
    by true is = none (test Free)
    by false is = ap (λ (t : Bool). cond t Free x) is

swept-twice : (places : List ℕ) (states : List PageState) → swept places (swept places states) ≡ swept places states
swept-twice places [] = refl
swept-twice places (x ∷ xs) =
    let first = freed-twice (is_gone places) x in
    let rest = swept-twice places xs in
    λ i. first i ∷ rest i

-- a sweep frees no fewer pages than are free
kept-free : (places : List ℕ) (x : PageState) → once is_free x ≤ once is_free (freed (is_gone places) x)
kept-free places Free = omega arith
kept-free places (Claimed s) = omega arith
kept-free places (Live o from None) = omega arith
kept-free places (Live o from (Some to)) = omega arith

more-free : (places : List ℕ) (states : List PageState) → count_by is_free states ≤ count_by is_free (swept places states)
more-free places [] = omega arith
more-free places (x ∷ xs) =
    omega (arith, kept-free places x, more-free places xs, sum_by-cons (once is_free) x xs, sum_by-cons (once is_free) (freed (is_gone places) x) (map (freed (is_gone places)) xs))

-- the clearing of a half leaves the places of roots
cleaned-places : (b : Books) → root_places (cleaned_books b) ≡ root_places b
cleaned-places b = by (idle_half b) (used_of b b.half == b.shape.slots)
  where
    by : (h : ℕ) (t : Bool) → root_places (cond t (record (with_used b h 0) { half = h }) (with_used b h 0)) ≡ root_places b
    by zero true = refl
    by zero false = refl
    by (suc h) true = refl
    by (suc h) false = refl

-- behind a root step there is nothing left to sweep
pub stepped-swept : (b : Books) → (swept_books (checkpointed_books b)).pages ≡ (checkpointed_books b).pages
stepped-swept b =
    let places = cleaned-places (standing_books b) in
    let pages = checkpointed-pages b in
    (λ i. swept (places i) (pages i)) ∙ swept-twice (root_places (rooted_books (trying_books b))) b.pages ∙ sym pages

-- and no fewer pages are free than before
pub stepped-free : (b c : Books) → c ≡ checkpointed_books b → count_by is_free b.pages ≤ count_by is_free c.pages
stepped-free b c is =
    let same : count_by is_free c.pages ≡ count_by is_free (swept (root_places (rooted_books (trying_books b))) b.pages) = ap (λ (x : Books). count_by is_free x.pages) is ∙ ap (count_by is_free) (checkpointed-pages b) in
    omega (arith, same, more-free (root_places (rooted_books (trying_books b))) b.pages)
