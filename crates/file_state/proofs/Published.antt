-- Whose each page is after a change is published.
use Rattle.std.proofs.Common.{◌≡◌, ◌⊎◌, inl, inr, ℕ, ◌+◌, ◌<◌, ◌≤◌, List, [], ◌∷◌, Bool, true, false, ◌||◌, cond, Option, Some, refl, sym, ◌∙◌, ap, subst, map, filter, length, max, min, arith, true≢false}
use Rattle.std.specs.Prelude.{◌≢◌, ◌==◌, is_some}
use Rattle.std.specs.List.{list_any, count_by}
use Rattle.std.proofs.lemmas.Bool.{cases_eq, cases_lt, eq-eqb, ne_eqb, eqb-true}
use Rattle.std.proofs.lemmas.List.Folds.{list_any-append}
use Rattle.grid_types.specs.declared.owner.Owner.{Owner}
use Rattle.grid_types.specs.declared.owner.Owner.TheVariants.{Bucket, Part}
use Rattle.grid_types.specs.declared.layout_change.Cut.{Cut}
use Rattle.grid_types.specs.declared.layout_change.LayoutChange.{LayoutChange}
use Rattle.grid_types.specs.declared.layout_change.LayoutChange.TheVariants as note
use Rattle.grid_types.specs.Owners.{same_owner}
use Rattle.grid_model.specs.Lists.{below, is_among}
use Rattle.grid_model.proofs.Counts.{swap-eq}
use Rattle.grid_model.proofs.Truths.{or-left, or-right}
use Rattle.page_states.specs.declared.page_state.PageState.{PageState}
use Rattle.page_states.specs.States.{shows}
use Rattle.page_states.specs.Laws.{Serves, Settled, with_content}
use Rattle.page_states.specs.Changes.{Publication, pages_of, changed, with_pages, without_owners, ArePublishable}
use Rattle.page_states.proofs.WholeChanges.{change_serves, change_settles}
use Rattle.layout_pages.specs.Steps.{publications, buckets_renewed, owners_renewed, owners_vanishing}
use Rattle.file_books.specs.Books.{Books, has_page, OwnersHavePages}
use Rattle.file_books.specs.Effects.{buckets_after}
use Rattle.file_state.specs.Publishings.{unused_after}
use Rattle.file_state.specs.Memories.{AreUsedBelow}
use Rattle.file_state.proofs.Shown.{content_at, no_bytes, serves_shown, few_shown, shown_is, some_content}
use Rattle.file_state.proofs.Filters.{count_alike, count_added, count_some}

or_moved : (a b c : Bool) → ((a || b) || c) ≡ (b || (a || c))
or_moved true true c = refl
or_moved true false c = refl
or_moved false b c = refl

or_false : (a : Bool) → (a || false) ≡ a
or_false true = refl
or_false false = refl

pub or_known : (a b : Bool) → (b ≡ true → a ≡ true) → (a || b) ≡ a
or_known true b known = refl
or_known false true known = absurd (true≢false (sym (known refl)))
or_known false false known = refl

some_of : (t : Bool) (bytes : List ℕ) (c : Option (List ℕ)) → is_some (cond t (Some bytes) c) ≡ (t || is_some c)
some_of true bytes c = refl
some_of false bytes c = refl

-- owners of publications have a content, and those that had one before
some_published : (content : Owner → Option (List ℕ)) (bytes : ℕ → List ℕ) (o : Owner) (os : List Owner) (ps : List ℕ) → length ps ≡ length os
    → is_some (with_pages content bytes (publications os ps) o) ≡ (is_some (content o) || list_any (same_owner o) os)
some_published content bytes o [] ps count = sym (or_false (is_some (content o)))
some_published content bytes o (w ∷ os) [] count = absurd (omega (arith, count))
some_published content bytes o (w ∷ os) (p ∷ ps) count =
    some_published (with_content content w (Some (bytes p))) bytes o os ps (omega (arith, count))
    ∙ ap (λ (t : Bool). t || list_any (same_owner o) os) (some_of (same_owner o w) (bytes p) (content o))
    ∙ or_moved (same_owner o w) (is_some (content o)) (list_any (same_owner o) os)

pub pages_published : (os : List Owner) (ps : List ℕ) → length ps ≡ length os → pages_of (publications os ps) ≡ ps
pages_published [] [] count = refl
pages_published [] (p ∷ ps) count = absurd (omega (arith, count))
pages_published (w ∷ os) [] count = absurd (omega (arith, count))
pages_published (w ∷ os) (p ∷ ps) count = ap (λ (qs : List ℕ). p ∷ qs) (pages_published os ps (omega (arith, count)))

-- owners among buckets and parts
bucket_among : (m : ℕ) (ns : List ℕ) → list_any (same_owner (Bucket m)) (map Bucket ns) ≡ is_among ns m
bucket_among m [] = refl
bucket_among m (n ∷ ns) = λ i. swap-eq m n i || bucket_among m ns i

part_among : (m : ℕ) (ns : List ℕ) → list_any (same_owner (Part m)) (map Part ns) ≡ is_among ns m
part_among m [] = refl
part_among m (n ∷ ns) = λ i. swap-eq m n i || part_among m ns i

no_bucket : (m : ℕ) (ns : List ℕ) → list_any (same_owner (Part m)) (map Bucket ns) ≡ false
no_bucket m [] = refl
no_bucket m (n ∷ ns) = no_bucket m ns

no_part : (m : ℕ) (ns : List ℕ) → list_any (same_owner (Bucket m)) (map Part ns) ≡ false
no_part m [] = refl
no_part m (n ∷ ns) = no_part m ns

-- a number is none of one, or of two
among_one : (k m : ℕ) → is_among (k ∷ []) m ≡ true → m ≡ k
among_one k m e = sym (eqb-true k m (sym (or_false (k == m)) ∙ e))

among_two : (k r m : ℕ) → is_among (k ∷ r ∷ []) m ≡ true → (m ≡ k) ⊎ (m ≡ r)
among_two k r m e = by (k == m) refl e
  where
    by : (t : Bool) → (k == m) ≡ t → (t || ((r == m) || false)) ≡ true → (m ≡ k) ⊎ (m ≡ r)
    by true is f = inl (sym (eqb-true k m is))
    by false is f = inr (among_one r m f)

module _ (b : Books) (owners : OwnersHavePages b) (k : ℕ) (n : LayoutChange) (ps pages : List ℕ) (claimed : ArePublishable pages b.pages) (count : length pages ≡ length (owners_renewed k n ps)) where
  abbrev xs : List Publication
  xs = publications (owners_renewed k n ps) pages

  abbrev content : Owner → Option (List ℕ)
  content = content_at b.front b.pages

  abbrev pub after : List PageState
  after = changed (b.front + 1) xs (owners_vanishing k n) b.pages

  abbrev content_after : Owner → Option (List ℕ)
  content_after = without_owners (with_pages content no_bytes xs) (owners_vanishing k n)

  served : Serves content_after no_bytes (b.front + 1) after
  served = change_serves content no_bytes b.front (b.front + 1) xs (owners_vanishing k n) b.pages (omega arith)
      (subst (λ (qs : List ℕ). ArePublishable qs b.pages) (sym (pages_published (owners_renewed k n ps) pages count)) claimed)
      owners.settled (serves_shown b.front b.pages owners.one)

  pub settled_after : Settled (b.front + 1) after
  settled_after = change_settles b.front (b.front + 1) xs (owners_vanishing k n) b.pages (omega arith) owners.settled

  pub one_after : (o : Owner) → count_by (shows o (b.front + 1)) after ≤ 1
  one_after = few_shown content_after no_bytes (b.front + 1) after served

  published : (o : Owner) → is_some (with_pages content no_bytes xs o) ≡ (has_page b o || list_any (same_owner o) (owners_renewed k n ps))
  published o = some_published content no_bytes o (owners_renewed k n ps) pages count ∙ ap (λ (t : Bool). t || list_any (same_owner o) (owners_renewed k n ps)) (some_content (has_page b o))

  renewed_bucket : (m : ℕ) → list_any (same_owner (Bucket m)) (owners_renewed k n ps) ≡ is_among (buckets_renewed k n) m
  renewed_bucket m =
      list_any-append (same_owner (Bucket m)) (map Bucket (buckets_renewed k n)) (map Part ps)
      ∙ (λ i. bucket_among m (buckets_renewed k n) i || no_part m ps i) ∙ or_false (is_among (buckets_renewed k n) m)

  renewed_part : (p : ℕ) → list_any (same_owner (Part p)) (owners_renewed k n ps) ≡ is_among ps p
  renewed_part p =
      list_any-append (same_owner (Part p)) (map Bucket (buckets_renewed k n)) (map Part ps)
      ∙ (λ i. no_bucket p (buckets_renewed k n) i || part_among p ps i)

  -- a bucket has a page then where it had one or got one, and did not vanish
  pub bucket_after : (m : ℕ) → list_any (shows (Bucket m) (b.front + 1)) after ≡ is_some (without_owners (with_pages content no_bytes xs) (owners_vanishing k n) (Bucket m))
  bucket_after m = shown_is content_after no_bytes (b.front + 1) after served (Bucket m)

  pub bucket_published : (m : ℕ) → is_some (with_pages content no_bytes xs (Bucket m)) ≡ (has_page b (Bucket m) || is_among (buckets_renewed k n) m)
  bucket_published m = published (Bucket m) ∙ ap (λ (t : Bool). has_page b (Bucket m) || t) (renewed_bucket m)

  pub part_after : (p : ℕ) → is_some (content_after (Part p)) ≡ is_some (with_pages content no_bytes xs (Part p)) → list_any (shows (Part p) (b.front + 1)) after ≡ (has_page b (Part p) || is_among ps p)
  part_after p same = shown_is content_after no_bytes (b.front + 1) after served (Part p) ∙ same ∙ published (Part p) ∙ ap (λ (t : Bool). has_page b (Part p) || t) (renewed_part p)

-- parts do not vanish
pub no_part_vanishes : (c : Owner → Option (List ℕ)) (k : ℕ) (n : LayoutChange) (p : ℕ) → is_some (without_owners c (owners_vanishing k n) (Part p)) ≡ is_some (c (Part p))
no_part_vanishes c k note.Plain p = refl
no_part_vanishes c k (note.Cut d right) p = refl
no_part_vanishes c k (note.Merge m) p = refl

-- what a change leaves of buckets: which have a page, and how many
pub record BucketsAfter (b : Books) (has : ℕ → Bool) (k : ℕ) (n : LayoutChange) : Type 0 where
  pub numbers : (m : ℕ) → has m ≡ true → m < b.shape.pages
  pub count : buckets_after b.buckets n ≡ length (filter has (below b.shape.pages))
  pub some : 1 ≤ buckets_after b.buckets n
  pub used : (from : ℕ) → AreUsedBelow b from → (m : ℕ) → m < unused_after from k n → has m ≡ true

module _ (b : Books) (owners : OwnersHavePages b) (k : ℕ) (with_page : has_page b (Bucket k) ≡ true) (enough : 1 ≤ b.buckets) (has : ℕ → Bool) where
  here : ℕ → Bool
  here m = has_page b (Bucket m)

  known : (m : ℕ) → m ≡ k → has_page b (Bucket m) ≡ true
  known m e = ap (λ (j : ℕ). has_page b (Bucket j)) e ∙ with_page

  pub plain : ((m : ℕ) → has m ≡ (has_page b (Bucket m) || is_among (k ∷ []) m)) → BucketsAfter b has k note.Plain
  plain is =
      let same : (m : ℕ) → has m ≡ has_page b (Bucket m) = λ m. is m ∙ or_known (has_page b (Bucket m)) (is_among (k ∷ []) m) (λ e. known m (among_one k m e)) in
      record {
        numbers = λ m e. owners.numbers m (sym (same m) ∙ e);
        count = owners.buckets ∙ sym (count_alike has (λ m. has_page b (Bucket m)) b.shape.pages (λ m low. same m));
        some = enough;
        used = λ from used m low. same m ∙ used m low;
      }

  module _ (c : Cut) (right : ℕ) (low : right < b.shape.pages) (none : has_page b (Bucket right) ≡ false) (is : (m : ℕ) → has m ≡ (has_page b (Bucket m) || is_among (k ∷ right ∷ []) m)) where
    at_right : has right ≡ true
    at_right = is right ∙ or-right (has_page b (Bucket right)) (is_among (k ∷ right ∷ []) right) (or-right (k == right) ((right == right) || false) (or-left (right == right) false (eq-eqb right right refl)))

    others : (m : ℕ) → m ≢ right → has m ≡ has_page b (Bucket m)
    others m apart = is m ∙ or_known (has_page b (Bucket m)) (is_among (k ∷ right ∷ []) m) (λ e. elim (among_two k right m e) [
      | inl same ↦ known m same
      | inr same ↦ absurd (apart same)
    ])

    pub cut : BucketsAfter b has k (note.Cut c right)
    cut = record {
      numbers = λ m e. elim (cases_eq m right) [
        | inl same ↦ omega (arith, low, same)
        | inr apart ↦ owners.numbers m (sym (others m apart) ∙ e)
      ];
      count =
          let more : length (filter has (below b.shape.pages)) ≡ length (filter (λ m. has_page b (Bucket m)) (below b.shape.pages)) + 1 = count_added (λ m. has_page b (Bucket m)) has right b.shape.pages low none at_right others in
          let before : b.buckets ≡ length (filter (λ m. has_page b (Bucket m)) (below b.shape.pages)) = owners.buckets in
          omega (arith, more, before);
      some = omega arith;
      used = λ from used m less. elim (cases_eq m right) [
        | inl same ↦ ap has same ∙ at_right
        | inr apart ↦ others m apart ∙ used m (lower from m less apart)
      ];
    }
      where
        lower : (from m : ℕ) → m < cond (right == from) (from + 1) from → m ≢ right → m < from
        lower from m less apart = by (right == from) refl less
          where
            by : (t : Bool) → (right == from) ≡ t → m < cond t (from + 1) from → m < from
            by true e f = let same : right ≡ from = eqb-true right from e in omega (arith, f, apart, same)
            by false e f = f

  module _ (w : ℕ) (apart : w ≢ k) (other : has_page b (Bucket w) ≡ true) (is : (m : ℕ) → has m ≡ cond (m == max k w) false (has_page b (Bucket m) || is_among (min k w ∷ []) m)) where
    known_max : has_page b (Bucket (max k w)) ≡ true
    known_max = elim (cases_lt w k) [
      | inl lt ↦ let is_k : max k w ≡ k = omega (arith, lt) in ap (λ (j : ℕ). has_page b (Bucket j)) is_k ∙ with_page
      | inr le ↦ let is_w : max k w ≡ w = omega (arith, le) in ap (λ (j : ℕ). has_page b (Bucket j)) is_w ∙ other
    ]

    known_min : has_page b (Bucket (min k w)) ≡ true
    known_min = elim (cases_lt w k) [
      | inl lt ↦ let is_w : min k w ≡ w = omega (arith, lt) in ap (λ (j : ℕ). has_page b (Bucket j)) is_w ∙ other
      | inr le ↦ let is_k : min k w ≡ k = omega (arith, le) in ap (λ (j : ℕ). has_page b (Bucket j)) is_k ∙ with_page
    ]

    gone : has (max k w) ≡ false
    gone = is (max k w) ∙ ap (λ (t : Bool). cond t false (has_page b (Bucket (max k w)) || is_among (min k w ∷ []) (max k w))) (eq-eqb (max k w) (max k w) refl)

    others_kept : (m : ℕ) → m ≢ max k w → has m ≡ has_page b (Bucket m)
    others_kept m distinct =
        is m ∙ ap (λ (t : Bool). cond t false (has_page b (Bucket m) || is_among (min k w ∷ []) m)) (ne_eqb m (max k w) distinct)
        ∙ or_known (has_page b (Bucket m)) (is_among (min k w ∷ []) m) (λ e. ap (λ (j : ℕ). has_page b (Bucket j)) (among_one (min k w) m e) ∙ known_min)

    fewer : length (filter (λ m. has_page b (Bucket m)) (below b.shape.pages)) ≡ length (filter has (below b.shape.pages)) + 1
    fewer = count_added has (λ m. has_page b (Bucket m)) (max k w) b.shape.pages (owners.numbers (max k w) known_max) gone known_max (λ m distinct. sym (others_kept m distinct))

    left : 1 ≤ length (filter has (below b.shape.pages))
    left =
        let distinct : min k w ≢ max k w = λ e. apart (omega (arith, e)) in
        count_some has (min k w) b.shape.pages (owners.numbers (min k w) known_min) (others_kept (min k w) distinct ∙ known_min)

    pub merge : BucketsAfter b has k (note.Merge w)
    merge =
        let before : b.buckets ≡ length (filter (λ m. has_page b (Bucket m)) (below b.shape.pages)) = owners.buckets in
        record {
          numbers = λ m e. elim (cases_eq m (max k w)) [
            | inl same ↦ absurd (true≢false (sym e ∙ ap has same ∙ gone))
            | inr distinct ↦ owners.numbers m (sym (others_kept m distinct) ∙ e)
          ];
          count = omega (arith, fewer, before);
          some = omega (arith, fewer, before, left);
          used = λ from used m less. others_kept m (λ e. omega (arith, less, e)) ∙ used m (omega (arith, less));
        }
