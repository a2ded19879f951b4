-- Loops over the cells of a part, one more each time.
use Rattle.std.proofs.Common.{◌≡◌, ◌≢◌, ◌<◌, ◌≤◌, ◌+◌, ◌*◌, ◌/◌, ◌%◌, ◌⊎◌, inl, inr, ℕ, List, min, length, slice_index, slice_set, Option, Some, None, refl, sym, ap, ◌∙◌, subst, arith}
use Rattle.std.specs.Prelude.{MatchOption}
use Rattle.std.proofs.lemmas.Bool.{cases_lt}
use Rattle.std.proofs.lemmas.List.{get_or-set_same, get_or-set_other}
use Rattle.grid_model.specs.Lists.{product}
use Rattle.grid_model.specs.Cells.{cell_index, image_of}
use Rattle.grid_model.specs.ScaleLaws.{IsCell}
use Rattle.grid_model.proofs.Filled.{below-more, step}
use Rattle.directory_pages.specs.Spelling.{bucket_in}
use Rattle.shadow_directory.specs.Images.{AreImages, IsNextNeeded, IsNoneNeeded}

-- what the least part of the first n indices is, if there is one
abbrev pub IsLeastNeeded : List ℕ → ℕ → ℕ → Option ℕ → Type 0
IsLeastNeeded images n from o = MatchOption o (IsNoneNeeded images n from) (IsNextNeeded images n from)

module _ (images : List ℕ) (k from : ℕ) where
  abbrev part : ℕ
  part = slice_index images k / 1000

  -- an index before the part that is sought
  passed : (next : Option ℕ) → slice_index images k / 1000 < from → IsLeastNeeded images k from next → IsLeastNeeded images (k + 1) from next
  passed None p h = λ j. below-more (λ i. slice_index images i / 1000 < from) k j (h j) p
  passed (Some best) p h = record {
    from_on = h.from_on;
    place = h.place;
    inside = omega (arith, h.inside);
    needed = h.needed;
    least = λ j. below-more (λ i. from ≤ slice_index images i / 1000 → best ≤ slice_index images i / 1000) k j (h.least j) (λ q. absurd (omega (arith, p, q)));
  }

  -- the first one
  first-needed : from ≤ slice_index images k / 1000 → IsNoneNeeded images k from → IsNextNeeded images (k + 1) from (slice_index images k / 1000)
  first-needed p h = record {
    from_on = p;
    place = k;
    inside = omega arith;
    needed = refl;
    least = λ j. below-more (λ i. from ≤ slice_index images i / 1000 → slice_index images k / 1000 ≤ slice_index images i / 1000) k j (λ q r. absurd (omega (arith, h j q, r))) (λ r. omega arith);
  }

  -- a lower one
  lower-needed : (best : ℕ) → from ≤ slice_index images k / 1000 → slice_index images k / 1000 < best → IsNextNeeded images k from best → IsNextNeeded images (k + 1) from (slice_index images k / 1000)
  lower-needed best p q h = record {
    from_on = p;
    place = k;
    inside = omega arith;
    needed = refl;
    least = λ j. below-more (λ i. from ≤ slice_index images i / 1000 → slice_index images k / 1000 ≤ slice_index images i / 1000) k j (λ r s. omega (arith, q, h.least j r s)) (λ r. omega arith);
  }

  -- none that is lower
  kept-needed : (best : ℕ) → best ≤ slice_index images k / 1000 → IsNextNeeded images k from best → IsNextNeeded images (k + 1) from best
  kept-needed best q h = record {
    from_on = h.from_on;
    place = h.place;
    inside = omega (arith, h.inside);
    needed = h.needed;
    least = λ j. below-more (λ i. from ≤ slice_index images i / 1000 → best ≤ slice_index images i / 1000) k j (h.least j) (λ r. q);
  }

  pub next-more : (next new : Option ℕ) → (slice_index images k / 1000 < from → new ≡ next)
      → (from ≤ slice_index images k / 1000 → MatchOption next (new ≡ Some (slice_index images k / 1000)) (λ best. new ≡ Some (min best (slice_index images k / 1000))))
      → IsLeastNeeded images k from next → IsLeastNeeded images (k + 1) from new
  next-more next new none some h = by (cases_lt (slice_index images k / 1000) from)
    where
      on : (next : Option ℕ) → MatchOption next (new ≡ Some (slice_index images k / 1000)) (λ best. new ≡ Some (min best (slice_index images k / 1000))) → IsLeastNeeded images k from next → from ≤ slice_index images k / 1000 → IsLeastNeeded images (k + 1) from new
      on None e h p = subst (IsLeastNeeded images (k + 1) from) (sym e) (first-needed p h)
      on (Some best) e h p = of (cases_lt (slice_index images k / 1000) best)
        where
          of : (slice_index images k / 1000 < best) ⊎ (best ≤ slice_index images k / 1000) → IsLeastNeeded images (k + 1) from new
          of (inl q) =
              let is : min best (slice_index images k / 1000) ≡ slice_index images k / 1000 = omega (arith, q) in
              subst (IsLeastNeeded images (k + 1) from) (sym (e ∙ ap Some is)) (lower-needed best p q h)
          of (inr q) =
              let is : min best (slice_index images k / 1000) ≡ best = omega (arith, q) in
              subst (IsLeastNeeded images (k + 1) from) (sym (e ∙ ap Some is)) (kept-needed best q h)

      by : (slice_index images k / 1000 < from) ⊎ (from ≤ slice_index images k / 1000) → IsLeastNeeded images (k + 1) from new
      by (inl p) = subst (IsLeastNeeded images (k + 1) from) (sym (none p)) (passed next p h)
      by (inr p) = on next (some p) h p

-- the buckets of the first k indices that lie on a part have been taken, and no other one
pub record TakenBelow (images : List ℕ) (part k : ℕ) (page first buckets : List ℕ) : Type 0 where
  pub long : length buckets ≡ 1000
  pub taken : (j : ℕ) → j < k → slice_index images j / 1000 ≡ part → slice_index buckets j ≡ bucket_in (slice_index images j % 1000) page
  pub others : (j : ℕ) → (slice_index images j / 1000 ≡ part → ⊥) → slice_index buckets j ≡ slice_index first j

pub taken-none : (images : List ℕ) (part : ℕ) (page first : List ℕ) → length first ≡ 1000 → TakenBelow images part 0 page first first
taken-none images part page first long = record { long = long; taken = λ j p. absurd (omega (arith, p)); others = λ j out. refl }

pub taken-passed : (images : List ℕ) (part k : ℕ) (page first buckets : List ℕ) → (slice_index images k / 1000 ≡ part → ⊥) → TakenBelow images part k page first buckets → TakenBelow images part (k + 1) page first buckets
taken-passed images part k page first buckets out h = record {
  long = h.long;
  taken = λ j. below-more (λ i. slice_index images i / 1000 ≡ part → slice_index buckets i ≡ bucket_in (slice_index images i % 1000) page) k j (h.taken j) (λ e. absurd (out e));
  others = h.others;
}

pub taken-more : (images : List ℕ) (part k : ℕ) (page first buckets : List ℕ) (x : ℕ) → k < 1000 → slice_index images k / 1000 ≡ part → x ≡ bucket_in (slice_index images k % 1000) page → length (slice_set buckets k x) ≡ 1000
    → TakenBelow images part k page first buckets → TakenBelow images part (k + 1) page first (slice_set buckets k x)
taken-more images part k page first buckets x lt on is long h = record {
  long = long;
  taken = λ j. below-more (λ i. slice_index images i / 1000 ≡ part → slice_index (slice_set buckets k x) i ≡ bucket_in (slice_index images i % 1000) page) k j
      (λ p e. let other : j ≢ k = omega (arith, p) in get_or-set_other buckets k j x 0 other ∙ h.taken j p e)
      (λ e. get_or-set_same buckets k x 0 (omega (arith, lt, h.long)) ∙ is);
  others = λ j out. let other : j ≢ k = λ e. out (ap (λ i. slice_index images i / 1000) e ∙ on) in get_or-set_other buckets k j x 0 other ∙ h.others j out;
}

-- one more cell has its image
pub images-more : (ns new : List ℕ) (a i part k : ℕ) (images : List ℕ) (x : ℕ) → k < length images → x < product ns → ((cell : List ℕ) → IsCell new cell → cell_index new cell ≡ 1000 * part + k → x ≡ cell_index ns (image_of cell a i))
    → AreImages ns new a i part k images → AreImages ns new a i part (k + 1) (slice_set images k x)
images-more ns new a i part k images x lt below is h = record {
  below = step (λ j y. y < product ns) images k x lt h.below below;
  each = λ j cell p. step (λ m y. IsCell new cell → cell_index new cell ≡ 1000 * part + m → y ≡ cell_index ns (image_of cell a i)) images k x lt (λ m q. h.each m cell q) (is cell) j p;
}
