-- Owners in the order in which they are written, and how often each is listed.
use Rattle.std.proofs.Common.{◌≡◌, ℕ, ◌+◌, ◌≤◌, ◌==◌, List, [], ◌∷◌, false, cond, refl, sym, ◌∙◌, ap, map, length, nat_lt, arith}
use Rattle.std.specs.List.{count_by, list_any}
use Rattle.std.proofs.lemmas.List.{length-append, length-map}
use Rattle.std.proofs.lemmas.List.Sums.{sum_by-cons, sum_by-append, length-filter}
use Rattle.grid_types.specs.declared.owner.Owner.{Owner}
use Rattle.grid_types.specs.declared.owner.Owner.TheVariants.{Bucket, Part}
use Rattle.grid_types.specs.Owners.{same_owner}
use Rattle.grid_model.specs.Lists.{AreDistinct}
use Rattle.grid_model.specs.Lone.{Owners, how_many}
use Rattle.grid_model.proofs.Counts.{swap-eq}
use Rattle.history_pages.specs.NewPages.{in_order}
use Rattle.history_pages.specs.OwnerPages.{has_owner}
use Rattle.page_states.specs.Counts.{once}
use Rattle.kept_pages.proofs.Tallies.{any-counts, at-most-one}

-- there are as many in order as there are
pub in-order-length : (these : Owners) → length (in_order these) ≡ how_many these
in-order-length these = length-append (map Bucket these.buckets) (map Part these.parts) ∙ (λ i. length-map these.buckets Bucket i + length-map these.parts Part i)

-- a list of owners that are made of numbers has an owner as often as the numbers have its number
numbered : (make : ℕ → Owner) (o : Owner) (n : ℕ) → ((m : ℕ) → same_owner o (make m) ≡ (n == m)) → (ms : List ℕ) → count_by (same_owner o) (map make ms) ≡ count_by (λ m. m == n) ms
numbered make o n same [] = refl
numbered make o n same (m ∷ ms) = sum_by-cons (once (same_owner o)) (make m) (map make ms) ∙ (λ i. cond {A = ℕ} (first i) 1 0 + numbered make o n same ms i) ∙ sym (sum_by-cons (once (λ (k : ℕ). k == n)) m ms)
  where
    first : same_owner o (make m) ≡ (m == n)
    first = same m ∙ swap-eq n m

-- and none of those of the other kind
other-kind : (make : ℕ → Owner) (o : Owner) → ((m : ℕ) → same_owner o (make m) ≡ false) → (ms : List ℕ) → count_by (same_owner o) (map make ms) ≡ 0
other-kind make o other [] = refl
other-kind make o other (m ∷ ms) = sum_by-cons (once (same_owner o)) (make m) (map make ms) ∙ (λ i. cond {A = ℕ} (other m i) 1 0 + other-kind make o other ms i)

-- an owner stands in order as often as its number stands in the list of its kind
bucket-times : (these : Owners) (n : ℕ) → count_by (same_owner (Bucket n)) (in_order these) ≡ count_by (λ m. m == n) these.buckets
bucket-times these n =
    let both : count_by (same_owner (Bucket n)) (in_order these) ≡ count_by (same_owner (Bucket n)) (map Bucket these.buckets) + count_by (same_owner (Bucket n)) (map Part these.parts) = sum_by-append (once (same_owner (Bucket n))) (map Bucket these.buckets) (map Part these.parts) in
    let own : count_by (same_owner (Bucket n)) (map Bucket these.buckets) ≡ count_by (λ m. m == n) these.buckets = numbered Bucket (Bucket n) n (λ m. refl) these.buckets in
    let none : count_by (same_owner (Bucket n)) (map Part these.parts) ≡ 0 = other-kind Part (Bucket n) (λ m. refl) these.parts in
    omega (arith, both, own, none)

part-times : (these : Owners) (n : ℕ) → count_by (same_owner (Part n)) (in_order these) ≡ count_by (λ m. m == n) these.parts
part-times these n =
    let both : count_by (same_owner (Part n)) (in_order these) ≡ count_by (same_owner (Part n)) (map Bucket these.buckets) + count_by (same_owner (Part n)) (map Part these.parts) = sum_by-append (once (same_owner (Part n))) (map Bucket these.buckets) (map Part these.parts) in
    let own : count_by (same_owner (Part n)) (map Part these.parts) ≡ count_by (λ m. m == n) these.parts = numbered Part (Part n) n (λ m. refl) these.parts in
    let none : count_by (same_owner (Part n)) (map Bucket these.buckets) ≡ 0 = other-kind Bucket (Part n) (λ m. refl) these.buckets in
    omega (arith, both, own, none)

-- an owner is listed exactly where it is one of these
pub in-order-has : (these : Owners) (o : Owner) → list_any (same_owner o) (in_order these) ≡ has_owner these o
in-order-has these (Bucket n) = any-counts (same_owner (Bucket n)) (in_order these) ∙ ap (nat_lt 0) (bucket-times these n) ∙ sym (any-counts (λ (m : ℕ). m == n) these.buckets)
in-order-has these (Part n) = any-counts (same_owner (Part n)) (in_order these) ∙ ap (nat_lt 0) (part-times these n) ∙ sym (any-counts (λ (m : ℕ). m == n) these.parts)

-- numbers that stand once each have one of them at most once
few-times : (ns : List ℕ) (n : ℕ) → AreDistinct ns → count_by (λ m. m == n) ns ≤ 1
few-times ns n distinct = omega (arith, length-filter (λ (m : ℕ). m == n) ns, distinct n)

-- owners that stand once each are listed once each
pub listed-once : (these : Owners) → AreDistinct these.buckets → AreDistinct these.parts → (o : Owner) → count_by (same_owner o) (in_order these) ≡ cond (has_owner these o) 1 0
listed-once these buckets parts (Bucket n) = at-most-one (count_by (same_owner (Bucket n)) (in_order these)) (has_owner these (Bucket n)) (omega (arith, bucket-times these n, few-times these.buckets n buckets))
    (sym (in-order-has these (Bucket n)) ∙ any-counts (same_owner (Bucket n)) (in_order these))
listed-once these buckets parts (Part n) = at-most-one (count_by (same_owner (Part n)) (in_order these)) (has_owner these (Part n)) (omega (arith, part-times these n, few-times these.parts n parts))
    (sym (in-order-has these (Part n)) ∙ any-counts (same_owner (Part n)) (in_order these))
