-- Where roots, used slots and the current half change, the books hold what they held, and a root follows where it leads.
use Rattle.std.proofs.Common.{◌≡◌, ◌<◌, inl, inr, ℕ, List, map, Option, Some, None, sym, ap, subst, ◌∙◌, arith}
use Rattle.std.specs.Prelude.{slice_get}
use Rattle.std.proofs.lemmas.Bool.{cases_eq}
use Rattle.grid_model.specs.Roots.{WholeRoot}
use Rattle.grid_model.specs.Spellings.{LoggedBatch}
use Rattle.grid_model.proofs.Boxes.{some-not-none}
use Rattle.file_images.specs.Kept.{PlacedBatch, OtherHeader, ShutHeader, LooseHeader, Kept, IsTried, MayBeNewest, on_half}
use Rattle.file_images.specs.Leads.{Standing, Lineage, LeadsAlong}
use Rattle.file_images.specs.LeadingLaws.{IsBehind}
use Rattle.file_images.specs.Steps.{first_by, second_by, loosened, none_used}
use Rattle.file_images.proofs.Clearing.{by_here, by_other, from_loose}
use Rattle.file_books.specs.Books.{Books}
use Rattle.file_standing.specs.Files.{NoneAhead, Follows, BooksHold}

-- books with another newest root, one that is tried, another current half and other used slots
abbrev pub moved_books : Books → (number rooted : ℕ) → Option ℕ → (half first second : ℕ) → Books
moved_books b number rooted trying half first second = record b { number = number; rooted_at = rooted; trying_at = trying; half = half; first_used = first; second_used = second }

-- what is kept with other roots, other batches on slots, and another current half
abbrev pub moved_kept : {K : ℕ} → Kept K → WholeRoot → OtherHeader → List (PlacedBatch K) → List (PlacedBatch K) → ℕ → Kept K
moved_kept k root other one two half = record k { root = root; other = other; first = one; second = two; half = half }

module _ {K : ℕ} (b : Books) (k : Kept K) (m : Standing K) (number rooted : ℕ) (trying : Option ℕ) (half first second : ℕ) (root : WholeRoot) (other : OtherHeader) (one two : List (PlacedBatch K)) (now : ℕ) where
  abbrev c : Books
  c = moved_books b number rooted trying half first second

  abbrev j : Kept K
  j = moved_kept k root other one two now

  pub moved-hold : BooksHold b k m → BooksHold c j m
  moved-hold hold = record {
    place = hold.place;
    scales = hold.scales;
    records = hold.records;
    buckets = hold.buckets;
    stands = hold.stands;
    size = hold.size;
    holds = hold.holds;
    fresh = hold.fresh;
  }

  pub moved-follows : (w : WholeRoot) (x : Lineage K) → LeadsAlong j w m x → (w.fields.session ≡ b.session → NoneAhead j w m.place) → Follows b k m w x → Follows c j m w x
  moved-follows w x along none f = record { along = along; names = f.names; counts = f.counts; before = f.before; session = f.session; none = none }

-- where the other header page is closed, no root was tried on it
pub none-tried : {A : Type 0} (other : OtherHeader) (w : WholeRoot) → other ≡ ShutHeader → IsTried other w → A
none-tried other w shut on = absurd (subst (λ (o : OtherHeader). IsTried o w) shut on)

-- nor where it is loose and none was tried
pub only-root : {K : ℕ} (k : Kept K) (w : WholeRoot) → k.other ≡ LooseHeader None → MayBeNewest k w → w ≡ k.root
only-root k w loose (inl is) = is
only-root k w loose (inr on) = absurd (some-not-none w (sym (subst (λ (o : OtherHeader). IsTried o w) loose on)))

-- where a half has the batches of before, or none of them, none begins beyond the place as before
module _ {K : ℕ} (k : Kept K) (h : ℕ) (two : h < 2) (w : WholeRoot) (place : ℕ) (none : NoneAhead k w place) where
  half-none : (f : List (PlacedBatch K) → List (PlacedBatch K)) → ((i : ℕ) (p : PlacedBatch K) → slice_get (f (on_half k h)) i ≡ Some p → (q : PlacedBatch K) × (slice_get (on_half k h) i ≡ Some q) × (p.batch ≡ q.batch))
      → NoneAhead (record k { first = first_by h f k.first; second = second_by h f k.second }) w place
  half-none f from n i p less at mine = elim (cases_eq n h) [
    | inl e ↦
        let q = from i p (subst (λ (xs : List (PlacedBatch K)). slice_get xs i ≡ Some p) (by_here f k.first k.second h) (subst (λ (z : ℕ). slice_get (on_half (record k { first = first_by h f k.first; second = second_by h f k.second }) z) i ≡ Some p) e at)) in
        omega (arith, none h i q.0 two q.1 (ap (λ (b : LoggedBatch K). b.session) (sym q.2) ∙ mine), ap (λ (b : LoggedBatch K). b.first) q.2)
    | inr off ↦ none n i p less (subst (λ (xs : List (PlacedBatch K)). slice_get xs i ≡ Some p) (by_other f k.first k.second h n two less off) at) mine
  ]

  pub loose-none : NoneAhead (record k { first = first_by h (map loosened) k.first; second = second_by h (map loosened) k.second }) w place
  loose-none = half-none (map loosened) (λ i p at. let q = from_loose (on_half k h) i p at in (q.0, q.1, ap (λ (y : PlacedBatch K). y.batch) q.2))

  pub clear-none : NoneAhead (record k { first = first_by h none_used k.first; second = second_by h none_used k.second }) w place
  clear-none = half-none none_used (λ i p at. absurd (some-not-none p (sym at)))

-- a root at the place has all batches of a half behind it
pub all-behind : {K : ℕ} (k : Kept K) (h place : ℕ) (w : WholeRoot) → h < 2 → w.fields.front ≡ place → NoneAhead k w place → IsBehind k w h
all-behind k h place w two front none i p at mine = omega (arith, none h i p two at mine, front)
