-- The bucket numbers of the books and those of a layout that has the pages of the front.
use Rattle.std.proofs.Common.{◌≡◌, ◌≢◌, ◌<◌, ◌≤◌, ◌⊎◌, inl, inr, ℕ, true, false, List, Option, Some, None, is_some, refl, sym, ap, ◌∙◌, arith, true≢false}
use Rattle.std.proofs.lemmas.Bool.{cases_lt, cases_eq}
use Rattle.grid_types.specs.declared.owner.Owner.TheVariants.{Bucket}
use Rattle.disk_trait.specs.declared.disk.Disk.{Ghosts}
use Rattle.grid_model.specs.Layouts.{BucketBox, Layout, box, unused}
use Rattle.grid_model.specs.Lists.{is_among}
use Rattle.grid_model.specs.Tables.{Table}
use Rattle.grid_model.proofs.LeastUnused.{least-unused}
use Rattle.history_pages.proofs.Numbers.{found-where}
use Rattle.query_paths.specs.Pinned.{IsPinnedTo}
use Rattle.file_books.specs.Books.{Books, OwnersHavePages, has_page, numbers_now}
use Rattle.file_state.specs.Unused.{IsLeastUnused}
use Rattle.file_state.proofs.Filters.{among_passing}
use Rattle.grid_file.specs.Files.{OpenFile}
use Rattle.grid_file.specs.Pages.{front_place}

-- a number is among those of the books exactly where a bucket of it has a page
pub among_books : (b : Books) → OwnersHavePages b → (n : ℕ) → is_among (numbers_now b) n ≡ has_page b (Bucket n)
among_books b owners n = among_passing (λ m. has_page b (Bucket m)) b.shape.pages n (owners.numbers n)

-- a number is among them exactly where there is a box of it
pub among_boxes : {K : ℕ} {D : Type 0} (g : Ghosts D) (f : OpenFile D) (L : Layout K) (t : Table) → IsPinnedTo (front_place g f) L t → (n : ℕ) → is_among (numbers_now f.books) n ≡ is_some (box L n)
among_boxes g f L t pin n = ap (λ (ns : List ℕ). is_among ns n) pin.numbers_are ∙ sym (found-where L.boxes n)

module _ {K : ℕ} {D : Type 0} (g : Ghosts D) (f : OpenFile D) (owners : OwnersHavePages f.books) (L : Layout K) (t : Table) (pin : IsPinnedTo (front_place g f) L t) where
  -- a bucket has a page exactly where there is a box of its number
  pub has_box : (n : ℕ) → has_page f.books (Bucket n) ≡ is_some (box L n)
  has_box n = sym (among_books f.books owners n) ∙ among_boxes g f L t pin n

  -- the least number that no bucket has is the least that no box has
  pub unused_is : (n : ℕ) → IsLeastUnused f.books n → n ≡ unused L
  unused_is n least = elim (cases_lt n (unused L)) [
    | inl low ↦ absurd (absent (box L n) (sym (has_box n) ∙ least.unused) (least-unused.least L n low))
    | inr high ↦ elim (cases_eq n (unused L)) [
      | inl e ↦ e
      | inr apart ↦
          let there : is_some (box L (unused L)) ≡ true = sym (has_box (unused L)) ∙ least.lower (unused L) (below apart high) in
          absurd (true≢false (sym there ∙ ap is_some (least-unused.none L)))
    ]
  ]
    where
      absent : (o : Option (BucketBox K)) → is_some o ≡ false → o ≢ None → ⊥
      absent None e not = not refl
      absent (Some x) e not = true≢false e

      below : n ≢ unused L → unused L ≤ n → unused L < n
      below apart high = by (cases_lt (unused L) n)
        where
          by : (unused L < n) ⊎ (n ≤ unused L) → unused L < n
          by (inl less) = less
          by (inr same) = absurd (apart (omega (arith, high, same)))
