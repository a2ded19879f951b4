-- A root step leaves a lone caller's state as the lone caller's root step does, with the sweep between.
use Rattle.std.proofs.Common.{◌≡◌, ◌==◌, ℕ, Bool, true, false, cond, refl, sym, ap, subst, ◌∙◌}
use Rattle.grid_model.specs.Lone.{State, root}
use Rattle.grid_model.specs.Roots.{WholeRoot}
use Rattle.layout_pages.specs.Steps.{gone_pages}
use Rattle.file_images.specs.Kept.{Kept}
use Rattle.file_images.specs.Leads.{Standing}
use Rattle.file_images.specs.Steps.{without_pages, with_turned, with_closed, with_root, with_shut}
use Rattle.file_books.specs.Books.{Books}
use Rattle.file_books.specs.Effects.{used_of, idle_half, closed_books, rooted_books, cleaned_books, swept_books, root_places}
use Rattle.file_standing.specs.Files.{IsFile, IsAlone}
use Rattle.file_standing.specs.Steps.{swept_kept, turned_kept, cleaned_kept, IsNextRoot}
use Rattle.file_standing.proofs.Books.{used-alike}
use Rattle.file_standing.proofs.PageSteps.{page-steps}
use Rattle.file_standing.proofs.RootAlone.{root-alone}
use Rattle.file_standing.proofs.RootSteps.{cleaned-file, cleaned_at, cleaned_with, cleaned-form}
use Rattle.checkpoints.specs.Checkpoints.{trying_books, checkpointed_books}
use Rattle.checkpoints.proofs.Points.{same-next, trying_kept, rooted_kept, checkpointed_kept, rooted-point}

-- a sweep and the clearing of a half may be exchanged
module _ {K : ℕ} (b : Books) (k : Kept K) (m : Standing K) where
  swap-books : swept_books (cleaned_books b) ≡ cleaned_books (swept_books b)
  swap-books =
      ap swept_books (cleaned-form b k m)
      ∙ ap (λ (n : ℕ). cleaned_at (swept_books b) k m (n == b.shape.slots)) (used-alike b (swept_books b) b.half refl refl)
      ∙ sym (cleaned-form (swept_books b) k m)

  swap-kept : swept_kept (cleaned_books b) (cleaned_kept b k) ≡ cleaned_kept (swept_books b) (swept_kept b k)
  swap-kept =
      ap (λ (c : Books). without_pages (cleaned_kept b k) (gone_pages (root_places c) c.pages)) (cleaned-form b k m)
      ∙ by (used_of b b.half == b.shape.slots)
      ∙ ap (λ (n : ℕ). cond (n == b.shape.slots) (with_turned (with_shut (swept_kept b k) (idle_half b))) (with_shut (swept_kept b k) (idle_half b))) (used-alike b (swept_books b) b.half refl refl)
    where
      by : (t : Bool) → without_pages (cleaned_with b k m t) (gone_pages (root_places b) b.pages) ≡ cond t (with_turned (with_shut (swept_kept b k) (idle_half b))) (with_shut (swept_kept b k) (idle_half b))
      by true = refl
      by false = refl

module _ {K : ℕ} (b : Books) (k : Kept K) (m : Standing K) (s : State K) (w : WholeRoot) (is : IsFile b k m) (alone : IsAlone b k m s) (next : IsNextRoot (closed_books b) w) where
  abbrev c : Books
  c = rooted_books (trying_books b)

  abbrev j : Kept K
  j = rooted_kept b k w

  turned-same : turned_kept b (with_closed k) ≡ trying_kept b k
  turned-same = ap (λ (n : ℕ). cond (n == 0) (with_turned (with_closed k)) (with_closed k)) (used-alike b (closed_books b) (idle_half b) refl refl)

  cleaned-alone : IsAlone (cleaned_books c) (cleaned_kept c j) m (root s)
  cleaned-alone =
      subst (λ (x : Kept K). IsAlone (cleaned_books c) (cleaned_kept c (with_root x w)) m (root s)) turned-same
      (root-alone b k m s w is alone (same-next (closed_books b) b w refl refl refl refl refl refl refl next))

  swept-alone : IsAlone (swept_books (cleaned_books c)) (swept_kept (cleaned_books c) (cleaned_kept c j)) m (root s)
  swept-alone = page-steps.sweep_alone (cleaned_books c) (cleaned_kept c j) m (root s) (cleaned-file c j m refl next.front (rooted-point b k m is w next)) cleaned-alone

  -- after the whole step
  pub checkpointed-alone : IsAlone (checkpointed_books b) (checkpointed_kept b k w) m (root s)
  checkpointed-alone =
      subst (λ (x : Books). IsAlone x (checkpointed_kept b k w) m (root s)) (swap-books c j m)
      (subst (λ (x : Kept K). IsAlone (swept_books (cleaned_books c)) x m (root s)) (swap-kept c j m) swept-alone)
