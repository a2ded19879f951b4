-- The batch of one update, and the place at which it is committed.
use Rattle.std.proofs.Common.{◌≡◌, ◌<◌, ◌+◌, ◌^◌, ◌∙◌, ℕ, zero, suc, [], ◌∷◌, arith}
use Rattle.std.specs.Prelude.{All}
use Rattle.grid_types.specs.declared.layout_change.LayoutChange.{LayoutChange}
use Rattle.grid_types.specs.declared.shape.Shape.{Shape}
use Rattle.grid_types.specs.declared.update.Update.{Update}
use Rattle.grid_model.specs.Lawful.{IsLoggedUpdate, IsBatch}
use Rattle.grid_model.specs.Spellings.{LoggedBatch}
use Rattle.file_books.specs.Books.{Books, AreBooksOf}
use Rattle.file_standing.specs.Steps.{batch_of_one}
use Rattle.commits.specs.Commits.{logged}

-- what the only element of a list has, each has
each-only : {X : Type 0} (P : X → Type 0) (x : X) → P x → All P (x ∷ [])
each-only P x is zero d low = is
each-only P x is (suc i) d low = absurd (omega (arith, low))

-- the batch of a logged update is lawful, where there are places for a whole one
pub one-lawful : {K : ℕ} (b : Books) (u : Update K) (n : LayoutChange) → AreBooksOf K b → b.front + 16 < 2 ^ 63 → IsLoggedUpdate (logged u n) → IsBatch (batch_of_one b u n)
one-lawful b u n books place lawful = record {
  some = omega arith;
  few = omega arith;
  session = omega (arith, books.ranges.session);
  first = omega arith;
  last = omega (arith, place);
  updates = each-only IsLoggedUpdate (logged u n) lawful;
}

-- a batch with the session of books and the next place, and this update alone, is that one
pub one-same : {K : ℕ} (b : Books) (u : Update K) (n : LayoutChange) (d : LoggedBatch K) (session front : ℕ) → d ≡ record { session = session; first = front + 1; updates = logged u n ∷ [] } → session ≡ b.session → front ≡ b.front → d ≡ batch_of_one b u n
one-same b u n d session front filled own here = filled ∙ (λ i. record { session = own i; first = here i + 1; updates = logged u n ∷ [] })

-- with the shape and the half of the books it is committed where these say
pub placed-as : {K : ℕ} (b : Books) (u : Update K) (n : LayoutChange) (s : Shape) (h : ℕ) (d : LoggedBatch K) → s ≡ b.shape → h ≡ b.half → d ≡ batch_of_one b u n → ◌≡◌ {A = Shape × ℕ × LoggedBatch K} (s, h, d) (b.shape, b.half, batch_of_one b u n)
placed-as b u n s h d shape half same = λ i. (shape i, half i, same i)
