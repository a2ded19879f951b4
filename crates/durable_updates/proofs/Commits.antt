-- A plan that was committed, or whose batch is in doubt.
use Rattle.std.proofs.Common.{◌≡◌, ◌+◌, ◌<◌, ◌⊎◌, inl, inr, ℕ, List, length, Ok, Err, refl, ap, ◌∙◌, arith}
use Rattle.std.specs.List.{count_by}
use Rattle.std.proofs.lemmas.Bool.{cases_lt}
use Rattle.grid_types.specs.declared.layout_change.LayoutChange.{LayoutChange}
use Rattle.grid_types.specs.declared.refusal.Refusal.TheVariants.{Unsure}
use Rattle.grid_types.specs.declared.update.Update.{Update}
use Rattle.disk_trait.specs.declared.disk.Disk.{Ghosts}
use Rattle.disk_trait.specs.Causes.{Rose}
use Rattle.disk_trait.proofs.Moments.{weakened}
use Rattle.grid_model.specs.Layouts.{BucketBox}
use Rattle.page_states.specs.declared.page_state.PageState.{PageState}
use Rattle.page_states.specs.States.{is_claimed}
use Rattle.file_images.specs.Leads.{Standing, behind}
use Rattle.file_books.specs.Books.{Books}
use Rattle.file_books.specs.Effects.{Publishing, IsPublishable, committed_books, published_books, used_of, with_used}
use Rattle.file_redo.proofs.Claims.{claims-count}
use Rattle.file_standing.specs.Open.{IsOpenInSession}
use Rattle.file_standing.specs.Steps.{batch_of_one}
use Rattle.file_standing.proofs.Books.{used-form}
use Rattle.commits.specs.Commits.{IsDoubtful, StandsOrMoved, StaysOrMoves}
use Rattle.grid_file.specs.Files.{OpenFile, opened_file}
use Rattle.client_sessions.specs.Points.{StandsAt, after_update}
use Rattle.durable_updates.specs.Answers.{GoesOn}
use Rattle.durable_updates.specs.Carried.{IsCarried, settled_at, doubted_at}

module _ {K : ℕ} {D : Type 0} (g : Ghosts D) (b : Books) (m : Standing K) (e : ℕ × BucketBox K) (u : Update K) (n : LayoutChange) (old new : D) (moves : StaysOrMoves g m (batch_of_one b u n) old new) where
  abbrev Moved : List ℕ → Type 0
  Moved c = StandsOrMoved m (batch_of_one b u n) c

  -- once it is committed the file is open behind it
  pub committed_carried : (now : Books) → IsOpenInSession g now (behind m (batch_of_one b u n)) new → IsCarried {T = Unit} g m e u n (Ok tt) old now new
  committed_carried now there = record {
    point = settled_at (after_update m u n);
    leads = refl;
    stands = there;
    moments = λ told. weakened g.moment g.left_since old new Moved (λ c. StandsAt (settled_at m) c ⊎ StandsAt (settled_at (after_update m u n)) c) (moves told) (λ c has. elim has [
      | inl here ↦ inl (inl here)
      | inr moved ↦ inr (inl moved)
    ]);
  }

  -- where its batch failed the file is open before it, and in doubt
  pub doubted_carried : (now : Books) (faults before : ℕ) → (before < faults) ⊎ (faults ≡ 18446744073709551615) → IsDoubtful g now m (batch_of_one b u n) new → IsCarried {T = Unit} g m e u n (Err (Unsure faults before)) old now new
  doubted_carried now faults before rose there = record {
    point = doubted_at m (after_update m u n);
    leads = (refl, rose);
    stands = (batch_of_one b u n, refl, there);
    moments = λ told. weakened g.moment g.left_since old new Moved (λ c. StandsAt (settled_at m) c ⊎ StandsAt (doubted_at m (after_update m u n)) c) (moves told) (λ c has. elim has [
      | inl here ↦ inl (inl here)
      | inr moved ↦ inr (inr moved)
    ]);
  }

-- a commit counts one slot more, and leaves all else of the books
abbrev slots_more : Books → Books
slots_more b = with_used b b.half (used_of b b.half + 1)

pub committed_pages : (b : Books) → (committed_books b).pages ≡ b.pages
committed_pages b = ap (λ (x : Books). x.pages) (used-form b b.half (used_of b b.half + 1))

-- the pages of a change that was committed are claimed no more
pub committed_claims : {K : ℕ} (b c : Books) (x : Publishing K) → IsPublishable b x → c ≡ committed_books (published_books b x) → count_by is_claimed c.pages + length x.pages ≡ count_by is_claimed b.pages
committed_claims {K} b c x may is =
    let pages : c.pages ≡ (published_books b x).pages = ap (λ (y : Books). y.pages) is ∙ committed_pages (published_books b x) in
    let count : count_by is_claimed c.pages ≡ count_by is_claimed (published_books b x).pages = ap (λ (xs : List PageState). count_by is_claimed xs) pages in
    omega (arith, count, (claims-count {K = K}).published b x may)

-- and the file goes on
pub committed_goes : {K : ℕ} {D : Type 0} (old new : OpenFile D) (x : Publishing K) → new ≡ opened_file new.disk (committed_books (published_books old.books x)) → GoesOn old new
committed_goes {D = D} old new x is =
    let form = used-form (published_books old.books x) old.books.half (used_of (published_books old.books x) old.books.half + 1) in
    let books : new.books ≡ committed_books (published_books old.books x) = ap (λ (f : OpenFile D). f.books) is in
    record {
      shape = ap (λ (b : Books). b.shape) books ∙ ap (λ (b : Books). b.shape) form;
      session = ap (λ (b : Books). b.session) books ∙ ap (λ (b : Books). b.session) form;
      unclaimed = ap (λ (f : OpenFile D). f.claimed) is;
      front = omega (arith, ap (λ (b : Books). b.front) books, ap (λ (b : Books). b.front) form);
      number = omega (arith, ap (λ (b : Books). b.number) books, ap (λ (b : Books). b.number) form);
    }

-- a count of failures that rose is higher, or stands at its last value
pub rose_higher : (before now : ℕ) → before < 18446744073709551616 → now < 18446744073709551616 → Rose before now → (before < now) ⊎ (now ≡ 18446744073709551615)
rose_higher before now small few rose = elim (cases_lt before now) [
  | inl less ↦ inl less
  | inr high ↦ inr (omega (arith, high, small, few, rose))
]
