-- Once the journal is cleared behind a root step, no slot of either half is used.
use Rattle.std.proofs.Common.{◌≡◌, ◌≢◌, ◌<◌, ◌⊎◌, ◌==◌, inl, inr, ℕ, zero, suc, Bool, true, false, cond, refl, sym, ap, subst, ◌∙◌, arith}
use Rattle.std.proofs.lemmas.Bool.{eqb-true, eq-eqb, false≢true}
use Rattle.std.specs.Prelude.{None}
use Rattle.file_books.specs.Books.{Books}
use Rattle.file_books.specs.Effects.{used_of, idle_half, with_used, cleaned_books}
use Rattle.file_standing.proofs.Books.{books_used, used-form, used-here, used-other, idle-half-two, idle-half-apart}
use Rattle.checkpoints.specs.Checkpoints.{standing_books, checkpointed_books, exchanged_books, emptied_books, IsClear}

-- books whose half that is not current is clear, where the current one may change
abbrev cleared_at : Books → Bool → Books
cleared_at b t = record (books_used b (idle_half b) 0) { half = cond t (idle_half b) b.half }

cleared-form : (b : Books) → cleaned_books b ≡ cleared_at b (used_of b b.half == b.shape.slots)
cleared-form b = by (used_of b b.half == b.shape.slots)
  where
    by : (t : Bool) → cond t (record (with_used b (idle_half b) 0) { half = idle_half b }) (with_used b (idle_half b) 0) ≡ cleared_at b t
    by true = ap (λ (c : Books). record c { half = idle_half b }) (used-form b (idle_half b) 0)
    by false = used-form b (idle_half b) 0

-- both halves are the current one and the other
both-clear : (b : Books) (h i : ℕ) → h < 2 → i < 2 → h ≢ i → used_of b h ≡ 0 → used_of b i ≡ 0 → IsClear b
both-clear b zero zero two too apart x y = absurd (apart refl)
both-clear b zero (suc i) two too apart x y = record { first = x; second = y }
both-clear b (suc h) zero two too apart x y = record { first = y; second = x }
both-clear b (suc h) (suc i) two too apart x y = absurd (apart (omega (arith, two, too)))

-- where the current half is clear, all is once the other one is cleared
cleared-clear : (b : Books) → b.half < 2 → used_of b b.half ≡ 0 → IsClear (cleaned_books b)
cleared-clear b two none = subst IsClear (sym (cleared-form b)) (by (used_of b b.half == b.shape.slots))
  where
    h : ℕ
    h = idle_half b

    by : (t : Bool) → IsClear (cleared_at b t)
    by t =
        let clear : IsClear (books_used b h 0) = both-clear (books_used b h 0) h b.half (idle-half-two b) two (idle-half-apart b two) (used-here b h 0) (used-other b h b.half 0 (idle-half-two b) two (λ e. idle-half-apart b two (sym e)) ∙ none) in
        record { first = clear.first; second = clear.second }

-- which half is current is nothing to the slots
used-same : (b : Books) (c h : ℕ) → used_of (record b { half = c }) h ≡ used_of b h
used-same b c zero = refl
used-same b c (suc h) = refl

-- where one half is clear, the current one is once the roles are exchanged
exchanged-clear : (b : Books) → (used_of b (idle_half b) ≡ 0) ⊎ (used_of b b.half ≡ 0) → used_of (exchanged_books b) (exchanged_books b).half ≡ 0
exchanged-clear b one = used-same b (exchanged_books b).half (exchanged_books b).half ∙ by (used_of b (idle_half b) == 0) refl
  where
    by : (t : Bool) → (used_of b (idle_half b) == 0) ≡ t → used_of b (cond t (idle_half b) b.half) ≡ 0
    by true is = eqb-true (used_of b (idle_half b)) 0 is
    by false is = elim one [ inl x ↦ absurd (false≢true (sym is ∙ eq-eqb (used_of b (idle_half b)) 0 x)) | inr y ↦ y ]

exchanged-two : (b : Books) → b.half < 2 → (exchanged_books b).half < 2
exchanged-two b two = by (used_of b (idle_half b) == 0)
  where
    by : (t : Bool) → cond t (idle_half b) b.half < 2
    by true = idle-half-two b
    by false = two

-- once a half is cleared one is clear, be its role the one or the other
one-clear : (b : Books) → (used_of (cleaned_books b) (idle_half (cleaned_books b)) ≡ 0) ⊎ (used_of (cleaned_books b) (cleaned_books b).half ≡ 0)
one-clear b = subst (λ (c : Books). (used_of c (idle_half c) ≡ 0) ⊎ (used_of c c.half ≡ 0)) (sym (cleared-form b)) (by (used_of b b.half == b.shape.slots))
  where
    h : ℕ
    h = idle_half b

    by : (t : Bool) → (used_of (cleared_at b t) (idle_half (cleared_at b t)) ≡ 0) ⊎ (used_of (cleared_at b t) (cleared_at b t).half ≡ 0)
    by true = inr (used-same (books_used b h 0) h h ∙ used-here b h 0)
    by false = inl (used-same (books_used b h 0) b.half h ∙ used-here b h 0)

cleaned-two : (b : Books) → b.half < 2 → (cleaned_books b).half < 2
cleaned-two b two = subst (λ (c : Books). c.half < 2) (sym (cleared-form b)) (by (used_of b b.half == b.shape.slots))
  where
    by : (t : Bool) → (cleared_at b t).half < 2
    by true = idle-half-two b
    by false = two

-- no slot is used once the journal is cleared behind a root step
pub emptied-clear : (b : Books) → b.half < 2 → IsClear (emptied_books (checkpointed_books b))
emptied-clear b two =
    let c = checkpointed_books b in
    let stands : (standing_books b).half < 2 = exchanged-two b two in
    cleared-clear (exchanged_books c) (exchanged-two c (cleaned-two (standing_books b) stands)) (exchanged-clear c (one-clear (standing_books b)))

-- a cleared half leaves the numbers of roots and places
module _ (b : Books) where
  cleaned-front : (cleaned_books b).front ≡ b.front
  cleaned-front = ap (λ (c : Books). c.front) (cleared-form b)

  cleaned-rooted : (cleaned_books b).rooted_at ≡ b.rooted_at
  cleaned-rooted = ap (λ (c : Books). c.rooted_at) (cleared-form b)

  cleaned-quiet : (cleaned_books b).trying_at ≡ b.trying_at
  cleaned-quiet = ap (λ (c : Books). c.trying_at) (cleared-form b)

-- the root stands at the front, and none is tried
module _ (b : Books) where
  pub emptied-front : (emptied_books (checkpointed_books b)).front ≡ b.front
  emptied-front = cleaned-front (exchanged_books (checkpointed_books b)) ∙ cleaned-front (standing_books b)

  pub emptied-rooted : (emptied_books (checkpointed_books b)).rooted_at ≡ b.front
  emptied-rooted = cleaned-rooted (exchanged_books (checkpointed_books b)) ∙ cleaned-rooted (standing_books b)

  pub emptied-quiet : (emptied_books (checkpointed_books b)).trying_at ≡ None
  emptied-quiet = cleaned-quiet (exchanged_books (checkpointed_books b))
