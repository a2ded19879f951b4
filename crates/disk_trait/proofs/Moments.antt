-- How the moments of sections of calls join.
use Rattle.std.proofs.Common.{◌≤◌, inl, inr, ⊎_elim, ℕ, List, arith}
use Rattle.std.specs.Prelude.{Bool, IsTrue}
use Rattle.disk_trait.specs.Moments.{After, Always, Elapses, LeavesOnly}

module _ {D : Type 0} (moment : D → ℕ) (left_since : D → ℕ → List ℕ → Type 0) where
  -- before the first call only the present moment counts
  pub started : (old : D) (P : List ℕ → Type 0) → ((c : List ℕ) → left_since old (moment old) c → P c) → LeavesOnly moment left_since old old P
  started old P here = record { later = omega arith; each = here; before = λ t c le left. inl left }

  -- one call more, after which a crash leaves what has P
  pub goes_on : (may_leave : D → List ℕ → Type 0) (old mid new : D) (P : List ℕ → Type 0) → LeavesOnly moment left_since old mid P → Elapses moment left_since may_leave mid new
      → Always (may_leave new) P → LeavesOnly moment left_since old new P
  goes_on may_leave old mid new P so_far time here = record {
    later = omega (arith, so_far.later, time.later);
    each = λ c left. ⊎_elim (so_far.each c) (here c) (time.nothing_else (moment old) c so_far.later left);
    before = λ t c le left. ⊎_elim (so_far.before t c le) (λ now. inr (here c now)) (time.nothing_else t c (omega (arith, le, so_far.later)) left);
  }

  -- one section behind another
  pub joined : (old mid new : D) (P Q R : List ℕ → Type 0) → LeavesOnly moment left_since old mid P → LeavesOnly moment left_since mid new Q
      → ((c : List ℕ) → P c → R c) → ((c : List ℕ) → Q c → R c) → LeavesOnly moment left_since old new R
  joined old mid new P Q R first second of_first of_second = record {
    later = omega (arith, first.later, second.later);
    each = λ c left. ⊎_elim (λ had. of_first c (first.each c had)) (of_second c) (second.before (moment old) c first.later left);
    before = λ t c le left. ⊎_elim (λ had. ⊎_elim (λ older. inl older) (λ p. inr (of_first c p)) (first.before t c le had)) (λ q. inr (of_second c q)) (second.before t c (omega (arith, le, first.later)) left);
  }

  -- what is said of each moment may be said in weaker words
  pub weakened : (old new : D) (P R : List ℕ → Type 0) → LeavesOnly moment left_since old new P → ((c : List ℕ) → P c → R c) → LeavesOnly moment left_since old new R
  weakened old new P R first of_first = record {
    later = first.later;
    each = λ c left. of_first c (first.each c left);
    before = λ t c le left. ⊎_elim (λ older. inl older) (λ p. inr (of_first c p)) (first.before t c le left);
  }

  -- a call that makes this step
  pub stepped : (may_leave : D → List ℕ → Type 0) (step : List ℕ → List ℕ → Type 0) (old new : D) → ((c : List ℕ) → step c c) → Always (left_since old (moment old)) (may_leave old)
      → Elapses moment left_since may_leave old new → Always (may_leave new) (After step (may_leave old)) → LeavesOnly moment left_since old new (After step (may_leave old))
  stepped may_leave step old new still only time follows =
      goes_on may_leave old old new (After step (may_leave old)) (started old (After step (may_leave old)) (λ c left. (c, only c left, still c))) time follows

  -- a call after which a crash leaves nothing that it might not have left before
  pub stayed : (may_leave : D → List ℕ → Type 0) (old new : D) → Always (left_since old (moment old)) (may_leave old) → Elapses moment left_since may_leave old new
      → Always (may_leave new) (may_leave old) → LeavesOnly moment left_since old new (may_leave old)
  stayed may_leave old new only time same = goes_on may_leave old old new (may_leave old) (started old (may_leave old) only) time same

  -- two facts of each moment are one
  pub both : (old new : D) (P Q R : List ℕ → Type 0) → LeavesOnly moment left_since old new P → LeavesOnly moment left_since old new Q → ((c : List ℕ) → P c → Q c → R c) → LeavesOnly moment left_since old new R
  both old new P Q R first second join = record {
    later = first.later;
    each = λ c left. join c (first.each c left) (second.each c left);
    before = λ t c le left. ⊎_elim (λ older. inl older) (λ p. ⊎_elim (λ older. inl older) (λ q. inr (join c p q)) (second.before t c le left)) (first.before t c le left);
  }

  -- what holds at each moment of a section holds in each image that a crash now may leave, as this moment is one of them
  pub holds_now : (honest : D → Bool) (may_leave : D → List ℕ → Type 0) → ((d : D) (t : ℕ) (c : List ℕ) → IsTrue (honest d) → t ≤ moment d → may_leave d c → left_since d t c) → (old new : D) (P : List ℕ → Type 0)
      → IsTrue (honest new) → LeavesOnly moment left_since old new P → Always (may_leave new) P
  holds_now honest may_leave counts_now old new P told leaves c now = leaves.each c (counts_now new (moment old) c told leaves.later now)
