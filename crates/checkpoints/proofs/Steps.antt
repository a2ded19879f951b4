-- A root step as its sections follow one another, over plain books and disks.
use Rattle.std.proofs.Common.{◌≡◌, ◌+◌, ℕ, sym, ap, subst, ◌∙◌}
use Rattle.std.specs.Prelude.{Some}
use Rattle.disk_trait.specs.declared.disk.Disk.{Ghosts}
use Rattle.grid_model.specs.Lone.{State, root}
use Rattle.grid_model.specs.Roots.{WholeRoot}
use Rattle.file_images.specs.Kept.{Kept}
use Rattle.file_images.specs.Leads.{Standing}
use Rattle.file_images.specs.Meets.{Meets}
use Rattle.file_images.specs.Steps.{with_closed, with_tried, with_root, with_loose, with_shut}
use Rattle.file_images.proofs.Covering.{covers_meets}
use Rattle.file_sections.specs.Sections.{StaysShown, IsNextNumber, AwaitsNumber, IsIdleHalf}
use Rattle.file_books.specs.Books.{Books}
use Rattle.file_books.specs.Effects.{used_of, idle_half, closed_books, turned_books, rooted_books, swept_books, cleaned_books}
use Rattle.file_standing.specs.Files.{IsFile}
use Rattle.file_standing.specs.Open.{IsOpenAt, IsOpenInSession, IsOpenAlone, StaysStanding}
use Rattle.file_standing.specs.Steps.{IsNextRoot}
use Rattle.file_standing.proofs.PageSteps.{page-steps}
use Rattle.checkpoints.specs.Checkpoints.{trying_books, standing_books, checkpointed_books, StaysOpen, IsRooted}
use Rattle.checkpoints.proofs.Alone.{checkpointed-alone}
use Rattle.checkpoints.proofs.Points.{trying_kept, rooted_kept, standing_kept, checkpointed_kept, next-number, trying-awaits, tried-point, tried-session, standing-point, standing-idle, loose-point, loose-session, checkpointed-point, checkpointed-session, checkpointed-loose, checkpointed-front, checkpointed-quiet}
use Rattle.checkpoints.proofs.Standing.{stays-standing, turned-kept-meets, cleaned-kept-meets}

-- what a section says of anything that is kept, where the header page of the next root may be closed, where it is closed, and where a half is idle
abbrev pub FromNext : {K : ℕ} {D : Type 0} → Ghosts D → Books → D → (Kept K → Type 0) → Type 0
FromNext {K} g x d P = (k : Kept K) → IsNextNumber k x.shape (x.number + 1) → Meets g k d → P k

abbrev pub FromAwaited : {K : ℕ} {D : Type 0} → Ghosts D → Books → D → (Kept K → Type 0) → Type 0
FromAwaited {K} g x d P = (k : Kept K) → AwaitsNumber k x.shape (x.number + 1) → Meets g k d → P k

abbrev pub FromIdle : {K : ℕ} {D : Type 0} → Ghosts D → Books → D → (Kept K → ℕ → Type 0) → Type 0
FromIdle {K} g x d P = (k : Kept K) → IsIdleHalf k x.shape (idle_half x) (used_of x (idle_half x)) → Meets g k d → P k (idle_half x)

module _ {K : ℕ} {D : Type 0} (g : Ghosts D) (b : Books) (d0 d1 : D) where
  -- the header page is closed
  pub closing-stands : FromNext {K = K} g b d0 (λ k. StaysShown g k d0 d1) → (m : Standing K) → IsOpenAt g b m d0 → StaysStanding g m d0 d1
  closing-stands shown m o = stays-standing g b o.kept m o.file (shown o.kept (next-number b o.kept m o.file) o.meets)

  -- or may be closed again
  pub closing-behind : (c : Books) → c ≡ b → FromNext {K = K} g b d0 (λ k. Meets g k d1) → (m : Standing K) → StaysOpen g b c m d0 d1
  closing-behind c is-c again m = subst (λ (x : Books). StaysOpen g b x m d0 d1) (sym is-c) (record {
    open_at = λ o. record { kept = o.kept; file = o.file; meets = again o.kept (next-number b o.kept m o.file) o.meets };
    in_session = λ o. record { kept = o.kept; file = o.file; session = o.session; meets = again o.kept (next-number b o.kept m o.file) o.meets };
  })

  module _ (closed : FromNext {K = K} g b d0 (λ k. Meets g (with_closed k) d1)) (d2 : D) (w : WholeRoot) (b1 : Books) (is1 : b1 ≡ closed_books b) (next1 : IsNextRoot b1 w) where
    next : IsNextRoot (closed_books b) w
    next = subst (λ (x : Books). IsNextRoot x w) is1 next1

    from1 : (P : Kept K → Type 0) → FromAwaited {K = K} g b1 d1 P → FromAwaited {K = K} g (closed_books b) d1 P
    from1 P from = subst (λ (x : Books). FromAwaited {K = K} g x d1 P) is1 from

    trying-meets : (k : Kept K) (m : Standing K) → IsFile b k m → Meets g k d0 → Meets g (trying_kept b k) d1
    trying-meets k m is was = turned-kept-meets g (closed_books b) (with_closed k) d1 is.shut (closed k (next-number b k m is) was)

    -- the next root is tried
    pub trying-stands : FromAwaited {K = K} g b1 d1 (λ k. StaysShown g (with_tried k (Some w)) d1 d2) → (m : Standing K) → IsOpenAt g b m d0 → StaysStanding g m d1 d2
    trying-stands shown m o =
        stays-standing g (trying_books b) (with_tried (trying_kept b o.kept) (Some w)) m (tried-point b o.kept m o.file w next)
        (from1 (λ k. StaysShown g (with_tried k (Some w)) d1 d2) shown (trying_kept b o.kept) (trying-awaits b o.kept m o.file) (trying-meets o.kept m o.file o.meets))

    -- and may be tried again
    pub trying-behind : (c : Books) → c ≡ turned_books b1 → FromAwaited {K = K} g b1 d1 (λ k. Meets g (with_tried k (Some w)) d2) → (m : Standing K) → StaysOpen g b c m d0 d2
    trying-behind c is-c again m =
        let meets : (k : Kept K) → IsFile b k m → Meets g k d0 → Meets g (with_tried (trying_kept b k) (Some w)) d2 =
        λ k is was. from1 (λ j. Meets g (with_tried j (Some w)) d2) again (trying_kept b k) (trying-awaits b k m is) (trying-meets k m is was) in
        subst (λ (x : Books). StaysOpen g b x m d0 d2) (sym (is-c ∙ ap turned_books is1)) (record {
          open_at = λ o. record { kept = with_tried (trying_kept b o.kept) (Some w); file = tried-point b o.kept m o.file w next; meets = meets o.kept o.file o.meets };
          in_session = λ o. record {
            kept = with_tried (trying_kept b o.kept) (Some w);
            file = tried-point b o.kept m o.file w next;
            session = tried-session b o.kept m o.file w next o.session;
            meets = meets o.kept o.file o.meets;
          };
        })

    module _ (rooted : FromAwaited {K = K} g b1 d1 (λ k. Meets g (with_root k w) d2)) (d3 : D) (b3 : Books) (is3 : b3 ≡ swept_books (rooted_books (turned_books b1))) where
      standing-books : b3 ≡ standing_books b
      standing-books = is3 ∙ ap (λ (x : Books). swept_books (rooted_books (turned_books x))) is1

      from3 : (P : Kept K → ℕ → Type 0) → FromIdle {K = K} g b3 d2 P → FromIdle {K = K} g (standing_books b) d2 P
      from3 P from = subst (λ (x : Books). FromIdle {K = K} g x d2 P) standing-books from

      standing-meets : (k : Kept K) (m : Standing K) → IsFile b k m → Meets g k d0 → Meets g (standing_kept b k w) d2
      standing-meets k m is was =
          covers_meets (rooted_kept b k w) (standing_kept b k w) (page-steps.covered (rooted_books (trying_books b)) (rooted_kept b k w)) g d2
          (from1 (λ j. Meets g (with_root j w) d2) rooted (trying_kept b k) (trying-awaits b k m is) (trying-meets k m is was))

      -- the half behind it is cleared
      pub clearing-stands : FromIdle {K = K} g b3 d2 (λ k h. StaysShown g (with_loose k h) d2 d3) → (m : Standing K) → IsOpenAt g b m d0 → StaysStanding g m d2 d3
      clearing-stands shown m o =
          stays-standing g (standing_books b) (with_loose (standing_kept b o.kept w) (idle_half (standing_books b))) m (loose-point b o.kept m o.file w next)
          (from3 (λ k h. StaysShown g (with_loose k h) d2 d3) shown (standing_kept b o.kept w) (standing-idle b o.kept m o.file w next) (standing-meets o.kept m o.file o.meets))

      -- or may be cleared again
      pub clearing-behind : (c : Books) → c ≡ b3 → FromIdle {K = K} g b3 d2 (λ k h. Meets g (with_loose k h) d3) → (m : Standing K) → StaysOpen g b c m d0 d3
      clearing-behind c is-c failed m =
          let j : Kept K → Kept K = λ k. with_loose (standing_kept b k w) (idle_half (standing_books b)) in
          let meets : (k : Kept K) → IsFile b k m → Meets g k d0 → Meets g (j k) d3 =
          λ k is was. from3 (λ i h. Meets g (with_loose i h) d3) failed (standing_kept b k w) (standing-idle b k m is w next) (standing-meets k m is was) in
          subst (λ (x : Books). StaysOpen g b x m d0 d3) (sym (is-c ∙ standing-books)) (record {
            open_at = λ o. record { kept = j o.kept; file = loose-point b o.kept m o.file w next; meets = meets o.kept o.file o.meets };
            in_session = λ o. record { kept = j o.kept; file = loose-point b o.kept m o.file w next; session = loose-session b o.kept m o.file w next; meets = meets o.kept o.file o.meets };
          })

      module _ (cleared : FromIdle {K = K} g b3 d2 (λ k h. Meets g (with_shut k h) d3)) (c : Books) (is-c : c ≡ cleaned_books b3) where
        checkpointed-books : checkpointed_books b ≡ c
        checkpointed-books = sym (is-c ∙ ap cleaned_books standing-books)

        checkpointed-meets : (k : Kept K) (m : Standing K) → IsFile b k m → Meets g k d0 → Meets g (checkpointed_kept b k w) d3
        checkpointed-meets k m is was =
            let stands = standing-point b k m is w next in
            cleaned-kept-meets g (standing_books b) (standing_kept b k w) d3 stands.shut
            (from3 (λ i h. Meets g (with_shut i h) d3) cleared (standing_kept b k w) (standing-idle b k m is w next) (standing-meets k m is was))

        -- where all is done the file is open in session
        pub checkpointed-open : (m : Standing K) → IsOpenAt g b m d0 → IsOpenInSession g c m d3
        checkpointed-open m o = subst (λ (x : Books). IsOpenInSession g x m d3) checkpointed-books (record {
          kept = checkpointed_kept b o.kept w;
          file = checkpointed-point b o.kept m o.file w next;
          session = checkpointed-session b o.kept m o.file w next;
          meets = checkpointed-meets o.kept m o.file o.meets;
        })

        -- where all is done the file is open in session, and its root stands at the front
        pub checkpointed-rooted : (m : Standing K) → IsOpenAt g b m d0 → IsRooted g c m d3
        checkpointed-rooted m o = subst (λ (x : Books). IsRooted g x m d3) checkpointed-books (record {
          kept = checkpointed_kept b o.kept w;
          file = checkpointed-point b o.kept m o.file w next;
          session = checkpointed-session b o.kept m o.file w next;
          meets = checkpointed-meets o.kept m o.file o.meets;
          other = checkpointed-loose b o.kept m o.file w next;
          front = checkpointed-front b o.kept m o.file w next;
          quiet = checkpointed-quiet b o.kept m o.file w next;
        })

        -- and as a lone caller says
        pub checkpointed-open-alone : (m : Standing K) (s : State K) → IsOpenAlone g b m s d0 → IsOpenAlone g c m (root s) d3
        checkpointed-open-alone m s o = subst (λ (x : Books). IsOpenAlone g x m (root s) d3) checkpointed-books (record {
          kept = checkpointed_kept b o.kept w;
          file = checkpointed-point b o.kept m o.file w next;
          session = checkpointed-session b o.kept m o.file w next;
          alone = checkpointed-alone b o.kept m s w o.file o.alone next;
          meets = checkpointed-meets o.kept m o.file o.meets;
        })
