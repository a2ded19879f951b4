-- A file whose journal was cleared behind a root of a new session: it is that of a lone caller who has just opened it.
use Rattle.std.proofs.Common.{◌≡◌, ◌<◌, ◌==◌, ℕ, zero, suc, Bool, true, false, cond, List, refl, sym, ap, subst, ◌∙◌}
use Rattle.std.specs.List.{count_by}
use Rattle.disk_trait.specs.declared.disk.Disk.{Ghosts}
use Rattle.page_states.specs.declared.page_state.PageState.{PageState}
use Rattle.page_states.specs.States.{is_claimed}
use Rattle.file_images.specs.Leads.{Standing}
use Rattle.file_books.specs.Books.{Books}
use Rattle.file_books.specs.Effects.{used_of, idle_half, with_used, rooted_books, cleaned_books, session_books}
use Rattle.file_standing.specs.Open.{IsOpenInSession}
use Rattle.file_redo.proofs.Alone.{rooted-alone}
use Rattle.file_redo.proofs.Claims.{claims-count}
use Rattle.checkpoints.specs.Checkpoints.{trying_books, standing_books, checkpointed_books, exchanged_books, emptied_books}
use Rattle.checkpoints.proofs.Emptied.{emptied-clear, emptied-front, emptied-rooted, emptied-quiet}
use Rattle.file_opening.specs.Redoing.{KeepsRoot}
use Rattle.file_opening.specs.UnderWay.{IsReopened, IsNextSession}

-- which slots are used, and which half is current, is nothing to the root
used-root : (b : Books) (h n : ℕ) → KeepsRoot b (with_used b h n)
used-root b zero n = record { shape = refl; session = refl; number = refl }
used-root b (suc h) n = record { shape = refl; session = refl; number = refl }

cleaned-root : (b : Books) → KeepsRoot b (cleaned_books b)
cleaned-root b = by (used_of b b.half == b.shape.slots)
  where
    same : KeepsRoot b (with_used b (idle_half b) 0)
    same = used-root b (idle_half b) 0

    by : (t : Bool) → KeepsRoot b (cond t (record (with_used b (idle_half b) 0) { half = idle_half b }) (with_used b (idle_half b) 0))
    by true = record { shape = same.shape; session = same.session; number = same.number }
    by false = same

-- the shape stays in a root step
pub rooted-shape : (b c : Books) → c ≡ checkpointed_books b → c.shape ≡ b.shape
rooted-shape b c is = ap (λ (x : Books). x.shape) is ∙ (cleaned-root (standing_books b)).shape

-- after the root step of a new session, and once the journal is cleared, the books are those of the next session
pub renewed-next : (b c d : Books) → c ≡ checkpointed_books (session_books b) → d ≡ emptied_books c → IsNextSession b d
renewed-next b c d is-c is-d =
    let first : KeepsRoot (standing_books (session_books b)) (checkpointed_books (session_books b)) = cleaned-root (standing_books (session_books b)) in
    let last : KeepsRoot (exchanged_books c) (emptied_books c) = cleaned-root (exchanged_books c) in
    record {
      shape = ap (λ (x : Books). x.shape) is-d ∙ last.shape ∙ ap (λ (x : Books). x.shape) is-c ∙ first.shape;
      session = ap (λ (x : Books). x.session) is-d ∙ last.session ∙ ap (λ (x : Books). x.session) is-c ∙ first.session;
      number = ap (λ (x : Books). x.number) is-d ∙ last.number ∙ ap (λ (x : Books). x.number) is-c ∙ first.number;
    }

-- and to the pages
used-pages : (b : Books) (h n : ℕ) → (with_used b h n).pages ≡ b.pages
used-pages b zero n = refl
used-pages b (suc h) n = refl

cleaned-pages : (b : Books) → (cleaned_books b).pages ≡ b.pages
cleaned-pages b = by (used_of b b.half == b.shape.slots)
  where
    same : (with_used b (idle_half b) 0).pages ≡ b.pages
    same = used-pages b (idle_half b) 0

    by : (t : Bool) → (cond t (record (with_used b (idle_half b) 0) { half = idle_half b }) (with_used b (idle_half b) 0)).pages ≡ b.pages
    by true = same
    by false = same

-- where no page was claimed, none is then
renewed-unclaimed : (b : Books) → count_by is_claimed b.pages ≡ 0 → count_by is_claimed (emptied_books (checkpointed_books b)).pages ≡ 0
renewed-unclaimed b none =
    ap (λ (xs : List PageState). count_by is_claimed xs) (cleaned-pages (exchanged_books (checkpointed_books b)) ∙ cleaned-pages (standing_books b)) ∙ (claims-count {K = 0}).sweep (rooted_books (trying_books b)) ∙ none

-- then the file is a lone caller's
module _ {K : ℕ} {D : Type 0} (g : Ghosts D) (m : Standing K) (disk : D) (b c d : Books) (is-c : c ≡ checkpointed_books b) (is-d : d ≡ emptied_books c) (two : b.half < 2) (none : count_by is_claimed b.pages ≡ 0) where
  abbrev last : Books
  last = emptied_books (checkpointed_books b)

  last-is : d ≡ last
  last-is = is-d ∙ ap emptied_books is-c

  pub reopened-alone : IsOpenInSession g d m disk → IsReopened g d disk m
  reopened-alone o = subst (λ (x : Books). IsReopened g x disk m) (sym last-is) (by (subst (λ (x : Books). IsOpenInSession g x m disk) last-is o))
    where
      by : IsOpenInSession g last m disk → IsReopened g last disk m
      by p =
          let clear = emptied-clear b two in
          record {
            alone = record {
              kept = p.kept;
              file = p.file;
              session = p.session;
              alone = rooted-alone last p.kept m p.file (emptied-rooted b ∙ sym (emptied-front b)) (emptied-quiet b) clear.first clear.second;
              meets = p.meets;
            };
            unclaimed = renewed-unclaimed b none;
          }
