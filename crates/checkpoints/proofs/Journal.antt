-- The journal is cleared behind a root that stands at the front, over plain books and disks.
use Rattle.std.proofs.Common.{◌≡◌, ◌==◌, inl, inr, ℕ, Bool, true, false, cond, refl, sym, ap, subst, ◌∙◌}
use Rattle.std.specs.Prelude.{None, Result, Ok, Err, OnOk, OnErr}
use Rattle.disk_trait.specs.declared.disk.Disk.{Ghosts}
use Rattle.file_images.specs.Kept.{LooseHeader, Kept}
use Rattle.file_images.specs.Leads.{Standing}
use Rattle.file_images.specs.Meets.{Meets}
use Rattle.file_images.specs.Steps.{with_loose, with_shut, with_turned}
use Rattle.file_sections.specs.Sections.{StaysShown, IsIdleHalf}
use Rattle.file_books.specs.Books.{Books}
use Rattle.file_books.specs.Effects.{used_of, idle_half, cleaned_books}
use Rattle.file_standing.specs.Files.{IsFile, InSession}
use Rattle.file_standing.specs.Open.{IsOpenInSession, StaysStanding}
use Rattle.file_standing.specs.Steps.{turned_kept, cleaned_kept}
use Rattle.file_standing.proofs.Books.{idle-half-apart}
use Rattle.file_standing.proofs.RootSteps.{exchanged-file, loose-file, cleaned-file}
use Rattle.checkpoints.specs.Checkpoints.{IsRooted, exchanged_books, emptied_books}
use Rattle.checkpoints.proofs.Points.{used-agrees, turned-root, rooted-session, cleaned-session}
use Rattle.checkpoints.proofs.Standing.{stays-standing, turned-kept-meets, cleaned-kept-meets}
use Rattle.checkpoints.proofs.Steps.{FromIdle}

-- a header page that is loose stays so where the halves' roles are exchanged
turned-loose : {K : ℕ} (b : Books) (k : Kept K) → k.other ≡ LooseHeader None → (turned_kept b k).other ≡ LooseHeader None
turned-loose b k loose = by (used_of b (idle_half b) == 0)
  where
    by : (t : Bool) → (cond t (with_turned k) k).other ≡ LooseHeader None
    by true = loose
    by false = loose

module _ {K : ℕ} {D : Type 0} (g : Ghosts D) (b : Books) (m : Standing K) (d0 : D) (o : IsRooted g b m d0) where
  abbrev b1 : Books
  b1 = exchanged_books b

  abbrev k1 : Kept K
  k1 = turned_kept b o.kept

  file1 : IsFile b1 k1 m
  file1 = exchanged-file b o.kept m (used_of b (idle_half b) == 0) o.quiet o.file

  meets1 : Meets g k1 d0
  meets1 = turned-kept-meets g b o.kept d0 o.file.shut o.meets

  loose1 : k1.other ≡ LooseHeader None
  loose1 = turned-loose b o.kept o.other

  front1 : k1.root.fields.front ≡ b1.front
  front1 = ap (λ r. r.fields.front) (turned-root b o.kept) ∙ o.front

  session1 : k1.root.fields.session ≡ b1.session
  session1 = ap (λ r. r.fields.session) (turned-root b o.kept) ∙ o.session o.kept.root (inl refl)

  idle1 : IsIdleHalf k1 b1.shape (idle_half b1) (used_of b1 (idle_half b1))
  idle1 = record {
    shape = file1.agree.shape;
    apart = λ e. idle-half-apart b1 file1.agree.two (e ∙ file1.agree.half);
    used_is = used-agrees b1 k1 (idle_half b1) file1.agree;
  }

  loose-file1 : IsFile b1 (with_loose k1 (idle_half b1)) m
  loose-file1 = loose-file b1 k1 m loose1 front1 session1 file1

  module _ (c : Books) (is-c : c ≡ b1) (d1 : D) where
    at-b1 : (P : Kept K → ℕ → Type 0) → FromIdle {K = K} g c d0 P → P k1 (idle_half b1)
    at-b1 P from = subst (λ (x : Books). FromIdle {K = K} g x d0 P) is-c from k1 idle1 meets1

    -- while the half is cleared
    pub emptying-stands : FromIdle {K = K} g c d0 (λ k h. StaysShown g (with_loose k h) d0 d1) → StaysStanding g m d0 d1
    emptying-stands shown = stays-standing g b1 (with_loose k1 (idle_half b1)) m loose-file1 (at-b1 (λ k h. StaysShown g (with_loose k h) d0 d1) shown)

    -- it may be cleared again
    emptying-behind : (e : Books) → e ≡ c → FromIdle {K = K} g c d0 (λ k h. Meets g (with_loose k h) d1) → IsOpenInSession g e m d1
    emptying-behind e is-e failed = subst (λ (x : Books). IsOpenInSession g x m d1) (sym (is-e ∙ is-c)) (record {
      kept = with_loose k1 (idle_half b1);
      file = loose-file1;
      session = rooted-session b1 (with_loose k1 (idle_half b1)) loose1 session1;
      meets = at-b1 (λ k h. Meets g (with_loose k h) d1) failed;
    })

    -- and then the file stands where it stood
    emptied-open : (e : Books) → e ≡ emptied_books b → FromIdle {K = K} g c d0 (λ k h. Meets g (with_shut k h) d1) → IsOpenInSession g e m d1
    emptied-open e is-e cleared = subst (λ (x : Books). IsOpenInSession g x m d1) (sym is-e) (record {
      kept = cleaned_kept b1 k1;
      file = cleaned-file b1 k1 m loose1 front1 file1;
      session = cleaned-session b1 k1 m loose1 session1;
      meets = cleaned-kept-meets g b1 k1 d1 file1.shut (at-b1 (λ k h. Meets g (with_shut k h) d1) cleared);
    })

    -- as an answer says it
    pub emptied-on-ok : {T E : Type 0} (r : Result T E) (e : Books) → OnOk r (e ≡ cleaned_books c) → FromIdle {K = K} g c d0 (λ k h. OnOk r (Meets g (with_shut k h) d1)) → OnOk r (IsOpenInSession g e m d1)
    emptied-on-ok (Ok x) e is-e cleared = emptied-open e (is-e ∙ ap cleaned_books is-c) cleared
    emptied-on-ok (Err x) e is-e cleared = tt

    pub emptying-on-err : {T E : Type 0} (r : Result T E) (e : Books) → OnErr r (e ≡ c) → FromIdle {K = K} g c d0 (λ k h. OnErr r (Meets g (with_loose k h) d1)) → OnErr r (IsOpenInSession g e m d1)
    emptying-on-err (Ok x) e is-e failed = tt
    emptying-on-err (Err x) e is-e failed = emptying-behind e is-e failed
