-- What the redo of updates leaves of a file: of its books, of its disk, and why it is refused.
use Rattle.std.proofs.Common.{◌≡◌, ◌+◌, ℕ, List, [], length, sym, ap, subst, ◌∙◌}
use Rattle.std.specs.Prelude.{Result, Ok, Err, IfErr}
use Rattle.grid_types.specs.declared.refusal.Refusal.{Refusal}
use Rattle.grid_types.specs.declared.refusal.Refusal.TheVariants as why
use Rattle.disk_trait.specs.declared.disk.Disk.{Ghosts}
use Rattle.disk_trait.specs.Calls.{Changes, OnlyReads, HasCauses}
use Rattle.disk_trait.proofs.Calls.{causes_ok, causes_read, causes_write, causes_other, changes_read, changes_wider}
use Rattle.checkpoints.specs.Disks.{KeepsLength}
use Rattle.file_books.specs.Books.{Books}
use Rattle.file_books.specs.Effects.{Publishing, published_books, swept_books}
use Rattle.query_paths.specs.Pinned.{Place}
use Rattle.query_paths.specs.Paths.{IsGetRefusal}
use Rattle.grid_file.specs.Files.{OpenFile, opened_file, with_claim, without_claim}
use Rattle.grid_file.specs.Keeping.{KeepsFile, ReadsFile}
use Rattle.file_updates.specs.Writing.{IsWriteRefusal, IsGivenBack}
use Rattle.file_opening.specs.Redoing.{KeepsRoot, MayRefuseRedo}

-- books that go on at the same root twice go on at it
pub root-then : {a b c : Books} → KeepsRoot a b → KeepsRoot b c → KeepsRoot a c
root-then p q = record { shape = q.shape ∙ p.shape; session = q.session ∙ p.session; number = q.number ∙ p.number }

-- a call that only reads leaves the length of a disk
pub reading-changes : {D : Type 0} {g : Ghosts D} {old new : D} → OnlyReads g old new → Changes g KeepsLength old new
reading-changes r = changes_wider (λ x y same. ap (λ (c : List ℕ). length c) same) (changes_read r)

module _ {K : ℕ} {D : Type 0} (g : Ghosts D) (f : OpenFile D) where
  -- after a sweep and a reading they do, and nothing is changed
  module _ (clean new : OpenFile D) (sweeps : clean ≡ record f { books = swept_books f.books }) (reads : ReadsFile K g clean new) where
    pub planned-root : KeepsRoot f.books new.books
    planned-root =
        let same = reads.books ∙ ap (λ (h : OpenFile D). h.books) sweeps in
        record { shape = ap (λ (b : Books). b.shape) same; session = ap (λ (b : Books). b.session) same; number = ap (λ (b : Books). b.number) same }

    pub planned-front : new.books.front ≡ f.books.front
    planned-front = ap (λ (b : Books). b.front) reads.books ∙ ap (λ (h : OpenFile D). h.books.front) sweeps

    pub planned-none : f.claimed ≡ [] → new.claimed ≡ []
    planned-none none = reads.claimed ∙ ap (λ (h : OpenFile D). h.claimed) sweeps ∙ none

    pub planned-changes : Changes g KeepsLength f.disk new.disk
    planned-changes = subst (λ (h : OpenFile D). Changes g KeepsLength h.disk new.disk) sweeps (reading-changes reads.disk)

  module _ (count : ℕ) (mid new : OpenFile D) (keeps : KeepsFile K g (with_claim count f) mid) where
    writing-changes : Changes g KeepsLength f.disk mid.disk
    writing-changes = changes_wider (λ x y a. a.same_length) keeps.disk

    -- where a change is published
    module _ (x : Publishing K) (is : new ≡ opened_file mid.disk (published_books mid.books x)) where
      pub published-root : KeepsRoot f.books new.books
      published-root = record {
        shape = ap (λ (h : OpenFile D). h.books.shape) is ∙ ap (λ (b : Books). b.shape) keeps.books;
        session = ap (λ (h : OpenFile D). h.books.session) is ∙ ap (λ (b : Books). b.session) keeps.books;
        number = ap (λ (h : OpenFile D). h.books.number) is ∙ ap (λ (b : Books). b.number) keeps.books;
      }

      pub published-front : new.books.front ≡ f.books.front + 1
      published-front = ap (λ (h : OpenFile D). h.books.front) is ∙ ap (λ (b : Books). b.front + 1) keeps.books

      pub published-changes : Changes g KeepsLength f.disk new.disk
      published-changes = subst (λ (h : OpenFile D). Changes g KeepsLength f.disk h.disk) (sym is) writing-changes

    -- and where the pages are given back
    module _ (is : new ≡ without_claim mid) where
      failed-root : KeepsRoot f.books new.books
      failed-root = record {
        shape = ap (λ (h : OpenFile D). h.books.shape) is ∙ ap (λ (b : Books). b.shape) keeps.books;
        session = ap (λ (h : OpenFile D). h.books.session) is ∙ ap (λ (b : Books). b.session) keeps.books;
        number = ap (λ (h : OpenFile D). h.books.number) is ∙ ap (λ (b : Books). b.number) keeps.books;
      }

      failed-changes : Changes g KeepsLength f.disk new.disk
      failed-changes = subst (λ (h : OpenFile D). Changes g KeepsLength f.disk h.disk) (sym is) writing-changes

  -- where the writing came to nothing
  module _ (count : ℕ) (new : OpenFile D) (undone : IsGivenBack K g count f new) where
    pub undone-root : KeepsRoot f.books new.books
    undone-root = failed-root count undone.failed new undone.keeps undone.back

    pub undone-changes : Changes g KeepsLength f.disk new.disk
    undone-changes = failed-changes count undone.failed new undone.keeps undone.back

    pub undone-none : new.claimed ≡ []
    undone-none = ap (λ (h : OpenFile D). h.claimed) undone.back

module _ {D : Type 0} {g : Ghosts D} where
  -- why new pages are not written, as causes of a redo
  writing-cause : {T : Type 0} (old new : OpenFile D) (bytes : List ℕ) (e : Refusal) → IsWriteRefusal g old new bytes e → HasCauses {T = T} g MayRefuseRedo old.disk new.disk (Err e)
  writing-cause old new bytes why.ReadFault is = causes_read tt is
  writing-cause old new bytes why.WriteFault is = causes_write tt is
  writing-cause old new bytes (why.Damaged page) is = causes_other (why.Damaged page) (λ e. cc) (λ e. cc) tt
  writing-cause old new bytes why.NoMemory is = absurd is
  writing-cause old new bytes (why.Unsure faults before) is = absurd is
  writing-cause old new bytes (why.Stopped faults opened) is = absurd is
  writing-cause old new bytes (why.Full free need) is = absurd is
  writing-cause old new bytes (why.NoCut cells boundaries) is = absurd is
  writing-cause old new bytes why.Foreign is = absurd is
  writing-cause old new bytes (why.Version found) is = absurd is
  writing-cause old new bytes why.Seats is = absurd is
  writing-cause old new bytes why.BadShape is = absurd is
  writing-cause old new bytes why.BadQuery is = absurd is
  writing-cause old new bytes (why.Worn count) is = absurd is
  writing-cause old new bytes (why.Arity found) is = absurd is

  pub writing-causes : {T : Type 0} (old new : OpenFile D) (bytes : List ℕ) (r : Result T Refusal) → IfErr r (IsWriteRefusal g old new bytes) → HasCauses g MayRefuseRedo old.disk new.disk r
  writing-causes old new bytes (Ok x) is = causes_ok x
  writing-causes old new bytes (Err e) is = writing-cause old new bytes e is

  -- why a plan is not found
  planning-cause : {T : Type 0} (K : ℕ) (p : Place) (old new : D) (key bytes : List ℕ) (e : Refusal) → IsGetRefusal K p (g.read_count old) (g.read_count new) key bytes e → HasCauses {T = T} g MayRefuseRedo old new (Err e)
  planning-cause K p old new key bytes why.ReadFault is = causes_read tt is
  planning-cause K p old new key bytes why.WriteFault is = absurd is
  planning-cause K p old new key bytes (why.Damaged page) is = causes_other (why.Damaged page) (λ e. cc) (λ e. cc) tt
  planning-cause K p old new key bytes why.NoMemory is = absurd is
  planning-cause K p old new key bytes (why.Unsure faults before) is = absurd is
  planning-cause K p old new key bytes (why.Stopped faults opened) is = absurd is
  planning-cause K p old new key bytes (why.Full free need) is = absurd is
  planning-cause K p old new key bytes (why.NoCut cells boundaries) is = absurd is
  planning-cause K p old new key bytes why.Foreign is = absurd is
  planning-cause K p old new key bytes (why.Version found) is = absurd is
  planning-cause K p old new key bytes why.Seats is = absurd is
  planning-cause K p old new key bytes why.BadShape is = absurd is
  planning-cause K p old new key bytes why.BadQuery is = absurd is
  planning-cause K p old new key bytes (why.Worn count) is = absurd is
  planning-cause K p old new key bytes (why.Arity found) is = absurd is

  pub planning-causes : {T : Type 0} (K : ℕ) (p : Place) (old new : D) (key bytes : List ℕ) (r : Result T Refusal) → IfErr r (IsGetRefusal K p (g.read_count old) (g.read_count new) key bytes) → HasCauses g MayRefuseRedo old new r
  planning-causes K p old new key bytes (Ok x) is = causes_ok x
  planning-causes K p old new key bytes (Err e) is = planning-cause K p old new key bytes e is
