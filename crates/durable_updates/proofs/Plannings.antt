-- A file that is swept, and then read.
use Rattle.std.proofs.Common.{◌≡◌, ℕ, List, [], length, IsTrue, refl, sym, ap, subst, ◌∙◌, arith}
use Rattle.std.specs.List.{count_by}
use Rattle.disk_trait.specs.declared.disk.Disk.{Ghosts}
use Rattle.disk_trait.specs.Calls.{Changes}
use Rattle.disk_trait.proofs.Calls.{changes_read, changes_wider}
use Rattle.disk_trait.proofs.Moments.{weakened}
use Rattle.grid_model.specs.Lone.{State, free}
use Rattle.page_states.specs.States.{is_claimed, is_free}
use Rattle.query_paths.specs.Pinned.{IsPinnedTo}
use Rattle.checkpoints.specs.Disks.{KeepsLength}
use Rattle.file_images.specs.Leads.{Standing, HasStanding}
use Rattle.file_images.specs.Shows.{Shows}
use Rattle.file_images.proofs.Covering.{covers_meets}
use Rattle.file_images.proofs.Crashes.{stands_there}
use Rattle.file_books.specs.Books.{Books}
use Rattle.file_books.specs.Effects.{swept_books}
use Rattle.file_redo.proofs.Claims.{claims-count}
use Rattle.file_standing.specs.Files.{IsAlone, IsFile, InSession}
use Rattle.file_standing.specs.Open.{IsOpenAlone, IsOpenInSession, StaysStanding}
use Rattle.file_standing.specs.Steps.{swept_kept}
use Rattle.file_standing.proofs.Leading.{files-lead}
use Rattle.file_standing.proofs.PageSteps.{page-steps}
use Rattle.grid_file.specs.CallLaws.{IsNow}
use Rattle.grid_file.specs.Files.{OpenFile}
use Rattle.grid_file.specs.FileLaws.{ReadingsTell}
use Rattle.grid_file.specs.Keeping.{KeepsReading, ReadsFile}
use Rattle.grid_file.specs.Pages.{front_place}
use Rattle.grid_file.proofs.Alike.{place-kept}
use Rattle.durable_updates.specs.Answers.{GoesOn}
use Rattle.durable_updates.specs.Goings.{GoesOnThere, IsOpenSwept}
use Rattle.durable_updates.proofs.Goings.{there-none, there-then}
use Rattle.durable_updates.proofs.Roots.{open-at}

module _ {K : ℕ} {D : Type 0} (g : Ghosts D) where
  -- a sweep leaves a file open where it is
  swept-open : (b : Books) (m : Standing K) (disk : D) → IsOpenInSession g b m disk → IsOpenInSession g (swept_books b) m disk
  swept-open b m disk w = record {
    kept = swept_kept b w.kept;
    file = page-steps.sweep b w.kept m w.file;
    session = λ r newest. w.session r newest;
    meets = covers_meets w.kept (swept_kept b w.kept) (page-steps.covered b w.kept) g disk w.meets;
  }

  swept-alone : (b : Books) (m : Standing K) (s : State K) (disk : D) → IsOpenAlone g b m s disk → IsOpenAlone g (swept_books b) m s disk
  swept-alone b m s disk w = record {
    kept = swept_kept b w.kept;
    file = page-steps.sweep b w.kept m w.file;
    session = λ r newest. w.session r newest;
    alone = page-steps.sweep_alone b w.kept m s w.file w.alone;
    meets = covers_meets w.kept (swept_kept b w.kept) (page-steps.covered b w.kept) g disk w.meets;
  }

  swept-there : (f clean : OpenFile D) → clean ≡ record f { books = swept_books f.books } → KeepsReading f.books clean.books → f.claimed ≡ [] → IsNow g f.disk → GoesOnThere K g f clean
  swept-there f clean is reading none now =
      let still : GoesOnThere K g f f = there-none f none now in
      let books : clean.books ≡ swept_books f.books = ap (λ (x : OpenFile D). x.books) is in
      let disk : clean.disk ≡ f.disk = ap (λ (x : OpenFile D). x.disk) is in
      record {
        moments = λ m w. subst (λ (d : D). StaysStanding g m f.disk d) (sym disk) (still.moments m w);
        stays = λ m w. subst (λ (x : OpenFile D). IsOpenInSession g x.books m x.disk) (sym is) (swept-open f.books m f.disk w);
        reading = reading;
        claims = ap (λ (b : Books). count_by is_claimed b.pages) books ∙ (claims-count {K = K}).sweep f.books;
        same = subst (λ (x : OpenFile D). GoesOn f x) (sym is) (record { shape = refl; session = refl; unclaimed = none; front = omega arith; number = omega arith });
        changes = subst (λ (d : D). Changes g KeepsLength f.disk d) (sym disk) still.changes;
      }

  -- a reading leaves it there too
  read-open : (a b : OpenFile D) (m : Standing K) → ReadsFile K g a b → IsOpenInSession g a.books m a.disk → IsOpenInSession g b.books m b.disk
  read-open a b m reads w = record {
    kept = w.kept;
    file = subst (λ (x : Books). IsFile x w.kept m) (sym reads.books) w.file;
    session = subst (λ (x : Books). InSession x w.kept) (sym reads.books) w.session;
    meets = reads.kept w.kept w.meets;
  }

  read-alone : (a b : OpenFile D) (m : Standing K) (s : State K) → ReadsFile K g a b → IsOpenAlone g a.books m s a.disk → IsOpenAlone g b.books m s b.disk
  read-alone a b m s reads w = record {
    kept = w.kept;
    file = subst (λ (x : Books). IsFile x w.kept m) (sym reads.books) w.file;
    session = subst (λ (x : Books). InSession x w.kept) (sym reads.books) w.session;
    alone = subst (λ (x : Books). IsAlone x w.kept m s) (sym reads.books) w.alone;
    meets = reads.kept w.kept w.meets;
  }

  reads-there : (a b : OpenFile D) → ReadsFile K g a b → a.claimed ≡ [] → IsNow g a.disk → GoesOnThere K g a b
  reads-there a b reads none now =
      let still : GoesOnThere K g a a = there-none a none now in
      record {
        moments = λ m w told. weakened g.moment g.left_since a.disk b.disk (Shows w.kept) (λ (c : List ℕ). HasStanding c m) (reads.moments w.kept w.meets told) (λ c shows. stands_there w.kept m c w.file.shut (files-lead a.books w.kept m w.file) shows);
        stays = λ m w. read-open a b m reads w;
        reading = subst (λ (x : Books). KeepsReading a.books x) (sym reads.books) still.reading;
        claims = ap (λ (x : Books). count_by is_claimed x.pages) reads.books;
        same = record {
          shape = ap (λ (x : Books). x.shape) reads.books;
          session = ap (λ (x : Books). x.session) reads.books;
          unclaimed = reads.claimed ∙ none;
          front = omega (arith, ap (λ (x : Books). x.front) reads.books);
          number = omega (arith, ap (λ (x : Books). x.number) reads.books);
        };
        changes = changes_wider (λ x y same. ap (λ (c : List ℕ). length c) same) (changes_read reads.disk);
      }

  module _ (f clean new : OpenFile D) (is : clean ≡ record f { books = swept_books f.books }) (reading : KeepsReading f.books clean.books) (none : f.claimed ≡ []) (now : IsNow g f.disk) (later : IsNow g clean.disk) (reads : ReadsFile K g clean new) where
    pub planned-there : GoesOnThere K g f new
    planned-there = there-then (swept-there f clean is reading none now) (reads-there clean new reads (ap (λ (x : OpenFile D). x.claimed) is ∙ none) later)

    -- its front has the pages of where it is open
    pub planned-pinned : ReadingsTell K g → IsTrue (g.honest f.disk) → (m : Standing K) → IsOpenInSession g f.books m f.disk → IsPinnedTo (front_place g clean) m.layout m.table
    planned-pinned tell told m w =
        let goes = swept-there f clean is reading none now in
        tell.pinned clean m (goes.changes.honest ∙ told) (open-at g m clean.books clean.disk (goes.stays m w))

    -- and as many pages are free as a lone caller counts
    pub planned-swept : (m : Standing K) (s : State K) → IsOpenAlone g f.books m s f.disk → count_by is_claimed f.books.pages ≡ 0 → IsOpenSwept g new.books m s new.disk
    planned-swept m s w unclaimed =
        let books : new.books ≡ swept_books f.books = reads.books ∙ ap (λ (x : OpenFile D). x.books) is in
        record {
          alone = read-alone clean new m s reads (subst (λ (x : OpenFile D). IsOpenAlone g x.books m s x.disk) (sym is) (swept-alone f.books m s f.disk w));
          unclaimed = ap (λ (b : Books). count_by is_claimed b.pages) books ∙ (claims-count {K = K}).sweep f.books ∙ unclaimed;
          counted = ap (λ (b : Books). count_by is_free b.pages) books ∙ page-steps.counted f.books w.kept m s w.file w.alone unclaimed ∙ sym (ap (λ (b : Books). free b.shape s) books);
        }

    -- the front is the place that it was
    pub planned-place : front_place g clean ≡ front_place g f
    planned-place = ap (λ (x : OpenFile D). front_place g x) is ∙ place-kept g f (swept_books f.books) (subst (λ (b : Books). KeepsReading f.books b) (ap (λ (x : OpenFile D). x.books) is) reading)
