-- Calls that only read, and the writing of a change, leave what they leave one after the other too.
use Rattle.std.specs.Prelude.{ℕ, List, Option, IsTrue}
use Rattle.std.proofs.Common.{refl, sym, subst, ◌∙◌}
use Rattle.grid_types.specs.declared.shape.Shape.{Shape}
use Rattle.disk_trait.specs.declared.disk.Disk.{Ghosts}
use Rattle.disk_trait.specs.Calls.{Changes}
use Rattle.disk_trait.proofs.Calls as calls
use Rattle.disk_trait.proofs.Moments.{started, joined}
use Rattle.file_images.specs.Kept.{Kept}
use Rattle.file_images.specs.Shows.{Shows}
use Rattle.file_books.specs.Books.{Books}
use Rattle.file_standing.specs.Steps.{with_fresh}
use Rattle.grid_file.specs.Files.{OpenFile}
use Rattle.grid_file.specs.Keeping.{ClaimedAreUnkept, DiffersOn, ReadsFile, KeepsFile}

-- since this moment a crash leaves what it may leave now
abbrev pub IsNow : {D : Type 0} → Ghosts D → D → Type 0
IsNow g d = (c : List ℕ) → IsTrue (g.honest d) → g.left_since d (g.moment d) c → g.may_leave d c

module _ {K : ℕ} {D : Type 0} {g : Ghosts D} where
  -- where there is no call a file is only read
  pub reads_none : (f : OpenFile D) → IsNow g f.disk → ReadsFile K g f f
  reads_none f now = record {
    books = refl;
    claimed = refl;
    written = refl;
    disk = calls.reads_none (λ h c left. now c h left);
    kept = λ k was. was;
    moments = λ k was h. started g.moment g.left_since f.disk (Shows k) (λ c left. was.crash h c (now c h left));
  }

  -- two calls that only read a file are one
  pub reads_on : {a b c : OpenFile D} → ReadsFile K g a b → ReadsFile K g b c → ReadsFile K g a c
  reads_on {a} {b} {c} p q = record {
    books = q.books ∙ p.books;
    claimed = q.claimed ∙ p.claimed;
    written = q.written ∙ p.written;
    disk = calls.reads_then p.disk q.disk;
    kept = λ k was. q.kept k (p.kept k was);
    moments = λ k was h. joined g.moment g.left_since a.disk b.disk c.disk (Shows k) (Shows k) (Shows k) (p.moments k was h) (q.moments k (p.kept k was) (p.disk.honest ∙ h)) (λ i shows. shows) (λ i shows. shows);
  }

-- an image differs from itself on no page
pub differs_none : (s : Shape) (pages : List ℕ) (x : List ℕ) → DiffersOn s pages x x
differs_none s pages x = record { same_length = refl; others = λ q apart. refl }

-- images that differ on pages twice differ on these
pub differs_on : (s : Shape) (pages : List ℕ) (x y z : List ℕ) → DiffersOn s pages x y → DiffersOn s pages y z → DiffersOn s pages x z
differs_on s pages x y z p q = record { same_length = q.same_length ∙ p.same_length; others = λ n apart. q.others n apart ∙ p.others n apart }

-- what fresh pages read as is nothing to an image
pub shows_stale : {K : ℕ} (k : Kept K) (fresh : List (Option (List ℕ))) (image : List ℕ) → Shows (with_fresh k fresh) image → Shows k image
shows_stale k fresh image was = record {
  sizes = record { two = was.sizes.two; first = was.sizes.first; second = was.sizes.second };
  shape = was.shape;
  roots = was.roots;
  pages = was.pages;
  formed = was.formed;
  slots = was.slots;
  unused = λ h i is. was.unused h i (record { two = is.two; inside = is.inside; behind = is.behind; apart = is.apart });
  next = was.next;
}

module _ {K : ℕ} {D : Type 0} {g : Ghosts D} where
  -- where there is no call a change goes on as it was
  pub keeps_none : (f : OpenFile D) → IsNow g f.disk → KeepsFile K g f f
  keeps_none f now = record {
    books = refl;
    claimed = refl;
    disk = calls.changes_none (differs_none f.books.shape f.claimed) now;
    kept = λ k is was. was;
    moments = λ k is was h. started g.moment g.left_since f.disk (Shows k) (λ c left. shows_stale k was.fresh c (was.meets.crash h c (now c h left)));
  }

  -- two calls of the writing of a change are one
  pub keeps_on : {a b c : OpenFile D} → KeepsFile K g a b → KeepsFile K g b c → KeepsFile K g a c
  keeps_on {a} {b} {c} p q = record {
    books = q.books ∙ p.books;
    claimed = q.claimed ∙ p.claimed;
    disk = calls.changes_then (λ x y one. one) (differs_on a.books.shape a.claimed)
        p.disk (subst (λ (z : Shape × List ℕ). Changes g (DiffersOn z.0 z.1) b.disk c.disk) (λ i. ((p.books i).shape, p.claimed i)) q.disk);
    kept = λ k is was. q.kept k (there k is) (p.kept k is was);
    moments = λ k is was h. joined g.moment g.left_since a.disk b.disk c.disk (Shows k) (Shows k) (Shows k) (p.moments k is was h) (q.moments k (there k is) (p.kept k is was) (p.disk.honest ∙ h)) (λ i shows. shows) (λ i shows. shows);
  }
    where
      there : (k : Kept K) → ClaimedAreUnkept k a.books → ClaimedAreUnkept k b.books
      there k is = subst (λ (x : Books). ClaimedAreUnkept k x) (sym p.books) is
