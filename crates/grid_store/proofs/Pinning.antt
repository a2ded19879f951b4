-- A file that is open at a point of a session: what its front gives, what a crash leaves of it, and that readings leave it there.
use Rattle.std.proofs.Common.{◌≡◌, ◌≤◌, ◌<◌, ◌⊎◌, inl, inr, ℕ, List, Option, Some, None, IsSomeAnd, IsTrue, All, sym, subst, ◌∙◌, arith}
use Rattle.std.proofs.lemmas.List.Elements.{All-filter}
use Rattle.grid_types.specs.declared.owner.Owner.TheVariants.{Bucket}
use Rattle.grid_types.specs.declared.shape.Shape.{Shape}
use Rattle.grid_types.specs.declared.sizes.TheConstants.{MOST_ATTRIBUTES}
use Rattle.grid_types.proofs.Places.{within-limits}
use Rattle.disk_trait.specs.declared.disk.Disk.{Ghosts}
use Rattle.disk_trait.specs.Calls.{OnlyReads}
use Rattle.disk_trait.specs.Moments.{Always, LeavesOnly}
use Rattle.disk_trait.proofs.Moments.{weakened}
use Rattle.grid_model.specs.Lists.{below}
use Rattle.query_paths.specs.Pinned.{IsPinnedTo}
use Rattle.query_paths.proofs.Telling.{all-below}
use Rattle.file_images.specs.Kept.{Kept}
use Rattle.file_images.specs.Leads.{Standing, HasStanding}
use Rattle.file_images.specs.Meets.{Meets}
use Rattle.file_images.specs.Shows.{HoldsPages}
use Rattle.file_images.proofs.Crashes.{stands_there}
use Rattle.file_books.specs.Books.{Books, AreBooksOf, has_page, numbers_now}
use Rattle.file_standing.specs.Files.{AgreeWith, BooksHold, IsFile, InSession}
use Rattle.file_standing.proofs.Leading.{files-lead}
use Rattle.grid_file.specs.Files.{OpenFile}
use Rattle.grid_file.specs.Keeping.{ReadsFile}
use Rattle.grid_file.specs.Pages.{front_place}
use Rattle.grid_file.proofs.Telling.{pinned_held}
use Rattle.client_sessions.specs.Points.{Point, StandsAt}
use Rattle.durable_updates.specs.Points.{IsOpenBeside, IsOpenAsAt}

-- the books of a file have few attributes
pub few_attributes : (K : ℕ) (b : Books) → AreBooksOf K b → K ≤ MOST_ATTRIBUTES
few_attributes K b books = omega (arith, (within-limits b.shape books.lawful).few_attributes, books.attributes)

module _ {K : ℕ} {D : Type 0} (g : Ghosts D) where
  -- its front has the pages of the point, on a disk that tells its content
  pub pinned_at : ((d : D) → IsTrue (g.honest d) → g.may_leave d (g.seen d)) → (f : OpenFile D) (p : Point K) → IsTrue (g.honest f.disk) → IsOpenAsAt g f.books p f.disk → IsPinnedTo (front_place g f) p.at.layout p.at.table
  pinned_at law f p told is = by p.beyond is
    where
      held : (k : Kept K) → AgreeWith f.books k → BooksHold f.books k p.at → Meets g k f.disk → IsPinnedTo (front_place g f) p.at.layout p.at.table
      held k agree hold meets =
          let reads : HoldsPages f.books.shape k.always (g.seen f.disk) = subst (λ (x : Shape). HoldsPages x k.always (g.seen f.disk)) agree.shape ((meets.crash told (g.seen f.disk) (law f.disk told)).pages) in
          pinned_held g f k.always p.at.layout p.at.table told reads hold.holds hold.stands hold.scales

      by : (o : Option (Standing K)) → IsOpenBeside g f.books p.at o f.disk → IsPinnedTo (front_place g f) p.at.layout p.at.table
      by None w = held w.kept w.file.agree w.file.hold w.meets
      by (Some n) w = held w.2.kept w.2.agree w.2.hold w.2.meets

  -- its books hold the point, in what is kept on the file
  pub held_at : (b : Books) (p : Point K) (disk : D) → IsOpenAsAt g b p disk → (k : Kept K) × BooksHold b k p.at
  held_at b p disk is = by p.beyond is
    where
      by : (o : Option (Standing K)) → IsOpenBeside g b p.at o disk → (k : Kept K) × BooksHold b k p.at
      by None w = (w.kept, w.file.hold)
      by (Some n) w = (w.2.kept, w.2.hold)

  -- so the front is its place
  pub front_at : (b : Books) (p : Point K) (disk : D) → IsOpenAsAt g b p disk → p.at.place ≡ b.front
  front_at b p disk is = (held_at b p disk is).1.place

  -- readings leave it there
  pub reads_at : (old new : OpenFile D) (p : Point K) → ReadsFile K g old new → IsOpenAsAt g old.books p old.disk → IsOpenAsAt g new.books p new.disk
  reads_at old new p reads is = by p.beyond is
    where
      by : (o : Option (Standing K)) → IsOpenBeside g old.books p.at o old.disk → IsOpenBeside g new.books p.at o new.disk
      by None w = record {
        kept = w.kept;
        file = subst (λ (b : Books). IsFile b w.kept p.at) (sym reads.books) w.file;
        session = subst (λ (b : Books). InSession b w.kept) (sym reads.books) w.session;
        meets = reads.kept w.kept w.meets;
      }
      by (Some n) w = (
        w.0,
        w.1,
        record {
          kept = w.2.kept;
          agree = subst (λ (b : Books). AgreeWith b w.2.kept) (sym reads.books) w.2.agree;
          hold = subst (λ (b : Books). BooksHold b w.2.kept p.at) (sym reads.books) w.2.hold;
          session = subst (λ (b : Books). InSession b w.2.kept) (sym reads.books) w.2.session;
          doubt = w.2.doubt;
          leads = w.2.leads;
          meets = reads.kept w.2.kept w.2.meets;
          crash = λ told c left. w.2.crash (sym reads.disk.honest ∙ told) c ((reads.disk.crash (sym reads.disk.honest ∙ told) c).0 left);
        },
      )

  -- each image that a crash leaves of it stands at the point
  pub crash_at : (b : Books) (p : Point K) (disk : D) → IsOpenAsAt g b p disk → IsTrue (g.honest disk) → Always (g.may_leave disk) (StandsAt p)
  crash_at b p disk is told c left = by p.beyond is
    where
      by : (o : Option (Standing K)) → IsOpenBeside g b p.at o disk → HasStanding c p.at ⊎ IsSomeAnd o (λ m. HasStanding c m)
      by None w = inl (stands_there w.kept p.at c w.file.shut (files-lead b w.kept p.at w.file) (w.meets.crash told c left))
      by (Some n) w = elim (w.2.crash told c left) [
        | inl here ↦ inl here
        | inr moved ↦ inr (subst (λ (m : Standing K). HasStanding c m) (sym w.1) moved)
      ]

  -- and so does each that is left while it is only read
  pub moments_at : (b : Books) (p : Point K) (old new : D) → OnlyReads g old new → IsOpenAsAt g b p old → IsTrue (g.honest old) → LeavesOnly g.moment g.left_since old new (λ image. StandsAt p image ⊎ StandsAt p image)
  moments_at b p old new reads is told = weakened g.moment g.left_since old new (g.may_leave old) (λ (c : List ℕ). StandsAt p c ⊎ StandsAt p c) (reads.moments told) (λ c left. inl (crash_at b p old is told c left))

-- each bucket number of books is below the number of their pages
pub numbers_within : (b : Books) (n : ℕ) → n ≡ b.shape.pages → All (λ m. m < n) (numbers_now b)
numbers_within b n same = All-filter (λ m. has_page b (Bucket m)) (λ m. m < n) (below b.shape.pages) (all-below b.shape.pages n (omega (arith, same)))
