-- What the commit of one update leaves of a file in which it may be committed.
use Rattle.std.proofs.Common.{◌≡◌, ◌<◌, inl, inr, ◌+◌, ℕ, zero, suc, List, replicate, Option, Some, None, refl, sym, ap, subst, ◌∙◌, arith}
use Rattle.grid_types.specs.declared.update.Update.{Update}
use Rattle.disk_trait.specs.declared.disk.Disk.{Ghosts}
use Rattle.disk_trait.specs.Calls.{IsSynced}
use Rattle.disk_trait.proofs.Moments.{weakened}
use Rattle.grid_model.proofs.Boxes.{some-not-none}
use Rattle.grid_model.specs.Layouts.{BucketBox}
use Rattle.grid_model.specs.Lone.{State, published}
use Rattle.grid_model.specs.Spellings.{LoggedBatch}
use Rattle.file_images.specs.Kept.{NextSlot, Flying, InDoubt, Kept, used}
use Rattle.file_images.specs.Leads.{Standing, HasStanding, behind, Leads}
use Rattle.file_images.specs.Meets.{AreFewer, Meets, Covers}
use Rattle.file_images.specs.Shows.{Shows}
use Rattle.file_images.specs.Steps.{IsNextSlot, with_doubt, with_slot, with_settled}
use Rattle.file_images.proofs.Covering.{covers_meets, settled_meets}
use Rattle.file_images.proofs.Histories.{one_doubt}
use Rattle.file_images.proofs.NewFile.{get_replicate}
use Rattle.file_images.proofs.PagesLeading.{leads_fresh}
use Rattle.file_images.proofs.Standings.{shows_stands}
use Rattle.file_sections.specs.Sections.{StaysShown}
use Rattle.file_books.specs.Books.{Books}
use Rattle.file_books.specs.Effects.{Publishing, published_books, committed_books, used_of}
use Rattle.file_standing.specs.Files.{IsFile, IsAlone, InSession}
use Rattle.file_standing.specs.Open.{IsOpenInSession, IsOpenAlone}
use Rattle.file_standing.specs.Steps.{batch_of_one, with_fresh, committed_kept}
use Rattle.file_standing.proofs.Books.{used-form}
use Rattle.file_standing.proofs.Committing.{commit-stands}
use Rattle.commits.specs.Commits.{IsCommitting, StandsOrMoved, StaysOrMoves, IsDoubtful}

-- a batch in doubt does not fly
doubt-not-flying : {K : ℕ} (d : LoggedBatch K) → ◌≡◌ {A = NextSlot K} (InDoubt d) Flying → ⊥
doubt-not-flying d e = cc

-- where nothing is known of any page, less is not known
none-fewer : (then : List (Option (List ℕ))) (n : ℕ) → AreFewer then (replicate n None)
none-fewer then n p bytes at = absurd (some-not-none bytes (get_replicate n None (Some bytes) p at))

module _ {K : ℕ} (b : Books) (k : Kept K) (m : Standing K) (e : ℕ × BucketBox K) (u : Update K) (x : Publishing K) (fresh : List (Option (List ℕ))) (is : IsCommitting b k m e u x fresh) where
  abbrev d : LoggedBatch K
  d = batch_of_one b u x.note

  abbrev in-doubt : Kept K
  in-doubt = with_doubt (with_fresh k fresh) d

  abbrev after : Books
  after = committed_books (published_books b x)

  abbrev kept-after : Kept K
  kept-after = committed_kept b k x.pages fresh d

  used-agrees : (h : ℕ) → used k h ≡ used_of b h
  used-agrees zero = is.file.agree.first
  used-agrees (suc h) = is.file.agree.second

  -- the slot behind the used ones of the current half is the next one
  pub next-slot : (slot : ℕ) → slot ≡ used_of b b.half → IsNextSlot (with_fresh k fresh) b.shape b.half slot
  next-slot slot here = record {
    shape = is.file.agree.shape;
    shut = is.file.shut;
    half_is = is.file.agree.half;
    slot_is = used-agrees k.half ∙ ap (used_of b) is.file.agree.half ∙ sym here;
  }

  leads-in-doubt : Leads in-doubt m
  leads-in-doubt = commit-stands.during b k m e u x.note x.pages fresh is.file is.session is.written

  -- an image that shows the batch in doubt has the standing, or the one behind it
  stands-or-moved : (image : List ℕ) → Shows in-doubt image → StandsOrMoved m d image
  stands-or-moved image shows = elim (shows_stands in-doubt image m shows (doubt-not-flying d) leads-in-doubt) [
    | inl stands ↦ inl stands
    | inr more ↦ inr (subst (λ (c : LoggedBatch K). HasStanding image (behind m c)) (sym (one_doubt d more.0 more.1)) more.2)
  ]

  module _ {D : Type 0} (g : Ghosts D) where
    -- so it is at each moment
    pub stays-or-moves : (old new : D) → StaysShown g in-doubt old new → StaysOrMoves g m d old new
    stays-or-moves old new shown h = weakened g.moment g.left_since old new (Shows in-doubt) (StandsOrMoved m d) (shown h) stands-or-moved

    -- while the batch is in doubt
    pub doubtful : (disk : D) → Meets g in-doubt disk → IsDoubtful g b m d disk
    doubtful disk was = record {
      kept = with_doubt k d;
      agree = record {
        shape = is.file.agree.shape;
        number = is.file.agree.number;
        root = is.file.agree.root;
        tried = is.file.agree.tried;
        half = is.file.agree.half;
        two = is.file.agree.two;
        first = is.file.agree.first;
        second = is.file.agree.second;
      };
      hold = record {
        place = is.file.hold.place;
        scales = is.file.hold.scales;
        records = is.file.hold.records;
        buckets = is.file.hold.buckets;
        stands = is.file.hold.stands;
        size = is.file.hold.size;
        holds = is.file.hold.holds;
        fresh = is.file.hold.fresh;
      };
      session = is.session;
      doubt = refl;
      leads = λ w may. let r = leads-in-doubt w may in record { lineage = r.lineage; along = leads_fresh in-doubt k.fresh m w r.lineage r.along };
      meets = covers_meets in-doubt (with_doubt k d) less g disk was;
      crash = λ h image may. stands-or-moved image (was.crash h image may);
    }
      where
        less : Covers in-doubt (with_doubt k d)
        less = record {
          shape = refl;
          always = λ p bytes at. at;
          fresh = subst (AreFewer fresh) (sym is.file.hold.fresh) (none-fewer fresh b.shape.pages);
          root = refl;
          other = refl;
          first = refl;
          second = refl;
          half = refl;
          next = inl refl;
          reads = omega arith;
          writes = omega arith;
        }

    module _ (room : used_of b b.half < b.shape.slots) (disk : D) (was : Meets g (with_slot (with_fresh k fresh) d) disk) (synced : IsSynced g disk) where
      file-after : IsFile after kept-after (behind m d)
      file-after = subst (λ (y : Publishing K). IsFile (committed_books (published_books b y)) kept-after (behind m d)) (sym is.publishes) (commit-stands.after b k m e u x.note x.pages fresh is.file is.session is.written room)

      session-after : InSession after kept-after
      session-after w may = is.session w may ∙ sym (ap (λ (c : Books). c.session) (used-form (published_books b x) b.half (used_of (published_books b x) b.half + 1)))

      meets-after : Meets g kept-after disk
      meets-after = covers_meets (with_settled (with_slot (with_fresh k fresh) d) x.pages) kept-after less g disk (settled_meets g (with_slot (with_fresh k fresh) d) x.pages disk was synced)
        where
          less : Covers (with_settled (with_slot (with_fresh k fresh) d) x.pages) kept-after
          less = record {
            shape = refl;
            always = λ p bytes at. at;
            fresh = none-fewer fresh b.shape.pages;
            root = refl;
            other = refl;
            first = refl;
            second = refl;
            half = refl;
            next = inl refl;
            reads = omega arith;
            writes = omega arith;
          }

      -- once the batch counts, and the change is published
      pub open-after : IsOpenInSession g after (behind m d) disk
      open-after = record { kept = kept-after; file = file-after; session = session-after; meets = meets-after }

      pub alone-after : (s : State K) → IsAlone b k m s → IsOpenAlone g after (behind m d) (published e u x.note s) disk
      alone-after s alone = record {
        kept = kept-after;
        file = file-after;
        session = session-after;
        alone = subst (λ (y : Publishing K). IsAlone (committed_books (published_books b y)) kept-after (behind m d) (published e u x.note s)) (sym is.publishes)
            (commit-stands.after_alone b k m s e u x.note x.pages fresh is.file is.session alone is.written room);
        meets = meets-after;
      }
