-- What a claim begins, and what the writing of a change comes to.
use Rattle.std.proofs.Common.{◌≡◌, ℕ, zero, suc, List, Option, Some, None, refl, sym, ap, ◌∙◌, subst, length, replicate, arith, inl}
use Rattle.std.specs.Prelude.{slice_get, slice_index_or, Contains}
use Rattle.std.proofs.lemmas.Option.{get_or_from_slice_get}
use Rattle.page_states.specs.declared.page_state.PageState.{PageState}
use Rattle.page_states.specs.declared.page_state.PageState.TheVariants.{Claimed}
use Rattle.std.proofs.lemmas.List.{length-replicate}
use Rattle.grid_types.specs.declared.layout_change.LayoutChange.{LayoutChange}
use Rattle.grid_types.specs.declared.owner.Owner.{Owner}
use Rattle.grid_types.specs.declared.update.Update.{Update}
use Rattle.disk_trait.specs.declared.disk.Disk.{Ghosts}
use Rattle.disk_trait.proofs.Moments.{weakened}
use Rattle.grid_model.specs.Lawful.{IsUpdateOf}
use Rattle.grid_model.specs.Layouts.{BucketBox}
use Rattle.grid_model.proofs.Boundaries.{among-index}
use Rattle.grid_model.proofs.Members.{among-from-contains}
use Rattle.history_pages.specs.NewPages.{new_pages}
use Rattle.history_pages.specs.PageLaws.{IsChange}
use Rattle.file_images.specs.Kept.{Kept}
use Rattle.file_images.specs.Leads.{Standing}
use Rattle.file_images.specs.Meets.{Meets, Covers}
use Rattle.file_images.proofs.Covering.{covers_meets}
use Rattle.file_images.proofs.Crashes.{stands_there}
use Rattle.file_books.specs.Books.{Books}
use Rattle.file_standing.specs.Files.{IsFile}
use Rattle.file_standing.specs.Open.{StaysStanding}
use Rattle.file_standing.specs.Steps.{with_fresh}
use Rattle.file_standing.proofs.Leading.{claimed-unkept, files-lead}
use Rattle.file_standing.proofs.PageSteps.{page-steps}
use Rattle.grid_file.specs.Files.{OpenFile, IsOpenFile, AreClaimedBy, client}
use Rattle.grid_file.specs.Keeping.{ClaimedAreUnkept, HoldsWritten, KeepsFile}
use Rattle.grid_file.specs.FileLaws.{IsBegun, IsWrittenOut, WritingStands}
use Rattle.grid_file.proofs.Claiming.{publishable}

-- where nothing is asked of any page, none is asked to hold something
nothing_asked : {A : Type 0} (n p : ℕ) (bytes : List ℕ) → slice_get (replicate n None) p ≡ Some (Some bytes) → A
nothing_asked zero p bytes e = absurd (cc)
nothing_asked (suc n) zero bytes e = absurd (cc)
nothing_asked (suc n) (suc p) bytes e = nothing_asked n p bytes e

-- what is known of a page, by its number
pub index_of : (xs : List (Option (List ℕ))) (p : ℕ) (bytes : List ℕ) → slice_get xs p ≡ Some (Some bytes) → slice_index_or xs p None ≡ Some bytes
index_of xs p bytes is = get_or_from_slice_get xs p (Some bytes) None is

-- each of the claimed pages is claimed
pub claimed_entry : (seat : ℕ) (states : List PageState) (pages : List ℕ) (p : ℕ) → AreClaimedBy seat states pages → Contains pages p → slice_get states p ≡ Some (Claimed seat)
claimed_entry seat states pages p are on = let at = among-index pages p (among-from-contains pages p on) in subst (λ (n : ℕ). slice_get states n ≡ Some (Claimed seat)) at.2 (are.each at.0 at.1)

-- at a standing nothing is known of claimed pages
pub file_unkept : {K : ℕ} (b : Books) (k : Kept K) (m : Standing K) → IsFile b k m → ClaimedAreUnkept k b
file_unkept b k m is = record {
  shape = is.agree.shape;
  many = ap length is.hold.fresh ∙ length-replicate b.shape.pages None;
  always = λ p bytes claimed. claimed-unkept b k m p client bytes is claimed;
  fresh = λ p bytes claimed known. nothing_asked b.shape.pages p bytes (sym (ap (λ (xs : List (Option (List ℕ))). slice_get xs p) is.hold.fresh) ∙ known);
}

module _ {K : ℕ} {D : Type 0} (g : Ghosts D) where
  -- where nothing is written, the disk holds what is kept beside that
  pub begun_holds : (k : Kept K) (m : Standing K) (f : OpenFile D) → IsBegun g k m f → HoldsWritten g k f
  begun_holds k m f is = record {
    fresh = k.fresh;
    many = ap length is.file.hold.fresh ∙ length-replicate f.books.shape.pages None;
    reads = λ i w has. none (sym (ap (λ (ws : List (Owner × List ℕ)). slice_get ws i) is.none) ∙ has);
    others = λ p apart. refl;
    meets = is.meets;
  }
    where
      none : {A : Type 0} {w : Owner × List ℕ} → None ≡ Some w → A
      none e = absurd (cc)

  module _ (old new : OpenFile D) (k : Kept K) (m : Standing K) (begun : IsBegun g k m old) (keeps : KeepsFile K g old new) where
    holds : HoldsWritten g k new
    holds = keeps.kept k (file_unkept old.books k m begun.file) (begun_holds k m old begun)

    file_there : IsFile new.books k m
    file_there = subst (λ (b : Books). IsFile b k m) (sym keeps.books) begun.file

    -- what was written need not be asked
    less : Covers (with_fresh k holds.fresh) k
    less = record {
      shape = refl;
      always = λ p bytes is. is;
      fresh = λ p bytes is. nothing_asked old.books.shape.pages p bytes (sym (ap (λ (xs : List (Option (List ℕ))). slice_get xs p) begun.file.hold.fresh) ∙ is);
      root = refl;
      other = refl;
      first = refl;
      second = refl;
      half = refl;
      next = inl refl;
      reads = omega arith;
      writes = omega arith;
    }

    pub stays_there : IsFile new.books k m × Meets g k new.disk
    stays_there = (file_there, covers_meets (with_fresh k holds.fresh) k less g new.disk holds.meets)

    pub moments_stand : StaysStanding g m old.disk new.disk
    moments_stand h = weakened g.moment g.left_since old.disk new.disk _ _ (keeps.moments k (file_unkept old.books k m begun.file) (begun_holds k m old begun) h) (λ image shows. stands_there k m image begun.file.shut (files-lead old.books k m begun.file) shows)

    pub written_out : (e : ℕ × BucketBox K) (u : Update K) (n : LayoutChange) → IsOpenFile K g new → IsChange new.books.shape m.layout m.table u n e → IsUpdateOf K u → new.written ≡ new_pages m.layout m.table u n e
        → length new.claimed ≡ length new.written → IsWrittenOut g new.books k m e u n new.claimed new.disk
    written_out e u n sound change update pages all = record {
      fresh = holds.fresh;
      written = record {
        change = change;
        update = update;
        claimed = publishable client new.books.pages new.claimed sound.claimed_are;
        reads = record {
          count = all ∙ ap length pages;
          each = λ i w has. holds.reads i w (ap (λ (ws : List (Owner × List ℕ)). slice_get ws i) pages ∙ has);
        };
      };
      meets = holds.meets;
    }

  pub writing_stands : WritingStands K g
  writing_stands = record {
    claims = λ f k m count is meets. record { file = page-steps.claim f.books k m client count is; meets = meets; none = refl };
    gives_back = λ f k m is meets. record { file = page-steps.giving_back f.books k m client is; meets = meets; none = refl };
    written = λ old new k m e u n sound begun keeps change update pages all. written_out old new k m begun keeps e u n sound change update pages all;
    stays = λ old new k m begun keeps. stays_there old new k m begun keeps;
    moments = λ old new k m begun keeps. moments_stand old new k m begun keeps;
  }
