-- What the writing of a change comes to beside pages that are fresh already.
use Rattle.std.proofs.Common.{◌≡◌, ◌<◌, ℕ, Bool, true, List, length, Option, Some, None, is_some, refl, sym, ap, ◌∙◌, subst, arith, inl, true≢false}
use Rattle.std.specs.Prelude.{slice_get, slice_index_or, Contains}
use Rattle.std.specs.Option.{option_map}
use Rattle.std.proofs.lemmas.Option.{slice_get-map, slice_get_within}
use Rattle.grid_types.specs.declared.layout_change.LoggedUpdate.{LoggedUpdate}
use Rattle.grid_types.specs.declared.owner.Owner.{Owner}
use Rattle.grid_types.specs.declared.shape.Shape.{Shape}
use Rattle.disk_trait.specs.declared.disk.Disk.{Ghosts}
use Rattle.disk_trait.proofs.Moments.{weakened}
use Rattle.grid_model.proofs.Boxes.{one-value}
use Rattle.page_states.specs.declared.page_state.PageState.{PageState}
use Rattle.page_states.specs.declared.page_state.PageState.TheVariants.{Claimed}
use Rattle.layout_pages.specs.Holding.{is_live}
use Rattle.file_images.specs.Kept.{Kept, Shut}
use Rattle.file_images.specs.Leads.{Standing, Lineage, Leads}
use Rattle.file_images.specs.Meets.{Meets, Covers}
use Rattle.file_images.proofs.Covering.{covers_meets}
use Rattle.file_images.proofs.Crashes.{stands_there}
use Rattle.file_sections.specs.Sections.{StaysShown}
use Rattle.file_books.specs.Books.{Books}
use Rattle.file_standing.specs.Open.{StaysStanding}
use Rattle.file_standing.specs.Steps.{with_fresh}
use Rattle.file_redo.specs.Redoing.{newer, as_read, IsRedoing}
use Rattle.file_redo.proofs.Leading.{redo-leads}
use Rattle.file_redo.proofs.Reading.{index-there, read-at}
use Rattle.grid_file.specs.Files.{OpenFile, IsOpenFile, client}
use Rattle.grid_file.specs.Keeping.{ClaimedAreUnkept, HoldsWritten, KeepsFile}
use Rattle.grid_file.specs.RedoLaws.{IsBegunBeside, IsWrittenBeside, WritingGoesOn}
use Rattle.grid_file.proofs.Standing.{index_of, claimed_entry}

-- while a journal is redone nothing is known of claimed pages
module _ {K : ℕ} (b : Books) (k : Kept K) (m : Standing K) (x : Lineage K) (done rest : List (LoggedUpdate K)) (is : IsRedoing b k m x done rest) where
  -- what was read of a page it is known of, and the page is live
  fresh_live : (p : ℕ) (bytes : List ℕ) (state : PageState) → slice_get b.pages p ≡ Some state → slice_get k.fresh p ≡ Some (Some bytes) → is_live state ≡ true
  fresh_live p bytes state has known =
      let low : p < k.shape.pages = omega (arith, slice_get_within k.fresh p (Some bytes) known, is.hold.fresh, ap (λ (s : Shape). s.pages) is.agree.shape) in
      let read : slice_get (as_read k) p ≡ Some (Some bytes) = read-at k.shape.pages k.fresh k.always p low ∙ ap (λ (o : Option (List ℕ)). Some (newer o (slice_index_or k.always p None))) (index_of k.fresh p bytes known) in
      sym (one-value true (is_live state)
      (sym (ap (option_map is_some) read) ∙ sym (slice_get-map is_some (as_read k) p) ∙ ap (λ (bs : List Bool). slice_get bs p) is.hold.holds.known ∙ slice_get-map is_live b.pages p ∙ ap (option_map is_live) has))

  redo_unkept : ClaimedAreUnkept k b
  redo_unkept = record {
    shape = is.agree.shape;
    many = is.hold.fresh;
    always = λ p bytes claimed. redo-leads.unkept b k m x done rest p (Claimed client) bytes is claimed refl;
    fresh = λ p bytes claimed known. true≢false (sym (fresh_live p bytes (Claimed client) claimed known));
  }

module _ {K : ℕ} {D : Type 0} (g : Ghosts D) where
  module _ (old new : OpenFile D) (k : Kept K) (begun : IsBegunBeside g k old) (keeps : KeepsFile K g old new) where
    begun_beside : HoldsWritten g k old
    begun_beside = record {
      fresh = k.fresh;
      many = begun.unkept.many;
      reads = λ i w has. none (sym (ap (λ (ws : List (Owner × List ℕ)). slice_get ws i) begun.none) ∙ has);
      others = λ p apart. refl;
      meets = begun.meets;
    }
      where
        none : {A : Type 0} {w : Owner × List ℕ} → None ≡ Some w → A
        none e = absurd (cc)

    beside : HoldsWritten g k new
    beside = keeps.kept k begun.unkept begun_beside

    written_beside : length new.claimed ≡ length new.written → IsWrittenBeside g k new.claimed new.written new.disk
    written_beside all = record {
      fresh = beside.fresh;
      many = beside.many ∙ ap (λ (b : Books). b.shape.pages) keeps.books ∙ sym begun.unkept.many;
      others = beside.others;
      reads = record { count = all; each = beside.reads };
      meets = beside.meets;
    }

    -- a page that was fresh before is none that is claimed, so that it reads as before
    still_fresh : IsOpenFile K g old → (p : ℕ) (bytes : List ℕ) → slice_get k.fresh p ≡ Some (Some bytes) → slice_get beside.fresh p ≡ Some (Some bytes)
    still_fresh sound p bytes is =
        index-there beside.fresh p bytes
        (beside.others p (λ on. begun.unkept.fresh p bytes (claimed_entry client old.books.pages old.claimed p sound.claimed_are (subst (λ (ps : List ℕ). Contains ps p) keeps.claimed on)) is)
        ∙ index_of k.fresh p bytes is)

    covered : IsOpenFile K g old → Covers (with_fresh k beside.fresh) k
    covered sound = record {
      shape = refl;
      always = λ p bytes is. is;
      fresh = still_fresh sound;
      root = refl;
      other = refl;
      first = refl;
      second = refl;
      half = refl;
      next = inl refl;
      reads = omega arith;
      writes = omega arith;
    }

    stays_beside : IsOpenFile K g old → Meets g k new.disk
    stays_beside sound = covers_meets (with_fresh k beside.fresh) k (covered sound) g new.disk beside.meets

    moments_beside : StaysShown g k old.disk new.disk
    moments_beside = keeps.moments k begun.unkept begun_beside

    standing_beside : (m : Standing K) → Leads k m → k.next ≡ Shut → StaysStanding g m old.disk new.disk
    standing_beside m leads shut h = weakened g.moment g.left_since old.disk new.disk _ _ (moments_beside h) (λ image shows. stands_there k m image shut leads shows)

  pub writing_goes_on : WritingGoesOn K g
  writing_goes_on = record {
    unkept = λ b k m x done rest is. redo_unkept b k m x done rest is;
    written = λ old new k begun keeps all. written_beside old new k begun keeps all;
    stays = λ old new k sound begun keeps. stays_beside old new k begun keeps sound;
    moments = λ old new k begun keeps. moments_beside old new k begun keeps;
    standing = λ old new k m leads shut begun keeps. standing_beside old new k begun keeps m leads shut;
  }
