-- What a reading, and the write of one new page, leave of a file whose change is written.
use Rattle.std.proofs.Common.{◌≡◌, ◌≢◌, ◌<◌, ◌*◌, inl, inr, ℕ, List, [], ◌∷◌, ◌++◌, true, false, Option, Some, None, IsTrue, refl, sym, ap, ◌∙◌, subst, length, arith}
use Rattle.std.specs.Prelude.{slice_get, slice_set, slice_index, slice_index_or, Contains}
use Rattle.std.specs.Option.{option_map}
use Rattle.std.proofs.lemmas.List.{length-set, get_or-set_same, get_or-set_other}
use Rattle.std.proofs.lemmas.Option.{slice_get_within, same_Some}
use Rattle.grid_types.specs.declared.owner.Owner.{Owner}
use Rattle.grid_types.specs.declared.shape.Shape.{Shape}
use Rattle.grid_types.specs.Pages.{page_of}
use Rattle.grid_types.specs.Shapes.{data_page}
use Rattle.disk_trait.specs.declared.disk.Disk.{Ghosts}
use Rattle.disk_trait.specs.Calls.{Changes}
use Rattle.disk_trait.specs.Disk.{Agrees, Stays}
use Rattle.disk_trait.proofs.Calls.{changes_wider, changes_read}
use Rattle.disk_trait.proofs.Moments.{weakened}
use Rattle.page_states.specs.declared.page_state.PageState.TheVariants.{Claimed}
use Rattle.page_states.specs.States.{shows}
use Rattle.file_images.specs.Kept.{Kept}
use Rattle.file_images.specs.Meets.{Meets}
use Rattle.file_images.specs.Steps.{with_page, without_page}
use Rattle.file_images.proofs.Frames.{page_stays}
use Rattle.file_images.proofs.Halves.{get_added}
use Rattle.file_images.proofs.Named.{entry-there}
use Rattle.file_images.proofs.PagesApart.{data_apart}
use Rattle.file_sections.specs.Sections.{StaysShown, IsUnkept}
use Rattle.file_books.specs.Books.{Books}
use Rattle.file_standing.specs.Steps.{with_fresh}
use Rattle.file_redo.specs.RedoLaws.{AreSameBut}
use Rattle.grid_file.specs.Files.{OpenFile, IsOpenFile, AreClaimedBy, client}
use Rattle.grid_file.specs.Pages.{page_here, page_in_image, pages_given}
use Rattle.grid_file.specs.Keeping.{ClaimedAreUnkept, DiffersOn, ReadsFile, ReadAsWritten, HoldsWritten, KeepsFile}
use Rattle.grid_file.specs.CallLaws.{shows_stale}
use Rattle.grid_file.proofs.Found.{first_is_shown}
use Rattle.grid_file.proofs.Telling.{given_stays}

-- an image that stays differs on no pages
stays_differs : (s : Shape) (pages : List ℕ) (x y : List ℕ) → Stays x y → DiffersOn s pages x y
stays_differs s pages x y same = record { same_length = ap length same; others = λ q apart. ap (page_of q) same }

-- one page that is written is among those that may be
agrees_differs : (s : Shape) (pages : List ℕ) (i : ℕ) (x y : List ℕ) → i < length pages → Agrees (data_page s (slice_index pages i) * 4096) 4096 x y → DiffersOn s pages x y
agrees_differs s pages i x y low a = record {
  same_length = a.same_length;
  others = λ q apart. page_stays (data_page s (slice_index pages i)) (data_page s (slice_index pages i) * 4096) 4096 x y (omega arith) (omega arith) a q (λ e. apart i low (sym e));
}

-- a reading goes on with a change as it was
module _ {K : ℕ} {D : Type 0} {g : Ghosts D} {old new : OpenFile D} (r : ReadsFile K g old new) where
  pub reading_keeps : KeepsFile K g old new
  reading_keeps = record {
    books = r.books;
    claimed = r.claimed;
    disk = changes_wider (stays_differs old.books.shape old.claimed) (changes_read r.disk);
    kept = λ k is was. record {
      fresh = was.fresh;
      many = was.many ∙ ap (λ (b : Books). b.shape.pages) (sym r.books);
      reads = subst (λ (z : List ℕ × List (Owner × List ℕ)). ReadAsWritten was.fresh z.0 z.1) (λ i. (sym r.claimed i, sym r.written i)) was.reads;
      others = subst (λ (ps : List ℕ). AreSameBut ps k.fresh was.fresh) (sym r.claimed) was.others;
      meets = r.kept (with_fresh k was.fresh) was.meets;
    };
    moments = λ k is was h. weakened g.moment g.left_since old.disk new.disk _ _ (r.moments (with_fresh k was.fresh) was.meets h) (shows_stale k was.fresh);
  }

  pub reading_gives : pages_given g new ≡ pages_given g old
  reading_gives = given_stays g old new r.books r.disk.honest (λ h o. ap (λ (image : List ℕ). page_in_image old.books image o) (r.disk.seen h))

-- where only claimed pages change, readings of owners give what they gave
module _ {K : ℕ} {D : Type 0} (g : Ghosts D) (old new : OpenFile D) (claimed : AreClaimedBy client old.books.pages old.claimed) (keeps : KeepsFile K g old new) where
  abbrev b : Books
  b = old.books

  -- what shows an owner is not claimed
  unclaimed : (o : Owner) (p i : ℕ) → page_here b o ≡ Some p → i < length old.claimed → slice_index old.claimed i ≢ p
  unclaimed o p i found low e =
      let is = first_is_shown o b.front b.pages p found in
      let same : Some (Claimed client) ≡ Some is.0 = sym (claimed.each i low) ∙ ap (slice_get b.pages) e ∙ is.1 in
      no_claim (ap (shows o b.front) (same_Some (Claimed client) is.0 same) ∙ is.2)
    where
      no_claim : {A : Type 0} → false ≡ true → A
      no_claim f = absurd (cc)

  same_here : IsTrue (g.honest old.disk) → (o : Owner) → page_in_image b (g.seen new.disk) o ≡ page_in_image b (g.seen old.disk) o
  same_here h o = by (page_here b o) refl
    where
      by : (m : Option ℕ) → page_here b o ≡ m → page_in_image b (g.seen new.disk) o ≡ page_in_image b (g.seen old.disk) o
      by None e = ap (option_map (λ p. page_of (data_page b.shape p) (g.seen new.disk))) e ∙ ap (option_map (λ p. page_of (data_page b.shape p) (g.seen old.disk))) (sym e)
      by (Some p) e =
          ap (option_map (λ p. page_of (data_page b.shape p) (g.seen new.disk))) e
          ∙ ap Some ((keeps.disk.outside h).others (data_page b.shape p) (λ i low. data_apart b.shape (slice_index old.claimed i) p (unclaimed o p i e low)))
          ∙ ap (option_map (λ p. page_of (data_page b.shape p) (g.seen old.disk))) (sym e)

  pub writing_gives : pages_given g new ≡ pages_given g old
  writing_gives = given_stays g old new keeps.books keeps.disk.honest same_here

-- the write of the next new page
module _ {K : ℕ} {D : Type 0} (g : Ghosts D) (old : OpenFile D) (sound : IsOpenFile K g old) (more : length old.written < length old.claimed) (disk : D) where
  abbrev page : ℕ
  page = slice_index old.claimed (length old.written)

  -- nothing is known of it
  next_unkept : (k : Kept K) (fresh : List (Option (List ℕ))) → ClaimedAreUnkept k old.books → IsUnkept (with_fresh k fresh) old.books.shape page
  next_unkept k fresh is = record { shape = is.shape; nothing = λ bytes. is.always page bytes (sound.claimed_are.each (length old.written) more) }

  -- it is a page
  inside : page < old.books.shape.pages
  inside = omega (arith, sound.books_are.size, slice_get_within old.books.pages page (Claimed client) (sound.claimed_are.each (length old.written) more))

  -- whatever it reads as, the pages before it read as they did
  others_read : (fresh : List (Option (List ℕ))) (o : Option (List ℕ)) → ReadAsWritten fresh old.claimed old.written → ReadAsWritten (slice_set fresh page o) old.claimed old.written
  others_read fresh o was i w has =
      let low : i < length old.written = slice_get_within old.written i w has in
      get_or-set_other fresh page (slice_index old.claimed i) o None (λ e. sound.claimed_are.distinct i (length old.written) low more (sym e)) ∙ was i w has

  -- and those that are not claimed as they did before the change
  rest_read : (was fresh : List (Option (List ℕ))) (o : Option (List ℕ)) → AreSameBut old.claimed was fresh → AreSameBut old.claimed was (slice_set fresh page o)
  rest_read was fresh o same p apart = get_or-set_other fresh page p o None (λ e. apart (subst (λ (n : ℕ). Contains old.claimed n) (sym e) (entry-there old.claimed (length old.written) more))) ∙ same p apart

  changed : Changes g (Agrees (data_page old.books.shape page * 4096) 4096) old.disk disk → Changes g (DiffersOn old.books.shape old.claimed) old.disk disk
  changed r = changes_wider (λ x y a. agrees_differs old.books.shape old.claimed (length old.written) x y more a) r

  -- a write that failed
  module _ (r : Changes g (Agrees (data_page old.books.shape page * 4096) 4096) old.disk disk)
      (moments : (k : Kept K) → IsUnkept k old.books.shape page → Meets g k old.disk → StaysShown g k old.disk disk) where
    meanwhile : (k : Kept K) → ClaimedAreUnkept k old.books → HoldsWritten g k old → StaysShown g k old.disk disk
    meanwhile k is was h = weakened g.moment g.left_since old.disk disk _ _ (moments (with_fresh k was.fresh) (next_unkept k was.fresh is) was.meets h) (shows_stale k was.fresh)

    pub failed_keeps : ((k : Kept K) → IsUnkept k old.books.shape page → Meets g k old.disk → Meets g (without_page k page) disk)
        → KeepsFile K g old (record { disk = disk; books = old.books; claimed = old.claimed; written = old.written })
    failed_keeps failed = record {
      books = refl;
      claimed = refl;
      disk = changed r;
      kept = λ k is was. record {
        fresh = slice_set was.fresh page None;
        many = length-set was.fresh page None ∙ was.many;
        reads = others_read was.fresh None was.reads;
        others = rest_read k.fresh was.fresh None was.others;
        meets = failed (with_fresh k was.fresh) (next_unkept k was.fresh is) was.meets;
      };
      moments = meanwhile;
    }

    -- a write that was done
    module _ (owner : Owner) (bytes : List ℕ) where
      all_read : (fresh : List (Option (List ℕ))) → length fresh ≡ old.books.shape.pages → page < old.books.shape.pages → ReadAsWritten fresh old.claimed old.written
          → ReadAsWritten (slice_set fresh page (Some bytes)) old.claimed (old.written ++ (owner, bytes) ∷ [])
      all_read fresh many low was i w has = elim (get_added old.written (owner, bytes) w i has) [
        | inl before ↦ others_read fresh (Some bytes) was i w before
        | inr last ↦
            ap (λ (n : ℕ). slice_index_or (slice_set fresh page (Some bytes)) (slice_index old.claimed n) None) last.0
            ∙ get_or-set_same fresh page (Some bytes) None (omega (arith, many, low))
            ∙ ap (λ (x : Owner × List ℕ). Some x.1) (sym last.1)
      ]

      pub written_keeps : ((k : Kept K) → IsUnkept k old.books.shape page → Meets g k old.disk → Meets g (with_page k page bytes) disk)
          → KeepsFile K g old (record { disk = disk; books = old.books; claimed = old.claimed; written = old.written ++ (owner, bytes) ∷ [] })
      written_keeps written = record {
        books = refl;
        claimed = refl;
        disk = changed r;
        kept = λ k is was. record {
          fresh = slice_set was.fresh page (Some bytes);
          many = length-set was.fresh page (Some bytes) ∙ was.many;
          reads = all_read was.fresh was.many inside was.reads;
          others = rest_read k.fresh was.fresh (Some bytes) was.others;
          meets = written (with_fresh k was.fresh) (next_unkept k was.fresh is) was.meets;
        };
        moments = meanwhile;
      }
