-- What readings give stays where the pages of owners do, and is that of the standing at which a file is open.
use Rattle.std.proofs.Common.{◌≡◌, ◌≤◌, ◌<◌, ◌&&◌, ℕ, Bool, true, false, cond, List, map, Option, Some, None, is_some, IsTrue, refl, sym, ap, ◌∙◌, subst}
use Rattle.std.specs.Prelude.{slice_get}
use Rattle.std.specs.Option.{option_map}
use Rattle.std.specs.List.{list_any}
use Rattle.std.proofs.lemmas.Bool.{le-leb}
use Rattle.grid_types.specs.declared.owner.Owner.{Owner}
use Rattle.grid_types.specs.declared.owner.Owner.TheVariants.{Bucket}
use Rattle.grid_types.specs.declared.shape.Shape.{Shape}
use Rattle.grid_types.specs.Pages.{page_of}
use Rattle.grid_types.specs.Shapes.{data_page}
use Rattle.disk_trait.specs.declared.disk.Disk.{Ghosts}
use Rattle.grid_model.specs.LayoutLaws.{StandsOver}
use Rattle.grid_model.specs.Layouts.{Layout, box}
use Rattle.grid_model.specs.Tables.{Table}
use Rattle.history_pages.specs.OwnerPages.{owner_page}
use Rattle.history_pages.proofs.Ascending.{same-numbers, entries-ascend, passing-ascend}
use Rattle.history_pages.proofs.Named.{bucket-named}
use Rattle.history_pages.proofs.Numbers.{found-where}
use Rattle.query_paths.specs.Pinned.{IsPinnedTo}
use Rattle.page_states.specs.declared.page_state.PageState.TheVariants.{Live}
use Rattle.page_states.specs.States.{shows}
use Rattle.page_states.proofs.Endings.{same_owner_refl}
use Rattle.layout_pages.specs.Holding.{HoldLayout, bytes_in}
use Rattle.layout_pages.proofs.Current.{current-page}
use Rattle.layout_pages.proofs.Live.{live-known}
use Rattle.layout_pages.proofs.Present.{value-of}
use Rattle.file_images.specs.Kept.{Kept}
use Rattle.file_images.specs.Leads.{Standing}
use Rattle.file_images.specs.Meets.{Meets}
use Rattle.file_images.specs.Shows.{HoldsPages}
use Rattle.file_books.specs.Books.{Books, has_page, numbers_now}
use Rattle.file_state.proofs.Shown.{few_shown, shown_is}
use Rattle.file_state.proofs.Filters.{among_passing}
use Rattle.file_standing.specs.Open.{IsOpenAt}
use Rattle.file_redo.specs.Redoing.{as_read, ReadAsHeld}
use Rattle.file_redo.proofs.Reading.{read-held}
use Rattle.grid_file.specs.Files.{OpenFile}
use Rattle.grid_file.specs.Pages.{page_here, page_in_image, pages_given, front_place}
use Rattle.grid_file.specs.FileLaws.{ReadingsTell}
use Rattle.grid_file.specs.RedoLaws.{RedoReadingsTell}
use Rattle.grid_file.proofs.Found.{none_first, shown_first}

-- what a disk gives that tells its content
pub given_told : {D : Type 0} (g : Ghosts D) (f : OpenFile D) → IsTrue (g.honest f.disk) → pages_given g f ≡ Some (page_in_image f.books (g.seen f.disk))
given_told g f h = ap (λ (b : Bool). cond b (Some (page_in_image f.books (g.seen f.disk))) None) h

-- what readings give stays where books and the pages of owners do
pub given_stays : {D : Type 0} (g : Ghosts D) (old new : OpenFile D) → new.books ≡ old.books → g.honest new.disk ≡ g.honest old.disk
    → (IsTrue (g.honest old.disk) → (o : Owner) → page_in_image old.books (g.seen new.disk) o ≡ page_in_image old.books (g.seen old.disk) o) → pages_given g new ≡ pages_given g old
given_stays g old new books honest same = ap (λ (b : Books). cond (g.honest new.disk) (Some (page_in_image b (g.seen new.disk))) None) books ∙ by (g.honest old.disk) refl
  where
    by : (b : Bool) → g.honest old.disk ≡ b → cond (g.honest new.disk) (Some (page_in_image old.books (g.seen new.disk))) None ≡ cond (g.honest old.disk) (Some (page_in_image old.books (g.seen old.disk))) None
    by true e =
        ap (λ (b : Bool). cond b (Some (page_in_image old.books (g.seen new.disk))) None) (honest ∙ e)
        ∙ ap Some (λ i o. same e o i)
        ∙ ap (λ (b : Bool). cond b (Some (page_in_image old.books (g.seen old.disk))) None) (sym e)
    by false e =
        ap (λ (b : Bool). cond b (Some (page_in_image old.books (g.seen new.disk))) None) (honest ∙ e)
        ∙ ap (λ (b : Bool). cond b (Some (page_in_image old.books (g.seen old.disk))) None) (sym e)

-- a current page shows its owner from where it began on
shown_now : (o : Owner) (front from : ℕ) → from ≤ front → shows o front (Live o from None) ≡ true
shown_now o front from low = λ i. same_owner_refl o i && le-leb from front low i

-- where the pages of a file's books hold a layout over a table in what is known of them, and a disk that tells its content reads as what is known
module _ {K : ℕ} {D : Type 0} (g : Ghosts D) (f : OpenFile D) (known : List (Option (List ℕ))) (L : Layout K) (t : Table) (told : IsTrue (g.honest f.disk)) (reads : HoldsPages f.books.shape known (g.seen f.disk)) (holds : HoldLayout f.books.pages known f.books.front L t) where
  abbrev b : Books
  b = f.books

  abbrev content : Owner → Option (List ℕ)
  content = owner_page L t

  -- the page of an owner that has one reads so
  there : (o : Owner) (bytes : List ℕ) → content o ≡ Some bytes → page_in_image b (g.seen f.disk) o ≡ content o
  there o bytes has =
      let c = current-page content (bytes_in known) b.front b.pages holds.settled holds.served o bytes has in
      let is : slice_get known c.page ≡ Some (Some (bytes_in known c.page)) = live-known known b.pages c.page (Live o c.from None) holds.known c.there refl in
      let first : page_here b o ≡ Some c.page = shown_first o b.front b.pages c.page (Live o c.from None) c.there (shown_now o b.front c.from c.began) (few_shown content (bytes_in known) b.front b.pages holds.served o) in
      ap (option_map (λ p. page_of (data_page b.shape p) (g.seen f.disk))) first
      ∙ ap Some (reads c.page (bytes_in known c.page) is ∙ sym c.holds)
      ∙ sym has

  -- an owner that has none has none
  missing : (o : Owner) → content o ≡ None → page_in_image b (g.seen f.disk) o ≡ content o
  missing o none =
      let unseen : list_any (shows o b.front) b.pages ≡ false = shown_is content (bytes_in known) b.front b.pages holds.served o ∙ ap is_some none in
      ap (option_map (λ p. page_of (data_page b.shape p) (g.seen f.disk))) (none_first o b.front b.pages unseen) ∙ sym none

  each : (o : Owner) → page_in_image b (g.seen f.disk) o ≡ content o
  each o = by (content o) refl
    where
      by : (x : Option (List ℕ)) → content o ≡ x → page_in_image b (g.seen f.disk) o ≡ content o
      by None e = missing o e
      by (Some bytes) e = there o bytes e

  pub given_held : pages_given g f ≡ Some content
  given_held = given_told g f told ∙ ap Some (λ i o. each o i)

  -- the bucket numbers that have a page are those of the boxes
  has_box : (n : ℕ) → has_page b (Bucket n) ≡ is_some (box L n)
  has_box n = shown_is content (bytes_in known) b.front b.pages holds.served (Bucket n) ∙ bucket-named L t n

  module _ (stands : StandsOver b.shape L t) (scales : L.scales ≡ b.scales) where
    low_box : (n : ℕ) → is_some (box L n) ≡ true → n < b.shape.pages
    low_box n some = let v = value-of (box L n) some in stands.sound.below_pages n v.0 v.1

    numbers_there : numbers_now b ≡ map (λ e. e.0) L.boxes
    numbers_there = same-numbers (numbers_now b) (map (λ e. e.0) L.boxes) (passing-ascend (λ n. has_page b (Bucket n)) 0 b.shape.pages) (entries-ascend L.boxes stands.sound.numbered)
        (λ q. among_passing (λ n. has_page b (Bucket n)) b.shape.pages q (λ e. low_box q (sym (has_box q) ∙ e)) ∙ has_box q ∙ found-where L.boxes q)

    pub pinned_held : IsPinnedTo (front_place g f) L t
    pinned_held = record { stands = stands; scales_are = sym scales; numbers_are = numbers_there; pages_are = given_held }

module _ {K : ℕ} {D : Type 0} (g : Ghosts D) (law : (d : D) → IsTrue (g.honest d) → g.may_leave d (g.seen d)) where
  -- what pages always hold a disk reads as that tells its content
  always_reads : (k : Kept K) (s : Shape) (d : D) → IsTrue (g.honest d) → k.shape ≡ s → Meets g k d → HoldsPages s k.always (g.seen d)
  always_reads k s d told shape meets = subst (λ (x : Shape). HoldsPages x k.always (g.seen d)) shape ((meets.crash told (g.seen d) (law d told)).pages)

  -- and beside that what was written
  all_reads : (k : Kept K) (s : Shape) (d : D) → IsTrue (g.honest d) → k.shape ≡ s → Meets g k d → HoldsPages s (as_read k) (g.seen d)
  all_reads k s d told shape meets = subst (λ (x : Shape). HoldsPages x (as_read k) (g.seen d)) shape (read-held k.shape k.fresh k.always (g.seen d) (meets.fresh told) ((meets.crash told (g.seen d) (law d told)).pages))

  module _ (f : OpenFile D) (m : Standing K) (told : IsTrue (g.honest f.disk)) (is : IsOpenAt g f.books m f.disk) where
    reads_there : HoldsPages f.books.shape is.kept.always (g.seen f.disk)
    reads_there = always_reads is.kept f.books.shape f.disk told is.file.agree.shape is.meets

    given_there : pages_given g f ≡ Some (owner_page m.layout m.table)
    given_there = given_held g f is.kept.always m.layout m.table told reads_there is.file.hold.holds

    pinned_there : IsPinnedTo (front_place g f) m.layout m.table
    pinned_there = pinned_held g f is.kept.always m.layout m.table told reads_there is.file.hold.holds is.file.hold.stands is.file.hold.scales

  pub readings_tell : ReadingsTell K g
  readings_tell = record { given = given_there; pinned = pinned_there }

  -- while a file is opened it reads as what was written and what its pages always hold
  module _ (f : OpenFile D) (k : Kept K) (m : Standing K) (told : IsTrue (g.honest f.disk)) (meets : Meets g k f.disk) (shape : k.shape ≡ f.books.shape) (held : ReadAsHeld f.books k m) where
    reads_now : HoldsPages f.books.shape (as_read k) (g.seen f.disk)
    reads_now = all_reads k f.books.shape f.disk told shape meets

    given_now : pages_given g f ≡ Some (owner_page m.layout m.table)
    given_now = given_held g f (as_read k) m.layout m.table told reads_now held.holds

    pinned_now : IsPinnedTo (front_place g f) m.layout m.table
    pinned_now = pinned_held g f (as_read k) m.layout m.table told reads_now held.holds held.stands held.scales

  pub redo_readings_tell : RedoReadingsTell K g
  redo_readings_tell = record { given = given_now; pinned = pinned_now }
