-- A table area that tells the current pages names those that hold the layout and the table.
use Rattle.std.proofs.Common.{◌≡◌, ◌≢◌, ◌<◌, ◌==◌, ℕ, Bool, true, false, not, List, map, length, Option, Some, None, is_some, IsSome, refl, sym, ap, subst, ◌∙◌, arith, true≢false, ltb-true, lt-ltb, eq-eqb}
use Rattle.std.specs.Prelude.{slice_get, slice_index}
use Rattle.std.proofs.lemmas.Bool.{ne_eqb}
use Rattle.std.proofs.lemmas.Option.{slice_get_within}
use Rattle.grid_types.specs.declared.owner.Owner.{Owner}
use Rattle.grid_types.specs.declared.owner.Owner.TheVariants.{Bucket, Part}
use Rattle.grid_types.specs.declared.shape.Shape.{Shape}
use Rattle.grid_types.proofs.Places.{within-limits}
use Rattle.grid_model.specs.Cells.{parts}
use Rattle.grid_model.specs.Lists.{is_among}
use Rattle.grid_model.specs.Tables.{Table}
use Rattle.grid_model.specs.Layouts.{BucketBox, Layout, box}
use Rattle.grid_model.specs.LayoutLaws.{StandsOver}
use Rattle.grid_model.specs.Lawful.{Area, nowhere}
use Rattle.grid_model.specs.Images.{numbers_of}
use Rattle.history_pages.specs.KnownPages.{page_named, AreaHolds}
use Rattle.history_pages.specs.OwnerPages.{owner_page}
use Rattle.history_pages.proofs.Ascending.{same-numbers, entries-ascend, passing-ascend}
use Rattle.history_pages.proofs.Named.{bucket-named, part-named}
use Rattle.history_pages.proofs.Numbers.{found-where}
use Rattle.page_states.specs.declared.page_state.PageState.{PageState}
use Rattle.page_states.specs.declared.page_state.PageState.TheVariants.{Live}
use Rattle.layout_pages.specs.Holding.{HoldLayout, IsCurrentAt, NamesCurrent, bytes_in}
use Rattle.layout_pages.specs.HoldingLaws.{TellsCurrent}
use Rattle.layout_pages.proofs.Areas.{numbered-entry, entry-numbered, each-named}
use Rattle.layout_pages.proofs.Current.{HasPage, current-page, no-page, has-current}
use Rattle.layout_pages.proofs.Live.{live-known}
use Rattle.layout_pages.proofs.Present.{value-of, nothing-of}

module _ {K : ℕ} (s : Shape) (a : Area) (states : List PageState) (always : List (Option (List ℕ))) (front : ℕ) (L : Layout K) (t : Table) (stands : StandsOver s L t) (many : length states ≡ s.pages) (hold : HoldLayout states always front L t)
    (tells : TellsCurrent states L a) where
  -- the page that an owner has is the one that the area names for it
  module _ (o : Owner) (b : List ℕ) (is : owner_page L t o ≡ Some b) where
    current : HasPage (bytes_in always) front states o b
    current = current-page (owner_page L t) (bytes_in always) front states hold.settled hold.served o b is

  -- a bucket's number is one of the table's
  low-number : (n : ℕ) (b : BucketBox K) → box L n ≡ Some b → n < length a.table
  low-number n b there = let low = stands.sound.below_pages n b there in omega (arith, low, many, tells.numbers)

  bucket-low : (n : ℕ) → is_some (box L n) ≡ true → n < length a.table
  bucket-low n some = let v = value-of (box L n) some in low-number n v.0 v.1

  told : (o : Owner) (b : List ℕ) (is : owner_page L t o ≡ Some b) → page_named a o ≡ (current o b is).page
  told (Bucket n) b is =
      let c = current (Bucket n) b is in
      tells.buckets.pages n c.page c.from (bucket-low n (sym (bucket-named L t n) ∙ ap is_some is)) c.there
  told (Part k) b is =
      let c = current (Part k) b is in
      let low : k < parts L.scales = ltb-true k (parts L.scales) (sym (part-named L t k) ∙ ap is_some is) in
      tells.directory.pages k c.page c.from (omega (arith, low, tells.count)) c.there

  copy-pages : (o : Owner) (b : List ℕ) → owner_page L t o ≡ Some b → slice_get always (page_named a o) ≡ Some (Some b)
  copy-pages o b is =
      let c = current o b is in
      ap (slice_get always) (told o b is) ∙ live-known always states c.page (Live o c.from None) hold.known c.there refl ∙ ap (λ (x : List ℕ). Some (Some x)) (sym c.holds)

  -- a page that is there is not nowhere
  somewhere : (p : ℕ) → p < length states → p ≢ nowhere
  unfolding nowhere
  somewhere p low e = let few = (within-limits s stands.lawful).few_pages in omega (arith, few, low, many, e)

  -- a bucket that has no box has no page
  unboxed : (n : ℕ) → n < length a.table → is_some (box L n) ≡ false → slice_index a.table n ≡ nowhere
  unboxed n low none =
      tells.buckets.others n low (no-page (owner_page L t) (bytes_in always) front states hold.settled hold.served (Bucket n) (nothing-of (owner_page L t (Bucket n)) (bucket-named L t n ∙ none)))

  -- the numbers of the table are those of the boxes
  number-is : (n : ℕ) → is_some (box L n) ≡ is_among (numbers_of a.table) n
  number-is n = by (is_some (box L n)) (is_among (numbers_of a.table) n) refl refl
    where
      by : (x y : Bool) → is_some (box L n) ≡ x → is_among (numbers_of a.table) n ≡ y → x ≡ y
      by true true e f = refl
      by false false e f = refl
      by false true e f =
          let at = numbered-entry a.table n f in
          absurd (true≢false (sym at.1 ∙ ap (λ (b : Bool). not b) (eq-eqb (slice_index a.table n) nowhere (unboxed n at.0 e))))
      by true false e f =
          let v = value-of (owner_page L t (Bucket n)) (bucket-named L t n ∙ e) in
          let c = current (Bucket n) v.0 v.1 in
          let apart : slice_index a.table n ≢ nowhere = subst (λ (p : ℕ). p ≢ nowhere) (sym (told (Bucket n) v.0 v.1)) (somewhere c.page (slice_get_within states c.page (Live (Bucket n) c.from None) c.there)) in
          absurd (true≢false (sym (entry-numbered a.table n (bucket-low n e) (ap (λ (b : Bool). not b) (ne_eqb (slice_index a.table n) nowhere apart))) ∙ f))

  copy-numbers : map (λ e. e.0) L.boxes ≡ numbers_of a.table
  copy-numbers = same-numbers (map (λ e. e.0) L.boxes) (numbers_of a.table) (entries-ascend L.boxes stands.sound.numbered)
      (passing-ascend (λ n. not (slice_index a.table n == nowhere)) 0 (length a.table)) (λ q. sym (found-where L.boxes q) ∙ number-is q)

  -- the page that is named for an owner is current
  owner-current : (o : Owner) → IsSome (owner_page L t o) → IsCurrentAt front states (page_named a o)
  owner-current o some =
      let v = value-of (owner_page L t o) some in
      subst (IsCurrentAt front states) (sym (told o v.0 v.1)) (has-current (bytes_in always) front states o v.0 (current o v.0 v.1))

  pub copy-holds : AreaHolds always a L t × NamesCurrent front states a
  copy-holds = (
    record { scales = sym tells.scales; directory = tells.count; numbers = copy-numbers; pages = copy-pages },
    each-named (IsCurrentAt front states) a (λ k low. owner-current (Part k) (part-named L t k ∙ lt-ltb k (parts L.scales) (omega (arith, low, tells.count))))
        (λ n h. owner-current (Bucket n) (bucket-named L t n ∙ number-is n ∙ h)),
  )
