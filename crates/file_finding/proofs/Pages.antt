-- The data pages of an image that its newest root names hold the pages of the owners of the root's layout.
use Rattle.std.proofs.Common.{◌≡◌, ◌<◌, ℕ, Bool, true, false, cond, List, [], ◌∷◌, map, length, slice_index, All, Contains, Option, Some, None, is_some, refl, sym, ap, ◌∙◌, arith, nat_lt, ltb-true, option_map}
use Rattle.std.specs.Prelude.{slice_get}
use Rattle.std.proofs.lemmas.List.{length-map}
use Rattle.std.proofs.lemmas.List.Elements.{All-contains, Contains-append_left, Contains-append_right}
use Rattle.std.proofs.lemmas.List.FromFn.{length-range_with_len, get_or-range_with_len}
use Rattle.std.proofs.lemmas.Option.{slice_get-map, slice_get-get_or, slice_get_within, same_Some}
use Rattle.grid_types.specs.declared.owner.Owner.{Owner}
use Rattle.grid_types.specs.declared.owner.Owner.TheVariants.{Bucket, Part}
use Rattle.grid_types.specs.declared.shape.Shape.{Shape}
use Rattle.grid_types.specs.Pages.{page_of}
use Rattle.grid_types.specs.Shapes.{data_page}
use Rattle.grid_model.specs.Lists.{below, is_among}
use Rattle.grid_model.specs.Tables.{Table}
use Rattle.grid_model.specs.Layouts.{Layout}
use Rattle.grid_model.specs.LayoutLaws.{StandsOver}
use Rattle.grid_model.specs.Lawful.{Area, pages_named}
use Rattle.grid_model.specs.Images.{numbers_of, entry_page, PagesSpell}
use Rattle.grid_model.proofs.Boxes.{one-value, some-not-none}
use Rattle.grid_model.proofs.Members.{contains-among, among-from-contains}
use Rattle.history_pages.specs.KnownPages.{page_named, AreaHolds}
use Rattle.history_pages.specs.OwnerPages.{page_in}
use Rattle.history_pages.proofs.Named.{some-if}
use Rattle.history_pages.proofs.Whole.{whole}
use Rattle.layout_pages.specs.Holding.{named_by}
use Rattle.file_images.specs.Shows.{HoldsPages}
use Rattle.file_images.proofs.Named.{entry-there, named-by-number}

module _ (s : Shape) (image : List ℕ) (a : Area) where
  abbrev page_at : ℕ → List ℕ
  page_at p = page_of (data_page s p) image

  -- a data page that the area names holds what it has in the image, and of others nothing is said
  abbrev pub page_held : ℕ → Option (List ℕ)
  page_held p = cond (is_among (named_by a) p) (Some (page_at p)) None

  -- so by data page
  abbrev pub pages_held : List (Option (List ℕ))
  pages_held = map page_held (below s.pages)

  known_in : (ps : List ℕ) → map is_some (map page_held ps) ≡ map (is_among (named_by a)) ps
  known_in [] = refl
  known_in (p ∷ ps) = λ i. some-if (is_among (named_by a) p) (page_at p) i ∷ known_in ps i

  -- exactly the pages that it names are known
  pub pages_known : map is_some pages_held ≡ map (is_among (named_by a)) (below s.pages)
  pages_known = known_in (below s.pages)

  held_there : (p : ℕ) → p < s.pages → slice_get pages_held p ≡ Some (page_held p)
  held_there p low =
      let number : slice_index (below s.pages) p ≡ p = get_or-range_with_len 0 s.pages p 0 low ∙ omega arith in
      slice_get-map page_held (below s.pages) p
      ∙ ap (option_map page_held) (slice_get-get_or (below s.pages) p 0 (omega (arith, low, length-range_with_len 0 s.pages)) ∙ ap (λ (q : ℕ). Some q) number)

  -- the image holds these pages
  pub image_holds : HoldsPages s pages_held image
  image_holds p bytes at = by (is_among (named_by a) p) (same_Some (page_held p) (Some bytes) (sym (held_there p low) ∙ at))
    where
      low : p < s.pages
      low = omega (arith, slice_get_within pages_held p (Some bytes) at, length-map (below s.pages) page_held, length-range_with_len 0 s.pages)

      by : (b : Bool) → cond b (Some (page_at p)) None ≡ Some bytes → page_at p ≡ bytes
      by true e = one-value (page_at p) bytes e
      by false e = absurd (some-not-none bytes (sym e))

  module _ (pages : All (λ p. p < s.pages) (named_by a)) where
    -- a page that is named is held
    named_held : (p : ℕ) → Contains (named_by a) p → slice_get pages_held p ≡ Some (Some (page_at p))
    named_held p named =
        held_there p (All-contains (λ q. q < s.pages) (named_by a) p pages named)
        ∙ ap (λ (b : Bool). Some (cond b (Some (page_at p)) None)) (among-from-contains (named_by a) p named)

    -- the page that the image has for an owner is the one that is held for it
    owner_held : (o : Owner) (bytes : List ℕ) → page_in s (record { image = image; parts_at = a.parts; table = a.table }) o ≡ Some bytes → slice_get pages_held (page_named a o) ≡ Some (Some bytes)
    unfolding page_in
    owner_held (Bucket n) bytes is = by (is_among (numbers_of a.table) n) refl is
      where
        by : (b : Bool) → is_among (numbers_of a.table) n ≡ b → cond b (Some (entry_page s image a.table n)) None ≡ Some bytes → slice_get pages_held (slice_index a.table n) ≡ Some (Some bytes)
        by true e same =
            let named = contains-among (pages_named a.table) (slice_index a.table n) (named-by-number a.table n (contains-among (numbers_of a.table) n e)) in
            named_held (slice_index a.table n) (Contains-append_right a.parts (pages_named a.table) (slice_index a.table n) named) ∙ ap (λ (o : Option (List ℕ)). Some o) same
        by false e same = absurd (some-not-none bytes (sym same))
    owner_held (Part p) bytes is = by (nat_lt p (length a.parts)) refl is
      where
        by : (b : Bool) → nat_lt p (length a.parts) ≡ b → cond b (Some (entry_page s image a.parts p)) None ≡ Some bytes → slice_get pages_held (slice_index a.parts p) ≡ Some (Some bytes)
        by true e same =
            named_held (slice_index a.parts p) (Contains-append_left a.parts (pages_named a.table) (slice_index a.parts p) (entry-there a.parts p (ltb-true p (length a.parts) e)))
            ∙ ap (λ (o : Option (List ℕ)). Some o) same
        by false e same = absurd (some-not-none bytes (sym same))

    -- so the pages that the area names hold a layout over a table where they spell it
    pub area_holds : {K : ℕ} (L : Layout K) (t : Table) → StandsOver s L t → L.scales ≡ a.scales → PagesSpell s image a.parts a.table L t → AreaHolds pages_held a L t
    area_holds L t stands scales spell = record {
      scales = scales;
      directory = spell.count;
      numbers = spell.numbers;
      pages = λ o bytes is. owner_held o bytes ((whole s L t (record { image = image; parts_at = a.parts; table = a.table }) stands).0 spell o ∙ is);
    }
