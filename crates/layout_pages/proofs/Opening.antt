-- Where a file is opened, the pages that its newest root names hold the root's layout and table.
use Rattle.std.proofs.Common.{◌≡◌, ◌⊎◌, inl, inr, ◌<◌, ◌≤◌, ℕ, Bool, true, false, cond, List, [], ◌∷◌, map, replicate, length, Option, Some, None, is_some, refl, sym, ap, subst, ◌∙◌, arith, lt-ltb}
use Rattle.std.specs.Prelude.{slice_get, slice_index}
use Rattle.std.specs.Option.{option_map}
use Rattle.std.proofs.lemmas.Bool.{cases_lt}
use Rattle.std.proofs.lemmas.List.{length-map, length-replicate}
use Rattle.std.proofs.lemmas.List.Elements.{All-contains}
use Rattle.std.proofs.lemmas.List.FromFn.{length-range_with_len, get_or-range_with_len}
use Rattle.std.proofs.lemmas.Option.{slice_get-map, slice_get-get_or, slice_get_past}
use Rattle.grid_types.specs.declared.owner.Owner.{Owner}
use Rattle.grid_types.specs.declared.owner.Owner.TheVariants.{Bucket, Part}
use Rattle.grid_types.specs.declared.shape.Shape.{Shape}
use Rattle.grid_model.specs.Cells.{parts}
use Rattle.grid_model.specs.Lists.{below, is_among, AreDistinct}
use Rattle.grid_model.specs.Tables.{Table}
use Rattle.grid_model.specs.Layouts.{Layout}
use Rattle.grid_model.specs.LayoutLaws.{StandsOver}
use Rattle.grid_model.specs.Lawful.{IsAreaOf, pages_named}
use Rattle.grid_model.specs.Lone.{owners}
use Rattle.grid_model.specs.Roots.{WholeRoot}
use Rattle.grid_model.proofs.Members.{contains-among}
use Rattle.history_pages.specs.KnownPages.{page_named, AreaHolds}
use Rattle.history_pages.specs.OwnerPages.{owner_page}
use Rattle.history_pages.proofs.Named.{bucket-named, part-named, has-page}
use Rattle.history_pages.proofs.Numbers.{found-where}
use Rattle.page_states.specs.declared.page_state.PageState.{PageState}
use Rattle.page_states.specs.declared.page_state.PageState.TheVariants.{Free}
use Rattle.page_states.specs.Changes.{Publication, pages_of, all_published, with_pages}
use Rattle.page_states.specs.Laws.{Serves, Settled}
use Rattle.page_states.proofs.Lists.{same_by_get}
use Rattle.page_states.proofs.SettledPlaces.{start_settles}
use Rattle.page_states.proofs.VanishedPlaces.{start_serves}
use Rattle.page_states.proofs.WholeChanges.{change_settles}
use Rattle.layout_pages.specs.Holding.{HoldLayout, IsCurrentAt, NamesCurrent, is_live, bytes_in, named_by}
use Rattle.layout_pages.specs.Steps.{named_publications, opened_states}
use Rattle.layout_pages.proofs.Areas.{each-named}
use Rattle.layout_pages.proofs.Beginning.{AreFree, free-there, beginnings-serve}
use Rattle.layout_pages.proofs.Current.{HasPage, current-page, has-current}
use Rattle.layout_pages.proofs.Distinct.{swapped-once, swapped-among, named-pages}
use Rattle.layout_pages.proofs.Live.{known-bytes, published-live}
use Rattle.layout_pages.proofs.NamedOwners.{named-for, named-owners}
use Rattle.layout_pages.proofs.Ordered.{is_one_of, owners_of, ordered-has, one-at, with-their-pages}
use Rattle.layout_pages.proofs.Present.{value-of, nothing-of}
use Rattle.layout_pages.proofs.Serving.{other-content}
use Rattle.layout_pages.proofs.Writes.{written, beside, within, length-written}

module _ {K : ℕ} (s : Shape) (w : WholeRoot) (always : List (Option (List ℕ))) (L : Layout K) (t : Table) (area : IsAreaOf s w.fields w.area) (holds : AreaHolds always w.area L t) where
  abbrev start : List PageState
  start = replicate s.pages Free

  abbrev named : List Publication
  named = named_publications w.area

  -- the pages that are named are those of the publications
  among-named : (q : ℕ) → is_among (pages_of named) q ≡ is_among (named_by w.area) q
  among-named q = ap (λ ps. is_among ps q) (named-pages w.area) ∙ swapped-among (pages_named w.area.table) w.area.parts q

  named-low : (q : ℕ) → is_among (pages_of named) q ≡ true → q < s.pages
  named-low q a = All-contains (λ p. p < s.pages) (named_by w.area) q area.pages (contains-among (named_by w.area) q (sym (among-named q) ∙ a))

  -- each is free at the start, and named once
  begin : AreFree (pages_of named) start
  begin = record {
    free = λ q a. free-there s.pages q (named-low q a);
    distinct = subst AreDistinct (sym (named-pages w.area)) (swapped-once w.area.parts (pages_named w.area.table) area.distinct);
  }

  -- an owner that is published is one that has a page
  published-has : (o : Owner) → is_one_of (owners_of named) o ≡ is_some (owner_page L t o)
  published-has o = ap (λ (os : List Owner). is_one_of os o) (named-owners always w.area L t holds) ∙ ordered-has (owners L) o ∙ sym (has-page L t o)

  -- at the front each owner is served with what the page has that is named for it
  opened-serves : (bytes : ℕ → List ℕ) (page : Owner → Option (List ℕ)) → ((o : Owner) → is_some (owner_page L t o) ≡ true → Some (bytes (page_named w.area o)) ≡ page o) → ((o : Owner) → is_some (owner_page L t o) ≡ false → page o ≡ None)
      → Serves page bytes w.fields.front (opened_states s.pages w.fields.front w.area)
  unfolding opened_states
  opened-serves bytes page some none = other-content (with_pages (λ o. None) bytes named) bytes w.fields.front (all_published w.fields.front named start)
      (beginnings-serve (λ o. None) bytes w.fields.front named start begin (start_settles s.pages w.fields.front) (start_serves bytes s.pages w.fields.front)) page (λ o. sym (content o))
    where
      each : (i : ℕ) (x : Publication) → slice_get named i ≡ Some x → Some (bytes x.page) ≡ page x.owner
      each i x has =
          let at : slice_get (owners_of named) i ≡ Some x.owner = slice_get-map (λ (y : Publication). y.owner) named i ∙ ap (option_map (λ (y : Publication). y.owner)) has in
          ap (λ (p : ℕ). Some (bytes p)) (sym (named-for w.area i x has)) ∙ some x.owner (sym (published-has x.owner) ∙ one-at (owners_of named) i x.owner at)

      content : (o : Owner) → with_pages (λ z. None) bytes named o ≡ page o
      content o = with-their-pages bytes page (λ z. None) named each o ∙ ap (λ (b : Bool). cond b (page o) None) (published-has o) ∙ by (is_some (owner_page L t o)) refl
        where
          by : (b : Bool) → is_some (owner_page L t o) ≡ b → cond b (page o) None ≡ page o
          by true e = refl
          by false e = sym (none o e)

  opened-settles : Settled w.fields.front (opened_states s.pages w.fields.front w.area)
  unfolding opened_states
  opened-settles = change_settles w.fields.front w.fields.front named [] start (omega arith) (start_settles s.pages w.fields.front)

  opened-holds : Serves (owner_page L t) (bytes_in always) w.fields.front (opened_states s.pages w.fields.front w.area)
  opened-holds = opened-serves (bytes_in always) (owner_page L t)
      (λ o some. let v = value-of (owner_page L t o) some in ap (λ (b : List ℕ). Some b) (known-bytes always (page_named w.area o) v.0 (holds.pages o v.0 v.1)) ∙ sym v.1) (λ o none. nothing-of (owner_page L t o) none)

  -- the page that is named for an owner is its current one: it is told by a content that says the page's number
  abbrev number_of_page : Owner → Option (List ℕ)
  number_of_page o = cond (is_some (owner_page L t o)) (Some (page_named w.area o ∷ [])) None

  owner-current : (o : Owner) → is_some (owner_page L t o) ≡ true → IsCurrentAt w.fields.front (opened_states s.pages w.fields.front w.area) (page_named w.area o)
  owner-current o some =
      let serves = opened-serves (λ p. p ∷ []) number_of_page (λ v e. sym (ap (λ (b : Bool). cond b (Some (page_named w.area v ∷ [])) None) e)) (λ v e. ap (λ (b : Bool). cond b (Some (page_named w.area v ∷ [])) None) e) in
      let c : HasPage (λ p. p ∷ []) w.fields.front (opened_states s.pages w.fields.front w.area) o (page_named w.area o ∷ []) =
      current-page number_of_page (λ p. p ∷ []) w.fields.front (opened_states s.pages w.fields.front w.area) opened-settles serves o (page_named w.area o ∷ []) (ap (λ (b : Bool). cond b (Some (page_named w.area o ∷ [])) None) some) in
      let same : (page_named w.area o ∷ []) ≡ (c.page ∷ []) = c.holds in
      let is : page_named w.area o ≡ c.page = cc in
      subst (IsCurrentAt w.fields.front (opened_states s.pages w.fields.front w.area)) (sym is) (has-current (λ p. p ∷ []) w.fields.front (opened_states s.pages w.fields.front w.area) o (page_named w.area o ∷ []) c)

  opened-named : NamesCurrent w.fields.front (opened_states s.pages w.fields.front w.area) w.area
  opened-named = each-named (IsCurrentAt w.fields.front (opened_states s.pages w.fields.front w.area)) w.area
      (λ k low. owner-current (Part k) (part-named L t k ∙ lt-ltb k (parts L.scales) (omega (arith, low, holds.directory))))
      (λ n h. owner-current (Bucket n) (bucket-named L t n ∙ found-where L.boxes n ∙ ap (λ ns. is_among ns n) holds.numbers ∙ h))

  -- the pages that are live are those that are named
  opened-live : map (is_among (named_by w.area)) (below s.pages) ≡ map is_live (opened_states s.pages w.fields.front w.area)
  unfolding opened_states
  opened-live =
      same_by_get (map (is_among (named_by w.area)) (below s.pages)) (written (λ p. true) (map is_live start) (pages_of named)) (λ q. by q (cases_lt q s.pages))
      ∙ sym (published-live w.fields.front named start)
    where
      many : length (map is_live start) ≡ s.pages
      many = length-map start is_live ∙ length-replicate s.pages Free

      inside : (q : ℕ) → q < s.pages → slice_get (map (is_among (named_by w.area)) (below s.pages)) q ≡ Some (is_among (named_by w.area) q)
      inside q low =
          let number : slice_index (below s.pages) q ≡ q = get_or-range_with_len 0 s.pages q 0 low ∙ omega arith in
          slice_get-map (is_among (named_by w.area)) (below s.pages) q
          ∙ ap (option_map (is_among (named_by w.area))) (slice_get-get_or (below s.pages) q 0 (omega (arith, low, length-range_with_len 0 s.pages)) ∙ ap (λ (p : ℕ). Some p) number)

      live : (q : ℕ) → q < s.pages → (b : Bool) → is_among (pages_of named) q ≡ b → slice_get (written (λ p. true) (map is_live start) (pages_of named)) q ≡ Some b
      live q low true a = within (λ p. true) (map is_live start) (pages_of named) q a (omega (arith, low, many))
      live q low false a = beside (λ p. true) (map is_live start) (pages_of named) q a ∙ slice_get-map is_live start q ∙ ap (option_map is_live) (free-there s.pages q low)

      by : (q : ℕ) → (q < s.pages) ⊎ (s.pages ≤ q) → slice_get (map (is_among (named_by w.area)) (below s.pages)) q ≡ slice_get (written (λ p. true) (map is_live start) (pages_of named)) q
      by q (inl low) = inside q low ∙ sym (live q low (is_among (named_by w.area) q) (among-named q))
      by q (inr high) =
          slice_get_past (map (is_among (named_by w.area)) (below s.pages)) q (omega (arith, high, length-map (below s.pages) (is_among (named_by w.area)), length-range_with_len 0 s.pages))
          ∙ sym (slice_get_past (written (λ p. true) (map is_live start) (pages_of named)) q (omega (arith, high, many, length-written (λ p. true) (map is_live start) (pages_of named))))

pub opening-holds : {K : ℕ} (s : Shape) (w : WholeRoot) (always : List (Option (List ℕ))) (L : Layout K) (t : Table) → StandsOver s L t → IsAreaOf s w.fields w.area → AreaHolds always w.area L t
    → map is_some always ≡ map (is_among (named_by w.area)) (below s.pages)
    → HoldLayout (opened_states s.pages w.fields.front w.area) always w.fields.front L t × NamesCurrent w.fields.front (opened_states s.pages w.fields.front w.area) w.area
opening-holds s w always L t stands area holds known = (
  record {
    known = known ∙ opened-live s w always L t area holds;
    settled = opened-settles s w always L t area holds;
    served = opened-holds s w always L t area holds;
  },
  opened-named s w always L t area holds,
)
