-- When a change is published whose new pages were written, pages hold the layout and the table after it.
use Rattle.std.proofs.Common.{◌≡◌, ◌<◌, ◌+◌, ℕ, Bool, true, cond, List, [], map, fold, length, Option, Some, None, is_some, sym, ap, subst, ◌∙◌, arith}
use Rattle.std.specs.Prelude.{slice_get, slice_index, slice_index_or}
use Rattle.std.specs.Option.{option_map, unwrap_or}
use Rattle.std.proofs.lemmas.List.{length-map}
use Rattle.std.proofs.lemmas.Option.{slice_get-map, slice_get_within, get_or_from_slice_get}
use Rattle.grid_types.specs.declared.layout_change.LayoutChange.{LayoutChange}
use Rattle.grid_types.specs.declared.owner.Owner.{Owner}
use Rattle.grid_types.specs.declared.shape.Shape.{Shape}
use Rattle.grid_types.specs.declared.update.Update.{Update}
use Rattle.grid_model.specs.Lists.{is_among}
use Rattle.grid_model.specs.Tables.{Table, effect}
use Rattle.grid_model.specs.Layouts.{BucketBox, Layout}
use Rattle.grid_model.specs.Lone.{renewed}
use Rattle.grid_model.specs.Notes.{after_note_at}
use Rattle.grid_model.proofs.Boundaries.{among-at, among-index}
use Rattle.history_pages.specs.KnownPages.{settle_page}
use Rattle.history_pages.specs.NewPages.{in_order, new_page, new_pages}
use Rattle.history_pages.specs.OwnerPages.{has_owner, owner_page}
use Rattle.history_pages.specs.PageLaws.{IsChange, page_after}
use Rattle.history_pages.proofs.Renewed.{new-page}
use Rattle.page_states.specs.declared.page_state.PageState.{PageState}
use Rattle.page_states.specs.declared.page_state.PageState.TheVariants.{Claimed}
use Rattle.page_states.specs.Changes.{Publication, pages_of, all_published, with_pages, ArePublishable}
use Rattle.page_states.specs.States.{shows}
use Rattle.page_states.specs.Laws.{Serves}
use Rattle.page_states.proofs.WholeChanges.{change_serves, change_settles}
use Rattle.layout_pages.specs.Holding.{HoldLayout, is_live, bytes_in}
use Rattle.layout_pages.specs.HoldingLaws.{ReadAs}
use Rattle.layout_pages.specs.Steps.{publications, owners_renewed, owners_vanishing, published_states}
use Rattle.layout_pages.proofs.Live.{shown-live, publishable-apart, same-bytes, known-bytes, published-live, vanishings-live}
use Rattle.layout_pages.proofs.Ordered.{is_one_of, ordered-has, one-at, with-their-pages}
use Rattle.layout_pages.proofs.Present.{there, some-at}
use Rattle.layout_pages.proofs.Publishing.{all-pages, all-owners, published-at}
use Rattle.layout_pages.proofs.Serving.{other-bytes, other-content}
use Rattle.layout_pages.proofs.Vanishing.{renews-owners, renewed_page, vanish}
use Rattle.layout_pages.proofs.Writes.{written, beside, within, map-written, same-written}

module _ {K : ℕ} (shape : Shape) (L : Layout K) (t : Table) (u : Update K) (n : LayoutChange) (e : ℕ × BucketBox K) (states : List PageState) (always fresh : List (Option (List ℕ))) (front : ℕ) (pages : List ℕ) (h : IsChange shape L t u n e)
    (hold : HoldLayout states always front L t) (ok : ArePublishable pages states) (read : ReadAs fresh pages (new_pages L t u n e)) where
  abbrev order : List Owner
  order = owners_renewed e.0 n (renewed L e n).parts

  abbrev published : List Publication
  published = publications (owners_renewed e.0 n (renewed L e n).parts) pages

  abbrev later : List (Option (List ℕ))
  later = fold (settle_page fresh) always pages

  -- the new page of an owner in its place
  new-at : (i : ℕ) (o : Owner) → slice_get order i ≡ Some o → slice_get (new_pages L t u n e) i ≡ Some (new_page L t u n e o)
  unfolding new_pages
  new-at i o has = slice_get-map (new_page L t u n e) (in_order (renewed L e n)) i ∙ ap (option_map (new_page L t u n e)) (ap (λ (os : List Owner). slice_get os i) (renews-owners L e n) ∙ has)

  as-many : length pages ≡ length order
  unfolding new_pages
  as-many = read.count ∙ length-map (in_order (renewed L e n)) (new_page L t u n e) ∙ ap length (renews-owners L e n)

  all-there : pages_of published ≡ pages
  all-there = all-pages order pages as-many

  -- what an owner's page reads as
  reads-as : (i : ℕ) (x : Publication) → slice_get published i ≡ Some x → slice_index_or fresh x.page None ≡ Some (unwrap_or (page_after L t u n e x.owner) [])
  reads-as i x has =
      let at = published-at order pages i x has in
      ap (λ (p : ℕ). slice_index_or fresh p None) (sym (get_or_from_slice_get pages i x.page 0 at.1)) ∙ read.each i (new_page L t u n e x.owner) (new-at i x.owner at.0)

  -- each page reads as something
  each-reads : (q : ℕ) → is_among pages q ≡ true → is_some (slice_index_or fresh q None) ≡ true
  each-reads q a =
      let at = among-index pages q a in
      let w = some-at (new_pages L t u n e) at.0 (omega (arith, at.1, read.count)) in
      ap is_some (ap (λ (p : ℕ). slice_index_or fresh p None) (sym at.2) ∙ read.each at.0 w.0 w.1)

  -- what is known after the change
  change-known : map is_some later ≡ map is_live (published_states (front + 1) e.0 n (renewed L e n).parts pages states)
  unfolding published_states
  change-known =
      map-written (λ p. slice_index_or fresh p None) is_some always pages
      ∙ same-written (λ p. is_some (slice_index_or fresh p None)) (λ p. true) (map is_some always) pages each-reads
      ∙ ap (λ (bs : List Bool). written (λ p. true) bs pages) hold.known
      ∙ ap (λ (ps : List ℕ). written (λ p. true) (map is_live states) ps) (sym all-there)
      ∙ sym (published-live (front + 1) published states)
      ∙ sym (vanishings-live (front + 1) (owners_vanishing e.0 n) (all_published (front + 1) published states))

  publishable : ArePublishable (pages_of published) states
  publishable = subst (λ (ps : List ℕ). ArePublishable ps states) (sym all-there) ok

  -- a page that is shown at the front holds what it held
  shown-same : (p : ℕ) (o : Owner) (x : PageState) → slice_get states p ≡ Some x → shows o front x ≡ true → bytes_in later p ≡ bytes_in always p
  shown-same p o x has shown = same-bytes later always p (beside (λ q. slice_index_or fresh q None) always pages p (publishable-apart pages states p x ok has (shown-live o front x shown)))

  -- a new page holds its owner's page after the change
  new-holds : (i : ℕ) (x : Publication) → slice_get published i ≡ Some x → Some (bytes_in later x.page) ≡ page_after L t u n e x.owner
  new-holds i x has =
      let at = published-at order pages i x has in
      let low : i < length pages = slice_get_within pages i x.page at.1 in
      let is : slice_index pages i ≡ x.page = get_or_from_slice_get pages i x.page 0 at.1 in
      let among : is_among pages x.page ≡ true = among-at pages x.page i low is in
      let claimed = ok.claimed i low in
      let inside : slice_index pages i < length states = slice_get_within states (slice_index pages i) (Claimed claimed.0) claimed.1 in
      let many : length always ≡ length states = sym (length-map always is_some) ∙ ap length hold.known ∙ length-map states is_live in
      let settled : slice_get later x.page ≡ Some (slice_index_or fresh x.page None) = within (λ q. slice_index_or fresh q None) always pages x.page among (omega (arith, inside, is, many)) in
      let owned : has_owner (renewed L e n) x.owner ≡ true = sym (ordered-has (renewed L e n) x.owner) ∙ ap (λ (os : List Owner). is_one_of os x.owner) (renews-owners L e n) ∙ one-at order i x.owner at.0 in
      ap (λ (b : List ℕ). Some b) (known-bytes later x.page (unwrap_or (page_after L t u n e x.owner) []) (settled ∙ ap (λ (o : Option (List ℕ)). Some o) (reads-as i x has)))
      ∙ there (page_after L t u n e x.owner) [] (new-page shape L t u n e x.owner h owned)

  -- the content behind the publications
  content-renewed : (o : Owner) → with_pages (owner_page L t) (bytes_in later) published o ≡ renewed_page shape L t u n e o
  content-renewed o =
      with-their-pages (bytes_in later) (page_after L t u n e) (owner_page L t) published new-holds o
      ∙ ap (λ (b : Bool). cond b (page_after L t u n e o) (owner_page L t o))
      (ap (λ (os : List Owner). is_one_of os o) (all-owners order pages as-many ∙ sym (renews-owners L e n)) ∙ ordered-has (renewed L e n) o)

  change-served : Serves (owner_page (after_note_at L e n) (effect t u)) (bytes_in later) (front + 1) (published_states (front + 1) e.0 n (renewed L e n).parts pages states)
  unfolding published_states
  change-served = other-content _ (bytes_in later) (front + 1) _
      (change_serves (owner_page L t) (bytes_in later) front (front + 1) published (owners_vanishing e.0 n) states (omega arith) publishable hold.settled
      (other-bytes (owner_page L t) (bytes_in always) front states hold.served (bytes_in later) shown-same))
      (owner_page (after_note_at L e n) (effect t u)) (λ o. sym (vanish shape L t u n e (with_pages (owner_page L t) (bytes_in later) published) h content-renewed o))

  pub change-holds : HoldLayout (published_states (front + 1) e.0 n (renewed L e n).parts pages states) later (front + 1) (after_note_at L e n) (effect t u)
  unfolding published_states
  change-holds = record {
    known = change-known;
    settled = change_settles front (front + 1) published (owners_vanishing e.0 n) states (omega arith) hold.settled;
    served = change-served;
  }
