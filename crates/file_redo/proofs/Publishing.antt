-- The next update is redone when its new pages are published.
use Rattle.std.proofs.Common.{◌≡◌, ◌≤◌, ◌+◌, ◌*◌, ◌++◌, ℕ, true, List, [], ◌∷◌, fold, length, slice_index, Option, Some, None, is_some, refl, sym, ap, subst, ◌∙◌, arith}
use Rattle.std.specs.Prelude.{slice_get, slice_index_or, Contains}
use Rattle.std.specs.List.{count_by}
use Rattle.std.specs.Option.{option_map_or}
use Rattle.std.proofs.lemmas.List.{append_assoc, length-append, length-map}
use Rattle.std.proofs.lemmas.List.Sums.{fold-append}
use Rattle.grid_types.specs.declared.layout_change.LoggedUpdate.{LoggedUpdate}
use Rattle.grid_types.specs.declared.shape.Shape.{Shape}
use Rattle.grid_types.proofs.Each.{any-default}
use Rattle.grid_model.specs.Cells.{parts, dims}
use Rattle.grid_model.specs.Lists.{is_among}
use Rattle.grid_model.specs.Tables.{Table, effect}
use Rattle.grid_model.specs.Layouts.{BucketBox, Layout, holder}
use Rattle.grid_model.specs.LayoutLaws.{StandsOver}
use Rattle.grid_model.specs.LoneLaws.{IsState}
use Rattle.grid_model.specs.Lone.{State, opened, published, renewed, how_many}
use Rattle.grid_model.specs.Images.{redo, logged_effect, layout_after}
use Rattle.grid_model.specs.Notes.{updated_key, after_note, after_note_at}
use Rattle.grid_model.proofs.Boundaries.{among-index}
use Rattle.grid_model.proofs.Holders.{after-there}
use Rattle.grid_model.proofs.LeastUnused.{least-unused}
use Rattle.grid_model.proofs.Merged.{lawful-merge}
use Rattle.grid_model.proofs.States.{opened-state, published-state}
use Rattle.grid_model.proofs.Together.{sound-layouts}
use Rattle.directory_changes.specs.Changes.{directory_change, parts_changed}
use Rattle.directory_changes.proofs.Renewed.{same-parts}
use Rattle.history_pages.specs.KnownPages.{settle_page}
use Rattle.history_pages.specs.NewPages.{in_order, new_page, new_pages}
use Rattle.page_states.specs.declared.page_state.PageState.TheVariants.{Claimed}
use Rattle.page_states.specs.States.{is_claimed}
use Rattle.layout_pages.specs.Holding.{HoldLayout, named_by}
use Rattle.layout_pages.specs.Steps.{published_states}
use Rattle.layout_pages.proofs.Changing.{change-holds}
use Rattle.layout_pages.proofs.Present.{some-at}
use Rattle.layout_pages.proofs.Staying.{named-stay, named-apart}
use Rattle.kept_pages.specs.Counts.{CountsRoot}
use Rattle.kept_pages.proofs.Changes.{change-counts}
use Rattle.kept_pages.proofs.FreePages.{free-count}
use Rattle.kept_pages.proofs.Listed.{in-order-length}
use Rattle.file_images.specs.Kept.{Kept}
use Rattle.file_images.specs.Leads.{Standing, Lineage}
use Rattle.file_images.proofs.PagesLeading.{leads_fresh}
use Rattle.file_books.specs.Books.{Books}
use Rattle.file_books.specs.Effects.{parts_renewed, published_books, buckets_after, scales_after_change, records_after}
use Rattle.file_standing.specs.Steps.{IsWritten, publishing, record_change, with_fresh}
use Rattle.file_standing.proofs.Following.{claimed-many}
use Rattle.file_standing.proofs.Tallies.{records-fit, records-counted, buckets-counted, scales-counted}
use Rattle.file_redo.specs.Redoing.{pages_read, as_read, standing_behind, state_behind, IsRedoing}
use Rattle.file_redo.specs.RedoLaws.{AreSameBut, RedoGoesOn}
use Rattle.file_redo.proofs.Beginning.{live-many}
use Rattle.file_redo.proofs.Going.{state-at, counted}
use Rattle.file_redo.proofs.Reading.{read-many, settled-read}

module _ {K : ℕ} (b : Books) (k : Kept K) (m : Standing K) (x : Lineage K) (done rest : List (LoggedUpdate K)) (u : LoggedUpdate K) (e : ℕ × BucketBox K) (pages : List ℕ) (fresh : List (Option (List ℕ)))
    (is : IsRedoing b k m x done (u ∷ rest)) (wr : IsWritten b (standing_behind b.rooted_at x done) e u.update u.note pages fresh) (but : AreSameBut pages k.fresh fresh) (many : length fresh ≡ length k.fresh) where
  abbrev stand : Standing K
  stand = standing_behind b.rooted_at x done

  abbrev lone : State K
  lone = state_behind b.rooted_at x done

  abbrev next : Standing K
  next = standing_behind b.rooted_at x (done ++ u ∷ [])

  abbrev b2 : Books
  b2 = published_books b (publishing stand e u.update u.note pages)

  -- the parts that the books renew are those of the change
  parts-are : parts_renewed b (publishing stand e u.update u.note pages) ≡ (renewed stand.layout e u.note).parts
  parts-are = ap (λ (scales : List (List ℕ)). parts_changed (dims scales) (directory_change stand.layout e u.note)) (sym is.hold.scales) ∙ same-parts b.shape stand.layout stand.table u.update u.note e wr.change

  -- the table, the layout and the lone caller's state behind the update
  table-is : next.table ≡ effect stand.table u.update
  table-is = fold-append logged_effect x.table done (u ∷ [])

  layout-is : next.layout ≡ after_note_at stand.layout e u.note
  unfolding layout_after
  layout-is = fold-append (λ M v. after_note M (updated_key v.update) v.note) x.layout done (u ∷ []) ∙ after-there stand.layout (updated_key u.update) e u.note wr.change.holds

  found : holder lone.layout (updated_key u.update) ≡ Some e
  found = ap (λ (L : Layout K). holder L (updated_key u.update)) (state-at b k m x done (u ∷ rest) is).layout ∙ wr.change.holds

  state-is : state_behind b.rooted_at x (done ++ u ∷ []) ≡ published e u.update u.note lone
  state-is = fold-append redo (opened x.table x.layout b.rooted_at) done (u ∷ []) ∙ ap (λ (o : Option (ℕ × BucketBox K)). option_map_or (λ y. published y u.update u.note lone) o lone) found

  -- its pages and those of the layout are data pages
  as-many : length pages ≡ how_many (renewed stand.layout e u.note)
  unfolding new_pages
  as-many = wr.reads.count ∙ length-map (in_order (renewed stand.layout e u.note)) (new_page stand.layout stand.table u.update u.note e) ∙ in-order-length (renewed stand.layout e u.note)

  all-fit : length lone.layout.boxes + parts lone.layout.scales + lone.kept + count_by is_claimed b.pages ≤ b.shape.pages
  all-fit = free-count.fit b.shape b.pages (as_read k) b.front b.rooted_at lone (counted b k m x done (u ∷ rest) is)

  room : length stand.layout.boxes + parts stand.layout.scales + how_many (renewed stand.layout e u.note) ≤ b.shape.pages
  room =
      let at = state-at b k m x done (u ∷ rest) is in
      omega (arith, all-fit, ap (λ (L : Layout K). length L.boxes) at.layout, ap (λ (L : Layout K). parts L.scales) at.layout, as-many, claimed-many pages b.pages wr.claimed)

  -- the layout after the update stands over the table after it
  stands : StandsOver b.shape (after_note_at stand.layout e u.note) (effect stand.table u.update)
  unfolding published
  stands =
      let before : IsState b.shape (opened stand.table stand.layout b.front) = opened-state b.shape stand.table stand.layout b.front is.hold.stands (omega (arith, room)) in
      let after : IsState b.shape (published e u.update u.note (opened stand.table stand.layout b.front)) =
      published-state b.shape sound-layouts least-unused (record { merge = lawful-merge }) (opened stand.table stand.layout b.front) e u.update u.note before wr.update wr.change.holds wr.change.lawful (omega (arith, room)) in
      after.stands

  stands-next : StandsOver b.shape next.layout next.table
  stands-next = subst (λ (p : Layout K × Table). StandsOver b.shape p.0 p.1) (λ i. (sym layout-is i, sym table-is i)) stands

  buckets-are : length next.layout.boxes ≡ buckets_after b.buckets u.note
  buckets-are = ap (λ (L : Layout K). length L.boxes) layout-is ∙ buckets-counted b.shape stand.layout stand.table u.update e u.note wr.change ∙ ap (λ (c : ℕ). buckets_after c u.note) is.hold.buckets

  records-are : length next.table ≡ records_after (buckets_after b.buckets u.note * b.shape.capacity) b.records (record_change stand.table u.update)
  records-are =
      let few : length next.table ≤ buckets_after b.buckets u.note * b.shape.capacity =
      subst (λ (c : ℕ). length next.table ≤ c * b.shape.capacity) buckets-are (records-fit b.shape next.layout next.table stands-next) in
      let less : length (effect stand.table u.update) ≤ buckets_after b.buckets u.note * b.shape.capacity = omega (arith, few, ap (λ (t : Table). length t) table-is) in
      ap (λ (t : Table). length t) table-is
      ∙ records-counted b.shape stand.layout stand.table u.update u.note (buckets_after b.buckets u.note * b.shape.capacity) is.hold.stands.table wr.change.lawful less
      ∙ ap (λ (c : ℕ). records_after (buckets_after b.buckets u.note * b.shape.capacity) c (record_change stand.table u.update)) is.hold.records

  -- each new page reads as something
  each-reads : (q : ℕ) → is_among pages q ≡ true → is_some (slice_index_or fresh q None) ≡ true
  each-reads q a =
      let at = among-index pages q a in
      let w = some-at (new_pages stand.layout stand.table u.update u.note e) at.0 (omega (arith, at.1, wr.reads.count)) in
      ap is_some (ap (λ (p : ℕ). slice_index_or fresh p None) (sym at.2) ∙ wr.reads.each at.0 w.0 w.1)

  reads-are : fold (settle_page fresh) (as_read k) pages ≡ pages_read k.shape.pages fresh k.always
  reads-are = settled-read k.shape.pages k.fresh fresh k.always pages each-reads but

  pages-hold : HoldLayout b2.pages (as_read (with_fresh k fresh)) b2.front next.layout next.table
  pages-hold =
      let base : HoldLayout (published_states (b.front + 1) e.0 u.note (renewed stand.layout e u.note).parts pages b.pages) (fold (settle_page fresh) (as_read k) pages) (b.front + 1) (after_note_at stand.layout e u.note) (effect stand.table u.update) =
      change-holds b.shape stand.layout stand.table u.update u.note e b.pages (as_read k) fresh b.front pages wr.change is.hold.holds wr.claimed wr.reads in
      subst (λ (p : List ℕ × List (Option (List ℕ)) × Layout K × Table). HoldLayout (published_states (b.front + 1) e.0 u.note p.0 pages b.pages) p.1 (b.front + 1) p.2 p.3)
      (λ i. (sym parts-are i, reads-are i, sym layout-is i, sym table-is i)) base

  many-pages : length b2.pages ≡ b.shape.pages
  many-pages = live-many (as_read (with_fresh k fresh)) b2.pages pages-hold.known ∙ read-many k.shape.pages fresh k.always ∙ ap (λ (s : Shape). s.pages) is.agree.shape

  -- the root names no claimed page, so none that it names is written
  names-none : (p : ℕ) → Contains pages p → Contains (named_by k.root.area) p → ⊥
  names-none p on named =
      let at = wr.claimed.claimed on.0 on.1 in
      let here : slice_index pages on.0 ≡ p = any-default pages on.0 0 p on.1 ∙ on.2 in
      named-apart.spare b.pages k.root.area b.rooted_at p (Claimed at.0) is.names (ap (slice_get b.pages) (sym here) ∙ at.1) refl named

  counts-next : CountsRoot b2.pages b2.front b.rooted_at (state_behind b.rooted_at x (done ++ u ∷ []))
  counts-next =
      let at = state-at b k m x done (u ∷ rest) is in
      let base : CountsRoot (published_states (b.front + 1) e.0 u.note (renewed stand.layout e u.note).parts pages b.pages) (b.front + 1) b.rooted_at (published e u.update u.note lone) =
      change-counts b.shape stand.layout stand.table u.update u.note e b.pages (as_read k) b.front b.rooted_at pages lone wr.change at.layout at.table (omega (arith, is.hold.place)) is.hold.holds wr.claimed as-many is.counts in
      subst (λ (p : List ℕ × State K). CountsRoot (published_states (b.front + 1) e.0 u.note p.0 pages b.pages) (b.front + 1) b.rooted_at p.1) (λ i. (sym parts-are i, sym state-is i)) base

  redoing-next : IsRedoing b2 (with_fresh k fresh) m x (done ++ u ∷ []) rest
  redoing-next = record {
    agree = record {
      shape = is.agree.shape;
      number = is.agree.number;
      root = is.agree.root;
      tried = is.agree.tried;
      half = is.agree.half;
      two = is.agree.two;
      first = is.agree.first;
      second = is.agree.second;
    };
    other = is.other;
    shut = is.shut;
    along = leads_fresh k fresh m k.root x is.along;
    parted = is.parted ∙ sym (append_assoc done (u ∷ []) rest);
    hold = record {
      place = omega (arith, is.hold.place, length-append done (u ∷ []));
      scales = ap (λ (L : Layout K). L.scales) layout-is ∙ scales-counted stand.layout e u.note ∙ ap (λ (s : List (List ℕ)). scales_after_change s u.note) is.hold.scales;
      records = records-are;
      buckets = buckets-are;
      stands = stands-next;
      size = many-pages;
      holds = pages-hold;
      always = is.hold.always;
      fresh = many ∙ is.hold.fresh;
    };
    names = named-stay.change b.pages k.root.area b.rooted_at (b.front + 1) e.0 u.note (parts_renewed b (publishing stand e u.update u.note pages)) pages (omega (arith, is.hold.place)) wr.claimed is.names;
    unwritten = λ p named. but p (λ on. names-none p on named) ∙ is.unwritten p named;
    counts = counts-next;
    session = is.session;
    quiet = is.quiet;
  }

pub redo-goes-on : {K : ℕ} → RedoGoesOn K
redo-goes-on b k m x done rest u e pages fresh is wr but many = redoing-next b k m x done rest u e pages fresh is wr but many
