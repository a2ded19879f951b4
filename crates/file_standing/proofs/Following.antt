-- A root that follows along a lineage counts as the lone caller's state behind it.
use Rattle.std.proofs.Common.{◌≡◌, ◌≢◌, ◌≤◌, ◌+◌, inr, ℕ, suc, List, [], ◌∷◌, length, slice_index, Option, refl, sym, ap, subst, ◌∙◌, arith}
use Rattle.std.specs.Prelude.{slice_set}
use Rattle.std.specs.List.{count_by}
use Rattle.std.proofs.lemmas.List.{length-map}
use Rattle.grid_types.specs.declared.layout_change.LayoutChange.{LayoutChange}
use Rattle.grid_types.specs.declared.update.Update.{Update}
use Rattle.grid_model.specs.Cells.{parts}
use Rattle.grid_model.specs.Tables.{Table}
use Rattle.grid_model.specs.Layouts.{BucketBox, Layout, holder}
use Rattle.grid_model.specs.LayoutLaws.{StandsOver}
use Rattle.grid_model.specs.Lone.{State, how_many, renewed}
use Rattle.grid_model.specs.Notes.{updated_key, IsLawfulNote}
use Rattle.grid_model.specs.Roots.{WholeRoot}
use Rattle.grid_model.specs.Images.{MayRedo}
use Rattle.grid_model.proofs.Boxes.{one-value}
use Rattle.history_pages.specs.NewPages.{in_order, new_pages, new_page}
use Rattle.page_states.specs.declared.page_state.PageState.{PageState}
use Rattle.page_states.specs.declared.page_state.PageState.TheVariants.{Free, Claimed}
use Rattle.page_states.specs.States.{is_claimed}
use Rattle.page_states.specs.Changes.{ArePublishable}
use Rattle.page_states.proofs.Counting.{count_set}
use Rattle.page_states.proofs.Lists.{get_set_other}
use Rattle.layout_pages.specs.Holding.{HoldLayout}
use Rattle.kept_pages.specs.CountLaws.{AreCounted}
use Rattle.kept_pages.proofs.FreePages.{free-count}
use Rattle.kept_pages.proofs.Listed.{in-order-length}
use Rattle.file_images.specs.Kept.{InDoubt, Kept}
use Rattle.file_images.specs.Leads.{Standing, Lineage, LeadsAlong, MayFollow}
use Rattle.file_images.proofs.Leading.{leads_doubted}
use Rattle.file_images.proofs.PagesLeading.{leads_fresh}
use Rattle.file_books.specs.Books.{Books}
use Rattle.file_standing.specs.Files.{state_along, Follows, BooksHold}
use Rattle.file_standing.specs.Steps.{IsWritten, batch_of_one, with_fresh}
use Rattle.file_standing.proofs.Along.{IsAt, at-standing, may-follow}

-- so many distinct pages are claimed
pub claimed-many : (pages : List ℕ) (states : List PageState) → ArePublishable pages states → length pages ≤ count_by is_claimed states
claimed-many [] states ok = omega arith
claimed-many (p ∷ pages) states ok =
    let first = ok.claimed 0 (omega arith) in
    let less : count_by is_claimed (slice_set states p Free) + 1 ≡ count_by is_claimed states + 0 = count_set is_claimed states p (Claimed first.0) Free first.1 in
    let rest : ArePublishable pages (slice_set states p Free) = record {
      claimed = λ i low.
          let apart : slice_index pages i ≢ p = ok.distinct 0 (suc i) (omega arith) (omega (arith, low)) in
          let was = ok.claimed (suc i) (omega (arith, low)) in
          (was.0, get_set_other states p (slice_index pages i) Free apart ∙ was.1);
      distinct = λ i j low high. ok.distinct (suc i) (suc j) (omega (arith, low)) (omega (arith, high));
    } in
    omega (arith, less, claimed-many pages (slice_set states p Free) rest)

module _ {K : ℕ} (b : Books) (k : Kept K) (m : Standing K) (hold : BooksHold b k m) (w : WholeRoot) (x : Lineage K) (f : Follows b k m w x) where
  abbrev s : State K
  s = state_along w x

  pub is-at : IsAt s m
  is-at = at-standing k w m x f.along

  pub counted-along : AreCounted b.shape b.pages k.always b.front w.fields.front s
  counted-along = record {
    stands = subst (λ (p : Layout K × Table). StandsOver b.shape p.0 p.1) (λ i. (sym is-at.layout i, sym is-at.table i)) hold.stands;
    holds = subst (λ (p : Layout K × Table). HoldLayout b.pages k.always b.front p.0 p.1) (λ i. (sym is-at.layout i, sym is-at.table i)) hold.holds;
    size = hold.size;
    counts = f.counts;
  }

  all-fit : length s.layout.boxes + parts s.layout.scales + s.kept + count_by is_claimed b.pages ≤ b.shape.pages
  all-fit = free-count.fit b.shape b.pages k.always b.front w.fields.front s counted-along

  -- an update whose new pages were written to claimed pages may be taken
  module _ (e : ℕ × BucketBox K) (u : Update K) (n : LayoutChange) (pages : List ℕ) (fresh : List (Option (List ℕ))) (wr : IsWritten b m e u n pages fresh) where
    pub as-many : length pages ≡ how_many (renewed m.layout e n)
    unfolding new_pages
    as-many = wr.reads.count ∙ length-map (in_order (renewed m.layout e n)) (new_page m.layout m.table u n e) ∙ in-order-length (renewed m.layout e n)

    -- its pages and those of the layout are data pages
    pub room : length m.layout.boxes + parts m.layout.scales + how_many (renewed m.layout e n) ≤ b.shape.pages
    room = omega (arith, all-fit, ap (λ (L : Layout K). length L.boxes) is-at.layout, ap (λ (L : Layout K). parts L.scales) is-at.layout, as-many, claimed-many pages b.pages wr.claimed)

    may-redo : MayRedo b.shape s (record { update = u; note = n })
    may-redo = record {
      lawful = subst (λ (p : Layout K × Table). IsLawfulNote b.shape p.0 p.1 u n) (λ i. (sym is-at.layout i, sym is-at.table i)) wr.change.lawful;
      pages = λ d found.
          let same : d ≡ e = one-value d e (sym found ∙ ap (λ (L : Layout K). holder L (updated_key u)) is-at.layout ∙ wr.change.holds) in
          let many : how_many (renewed s.layout d n) ≡ how_many (renewed m.layout e n) = λ i. how_many (renewed (is-at.layout i) (same i) n) in
          omega (arith, all-fit, many, as-many, claimed-many pages b.pages wr.claimed);
    }

    pub may-follow-behind : k.shape ≡ b.shape → w.fields.session ≡ b.session → MayFollow (with_fresh k fresh) w x m.place (batch_of_one b u n)
    may-follow-behind shape mine = record {
      session = sym mine;
      first = omega (arith, hold.place);
      may = may-follow w x (batch_of_one b u n) (record { update = u; note = n }) refl k.shape f.along.may (subst (λ sh. MayRedo sh s (record { update = u; note = n })) (sym shape) may-redo);
    }

    -- while its batch is in doubt, the root leads where it did
    pub leads-in-doubt : k.shape ≡ b.shape → w.fields.session ≡ b.session → LeadsAlong (record k { fresh = fresh; next = InDoubt (batch_of_one b u n) }) w m x
    leads-in-doubt shape mine = leads_doubted (with_fresh k fresh) m (batch_of_one b u n) w x (λ h i p two on same. inr (f.none mine h i p two on same)) (may-follow-behind shape mine) (leads_fresh k fresh m w x f.along)
