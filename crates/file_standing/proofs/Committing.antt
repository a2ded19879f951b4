-- Once a change is committed and published, a file stands behind it.
use Rattle.std.proofs.Common.{◌≡◌, ◌<◌, ◌≤◌, ◌+◌, ◌*◌, inl, inr, ℕ, List, [], ◌∷◌, fold, map, length, replicate, slice_index, Option, None, refl, sym, ap, subst, ◌∙◌, arith}
use Rattle.std.specs.Prelude.{slice_get}
use Rattle.std.proofs.lemmas.List.{length-set, length-map}
use Rattle.grid_types.specs.declared.layout_change.LayoutChange.{LayoutChange}
use Rattle.grid_types.specs.declared.owner.Owner.{Owner}
use Rattle.grid_types.specs.declared.update.Update.{Update}
use Rattle.grid_types.proofs.Each.{any-default}
use Rattle.grid_model.specs.Cells.{parts, dims}
use Rattle.grid_model.specs.Tables.{effect}
use Rattle.grid_model.specs.Layouts.{BucketBox, Layout, holder}
use Rattle.grid_model.specs.LayoutLaws.{StandsOver}
use Rattle.grid_model.specs.LoneLaws.{IsState}
use Rattle.grid_model.specs.Lone.{State, opened, published, renewed, how_many}
use Rattle.grid_model.specs.Images.{layout_after}
use Rattle.grid_model.specs.Notes.{updated_key, after_note_at}
use Rattle.grid_model.specs.Roots.{WholeRoot}
use Rattle.grid_model.specs.Spellings.{LoggedBatch}
use Rattle.grid_model.proofs.Holders.{after-there}
use Rattle.grid_model.proofs.LeastUnused.{least-unused}
use Rattle.grid_model.proofs.Merged.{lawful-merge}
use Rattle.grid_model.proofs.States.{opened-state, published-state}
use Rattle.grid_model.proofs.Together.{sound-layouts}
use Rattle.directory_changes.specs.Changes.{directory_change, parts_changed}
use Rattle.directory_changes.proofs.Renewed.{same-parts}
use Rattle.history_pages.specs.KnownPages.{settle_page}
use Rattle.page_states.specs.declared.page_state.PageState.{PageState}
use Rattle.page_states.specs.declared.page_state.PageState.TheVariants.{Claimed, Live}
use Rattle.page_states.specs.Effects.{with_end, with_newest, vanished}
use Rattle.page_states.specs.Changes.{Publication, all_published, all_vanished}
use Rattle.layout_pages.specs.Holding.{HoldLayout, NamesCurrent}
use Rattle.layout_pages.specs.Steps.{published_states, publications, owners_renewed, owners_vanishing}
use Rattle.layout_pages.proofs.Changing.{change-holds}
use Rattle.layout_pages.proofs.Staying.{named-stay, named-apart}
use Rattle.kept_pages.specs.Counts.{CountsRoot}
use Rattle.kept_pages.proofs.Changes.{change-counts}
use Rattle.file_images.specs.Kept.{Counting, PlacedBatch, Kept}
use Rattle.file_images.specs.Leads.{Standing, behind, Lineage, and_then, LeadsAlong}
use Rattle.file_images.specs.LeadingLaws.{NamesNone}
use Rattle.file_images.specs.Steps.{ruled, first_with, second_with, with_slot, with_doubt, with_settled}
use Rattle.file_images.proofs.Halves.{old_or_new}
use Rattle.file_images.proofs.Histories.{leads_placed}
use Rattle.file_images.proofs.PagesLeading.{leads_fresh, leads_settled}
use Rattle.file_books.specs.Books.{Books}
use Rattle.file_books.specs.Effects.{used_of, idle_half, parts_renewed, published_books, committed_books, buckets_after, scales_after_change, records_after}
use Rattle.file_standing.specs.Files.{state_along, NoneAhead, Follows, FollowsSome, IsFile, IsAlone, InSession}
use Rattle.file_standing.specs.Steps.{publishing, record_change, batch_of_one, IsWritten, with_fresh, committed_kept}
use Rattle.file_standing.specs.FileLaws.{CommitStands}
use Rattle.file_standing.proofs.Along.{state-more}
use Rattle.file_standing.proofs.Books.{books_used, used-form, used-here, used-other, idle-half-two, idle-half-apart, longer-first, longer-second, used-alike}
use Rattle.file_standing.proofs.Following.{is-at, as-many, room, leads-in-doubt}
use Rattle.file_standing.proofs.Tallies.{records-fit, records-counted, buckets-counted, scales-counted}

-- a change leaves as many pages
published-many : (at : ℕ) (xs : List Publication) (states : List PageState) → length (all_published at xs states) ≡ length states
published-many at [] states = refl
published-many at (x ∷ xs) states =
    published-many at xs (with_newest x.page x.owner at states) ∙ length-set (map (with_end x.owner at) states) x.page (Live x.owner at None) ∙ length-map states (with_end x.owner at)

vanished-many : (at : ℕ) (os : List Owner) (states : List PageState) → length (all_vanished at os states) ≡ length states
vanished-many at [] states = refl
vanished-many at (o ∷ os) states = vanished-many at os (vanished o at states) ∙ length-map states (with_end o at)

changed-many : (at bucket : ℕ) (n : LayoutChange) (ps pages : List ℕ) (states : List PageState) → length (published_states at bucket n ps pages states) ≡ length states
unfolding published_states
changed-many at bucket n ps pages states =
    vanished-many at (owners_vanishing bucket n) (all_published at (publications (owners_renewed bucket n ps) pages) states) ∙ published-many at (publications (owners_renewed bucket n ps) pages) states

module _ {K : ℕ} (b : Books) (k : Kept K) (m : Standing K) (e : ℕ × BucketBox K) (u : Update K) (n : LayoutChange) (pages : List ℕ) (fresh : List (Option (List ℕ))) (is : IsFile b k m) (own : InSession b k) (wr : IsWritten b m e u n pages fresh) where
  abbrev d : LoggedBatch K
  d = batch_of_one b u n

  abbrev b2 : Books
  b2 = published_books b (publishing m e u n pages)

  abbrev b3 : Books
  b3 = books_used b2 b.half (used_of b2 b.half + 1)

  abbrev k2 : Kept K
  k2 = committed_kept b k pages fresh d

  two : k.half < 2
  two = omega (arith, is.agree.half, is.agree.two)

  -- the parts that the books renew are those of the change
  parts-are : parts_renewed b (publishing m e u n pages) ≡ (renewed m.layout e n).parts
  parts-are = ap (λ (scales : List (List ℕ)). parts_changed (dims scales) (directory_change m.layout e n)) (sym is.hold.scales) ∙ same-parts b.shape m.layout m.table u n e wr.change

  -- the layout behind the batch
  layout-is : (behind m d).layout ≡ after_note_at m.layout e n
  unfolding layout_after
  layout-is = after-there m.layout (updated_key u) e n wr.change.holds

  old : FollowsSome b k m k.root
  old = is.each k.root (inl refl)

  space : length m.layout.boxes + parts m.layout.scales + how_many (renewed m.layout e n) ≤ b.shape.pages
  space = room b k m is.hold k.root old.lineage old.along e u n pages fresh wr

  -- the layout after the change stands over the table after it
  stands : StandsOver b.shape (after_note_at m.layout e n) (effect m.table u)
  unfolding published
  stands =
      let before : IsState b.shape (opened m.table m.layout b.front) = opened-state b.shape m.table m.layout b.front is.hold.stands (omega (arith, space)) in
      let after : IsState b.shape (published e u n (opened m.table m.layout b.front)) =
      published-state b.shape sound-layouts least-unused (record { merge = lawful-merge }) (opened m.table m.layout b.front) e u n before wr.update wr.change.holds wr.change.lawful (omega (arith, space)) in
      after.stands

  stands-behind : StandsOver b.shape (behind m d).layout (behind m d).table
  stands-behind = subst (λ (M : Layout K). StandsOver b.shape M (effect m.table u)) (sym layout-is) stands

  buckets-are : length (behind m d).layout.boxes ≡ buckets_after b.buckets n
  buckets-are = ap (λ (M : Layout K). length M.boxes) layout-is ∙ buckets-counted b.shape m.layout m.table u e n wr.change ∙ ap (λ (c : ℕ). buckets_after c n) is.hold.buckets

  records-are : length (effect m.table u) ≡ records_after (buckets_after b.buckets n * b.shape.capacity) b.records (record_change m.table u)
  records-are =
      let few : length (effect m.table u) ≤ buckets_after b.buckets n * b.shape.capacity =
      subst (λ (c : ℕ). length (effect m.table u) ≤ c * b.shape.capacity) buckets-are (records-fit b.shape (behind m d).layout (behind m d).table stands-behind) in
      records-counted b.shape m.layout m.table u n (buckets_after b.buckets n * b.shape.capacity) is.hold.stands.table wr.change.lawful few
      ∙ ap (λ (c : ℕ). records_after (buckets_after b.buckets n * b.shape.capacity) c (record_change m.table u)) is.hold.records

  pages-hold : HoldLayout b2.pages k2.always b2.front (behind m d).layout (behind m d).table
  pages-hold =
      let base : HoldLayout (published_states (b.front + 1) e.0 n (renewed m.layout e n).parts pages b.pages) (fold (settle_page fresh) k.always pages) (b.front + 1) (after_note_at m.layout e n) (effect m.table u) =
      change-holds b.shape m.layout m.table u n e b.pages k.always fresh b.front pages wr.change is.hold.holds wr.claimed wr.reads in
      subst (λ (p : List ℕ × Layout K). HoldLayout (published_states (b.front + 1) e.0 n p.0 pages b.pages) (fold (settle_page fresh) k.always pages) (b.front + 1) p.1 (effect m.table u)) (λ i. (sym parts-are i, sym layout-is i)) base

  -- a root names no claimed page
  names-none : (w : WholeRoot) → NamesCurrent w.fields.front b.pages w.area → NamesNone w pages
  names-none w names p on named =
      let at = wr.claimed.claimed on.0 on.1 in
      let here : slice_index pages on.0 ≡ p = any-default pages on.0 0 p on.1 ∙ on.2 in
      named-apart.spare b.pages w.area w.fields.front p (Claimed at.0) names (ap (slice_get b.pages) (sym here) ∙ at.1) refl named

  module _ (w : WholeRoot) (x : Lineage K) (mine : w.fields.session ≡ b.session) (f : Follows b k m w x) where
    leads-committed : LeadsAlong k2 w (behind m d) (and_then x d)
    leads-committed =
        let doubt : LeadsAlong (with_doubt (with_fresh k fresh) d) w m x = leads-in-doubt b k m is.hold w x f e u n pages fresh wr is.agree.shape mine in
        let counts : LeadsAlong (with_slot (with_fresh k fresh) d) w (behind m d) (and_then x d) = leads_placed (with_doubt (with_fresh k fresh) d) w m x doubt d refl two Counting (omega arith) refl in
        let settled : LeadsAlong (with_settled (with_slot (with_fresh k fresh) d) pages) w (behind m d) (and_then x d) = leads_settled (with_slot (with_fresh k fresh) d) (behind m d) pages w (and_then x d) (names-none w f.names) counts in
        leads_fresh (with_settled (with_slot (with_fresh k fresh) d) pages) (replicate b.shape.pages None) (behind m d) w (and_then x d) settled

    none-committed : NoneAhead k2 w (behind m d).place
    none-committed h i p less on same = elim (old_or_new k (ruled d Counting) two h i p less on) [
      | inl was ↦ omega (arith, f.none mine h i p less was same)
      | inr new ↦ omega (arith, ap (λ (y : PlacedBatch K). y.batch.first) new, is.hold.place)
    ]

    state-committed : state_along w (and_then x d) ≡ published e u n (state_along w x)
    state-committed = state-more w x d (record { update = u; note = n }) refl e (ap (λ (L : Layout K). holder L (updated_key u)) (is-at b k m is.hold w x f).layout ∙ wr.change.holds)

    counts-committed : CountsRoot b2.pages b2.front w.fields.front (state_along w (and_then x d))
    counts-committed =
        let base : CountsRoot (published_states (b.front + 1) e.0 n (renewed m.layout e n).parts pages b.pages) (b.front + 1) w.fields.front (published e u n (state_along w x)) =
        change-counts b.shape m.layout m.table u n e b.pages k.always b.front w.fields.front pages (state_along w x) wr.change (is-at b k m is.hold w x f).layout (is-at b k m is.hold w x f).table f.before is.hold.holds wr.claimed
        (as-many b k m is.hold w x f e u n pages fresh wr) f.counts in
        subst (λ (p : List ℕ × State K). CountsRoot (published_states (b.front + 1) e.0 n p.0 pages b.pages) (b.front + 1) w.fields.front p.1) (λ i. (sym parts-are i, sym state-committed i)) base

    follows-committed : Follows b3 k2 (behind m d) w (and_then x d)
    follows-committed = record {
      along = leads-committed;
      names = named-stay.change b.pages w.area w.fields.front (b.front + 1) e.0 n (parts_renewed b (publishing m e u n pages)) pages (omega (arith, f.before)) wr.claimed f.names;
      counts = counts-committed;
      before = omega (arith, f.before);
      session = f.session;
      none = λ own_session. none-committed;
    }

  file-committed : IsFile b3 k2 (behind m d)
  file-committed = record {
    agree = record {
      shape = is.agree.shape;
      number = is.agree.number;
      root = is.agree.root;
      tried = is.agree.tried;
      half = is.agree.half;
      two = is.agree.two;
      first = ap (λ (h : ℕ). length (first_with h (ruled d Counting) k.first)) is.agree.half ∙ longer-first b2 b.half (ruled d Counting) k.first is.agree.first;
      second = ap (λ (h : ℕ). length (second_with h (ruled d Counting) k.second)) is.agree.half ∙ longer-second b2 b.half (ruled d Counting) k.second is.agree.second;
    };
    hold = record {
      place = omega (arith, is.hold.place);
      scales = ap (λ (M : Layout K). M.scales) layout-is ∙ scales-counted m.layout e n ∙ ap (λ (s : List (List ℕ)). scales_after_change s n) is.hold.scales;
      records = records-are;
      buckets = buckets-are;
      stands = stands-behind;
      size = changed-many (b.front + 1) e.0 n (parts_renewed b (publishing m e u n pages)) pages b.pages ∙ is.hold.size;
      holds = pages-hold;
      fresh = refl;
    };
    shut = refl;
    each = λ w may. let f = is.each w may in record { lineage = and_then f.lineage d; along = follows-committed w f.lineage (own w may) f.along };
  }

  form : committed_books b2 ≡ b3
  form = used-form b2 b.half (used_of b2 b.half + 1)

  alone-committed : (s : State K) → IsAlone b k m s → IsAlone b3 k2 (behind m d) (published e u n s)
  unfolding published
  alone-committed s alone = record {
    lineage = and_then alone.lineage d;
    follows = follows-committed k.root alone.lineage (own k.root (inl refl)) alone.follows;
    state = ap (published e u n) alone.state ∙ (λ i. record (sym (state-committed k.root alone.lineage (own k.root (inl refl)) alone.follows) i) { used = sym used-now i });
    quiet = alone.quiet;
    clear = used-other b2 b.half (idle_half b) (used_of b2 b.half + 1) is.agree.two (idle-half-two b) (idle-half-apart b is.agree.two) ∙ used-alike b2 b (idle_half b) refl refl ∙ alone.clear;
  }
    where
      used-now : used_of b3 b.half ≡ used_of b b.half + 1
      used-now = used-here b2 b.half (used_of b2 b.half + 1) ∙ ap (λ (c : ℕ). c + 1) (used-alike b2 b b.half refl refl)

pub commit-stands : {K : ℕ} → CommitStands K
commit-stands = record {
  during = λ b k m e u n pages fresh is own wr w may. let f = is.each w may in record { lineage = f.lineage; along = leads-in-doubt b k m is.hold w f.lineage f.along e u n pages fresh wr is.agree.shape (own w may) };
  after = λ b k m e u n pages fresh is own wr low. subst (λ (c : Books). IsFile c (committed_kept b k pages fresh (batch_of_one b u n)) (behind m (batch_of_one b u n))) (sym (form b k m e u n pages fresh is own wr)) (file-committed b k m e u n pages fresh is own wr);
  after_alone = λ b k m s e u n pages fresh is own alone wr low. subst (λ (c : Books). IsAlone c (committed_kept b k pages fresh (batch_of_one b u n)) (behind m (batch_of_one b u n)) (published e u n s)) (sym (form b k m e u n pages fresh is own wr)) (alone-committed b k m e u n pages fresh is own wr s alone);
}
