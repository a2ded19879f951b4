-- When all is redone and on the disk for good, the file of a new session stands where its root led.
use Rattle.std.proofs.Common.{◌≡◌, ℕ, List, [], fold, length, replicate, Option, None, sym, ap, subst, ◌∙◌, arith}
use Rattle.std.proofs.lemmas.List.{append-nil}
use Rattle.grid_types.specs.declared.layout_change.LoggedUpdate.{LoggedUpdate}
use Rattle.grid_types.specs.declared.shape.Shape.{Shape}
use Rattle.grid_model.specs.Tables.{Table}
use Rattle.grid_model.specs.Layouts.{Layout}
use Rattle.grid_model.specs.LayoutLaws.{StandsOver}
use Rattle.grid_model.specs.Lone.{State}
use Rattle.grid_model.specs.Images.{logged_effect, layout_after}
use Rattle.grid_model.specs.Roots.{WholeRoot}
use Rattle.history_pages.specs.KnownPages.{settle_page}
use Rattle.layout_pages.specs.Holding.{HoldLayout, NamesCurrent}
use Rattle.kept_pages.specs.Counts.{CountsRoot}
use Rattle.file_images.specs.Kept.{Kept}
use Rattle.file_images.specs.Leads.{Standing, Lineage, updates_in, LeadsAlong}
use Rattle.file_images.specs.Steps.{with_settled}
use Rattle.file_images.proofs.PagesLeading.{leads_fresh, leads_settled}
use Rattle.file_books.specs.Books.{Books}
use Rattle.file_books.specs.Effects.{session_books}
use Rattle.file_standing.specs.Files.{state_along, BooksHold, Follows, FollowsSome, IsFile}
use Rattle.file_standing.proofs.Along.{at-standing}
use Rattle.file_standing.proofs.Moving.{only-root}
use Rattle.file_redo.specs.Redoing.{as_read, standing_behind, state_behind, IsRedoing, settled_kept}
use Rattle.file_redo.specs.RedoLaws.{RedoEnds}
use Rattle.file_redo.proofs.Going.{state-at}
use Rattle.file_redo.proofs.Reading.{fresh_pages, none-fresh, all-settled}

module _ {K : ℕ} (b : Books) (k : Kept K) (m : Standing K) (x : Lineage K) (done : List (LoggedUpdate K)) (is : IsRedoing b k m x done []) where
  abbrev stand : Standing K
  stand = standing_behind b.rooted_at x done

  abbrev lone : State K
  lone = state_behind b.rooted_at x done

  -- all updates of the lineage are redone
  all-done : updates_in x.taken ≡ done
  all-done = is.parted ∙ append-nil done

  table-is : m.table ≡ stand.table
  table-is = is.along.makes_table ∙ ap (fold logged_effect x.table) all-done

  layout-is : m.layout ≡ stand.layout
  layout-is = is.along.makes_layout ∙ ap (layout_after x.layout) all-done

  lone-along : state_along k.root x ≡ lone
  lone-along = λ i. state_behind (is.agree.root i) x (all-done i)

  place-is : m.place ≡ b.front
  place-is = sym (at-standing k k.root m x is.along).front ∙ ap (λ (s : State K). s.front) lone-along ∙ (state-at b k m x done [] is).front ∙ is.hold.place

  many : length k.always ≡ k.shape.pages
  many = is.hold.always ∙ ap (λ (s : Shape). s.pages) (sym is.agree.shape)

  -- the root names no page that was written, so it leads where it did once these are settled
  leads-ended : LeadsAlong (settled_kept k) k.root m x
  leads-ended =
      let settled : LeadsAlong (with_settled k (fresh_pages k.shape.pages k.fresh k.always many)) k.root m x =
      leads_settled k m (fresh_pages k.shape.pages k.fresh k.always many) k.root x (λ p on named. none-fresh k.shape.pages k.fresh k.always many p on (is.unwritten p named)) is.along in
      let fresh : LeadsAlong (record k { always = fold (settle_page k.fresh) k.always (fresh_pages k.shape.pages k.fresh k.always many); fresh = replicate k.shape.pages None }) k.root m x =
      leads_fresh (with_settled k (fresh_pages k.shape.pages k.fresh k.always many)) (replicate k.shape.pages None) m k.root x settled in
      subst (λ (always : List (Option (List ℕ))). LeadsAlong (record k { always = always; fresh = replicate k.shape.pages None }) k.root m x) (all-settled k.shape.pages k.fresh k.always many) fresh

  ended-hold : BooksHold (session_books b) (settled_kept k) m
  ended-hold = record {
    place = place-is;
    scales = ap (λ (L : Layout K). L.scales) layout-is ∙ is.hold.scales;
    records = ap (λ (t : Table). length t) table-is ∙ is.hold.records;
    buckets = ap (λ (L : Layout K). length L.boxes) layout-is ∙ is.hold.buckets;
    stands = subst (λ (p : Layout K × Table). StandsOver b.shape p.0 p.1) (λ i. (sym layout-is i, sym table-is i)) is.hold.stands;
    size = is.hold.size;
    holds = subst (λ (p : Layout K × Table). HoldLayout b.pages (as_read k) b.front p.0 p.1) (λ i. (sym layout-is i, sym table-is i)) is.hold.holds;
    fresh = ap (λ (s : Shape). replicate s.pages None) is.agree.shape;
  }

  ended-follows : Follows (session_books b) (settled_kept k) m k.root x
  ended-follows = record {
    along = leads-ended;
    names = subst (λ (n : ℕ). NamesCurrent n b.pages k.root.area) (sym is.agree.root) is.names;
    counts = subst (λ (p : ℕ × State K). CountsRoot b.pages b.front p.0 p.1) (λ i. (sym is.agree.root i, sym lone-along i)) is.counts;
    before = omega (arith, is.agree.root, is.hold.place);
    session = omega (arith, is.session);
    none = λ same. absurd (omega (arith, same, is.session));
  }

  ended-file : IsFile (session_books b) (settled_kept k) m
  ended-file = record {
    agree = record {
      shape = is.agree.shape;
      number = is.agree.number;
      root = is.agree.root;
      tried = is.agree.tried;
      half = is.agree.half;
      two = is.agree.two;
      first = is.agree.first;
      second = is.agree.second;
    };
    hold = ended-hold;
    shut = is.shut;
    each = λ w may. subst (λ (v : WholeRoot). FollowsSome (session_books b) (settled_kept k) m v) (sym (only-root k w is.other may)) (record { lineage = x; along = ended-follows });
  }

pub redo-ends : {K : ℕ} → RedoEnds K
redo-ends b k m x done is = ended-file b k m x done is
