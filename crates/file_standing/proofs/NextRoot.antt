-- The next root of the books holds the standing itself: it leads there with no batch taken.
use Rattle.std.proofs.Common.{◌≡◌, ◌<◌, inl, inr, ℕ, Some, refl, sym, ap, subst, ◌∙◌, arith}
use Rattle.std.specs.Prelude.{slice_get}
use Rattle.grid_types.specs.declared.shape.Shape.{Shape}
use Rattle.grid_model.specs.Cells.{parts}
use Rattle.grid_model.specs.Images.{layout_after}
use Rattle.grid_model.specs.LayoutLaws.{StandsOver}
use Rattle.grid_model.specs.Lone.{opened}
use Rattle.grid_model.specs.Roots.{WholeRoot}
use Rattle.grid_model.proofs.Members.{contains-none}
use Rattle.history_pages.specs.KnownPages.{AreaHolds}
use Rattle.layout_pages.specs.Holding.{NamesCurrent}
use Rattle.layout_pages.specs.HoldingLaws.{TellsCurrent}
use Rattle.layout_pages.proofs.Copying.{copy-holds}
use Rattle.kept_pages.specs.Counts.{CountsRoot}
use Rattle.kept_pages.proofs.Starts.{roots-count}
use Rattle.file_images.specs.Kept.{PlacedBatch, Kept, on_half}
use Rattle.file_images.specs.Leads.{Standing, RootHolds, LeadsAlong, lineage_at}
use Rattle.file_images.proofs.Histories.{shut_no_doubt}
use Rattle.file_books.specs.Books.{Books}
use Rattle.file_standing.specs.Files.{NoneAhead, Follows, FollowsSome, IsFile}
use Rattle.file_standing.specs.Steps.{IsNextRoot}

module _ {K : ℕ} (b : Books) (k : Kept K) (m : Standing K) (w : WholeRoot) (is : IsFile b k m) (next : IsNextRoot b w) where
  old : FollowsSome b k m k.root
  old = is.each k.root (inl refl)

  tells : TellsCurrent b.pages m.layout w.area
  tells = record {
    scales = next.scales ∙ sym is.hold.scales;
    numbers = next.numbers ∙ sym is.hold.size;
    buckets = next.buckets;
    count = next.count ∙ ap parts (sym is.hold.scales);
    directory = next.directory;
  }

  copied : AreaHolds k.always w.area m.layout m.table × NamesCurrent b.front b.pages w.area
  copied = copy-holds b.shape w.area b.pages k.always b.front m.layout m.table is.hold.stands is.hold.size is.hold.holds tells

  -- where there is a batch of its session, the old root is of that session too
  old-session : (h i : ℕ) (p : PlacedBatch K) → h < 2 → slice_get (on_half k h) i ≡ Some p → p.batch.session ≡ w.fields.session → k.root.fields.session ≡ b.session
  old-session h i p two at mine = omega (arith, old.along.along.sessions h i p two at, old.along.session, next.session, mine)

  -- so that none begins beyond the place
  none-beyond : NoneAhead k w m.place
  none-beyond h i p two at mine = let same = old-session h i p two at mine in old.along.none same h i p two at (mine ∙ next.session ∙ sym same)

  new-holds : RootHolds k w m.layout m.table
  new-holds = record {
    scales = copied.0.scales;
    directory = copied.0.directory;
    numbers = copied.0.numbers;
    stands = subst (λ (s : Shape). StandsOver s m.layout m.table) (sym is.agree.shape) is.hold.stands;
    records = next.records ∙ sym is.hold.records;
    pages = copied.0.pages;
  }

  new-leads : LeadsAlong k w m (lineage_at m)
  unfolding layout_after
  new-leads = record {
    holds = new-holds;
    chain = next.front ∙ sym is.hold.place;
    there = λ d on. contains-none d on;
    known = λ h i p two at mine. inr (inl (omega (arith, none-beyond h i p two at mine, next.front, is.hold.place)));
    sessions = λ h i p two at. omega (arith, old.along.along.sessions h i p two at, old.along.session, next.session);
    makes_table = refl;
    makes_layout = refl;
    may = tt;
    doubt = λ d e. shut_no_doubt d (sym is.shut ∙ e);
  }

  pub new-follows : Follows b k m w (lineage_at m)
  new-follows = record {
    along = new-leads;
    names = subst (λ (p : ℕ). NamesCurrent p b.pages w.area) (sym next.front) copied.1;
    counts = subst (λ (p : ℕ). CountsRoot b.pages b.front p (opened m.table m.layout p)) (sym next.front) (roots-count b.shape b.pages k.always b.front m.layout m.table is.hold.stands is.hold.holds);
    before = omega (arith, next.front);
    session = omega (arith, next.session);
    none = λ own. none-beyond;
  }
