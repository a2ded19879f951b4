-- The books that are opened at a root have redone nothing yet.
use Rattle.std.proofs.Common.{◌≡◌, ℕ, Bool, List, map, length, Option, None, is_some, refl, sym, ap, subst, ◌∙◌, arith}
use Rattle.std.proofs.lemmas.List.{length-map, length-replicate}
use Rattle.std.proofs.lemmas.List.FromFn.{length-range_with_len}
use Rattle.grid_types.specs.declared.shape.Shape.{Shape}
use Rattle.grid_model.specs.Lists.{below, is_among}
use Rattle.grid_model.specs.LayoutLaws.{StandsOver}
use Rattle.grid_model.specs.Lone.{opened}
use Rattle.grid_model.specs.Images.{layout_after}
use Rattle.grid_model.specs.Roots.{WholeRoot}
use Rattle.grid_model.proofs.Boxes.{some-not-none}
use Rattle.history_pages.specs.KnownPages.{AreaHolds}
use Rattle.page_states.specs.declared.page_state.PageState.{PageState}
use Rattle.layout_pages.specs.Holding.{HoldLayout, NamesCurrent, is_live, named_by}
use Rattle.layout_pages.specs.Steps.{opened_states}
use Rattle.layout_pages.proofs.Opening.{opening-holds}
use Rattle.kept_pages.specs.Counts.{CountsRoot}
use Rattle.kept_pages.proofs.Starts.{roots-count}
use Rattle.file_images.specs.Kept.{OtherHeader, Kept, IsTried}
use Rattle.file_images.specs.Leads.{Standing, Lineage, LeadsAlong}
use Rattle.file_redo.specs.Redoing.{as_read, pages_read}
use Rattle.file_redo.specs.RedoLaws.{IsFoundRoot, RedoBegins}
use Rattle.file_redo.proofs.Reading.{nothing-index, nothing-written}

-- pages of which something is known are as many as those that are live
pub live-many : (always : List (Option (List ℕ))) (states : List PageState) → map is_some always ≡ map is_live states → length states ≡ length always
live-many always states known = sym (length-map states is_live) ∙ ap (λ (bs : List Bool). length bs) (sym known) ∙ length-map always is_some

module _ {K : ℕ} (s : Shape) (w : WholeRoot) (first second : ℕ) (k : Kept K) (m : Standing K) (x : Lineage K) (f : IsFoundRoot s w first second k m x) where
  always-many : length k.always ≡ s.pages
  always-many = sym (length-map k.always is_some) ∙ ap (λ (bs : List Bool). length bs) f.known ∙ length-map (below s.pages) (is_among (named_by w.area)) ∙ length-range_with_len 0 s.pages

  root-stands : StandsOver s x.layout x.table
  root-stands = subst (λ (sh : Shape). StandsOver sh x.layout x.table) f.shape f.along.holds.stands

  area-holds : AreaHolds k.always w.area x.layout x.table
  area-holds = record { scales = f.along.holds.scales; directory = f.along.holds.directory; numbers = f.along.holds.numbers; pages = f.along.holds.pages }

  at-opening : HoldLayout (opened_states s.pages w.fields.front w.area) k.always w.fields.front x.layout x.table × NamesCurrent w.fields.front (opened_states s.pages w.fields.front w.area) w.area
  at-opening = opening-holds s w k.always x.layout x.table root-stands f.area area-holds f.known

  -- nothing was written, so each page reads as what it always holds
  reads-always : as_read k ≡ k.always
  reads-always = (λ i. pages_read (f.shape i).pages (f.fresh i) k.always) ∙ nothing-written s.pages k.always always-many

  opened-holds : HoldLayout (opened_states s.pages w.fields.front w.area) (as_read k) w.fields.front x.layout x.table
  opened-holds = subst (λ (known : List (Option (List ℕ))). HoldLayout (opened_states s.pages w.fields.front w.area) known w.fields.front x.layout x.table) (sym reads-always) at-opening.0

  opened-counts : CountsRoot (opened_states s.pages w.fields.front w.area) w.fields.front w.fields.front (opened x.table x.layout w.fields.front)
  opened-counts = roots-count s (opened_states s.pages w.fields.front w.area) k.always w.fields.front x.layout x.table root-stands at-opening.0

pub redo-begins : {K : ℕ} → RedoBegins K
unfolding layout_after
redo-begins s w first second k m x f = record {
  agree = record {
    shape = f.shape;
    number = ap (λ (v : WholeRoot). v.fields.number) f.root;
    root = ap (λ (v : WholeRoot). v.fields.front) f.root;
    tried = λ v on. absurd (some-not-none v (sym (subst (λ (o : OtherHeader). IsTried o v) f.other on)));
    half = f.half;
    two = omega arith;
    first = f.first_used;
    second = f.second_used;
  };
  other = f.other;
  shut = f.next;
  along = subst (λ (v : WholeRoot). LeadsAlong k v m x) (sym f.root) f.along;
  parted = refl;
  hold = record {
    place = omega arith;
    scales = f.along.holds.scales;
    records = sym f.along.holds.records;
    buckets = sym f.buckets;
    stands = root-stands s w first second k m x f;
    size = live-many k.always (opened_states s.pages w.fields.front w.area) (at-opening s w first second k m x f).0.known ∙ always-many s w first second k m x f;
    holds = opened-holds s w first second k m x f;
    always = always-many s w first second k m x f;
    fresh = ap (λ (fs : List (Option (List ℕ))). length fs) f.fresh ∙ length-replicate s.pages None;
  };
  names = subst (λ (v : WholeRoot). NamesCurrent w.fields.front (opened_states s.pages w.fields.front w.area) v.area) (sym f.root) (at-opening s w first second k m x f).1;
  unwritten = λ p named. nothing-index s.pages p k.fresh f.fresh;
  counts = opened-counts s w first second k m x f;
  session = sym (ap (λ (v : WholeRoot). v.fields.session) f.root);
  quiet = refl;
}
