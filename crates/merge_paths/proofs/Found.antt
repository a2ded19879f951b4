-- What a caller makes of a bucket and of a neighbour that were found.
use Rattle.std.proofs.Common.{◌≡◌, ◌≢◌, ◌+◌, ◌-◌, ◌*◌, ◌/◌, ◌==◌, ◌&&◌, inl, inr, ℕ, not, nat_le, List, [], ◌∷◌, slice_get, Some, None, refl, sym, ap, ◌∙◌, true≢false, eq-eqb}
use Rattle.grid_types.specs.declared.key.Key.{Key}
use Rattle.grid_types.specs.declared.layout_change.LayoutChange.{LayoutChange}
use Rattle.grid_types.specs.declared.layout_change.LayoutChange.TheVariants as note
use Rattle.grid_types.specs.declared.shape.Shape.{Shape}
use Rattle.grid_types.specs.declared.update.Update.TheVariants.{Remove}
use Rattle.grid_types.specs.Regions.{make_a_box}
use Rattle.grid_types.proofs.Numbers.{first}
use Rattle.grid_model.specs.Layouts.{BucketBox, Layout}
use Rattle.grid_model.specs.Notes.{merges}
use Rattle.grid_model.specs.Tables.{Table}
use Rattle.grid_model.proofs.Boxes.{some-not-none}
use Rattle.bucket_page.specs.declared.head.Head.{Head}
use Rattle.history_pages.specs.PageLaws.{IsChange}
use Rattle.change_plans.specs.Plans.{IsPageOf}
use Rattle.query_paths.specs.Pinned.{Place}
use Rattle.query_paths.specs.Finding.{IsBoxFound}
use Rattle.merge_paths.specs.Partners.{IsFirstPartner, IsLosing, IsNeighbourFound}
use Rattle.merge_paths.proofs.Sides.{contains-at}

-- a page that was found is that of the box that has the key, with as many records as its head says
pub page-found : {K : ℕ} (shape : Shape) (L : Layout K) (t : Table) (key : List ℕ) (e : ℕ × BucketBox K) (page : List ℕ) (head : Head K) → IsBoxFound shape L t key e page head → IsPageOf shape L t key e page head.count
page-found shape L t key e page head b = record { stands = b.stands; holds = b.holds; spelled = b.spelled; count = sym b.count }

-- a neighbour that was found has another number
pub other-number : {K : ℕ} (p : Place) (head : Head K) (bytes : List ℕ) (other : Head K) → IsNeighbourFound p head bytes other → other.number ≢ head.number
other-number p head bytes other n same = true≢false (sym (first (not (head.number == other.number)) (make_a_box head.region other.region && nat_le (head.count - 1 + other.count) (7 * p.shape.capacity / 10)) n.join) ∙ ap not (eq-eqb head.number other.number (sym same)))

module _ {K : ℕ} (shape : Shape) (L : Layout K) (t : Table) (k : Key K) (e : ℕ × BucketBox K) (head : Head K) (losing : IsLosing shape L t k.numbers e head) (bytes : List ℕ) where
  -- a removal may take the merge with the first neighbour
  pub merge-lawful : (other : Head K) → IsFirstPartner shape L t k.numbers e bytes (Some other) → IsChange shape L t (Remove k) (note.Merge other.number) e
  merge-lawful other f = record {
    stands = losing.found.stands;
    lawful = (losing.there, inr (contains-at (merges shape L t k.numbers) 0 (note.Merge other.number) (sym f.merge)));
    holds = losing.found.holds;
  }

  -- and one that leaves the layout
  pub plain-lawful : IsChange shape L t (Remove k) note.Plain e
  plain-lawful = record { stands = losing.found.stands; lawful = (losing.there, inl refl); holds = losing.found.holds }

  -- where there is no neighbour, it may take no merge
  pub no-merges : IsFirstPartner shape L t k.numbers e bytes None → merges shape L t k.numbers ≡ []
  no-merges f = by (merges shape L t k.numbers) (sym f.merge)
    where
      by : (ns : List LayoutChange) → slice_get ns 0 ≡ None → ns ≡ []
      by [] q = refl
      by (n ∷ ns) q = absurd (some-not-none n q)
