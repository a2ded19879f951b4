-- The names of the cells after a merge.
use Rattle.std.proofs.Common.{◌≡◌, ◌<◌, ◌⊎◌, inl, inr, ℕ, Bool, true, false, ◌||◌, min, max, List, length, Some, refl, sym, ap, ◌∙◌, subst, arith}
use Rattle.std.proofs.lemmas.Bool.{or_left, or_right}
use Rattle.std.proofs.lemmas.List.{length-map}
use Rattle.std.specs.Option.{unwrap_or}
use Rattle.grid_types.specs.declared.shape.Shape.{Shape}
use Rattle.grid_types.specs.Regions.{contains}
use Rattle.grid_types.specs.Keys.{IsKey}
use Rattle.grid_model.specs.Scales.{is_scale, scale_of, intervals}
use Rattle.grid_model.specs.Cells.{dims, corner, InCellBox}
use Rattle.grid_model.specs.ScaleLaws.{IsCell}
use Rattle.grid_model.specs.Tables.{Table}
use Rattle.grid_model.specs.Layouts.{BucketBox, Layout, box, IsSound, number_at}
use Rattle.grid_model.specs.LayoutLaws.{IsMerge}
use Rattle.grid_model.specs.Notes.{together, joined}
use Rattle.grid_model.proofs.Hulls.{hull-contains}
use Rattle.grid_model.proofs.Joined.{is-merge}
use Rattle.grid_model.proofs.LowestKeys.{corner-long, corner-number}
use Rattle.directory_changes.specs.Changes.{cell_box}
use Rattle.directory_changes.specs.declared.change.DirectoryChange.TheVariants.{Patch}
use Rattle.history_pages.proofs.Joining.{JoinsBox, name-stays}
use Rattle.history_pages.proofs.Numbers.{lower-higher}
use Rattle.shadow_directory.proofs.After.{NamesAfter, names-it}
use Rattle.shadow_directory.proofs.Regions.{key-in-box, box-has-key}

module _ {K : ℕ} (shape : Shape) (L : Layout K) (t s : Table) (n : ℕ) (b : BucketBox K) (m : ℕ) (sound : IsSound shape L t) (there : box L n ≡ Some b) (is : JoinsBox shape L s n b m) where
  merge : IsMerge L n b m is.other (joined L n b m is.other)
  merge = is-merge L n b m is.other is.differ

  new : IsSound shape (joined L n b m is.other) s
  new = is.stands.sound

  hull-has : (k : List ℕ) → contains (together b is.other).region k ≡ (contains b.region k || contains is.other.region k)
  hull-has k = hull-contains b.region is.other.region k (sound.regions n b there) (sound.regions m is.other is.beside) is.make

  -- the box that vanishes is one of the two, of the higher number
  record Vanishes : Type 0 where
    gone : BucketBox K
    is_it : unwrap_or (box L (max n m)) b ≡ gone
    at : box L (max n m) ≡ Some gone
    of_both : (k : List ℕ) → contains gone.region k ≡ true → contains (together b is.other).region k ≡ true

  vanishes : Vanishes
  vanishes = by (lower-higher n m)
    where
      of : (d : BucketBox K) → box L (max n m) ≡ Some d → ((k : List ℕ) → contains d.region k ≡ true → contains (together b is.other).region k ≡ true) → Vanishes
      of d e f = record { gone = d; is_it = ap (λ o. unwrap_or o b) e; at = e; of_both = f }

      by : ((n ≡ min n m) × (m ≡ max n m)) ⊎ ((n ≡ max n m) × (m ≡ min n m)) → Vanishes
      by (inl p) = of is.other (ap (box L) (sym p.1) ∙ is.beside) (λ k has. hull-has k ∙ or_right (contains b.region k) (contains is.other.region k) has)
      by (inr p) = of b (ap (box L) (sym p.0) ∙ there) (λ k has. hull-has k ∙ or_left (contains b.region k) (contains is.other.region k) has)

  -- the box that both make has the lower number
  made : (k : List ℕ) → contains (together b is.other).region k ≡ true → number_at (joined L n b m is.other) k ≡ min n m
  made k has = names-it (joined L n b m is.other) k (min n m) (together b is.other) new.numbered new.apart merge.survivor has

  -- a key out of the box that vanishes stays in its box
  stays : (k : List ℕ) → IsKey K k → contains vanishes.gone.region k ≡ false → number_at (joined L n b m is.other) k ≡ number_at L k
  stays k key out = name-stays shape L t s n b m sound there is k key (ap (λ (d : BucketBox K). contains d.region k) vanishes.is_it ∙ out)

  lawful : (a : ℕ) → a < length L.scales → is_scale (scale_of L.scales a) ≡ true
  lawful a p = sound.scales a (omega (arith, p, sound.attributes))

  module _ (cell : List ℕ) (cell-is : IsCell (dims L.scales) cell) where
    merge-named : InCellBox (cell_box L.scales vanishes.gone.region) cell → number_at (joined L n b m is.other) (corner L.scales cell) ≡ min n m
    merge-named i = made (corner L.scales cell) (vanishes.of_both (corner L.scales cell)
        (box-has-key L.scales vanishes.gone cell sound.attributes lawful (sound.drawn (max n m) vanishes.gone vanishes.at) (sound.regions (max n m) vanishes.gone vanishes.at) cell-is i))

    merge-others : (InCellBox (cell_box L.scales vanishes.gone.region) cell → ⊥) → number_at (joined L n b m is.other) (corner L.scales cell) ≡ number_at L (corner L.scales cell)
    merge-others out = stays (corner L.scales cell) lowest (by (contains vanishes.gone.region (corner L.scales cell)) refl)
      where
        lowest : IsKey K (corner L.scales cell)
        lowest = record {
          count = corner-long L.scales cell (cell-is.count ∙ length-map L.scales intervals) ∙ sound.attributes;
          in_range = λ a. omega (arith, corner-number L.scales cell lawful a);
        }

        by : (v : Bool) → contains vanishes.gone.region (corner L.scales cell) ≡ v → v ≡ false
        by false e = refl
        by true e = absurd (out (key-in-box L.scales vanishes.gone cell sound.attributes lawful (sound.drawn (max n m) vanishes.gone vanishes.at) (sound.regions (max n m) vanishes.gone vanishes.at) cell-is e))

  -- the cells of the box that vanishes have the lower number
  pub names-merged : NamesAfter L (joined L n b m is.other) (Patch (cell_box L.scales (unwrap_or (box L (max n m)) b).region) (min n m))
  names-merged =
      subst (λ (d : BucketBox K). NamesAfter L (joined L n b m is.other) (Patch (cell_box L.scales d.region) (min n m))) (sym vanishes.is_it) (record {
        dims_are = ap dims merge.scales;
        source = λ cell h. subst (λ x. IsCell (dims x) cell) merge.scales h;
        named = λ cell h i. ap (λ x. number_at (joined L n b m is.other) (corner x cell)) merge.scales ∙ merge-named cell (subst (λ x. IsCell (dims x) cell) merge.scales h) i;
        others = λ cell h out. ap (λ x. number_at (joined L n b m is.other) (corner x cell)) merge.scales ∙ merge-others cell (subst (λ x. IsCell (dims x) cell) merge.scales h) out;
      })
