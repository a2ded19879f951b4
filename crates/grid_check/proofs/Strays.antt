-- The cells of a region against the numbers that cells name.
use Rattle.std.proofs.Common.{◌≡◌, ◌<◌, ◌≤◌, ◌+◌, ◌↔◌, ◌∙◌, ◌⊎◌, inl, inr, ℕ, zero, suc, Bool, true, false, true≢false, IsTrue, List, [], ◌∷◌, Option, Some, None, length, min, get_or, slice_index, refl, sym, ap, subst, arith}
use Rattle.std.proofs.lemmas.List.{length-map}
use Rattle.grid_types.specs.declared.cell_box.CellBox.{CellBox}
use Rattle.grid_types.specs.declared.region.Region.{Region}
use Rattle.grid_types.specs.Regions.{IsRegion}
use Rattle.grid_model.specs.Lists.{product}
use Rattle.grid_model.specs.Scales.{intervals, scale_of}
use Rattle.grid_model.specs.Cells.{dims, cell_of, cell_index, InCellBox}
use Rattle.grid_model.specs.ScaleLaws.{IsCell}
use Rattle.grid_model.proofs.CellLaws.{key-has-cell}
use Rattle.grid_model.proofs.Indices.{cell_index-below, cell_index-grows}
use Rattle.grid_model.proofs.OneCell.{cell_of-at}
use Rattle.grid_model.proofs.ScaleLaws.{interval-grows}
use Rattle.directory_changes.specs.Changes.{cell_box}
use Rattle.grid_check.specs.Rules.{IsNamedBy}
use Rattle.grid_check.specs.Covers.{region_under, AllName, NoneStrays, HasLeastStray, IsLeastStray, lower_one}
use Rattle.grid_check.specs.declared.holding.Holding.{Holding}

-- a cell of a box whose high corner is one of the directory is one too
pub box_cell : {K : ℕ} (ns : List ℕ) (b : CellBox K) (cell : List ℕ) → length b.lo ≡ length b.hi → IsCell ns b.hi → InCellBox b cell → IsCell ns cell
box_cell ns b cell long high is = record {
  count = is.count ∙ long ∙ high.count;
  each = λ a lt. let within = is.within a (omega (arith, lt, is.count, long, high.count)) in let below = high.each a lt in omega (arith, within.1, below);
}

-- no cell of a box has a lower index than its low corner
pub low_first : {K : ℕ} (ns : List ℕ) (b : CellBox K) (cell : List ℕ) → IsCell ns b.lo → InCellBox b cell → cell_index ns b.lo ≤ cell_index ns cell
low_first ns b cell low is = cell_index-grows ns b.lo cell low.count (is.count ∙ low.count) (λ a lt. (is.within a (omega (arith, lt, is.count, low.count))).0)

-- the low corner of the cells of a region is one of them
pub low_corner : {K : ℕ} (scales : List (List ℕ)) (r : Region K) → length scales ≡ K → IsRegion K r → InCellBox (cell_box scales r) (cell_of scales r.lo)
low_corner scales r count region = record {
  count = refl;
  within = λ a lt.
      let lo : length r.lo ≡ length scales = region.low.count ∙ sym count in
      let hi : length r.hi ≡ length scales = region.high.count ∙ sym count in
      let inside : a < length scales = omega (arith, lt, (key-has-cell scales r.lo lo).count, length-map scales intervals) in
      (omega arith, omega (arith, interval-grows (scale_of scales a) (slice_index r.lo a) (slice_index r.hi a) (region.not_empty a (omega (arith, inside, count))), cell_of-at scales r.lo a lo inside, cell_of-at scales r.hi a hi inside));
}

-- what is held under a number is the region of what is held there
pub region_is_under : {K : ℕ} (holdings : List (Holding K)) (n : ℕ) → n < length holdings → (d : Holding K) → region_under holdings n ≡ (get_or holdings n d).region
region_is_under [] n lt d = absurd (omega (arith, lt))
region_is_under (h ∷ holdings) zero lt d = refl
region_is_under (h ∷ holdings) (suc n) lt d = region_is_under holdings n (omega (arith, lt)) d

module _ {K : ℕ} (scales : List (List ℕ)) (named : ℕ → ℕ) where
  -- a number is named by the cells of a region alone where each of them names it, and no other cell does
  pub named_by : (r : Region K) (n : ℕ) → AllName scales named r n → NoneStrays scales named r n (product (dims scales)) → IsNamedBy scales named r n
  named_by r n all none cell is = ((λ e. none cell is (cell_index-below (dims scales) cell is) e), (λ inside. all cell inside))

  pub none_strays : (r : Region K) (n upto : ℕ) → IsNamedBy scales named r n → NoneStrays scales named r n upto
  none_strays r n upto by cell is lt e = (by cell is).0 e

  pub all_name_it : (r : Region K) (n : ℕ) → length (cell_of scales r.lo) ≡ length (cell_of scales r.hi) → IsCell (dims scales) (cell_of scales r.hi) → IsNamedBy scales named r n → AllName scales named r n
  all_name_it r n long high by cell inside = (by cell (box_cell (dims scales) (cell_box scales r) cell long high inside)).1 inside

  -- one more cell that names another number, or lies in the region
  one_more : (r : Region K) (n at : ℕ) → NoneStrays scales named r n at → ((cell : List ℕ) → IsCell (dims scales) cell → cell_index (dims scales) cell ≡ at → named at ≡ n → InCellBox (cell_box scales r) cell) → NoneStrays scales named r n (at + 1)
  one_more r n at none here cell is lt e = by (split (cell_index (dims scales) cell) at lt)
    where
      split : (i n : ℕ) → i < n + 1 → (i < n) ⊎ (i ≡ n)
      split i n lt = grind (arith, lt)

      by : (cell_index (dims scales) cell < at) ⊎ (cell_index (dims scales) cell ≡ at) → InCellBox (cell_box scales r) cell
      by (inl less) = none cell is less e
      by (inr same) = here cell is same (ap named (sym same) ∙ e)

  one_fewer : (r : Region K) (n at : ℕ) → NoneStrays scales named r n (at + 1) → NoneStrays scales named r n at
  one_fewer r n at none cell is lt e = none cell is (omega (arith, lt)) e

  module _ (regions : ℕ → Region K) (at : ℕ) where
    -- one more cell that lies in the region of the number that it names
    pub stays_least : (least : Option ℕ) → ((cell : List ℕ) → IsCell (dims scales) cell → cell_index (dims scales) cell ≡ at → InCellBox (cell_box scales (regions (named at))) cell)
        → IsLeastStray scales named regions at least → IsLeastStray scales named regions (at + 1) least
    stays_least least inside = go least
      where
        kept : (n : ℕ) → NoneStrays scales named (regions n) n at → NoneStrays scales named (regions n) n (at + 1)
        kept n none = one_more (regions n) n at none (λ cell is same e. subst (λ m. InCellBox (cell_box scales (regions m)) cell) e (inside cell is same))

        go : (least : Option ℕ) → IsLeastStray scales named regions at least → IsLeastStray scales named regions (at + 1) least
        go None h = λ n. kept n (h n)
        go (Some x) h = record { strays = λ none. h.strays (one_fewer (regions x) x at none); below = λ n lt. kept n (h.below n lt) }

    module _ (cell : List ℕ) (is : IsCell (dims scales) cell) (same : cell_index (dims scales) cell ≡ at) (out : InCellBox (cell_box scales (regions (named at))) cell → ⊥) where
      other : (n : ℕ) → n < named at → NoneStrays scales named (regions n) n at → NoneStrays scales named (regions n) n (at + 1)
      other n lt none = one_more (regions n) n at none (λ c i s e. absurd (omega (arith, lt, e)))

      strays_now : (upto : ℕ) → at < upto → NoneStrays scales named (regions (named at)) (named at) upto → ⊥
      strays_now upto lt none = out (none cell is (omega (arith, lt, same)) (ap named same))

      -- one more cell that lies outside of it
      pub lower_now : (least : Option ℕ) → IsLeastStray scales named regions at least → IsLeastStray scales named regions (at + 1) (lower_one least (named at))
      lower_now None h = record { strays = strays_now (at + 1) (omega arith); below = λ n lt. other n lt (h n) }
      lower_now (Some x) h = by (split x (named at))
        where
          split : (i n : ℕ) → ((i < n) × (min i n ≡ i)) ⊎ ((n ≤ i) × (min i n ≡ n))
          split i n = grind arith

          by : ((x < named at) × (min x (named at) ≡ x)) ⊎ ((named at ≤ x) × (min x (named at) ≡ named at)) → HasLeastStray scales named regions (at + 1) (min x (named at))
          by (inl l) = subst (HasLeastStray scales named regions (at + 1)) (sym l.1) (record { strays = λ none. h.strays (one_fewer (regions x) x at none); below = λ n lt. other n (omega (arith, lt, l.0)) (h.below n lt) })
          by (inr l) = subst (HasLeastStray scales named regions (at + 1)) (sym l.1) (record { strays = strays_now (at + 1) (omega arith); below = λ n lt. other n lt (h.below n (omega (arith, lt, l.0))) })

-- one more cell, which lies in the region of the number that it names or not
pub stray_step : {K : ℕ} (scales : List (List ℕ)) (named : ℕ → ℕ) (regions : ℕ → Region K) (at : ℕ) (least new : Option ℕ) (ns cell : List ℕ) (region : Region K) (inside : Bool) → ns ≡ dims scales
    → IsCell ns cell → cell_index ns cell ≡ at → ((other : List ℕ) → IsCell ns other → cell_index ns other ≡ at → other ≡ cell) → regions (named at) ≡ region
    → (IsTrue inside ↔ InCellBox (cell_box scales region) cell) → (IsTrue inside → new ≡ least) → (inside ≡ false → new ≡ lower_one least (named at))
    → IsLeastStray scales named regions at least → IsLeastStray scales named regions (at + 1) new
stray_step scales named regions at least new ns cell region inside same is index only here judged stays falls h = by inside refl
  where
    by : (b : Bool) → inside ≡ b → IsLeastStray scales named regions (at + 1) new
    by true e =
        let in_it : InCellBox (cell_box scales (regions (named at))) cell = subst (λ r. InCellBox (cell_box scales r) cell) (sym here) (judged.0 e) in
        subst (IsLeastStray scales named regions (at + 1)) (sym (stays e))
        (stays_least scales named regions at least (λ other c i. subst (InCellBox (cell_box scales (regions (named at)))) (sym (only other (subst (λ m. IsCell m other) (sym same) c) (ap (λ m. cell_index m other) same ∙ i))) in_it) h)
    by false e =
        subst (IsLeastStray scales named regions (at + 1)) (sym (falls e))
        (lower_now scales named regions at cell (subst (λ m. IsCell m cell) same is) (ap (λ m. cell_index m cell) (sym same) ∙ index) (λ x. true≢false (sym (judged.1 (subst (λ r. InCellBox (cell_box scales r) cell) here x)) ∙ e)) least h)
