-- The rule of covers, judged by what stands in memory.
use Rattle.std.proofs.Common.{◌≡◌, ◌≢◌, ◌<◌, ◌≤◌, ◌↔◌, ◌∙◌, ◌⊎◌, inl, inr, ℕ, List, Option, Some, None, length, get_or, slice_index, sym, ap, subst, arith}
use Rattle.grid_types.specs.declared.shape.Shape.{Shape}
use Rattle.grid_types.specs.declared.region.Region.{Region}
use Rattle.grid_types.specs.declared.sizes.TheConstants.{MOST_ATTRIBUTES, MOST_RECORDS}
use Rattle.grid_types.specs.Regions.{IsRegion}
use Rattle.grid_model.specs.Lawful.{nowhere}
use Rattle.grid_model.specs.Lists.{product}
use Rattle.grid_model.specs.Cells.{dims, cell_index}
use Rattle.grid_model.proofs.CellLaws.{key-has-cell}
use Rattle.grid_model.proofs.Indices.{cell_index-below}
use Rattle.grid_check.specs.Rules.{JudgesNumbers, JudgesCovers, IsNamedBy, IsNumbered, HasCover, number_named}
use Rattle.grid_check.specs.Reads.{AreNamed, AreHeld}
use Rattle.grid_check.specs.Covers.{region_under, AllName, NoneStrays, IsLeastStray}
use Rattle.grid_check.specs.declared.holding.Holding.{Holding}
use Rattle.grid_check.proofs.Held.{item, rule_on_all}
use Rattle.grid_check.proofs.Alike.{as_numbers}
use Rattle.grid_check.proofs.Strays.{region_is_under, none_strays, all_name_it}

module _ {K : ℕ} (scales : List (List ℕ)) where
  -- two ways to name that agree on each cell
  renamed : (f g : ℕ → ℕ) → ((at : ℕ) → at < product (dims scales) → f at ≡ g at) → (r : Region K) (n : ℕ) → IsNamedBy scales f r n → IsNamedBy scales g r n
  renamed f g same r n by cell is =
      let e = same (cell_index (dims scales) cell) (cell_index-below (dims scales) cell is) in
      ((λ h. (by cell is).0 (e ∙ h)), (λ h. sym e ∙ (by cell is).1 h))

  -- a number that is the least to be strayed from is not named by its region alone
  pub strayed : (named : ℕ → ℕ) (regions : ℕ → Region K) (upto n : ℕ) (stray : Option ℕ) → IsLeastStray scales named regions upto stray → stray ≡ Some n → IsNamedBy scales named (regions n) n → ⊥
  strayed named regions upto n stray least is by =
      let l = subst (IsLeastStray scales named regions upto) is least in l.strays (none_strays scales named (regions n) n upto by)

  -- where each number below this one is clear, and this one is not the least that is strayed from, it is clear too
  pub clear_too : (named : ℕ → ℕ) (regions : ℕ → Region K) (upto n : ℕ) (stray : Option ℕ) → IsLeastStray scales named regions upto stray → (stray ≡ Some n → ⊥) → ((m : ℕ) → m < n → NoneStrays scales named (regions m) m upto) → NoneStrays scales named (regions n) n upto
  clear_too named regions upto n None least other clear = least n
  clear_too named regions upto n (Some x) least other clear = by (split x n)
    where
      split : (x n : ℕ) → (x < n) ⊎ ((x ≡ n) ⊎ (n < x))
      split x n = grind arith

      by : (x < n) ⊎ ((x ≡ n) ⊎ (n < x)) → NoneStrays scales named (regions n) n upto
      by (inl less) = absurd (least.strays (clear x less))
      by (inr (inl same)) = absurd (other (ap Some same))
      by (inr (inr more)) = least.below n more

  -- a number that no bucket has is named by no cell
  pub clear_there : (table : List ℕ) (named : ℕ → ℕ) (r : Region K) (n : ℕ) → ((at : ℕ) → at < product (dims scales) → IsNumbered table (named at)) → (IsNumbered table n → ⊥) → NoneStrays scales named r n (product (dims scales))
  clear_there table named r n all none cell is lt e = absurd (none (subst (IsNumbered table) e (all (cell_index (dims scales) cell) lt)))

  -- where a cell of the region names another number, it is not named by the region alone
  pub unnamed : (named : ℕ → ℕ) (r : Region K) (n : ℕ) → length scales ≡ K → IsRegion K r → (AllName scales named r n → ⊥) → IsNamedBy scales named r n → ⊥
  unnamed named r n count region out by =
      let lo = key-has-cell scales r.lo (region.low.count ∙ sym count) in
      let hi = key-has-cell scales r.hi (region.high.count ∙ sym count) in
      out (all_name_it scales named r n (lo.count ∙ sym hi.count) hi by)

  -- what is judged by the numbers and the regions in memory is judged by the pages
  pub covers_judged : (s : Shape) → K ≤ MOST_ATTRIBUTES → s.capacity ≤ MOST_RECORDS → (image listed table names : List ℕ) (holdings : List (Holding K)) → length holdings ≡ length table
      → AreNamed s image listed names (product (dims scales)) → AreHeld s image table holdings (length table) → (found : Option ℕ)
      → JudgesNumbers s table (λ m. IsNamedBy scales (λ i. slice_index names i) (region_under holdings m) m) found → JudgesCovers K s image scales listed table found
  covers_judged s few low image listed table names holdings long named held =
      as_numbers s table (λ m. IsNamedBy scales (λ i. slice_index names i) (region_under holdings m) m) (HasCover K s image scales listed table) same
    where
      rule : ℕ → Region K → Type 0
      rule m r = IsNamedBy scales (number_named s image listed) r m

      same : (n : ℕ) → n < length table → slice_index table n ≢ nowhere → IsNamedBy scales (λ i. slice_index names i) (region_under holdings n) n ↔ HasCover K s image scales listed table n
      same n lt some =
          let on = rule_on_all {K = K} s few low image table holdings long held rule n lt some in
          let under : (d : Holding K) → region_under holdings n ≡ (get_or holdings n d).region = region_is_under holdings n (omega (arith, lt, long)) in (
            (λ by. on.0 (λ d. subst (rule n) (under d) (renamed (λ i. slice_index names i) (number_named s image listed) named (region_under holdings n) n by))),
            (λ has. renamed (number_named s image listed) (λ i. slice_index names i) (λ at l. sym (named at l)) (region_under holdings n) n (subst (rule n) (sym (under (item holdings n (omega (arith, lt, long))))) (on.1 has (item holdings n (omega (arith, lt, long)))))),
          )
