-- The page of a directory part is that of its cells' names, so it stays where these do.
use Rattle.std.proofs.Common.{◌≡◌, ◌<◌, ◌*◌, ℕ, Bool, true, false, cond, List, map, take, drop, length, Option, Some, None, refl, sym, ap, ◌∙◌, nat_lt, ltb-true}
use Rattle.grid_types.specs.declared.owner.Owner.TheVariants.{Part}
use Rattle.grid_types.specs.declared.region.Region.{Region}
use Rattle.grid_types.specs.declared.sizes.TheConstants.{WORDS_ON_PAGE}
use Rattle.grid_types.specs.Keys.{IsKey}
use Rattle.grid_types.specs.Regions.{contains}
use Rattle.grid_model.specs.Lists.{is_among}
use Rattle.grid_model.specs.Scales.{is_scale, scale_of}
use Rattle.grid_model.specs.Cells.{parts, all_cells, corner, parts_holding}
use Rattle.grid_model.specs.Tables.{Table}
use Rattle.grid_model.specs.Layouts.{Layout, number_at, directory, directory_part}
use Rattle.grid_model.specs.Spellings.{directory_spelling}
use Rattle.history_pages.specs.OwnerPages.{owner_page}
use Rattle.history_pages.proofs.PartCells.{placed, out-of-region}
use Rattle.history_pages.proofs.Windows.{window-alike}

-- the cells of a part, each by the name of its lowest key
abbrev named_cells : List (List ℕ) → (List ℕ → ℕ) → ℕ → List ℕ
named_cells scales name p = take WORDS_ON_PAGE (drop (WORDS_ON_PAGE * p) (map (λ cell. name (corner scales cell)) (all_cells scales)))

-- the page of a part, by the names of the cells' lowest keys
abbrev page_by_names : List (List ℕ) → (List ℕ → ℕ) → ℕ → Option (List ℕ)
page_by_names scales name p = cond (nat_lt p (parts scales)) (Some (directory_spelling p (named_cells scales name p))) None

-- it is so of a layout, by its names
is-by-names : {K : ℕ} (L : Layout K) (t : Table) (p : ℕ) → owner_page L t (Part p) ≡ page_by_names L.scales (number_at L) p
unfolding owner_page directory directory_part
is-by-names L t p = refl

-- the page of a part is the layout's alone
pub part-of-layout : {K : ℕ} (L : Layout K) (s t : Table) (p : ℕ) → owner_page L s (Part p) ≡ owner_page L t (Part p)
unfolding owner_page
part-of-layout L s t p = refl

-- a part keeps its page where the scales stay, it holds no cell of a region, and each key out of the region stays in its box
pub part-stays : {K : ℕ} (M L : Layout K) (s t : Table) (r : Region K) (p : ℕ) → length L.scales ≡ K → ((a : ℕ) → a < K → is_scale (scale_of L.scales a) ≡ true) → M.scales ≡ L.scales
    → is_among (parts_holding L.scales r) p ≡ false → ((k : List ℕ) → IsKey K k → contains r k ≡ false → number_at M k ≡ number_at L k) → owner_page M s (Part p) ≡ owner_page L t (Part p)
part-stays {K} M L s t r p count ascend same out names = is-by-names M s p ∙ ap (λ x. page_by_names x (number_at M) p) same ∙ by (nat_lt p (parts L.scales)) refl ∙ sym (is-by-names L t p)
  where
    by : (b : Bool) → nat_lt p (parts L.scales) ≡ b → cond b (Some (directory_spelling p (named_cells L.scales (number_at M) p))) None ≡ cond b (Some (directory_spelling p (named_cells L.scales (number_at L) p))) None
    by false e = refl
    by true e = ap (λ x. Some (directory_spelling p x)) (window-alike (λ cell. number_at M (corner L.scales cell)) (λ cell. number_at L (corner L.scales cell)) (all_cells L.scales) (WORDS_ON_PAGE * p) WORDS_ON_PAGE
        (λ i cell found low high. names (corner L.scales cell) (placed K L.scales count ascend i cell found).key (out-of-region K L.scales count ascend r p i cell found low high (ltb-true p (parts L.scales) e) out)))
