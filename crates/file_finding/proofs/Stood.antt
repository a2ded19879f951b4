-- The layout that a root's pages spell stands over the table of their records.
use Rattle.std.proofs.Common.{◌≡◌, ℕ, Bool, true, false, cond, List, [], ◌∷◌, fold, flat_map, All, Some, refl, sym, ap, subst, ◌∙◌, arith}
use Rattle.std.specs.Ordering.{eq_by_cmp}
use Rattle.std.specs.Cmp.Lexicographic.{nat_list_cmp_total}
use Rattle.std.specs.FinMap.Entries.{find-put}
use Rattle.std.proofs.lemmas.List.Elements.{All-append, All-nil, All-tail}
use Rattle.grid_types.specs.declared.update.Record.{Record}
use Rattle.grid_types.specs.Keys.{key_cmp, IsKey}
use Rattle.grid_model.specs.Tables.{Table, IsTable, IsData, get, with_data}
use Rattle.grid_model.specs.Layouts.{Layout, IsSound}
use Rattle.grid_model.specs.LayoutLaws.{StandsOver}
use Rattle.grid_model.specs.Spellings.{BucketOf}
use Rattle.grid_model.specs.Buckets.{IsBucket}
use Rattle.grid_model.specs.Images.{Found, MakesTable}
use Rattle.grid_model.proofs.Boxes.{one-value}
use Rattle.grid_model.proofs.TableLaws.{one_key, equal_order, with_data-table}

-- a key of K numbers, with data that is not too long
abbrev IsEntry : ℕ → List ℕ → List ℕ → Type 0
IsEntry K k d = IsKey K k × IsData d

-- each entry of a table is one
abbrev AreEntries : ℕ → Table → Type 0
AreEntries K t = (k d : List ℕ) → get t k ≡ Some d → IsEntry K k d

-- so is each of some records
abbrev IsRow : {K : ℕ} → Record K → Type 0
IsRow {K} r = IsEntry K r.key.numbers r.value

-- the table with some records more
abbrev filled : {K : ℕ} → Table → List (Record K) → Table
filled t rows = fold (λ u r. with_data u r.key.numbers r.value) t rows

module _ {K : ℕ} where
  -- one more record leaves entries
  with_row : (t : Table) (r : Record K) → AreEntries K t → IsRow r → AreEntries K (with_data t r.key.numbers r.value)
  with_row t r all one k d is = by (eq_by_cmp key_cmp k r.key.numbers) refl
    where
      put : get (with_data t r.key.numbers r.value) k ≡ cond (eq_by_cmp key_cmp k r.key.numbers) (Some r.value) (get t k)
      put = find-put key_cmp nat_list_cmp_total k r.key.numbers r.value t

      by : (b : Bool) → eq_by_cmp key_cmp k r.key.numbers ≡ b → IsEntry K k d
      by true e =
          let same : k ≡ r.key.numbers = one_key k r.key.numbers (equal_order (key_cmp k r.key.numbers) e) in
          let value : r.value ≡ d = one-value r.value d (sym (put ∙ ap (λ b. cond b (Some r.value) (get t k)) e) ∙ is) in
          subst (λ (z : List ℕ × List ℕ). IsEntry K z.0 z.1) (λ i. (sym same i, value i)) one
      by false e = all k d (sym (put ∙ ap (λ b. cond b (Some r.value) (get t k)) e) ∙ is)

  -- so do all of them, and the table is one
  rows_filled : (rows : List (Record K)) (t : Table) → All IsRow rows → IsTable t → AreEntries K t → IsTable (filled t rows) × AreEntries K (filled t rows)
  rows_filled [] t lawful table all = (table, all)
  rows_filled (r ∷ rows) t lawful table all = rows_filled rows (with_data t r.key.numbers r.value) (All-tail IsRow r rows lawful) (with_data-table t r.key.numbers r.value table) (with_row t r all (lawful 0 r (omega arith)))

  -- the records of lawful buckets are lawful
  rows_lawful : (capacity : ℕ) (bs : List (BucketOf K)) → All (IsBucket capacity) bs → All IsRow (flat_map (λ b. b.rows) bs)
  rows_lawful capacity [] all = All-nil IsRow
  rows_lawful capacity (b ∷ bs) all =
      let first : IsBucket capacity b = all 0 b (omega arith) in
      All-append IsRow b.rows (flat_map (λ c. c.rows) bs) (λ i d lt. (first.keys i d lt, first.values i d lt)) (rows_lawful capacity bs (All-tail (IsBucket capacity) b bs all))

  -- a layout that is sound for the table of the records of buckets that an image spells stands over it
  pub stands_over : (image : List ℕ) (f : Found K) (n : ℕ) (t : Table) (L : Layout K) → MakesTable image f n t → IsSound f.shape L f.table → StandsOver f.shape L f.table
  stands_over image f n t L makes sound =
      let rows : All IsRow (flat_map (λ b. b.rows) f.buckets) = rows_lawful f.shape.capacity f.buckets (λ i d lt. (makes.buckets.each i d lt).lawful) in
      let made = rows_filled (flat_map (λ b. b.rows) f.buckets) [] rows tt (λ k d none. absurd cc) in
      let is : IsTable f.table × AreEntries K f.table = subst (λ (u : Table). IsTable u × AreEntries K u) makes.records.all made in
      record {
        lawful = makes.is_found.shape.lawful;
        attributes = makes.is_found.shape.attributes;
        table = is.0;
        keys = λ k d at. (is.1 k d at).0;
        values = λ k d at. (is.1 k d at).1;
        sound = sound;
      }
