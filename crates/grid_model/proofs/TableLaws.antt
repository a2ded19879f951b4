-- Tables are finite maps.
use Rattle.std.proofs.Common.{◌≡◌, ◌≢◌, ℕ, Bool, true, false, cond, not, T, List, Some, None, refl, sym, ap, subst, ◌∙◌}
use Rattle.std.specs.Ordering.{eq_by_cmp, is_eq}
use Rattle.std.specs.declared.cmp.Ordering.{Ordering}
use Rattle.std.specs.declared.cmp.Ordering.TheVariants.{Less, Equal, Greater}
use Rattle.std.specs.Cmp.{tied_itself}
use Rattle.std.specs.Cmp.Lexicographic.{nat_list_cmp_total}
use Rattle.std.specs.FinMap.{IsAntisymmetric, slice_cmp-IsAntisymmetric, nat_cmp-IsAntisymmetric}
use Rattle.std.specs.FinMap.Entries.{is_sorted-put, is_sorted-where_key, find-put, find-where_key, same_entries}
use Rattle.grid_types.specs.declared.key.Key.{Key}
use Rattle.grid_types.specs.declared.update.Record.{Record}
use Rattle.grid_types.specs.declared.update.Update.{Update}
use Rattle.grid_types.specs.declared.update.Update.TheVariants.{Put, Remove}
use Rattle.grid_types.specs.Keys.{key_cmp}
use Rattle.grid_model.specs.Tables.{Table, IsTable, get, with_data, without, effect}

pub one_key : IsAntisymmetric key_cmp
one_key = slice_cmp-IsAntisymmetric nat_cmp-IsAntisymmetric

-- a test that an ordering answers Equal is true only there
pub equal_order : (o : Ordering) → is_eq o ≡ true → o ≡ Equal
equal_order Less e = absurd (subst T (sym e) tt)
equal_order Equal e = refl
equal_order Greater e = absurd (subst T (sym e) tt)

pub keys_differ : (k q : List ℕ) → k ≢ q → eq_by_cmp key_cmp k q ≡ false
keys_differ k q differ = by (eq_by_cmp key_cmp k q) refl
  where
    by : (b : Bool) → eq_by_cmp key_cmp k q ≡ b → b ≡ false
    by true e = absurd (differ (one_key k q (equal_order (key_cmp k q) e)))
    by false e = refl

-- a test of keys answers alike at keys that tie
pub alike : (p : List ℕ → Bool) (q x : List ℕ) → key_cmp q x ≡ Equal → p x ≡ p q
alike p q x e = ap p (sym (one_key q x e))

pub same_tables : (s t : Table) → IsTable s → IsTable t → ((k : List ℕ) → get s k ≡ get t k) → s ≡ t
same_tables = same_entries key_cmp nat_list_cmp_total one_key

pub effect-table : {K : ℕ} (t : Table) (u : Update K) → IsTable t → IsTable (effect t u)
unfolding effect
effect-table t (Put r) h = is_sorted-put key_cmp nat_list_cmp_total r.key.numbers r.value t h
effect-table t (Remove k) h = is_sorted-where_key key_cmp (λ x. not (eq_by_cmp key_cmp k.numbers x)) t h

pub with_data-table : (t : Table) (k d : List ℕ) → IsTable t → IsTable (with_data t k d)
with_data-table t k d h = is_sorted-put key_cmp nat_list_cmp_total k d t h

pub put-there : (t : Table) (k d : List ℕ) → get (with_data t k d) k ≡ Some d
put-there t k d = find-put key_cmp nat_list_cmp_total k k d t ∙ ap (λ o. cond (is_eq o) (Some d) (get t k)) (tied_itself nat_list_cmp_total k)

pub put-elsewhere : (t : Table) (k d q : List ℕ) → q ≢ k → get (with_data t k d) q ≡ get t q
put-elsewhere t k d q differ = find-put key_cmp nat_list_cmp_total q k d t ∙ ap (λ b. cond b (Some d) (get t q)) (keys_differ q k differ)

pub gone-there : (t : Table) (k : List ℕ) → get (without t k) k ≡ None
gone-there t k =
    find-where_key key_cmp (λ x. not (eq_by_cmp key_cmp k x)) k (alike _ k) t
    ∙ ap (λ o. cond (not (is_eq o)) (get t k) None) (tied_itself nat_list_cmp_total k)

pub gone-elsewhere : (t : Table) (k q : List ℕ) → k ≢ q → get (without t k) q ≡ get t q
gone-elsewhere t k q differ =
    find-where_key key_cmp (λ x. not (eq_by_cmp key_cmp k x)) q (alike _ q) t
    ∙ ap (λ b. cond (not b) (get t q) None) (keys_differ k q differ)

pub update-there : {K : ℕ} (t : Table) (r : Record K) → get (effect t (Put r)) r.key.numbers ≡ Some r.value
unfolding effect
update-there t r = put-there t r.key.numbers r.value

pub update-elsewhere : {K : ℕ} (t : Table) (r : Record K) (q : List ℕ) → q ≢ r.key.numbers → get (effect t (Put r)) q ≡ get t q
unfolding effect
update-elsewhere t r q differ = put-elsewhere t r.key.numbers r.value q differ

pub removal-there : {K : ℕ} (t : Table) (k : Key K) → get (effect t (Remove k)) k.numbers ≡ None
unfolding effect
removal-there t k = gone-there t k.numbers

pub removal-elsewhere : {K : ℕ} (t : Table) (k : Key K) (q : List ℕ) → k.numbers ≢ q → get (effect t (Remove k)) q ≡ get t q
unfolding effect
removal-elsewhere t k q differ = gone-elsewhere t k.numbers q differ
