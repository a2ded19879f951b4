-- A merge that is lawful over one table is lawful over another one that agrees on both boxes.
use Rattle.std.proofs.Common.{◌≡◌, ◌+◌, ◌*◌, ◌/◌, ◌⊎◌, inl, inr, ℕ, Bool, true, false, cond, ◌&&◌, T, List, [], ◌∷◌, filter_map, length, Option, Some, None, Contains, refl, sym, ap, subst, ◌∙◌, nat_le, nat_cmp, option_and_then}
use Rattle.std.specs.List.{cons_option}
use Rattle.std.specs.Option.{option_map_or}
use Rattle.std.specs.FinMap.Entries.{is_sorted}
use Rattle.grid_types.specs.declared.key.Key.{Key}
use Rattle.grid_types.specs.declared.layout_change.LayoutChange.TheVariants as note
use Rattle.grid_types.specs.declared.region.Region.{Region}
use Rattle.grid_types.specs.declared.shape.Shape.{Shape}
use Rattle.grid_types.specs.declared.update.Update.TheVariants.{Remove}
use Rattle.grid_types.specs.Regions.{make_a_box}
use Rattle.grid_model.specs.Tables.{Table, IsTable, without, effect}
use Rattle.grid_model.specs.Layouts.{BucketBox, Layout, box, holder, records_inside}
use Rattle.grid_model.specs.Neighbours.{Direction, directions, probe, neighbour, joins, if_joins, can_join, partners}
use Rattle.grid_model.specs.Notes.{merges, merges_at}
use Rattle.grid_model.proofs.Boxes.{one-value, one-box, some-not-none}
use Rattle.grid_model.proofs.Holders.{holder-box}
use Rattle.grid_model.proofs.Members.{contains-none, contains-split, contains-first, contains-later, contains-map, contains-from-map}
use Rattle.history_pages.proofs.Agreeing.{Agree, records-after}

-- what one function makes of some item, another one that makes it of the same items does too
still-made : {X : Type 0} (f g : X → Option ℕ) (m : ℕ) → ((x : X) → f x ≡ Some m → g x ≡ Some m) → (xs : List X) → Contains (filter_map f xs) m → Contains (filter_map g xs) m
still-made f g m same [] h = contains-none m h
still-made {X} f g m same (x ∷ xs) h = by (f x) (g x) (same x) h (still-made f g m same xs)
  where
    more : (p : Option ℕ) → Contains (filter_map g xs) m → Contains (cons_option p (filter_map g xs)) m
    more None q = q
    more (Some y) q = contains-later y (filter_map g xs) m q

    here : (p : Option ℕ) → p ≡ Some m → Contains (cons_option p (filter_map g xs)) m
    here None q = absurd (some-not-none m (sym q))
    here (Some y) q = subst (λ z. Contains (z ∷ filter_map g xs) m) (sym (one-value y m q)) (contains-first m (filter_map g xs))

    by : (o p : Option ℕ) → (o ≡ Some m → p ≡ Some m) → Contains (cons_option o (filter_map f xs)) m → (Contains (filter_map f xs) m → Contains (filter_map g xs) m) → Contains (cons_option p (filter_map g xs)) m
    by None p same h rest = more p (rest h)
    by (Some y) p same h rest = at (contains-split y (filter_map f xs) m h)
      where
        at : (y ≡ m) ⊎ Contains (filter_map f xs) m → Contains (cons_option p (filter_map g xs)) m
        at (inl e) = here p (same (ap Some e))
        at (inr q) = more p (rest q)

-- two regions join over tables that have the same records in both
same-join : {K : ℕ} (shape : Shape) (r d : Region K) (s t : Table) → records_inside s r ≡ records_inside t r → records_inside s d ≡ records_inside t d → can_join shape s r d ≡ can_join shape t r d
same-join shape r d s t p q = λ i. make_a_box r d && nat_le (length (p i) + length (q i)) (7 * shape.capacity / 10)

module _ {K : ℕ} (shape : Shape) (L : Layout K) (sorted : T (is_sorted nat_cmp L.boxes)) (m : ℕ) (c : BucketBox K) (beside : box L m ≡ Some c) (r : Region K) (s t : Table) (same_r : records_inside s r ≡ records_inside t r) (same_c : records_inside s c.region ≡ records_inside t c.region) where
  -- a neighbour is a box of the layout
  neighbour-there : (side : Direction) (x : ℕ × BucketBox K) → neighbour L r side ≡ Some x → box L x.0 ≡ Some x.1
  neighbour-there side x e = by (probe r side) e
    where
      by : (o : Option (List ℕ)) → option_and_then (holder L) o ≡ Some x → box L x.0 ≡ Some x.1
      by None q = absurd (some-not-none x (sym q))
      by (Some k) q = (holder-box k L x sorted q).0

  -- a neighbour that joined joins still
  still-joins : (side : Direction) → joins shape L t r side ≡ Some m → joins shape L s r side ≡ Some m
  still-joins side e = by (neighbour L r side) refl e
    where
      at : (x : ℕ × BucketBox K) → box L x.0 ≡ Some x.1 → (b : Bool) → can_join shape t r x.1.region ≡ b → cond b (Some x.0) None ≡ Some m → if_joins shape s r x ≡ Some m
      at x there true p q =
          let number : x.0 ≡ m = one-value x.0 m q in
          let is : x.1 ≡ c = one-box L x.0 m x.1 c there beside number in
          let records : records_inside s x.1.region ≡ records_inside t x.1.region = subst (λ (d : BucketBox K). records_inside s d.region ≡ records_inside t d.region) (sym is) same_c in
          ap (λ b. cond b (Some x.0) None) (same-join shape r x.1.region s t same_r records ∙ p) ∙ q
      at x there false p q = absurd (some-not-none m (sym q))

      by : (o : Option (ℕ × BucketBox K)) → neighbour L r side ≡ o → option_and_then (if_joins shape t r) o ≡ Some m → option_and_then (if_joins shape s r) o ≡ Some m
      by None p q = absurd (some-not-none m (sym q))
      by (Some x) p q = at x (neighbour-there side x p) (can_join shape t r x.1.region) refl q

  -- so it is a partner still
  still-partners : Contains (partners shape L t r) m → Contains (partners shape L s r) m
  unfolding partners
  still-partners h = still-made (joins shape L t r) (joins shape L s r) m still-joins (directions (length r.lo)) h

-- a merge that a remove may take over one table it may take over another one that agrees on both boxes
pub still-merges : {K : ℕ} (shape : Shape) (L : Layout K) (s t : Table) (k : Key K) (e : ℕ × BucketBox K) (m : ℕ) (c : BucketBox K) → T (is_sorted nat_cmp L.boxes) → IsTable s → IsTable t → holder L k.numbers ≡ Some e → box L m ≡ Some c
    → Agree e.1.region s t → Agree c.region s t → Contains (merges shape L t k.numbers) (note.Merge m) → Contains (merges shape L s k.numbers) (note.Merge m)
unfolding merges effect
still-merges {K} shape L s t k e m c sorted g h holds beside here there found =
    subst (λ o. Contains (option_map_or (λ x. merges_at shape L s k.numbers x.1) o []) (note.Merge m)) (sym holds) (made (subst (λ o. Contains (option_map_or (λ x. merges_at shape L t k.numbers x.1) o []) (note.Merge m)) holds found))
  where
    one : (i : ℕ) → note.Merge i ≡ note.Merge m → i ≡ m
    one i q = cc

    made : Contains (merges_at shape L t k.numbers e.1) (note.Merge m) → Contains (merges_at shape L s k.numbers e.1) (note.Merge m)
    made q =
        let x = contains-from-map note.Merge (partners shape L (without t k.numbers) e.1.region) (note.Merge m) q in
        contains-map note.Merge (partners shape L (without s k.numbers) e.1.region) m
        (still-partners shape L sorted m c beside e.1.region (without s k.numbers) (without t k.numbers) (records-after e.1.region s t (Remove k) g h here) (records-after c.region s t (Remove k) g h there) (subst (Contains (partners shape L (without t k.numbers) e.1.region)) (one x.0 x.2) x.1))
