-- The neighbour on a side, and the first of all, where the place has the pages of a layout and a table.
use Rattle.std.proofs.Common.{◌≡◌, ◌<◌, ◌+◌, ℕ, Bool, true, false, cond, List, [], length, map, slice_get, filter_map, option_map, Option, Some, None, IsSome, IfSome, is_some, refl, sym, ap, ◌∙◌, arith, true≢false}
use Rattle.std.proofs.lemmas.Option.{slice_get-map}
use Rattle.std.specs.Option.{option_map_or}
use Rattle.grid_types.specs.declared.layout_change.LayoutChange.TheVariants as note
use Rattle.grid_types.specs.declared.key.Key.{Key}
use Rattle.grid_types.specs.declared.shape.Shape.{Shape}
use Rattle.grid_types.specs.Keys.{IsKey}
use Rattle.grid_types.specs.Regions.{contains}
use Rattle.grid_model.specs.Layouts.{BucketBox, Layout, holder}
use Rattle.grid_model.specs.Neighbours as model
use Rattle.grid_model.specs.Neighbours.{directions, probe, joins, partners}
use Rattle.grid_model.specs.Notes.{merges, merges_at}
use Rattle.grid_model.specs.Tables.{Table, without}
use Rattle.grid_model.proofs.Holders.{holder-box}
use Rattle.bucket_page.specs.declared.head.Head.{Head}
use Rattle.merge_policy.specs.declared.direction.Direction.{Direction}
use Rattle.merge_policy.specs.Sides.{attribute_of, direction_of}
use Rattle.query_paths.specs.Finding.{IsBoxFound}
use Rattle.merge_paths.specs.Partners.{heads_join, IsLosing, IsPartnerFound, IsPartnerOn, IsFirstPartner}
use Rattle.merge_paths.proofs.Sides.{NoneBefore, none-on, first-given, none-given}
use Rattle.merge_paths.proofs.Beside.{beside-outside}
use Rattle.merge_paths.proofs.Losing.{joins-so, joined-there}

-- the key of a probe is the model's
pub probed-key : {K : ℕ} (o : Option (Key K)) (p : Option (List ℕ)) (key : Key K) → option_map (λ (k : Key K). k.numbers) o ≡ p → o ≡ Some key → p ≡ Some key.numbers
probed-key {K} o p key e f = sym e ∙ ap (option_map (λ (k : Key K). k.numbers)) f

-- what was asked of two heads at a shape's capacity is what is asked at the shape
pub asked-at : {K : ℕ} (capacity n : ℕ) (a b : Head K) (r s : Bool) → n ≡ capacity → r ≡ heads_join n a b → r ≡ s → heads_join capacity a b ≡ s
asked-at capacity n a b r s e f q = ap (λ m. heads_join m a b) (sym e) ∙ sym f ∙ q

module _ {K : ℕ} (shape : Shape) (L : Layout K) (t : Table) (k : List ℕ) (e : ℕ × BucketBox K) (head : Head K) (losing : IsLosing shape L t k e head) where
  -- the region has a low bound for each attribute
  long : length e.1.region.lo ≡ K
  long = let found = losing.found in (found.stands.sound.regions e.0 e.1 (holder-box k L e found.stands.sound.numbered found.holds).0).low.count

  -- what was found for a key beside the region is the neighbour on that side
  pub partner-beside : (d : Direction) (key bytes : List ℕ) (other : Head K) (s : Bool) → attribute_of d < K → IsKey K key → probe head.region (direction_of d) ≡ Some key
      → ((f : ℕ × BucketBox K) → holder L key ≡ Some f → IsBoxFound shape L t key f bytes other) → heads_join shape.capacity head other ≡ s → IsPartnerOn shape L t k e (direction_of d) bytes (cond s (Some other) None)
  partner-beside d key bytes other s inside is_key probed is joined = by (holder L key) refl (losing.found.stands.sound.covers key is_key)
    where
      outside : contains e.1.region key ≡ false
      outside = beside-outside e.1.region d key (omega (arith, inside, long)) (ap (λ r. probe r (direction_of d)) (sym losing.found.region) ∙ probed)

      as-found : (f : ℕ × BucketBox K) → IsBoxFound shape L t key f bytes other → (r : Bool) → heads_join shape.capacity head other ≡ r → IsPartnerOn shape L t k e (direction_of d) bytes (cond r (Some other) None)
      as-found f b true q = record {
        number = sym (joins-so shape L t k e losing.page head losing.found losing.there key f bytes other b outside (direction_of d) probed ∙ ap (λ r. cond r (Some other.number) None) q);
        page = joined-there shape L t k e losing.page head losing.found losing.there key f bytes other b outside q;
      }
      as-found f b false q = record {
        number = sym (joins-so shape L t k e losing.page head losing.found losing.there key f bytes other b outside (direction_of d) probed ∙ ap (λ r. cond r (Some other.number) None) q);
        page = tt;
      }

      by : (o : Option (ℕ × BucketBox K)) → holder L key ≡ o → IsSome o → IsPartnerOn shape L t k e (direction_of d) bytes (cond s (Some other) None)
      by None q some = absurd (true≢false (sym some))
      by (Some f) q some = as-found f (is f q) s joined

  -- whether a side has a neighbour that joins
  abbrev pub on_side : model.Direction → Option ℕ
  on_side = joins shape L (without t k) e.1.region

  merge-number : (o : Option (Head K)) → option_map (λ (h : Head K). note.Merge h.number) o ≡ option_map note.Merge (option_map (λ (h : Head K). h.number) o)
  merge-number None = refl
  merge-number (Some h) = refl

  -- the merges that the removal may take are those with the partners
  merges-are : merges shape L t k ≡ map note.Merge (partners shape L (without t k) e.1.region)
  unfolding merges
  merges-are = ap (λ o. option_map_or (λ x. merges_at shape L t k x.1) o []) losing.found.holds

  as-first : (bytes : List ℕ) (o : Option (Head K)) → option_map (λ (h : Head K). h.number) o ≡ slice_get (partners shape L (without t k) e.1.region) 0 → IfSome o (IsPartnerFound shape L t k e bytes) → IsFirstPartner shape L t k e bytes o
  as-first bytes o p page = record {
    partner = p;
    merge = merge-number o ∙ ap (option_map note.Merge) p ∙ sym (slice_get-map note.Merge (partners shape L (without t k) e.1.region) 0) ∙ ap (λ ns. slice_get ns 0) (sym merges-are);
    page = page;
  }

  partners-are : partners shape L (without t k) e.1.region ≡ filter_map on_side (directions K)
  unfolding partners
  partners-are = ap (λ n. filter_map on_side (directions n)) long

  -- the neighbour on a side is the first, where none joins on the sides before
  pub first-there : (i : ℕ) (side : model.Direction) (bytes : List ℕ) (o : Option (Head K)) → slice_get (directions K) i ≡ Some side → NoneBefore on_side (directions K) i → IsPartnerOn shape L t k e side bytes o → is_some o ≡ true → IsFirstPartner shape L t k e bytes o
  first-there i side bytes None at none p some = absurd (true≢false (sym some))
  first-there i side bytes (Some h) at none p some = as-first bytes (Some h) (sym (ap (λ ns. slice_get ns 0) partners-are ∙ first-given on_side (directions K) i side h.number at (sym p.number) none)) p.page

  -- where none joins on a side, none joins on the sides before the next one
  pub none-so-far : (i : ℕ) (side : model.Direction) (bytes : List ℕ) (o : Option (Head K)) → slice_get (directions K) i ≡ Some side → NoneBefore on_side (directions K) i → IsPartnerOn shape L t k e side bytes o → is_some o ≡ false → NoneBefore on_side (directions K) (i + 1)
  none-so-far i side bytes None at none p some = none-on on_side (directions K) i side at (sym p.number) none
  none-so-far i side bytes (Some h) at none p some = absurd (true≢false some)

  -- there is none, where none joins on any side
  pub none-there : (n : ℕ) (bytes : List ℕ) → slice_get (directions K) n ≡ None → NoneBefore on_side (directions K) n → IsFirstPartner shape L t k e bytes None
  none-there n bytes past none = as-first bytes None (sym (ap (λ ns. slice_get ns 0) partners-are ∙ none-given on_side (directions K) n past none)) tt
