-- When a bucket that loses a record joins with another one.
use Rattle.std.proofs.Common.{◌≡◌, ◌≢◌, ◌+◌, ◌-◌, ◌*◌, ◌/◌, ◌==◌, ◌&&◌, ℕ, Bool, true, false, cond, not, List, length, nat_le, Some, None, IsSome, is_some, refl, sym, ap, ◌∙◌, subst, arith, true≢false, eqb-true}
use Rattle.std.specs.Cmp.Lexicographic.{nat_list_cmp_total}
use Rattle.std.specs.FinMap.Entries.{length_without, is_sorted-where_key}
use Rattle.std.specs.Option.{option_and_then}
use Rattle.grid_types.specs.declared.shape.Shape.{Shape}
use Rattle.grid_types.specs.Keys.{key_cmp}
use Rattle.grid_types.specs.Regions.{contains, make_a_box}
use Rattle.grid_model.specs.Buckets.{SpellsBucket}
use Rattle.grid_model.specs.Images.{bucket_on}
use Rattle.grid_model.specs.Layouts.{BucketBox, Layout, box, holder, records_inside}
use Rattle.grid_model.specs.Neighbours.{Direction, probe, can_join, if_joins, joins}
use Rattle.grid_model.specs.Spellings.{BucketOf}
use Rattle.grid_model.specs.Tables.{Table, get, without}
use Rattle.grid_model.proofs.Boxes.{one-box}
use Rattle.grid_model.proofs.Holders.{holder-box}
use Rattle.bucket_page.specs.declared.head.Head.{Head}
use Rattle.change_plans.proofs.Buckets.{count-on, other-on}
use Rattle.change_plans.proofs.Inside.{get-inside, inside-without}
use Rattle.query_paths.specs.Finding.{IsBoxFound}
use Rattle.merge_paths.specs.Partners.{heads_join, IsPartnerFound}

module _ {K : ℕ} (shape : Shape) (L : Layout K) (t : Table) (k : List ℕ) (e : ℕ × BucketBox K) (page : List ℕ) (head : Head K) (a : IsBoxFound shape L t k e page head) (there : IsSome (get t k)) where
  held : (box L e.0 ≡ Some e.1) × (contains e.1.region k ≡ true)
  held = holder-box k L e a.stands.sound.numbered a.holds

  -- the region's records are one fewer without the key
  one-fewer : 1 + length (records_inside (without t k) e.1.region) ≡ length (records_inside t e.1.region)
  one-fewer =
      let has : is_some (get (records_inside t e.1.region) k) ≡ true = ap is_some (get-inside e.1.region t k ∙ ap (λ b. cond b (get t k) None) held.1) ∙ there in
      ap (λ s. 1 + length s) (inside-without e.1.region t k a.stands.table)
      ∙ ap (λ b. cond b 1 0 + length (without (records_inside t e.1.region) k)) (sym has)
      ∙ length_without key_cmp nat_list_cmp_total k (records_inside t e.1.region) (is_sorted-where_key key_cmp (contains e.1.region) t a.stands.table)

  fewer : head.count - 1 ≡ length (records_inside (without t k) e.1.region)
  fewer = omega (arith, one-fewer, a.count, count-on t e)

  module _ (key : List ℕ) (f : ℕ × BucketBox K) (bytes : List ℕ) (other : Head K) (b : IsBoxFound shape L t key f bytes other) (outside : contains e.1.region key ≡ false) where
    beside : (box L f.0 ≡ Some f.1) × (contains f.1.region key ≡ true)
    beside = holder-box key L f a.stands.sound.numbered b.holds

    -- the box of a key that the region does not have is another one
    pub differ : e.0 ≢ f.0
    differ same = true≢false (sym beside.1 ∙ ap (λ (x : BucketBox K). contains x.region key) (one-box L f.0 e.0 f.1 e.1 beside.0 held.0 (sym same)) ∙ outside)

    numbers : not (head.number == other.number) ≡ true
    numbers = by (head.number == other.number) refl
      where
        by : (s : Bool) → (head.number == other.number) ≡ s → not s ≡ true
        by true q = absurd (differ (sym a.number ∙ eqb-true head.number other.number q ∙ b.number))
        by false q = refl

    same-count : other.count ≡ length (records_inside (without t k) f.1.region)
    same-count = b.count ∙ ap (λ (x : BucketOf K). length x.rows) (sym (other-on shape L t k e f.0 f.1 a.stands a.holds beside.0 differ)) ∙ count-on (without t k) f

    -- it joins by its head where the regions can be joined
    pub join-is : heads_join shape.capacity head other ≡ can_join shape (without t k) e.1.region f.1.region
    join-is =
        ap (λ s. s && (make_a_box head.region other.region && nat_le (head.count - 1 + other.count) (7 * shape.capacity / 10))) numbers
        ∙ (λ i. make_a_box (a.region i) (b.region i) && nat_le (fewer i + same-count i) (7 * shape.capacity / 10))

    -- so it is the neighbour that joins on the side of the key
    pub joins-so : (side : Direction) → probe head.region side ≡ Some key → joins shape L (without t k) e.1.region side ≡ cond (heads_join shape.capacity head other) (Some other.number) None
    joins-so side probed =
        ap (λ o. option_and_then (if_joins shape (without t k) e.1.region) (option_and_then (holder L) o)) (ap (λ r. probe r side) (sym a.region) ∙ probed)
        ∙ ap (option_and_then (if_joins shape (without t k) e.1.region)) b.holds
        ∙ (λ i. cond (sym join-is i) (Some (sym b.number i)) None)

    -- and its page is that of another box
    pub joined-there : heads_join shape.capacity head other ≡ true → IsPartnerFound shape L t k e bytes other
    joined-there q = record {
      other = f.1;
      beside = record {
        there = ap (box L) b.number ∙ beside.0;
        differ = λ same. differ (same ∙ b.number);
        spelled = subst (λ (n : ℕ). SpellsBucket shape.capacity bytes (bucket_on t (n, f.1))) (sym b.number) b.spelled;
      };
      region = b.region;
      count = b.count;
      joined = sym join-is ∙ q;
    }
