-- The neighbour with which a bucket joins that loses a record, as it was found.
use Rattle.std.specs.Prelude.{◌≡◌, ◌≤◌, ◌+◌, ◌-◌, ◌*◌, ◌/◌, ◌==◌, ◌&&◌, ℕ, Bool, not, List, length, nat_le, slice_get, option_map, Option, Some, Result, Contains, IsTrue, IsSome, IfSome, IfErr}
use Rattle.grid_types.specs.declared.layout_change.LayoutChange.TheVariants as note
use Rattle.grid_types.specs.declared.refusal.Refusal.{Refusal}
use Rattle.grid_types.specs.declared.region.Region.{Region}
use Rattle.grid_types.specs.declared.shape.Shape.{Shape}
use Rattle.grid_types.specs.Regions.{make_a_box}
use Rattle.grid_model.specs.Images.{bucket_on}
use Rattle.grid_model.specs.Layouts.{BucketBox, Layout}
use Rattle.grid_model.specs.Neighbours.{Direction, directions, probe, can_join, joins, partners}
use Rattle.grid_model.specs.Notes.{merges}
use Rattle.grid_model.specs.Tables.{Table, get, without}
use Rattle.bucket_page.specs.declared.head.Head.{Head}
use Rattle.change_plans.specs.Plans.{IsPageBeside}
use Rattle.query_paths.specs.Pinned.{Place}
use Rattle.query_paths.specs.Finding.{IsBucketFound, IsBoxFound}
use Rattle.query_paths.specs.Paths.{IsGetRefusal}

-- two buckets join once the first has lost a record, by their heads: they have two numbers, and their regions are a box with at most seven tenths of a bucket's records
abbrev pub heads_join : {K : ℕ} → ℕ → Head K → Head K → Bool
heads_join capacity a b = not (a.number == b.number) && (make_a_box a.region b.region && nat_le (a.count - 1 + b.count) (7 * capacity / 10))

-- a key lies beside a region, on a side of it: it is the probe of one of its directions
pub record LiesBeside {K : ℕ} (r : Region K) (side : Direction) (key : List ℕ) : Type 0 where
  pub direction : Contains (directions K) side
  pub probed : probe r side ≡ Some key

-- a neighbour was found with which a bucket joins that loses a record: it is the bucket of a key beside the bucket's region
pub record IsNeighbourFound {K : ℕ} (p : Place) (head : Head K) (bytes : List ℕ) (other : Head K) : Type 0 where
  pub side : Direction
  pub key : List ℕ
  pub beside : LiesBeside head.region side key
  pub found : IsBucketFound p key bytes other
  pub join : IsTrue (heads_join p.shape.capacity head other)

-- the search for a neighbour may be refused so: as a get of a key beside the region is
pub record IsRefusedBeside {K : ℕ} (p : Place) (before now : ℕ) (r : Region K) (bytes : List ℕ) (e : Refusal) : Type 0 where
  pub side : Direction
  pub key : List ℕ
  pub beside : LiesBeside r side key
  pub refused : IsGetRefusal K p before now key bytes e

-- its count of failures does not fall, and a refusal has its cause
pub record HasPartnerCause {K : ℕ} {T : Type 0} (p : Place) (before now : ℕ) (r : Region K) (bytes : List ℕ) (result : Result T Refusal) : Type 0 where
  pub later : before ≤ now
  pub refused : IfErr result (IsRefusedBeside p before now r bytes)

-- a bucket loses a record: its page was found for a key that the table has
pub record IsLosing {K : ℕ} (shape : Shape) (L : Layout K) (t : Table) (key : List ℕ) (e : ℕ × BucketBox K) (head : Head K) : Type 0 where
  pub page : List ℕ
  pub found : IsBoxFound shape L t key e page head
  pub there : IsSome (get t key)

-- a page is that of another box with which the box of a key joins after the key is removed, and this is its head
pub record IsPartnerFound {K : ℕ} (shape : Shape) (L : Layout K) (t : Table) (key : List ℕ) (e : ℕ × BucketBox K) (bytes : List ℕ) (head : Head K) : Type 0 where
  pub other : BucketBox K
  pub beside : IsPageBeside shape L t e (head.number, other) bytes
  pub region : head.region ≡ other.region
  pub count : head.count ≡ length (bucket_on t (head.number, other)).rows
  pub joined : IsTrue (can_join shape (without t key) e.1.region other.region)

-- on a side of the box of a key: the neighbour there where it joins after the key is removed, and none where it doesn't
pub record IsPartnerOn {K : ℕ} (shape : Shape) (L : Layout K) (t : Table) (key : List ℕ) (e : ℕ × BucketBox K) (side : Direction) (bytes : List ℕ) (o : Option (Head K)) : Type 0 where
  pub number : option_map (λ h. h.number) o ≡ joins shape L (without t key) e.1.region side
  pub page : IfSome o (IsPartnerFound shape L t key e bytes)

-- the first of the neighbours with which the box of a key joins after the key is removed, by directions, so the first of the merges that the removal may take; none where there is none
pub record IsFirstPartner {K : ℕ} (shape : Shape) (L : Layout K) (t : Table) (key : List ℕ) (e : ℕ × BucketBox K) (bytes : List ℕ) (o : Option (Head K)) : Type 0 where
  pub partner : option_map (λ h. h.number) o ≡ slice_get (partners shape L (without t key) e.1.region) 0
  pub merge : option_map (λ h. note.Merge h.number) o ≡ slice_get (merges shape L t key) 0
  pub page : IfSome o (IsPartnerFound shape L t key e bytes)
