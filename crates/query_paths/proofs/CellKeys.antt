-- A region has all keys of a cell where it has the cell's two corners.
use Rattle.std.proofs.Common.{◌≡◌, ◌↔◌, ◌&&◌, ℕ, Bool, true, false, List, nat_le, IsTrue, refl, sym, ◌∙◌, arith}
use lib.Pointwise.{pointwise}
use Rattle.grid_types.specs.declared.region.Region.{Region}
use Rattle.grid_types.specs.Keys.{IsKey}
use Rattle.grid_types.specs.Regions.{contains, IsRegion}
use Rattle.grid_types.proofs.Numbers.{both, first, second, all-at-most, each-at-most, as-long}
use Rattle.grid_model.specs.Cells.{cell_of}
use Rattle.grid_model.specs.Expected.{SoughtCell, IsSought}

-- numbers that are at most others, which are at most third ones
at-most-on : (xs ys zs : List ℕ) → pointwise nat_le xs ys ≡ true → pointwise nat_le ys zs ≡ true → pointwise nat_le xs zs ≡ true
at-most-on xs ys zs p q = all-at-most xs zs (as-long xs ys p ∙ as-long ys zs q) (λ i l. omega (arith, each-at-most xs ys i p l, each-at-most ys zs i q (omega (arith, l, as-long xs ys p))))

at-most-itself : (xs : List ℕ) → pointwise nat_le xs xs ≡ true
at-most-itself xs = all-at-most xs xs refl (λ i l. omega arith)

-- a region is that of the keys of a cell
pub record AreKeysOf (K : ℕ) (scales : List (List ℕ)) (cell : List ℕ) (keys : Region K) : Type 0 where
  pub some : IsRegion K keys
  pub same : (k : List ℕ) → IsKey K k → IsTrue (contains keys k) ↔ (cell_of scales k ≡ cell)

-- there is a key that is sought and is not in a region
pub record LacksKey {K : ℕ} (scales : List (List ℕ)) (cell : List ℕ) (r : Region K) : Type 0 where
  pub key : List ℕ
  pub sought : IsSought K (SoughtCell scales cell) key
  pub out : contains r key ≡ false

module _ {K : ℕ} (scales : List (List ℕ)) (cell : List ℕ) (keys r : Region K) (h : AreKeysOf K scales cell keys) where
  -- a region with both corners has all keys of the cell
  pub has-all : (contains r keys.lo && contains r keys.hi) ≡ true → (k : List ℕ) → IsSought K (SoughtCell scales cell) k → IsTrue (contains r k)
  has-all e k s =
      let lowest = first (contains r keys.lo) (contains r keys.hi) e in
      let highest = second (contains r keys.lo) (contains r keys.hi) e in
      let inside = (h.same k s.0).1 s.1 in
      both (pointwise nat_le r.lo k) (pointwise nat_le k r.hi)
      (at-most-on r.lo keys.lo k (first (pointwise nat_le r.lo keys.lo) (pointwise nat_le keys.lo r.hi) lowest) (first (pointwise nat_le keys.lo k) (pointwise nat_le k keys.hi) inside))
      (at-most-on k keys.hi r.hi (second (pointwise nat_le keys.lo k) (pointwise nat_le k keys.hi) inside) (second (pointwise nat_le r.lo keys.hi) (pointwise nat_le keys.hi r.hi) highest))

  up : pointwise nat_le keys.lo keys.hi ≡ true
  up = all-at-most keys.lo keys.hi (h.some.low.count ∙ sym h.some.high.count) (λ i l. h.some.not_empty i (omega (arith, l, h.some.low.count)))

  -- one without one of them lacks a key of the cell
  pub lacks-one : (contains r keys.lo && contains r keys.hi) ≡ false → LacksKey scales cell r
  lacks-one e = by (contains r keys.lo) refl e
    where
      by : (t : Bool) → contains r keys.lo ≡ t → (t && contains r keys.hi) ≡ false → LacksKey scales cell r
      by true p q = record { key = keys.hi; sought = (h.some.high, (h.same keys.hi h.some.high).0 (both (pointwise nat_le keys.lo keys.hi) (pointwise nat_le keys.hi keys.hi) up (at-most-itself keys.hi))); out = q }
      by false p q = record { key = keys.lo; sought = (h.some.low, (h.same keys.lo h.some.low).0 (both (pointwise nat_le keys.lo keys.lo) (pointwise nat_le keys.lo keys.hi) (at-most-itself keys.lo) up)); out = p }
