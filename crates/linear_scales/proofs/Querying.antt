-- Which cells a query meets.
use Rattle.std.proofs.Common.{◌≡◌, ◌<◌, ◌≤◌, ◌^◌, ◌↔◌, ℕ, zero, suc, true, true≢false, List, [], ◌∷◌, length, get_or, slice_index, refl, sym, ap, ◌∙◌, subst, arith}
use Rattle.std.proofs.lemmas.List.{length-map, get_or-map}
use lib.Pointwise.{pointwise}
use Rattle.grid_types.specs.declared.cell_box.CellBox.{CellBox}
use Rattle.grid_types.specs.declared.query.Side.{Side}
use Rattle.grid_types.specs.declared.query.Side.TheVariants.{Any}
use Rattle.grid_types.specs.Queries.{admits, matches}
use Rattle.grid_types.specs.Regions.{Within}
use Rattle.grid_types.proofs.Numbers.{both, first, second}
use Rattle.grid_types.specs.Keys.{top}
use Rattle.grid_model.specs.Scales.{is_scale, intervals, interval}
use Rattle.grid_model.specs.Cells.{dims, cell_of, InCellBox}
use Rattle.grid_model.specs.ScaleLaws.{IsCell}
use Rattle.grid_model.proofs.ScaleLaws.{has-bounds, few-intervals}
use Rattle.grid_model.proofs.Bounds.{high-top}
use Rattle.linear_scales.specs.Limited.{LimitedScale, scales_of}
use Rattle.linear_scales.specs.Sides.{Meets}
use Rattle.linear_scales.specs.Queries.{MeetsQuery}
use Rattle.linear_scales.proofs.Filling.{scale-at}
use Rattle.linear_scales.proofs.Ranges.{AreRanges}

-- an interval of a scale meets a side
record IsMet (s : LimitedScale) (side : Side) (c : ℕ) : Type 0 where
  pub scale : is_scale s.boundaries ≡ true
  pub inside : c ≤ length s.boundaries
  pub meets : Meets s.boundaries side c

-- a key with a number that each side asks for, in each interval
record HasKey (ss : List LimitedScale) (sides : List Side) (cell : List ℕ) : Type 0 where
  pub key : List ℕ
  pub count : length key ≡ length ss
  pub in_range : (a : ℕ) → slice_index key a < 2 ^ 64
  pub there : cell_of (scales_of ss) key ≡ cell
  pub asked : pointwise admits sides key ≡ true

-- where each interval meets its side, there is such a key
key-of : (ss : List LimitedScale) (sides : List Side) (cell : List ℕ) → length sides ≡ length ss → length cell ≡ length ss
    → ((k : ℕ) → k < length ss → (d : LimitedScale) (e : Side) → IsMet (get_or ss k d) (get_or sides k e) (slice_index cell k)) → HasKey ss sides cell
key-of [] [] [] p q h = record { key = []; count = refl; in_range = λ a. omega arith; there = refl; asked = refl }
key-of [] (e ∷ sides) cell p q h = absurd (omega (arith, p))
key-of [] [] (c ∷ cell) p q h = absurd (omega (arith, q))
key-of (s ∷ ss) [] cell p q h = absurd (omega (arith, p))
key-of (s ∷ ss) (e ∷ sides) [] p q h = absurd (omega (arith, q))
key-of (s ∷ ss) (e ∷ sides) (c ∷ cell) p q h =
    let here = h zero (omega arith) s e in
    let n : ℕ = here.meets.number in
    let within : n ≤ top = omega (arith, here.meets.below, high-top s.boundaries c here.scale) in
    let there : interval s.boundaries n ≡ c = (has-bounds s.boundaries n c here.scale within here.inside).0 (here.meets.above, here.meets.below) in
    let rest = key-of ss sides cell (omega (arith, p)) (omega (arith, q)) (λ k r. h (suc k) (omega (arith, r))) in
    record {
      key = n ∷ rest.key;
      count = ap suc rest.count;
      in_range = in-range n rest.key (omega (arith, within)) rest.in_range;
      there = λ i. there i ∷ rest.there i;
      asked = both (admits e n) (pointwise admits sides rest.key) here.meets.asked rest.asked;
    }
  where
    in-range : (n : ℕ) (ns : List ℕ) → n < 2 ^ 64 → ((a : ℕ) → slice_index ns a < 2 ^ 64) → (a : ℕ) → slice_index (n ∷ ns) a < 2 ^ 64
    in-range n ns p f zero = p
    in-range n ns p f (suc a) = f a

-- a matching key's interval meets the side of its attribute
met-at : (ss : List LimitedScale) (sides : List Side) (key : List ℕ) (k : ℕ) (d : LimitedScale) (e : Side) → length key ≡ length ss → pointwise admits sides key ≡ true → ((a : ℕ) → slice_index key a < 2 ^ 64) → k < length ss
    → is_scale (get_or ss k d).boundaries ≡ true → IsMet (get_or ss k d) (get_or sides k e) (slice_index (cell_of (scales_of ss) key) k)
met-at [] sides key k d e p m f q l = absurd (omega (arith, q))
met-at (s ∷ ss) sides [] k d e p m f q l = absurd (omega (arith, p))
met-at (s ∷ ss) [] (n ∷ key) k d e p m f q l = absurd (true≢false (sym m))
met-at (s ∷ ss) (side ∷ sides) (n ∷ key) zero d e p m f q l =
    let within : n ≤ top = omega (arith, f zero) in
    let bounds = (has-bounds s.boundaries n (interval s.boundaries n) l within (few-intervals s.boundaries n)).1 refl in
    record {
      scale = l;
      inside = few-intervals s.boundaries n;
      meets = record { number = n; above = bounds.0; below = bounds.1; asked = first (admits side n) (pointwise admits sides key) m };
    }
met-at (s ∷ ss) (side ∷ sides) (n ∷ key) (suc k) d e p m f q l =
    met-at ss sides key k d e (omega (arith, p)) (second (admits side n) (pointwise admits sides key) m) (λ a. f (suc a)) (omega (arith, q)) l

-- a cell's interval is one of its scale
pub inside-at : (ss : List LimitedScale) (cell : List ℕ) (k : ℕ) (d : LimitedScale) → ((a : ℕ) → a < length (dims (scales_of ss)) → slice_index cell a < slice_index (dims (scales_of ss)) a) → k < length ss
    → slice_index cell k ≤ length (get_or ss k d).boundaries
inside-at ss cell k d h p =
    let q : k < length (scales_of ss) = omega (arith, p, length-map ss (λ s. s.boundaries)) in
    omega (arith, h k (omega (arith, q, length-map (scales_of ss) intervals)), get_or-map intervals (scales_of ss) k [] 0 q, ap length (scale-at ss k d p))

-- the cells of the box of the ranges are those that meet the query
pub query-meets : {K : ℕ} (ss : List LimitedScale) (sides : List Side) (b : CellBox K) → length ss ≡ K → length sides ≡ K → length b.lo ≡ K → ((k : ℕ) → k < K → AreRanges ss sides k (slice_index b.lo k) (slice_index b.hi k))
    → (cell : List ℕ) → IsCell (dims (scales_of ss)) cell → MeetsQuery K (scales_of ss) sides cell ↔ InCellBox b cell
unfolding matches
query-meets {K} ss sides b p q n h cell c = (λ m. record { count = long ∙ p ∙ sym n; within = there m }, λ i. back i.within)
  where
    none : LimitedScale
    none = record { boundaries = []; limit = 0 }

    long : length cell ≡ length ss
    long = c.count ∙ length-map (scales_of ss) intervals ∙ length-map ss (λ s. s.boundaries)

    there : MeetsQuery K (scales_of ss) sides cell → Within b.lo b.hi cell
    there m a r =
        let range = h a (omega (arith, r, long, p)) none Any in
        let met = met-at ss sides m.key a none Any (m.is_key.count ∙ sym p) m.asked m.is_key.in_range (omega (arith, r, long)) range.lawful.scale in
        subst (λ (x : ℕ). (slice_index b.lo a ≤ x) × (x ≤ slice_index b.hi a)) (ap (λ xs. slice_index xs a) m.there) ((range.meets (slice_index (cell_of (scales_of ss) m.key) a) met.inside).0 met.meets)

    met : Within b.lo b.hi cell → (k : ℕ) → k < length ss → (d : LimitedScale) (e : Side) → IsMet (get_or ss k d) (get_or sides k e) (slice_index cell k)
    met w k r d e =
        let range = h k (omega (arith, r, p)) d e in
        let inside = inside-at ss cell k d c.each r in
        record { scale = range.lawful.scale; inside = inside; meets = (range.meets (slice_index cell k) inside).1 (w k (omega (arith, r, long))) }

    back : Within b.lo b.hi cell → MeetsQuery K (scales_of ss) sides cell
    back w =
        let found = key-of ss sides cell (q ∙ sym p) long (met w) in
        record { key = found.key; is_key = record { count = found.count ∙ p; in_range = found.in_range }; there = found.there; asked = found.asked }
