-- From one cell of a walk to the next.
use Rattle.std.proofs.Common.{◌≡◌, ◌<◌, ◌≤◌, ◌+◌, ◌⊎◌, inl, inr, ℕ, zero, suc, Bool, true, false, List, [], ◌∷◌, length, map, slice_index, slice_index_or, replicate, None, Err, refl, sym, ap, ◌∙◌, subst, arith, true≢false, leb-true}
use Rattle.std.proofs.lemmas.Bool.{cases_lt}
use Rattle.std.proofs.lemmas.List.{length-map, get_or-replicate, get_or_past, length-replicate}
use Rattle.std.specs.List.{list_all}
use Rattle.grid_types.specs.declared.cell_box.CellBox.{CellBox}
use Rattle.grid_types.specs.declared.query.Query.{Query}
use Rattle.grid_types.specs.declared.query.Side.{Side}
use Rattle.grid_types.specs.declared.query.Side.TheVariants.{Any, Exactly, Between}
use Rattle.grid_types.specs.declared.refusal.Refusal.{Refusal}
use Rattle.grid_types.specs.declared.refusal.Refusal.TheVariants.{NoMemory, ReadFault, Damaged}
use Rattle.grid_types.specs.Queries.{is_straight, is_lawful, begin_of, end_of}
use Rattle.grid_types.proofs.Numbers.{first, second}
use Rattle.grid_model.specs.Cells.{dims, cell_index, InCellBox}
use Rattle.grid_model.specs.ScaleLaws.{IsCell}
use Rattle.grid_model.specs.Tables.{Table}
use Rattle.grid_model.proofs.Boxes.{some-not-none}
use Rattle.grid_model.proofs.CellLaws.{have-indices}
use Rattle.grid_model.proofs.Indices.{cell_index-grows}
use Rattle.grid_model.proofs.Members.{contains-none}
use Rattle.grid_model.proofs.ScaleLaws.{interval-grows}
use Rattle.linear_scales.specs.Queries.{lowest_cell, highest_cell, MeetsQuery}
use Rattle.grid_cells.specs.CellBoxes.{IsNextInCellBox, IsLastInCellBox}
use Rattle.query_paths.specs.declared.room.Room.{Room}
use Rattle.query_paths.specs.Pinned.{Place}
use Rattle.query_paths.specs.Paths.{HasQueryCause, IsQueryRefusal}
use Rattle.query_paths.specs.Walks.{HasCellCause, IsCellRefusal, IsBoxCell, IsWalked, IsWholeWalk, cells_met}
use Rattle.query_paths.proofs.Refusing.{rose-later}

-- a straight side does not end below its begin
straight : (e : Side) → is_straight e ≡ true → begin_of e ≤ end_of e
straight Any h = omega arith
straight (Exactly m) h = omega arith
straight (Between lo hi) h = leb-true lo hi h

-- no interval of the least key that is asked for is above that of the greatest
lowest-below : (scales : List (List ℕ)) (sides : List Side) (a : ℕ) → is_lawful sides ≡ true → slice_index (lowest_cell scales sides) a ≤ slice_index (highest_cell scales sides) a
lowest-below [] [] a h = omega arith
lowest-below [] (e ∷ sides) a h = omega arith
lowest-below (s ∷ scales) [] a h = omega arith
lowest-below (s ∷ scales) (e ∷ sides) zero h = interval-grows s (begin_of e) (end_of e) (straight e (first (is_straight e) (list_all is_straight sides) h))
lowest-below (s ∷ scales) (e ∷ sides) (suc a) h = lowest-below scales sides a (second (is_straight e) (list_all is_straight sides) h)

module _ {K : ℕ} (p : Place) (q : Query K) (count : length p.scales ≡ K) (sides : length q.sides ≡ K) (lawful : is_lawful q.sides ≡ true) where
  abbrev box : CellBox K
  box = cells_met p.scales q

  lowest-is-cell : IsCell (dims p.scales) (lowest_cell p.scales q.sides)
  lowest-is-cell = (have-indices K).key p.scales (map begin_of q.sides) (length-map q.sides begin_of ∙ sides ∙ sym count)

  pub highest-is-cell : IsCell (dims p.scales) (highest_cell p.scales q.sides)
  highest-is-cell = (have-indices K).key p.scales (map end_of q.sides) (length-map q.sides end_of ∙ sides ∙ sym count)

  -- the first cell of the box is the lowest
  pub first-in : IsBoxCell p (cells_met p.scales q) (lowest_cell p.scales q.sides)
  first-in = record { is_cell = lowest-is-cell; inside = record { count = refl; within = λ a l. (omega arith, lowest-below p.scales q.sides a lawful) } }

  -- none of the box has a lower index
  pub lowest-first : (cell : List ℕ) → IsBoxCell p (cells_met p.scales q) cell → cell_index (dims p.scales) (lowest_cell p.scales q.sides) ≤ cell_index (dims p.scales) cell
  lowest-first cell c = cell_index-grows (dims p.scales) (lowest_cell p.scales q.sides) cell lowest-is-cell.count c.is_cell.count (λ a l. (c.inside.within a (omega (arith, l, c.is_cell.count))).0)

  -- a walk begins there
  pub begun : (room : Room K) (n start : ℕ) (H : Table → Type 0) → room.marks ≡ replicate n false → room.held ≡ None → H [] → IsWalked p q (cells_met p.scales q) (cell_index (dims p.scales) (lowest_cell p.scales q.sides)) room start start H
  begun room n start H marks held nothing = record {
    parts = [];
    read = [];
    found = [];
    reading = record {
      distinct_parts = λ m. omega arith;
      each_part = λ part g. absurd (true≢false (sym g));
      distinct = λ m. omega arith;
      each = λ b g. contains-none b g;
    };
    named = λ cell c l. let low = lowest-first cell c in absurd (omega (arith, low, l));
    marked = λ m. ap (λ ms. slice_index_or ms m false) marks ∙ unmarked m (cases_lt m n);
    held = λ h g. absurd (some-not-none h (sym g ∙ held));
    last = λ part g. absurd (true≢false (sym g));
    holds_found = nothing;
    rows_are = λ test. refl;
    few = omega arith;
    steps = omega arith;
  }
    where
      unmarked : (m : ℕ) → (m < n) ⊎ (n ≤ m) → slice_index_or (replicate n false) m false ≡ false
      unmarked m (inl l) = get_or-replicate n m false false l
      unmarked m (inr r) = get_or_past (replicate n false) m false (omega (arith, r, length-replicate n false))

module _ {K : ℕ} (p : Place) (q : Query K) (b : CellBox K) (room : Room K) (start now : ℕ) (H : Table → Type 0) (cell : List ℕ) (w : IsWalked p q b (cell_index (dims p.scales) cell + 1) room start now H) where
  -- from a cell on to the next: no cell of the box lies between them
  pub walked-on : (next : List ℕ) → IsNextInCellBox (dims p.scales) b cell next → IsWalked p q b (cell_index (dims p.scales) next) room start now H
  walked-on next n = record {
    parts = w.parts;
    read = w.read;
    found = w.found;
    reading = w.reading;
    named = λ c m l. w.named c m (by c m l (cases_lt (cell_index (dims p.scales) cell) (cell_index (dims p.scales) c)));
    marked = w.marked;
    held = λ h g. let x = w.held h g in (x.0, omega (arith, x.1, n.above));
    last = w.last;
    holds_found = w.holds_found;
    rows_are = w.rows_are;
    few = omega (arith, w.few, n.above);
    steps = w.steps;
  }
    where
      by : (c : List ℕ) → IsBoxCell p b c → cell_index (dims p.scales) c < cell_index (dims p.scales) next
          → (cell_index (dims p.scales) cell < cell_index (dims p.scales) c) ⊎ (cell_index (dims p.scales) c ≤ cell_index (dims p.scales) cell) → cell_index (dims p.scales) c < cell_index (dims p.scales) cell + 1
      by c m l (inl high) = let least = n.least c m.inside high in absurd (omega (arith, least, l))
      by c m l (inr low) = omega (arith, low)

  -- behind the last cell each cell of the box was come to
  pub whole : IsLastInCellBox (dims p.scales) b cell → IsWholeWalk p q b start now H
  whole last = record {
    parts = w.parts;
    read = w.read;
    found = w.found;
    reading = w.reading;
    named = λ c m. let low = last c m.inside in w.named c m (omega (arith, low));
    holds_found = w.holds_found;
    rows_are = w.rows_are;
    steps = w.steps;
  }

-- a cell of the box whose high corner is a cell is one
pub next-is-cell : {K : ℕ} (p : Place) (b : CellBox K) (next : List ℕ) → IsCell (dims p.scales) b.hi → length b.lo ≡ length b.hi → InCellBox b next → IsBoxCell p b next
next-is-cell p b next c long inside = record {
  is_cell = record {
    count = inside.count ∙ long ∙ c.count;
    each = λ a l. let w = (inside.within a (omega (arith, l, inside.count, long, c.count))).1 in let h = c.each a l in omega (arith, w, h);
  };
  inside = inside;
}

-- a walk at a place and an index is one at the same place and the same index
pub moved : {K : ℕ} {q : Query K} {b : CellBox K} {room : Room K} {start now : ℕ} {H : Table → Type 0} (p r : Place) (i j : ℕ) → p ≡ r → i ≡ j → IsWalked p q b i room start now H → IsWalked r q b j room start now H
moved {K} {q} {b} {room} {start} {now} {H} p r i j e f w = subst (λ (k : ℕ). IsWalked r q b k room start now H) f (subst (λ (x : Place). IsWalked x q b i room start now H) e w)

-- so a visit of a cell, which is made at the same place and knows the cell by its index, goes on with the walk
pub visited-on : {K : ℕ} (p there : Place) (q : Query K) (b : CellBox K) (old new : Room K) (start before now : ℕ) (H H' : Table → Type 0) (cell : List ℕ) (i : ℕ) → there ≡ p → i ≡ cell_index (dims p.scales) cell
    → IsWalked p q b (cell_index (dims p.scales) cell) old start before H → (IsWalked there q b i old start before H → IsWalked there q b (i + 1) new start now H') → IsWalked p q b (cell_index (dims p.scales) cell + 1) new start now H'
visited-on {K} p there q b old new start before now H H' cell i same at w visit =
    let begun = moved {K = K} {q = q} {b = b} {room = old} {start = start} {now = before} {H = H} p there (cell_index (dims p.scales) cell) i (sym same) (sym at) w in
    moved {K = K} {q = q} {b = b} {room = new} {start = start} {now = now} {H = H'} there p (i + 1) (cell_index (dims p.scales) cell + 1) same (ap (λ n. n + 1) at) (visit begun)

-- the box whose corners are those of the cells that a query meets is theirs
pub box-is : {K : ℕ} (scales : List (List ℕ)) (q : Query K) (b : CellBox K) → b.lo ≡ lowest_cell scales q.sides → b.hi ≡ highest_cell scales q.sides → b ≡ cells_met scales q
box-is scales q b low high = λ i. record { lo = low i; hi = high i }

-- what refuses a cell that a query meets refuses the query
pub query-cause : {K : ℕ} {T U : Type 0} (lacks : Bool) (p : Place) (sides : List Side) (cell : List ℕ) (room : Room K) (before mid now : ℕ) (e : Refusal) → IsCell (dims p.scales) cell → MeetsQuery K p.scales sides cell → before ≤ mid
    → HasCellCause {K = K} {T = T} lacks p cell room mid now (Err e) → HasQueryCause K {T = U} lacks p sides room.part.value room.bucket.value before now (Err e)
query-cause {K} lacks p sides cell room before mid now e c met l h = record { later = omega (arith, l, h.later); refused = by e h.refused }
  where
    by : (x : Refusal) → IsCellRefusal lacks p cell room mid now x → IsQueryRefusal K lacks p sides room.part.value room.bucket.value before now x
    by NoMemory r = r
    by ReadFault r = rose-later before mid now l r
    by (Damaged at) r = record { cell = cell; is_cell = c; met = met; unexpected = r }
    by _ r = r
