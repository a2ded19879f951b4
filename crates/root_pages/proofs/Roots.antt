-- Lawful fields of a root: they are in range, and a header page spells them once.
use Rattle.std.proofs.Common.{◌≡◌, ◌<◌, ◌≤◌, ◌*◌, ◌⊎◌, inl, inr, ◌∙◌, ℕ, List, length, drop, sym, arith}
use Rattle.std.specs.Prelude.{IsTrue, All}
use Rattle.std.proofs.lemmas.List.{get_or_past}
use Rattle.std.proofs.lemmas.Nat.{mul-le}
use Rattle.std.proofs.lemmas.List.Elements.{All-get_or}
use Rattle.grid_types.specs.declared.shape.Shape.{Shape}
use Rattle.grid_types.specs.Shapes.{is_shape}
use Rattle.grid_types.proofs.Places.{within-limits}
use Rattle.grid_model.specs.Spellings.{RootFields}
use Rattle.grid_model.specs.Lawful.{IsRootOn}
use Rattle.root_pages.specs.Headers.{AreInRange, SpellsRoot}
use Rattle.root_pages.specs.Reading.{FieldsAt}
use Rattle.root_pages.specs.Lawful.{AreAtMost}
use Rattle.root_pages.proofs.RootPlaces.{fields_there, one_root, on_header}

pub few_attributes : (s : Shape) (K : ℕ) → IsTrue (is_shape s) → s.k ≡ K → K ≤ 4
few_attributes s K lawful e = omega (arith, e, (within-limits s lawful).few_attributes)

pub at_most_thousand : (s : Shape) (ns : List ℕ) → IsTrue (is_shape s) → AreAtMost s.boundaries ns → AreAtMost 1000 ns
at_most_thousand s ns lawful few a = omega (arith, few a, (within-limits s lawful).few_boundaries)

-- each of these numbers is at most a limit, said of the places
pub each_at_most : (limit : ℕ) (ns : List ℕ) → All (λ n. n ≤ limit) ns → AreAtMost limit ns
each_at_most limit ns all i =
    let by : (i < length ns) ⊎ (length ns ≤ i) = grind arith in
    elim by [
      | inl lt ↦ All-get_or (λ n. n ≤ limit) ns i 0 lt all
      | inr le ↦ omega (arith, get_or_past ns i 0 le)
    ]

-- lawful root fields are in range
pub in_range : (s : Shape) (header K : ℕ) (r : RootFields) → IsTrue (is_shape s) → s.k ≡ K → IsRootOn s header r → AreInRange K r
in_range s header K r lawful e l =
    let w = within-limits s lawful in
    let few = each_at_most s.boundaries r.boundaries l.few_boundaries in
    let most : r.buckets * s.capacity ≤ 65536 * 48 = mul-le r.buckets s.capacity 65536 48 (omega (arith, l.few_buckets, w.few_pages)) w.small_capacity in
    record {
      number = omega (arith, l.number);
      session = omega (arith, l.session);
      front = omega (arith, l.front);
      records = omega (arith, l.records, most);
      attributes = l.attributes ∙ e;
      boundaries = λ a. omega (arith, few a, w.few_boundaries);
      parts = omega (arith, l.parts, l.few_cells, w.few_cells);
      buckets = omega (arith, l.few_buckets, w.few_pages);
    }

-- the lawful root that a header page spells is the one whose numbers stand there
pub root_again : (s : Shape) (header K : ℕ) (page : List ℕ) (r f : RootFields) → IsTrue (is_shape s) → s.k ≡ K → SpellsRoot s header page r → FieldsAt 72 page f → length f.boundaries ≡ K → r ≡ f
root_again s header K page r f lawful e is at count =
    let fit = in_range s header K r lawful e is.lawful in
    one_root 72 page r f (fit.attributes ∙ sym count) (fields_there 72 page r (drop 128 page) (on_header page r is.bytes) K (few_attributes s K lawful e) fit) at
