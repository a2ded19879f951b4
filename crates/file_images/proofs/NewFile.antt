-- An image of a new file shows what a new file keeps, and has its standing.
use Rattle.std.proofs.Common.{◌≡◌, ◌<◌, ◌≤◌, ◌==◌, inl, inr, ◌+◌, ◌*◌, ◌-◌, ◌/◌, ℕ, zero, suc, Bool, true, false, cond, not, List, [], ◌∷◌, ◌++◌, length, map, filter, slice_index, replicate, All, IsTrue, refl, sym, ap, subst, ◌∙◌, arith}
use Rattle.std.specs.Prelude.{slice_get, Option, Some, None, nat_lt, take, drop}
use Rattle.std.specs.Option.{option_map, option_map_or}
use Rattle.std.specs.Ordering.{nat_cmp, eq_by_cmp}
use Rattle.std.proofs.Common.{eqb-true, le-ltb}
use Rattle.grid_types.specs.Regions.{contains}
use Rattle.std.specs.List.{range_with_len}
use Rattle.std.proofs.lemmas.Option.{same_Some}
use Rattle.std.proofs.lemmas.List.{length-replicate, get_or-replicate}
use Rattle.std.proofs.lemmas.List.Elements.{All-cons, All-nil, All-replicate}
use Rattle.grid_types.specs.declared.shape.Shape.{Shape}
use Rattle.grid_types.specs.declared.owner.Owner.{Owner}
use Rattle.grid_types.specs.declared.owner.Owner.TheVariants.{Bucket, Part}
use Rattle.grid_types.specs.Pages.{page_of}
use Rattle.grid_types.specs.Shapes.{is_shape, data_page}
use Rattle.grid_types.proofs.Places.{within-limits}
use Rattle.grid_model.specs.Lists.{AreDistinct}
use Rattle.grid_model.specs.Cells.{parts, all_cells, corner}
use Rattle.grid_model.specs.Scales.{is_scale}
use Rattle.grid_model.specs.Layouts.{BucketBox, whole, holder, number_at, new_layout, directory, directory_part}
use Rattle.grid_model.specs.Lawful.{IsRootOn, IsAreaOf, pages_named, nowhere, cells_of_counts}
use Rattle.grid_model.specs.Spellings.{directory_spelling, bucket_spelling}
use Rattle.grid_model.specs.Images.{HasGatesOf, numbers_of}
use Rattle.grid_model.specs.Roots.{WholeRoot}
use Rattle.grid_model.proofs.Boxes.{some-not-none, one-value}
use Rattle.grid_model.proofs.NewLayout.{new-stands, one_cell}
use Rattle.grid_model.proofs.Found.{one-number}
use Rattle.history_pages.specs.OwnerPages.{as_bucket, owner_page, numbered_bucket}
use Rattle.journal_slots.proofs.Frames.{gate_is_byte}
use Rattle.file_images.specs.Kept.{PlacedBatch, on_half}
use Rattle.file_images.specs.Shows.{gate_in, Shows}
use Rattle.history_pages.specs.KnownPages.{page_named}
use Rattle.file_images.specs.Leads.{HasStanding, Leads, RootHolds, lineage_at, LeadsAlong}
use Rattle.file_images.specs.NewFiles.{new_fields, new_area, new_root, new_directory, new_bucket, IsNewFile, new_kept, new_standing}
use Rattle.file_images.proofs.PagesApart.{few}
use Rattle.file_images.proofs.Elements.{Among, here, there, from_range}
use Rattle.file_images.proofs.Histories.{shut_no_doubt, shut_not_flying}
use Rattle.file_images.proofs.Leading.{leads_begun}
use Rattle.file_images.proofs.Standings.{shows_stands}

-- a list of which no element passes
filter_none : {X : Type 0} (test : X → Bool) (xs : List X) → ((x : X) → Among x xs → test x ≡ false) → filter test xs ≡ []
filter_none test [] none = refl
filter_none test (x ∷ xs) none = ap (λ b. cond b (x ∷ filter test xs) (filter test xs)) (none x here) ∙ filter_none test xs (λ y m. none y (there m))

none_named : (n : ℕ) → pages_named (replicate n nowhere) ≡ []
unfolding nowhere
none_named zero = refl
none_named (suc n) = none_named n

-- an element that stands in a list of one element is that one
pub get_replicate : {X : Type 0} (n : ℕ) (x y : X) (i : ℕ) → slice_get (replicate n x) i ≡ Some y → y ≡ x
get_replicate zero x y i is = absurd (some-not-none y (sym is))
get_replicate (suc n) x y zero is = sym (same_Some x y is)
get_replicate (suc n) x y (suc i) is = get_replicate n x y i is

-- scales without boundaries have one cell, and that is the lowest key
one_of_counts : (K : ℕ) → cells_of_counts (replicate K 0) ≡ 1
one_of_counts zero = refl
one_of_counts (suc K) = let rest = one_of_counts K in omega (arith, rest)

lengths_none : (K : ℕ) → map {A = List ℕ} length (replicate K []) ≡ replicate K 0
lengths_none zero = refl
lengths_none (suc K) = ap (λ (ns : List ℕ). 0 ∷ ns) (lengths_none K)

all_of_one : (K : ℕ) → all_cells (replicate K []) ≡ replicate K 0 ∷ []
all_of_one zero = refl
all_of_one (suc K) = ap (λ (rest : List (List ℕ)). map (λ (c : List ℕ). 0 ∷ c) rest ++ []) (all_of_one K)

one_part : (K : ℕ) → parts (replicate K []) ≡ 1
one_part K = ap (λ (n : ℕ). (n + 999) / 1000) (one_cell K)

-- whatever box is found in a new layout, its number is 0
zero_number : (K : ℕ) (k : List ℕ) → number_at (new_layout K) k ≡ 0
unfolding new_layout holder
zero_number K k = by (contains (whole K) k)
  where
    by : (b : Bool) → option_map_or (λ (e : ℕ × BucketBox K). e.0) (cond b (Some (0, record { region = whole K; turn = 0 })) None) 0 ≡ 0
    by true = refl
    by false = refl

new_part : (K : ℕ) → directory_part (new_layout K) 0 ≡ 0 ∷ []
unfolding directory_part directory new_layout
new_part K =
    ap (λ (cs : List (List ℕ)). take 1000 (drop (1000 * 0) (map (λ cell. number_at (new_layout K) (corner (replicate K []) cell)) cs))) (all_of_one K)
    ∙ ap (λ (n : ℕ). n ∷ []) (zero_number K (corner (replicate K []) (replicate K 0)))

module _ (K : ℕ) (s : Shape) (lawful : IsTrue (is_shape s)) (attributes : s.k ≡ K) where
  new_root_lawful : IsRootOn s 0 (new_fields K)
  new_root_lawful =
      let w = within-limits s lawful in
      record {
        parity = refl;
        number = omega arith;
        session = omega arith;
        front = omega arith;
        attributes = length-replicate K 0 ∙ sym attributes;
        few_boundaries = All-replicate (λ n. n ≤ s.boundaries) K 0 (omega arith);
        few_cells = omega (arith, one_of_counts K, w.some_cells);
        parts = sym (ap (λ (n : ℕ). (n + 999) / 1000) (one_of_counts K));
        some_buckets = omega arith;
        few_buckets = omega (arith, w.some_pages);
        records = omega arith;
      }

  new_area_lawful : IsAreaOf s (new_fields K) (new_area K s)
  unfolding nowhere
  new_area_lawful =
      let w = within-limits s lawful in
      record {
        boundaries = lengths_none K;
        scales = All-replicate (λ scale. IsTrue (is_scale scale)) K [] refl;
        parts = refl;
        numbers = omega (arith, length-replicate {A = ℕ} (s.pages - 1) nowhere, w.some_pages);
        buckets = ap length one_named;
        pages = subst (λ (ns : List ℕ). All (λ p. p < s.pages) (0 ∷ ns)) (sym one_named) (All-cons (λ p. p < s.pages) 0 (1 ∷ []) (omega (arith, w.some_pages)) (All-cons (λ p. p < s.pages) 1 [] (omega (arith, w.some_pages)) (All-nil (λ p. p < s.pages))));
        distinct = subst (λ (ns : List ℕ). AreDistinct (0 ∷ ns)) (sym one_named) two_distinct;
      }
    where
      one_named : pages_named (new_area K s).table ≡ 1 ∷ []
      one_named = ap (λ (ns : List ℕ). 1 ∷ ns) (none_named (s.pages - 1))

      two_distinct : AreDistinct (0 ∷ 1 ∷ [])
      two_distinct n = by (0 == n) (1 == n) refl refl
        where
          by : (a b : Bool) → (0 == n) ≡ a → (1 == n) ≡ b → length {A = ℕ} (cond a (0 ∷ cond b (1 ∷ []) []) (cond b (1 ∷ []) [])) ≤ 1
          by true true p q = absurd (omega (arith, eqb-true 0 n p, eqb-true 1 n q))
          by true false p q = omega arith
          by false true p q = omega arith
          by false false p q = omega arith

  -- the numbers that the table has
  one_number : numbers_of (new_area K s).table ≡ 0 ∷ []
  unfolding nowhere
  one_number = ap (λ (ns : List ℕ). 0 ∷ ns) (filter_none (λ n. not (slice_index (new_area K s).table n == nowhere)) (range_with_len 1 (length (replicate {A = ℕ} (s.pages - 1) nowhere))) none_else)
    where
      none_else : (n : ℕ) → Among n (range_with_len 1 (length (replicate {A = ℕ} (s.pages - 1) nowhere))) → not (slice_index (new_area K s).table n == nowhere) ≡ false
      none_else zero m = absurd (omega (arith, (from_range 1 (length (replicate {A = ℕ} (s.pages - 1) nowhere)) 0 m).0))
      none_else (suc n) m =
          let range = from_range 1 (length (replicate {A = ℕ} (s.pages - 1) nowhere)) (suc n) m in
          let at : slice_index (new_area K s).table (suc n) ≡ nowhere = get_or-replicate (s.pages - 1) n nowhere 0 (omega (arith, range.1, length-replicate {A = ℕ} (s.pages - 1) nowhere)) in
          ap (λ (p : ℕ). not (p == nowhere)) at

  always_owned : (o : Owner) (bytes : List ℕ) → owner_page (new_layout K) [] o ≡ Some bytes → slice_get (new_kept K s).always (page_named (new_area K s) o) ≡ Some (Some bytes)
  unfolding owner_page numbered_bucket new_layout
  always_owned (Bucket n) bytes is = by (eq_by_cmp nat_cmp n 0) refl is
    where
      one : BucketBox K
      one = record { region = whole K; turn = 0 }

      by : (b : Bool) → eq_by_cmp nat_cmp n 0 ≡ b → option_map bucket_spelling (option_map (as_bucket [] n) (cond b (Some one) None)) ≡ Some bytes → slice_get (new_kept K s).always (slice_index (new_area K s).table n) ≡ Some (Some bytes)
      by true p is =
          let same : n ≡ 0 = one-number n 0 p in
          let first : ◌≡◌ {A = Option (List ℕ)} (Some (bucket_spelling (as_bucket [] 0 one))) (Some bytes) = subst (λ (m : ℕ). ◌≡◌ {A = Option (List ℕ)} (Some (bucket_spelling (as_bucket [] m one))) (Some bytes)) same is in
          subst (λ (m : ℕ). slice_get (new_kept K s).always (slice_index (new_area K s).table m) ≡ Some (Some bytes)) (sym same) (ap Some first)
      by false p is = absurd (some-not-none bytes (sym is))
  always_owned (Part p) bytes is = by p (subst (λ (n : ℕ). cond (nat_lt p n) (Some (directory_spelling p (directory_part (new_layout K) p))) None ≡ Some bytes) (one_part K) is)
    where
      by : (p : ℕ) → cond (nat_lt p 1) (Some (directory_spelling p (directory_part (new_layout K) p))) None ≡ Some bytes → slice_get (new_kept K s).always (slice_index (0 ∷ []) p) ≡ Some (Some bytes)
      by zero is = ap Some (ap (λ (c : List ℕ). Some (directory_spelling 0 c)) (sym (new_part K)) ∙ is)
      by (suc p) is = absurd (some-not-none bytes (sym (sym (ap (λ (b : Bool). cond b (Some (directory_spelling (suc p) (directory_part (new_layout K) (suc p)))) None) (le-ltb (suc p) 1 (omega arith))) ∙ is)))

  new_holds : RootHolds (new_kept K s) (new_root K s) (new_layout K) []
  unfolding new_layout
  new_holds = record {
    scales = refl;
    directory = sym (one_part K);
    numbers = sym one_number;
    stands = new-stands s lawful attributes;
    records = refl;
    pages = always_owned;
  }

  none_placed : {A : Type 0} (h i : ℕ) (p : PlacedBatch K) → slice_get (on_half (new_kept K s) h) i ≡ Some p → A
  none_placed zero i p is = absurd (some-not-none p (sym is))
  none_placed (suc h) i p is = absurd (some-not-none p (sym is))

  -- the root of a new file leads to its standing, along its layout and the empty table
  pub new_root_leads : LeadsAlong (new_kept K s) (new_root K s) (new_standing K) (lineage_at (new_standing K))
  new_root_leads = leads_begun (new_kept K s) (new_standing K) (new_root K s) (record { front = refl; holds = new_holds; earlier = λ h i p two is. none_placed h i p is; shut = refl })

  -- what a new file keeps leads to its standing
  pub new_leads : Leads (new_kept K s) (new_standing K)
  new_leads w (inl e) = record { lineage = lineage_at (new_standing K); along = subst (λ (v : WholeRoot). LeadsAlong (new_kept K s) v (new_standing K) (lineage_at (new_standing K))) (sym e) new_root_leads }
  new_leads w (inr m) = absurd m

module _ (K : ℕ) (s : Shape) (image : List ℕ) (is : IsNewFile K s image) where
  new_gate : (h i : ℕ) → h < 2 → i < s.slots → gate_in s h i image ≡ 0
  new_gate h i two lt =
      let there : HasGatesOf s image h (replicate s.slots 0) = record { count = length-replicate s.slots 0; page = is.gates h two } in
      sym (gate_is_byte s h (few s is.shape.lawful) i (replicate s.slots 0) image lt there) ∙ get_or-replicate s.slots i 0 0 lt

  -- an image of a new file shows what a new file keeps
  pub new_shows : Shows (new_kept K s) image
  new_shows = record {
    sizes = record { two = omega arith; first = omega arith; second = omega arith };
    shape = is.shape;
    roots = record {
      keeps = record {
        opens = record { gate = is.opened; spelled = is.fields; lawful = new_root_lawful K s is.shape.lawful is.shape.attributes };
        area = record { lawful = new_area_lawful K s is.shape.lawful is.shape.attributes; pages = is.area };
      };
      closed = is.closed;
    };
    pages = new_pages_held;
    formed = λ h two. record { gates = replicate s.slots 0; count = length-replicate s.slots 0; spelled = is.gates h two };
    slots = λ h i p two at. none_placed K s is.shape.lawful is.shape.attributes h i p at;
    unused = λ h i at. new_gate h i at.two at.inside;
    next = λ lt. new_gate 0 0 (omega arith) lt;
  }
    where
      new_pages_held : (p : ℕ) (bytes : List ℕ) → slice_get (new_kept K s).always p ≡ Some (Some bytes) → page_of (data_page s p) image ≡ bytes
      new_pages_held zero bytes at = is.directory ∙ one-value new_directory bytes (same_Some (Some new_directory) (Some bytes) at)
      new_pages_held (suc zero) bytes at = is.bucket ∙ one-value (bucket_spelling (new_bucket K)) bytes (same_Some (Some (bucket_spelling (new_bucket K))) (Some bytes) at)
      new_pages_held (suc (suc p)) bytes at = absurd (some-not-none bytes (get_replicate (s.pages - 2) None (Some bytes) p at))

  -- and has its standing
  pub new_has_standing : HasStanding image (new_standing K)
  new_has_standing = elim (shows_stands (new_kept K s) image (new_standing K) new_shows shut_not_flying (new_leads K s is.shape.lawful is.shape.attributes)) [
    | inl stands ↦ stands
    | inr more ↦ shut_no_doubt more.0 more.1
  ]
