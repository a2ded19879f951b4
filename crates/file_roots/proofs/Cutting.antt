-- What the first pages of a spelled table area say.
use Rattle.std.proofs.Common.{◌≡◌, ◌<◌, ◌≤◌, inl, inr, ◌+◌, ◌-◌, ◌*◌, ◌/◌, ◌%◌, ◌++◌, ℕ, zero, suc, true, List, [], ◌∷◌, length, take, drop, IsTrue, refl, sym, ap, ◌∙◌, subst, arith}
use Rattle.std.specs.Prelude.{All}
use Rattle.std.proofs.lemmas.Bool.{cases_lt, cases_eq}
use Rattle.std.proofs.lemmas.List.{take_all, take-take, drop-take, take-append-drop, length-take}
use Rattle.std.proofs.lemmas.List.Elements.{All-append, All-take}
use Rattle.grid_types.specs.declared.shape.Shape.{Shape}
use Rattle.grid_types.specs.Shapes.{is_shape, area_pages, header_page}
use Rattle.grid_types.proofs.Places.{within-limits}
use Rattle.grid_model.specs.Lists.{AreDistinct}
use Rattle.grid_model.specs.Scales.{is_scale, scale_of}
use Rattle.grid_model.specs.Spellings.{RootFields, scale_spelling, list_spelling, bucket_table_spelling}
use Rattle.grid_model.specs.Lawful.{IsRootOn, Area, pages_named}
use Rattle.grid_model.specs.Images.{area_spelling, half_of_scale}
use Rattle.grid_model.proofs.Counts.{count}
use Rattle.file_roots.specs.Damage.{SpellsUpTo, HasAreaUpTo}
use Rattle.file_roots.proofs.Ascending.{front_of_scale}
use Rattle.file_roots.proofs.Marking.{named_both, count_both, all_front, all_rest}
use Rattle.file_roots.proofs.Pieces.{half_piece}
use Rattle.file_roots.proofs.Spelled.{area_spelling-scale, area_spelling-table, few}

-- the scales from an attribute on, as far as the first n pages have them
abbrev pub cut_from : ℕ → ℕ → List (List ℕ) → List (List ℕ)
cut_from n i [] = []
cut_from n i (x ∷ xs) = take (500 * (n - 2 * i)) x ∷ cut_from n (i + 1) xs

length-cut : (n i : ℕ) (xs : List (List ℕ)) → length (cut_from n i xs) ≡ length xs
length-cut n i [] = refl
length-cut n i (x ∷ xs) = omega (arith, length-cut n (i + 1) xs)

scale_cut : (n i : ℕ) (xs : List (List ℕ)) (k : ℕ) → scale_of (cut_from n i xs) k ≡ take (500 * (n - 2 * (i + k))) (scale_of xs k)
scale_cut n i [] k = sym (take_all (500 * (n - 2 * (i + k))) [] (omega arith))
scale_cut n i (x ∷ xs) zero = ap (λ (j : ℕ). take (500 * (n - 2 * j)) x) (omega arith)
scale_cut n i (x ∷ xs) (suc k) = scale_cut n (i + 1) xs k ∙ ap (λ (j : ℕ). take (500 * (n - 2 * j)) (scale_of xs k)) (omega arith)

-- an area as far as the first n pages have it
abbrev pub cut : ℕ → Area → Area
cut n a = record { scales = cut_from n 0 a.scales; parts = take (1000 * (n - 8)) a.parts; table = take (1000 * (n - 9)) a.table }

-- a piece of a front that reaches behind it
piece_take : (m at k : ℕ) (xs : List ℕ) → at + m ≤ k → take m (drop at (take k xs)) ≡ take m (drop at xs)
piece_take m at k xs le = sym (drop-take at m (take k xs)) ∙ ap (drop at) (take-take (at + m) k xs le) ∙ drop-take at m xs

-- numbers that stand once in two lists do so in the fronts of both
front_distinct : (n m : ℕ) (parts table : List ℕ) → AreDistinct (parts ++ pages_named table) → AreDistinct (take n parts ++ pages_named (take m table))
front_distinct n m parts table distinct k =
    let first : count k parts ≡ count k (take n parts) + count k (drop n parts) = ap (count k) (sym (take-append-drop n parts)) ∙ count_both k (take n parts) (drop n parts) in
    let split : pages_named table ≡ pages_named (take m table) ++ pages_named (drop m table) = ap pages_named (sym (take-append-drop m table)) ∙ named_both true (take m table) (drop m table) in
    let second : count k (pages_named table) ≡ count k (pages_named (take m table)) + count k (pages_named (drop m table)) = ap (count k) split ∙ count_both k (pages_named (take m table)) (pages_named (drop m table)) in
    omega (arith, distinct k, count_both k parts (pages_named table), count_both k (take n parts) (pages_named (take m table)), first, second)

front_named : (P : ℕ → Type 0) (n m : ℕ) (parts table : List ℕ) → All P (parts ++ pages_named table) → All P (take n parts ++ pages_named (take m table))
front_named P n m parts table all =
    let split : pages_named table ≡ pages_named (take m table) ++ pages_named (drop m table) = ap pages_named (sym (take-append-drop m table)) ∙ named_both true (take m table) (drop m table) in
    All-append P (take n parts) (pages_named (take m table)) (All-take P n parts (all_front P parts (pages_named table) all))
    (all_front P (pages_named (take m table)) (pages_named (drop m table)) (subst (All P) split (all_rest P parts (pages_named table) all)))

module _ (s : Shape) (image : List ℕ) (r : RootFields) (lawful : IsTrue (is_shape s)) (root : IsRootOn s (header_page r.number) r) (m : ℕ) (a : Area) (spelled : SpellsUpTo s image r m a) where
  -- fewer pages say less
  pub spelled_less : (n : ℕ) → n ≤ m → SpellsUpTo s image r n (cut n a)
  spelled_less n le =
      let less = cut n a in
      let scale : (i : ℕ) → scale_of less.scales i ≡ take (500 * (n - 2 * i)) (scale_of a.scales i) = λ i. scale_cut n 0 a.scales i ∙ ap (λ (j : ℕ). take (500 * (n - 2 * j)) (scale_of a.scales i)) (omega arith) in
      record {
        attributes = length-cut n 0 a.scales ∙ spelled.attributes;
        boundaries = λ i. ap length (scale i) ∙ omega (arith, length-take (500 * (n - 2 * i)) (scale_of a.scales i), spelled.boundaries i, le);
        parts = omega (arith, length-take (1000 * (n - 8)) a.parts, spelled.parts, le);
        numbers = omega (arith, length-take (1000 * (n - 9)) a.table, spelled.numbers, le);
        scales = λ i. subst (λ ys. IsTrue (is_scale ys)) (sym (scale i))
            (front_of_scale (take (500 * (n - 2 * i)) (scale_of a.scales i)) (drop (500 * (n - 2 * i)) (scale_of a.scales i)) (subst (λ ys. IsTrue (is_scale ys)) (sym (take-append-drop (500 * (n - 2 * i)) (scale_of a.scales i))) (spelled.scales i)));
        named = front_named (λ p. p < s.pages) (1000 * (n - 8)) (1000 * (n - 9)) a.parts a.table spelled.named;
        distinct = front_distinct (1000 * (n - 8)) (1000 * (n - 9)) a.parts a.table spelled.distinct;
        pages = λ i lt. spelled.pages i (omega (arith, lt, le)) ∙ (elim (cases_lt i 8) [
          | inl first ↦
              let whole = scale_of a.scales (i / 2) in
              let short : length whole ≤ 1000 = omega (arith, spelled.boundaries (i / 2), few s image r lawful root (i / 2)) in
              let part = take (500 * (n - 2 * (i / 2))) whole in
              let halves : half_of_scale (i % 2) whole ≡ half_of_scale (i % 2) part = half_piece (i % 2) whole (omega arith) short
              ∙ sym (half_piece (i % 2) part (omega arith) (omega (arith, length-take (500 * (n - 2 * (i / 2))) whole, short)) ∙ piece_take 500 (500 * (i % 2)) (500 * (n - 2 * (i / 2))) whole (omega (arith, lt))) in
              area_spelling-scale r.number a i first ∙ ap (scale_spelling r.number i) (halves ∙ ap (half_of_scale (i % 2)) (sym (scale (i / 2)))) ∙ sym (area_spelling-scale r.number less i first)
          | inr later ↦ elim (cases_eq i 8) [
            | inl eighth ↦
                let w = within-limits s lawful in
                let all : take (1000 * (n - 8)) a.parts ≡ a.parts = take_all (1000 * (n - 8)) a.parts (omega (arith, spelled.parts, root.parts, root.few_cells, w.few_cells, lt, eighth)) in
                subst (λ (j : ℕ). area_spelling r.number a j ≡ area_spelling r.number less j) (sym eighth) (ap (list_spelling r.number 8) (sym all))
            | inr other ↦
                let ninth : 9 ≤ i = omega (arith, later, other) in
                area_spelling-table r.number a i ninth ∙ ap (bucket_table_spelling r.number i) (sym (piece_take 1000 (1000 * (i - 9)) (1000 * (n - 9)) a.table (omega (arith, lt, ninth)))) ∙ sym (area_spelling-table r.number less i ninth)
          ]
        ]);
      }

-- where the first m pages are spelled, none of them is the first that is not
pub none_bad : (s : Shape) (image : List ℕ) (r : RootFields) (a : Area) → IsTrue (is_shape s) → IsRootOn s (header_page r.number) r → (m : ℕ) → m ≤ area_pages s → HasAreaUpTo s image r m a
    → (n : ℕ) → n < m → (more : Area) × HasAreaUpTo s image r (n + 1) more
none_bad s image r a lawful root m most all n lt = elim (cases_eq (n + 1) m) [
  | inl last ↦ (a, subst (λ (k : ℕ). HasAreaUpTo s image r k a) (sym last) all)
  | inr other ↦ (cut (n + 1) a, record { spelled = spelled_less s image r lawful root m a all.spelled (n + 1) (omega (arith, lt)); buckets = λ le. absurd (omega (arith, le, lt, most, other)) })
]
