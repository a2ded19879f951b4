-- What is read of an area is all that its pages say.
use Rattle.std.proofs.Common.{◌≡◌, ◌<◌, ◌≤◌, inl, inr, ◌+◌, ◌-◌, ◌*◌, ◌/◌, ◌%◌, ◌++◌, ℕ, List, [], take, drop, IsTrue, sym, ap, ◌∙◌, subst, arith}
use Rattle.std.proofs.lemmas.List.{nil_from_length, take_all, append-nil}
use Rattle.grid_types.specs.declared.shape.Shape.{Shape}
use Rattle.grid_types.specs.Pages.{page_of}
use Rattle.grid_types.specs.Shapes.{is_shape, area_pages, header_page, table_page}
use Rattle.grid_types.proofs.Places.{one-of-two}
use Rattle.grid_model.specs.Scales.{scale_of}
use Rattle.grid_model.specs.Spellings.{RootFields}
use Rattle.grid_model.specs.Lawful.{IsRootOn, Area, pages_named}
use Rattle.root_pages.specs.Areas.{SpellsScale, SpellsList, SpellsTable}
use Rattle.file_roots.specs.Damage.{SpellsUpTo}
use Rattle.file_roots.proofs.Pieces.{piece_last, same_front}
use Rattle.root_pages.proofs.KindsOfPages.{one_scale_spelled, one_list_spelled, one_table_spelled}
use Rattle.file_roots.proofs.Spelled.{scale_there, list_there, table_there}

module _ (s : Shape) (image : List ℕ) (r : RootFields) (lawful : IsTrue (is_shape s)) (root : IsRootOn s (header_page r.number) r) (n : ℕ) (a more : Area)
    (spelled : SpellsUpTo s image r n a) (further : SpellsUpTo s image r (n + 1) more) where
  abbrev page : ℕ → List ℕ
  page i = page_of (table_page s (header_page r.number) i) image

  -- of a scale
  pub scale_agrees : (xs : List ℕ) → n < 8 → SpellsScale r.number n (page n) xs → scale_of more.scales (n / 2) ≡ scale_of a.scales (n / 2) ++ xs
  scale_agrees xs le here =
      let old = scale_of a.scales (n / 2) in
      let all = scale_of more.scales (n / 2) in
      let from = 500 * (n % 2) in
      let last : take 500 (drop from all) ≡ xs = one_scale_spelled r.number n (page n) _ xs (scale_there s image r lawful root (n + 1) more further n (omega arith) le) here in
      let front : take from all ≡ old = elim (one-of-two (n % 2) (omega arith)) [
        | inl even ↦ ap (λ (k : ℕ). take (500 * k) all) even ∙ sym (nil_from_length old (omega (arith, spelled.boundaries (n / 2), even)))
        | inr odd ↦
            let before : n - 1 < n = omega (arith, odd) in
            let mine = scale_there s image r lawful root n a spelled (n - 1) before (omega (arith, le)) in
            let theirs = scale_there s image r lawful root (n + 1) more further (n - 1) (omega arith) (omega (arith, le)) in
            let one : take 500 (drop (500 * ((n - 1) % 2)) (scale_of more.scales ((n - 1) / 2))) ≡ take 500 (drop (500 * ((n - 1) % 2)) (scale_of a.scales ((n - 1) / 2))) = one_scale_spelled r.number (n - 1) (page (n - 1)) _ _ theirs mine in
            let zeroth : (n - 1) % 2 ≡ 0 = omega (arith, odd) in
            let same : (n - 1) / 2 ≡ n / 2 = omega (arith, odd) in
            let at_zero : take 500 (scale_of more.scales ((n - 1) / 2)) ≡ take 500 (scale_of a.scales ((n - 1) / 2)) = subst (λ (k : ℕ). take 500 (drop (500 * k) (scale_of more.scales ((n - 1) / 2))) ≡ take 500 (drop (500 * k) (scale_of a.scales ((n - 1) / 2)))) zeroth one in
            let at_half : take 500 all ≡ take 500 old = subst (λ (k : ℕ). take 500 (scale_of more.scales k) ≡ take 500 (scale_of a.scales k)) same at_zero in
            ap (λ (k : ℕ). take (500 * k) all) odd ∙ at_half ∙ take_all 500 old (omega (arith, spelled.boundaries (n / 2), odd))
      ] in
      piece_last 500 from all (omega (arith, further.boundaries (n / 2))) ∙ ap (λ ys. ys ++ take 500 (drop from all)) front ∙ ap (λ ys. old ++ ys) last

  -- of the list: nothing was named before
  pub list_agrees : (xs : List ℕ) → n ≡ 8 → SpellsList r.number n (page n) xs → more.parts ++ pages_named more.table ≡ (a.parts ++ pages_named a.table) ++ xs
  list_agrees xs eighth here =
      let theirs = list_there s image r lawful root (n + 1) more further (omega (arith, eighth)) in
      let mine : SpellsList r.number 8 (page 8) xs = subst (λ (k : ℕ). SpellsList r.number k (page k) xs) eighth here in
      let list : more.parts ≡ xs = one_list_spelled r.number 8 (page 8) _ xs theirs mine in
      let later : more.table ≡ [] = nil_from_length more.table (omega (arith, further.numbers, eighth)) in
      let parts : a.parts ≡ [] = nil_from_length a.parts (omega (arith, spelled.parts, eighth)) in
      let table : a.table ≡ [] = nil_from_length a.table (omega (arith, spelled.numbers, eighth)) in
      ap (λ ys. ys ++ pages_named more.table) list ∙ ap (λ ys. xs ++ pages_named ys) later ∙ append-nil xs ∙ sym (ap (λ ys. (ys ++ pages_named a.table) ++ xs) parts ∙ ap (λ ys. pages_named ys ++ xs) table)

  -- of the table
  pub table_agrees : (xs : List ℕ) → 9 ≤ n → n < area_pages s → SpellsTable r.number n (page n) xs → (more.parts ≡ a.parts) × (more.table ≡ a.table ++ xs)
  table_agrees xs ninth inside here =
      let from = 1000 * (n - 9) in
      let list = one_list_spelled r.number 8 (page 8) _ _ (list_there s image r lawful root (n + 1) more further (omega (arith, ninth))) (list_there s image r lawful root n a spelled (omega (arith, ninth))) in
      let last : take 1000 (drop from more.table) ≡ xs = one_table_spelled r.number n (page n) _ xs (table_there s image r lawful root (n + 1) more further n (omega arith) ninth inside) here in
      let front : take from more.table ≡ take from a.table = same_front (n - 9) more.table a.table (λ k lt.
      let back : k + 9 - 9 ≡ k = omega arith in
      subst (λ (j : ℕ). take 1000 (drop (1000 * j) more.table) ≡ take 1000 (drop (1000 * j) a.table)) back
      (one_table_spelled r.number (k + 9) (page (k + 9)) _ _
      (table_there s image r lawful root (n + 1) more further (k + 9) (omega (arith, lt)) (omega arith) (omega (arith, lt, inside)))
      (table_there s image r lawful root n a spelled (k + 9) (omega (arith, lt)) (omega arith) (omega (arith, lt, inside))))) in
      let whole : take from a.table ≡ a.table = take_all from a.table (omega (arith, spelled.numbers)) in
      (list, piece_last 1000 from more.table (omega (arith, further.numbers, ninth)) ∙ ap (λ ys. ys ++ take 1000 (drop from more.table)) (front ∙ whole) ∙ ap (λ ys. a.table ++ ys) last)

-- what the pages say of the table is one list
pub one_table_of : (s : Shape) (image : List ℕ) (r : RootFields) (lawful : IsTrue (is_shape s)) (root : IsRootOn s (header_page r.number) r) (n : ℕ) (a b : Area) → n ≤ area_pages s → SpellsUpTo s image r n a → SpellsUpTo s image r n b → a.table ≡ b.table
one_table_of s image r lawful root n a b le x y =
    let from = 1000 * (n - 9) in
    sym (take_all from a.table (omega (arith, x.numbers)))
    ∙ same_front (n - 9) a.table b.table (λ k lt.
    let back : k + 9 - 9 ≡ k = omega arith in
    subst (λ (j : ℕ). take 1000 (drop (1000 * j) a.table) ≡ take 1000 (drop (1000 * j) b.table)) back
    (one_table_spelled r.number (k + 9) (page_of (table_page s (header_page r.number) (k + 9)) image) _ _
    (table_there s image r lawful root n a x (k + 9) (omega (arith, lt)) (omega arith) (omega (arith, lt, le)))
    (table_there s image r lawful root n b y (k + 9) (omega (arith, lt)) (omega arith) (omega (arith, lt, le)))))
    ∙ take_all from b.table (omega (arith, y.numbers))
