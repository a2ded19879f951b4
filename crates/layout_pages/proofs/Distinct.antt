-- Numbers that stand once, and where the pages that a table area names stand.
use Rattle.std.proofs.Common.{◌≡◌, ◌≤◌, ◌+◌, ◌==◌, ◌||◌, ◌++◌, ℕ, Bool, true, false, cond, not, List, [], ◌∷◌, map, filter, length, refl, sym, ap, ◌∙◌, arith, true≢false, eq-eqb}
use Rattle.std.specs.Prelude.{slice_index}
use Rattle.std.proofs.Math.Bool.{or_comm}
use Rattle.std.proofs.lemmas.List.Elements.{filter-append}
use Rattle.std.proofs.lemmas.List.FromFn.{fill_by_all}
use Rattle.std.proofs.lemmas.List.Folds.{list_any-append}
use Rattle.std.proofs.lemmas.List.{length-append}
use Rattle.grid_model.specs.Lawful.{Area, pages_named, nowhere}
use Rattle.grid_model.specs.Lists.{below, is_among, AreDistinct}
use Rattle.grid_model.specs.Images.{numbers_of}
use Rattle.grid_model.proofs.Counts.{count}
use Rattle.page_states.specs.Changes.{Publication, pages_of}
use Rattle.layout_pages.specs.Steps.{bucket_publication, part_publication, named_publications}

-- a number that is among some is counted
counted : (ns : List ℕ) (n : ℕ) → is_among ns n ≡ true → 1 ≤ count n ns
counted [] n h = absurd (true≢false (sym h))
counted (m ∷ ns) n h = by (m == n) h (counted ns n)
  where
    by : (t : Bool) → (t || is_among ns n) ≡ true → (is_among ns n ≡ true → 1 ≤ count n ns) → 1 ≤ length (cond t (m ∷ filter (λ i. i == n) ns) (filter (λ i. i == n) ns))
    by true e rest = omega arith
    by false e rest = rest e

more : (t : Bool) (m : ℕ) (ns : List ℕ) → length (cond t (m ∷ ns) ns) ≡ cond t 1 0 + length ns
more true m ns = omega arith
more false m ns = omega arith

-- of numbers that stand once the first is not among the others
pub first-once : (p : ℕ) (ps : List ℕ) → AreDistinct (p ∷ ps) → is_among ps p ≡ false
first-once p ps once = by (is_among ps p) refl
  where
    here : (p == p) ≡ true
    here = eq-eqb p p refl

    by : (b : Bool) → is_among ps p ≡ b → b ≡ false
    by false e = refl
    by true e =
        let both : count p (p ∷ ps) ≡ cond (p == p) 1 0 + count p ps = more (p == p) p (filter (λ i. i == p) ps) in
        let one : ◌≡◌ {A = ℕ} (cond (p == p) 1 0) 1 = ap (λ (b : Bool). cond {A = ℕ} b 1 0) here in
        absurd (omega (arith, both, one, counted ps p e, once p))

-- and the others stand once
pub rest-once : (p : ℕ) (ps : List ℕ) → AreDistinct (p ∷ ps) → AreDistinct ps
rest-once p ps once n = omega (arith, more (p == n) p (filter (λ i. i == n) ps), once n)

-- two lists in the other order stand once as they did
pub swapped-once : (ps qs : List ℕ) → AreDistinct (ps ++ qs) → AreDistinct (qs ++ ps)
swapped-once ps qs once n =
    omega (
      arith,
      ap length (filter-append (λ m. m == n) ps qs),
      length-append (filter (λ m. m == n) ps) (filter (λ m. m == n) qs),
      ap length (filter-append (λ m. m == n) qs ps),
      length-append (filter (λ m. m == n) qs) (filter (λ m. m == n) ps),
      once n,
    )

-- and have the same numbers
pub swapped-among : (ps qs : List ℕ) (n : ℕ) → is_among (ps ++ qs) n ≡ is_among (qs ++ ps) n
swapped-among ps qs n = list_any-append (λ m. m == n) ps qs ∙ or_comm (is_among ps n) (is_among qs n) ∙ sym (list_any-append (λ m. m == n) qs ps)

-- a list is its entries by their indexes
by-index : (ns : List ℕ) → ns ≡ map (slice_index ns) (below (length ns))
by-index ns = fill_by_all (slice_index ns) ns (length ns) 0 refl (λ k low. refl)

-- the entries that pass are those of the indexes whose entries pass
filter-by : (f : ℕ → ℕ) (p : ℕ → Bool) (ns : List ℕ) → map f (filter (λ n. p (f n)) ns) ≡ filter p (map f ns)
filter-by f p [] = refl
filter-by f p (n ∷ ns) = by (p (f n)) (filter-by f p ns)
  where
    by : (t : Bool) → map f (filter (λ m. p (f m)) ns) ≡ filter p (map f ns) → map f (cond t (n ∷ filter (λ m. p (f m)) ns) (filter (λ m. p (f m)) ns)) ≡ cond t (f n ∷ filter p (map f ns)) (filter p (map f ns))
    by true rest = ap (λ (ms : List ℕ). f n ∷ ms) rest
    by false rest = rest

-- the pages of a table are those of its numbers
table-pages : (table : List ℕ) → map (slice_index table) (numbers_of table) ≡ pages_named table
table-pages table = filter-by (slice_index table) (λ p. not (p == nowhere)) (below (length table)) ∙ ap (filter (λ p. not (p == nowhere))) (sym (by-index table))

pages-append : (xs ys : List Publication) → pages_of (xs ++ ys) ≡ pages_of xs ++ pages_of ys
pages-append [] ys = refl
pages-append (x ∷ xs) ys = ap (λ (ps : List ℕ). x.page ∷ ps) (pages-append xs ys)

pages-of-each : (f : ℕ → Publication) (ns : List ℕ) → pages_of (map f ns) ≡ map (λ n. (f n).page) ns
pages-of-each f [] = refl
pages-of-each f (n ∷ ns) = ap (λ (ps : List ℕ). (f n).page ∷ ps) (pages-of-each f ns)

-- the pages of what an area names are the pages that it names
pub named-pages : (a : Area) → pages_of (named_publications a) ≡ pages_named a.table ++ a.parts
named-pages a =
    pages-append (map (bucket_publication a.table) (numbers_of a.table)) (map (part_publication a.parts) (below (length a.parts)))
    ∙ (λ i. pages-of-each (bucket_publication a.table) (numbers_of a.table) i ++ pages-of-each (part_publication a.parts) (below (length a.parts)) i)
    ∙ (λ i. table-pages a.table i ++ sym (by-index a.parts) i)
