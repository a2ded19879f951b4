-- Data pages that are marked one after the other.
use Rattle.std.proofs.Common.{◌≡◌, ◌≢◌, ◌<◌, ◌≤◌, ◌⊎◌, inl, inr, ◌+◌, ◌++◌, ℕ, zero, suc, Bool, true, false, cond, not, ◌||◌, ◌==◌, List, [], ◌∷◌, length, get_or, take, drop, filter, refl, sym, ap, ◌∙◌, subst, arith, true≢false, append_assoc, length-append}
use Rattle.std.specs.Prelude.{slice_set, slice_index_or, All}
use Rattle.std.proofs.Math.Bool.{or-true, or-false}
use Rattle.std.proofs.lemmas.Bool.{cases_eq, ne_eqb, eq-eqb}
use Rattle.std.proofs.lemmas.List.{get_or-set_same, get_or-set_other, get_or-append-add, get_or_append_left, take_more, take-append-drop}
use Rattle.std.proofs.lemmas.List.Elements.{filter-append}
use Rattle.std.proofs.lemmas.List.Folds.{list_any-append}
use Rattle.grid_model.specs.Lists.{is_among, AreDistinct}
use Rattle.grid_model.specs.Lawful.{nowhere, pages_named}
use Rattle.grid_model.proofs.Counts.{count, count-absent}
use Rattle.file_roots.specs.Gathering.{AreMarked, named_by}

-- how often a number stands in two lists
pub count_both : (n : ℕ) (xs ys : List ℕ) → count n (xs ++ ys) ≡ count n xs + count n ys
count_both n xs ys = ap length (filter-append (λ m. m == n) xs ys) ∙ length-append (filter (λ m. m == n) xs) (filter (λ m. m == n) ys)

count_first : (n : ℕ) (ys : List ℕ) → 1 ≤ count n (n ∷ ys)
count_first n ys = omega (arith, ap (λ t. length (cond t (n ∷ filter (λ m. m == n) ys) (filter (λ m. m == n) ys))) (eq-eqb n n refl))

-- a number that is among others stands among them once at least
count_among : (n : ℕ) (ns : List ℕ) → is_among ns n ≡ true → 1 ≤ count n ns
count_among n [] h = absurd (true≢false (sym h))
count_among n (m ∷ ns) h = counted (m == n) h (count_among n ns)
  where
    counted : (t : Bool) → (t || is_among ns n) ≡ true → (is_among ns n ≡ true → 1 ≤ count n ns) → 1 ≤ length (cond t (m ∷ filter (λ i. i == n) ns) (filter (λ i. i == n) ns))
    counted true e rest = omega arith
    counted false e rest = rest e

-- a number that is among others is not named again
pub not_named_again : (named more : List ℕ) (p : ℕ) → is_among named p ≡ true → AreDistinct (named ++ p ∷ more) → ⊥
not_named_again named more p among distinct = absurd (omega (arith, distinct p, count_both p named (p ∷ more), count_among p named among, count_first p more))

marked_same : (marks : List Bool) (named : List ℕ) (p q : ℕ) → p < length marks → q ≡ p → slice_index_or (slice_set marks p true) q false ≡ is_among (named ++ p ∷ []) q
marked_same marks named p q lt same =
    ap (λ (k : ℕ). get_or (slice_set marks p true) k false) same ∙ get_or-set_same marks p true false lt
    ∙ sym (list_any-append (λ m. m == q) named (p ∷ []) ∙ ap (λ t. is_among named q || (t || false)) (eq-eqb p q (sym same)) ∙ or-true (is_among named q))

marked_other : (marks : List Bool) (named : List ℕ) (p q : ℕ) → slice_index_or marks q false ≡ is_among named q → q ≢ p → slice_index_or (slice_set marks p true) q false ≡ is_among (named ++ p ∷ []) q
marked_other marks named p q had other =
    get_or-set_other marks p q true false other ∙ had
    ∙ sym (list_any-append (λ m. m == q) named (p ∷ []) ∙ ap (λ t. is_among named q || (t || false)) (ne_eqb p q (λ e. other (sym e))) ∙ or-false (is_among named q))

-- a page more is marked
pub mark_more : (marks : List Bool) (named : List ℕ) (p : ℕ) → p < length marks → get_or marks p false ≡ false → AreMarked marks named → AreMarked (slice_set marks p true) (named ++ p ∷ [])
mark_more marks named p lt clear m = record {
  each = λ q. elim (cases_eq q p) [
    | inl same ↦ marked_same marks named p q lt same
    | inr other ↦ marked_other marks named p q (m.each q) other
  ];
  distinct = λ n. elim (cases_eq n p) [
    | inl same ↦
        let none : count n named ≡ 0 = count-absent n named (sym (m.each n) ∙ ap (λ (k : ℕ). get_or marks k false) same ∙ clear) in
        omega (arith, count_both n named (p ∷ []), none, at_most_one n p)
    | inr other ↦ omega (arith, count_both n named (p ∷ []), m.distinct n, ap (λ t. length (cond t (p ∷ []) [])) (ne_eqb p n (λ e. other (sym e))))
  ];
}
  where
    at_most_one : (n p : ℕ) → count n (p ∷ []) ≤ 1
    at_most_one n p = counted (p == n)
      where
        counted : (t : Bool) → length (cond t (p ∷ []) []) ≤ 1
        counted true = omega arith
        counted false = omega arith

-- a page that is marked is not named again
pub marked_twice : (marks : List Bool) (named more : List ℕ) (p : ℕ) → get_or marks p false ≡ true → AreMarked marks named → AreDistinct (named ++ p ∷ more) → ⊥
marked_twice marks named more p there m distinct = not_named_again named more p (sym (m.each p) ∙ there) distinct

-- one entry names nothing, or the page that it is
pub names_nothing : (entry : ℕ) → entry ≡ 4294967295 → pages_named (entry ∷ []) ≡ []
unfolding nowhere
names_nothing entry is = ap (λ t. cond (not t) (entry ∷ []) []) (eq-eqb entry 4294967295 is)

pub names_itself : (entry : ℕ) → entry ≢ 4294967295 → pages_named (entry ∷ []) ≡ entry ∷ []
unfolding nowhere
names_itself entry other = ap (λ t. cond (not t) (entry ∷ []) []) (ne_eqb entry 4294967295 other)

-- what two lists of entries name
pub named_both : (may : Bool) (xs ys : List ℕ) → named_by may (xs ++ ys) ≡ named_by may xs ++ named_by may ys
named_both true xs ys = filter-append (λ p. not (p == nowhere)) xs ys
named_both false xs ys = refl

-- an entry that is not nowhere names itself
pub entry_named : (may : Bool) (entry : ℕ) → ((may ≡ true) × (entry ≢ 4294967295)) ⊎ (may ≡ false) → named_by may (entry ∷ []) ≡ entry ∷ []
entry_named may entry (inl h) = ap (λ (m : Bool). named_by m (entry ∷ [])) h.0 ∙ names_itself entry h.1
entry_named may entry (inr h) = ap (λ (m : Bool). named_by m (entry ∷ [])) h

pub entry_nowhere : (may : Bool) (entry : ℕ) → may ≡ true → entry ≡ 4294967295 → named_by may (entry ∷ []) ≡ []
entry_nowhere may entry m e = ap (λ (m : Bool). named_by m (entry ∷ [])) m ∙ names_nothing entry e

-- the entries up to one more
pub entries_more : (old xs : List ℕ) (i v : ℕ) → i < length xs → v ≡ get_or xs i 0 → (old ++ take i xs) ++ v ∷ [] ≡ old ++ take (i + 1) xs
entries_more old xs i v lt is = append_assoc old (take i xs) (v ∷ []) ∙ ap (λ (n : ℕ). old ++ (take i xs ++ n ∷ [])) is ∙ ap (λ ys. old ++ ys) (sym (take_more xs i 0 lt))

-- all entries are those up to one more, and the others
pub front_and_rest : (old xs : List ℕ) (i : ℕ) → old ++ xs ≡ (old ++ take i xs) ++ drop i xs
front_and_rest old xs i = ap (λ ys. old ++ ys) (sym (take-append-drop i xs)) ∙ sym (append_assoc old (take i xs) (drop i xs))

-- what entries up to one more name
pub named_more : (may : Bool) (xs : List ℕ) (i v : ℕ) → i < length xs → v ≡ get_or xs i 0 → named_by may (take (i + 1) xs) ≡ named_by may (take i xs) ++ named_by may (v ∷ [])
named_more may xs i v lt is = ap (named_by may) (take_more xs i 0 lt ∙ ap (λ (n : ℕ). take i xs ++ n ∷ []) (sym is)) ∙ named_both may (take i xs) (v ∷ [])

-- what all entries name: those before one, this one, and the others
pub named_split : (may : Bool) (xs : List ℕ) (i v : ℕ) → i < length xs → v ≡ get_or xs i 0 → named_by may xs ≡ named_by may (take i xs) ++ (named_by may (v ∷ []) ++ named_by may (drop (i + 1) xs))
named_split may xs i v lt is =
    ap (named_by may) (sym (take-append-drop (i + 1) xs)) ∙ named_both may (take (i + 1) xs) (drop (i + 1) xs)
    ∙ ap (λ ys. ys ++ named_by may (drop (i + 1) xs)) (named_more may xs i v lt is) ∙ append_assoc (named_by may (take i xs)) (named_by may (v ∷ [])) (named_by may (drop (i + 1) xs))

-- what holds of all holds of the front, of the rest and of the middle
pub all_front : (P : ℕ → Type 0) (xs ys : List ℕ) → All P (xs ++ ys) → All P xs
all_front P xs ys all k d lt = subst P (get_or_append_left xs ys d k lt) (all k d (omega (arith, length-append xs ys, lt)))

pub all_rest : (P : ℕ → Type 0) (xs ys : List ℕ) → All P (xs ++ ys) → All P ys
all_rest P xs ys all k d lt = subst P (get_or-append-add xs ys k d) (all (length xs + k) d (omega (arith, length-append xs ys, lt)))

pub all_middle : (P : ℕ → Type 0) (xs ys zs : List ℕ) → All P (xs ++ (ys ++ zs)) → All P ys
all_middle P xs ys zs all = all_front P ys zs (all_rest P xs (ys ++ zs) all)

-- two stores at one place
pub set_again : {X : Type 0} (xs : List X) (a : ℕ) (u w : X) → slice_set (slice_set xs a u) a w ≡ slice_set xs a w
set_again [] a u w = refl
set_again (x ∷ xs) zero u w = refl
set_again (x ∷ xs) (suc a) u w = ap (λ ys. x ∷ ys) (set_again xs a u w)
