-- The pages that a table or a list names, by number.
use Rattle.std.proofs.Common.{◌≡◌, ℕ, zero, suc, ◌+◌, ◌<◌, ◌≤◌, List, [], ◌∷◌, ◌++◌, Bool, true, false, cond, append-nil, refl, sym, ◌∙◌, ap, subst, map, filter, length, take, length-append, take_all, arith, All, eqb-true, eq-eqb}
use Rattle.std.specs.Prelude.{◌≢◌, ◌==◌, not, slice_index, slice_index_or}
use Rattle.std.specs.List.{range_with_len}
use Rattle.std.proofs.Math.Seq.{take-suc}
use Rattle.std.proofs.lemmas.Bool.{ne_eqb}
use Rattle.std.proofs.lemmas.List.{length-map}
use Rattle.std.proofs.lemmas.List.Elements.{filter-append}
use Rattle.grid_model.specs.Lists.{below, is_among}
use Rattle.grid_model.specs.Lawful.{nowhere, pages_named}
use Rattle.grid_model.proofs.Boundaries.{among-at, among-index}
use Rattle.grid_model.proofs.Counts.{count, count-absent}
use Rattle.directory_changes.proofs.Counted.{filter-more}
use Rattle.file_state.specs.Openings.{is_named}

-- no number of a page is nowhere
pub low_nowhere : (n p : ℕ) → n ≤ 65536 → p < n → p < nowhere
unfolding nowhere
low_nowhere n p few low = omega (arith, few, low)

map_one : (f : ℕ → ℕ) (ns : List ℕ) (n : ℕ) → map f (ns ++ n ∷ []) ≡ map f ns ++ f n ∷ []
map_one f [] n = refl
map_one f (m ∷ ns) n = ap (λ (xs : List ℕ). f m ∷ xs) (map_one f ns n)

-- what is named up to an entry, and with the next one
pub named_next : (t : List ℕ) (n : ℕ) → n < length t → pages_named (take (n + 1) t) ≡ pages_named (take n t) ++ cond (is_named t n) (slice_index t n ∷ []) []
named_next t n low =
    let next : n + 1 ≡ suc n = omega arith in
    ap (λ (k : ℕ). pages_named (take k t)) next ∙ ap pages_named (take-suc t n 0 low) ∙ filter-append (λ p. not (p == nowhere)) (take n t) (slice_index t n ∷ [])

pub named_more : (t : List ℕ) (n : ℕ) → n < length t → length (pages_named (take (n + 1) t)) ≡ length (pages_named (take n t)) + cond (is_named t n) 1 0
named_more t n low = ap length (named_next t n low) ∙ length-append (pages_named (take n t)) (cond (is_named t n) (slice_index t n ∷ []) []) ∙ ap (λ (k : ℕ). length (pages_named (take n t)) + k) (by (is_named t n))
  where
    by : (b : Bool) → length (cond b (slice_index t n ∷ []) []) ≡ cond b 1 0
    by true = refl
    by false = refl

pub named_few : (t : List ℕ) (n : ℕ) → n ≤ length t → length (pages_named (take n t)) ≤ n
named_few t zero low = omega arith
named_few t (suc n) low =
    let next : suc n ≡ n + 1 = omega arith in
    let more : length (pages_named (take (n + 1) t)) ≡ length (pages_named (take n t)) + cond (is_named t n) 1 0 = named_more t n (omega (arith, low)) in
    let same : length (pages_named (take (suc n) t)) ≡ length (pages_named (take (n + 1) t)) = ap (λ (k : ℕ). length (pages_named (take k t))) next in
    omega (arith, named_few t n (omega (arith, low)), more, same, small (is_named t n))
  where
    small : (b : Bool) → cond {A = ℕ} b 1 0 ≤ 1
    small true = omega arith
    small false = omega arith

-- the entries of the numbers that are named are the pages that are named
named_taken : (t : List ℕ) (n : ℕ) → n ≤ length t → map (slice_index t) (filter (is_named t) (below n)) ≡ pages_named (take n t)
named_taken t zero low = refl
named_taken t (suc n) low =
    let next : suc n ≡ n + 1 = omega arith in
    ap (λ (k : ℕ). map (slice_index t) (filter (is_named t) (below k))) next
    ∙ ap (map (slice_index t)) (filter-more (is_named t) n)
    ∙ by (is_named t n)
    ∙ ap (λ (xs : List ℕ). xs ++ cond (is_named t n) (slice_index t n ∷ []) []) (named_taken t n (omega (arith, low)))
    ∙ sym (named_next t n (omega (arith, low)))
    ∙ ap (λ (k : ℕ). pages_named (take k t)) (sym next)
  where
    by : (b : Bool) → map (slice_index t) (filter (is_named t) (below n) ++ cond b (n ∷ []) []) ≡ map (slice_index t) (filter (is_named t) (below n)) ++ cond b (slice_index t n ∷ []) []
    by true = map_one (slice_index t) (filter (is_named t) (below n)) n
    by false = ap (map (slice_index t)) (append-nil (filter (is_named t) (below n))) ∙ sym (append-nil (map (slice_index t) (filter (is_named t) (below n))))

pub named_pages : (t : List ℕ) → map (slice_index t) (filter (is_named t) (below (length t))) ≡ pages_named t
named_pages t = named_taken t (length t) (omega arith) ∙ ap pages_named (take_all (length t) t (omega arith))

pub named_count : (t : List ℕ) → length (filter (is_named t) (below (length t))) ≡ length (pages_named t)
named_count t = sym (length-map (filter (is_named t) (below (length t))) (slice_index t)) ∙ ap length (named_pages t)

range_more : (a n : ℕ) → range_with_len a (suc n) ≡ range_with_len a n ++ (a + n) ∷ []
range_more a zero = ap (λ (x : ℕ). x ∷ []) (omega arith)
range_more a (suc n) = ap (λ (xs : List ℕ). a ∷ xs) (range_more (a + 1) n ∙ ap (λ (x : ℕ). range_with_len (a + 1) n ++ x ∷ []) (omega arith))

below_more : (n : ℕ) → below (suc n) ≡ below n ++ n ∷ []
below_more n = range_more 0 n ∙ ap (λ (x : ℕ). below n ++ x ∷ []) (omega arith)

-- all entries, by number
pub all_entries : (xs : List ℕ) (n : ℕ) → n ≤ length xs → map (slice_index xs) (below n) ≡ take n xs
all_entries xs zero low = refl
all_entries xs (suc n) low =
    ap (map (slice_index xs)) (below_more n)
    ∙ map_one (slice_index xs) (below n) n
    ∙ ap (λ (ys : List ℕ). ys ++ slice_index xs n ∷ []) (all_entries xs n (omega (arith, low)))
    ∙ sym (take-suc xs n 0 (omega (arith, low)))

-- an entry that is named is among the pages that are named
more_than_once : (t : Bool) (m : ℕ) (ns : List ℕ) → length ns ≤ length (cond t (m ∷ ns) ns)
more_than_once true m ns = omega arith
more_than_once false m ns = omega arith

-- a number that no two indices have stands once at most
pub at_most_once : (q : ℕ) (ns : List ℕ) → ((i j : ℕ) → i < j → j < length ns → slice_index ns i ≡ q → slice_index ns j ≡ q → ⊥) → count q ns ≤ 1
at_most_once q [] h = omega arith
at_most_once q (m ∷ ms) h = by (m == q) refl (at_most_once q ms (λ i j low high e f. h (suc i) (suc j) (omega (arith, low)) (omega (arith, high)) e f))
  where
    none : m ≡ q → (t : Bool) → is_among ms q ≡ t → count q ms ≡ 0
    none e false is = count-absent q ms is
    none e true is = let w = among-index ms q is in absurd (h 0 (suc w.0) (omega arith) (omega (arith, w.1)) e w.2)

    by : (t : Bool) → (m == q) ≡ t → count q ms ≤ 1 → length (cond t (m ∷ filter (λ k. k == q) ms) (filter (λ k. k == q) ms)) ≤ 1
    by true e rest = omega (arith, none (eqb-true m q e) (is_among ms q) refl)
    by false e rest = rest

-- and one that two indices have stands there twice
pub once_there : (q : ℕ) (ns : List ℕ) (i : ℕ) → i < length ns → slice_index ns i ≡ q → 1 ≤ count q ns
once_there q [] i low e = absurd (omega (arith, low))
once_there q (m ∷ ms) zero low e = subst (λ (t : Bool). 1 ≤ length (cond t (m ∷ filter (λ k. k == q) ms) (filter (λ k. k == q) ms))) (sym (eq-eqb m q e)) (omega arith)
once_there q (m ∷ ms) (suc i) low e = omega (arith, once_there q ms i (omega (arith, low)) e, more_than_once (m == q) m (filter (λ k. k == q) ms))

pub apart : (q : ℕ) (ns : List ℕ) → count q ns ≤ 1 → (i j : ℕ) → i < j → j < length ns → slice_index ns i ≡ q → slice_index ns j ≡ q → ⊥
apart q [] few i j low high e f = omega (arith, high)
apart q (m ∷ ms) few zero zero low high e f = omega (arith, low)
apart q (m ∷ ms) few (suc i) zero low high e f = omega (arith, low)
apart q (m ∷ ms) few zero (suc j) low high e f =
    let two : length (m ∷ filter (λ k. k == q) ms) ≤ 1 = subst (λ (t : Bool). length (cond t (m ∷ filter (λ k. k == q) ms) (filter (λ k. k == q) ms)) ≤ 1) (eq-eqb m q e) few in
    omega (arith, two, once_there q ms j (omega (arith, high)) f)
apart q (m ∷ ms) few (suc i) (suc j) low high e f = apart q ms (omega (arith, few, more_than_once (m == q) m (filter (λ k. k == q) ms))) i j (omega (arith, low)) (omega (arith, high)) e f

-- numbers all among which are below another one are all below it
pub all_low : (n : ℕ) (ns : List ℕ) → ((q : ℕ) → is_among ns q ≡ true → q < n) → All (λ p. p < n) ns
all_low n ns low k d less = low (slice_index_or ns k d) (among-at ns (slice_index_or ns k d) k less (get_or_any ns k d less))
  where
    get_or_any : (xs : List ℕ) (k d : ℕ) → k < length xs → slice_index xs k ≡ slice_index_or xs k d
    get_or_any [] k d less = absurd (omega (arith, less))
    get_or_any (x ∷ xs) zero d less = refl
    get_or_any (x ∷ xs) (suc k) d less = get_or_any xs k d (omega (arith, less))

-- a number that is not nowhere stands as often among the pages that are named
pub count_named : (q : ℕ) (t : List ℕ) → q ≢ nowhere → count q (pages_named t) ≡ count q t
count_named q [] named = refl
count_named q (m ∷ ms) named = by (m == nowhere) refl (count_named q ms named)
  where
    unlike : (m == nowhere) ≡ true → (m == q) ≡ false
    unlike e = ne_eqb m q (λ same. named (sym same ∙ eqb-true m nowhere e))

    by : (t : Bool) → (m == nowhere) ≡ t → count q (pages_named ms) ≡ count q ms → length (filter (λ k. k == q) (cond (not t) (m ∷ pages_named ms) (pages_named ms))) ≡ length (cond (m == q) (m ∷ filter (λ k. k == q) ms) (filter (λ k. k == q) ms))
    by true e rest = rest ∙ sym (ap (λ (b : Bool). length (cond b (m ∷ filter (λ k. k == q) ms) (filter (λ k. k == q) ms))) (unlike e))
    by false e rest = more (m == q) rest
      where
        more : (b : Bool) → count q (pages_named ms) ≡ count q ms → length (cond b (m ∷ filter (λ k. k == q) (pages_named ms)) (filter (λ k. k == q) (pages_named ms))) ≡ length (cond b (m ∷ filter (λ k. k == q) ms) (filter (λ k. k == q) ms))
        more true r = ap suc r
        more false r = r

-- how often a number stands in two lists, one behind the other
pub count_both : (q : ℕ) (xs ys : List ℕ) → count q (xs ++ ys) ≡ count q xs + count q ys
count_both q xs ys = ap length (filter-append (λ m. m == q) xs ys) ∙ length-append (filter (λ m. m == q) xs) (filter (λ m. m == q) ys)
