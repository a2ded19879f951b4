-- The numbers from one on that pass a test, one after the other.
use Rattle.std.proofs.Common.{◌≡◌, ◌<◌, ◌≤◌, ◌+◌, ◌-◌, ◌++◌, ◌∷◌, [], ℕ, zero, suc, Bool, true, false, cond, List, filter, refl, ap, ◌∙◌, arith}
use Rattle.std.specs.List.{range_with_len}
use Rattle.std.proofs.lemmas.List.Elements.{filter-append}
use Rattle.shadow_directory.proofs.Written.{range-split}

-- the numbers from one on, below another one, that pass
abbrev pub onward : (ℕ → Bool) → ℕ → ℕ → List ℕ
onward t from n = filter t (range_with_len from (n - from))

none-pass : (t : ℕ → Bool) (a n : ℕ) → ((q : ℕ) → a ≤ q → q < a + n → t q ≡ false) → filter t (range_with_len a n) ≡ []
none-pass t a zero h = refl
none-pass t a (suc n) h =
    let here : t a ≡ false = h a (omega arith) (omega arith) in
    let rest : filter t (range_with_len (a + 1) n) ≡ [] = none-pass t (a + 1) n (λ q le lt. h q (omega (arith, le)) (omega (arith, lt))) in
    λ i. cond (here i) (a ∷ rest i) (rest i)

-- where none passes there is none
pub onward-none : (t : ℕ → Bool) (from n : ℕ) → ((q : ℕ) → from ≤ q → t q ≡ false) → onward t from n ≡ []
onward-none t from n none = none-pass t from (n - from) (λ q le lt. none q le)

-- the least one that passes comes first
pub onward-next : (t : ℕ → Bool) (from part n : ℕ) → from ≤ part → part < n → ((q : ℕ) → from ≤ q → q < part → t q ≡ false) → t part ≡ true → onward t from n ≡ part ∷ onward t (part + 1) n
onward-next t from part n le lt none is =
    let k = n - (part + 1) in
    let whole : n - from ≡ (part - from) + suc k = omega (arith, le, lt) in
    let at : from + (part - from) ≡ part = omega (arith, le) in
    ap (λ m. filter t (range_with_len from m)) whole
    ∙ ap (filter t) (range-split from (part - from) (suc k) ∙ ap (λ b. range_with_len from (part - from) ++ range_with_len b (suc k)) at)
    ∙ filter-append t (range_with_len from (part - from)) (range_with_len part (suc k))
    ∙ ap (λ xs. xs ++ filter t (range_with_len part (suc k))) (none-pass t from (part - from) (λ q a b. none q a (omega (arith, b, le))))
    ∙ ap (λ b. cond b (part ∷ filter t (range_with_len (part + 1) k)) (filter t (range_with_len (part + 1) k))) is

-- all of them
pub onward-all : (t : ℕ → Bool) (n : ℕ) → onward t 0 n ≡ filter t (range_with_len 0 n)
onward-all t n = let all : n - 0 ≡ n = omega arith in ap (λ m. filter t (range_with_len 0 m)) all
