-- How many bucket numbers the front of a table has.
use Rattle.std.proofs.Common.{◌≡◌, ◌≢◌, ◌<◌, ◌+◌, ℕ, List, [], map, length, slice_index, take, get_or, not, eqb, sym, ◌∙◌, arith}
use Rattle.std.proofs.lemmas.List.Filters.{length-filter_more}
use Rattle.std.proofs.lemmas.List.{get_or-map, ext_get_or, length-map}
use Rattle.grid_model.specs.Scales.{scale_of}
use Rattle.grid_model.specs.Lawful.{nowhere, pages_named}

-- one more
pub count_more : (xs : List ℕ) (i : ℕ) → i < length xs → get_or xs i 0 ≢ 4294967295 → length (pages_named (take (i + 1) xs)) ≡ length (pages_named (take i xs)) + 1
unfolding nowhere
count_more xs i lt other = grind (arith, length-filter_more (λ p. not (eqb p 4294967295)) xs i 0 lt)

-- and none more
pub count_same : (xs : List ℕ) (i : ℕ) → i < length xs → get_or xs i 0 ≡ 4294967295 → length (pages_named (take (i + 1) xs)) ≡ length (pages_named (take i xs))
unfolding nowhere
count_same xs i lt same = grind (arith, length-filter_more (λ p. not (eqb p 4294967295)) xs i 0 lt)

-- the lengths of lists, one behind the other
pub lengths_filled : (xss : List (List ℕ)) (ns : List ℕ) → length ns ≡ length xss → ((k : ℕ) → k < length ns → slice_index ns k ≡ length (scale_of xss k)) → ns ≡ map length xss
lengths_filled xss ns count each =
    ext_get_or 0 ns (map length xss) (count ∙ sym (length-map xss length)) (λ k lt.
    each k lt ∙ sym (get_or-map length xss k [] 0 (omega (arith, lt, count))))
