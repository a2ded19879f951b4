-- The steps of a patch: one cell more gets the bucket.
use Rattle.std.proofs.Common.{◌≡◌, ◌<◌, ◌≤◌, ◌+◌, ◌-◌, ◌*◌, ◌^◌, ◌⊎◌, ◌≢◌, inl, inr, ℕ, zero, suc, List, [], ◌++◌, length, take, drop, get_or, slice_index, set, refl, sym, ap, subst, ◌∙◌, arith}
use Rattle.std.specs.Prelude.{Bool, true, cond, ◌||◌, ◌==◌, IsTrue}
use Rattle.std.proofs.lemmas.List.{drop_at, get_or-drop, get_or-take, length-take-le, length-set, get_or-set_other, same_lists, get_or_default, get_or_append_left, get_or-append_right}
use Rattle.std.proofs.lemmas.List.Folds.{list_any_more}
use Rattle.std.proofs.lemmas.List.FromFn.{get_or-map-range_with_len, length-map-range_with_len}
use Rattle.std.proofs.lemmas.Bool.Decides.{eqb_tells}
use Rattle.std.proofs.Math.Bool.{or-true, or-false}
use Rattle.std.proofs.lemmas.Grind.{get_or-set_at}
use Rattle.byteorder.specs.Endian.{big_from}
use Rattle.page_fields.specs.Fields.{number, bytes_of, replaced}
use Rattle.page_fields.proofs.BytesOf.{length-bytes_of, number-back}
use Rattle.grid_model.specs.Lists.{is_among}
use Rattle.directory_pages.specs.Spelling.{SpellsPart, bucket_in, IsBeside}
use Rattle.directory_pages.specs.Patching.{bucket_after, patched, IsBesideCells}

pub length-patched : (is : List ℕ) (x : ℕ) (cells : List ℕ) → length (patched is x cells) ≡ length cells
unfolding patched
length-patched is x cells = length-map-range_with_len (bucket_after is x cells) 0 (length cells)

-- the bucket of each cell after a patch
pub patched-at : (is : List ℕ) (x : ℕ) (cells : List ℕ) (k d : ℕ) → k < length cells → get_or (patched is x cells) k d ≡ bucket_after is x cells k
unfolding patched
patched-at is x cells k d lt = get_or-map-range_with_len (bucket_after is x cells) 0 (length cells) k k d lt (omega arith)

-- a patch of no cell changes nothing
pub patched_none : (x : ℕ) (cells : List ℕ) → patched [] x cells ≡ cells
patched_none x cells =
    same_lists (patched [] x cells) cells (length-patched [] x cells) (λ k d h.
    let lt : k < length cells = omega (arith, h, length-patched [] x cells) in
    patched-at [] x cells k d lt ∙ get_or_default cells k 0 d lt)

-- one cell more
pub patched_more : (is more : List ℕ) (x j : ℕ) (cells : List ℕ) → ((k : ℕ) → is_among more k ≡ (is_among is k || j == k)) → j < length cells → patched more x cells ≡ set (patched is x cells) j x
patched_more is more x j cells e lt =
    let long = length-patched is x cells in
    let both : length (patched more x cells) ≡ length (set (patched is x cells) j x) = length-patched more x cells ∙ sym (length-set (patched is x cells) j x ∙ long) in
    same_lists (patched more x cells) (set (patched is x cells) j x) both (λ k d h.
    let low : k < length cells = omega (arith, h, length-patched more x cells) in
    let v = slice_index cells k in
    let was = is_among is k in
    let now : get_or (patched more x cells) k d ≡ cond (was || j == k) x v = patched-at more x cells k d low ∙ ap (λ (b : Bool). cond b x v) (e k) in
    now
    ∙ elim (eqb_tells j k) [
      | inl p ↦ ap (λ (b : Bool). cond (was || b) x v) p.0 ∙ ap (λ (b : Bool). cond b x v) (or-true was) ∙ sym (get_or-set_at (patched is x cells) j k x d (sym p.1) (omega arith))
      | inr p ↦
          let other : k ≢ j = λ same. p.1 (sym same) in
          ap (λ (b : Bool). cond (was || b) x v) p.0 ∙ ap (λ (b : Bool). cond b x v) (or-false was) ∙ sym (get_or-set_other (patched is x cells) j k x d other ∙ patched-at is x cells k d low)
    ])

-- the number that was written stands at its offset
pub written_there : (at x : ℕ) (old new : List ℕ) → new ≡ replaced at (bytes_of 4 x) old → at ≤ length old → x < 2 ^ 32 → number 4 (drop at new) ≡ x
written_there at x old new e le fit =
    let rest = drop (at + length (bytes_of 4 x)) old in
    ap (number 4) (ap (drop at) e ∙ drop_at (take at old) (bytes_of 4 x ++ rest) at (length-take-le at old le)) ∙ number-back 4 x rest (omega arith)

-- the other bytes are as they were
pub byte_kept : (at n k : ℕ) (bytes old new : List ℕ) → new ≡ replaced at bytes old → length bytes ≡ n → at + n ≤ length old → (k < at) ⊎ (at + n ≤ k) → slice_index new k ≡ slice_index old k
byte_kept at n k bytes old new e len le side =
    let front : length (take at old) ≡ at = length-take-le at old (omega arith) in
    let rest = drop (at + length bytes) old in
    ap (λ (xs : List ℕ). get_or xs k 0) e
    ∙ elim side [
      | inl lt ↦ get_or_append_left (take at old) (bytes ++ rest) 0 k (omega arith) ∙ get_or-take at old k 0 lt
      | inr ge ↦
          get_or-append_right (take at old) (bytes ++ rest) at k 0 front (omega arith)
          ∙ get_or-append_right bytes rest n (k - at) 0 len (omega arith)
          ∙ get_or-drop (at + length bytes) old (k - at - n) 0
          ∙ ap (λ (i : ℕ). get_or old i 0) (omega arith)
    ]

number_same : (i n : ℕ) (xs ys : List ℕ) → ((k : ℕ) → k < i + n → slice_index xs k ≡ slice_index ys k) → big_from i n xs ≡ big_from i n ys
number_same i zero xs ys same = refl
number_same i (suc n) xs ys same =
    let first = same i (omega arith) in
    let rest = number_same (suc i) n xs ys (λ k h. same k (omega (arith, h))) in
    rw (first, rest) refl

-- another cell has the bucket that it had
pub bucket_kept : (i j x : ℕ) (old new : List ℕ) → new ≡ replaced (96 + 4 * j) (bytes_of 4 x) old → 96 + 4 * j + 4 ≤ length old → i ≢ j → bucket_in i new ≡ bucket_in i old
unfolding number
bucket_kept i j x old new e le other =
    number_same 0 4 (drop (96 + 4 * i) new) (drop (96 + 4 * i) old) (λ k h.
    let side : (96 + 4 * i + k < 96 + 4 * j) ⊎ (96 + 4 * j + 4 ≤ 96 + 4 * i + k) = grind arith in
    get_or-drop (96 + 4 * i) new k 0 ∙ byte_kept (96 + 4 * j) 4 (96 + 4 * i + k) (bytes_of 4 x) old new e (length-bytes_of 4 x) le side ∙ sym (get_or-drop (96 + 4 * i) old k 0))

-- one more cell is named
among_more : (is : List ℕ) (n : ℕ) → n < length is → (k : ℕ) → is_among (take (n + 1) is) k ≡ (is_among (take n is) k || slice_index is n == k)
among_more is n lt k = list_any_more (λ m. m == k) is n 0 lt

-- each cell that is named has the bucket
pub named_more : (is : List ℕ) (n x : ℕ) (old new : List ℕ) → n < length is → new ≡ replaced (96 + 4 * slice_index is n) (bytes_of 4 x) old → 96 + 4 * slice_index is n + 4 ≤ length old → x < 2 ^ 32
    → ((i : ℕ) → IsTrue (is_among (take n is) i) → bucket_in i old ≡ x) → (i : ℕ) → IsTrue (is_among (take (n + 1) is) i) → bucket_in i new ≡ x
named_more is n x old new lt e le fit before i among =
    let j = slice_index is n in
    elim (eqb_tells j i) [
      | inl p ↦ subst (λ (k : ℕ). bucket_in k new ≡ x) p.1 (written_there (96 + 4 * j) x old new e (omega arith) fit)
      | inr p ↦
          let other : i ≢ j = λ same. p.1 (sym same) in
          let was : is_among (take n is) i ≡ true = sym (or-false (is_among (take n is) i)) ∙ ap (λ (b : Bool). is_among (take n is) i || b) (sym p.0) ∙ sym (among_more is n lt i) ∙ among in
          bucket_kept i j x old new e le other ∙ before i was
    ]

outside_front : (is : List ℕ) (n k : ℕ) → n < length is → IsBesideCells (take (n + 1) is) k → IsBesideCells (take n is) k
outside_front is n k lt out j h =
    let low : j < n = omega (arith, h, length-take-le n is (omega arith)) in
    let same : slice_index (take (n + 1) is) j ≡ slice_index (take n is) j = get_or-take (n + 1) is j 0 (omega arith) ∙ sym (get_or-take n is j 0 low) in
    subst (λ (i : ℕ). IsBeside i k) same (out j (omega (arith, length-take-le (n + 1) is (omega arith))))

-- each byte outside of the cells that are named is as it was
pub others_more : (is : List ℕ) (n x : ℕ) (first old new : List ℕ) → n < length is → new ≡ replaced (96 + 4 * slice_index is n) (bytes_of 4 x) old → 96 + 4 * slice_index is n + 4 ≤ length old
    → ((k : ℕ) → IsBesideCells (take n is) k → slice_index old k ≡ slice_index first k) → (k : ℕ) → IsBesideCells (take (n + 1) is) k → slice_index new k ≡ slice_index first k
others_more is n x first old new lt e le before k out =
    let j = slice_index is n in
    let here = subst (λ (i : ℕ). IsBeside i k) (get_or-take (n + 1) is n 0 (omega arith)) (out n (omega (arith, length-take-le (n + 1) is (omega arith)))) in
    byte_kept (96 + 4 * j) 4 k (bytes_of 4 x) old new e (length-bytes_of 4 x) le here ∙ before k (outside_front is n k lt out)

-- the cells that are spelled
pub cells_more : (is : List ℕ) (n x part : ℕ) (new cells : List ℕ) → n < length is → slice_index is n < length cells → SpellsPart part new (set (patched (take n is) x cells) (slice_index is n) x) → SpellsPart part new (patched (take (n + 1) is) x cells)
cells_more is n x part new cells lt low s = subst (SpellsPart part new) (sym (patched_more (take n is) (take (n + 1) is) x (slice_index is n) cells (among_more is n lt) low)) s
