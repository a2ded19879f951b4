-- Where an item stands in lists of one length, appended.
use Rattle.std.proofs.Common.{◌≡◌, ◌∙◌, ℕ, zero, suc, ◌+◌, ◌*◌, ◌<◌, ◌++◌, List, length, flat_map, get_or, sym, ap, arith, append_assoc, length-append}
use Rattle.std.specs.List.{range_with_len}
use Rattle.std.proofs.lemmas.List.{append-nil, get_or_append_left, get_or-append-add}

module _ {X : Type 0} (f : ℕ → List X) where
  -- one list more at the end
  pub flat_map-more : (n a j : ℕ) → a + n ≡ j → flat_map f (range_with_len a (suc n)) ≡ flat_map f (range_with_len a n) ++ f j
  flat_map-more zero a j e = let here : a ≡ j = omega arith in append-nil (f a) ∙ ap f here
  flat_map-more (suc n) a j e =
      let behind : a + 1 + n ≡ j = omega arith in
      ap (λ ls. f a ++ ls) (flat_map-more n (a + 1) j behind) ∙ sym (append_assoc (f a) (flat_map f (range_with_len (a + 1) n)) (f j))

  module _ (m : ℕ) (long : (i : ℕ) → length (f i) ≡ m) where
    -- as many items as lists times their length
    pub length-flat : (n a : ℕ) → length (flat_map f (range_with_len a n)) ≡ n * m
    length-flat zero a = omega arith
    length-flat (suc n) a = omega (arith, length-append (f a) (flat_map f (range_with_len (a + 1) n)), long a, length-flat n (a + 1))

    -- item c of list r stands behind the lists before it
    pub get_or-flat : (n a r c : ℕ) (d : X) → r < n → c < m → get_or (flat_map f (range_with_len a n)) (r * m + c) d ≡ get_or (f (a + r)) c d
    get_or-flat zero a r c d h k = absurd (omega arith)
    get_or-flat (suc n) a zero c d h k =
        let rest = flat_map f (range_with_len (a + 1) n) in
        let place : 0 * m + c ≡ c = omega arith in
        let within : c < length (f a) = omega (arith, long a) in
        let here : a ≡ a + 0 = omega arith in
        ap (λ i. get_or (f a ++ rest) i d) place ∙ get_or_append_left (f a) rest d c within ∙ ap (λ i. get_or (f i) c d) here
    get_or-flat (suc n) a (suc r) c d h k =
        let rest = flat_map f (range_with_len (a + 1) n) in
        let place : suc r * m + c ≡ length (f a) + (r * m + c) = omega (arith, long a) in
        let fewer : r < n = omega arith in
        let there : a + 1 + r ≡ a + suc r = omega arith in
        ap (λ i. get_or (f a ++ rest) i d) place ∙ get_or-append-add (f a) rest (r * m + c) d ∙ get_or-flat n (a + 1) r c d fewer k ∙ ap (λ i. get_or (f i) c d) there
