-- A word is 0 exactly where its bytes are.
use Rattle.std.proofs.Common.{◌≡◌, ◌<◌, ◌≤◌, ◌+◌, ◌-◌, ◌^◌, ◌⊎◌, inl, inr, refl, ℕ, List, ◌++◌, IsTrue, nat_eq, length, take, drop, replicate, sym, ap, ◌∙◌, arith}
use Rattle.std.proofs.lemmas.List.{take-replicate, length-drop}
use Rattle.page_fields.specs.Fields.{number, bytes_of, AreZeros}
use Rattle.page_fields.proofs.BytesOf.{number-back}
use Rattle.page_fields.proofs.Entries.{AreBytes, bytes-back, drop_fits}
use Rattle.page_fields.proofs.ZeroParts.{zeros_there, zeros_are}

-- the bytes of a word that is 0
pub word_zeros : (w at to : ℕ) (page : List ℕ) → bytes_of w 0 ≡ replicate w 0 → to ≡ at + w → to ≤ 4096 → length page ≡ 4096 → AreBytes page → number w (drop at page) ≡ 0 → AreZeros at to page
word_zeros w at to page none is le long fits e =
    let long_enough : w ≤ length (drop at page) = simp length-drop (omega arith) in
    let back : bytes_of w (number w (drop at page)) ≡ take w (drop at page) = bytes-back w (drop at page) long_enough (drop_fits at page fits) in
    let width : to - at ≡ w = omega arith in
    let zeros : take w (drop at page) ≡ take w (replicate 4096 0) = sym back ∙ ap (bytes_of w) e ∙ none ∙ sym (take-replicate w 4096 0 (omega arith)) in
    zeros_there at to 4096 page le (ap (λ (n : ℕ). take n (drop at page)) width ∙ zeros ∙ ap (λ (n : ℕ). take n (replicate 4096 0)) (sym width))

-- the word of bytes that are 0
pub zeros_word : (w at to : ℕ) (page : List ℕ) → bytes_of w 0 ≡ replicate w 0 → 0 < 256 ^ w → to ≡ at + w → to ≤ length page → AreZeros at to page → number w (drop at page) ≡ 0
zeros_word w at to page none some is le zeros =
    let width : to - at ≡ w = omega arith in
    let spelled : drop at page ≡ bytes_of w 0 ++ drop to page =
    zeros_are at to page (omega arith) le zeros ∙ ap (λ (n : ℕ). replicate n 0 ++ drop to page) width ∙ ap (λ (z : List ℕ). z ++ drop to page) (sym none) in
    ap (number w) spelled ∙ number-back w 0 (drop to page) some

pub two_zeros : bytes_of 2 0 ≡ replicate 2 0
unfolding bytes_of
two_zeros = refl

pub four_zeros : bytes_of 4 0 ≡ replicate 4 0
unfolding bytes_of
four_zeros = refl

pub eight_zeros : bytes_of 8 0 ≡ replicate 8 0
unfolding bytes_of
eight_zeros = refl

pub is_zero : (x : ℕ) → IsTrue (nat_eq x 0) → x ≡ 0
is_zero x h = grind arith

pub zero_is : (x : ℕ) → x ≡ 0 → IsTrue (nat_eq x 0)
zero_is x h = rw h refl

-- a part is 0 where two parts that cover it are
pub covered : (from middle to low : ℕ) (page : List ℕ) → low ≤ middle → AreZeros from middle page → AreZeros low to page → AreZeros from to page
covered from middle to low page le a b i h g =
    elim (below_or_from i middle) [
      | inl lt ↦ a i h lt
      | inr ge ↦ b i (omega (arith, ge, le)) g
    ]
  where
    below_or_from : (i n : ℕ) → (i < n) ⊎ (n ≤ i)
    below_or_from i n = grind arith

-- a part starts with a word that is 0
pub starts_zero : (w from to first : ℕ) (page : List ℕ) → bytes_of w 0 ≡ replicate w 0 → 0 < 256 ^ w → from + w ≤ to → to ≤ 4096 → length page ≡ 4096 → first ≡ number w (drop from page) → AreZeros from to page → first ≡ 0
starts_zero w from to first page none some room le long is zeros =
    is ∙ zeros_word w from (from + w) page none some refl (omega (arith, long)) (λ i low high. zeros i low (omega (arith, high, room)))

-- a part ends with a word that is 0
pub ends_zero : (w from to last : ℕ) (page : List ℕ) → bytes_of w 0 ≡ replicate w 0 → 0 < 256 ^ w → from + w ≤ to → to ≤ 4096 → length page ≡ 4096 → last ≡ number w (drop (to - w) page) → AreZeros from to page → last ≡ 0
ends_zero w from to last page none some room le long is zeros =
    is ∙ zeros_word w (to - w) to page none some (omega (arith, room)) (omega (arith, long)) (λ i low high. zeros i (omega (arith, low, room)) high)

-- a part is 0 where its first and its last word are, and it has no others
pub both_zero : (w from to first last : ℕ) (page : List ℕ) → bytes_of w 0 ≡ replicate w 0 → from + w ≤ to → to ≤ from + w + w → to ≤ 4096 → length page ≡ 4096 → AreBytes page
    → first ≡ number w (drop from page) → last ≡ number w (drop (to - w) page) → first ≡ 0 → last ≡ 0 → AreZeros from to page
both_zero w from to first last page none room few le long fits a b x y =
    covered from (from + w) to (to - w) page (omega (arith, few)) (word_zeros w from (from + w) page none refl (omega (arith, room)) long fits (sym a ∙ x)) (word_zeros w (to - w) to page none (omega (arith, room)) le long fits (sym b ∙ y))
