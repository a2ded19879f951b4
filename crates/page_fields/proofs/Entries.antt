-- Numbers of one width that stand one behind the other in a page.
use Rattle.std.proofs.Common.{◌≡◌, ◌<◌, ◌≤◌, ◌+◌, ◌*◌, ◌^◌, ◌⊎◌, inl, inr, ℕ, zero, suc, List, [], ◌∷◌, ◌++◌, length, take, drop, get_or, slice_index, refl, sym, ap, ◌∙◌, append_assoc, length-append, arith}
use Rattle.std.specs.List.{flat_map}
use Rattle.std.specs.Int.{byte_at, bytes_high_first}
use Rattle.std.proofs.Math.Nat.{mod-lt, mul-le-mul_right, add-mul}
use Rattle.std.proofs.lemmas.List.{drop-drop, get_or-drop, length-drop, length-take-le, take-append-drop, append-nil}
use Rattle.byteorder.specs.Endian.{big_from}
use Rattle.byteorder.specs.Numbers.{big_from-cons, big_from-lt, big_from-take, big_number-reads_back, length-bytes_high_first}
use Rattle.page_fields.specs.Fields.{number, bytes_of}
use Rattle.page_fields.proofs.BytesOf.{number-back, length-bytes_of}
use Rattle.page_fields.proofs.Places.{part_at}

-- each number is a byte
abbrev pub AreBytes : List ℕ → Type 0
AreBytes xs = (k : ℕ) → slice_index xs k < 256

-- two numbers with the same high and low digits
digits : (p a b y z : ℕ) → y < p → z < p → a * p + y ≡ b * p + z → (a ≡ b) × (y ≡ z)
digits p a b y z fy fz e =
    let less : (c d u v : ℕ) → u < p → c * p + u ≡ d * p + v → d < c + 1 = λ c d u v fits same.
    let by : (d ≤ c) ⊎ (c + 1 ≤ d) = grind arith in
    elim by [
      | inl le ↦ omega arith
      | inr lt ↦ let top : (c + 1) * p ≤ d * p = mul-le-mul_right p lt in
          let split : (c + 1) * p ≡ c * p + 1 * p = add-mul c 1 p in
          absurd (omega arith)
    ] in
    let same : a ≡ b = omega (arith, less a b y z fy e, less b a z y fz (sym e)) in
    let top : a * p ≡ b * p = ap (λ (c : ℕ). c * p) same in
    (same, omega arith)

-- as many bytes are the same where they make the same number
same_bytes : (n : ℕ) (xs ys : List ℕ) → length xs ≡ n → length ys ≡ n → AreBytes xs → AreBytes ys → big_from 0 n xs ≡ big_from 0 n ys → xs ≡ ys
same_bytes n [] [] lx ly fx fy e = refl
same_bytes n [] (y ∷ ys) lx ly fx fy e = absurd (omega arith)
same_bytes n (x ∷ xs) [] lx ly fx fy e = absurd (omega arith)
same_bytes zero (x ∷ xs) (y ∷ ys) lx ly fx fy e = absurd (omega arith)
same_bytes (suc n) (x ∷ xs) (y ∷ ys) lx ly fx fy e =
    let gx : AreBytes xs = λ k. fx (suc k) in
    let gy : AreBytes ys = λ k. fy (suc k) in
    let d = digits (256 ^ n) x y (big_from 0 n xs) (big_from 0 n ys) (big_from-lt 0 n xs gx) (big_from-lt 0 n ys gy)
    (ap (λ (r : ℕ). x * 256 ^ n + r) (sym (big_from-cons 0 n x xs)) ∙ e ∙ ap (λ (r : ℕ). y * 256 ^ n + r) (big_from-cons 0 n y ys)) in
    let rest = same_bytes n xs ys (omega arith) (omega arith) gx gy d.1 in
    λ i. d.0 i ∷ rest i

byte_fits : (n x : ℕ) → byte_at n x < 256
byte_fits zero x = mod-lt x (omega arith)
byte_fits (suc n) x = mod-lt _ (omega arith)

bytes_fit : (n x : ℕ) → AreBytes (bytes_high_first n x)
bytes_fit zero x k = omega arith
bytes_fit (suc n) x zero = byte_fits n x
bytes_fit (suc n) x (suc k) = bytes_fit n x k

take_fits : (n : ℕ) (xs : List ℕ) → AreBytes xs → AreBytes (take n xs)
take_fits zero xs fits k = omega arith
take_fits (suc n) [] fits k = omega arith
take_fits (suc n) (x ∷ xs) fits zero = fits zero
take_fits (suc n) (x ∷ xs) fits (suc k) = take_fits n xs (λ j. fits (suc j)) k

pub drop_fits : (n : ℕ) (xs : List ℕ) → AreBytes xs → AreBytes (drop n xs)
drop_fits n xs fits k = rw get_or-drop (fits (n + k))

-- the bytes of the number that bytes make
pub bytes-back : (n : ℕ) (xs : List ℕ) → n ≤ length xs → AreBytes xs → bytes_of n (number n xs) ≡ take n xs
unfolding number bytes_of
bytes-back n xs le fits =
    let few : big_from 0 n xs < 256 ^ n = big_from-lt 0 n xs fits in
    let long : length (take n xs) ≡ n = length-take-le n xs le in
    let size : length (bytes_high_first n (big_from 0 n xs)) ≡ n = length-bytes_high_first n (big_from 0 n xs) in
    let read : big_from 0 n (bytes_high_first n (big_from 0 n xs)) ≡ big_from 0 n xs =
    ap (big_from 0 n) (sym (append-nil (bytes_high_first n (big_from 0 n xs)))) ∙ big_number-reads_back n (big_from 0 n xs) [] few in
    same_bytes n (bytes_high_first n (big_from 0 n xs)) (take n xs) size long (bytes_fit n (big_from 0 n xs)) (take_fits n xs fits) (read ∙ sym (big_from-take 0 n n xs (omega arith)))

-- n bytes make a number of 8 n bits
pub number_fits : (n : ℕ) (xs : List ℕ) → AreBytes xs → number n xs < 256 ^ n
unfolding number
number_fits n xs fits = big_from-lt 0 n xs fits

-- a number stands in a page as its bytes
pub number_is : (w at next : ℕ) (page : List ℕ) → at + w ≤ length page → AreBytes page → next ≡ at + w → drop at page ≡ bytes_of w (number w (drop at page)) ++ drop next page
number_is w at next page le fits is =
    let back = bytes-back w (drop at page) (simp length-drop (omega arith)) (drop_fits at page fits) in
    sym (take-append-drop w (drop at page)) ∙ ap (λ (f : List ℕ). f ++ drop w (drop at page)) (sym back) ∙ ap (λ (r : List ℕ). bytes_of w (number w (drop at page)) ++ r) (drop-drop w at page ∙ ap (λ (k : ℕ). drop k page) (omega arith))

-- n numbers of w bytes, from an offset on
abbrev pub entries_in : ℕ → ℕ → ℕ → List ℕ → List ℕ
entries_in w at zero page = []
entries_in w at (suc n) page = number w (drop at page) ∷ entries_in w (at + w) n page

pub length-entries_in : (w at n : ℕ) (page : List ℕ) → length (entries_in w at n page) ≡ n
length-entries_in w at zero page = refl
length-entries_in w at (suc n) page = let e = length-entries_in w (at + w) n page in omega (arith, e)

pub entries_fit : (w at n : ℕ) (page : List ℕ) → AreBytes page → (i : ℕ) → slice_index (entries_in w at n page) i < 256 ^ w
entries_fit w at zero page fits i = omega (arith, number_fits w page fits)
entries_fit w at (suc n) page fits zero = number_fits w (drop at page) (drop_fits at page fits)
entries_fit w at (suc n) page fits (suc i) = entries_fit w (at + w) n page fits i

-- the page has these numbers as its bytes
pub entries_are : (w at n : ℕ) (page : List ℕ) → at + w * n ≤ length page → AreBytes page → drop at page ≡ flat_map (bytes_of w) (entries_in w at n page) ++ drop (at + w * n) page
entries_are w at zero page le fits =
    let none : w * 0 ≡ 0 = grind arith in
    ap (λ (k : ℕ). drop k page) (omega arith)
entries_are w at (suc n) page le fits =
    let split : w * suc n ≡ w + w * n = grind arith in
    let next = entries_are w (at + w) n page (omega (arith, split, le)) fits in
    let end : at + w + w * n ≡ at + w * suc n = omega (arith, split) in
    number_is w at (at + w) page (omega (arith, split, le)) fits refl
    ∙ ap (λ (r : List ℕ). bytes_of w (number w (drop at page)) ++ r) (next ∙ ap (λ (k : ℕ). flat_map (bytes_of w) (entries_in w (at + w) n page) ++ drop k page) end)
    ∙ sym (append_assoc (bytes_of w (number w (drop at page))) (flat_map (bytes_of w) (entries_in w (at + w) n page)) (drop (at + w * suc n) page))

-- each number stands where it is spelled
pub entry_there : (w at : ℕ) (page ns rest : List ℕ) → drop at page ≡ flat_map (bytes_of w) ns ++ rest → ((i : ℕ) → slice_index ns i < 256 ^ w) → (i : ℕ) → i < length ns → slice_index ns i ≡ number w (drop (at + w * i) page)
entry_there w at page ns rest e fits i lt =
    let p = part_at (bytes_of w) w ns rest i 0 (λ k h. length-bytes_of w (get_or ns k 0)) lt in
    let there : drop (at + w * i) page ≡ bytes_of w (get_or ns i 0) ++ p.0 = sym (drop-drop (w * i) at page) ∙ ap (drop (w * i)) e ∙ p.1 in
    sym (ap (number w) there ∙ number-back w (get_or ns i 0) p.0 (fits i))

pub length-entries : (w : ℕ) (ns : List ℕ) → length (flat_map (bytes_of w) ns) ≡ w * length ns
length-entries w [] = grind arith
length-entries w (n ∷ ns) =
    let split : w * suc (length ns) ≡ w + w * length ns = grind arith in
    length-append (bytes_of w n) (flat_map (bytes_of w) ns) ∙ omega (arith, split, length-bytes_of w n, length-entries w ns)
