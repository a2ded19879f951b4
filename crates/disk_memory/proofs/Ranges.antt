-- What stays of an image where ranges of its bytes change.
use Rattle.std.proofs.Common.{◌≡◌, ◌<◌, ◌≤◌, ◌⊎◌, inl, inr, ⊎_elim, ◌+◌, ◌-◌, ◌*◌, ℕ, List, [], ◌∷◌, ◌++◌, length, take, drop, get_or, slice_index, slice_range, sym, ap, ◌∙◌, arith, length-append}
use Rattle.std.proofs.lemmas.List.{length-take-le, length-drop, get_or-take, get_or-drop, get_or_append_left, get_or-append_right, ext_get_or}
use Rattle.grid_types.specs.Pages.{page_of}
use Rattle.disk_trait.specs.Disk.{Agrees}
use Rattle.disk_trait.specs.Moments.{AgreesOutside}
use Rattle.disk_trait.proofs.Pages.{byte_apart, agrees_by_bytes}

-- c with n bytes of old at a place
abbrev splice : ℕ → ℕ → List ℕ → List ℕ → List ℕ
splice at n c old = take at c ++ (take n (drop at old) ++ drop (at + n) c)

module _ (at n : ℕ) (c old : List ℕ) (len : length c ≡ length old) (le : at + n ≤ length old) where
  front_long : length (take at c) ≡ at
  front_long = length-take-le at c (omega (arith, len, le))

  mid_long : length (take n (drop at old)) ≡ n
  mid_long = length-take-le n (drop at old) (omega (arith, length-drop at old, le))

  splice_long : length (splice at n c old) ≡ length c
  splice_long = length-append (take at c) (take n (drop at old) ++ drop (at + n) c) ∙ omega (arith, front_long, length-append (take n (drop at old)) (drop (at + n) c), mid_long, length-drop (at + n) c, len, le)

  splice_before : (i : ℕ) → i < at → slice_index (splice at n c old) i ≡ slice_index c i
  splice_before i lt = get_or_append_left (take at c) (take n (drop at old) ++ drop (at + n) c) 0 i (omega (arith, front_long, lt)) ∙ get_or-take at c i 0 lt

  splice_inside : (i : ℕ) → at ≤ i → i < at + n → slice_index (splice at n c old) i ≡ slice_index old i
  splice_inside i low high =
      let s : at + (i - at) ≡ i = omega (arith, low) in
      get_or-append_right (take at c) (take n (drop at old) ++ drop (at + n) c) at i 0 front_long low
      ∙ get_or_append_left (take n (drop at old)) (drop (at + n) c) 0 (i - at) (omega (arith, mid_long, low, high))
      ∙ get_or-take n (drop at old) (i - at) 0 (omega (arith, low, high))
      ∙ get_or-drop at old (i - at) 0
      ∙ ap (λ (k : ℕ). get_or old k 0) s

  splice_behind : (i : ℕ) → at + n ≤ i → slice_index (splice at n c old) i ≡ slice_index c i
  splice_behind i low =
      let s : at + n + (i - at - n) ≡ i = omega (arith, low) in
      get_or-append_right (take at c) (take n (drop at old) ++ drop (at + n) c) at i 0 front_long (omega (arith, low))
      ∙ get_or-append_right (take n (drop at old)) (drop (at + n) c) n (i - at) 0 mid_long (omega (arith, low))
      ∙ get_or-drop (at + n) c (i - at - n) 0
      ∙ ap (λ (k : ℕ). get_or c k 0) s

  -- an image with old bytes put into a range differs from it there alone
  spliced : Agrees at n (splice at n c old) c
  spliced = agrees_by_bytes at n (splice at n c old) c (omega (arith, splice_long, len, le)) (sym splice_long) (λ i o. ⊎_elim (λ lt. sym (splice_before i lt)) (λ gt. sym (splice_behind i gt)) o)

-- a byte stands before a range, in it, or behind it
pub by_range : (i at n : ℕ) → (i < at) ⊎ ((at ≤ i) × (i < at + n)) ⊎ (at + n ≤ i)
by_range i at n = grind arith

-- each image that may be left after a write was one before it, but for the bytes of the write
pub torn : (dirty : List (ℕ × ℕ)) (at n : ℕ) (old new : List ℕ) → at + n ≤ length old → Agrees at n old new → (c : List ℕ) → AgreesOutside ((at, n) ∷ dirty) new c → (d : List ℕ) × AgreesOutside dirty old d × Agrees at n d c
torn dirty at n old new le a c left =
    let len : length c ≡ length old = left.same_length ∙ a.same_length in (
      splice at n c old,
      record {
        same_length = splice_long at n c old len le ∙ len;
        each = λ i o. elim (by_range i at n) [
          | inl lt ↦ splice_before at n c old len le i lt ∙ left.each i (inl lt, o) ∙ byte_apart at n i old new (inl lt) a
          | inr (inl mid) ↦ splice_inside at n c old len le i mid.0 mid.1
          | inr (inr gt) ↦ splice_behind at n c old len le i gt ∙ left.each i (inr gt, o) ∙ byte_apart at n i old new (inr gt) a
        ];
      },
      spliced at n c old len le,
    )

-- outside of no range there is every byte
pub outside_nothing : (bytes c : List ℕ) → AgreesOutside [] bytes c → c ≡ bytes
outside_nothing bytes c left = ext_get_or 0 c bytes left.same_length (λ i h. left.each i tt)

-- what differs nowhere differs at most in these ranges
pub outside_any : (rs : List (ℕ × ℕ)) (bytes c : List ℕ) → c ≡ bytes → AgreesOutside rs bytes c
outside_any rs bytes c e = record { same_length = ap length e; each = λ i o. ap (λ (xs : List ℕ). slice_index xs i) e }

-- the bytes of a page
pub page_slice : (image : List ℕ) (page : ℕ) → slice_range image (page * 4096) (page * 4096 + 4096) ≡ page_of page image
page_slice image page =
    let e : page * 4096 + 4096 - page * 4096 ≡ 4096 = omega arith in
    ap (λ (n : ℕ). take n (drop (page * 4096) image)) e
