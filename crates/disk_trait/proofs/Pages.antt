-- What stays of an image where a range of its bytes changes, and what stands in the range after a write.
use Rattle.std.proofs.Common.{◌≡◌, ◌≢◌, ◌<◌, ◌≤◌, ◌⊎◌, inl, inr, ◌+◌, ◌-◌, ◌*◌, ℕ, List, [], ◌∷◌, ◌++◌, length, take, drop, get_or, slice_index, refl, sym, ap, ◌∙◌, arith, rules, length-append, append_assoc}
use Rattle.std.proofs.lemmas.List.{take-take, drop-drop, drop-take, drop_at, take_at, length-take, length-take-le, length-drop, get_or-take, get_or-drop, ext_get_or, places}
use Rattle.std.proofs.lemmas.Slice.{overwrites}
use Rattle.grid_types.specs.Pages.{page_of}
use Rattle.grid_types.specs.declared.sizes.TheConstants.{PAGE_BYTES}
use Rattle.disk_trait.specs.Disk.{Agrees, Holds}

-- an image agrees with itself
pub agrees_same : (at n : ℕ) (c : List ℕ) → Agrees at n c c
agrees_same at n c = record { same_length = refl; before = refl; after = refl }

-- one change of the range after another
pub agrees_then : (at n : ℕ) (c d e : List ℕ) → Agrees at n c d → Agrees at n d e → Agrees at n c e
agrees_then at n c d e a b = record { same_length = b.same_length ∙ a.same_length; before = b.before ∙ a.before; after = b.after ∙ a.after }

drop_past : (n m : ℕ) (c d : List ℕ) → n ≤ m → drop n d ≡ drop n c → drop m d ≡ drop m c
drop_past n m c d le e =
    let s : n + (m - n) ≡ m = omega (arith, le) in
    ap (λ (k : ℕ). drop k d) (sym s) ∙ sym (drop-drop (m - n) n d) ∙ ap (drop (m - n)) e ∙ drop-drop (m - n) n c ∙ ap (λ (k : ℕ). drop k c) s

take_below : (n m : ℕ) (c d : List ℕ) → n ≤ m → take m d ≡ take m c → take n d ≡ take n c
take_below n m c d le e = sym (take-take n m d le) ∙ ap (take n) e ∙ take-take n m c le

-- images that agree outside of a range agree outside of a wider one
pub agrees_wider : (at n from k : ℕ) (c d : List ℕ) → from ≤ at → at + n ≤ from + k → Agrees at n c d → Agrees from k c d
agrees_wider at n from k c d low high a = record {
  same_length = a.same_length;
  before = take_below from at c d low a.before;
  after = drop_past (at + n) (from + k) c d high a.after;
}

-- a part that the range does not meet stays
pub part_apart : (at n from m : ℕ) (c d : List ℕ) → (from + m ≤ at) ⊎ (at + n ≤ from) → Agrees at n c d → take m (drop from d) ≡ take m (drop from c)
part_apart at n from m c d (inl below) a = sym (drop-take from m d) ∙ ap (drop from) (take_below (from + m) at c d below a.before) ∙ drop-take from m c
part_apart at n from m c d (inr above) a = ap (take m) (drop_past (at + n) from c d above a.after)

-- a page that the range does not meet stays
pub page_apart : (at n page : ℕ) (c d : List ℕ) → (page * PAGE_BYTES + PAGE_BYTES ≤ at) ⊎ (at + n ≤ page * PAGE_BYTES) → Agrees at n c d → page_of page d ≡ page_of page c
page_apart at n page c d apart a = part_apart at n (page * PAGE_BYTES) PAGE_BYTES c d apart a

-- a byte outside of the range stays
pub byte_apart : (at n i : ℕ) (c d : List ℕ) → (i < at) ⊎ (at + n ≤ i) → Agrees at n c d → slice_index d i ≡ slice_index c i
byte_apart at n i c d (inl below) a = sym (get_or-take at d i 0 below) ∙ ap (λ (xs : List ℕ). get_or xs i 0) a.before ∙ get_or-take at c i 0 below
byte_apart at n i c d (inr above) a =
    let s : i + 0 ≡ i = omega arith in
    ap (λ (k : ℕ). get_or d k 0) (sym s) ∙ sym (get_or-drop i d 0 0) ∙ ap (λ (xs : List ℕ). get_or xs 0 0) (drop_past (at + n) i c d above a.after) ∙ get_or-drop i c 0 0 ∙ ap (λ (k : ℕ). get_or c k 0) s

take_same : (at n : ℕ) (c d : List ℕ) → length d ≡ length c → ((i : ℕ) → (i < at) ⊎ (at + n ≤ i) → slice_index d i ≡ slice_index c i) → at ≤ length c → take at d ≡ take at c
take_same at n c d len each le =
    let ld : length (take at d) ≡ at = length-take-le at d (omega (arith, le, len)) in
    let lc : length (take at c) ≡ at = length-take-le at c le in
    ext_get_or 0 (take at d) (take at c) (ld ∙ sym lc) (λ i h.
    let lt : i < at = omega (arith, h, ld) in
    get_or-take at d i 0 lt ∙ each i (inl lt) ∙ sym (get_or-take at c i 0 lt))

drop_same : (at n : ℕ) (c d : List ℕ) → length d ≡ length c → ((i : ℕ) → (i < at) ⊎ (at + n ≤ i) → slice_index d i ≡ slice_index c i) → drop (at + n) d ≡ drop (at + n) c
drop_same at n c d len each =
    let same : length (drop (at + n) d) ≡ length (drop (at + n) c) = length-drop (at + n) d ∙ ap (λ (k : ℕ). k - (at + n)) len ∙ sym (length-drop (at + n) c) in
    ext_get_or 0 (drop (at + n) d) (drop (at + n) c) same (λ i h.
    let le : at + n ≤ at + n + i = omega arith in
    get_or-drop (at + n) d i 0 ∙ each (at + n + i) (inr le) ∙ sym (get_or-drop (at + n) c i 0))

-- images that have the same bytes outside of a range agree outside of it
pub agrees_by_bytes : (at n : ℕ) (c d : List ℕ) → at ≤ length c → length d ≡ length c → ((i : ℕ) → (i < at) ⊎ (at + n ≤ i) → slice_index d i ≡ slice_index c i) → Agrees at n c d
agrees_by_bytes at n c d le len each = record { same_length = len; before = take_same at n c d len each le; after = drop_same at n c d len each }

-- what is written changes nothing outside of its range
pub holds_agrees : (old : List ℕ) (at : ℕ) (bytes new : List ℕ) → at + length bytes ≤ length old → Holds old at bytes new → Agrees at (length bytes) old new
holds_agrees old at bytes new le h = rw h (record {
  same_length = grind (arith, places);
  before = search (rules, overwrites);
  after = ap (drop (at + length bytes)) (sym (append_assoc (take at old) bytes (drop (at + length bytes) old)))
      ∙ drop_at (take at old ++ bytes) (drop (at + length bytes) old) (at + length bytes) (simp (length-append, length-take) (omega arith));
})

-- the bytes that were written stand where they were written
pub part_written : (old : List ℕ) (at : ℕ) (bytes new : List ℕ) → at ≤ length old → Holds old at bytes new → take (length bytes) (drop at new) ≡ bytes
part_written old at bytes new le h =
    let behind : drop at new ≡ bytes ++ drop (at + length bytes) old = ap (drop at) h ∙ drop_at (take at old) (bytes ++ drop (at + length bytes) old) at (length-take-le at old le) in
    ap (take (length bytes)) behind ∙ take_at bytes (drop (at + length bytes) old) (length bytes) refl

-- a page that was written whole is what was written
pub page_written : (old : List ℕ) (page : ℕ) (bytes new : List ℕ) → page * PAGE_BYTES ≤ length old → length bytes ≡ PAGE_BYTES → Holds old (page * PAGE_BYTES) bytes new → page_of page new ≡ bytes
page_written old page bytes new le len h = ap (λ (n : ℕ). take n (drop (page * PAGE_BYTES) new)) (sym len) ∙ part_written old (page * PAGE_BYTES) bytes new le h

-- a byte that was written stands where it was written
pub byte_written : (old : List ℕ) (at x : ℕ) (new : List ℕ) → at ≤ length old → Holds old at (x ∷ []) new → slice_index new at ≡ x
byte_written old at x new le h =
    let behind : drop at new ≡ x ∷ drop (at + 1) old = ap (drop at) h ∙ drop_at (take at old) (x ∷ drop (at + 1) old) at (length-take-le at old le) in
    let s : at + 0 ≡ at = omega arith in
    ap (λ (k : ℕ). get_or new k 0) (sym s) ∙ sym (get_or-drop at new 0 0) ∙ ap (λ (xs : List ℕ). get_or xs 0 0) behind

-- a byte of a page is a byte of the image
pub byte_of_page : (page i : ℕ) (c : List ℕ) → i < PAGE_BYTES → slice_index (page_of page c) i ≡ slice_index c (page * PAGE_BYTES + i)
byte_of_page page i c lt = get_or-take PAGE_BYTES (drop (page * PAGE_BYTES) c) i 0 lt ∙ get_or-drop (page * PAGE_BYTES) c i 0

-- a part of a page is a part of the image
pub part_of_page : (page from m : ℕ) (c : List ℕ) → from + m ≤ PAGE_BYTES → take m (drop from (page_of page c)) ≡ take m (drop (page * PAGE_BYTES + from) c)
part_of_page page from m c le =
    sym (drop-take from m (page_of page c)) ∙ ap (drop from) (take-take (from + m) PAGE_BYTES (drop (page * PAGE_BYTES) c) le) ∙ drop-take from m (drop (page * PAGE_BYTES) c)
    ∙ ap (take m) (drop-drop from (page * PAGE_BYTES) c)

-- two pages that are not one lie apart
pub pages_lie_apart : (p q : ℕ) → p ≢ q → (p * PAGE_BYTES + PAGE_BYTES ≤ q * PAGE_BYTES) ⊎ (q * PAGE_BYTES + PAGE_BYTES ≤ p * PAGE_BYTES)
pages_lie_apart p q apart = elim (below_or_behind p q apart) [ inl low ↦ inl (omega (arith, low)) | inr high ↦ inr (omega (arith, high)) ]
  where
    below_or_behind : (p q : ℕ) → p ≢ q → (p < q) ⊎ (q < p)
    below_or_behind p q apart = grind (arith, apart)

-- a byte of one page lies outside of a range on another
pub byte_off_range : (p q i at n : ℕ) → p ≢ q → p * PAGE_BYTES ≤ i → i < p * PAGE_BYTES + PAGE_BYTES → q * PAGE_BYTES ≤ at → at + n ≤ q * PAGE_BYTES + PAGE_BYTES → (i < at) ⊎ (at + n ≤ i)
byte_off_range p q i at n apart low high from to = elim (pages_lie_apart p q apart) [ inl below ↦ inl (omega (arith, below, high, from)) | inr behind ↦ inr (omega (arith, behind, low, to)) ]
