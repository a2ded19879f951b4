-- Slots in the order of half and slot, and the first of them that passes a test.
use Rattle.std.proofs.Common.{◌≡◌, ◌<◌, ◌⊎◌, inl, inr, ◌+◌, ℕ, zero, suc, Bool, true, false, cond, List, [], ◌∷◌, ◌++◌, map, length, refl, sym, ap, subst, ◌∙◌, arith, true≢false}
use Rattle.std.specs.Prelude.{Some, filter, ⊤}
use Rattle.std.specs.List.{range_with_len, find}
use Rattle.grid_model.specs.Lists.{below}
use Rattle.grid_model.specs.Images.{Gates, open_slots, open_slots_of}
use Rattle.file_images.proofs.Elements.{Among, here, there, first_or, from_append, from_filter, from_map, from_range}

-- a slot stands before another one
abbrev pub IsEarlier : ℕ × ℕ → ℕ × ℕ → Type 0
IsEarlier a b = (a.0 < b.0) ⊎ ((a.0 ≡ b.0) × (a.1 < b.1))

never_both : (a b : ℕ × ℕ) → IsEarlier a b → IsEarlier b a → ⊥
never_both a b (inl x) (inl y) = omega (arith, x, y)
never_both a b (inl x) (inr y) = omega (arith, x, y.0)
never_both a b (inr x) (inl y) = omega (arith, x.0, y)
never_both a b (inr x) (inr y) = omega (arith, x.1, y.1)

-- each number of a list is below those behind it
abbrev Rise : List ℕ → Type 0
Rise [] = ⊤
Rise (i ∷ is) = ((j : ℕ) → Among j is → i < j) × Rise is

-- each slot of a list stands before those behind it
abbrev pub Ascend : List (ℕ × ℕ) → Type 0
Ascend [] = ⊤
Ascend (x ∷ xs) = ((y : ℕ × ℕ) → Among y xs → IsEarlier x y) × Ascend xs

range_rises : (a n : ℕ) → Rise (range_with_len a n)
range_rises a zero = tt
range_rises a (suc n) = (λ j m. omega (arith, (from_range (a + 1) n j m).0), range_rises (a + 1) n)

filter_rises : (test : ℕ → Bool) (is : List ℕ) → Rise is → Rise (filter test is)
filter_rises test [] up = tt
filter_rises test (i ∷ is) up = by (test i) (filter_rises test is up.1)
  where
    by : (b : Bool) → Rise (filter test is) → Rise (cond b (i ∷ filter test is) (filter test is))
    by true rest = (λ j m. up.0 j (from_filter test is j m).0, rest)
    by false rest = rest

half_ascends : (h : ℕ) (is : List ℕ) → Rise is → Ascend (map (λ i. (h, i)) is)
half_ascends h [] up = tt
half_ascends h (i ∷ is) up = (λ y m. let x = from_map (λ (j : ℕ). (h, j)) is y m in subst (IsEarlier (h, i)) (sym x.2) (inr (refl, up.0 x.0 x.1)), half_ascends h is up.1)

both_ascend : (xs ys : List (ℕ × ℕ)) → Ascend xs → Ascend ys → ((x y : ℕ × ℕ) → Among x xs → Among y ys → IsEarlier x y) → Ascend (xs ++ ys)
both_ascend [] ys up more apart = more
both_ascend (x ∷ xs) ys up more apart = (λ y m. elim (from_append y xs ys m) [ inl old ↦ up.0 y old | inr new ↦ apart x y here new ], both_ascend xs ys up.1 more (λ z y m n. apart z y (there m) n))

open_half_ascends : (gates : List ℕ) (h : ℕ) → Ascend (open_slots_of gates h)
open_half_ascends gates h = half_ascends h _ (filter_rises _ (below (length gates)) (range_rises 0 (length gates)))

-- the open slots of both halves ascend
pub open_ascend : (gates : Gates) → Ascend (open_slots gates)
open_ascend gates = both_ascend (open_slots_of gates.first 0) (open_slots_of gates.second 1) (open_half_ascends gates.first 0) (open_half_ascends gates.second 1)
    (λ x y m n. let a = from_map (λ (i : ℕ). (0, i)) _ x m in let b = from_map (λ (i : ℕ). (1, i)) _ y n in inl (omega (arith, ap (λ (z : ℕ × ℕ). z.0) a.2, ap (λ (z : ℕ × ℕ). z.0) b.2)))

-- a slot is found as the first of a list that passes: none before it does
pub record IsFirst (test : ℕ × ℕ → Bool) (slots : List (ℕ × ℕ)) (y : ℕ × ℕ) : Type 0 where
  pub found : find test slots ≡ Some y
  pub among : Among y slots
  pub passes : test y ≡ true
  pub first : (z : ℕ × ℕ) → Among z slots → IsEarlier z y → test z ≡ false

-- where one of slots that ascend passes, one is the first
pub first_found : (test : ℕ × ℕ → Bool) (slots : List (ℕ × ℕ)) (c : ℕ × ℕ) → Ascend slots → Among c slots → test c ≡ true → (y : ℕ × ℕ) × IsFirst test slots y
first_found test [] c up m is = elim m [ ]
first_found test (x ∷ xs) c up m is = by (test x) refl (first_or x c xs m) (λ n. first_found test xs c up.1 n is)
  where
    before : (z : ℕ × ℕ) → IsEarlier z x → (z ≡ x) ⊎ Among z xs → test z ≡ false
    before z earlier (inl e) = let itself : IsEarlier x x = subst (λ (v : ℕ × ℕ). IsEarlier v x) e earlier in absurd (never_both x x itself itself)
    before z earlier (inr n) = absurd (never_both x z (up.0 z n) earlier)

    by : (b : Bool) → test x ≡ b → (c ≡ x) ⊎ Among c xs → (Among c xs → (y : ℕ × ℕ) × IsFirst test xs y) → (y : ℕ × ℕ) × IsFirst test (x ∷ xs) y
    by true passed _ rest = (
      x,
      record {
        found = ap (λ (b : Bool). cond b (Some x) (find test xs)) passed;
        among = here;
        passes = passed;
        first = λ z n earlier. before z earlier (first_or x z xs n);
      },
    )
    by false failed (inl e) rest = absurd (true≢false (sym is ∙ ap test e ∙ failed))
    by false failed (inr n) rest =
        let later = rest n in
        let y = later.0 in
        let it : IsFirst test xs y = later.1 in (
          y,
          record {
            found = ap (λ (b : Bool). cond b (Some x) (find test xs)) failed ∙ it.found;
            among = there it.among;
            passes = it.passes;
            first = λ z o earlier. elim (first_or x z xs o) [ inl e ↦ ap test e ∙ failed | inr more ↦ it.first z more earlier ];
          },
        )
