-- The last gate of a half that is not 0.
use Rattle.std.proofs.Common.{◌≡◌, ◌≢◌, ◌<◌, ◌≤◌, ◌⊎◌, inl, inr, ◌+◌, ◌-◌, ◌==◌, ◌++◌, ℕ, zero, suc, Bool, true, false, List, [], ◌∷◌, length, drop, get_or, slice_index, replicate, length-append, refl, sym, ap, subst, ◌∙◌, arith, eq-eqb}
use Rattle.std.specs.Prelude.{not, filter, slice_set}
use Rattle.std.specs.List.{range_with_len, list_any}
use Rattle.std.proofs.lemmas.Bool.{ne_eqb, cases_eq}
use Rattle.std.proofs.lemmas.List.{length-drop, length-set, length-replicate, get_or-drop, get_or-set_same, get_or-set_other, get_or-replicate, get_or_append_left, get_or-append_right}
use Rattle.std.proofs.lemmas.List.Folds.{list_any_at}
use Rattle.grid_model.specs.Images.{last_gate}

-- so many of the first n gates are up to the last of them that is not 0
pub record AreUpToLast (gates : List ℕ) (n used : ℕ) : Type 0 where
  pub few : used ≤ n
  pub last : (used ≡ 0) ⊎ (slice_index gates (used - 1) ≢ 0)
  pub behind : (i : ℕ) → used ≤ i → i < n → slice_index gates i ≡ 0

either_side : (i n : ℕ) → (i < n) ⊎ (n ≤ i)
either_side i n = grind arith

-- how many numbers of a range pass a test that those below a number pass, and beyond others
count_front : (test : ℕ → Bool) (n a m : ℕ) → ((i : ℕ) → a ≤ i → i < n → test i ≡ true) → ((i : ℕ) → a ≤ i → n ≤ i → i < a + m → test i ≡ false) → n ≤ a + m → length (filter test (range_with_len a m)) ≡ n - a
count_front test n a zero within beyond few = omega (arith, few)
count_front test n a (suc m) within beyond few =
    let rest = count_front test n (a + 1) m (λ i le lt. within i (omega (arith, le)) lt) (λ i le high lt. beyond i (omega (arith, le)) high (omega (arith, lt))) (omega (arith, few)) in
    elim (either_side a n) [
      | inl low ↦ rw (within a (omega arith) low) (omega (arith, rest, low))
      | inr high ↦ rw (beyond a (omega arith) high (omega arith)) (omega (arith, rest, high))
    ]

-- that number is what the model's word says
pub last_gate_is : (gates : List ℕ) (used : ℕ) → AreUpToLast gates (length gates) used → last_gate gates ≡ used
last_gate_is gates used is =
    let some : ℕ → Bool = λ g. not (g == 0) in
    let left : ℕ → Bool = λ i. list_any some (drop i gates) in
    let within : (i : ℕ) → 0 ≤ i → i < used → left i ≡ true = λ i le lt. elim is.last [
      | inl none ↦ absurd (omega (arith, lt, none))
      | inr one ↦
          let at : i + (used - 1 - i) ≡ used - 1 = omega (arith, lt) in
          let there : get_or (drop i gates) (used - 1 - i) 0 ≡ slice_index gates (used - 1) = get_or-drop i gates (used - 1 - i) 0 ∙ ap (slice_index gates) at in
          let passes : some (slice_index gates (used - 1)) ≡ true = ap not (ne_eqb (slice_index gates (used - 1)) 0 one) in
          list_any_at some (drop i gates) (used - 1 - i) 0 (omega (arith, length-drop i gates, lt, is.few)) (ap some there ∙ passes)
    ] in
    let beyond : (i : ℕ) → 0 ≤ i → used ≤ i → i < 0 + length gates → left i ≡ false = λ i le high lt. none_left gates i (λ j below. is.behind (i + j) (omega (arith, high)) below) in
    count_front left used 0 (length gates) within beyond (omega (arith, is.few)) ∙ omega arith
  where
    none_among : (gs : List ℕ) → ((j : ℕ) → j < length gs → slice_index gs j ≡ 0) → list_any (λ g. not (g == 0)) gs ≡ false
    none_among [] zeros = refl
    none_among (g ∷ gs) zeros = let first = eq-eqb g 0 (zeros 0 (omega arith)) in rw first (none_among gs (λ j lt. zeros (suc j) (omega (arith, lt))))

    none_left : (gs : List ℕ) (i : ℕ) → ((j : ℕ) → i + j < length gs → slice_index gs (i + j) ≡ 0) → list_any (λ g. not (g == 0)) (drop i gs) ≡ false
    none_left gs i zeros = none_among (drop i gs) (λ j lt. get_or-drop i gs j 0 ∙ zeros j (omega (arith, lt, length-drop i gs)))

-- some number of the first n gates is up to the last of them that is not 0
some_last : (gates : List ℕ) (n : ℕ) → (used : ℕ) × AreUpToLast gates n used
some_last gates zero = (0, record { few = omega arith; last = inl refl; behind = λ i le lt. absurd (omega (arith, lt)) })
some_last gates (suc n) =
    let had = some_last gates n in
    elim (cases_eq (slice_index gates n) 0) [
      | inl none ↦ (had.0, record { few = omega (arith, had.1.few); last = had.1.last; behind = λ i le lt. elim (either_side i n) [ inl low ↦ had.1.behind i le low | inr high ↦ let at : i ≡ n = omega (arith, lt, high) in ap (slice_index gates) at ∙ none ] })
      | inr one ↦ (n + 1, record { few = omega arith; last = inr (let at : n + 1 - 1 ≡ n = omega arith in λ e. one (sym (ap (slice_index gates) at) ∙ e)); behind = λ i le lt. absurd (omega (arith, le, lt)) })
    ]

-- the model's word is that number
pub last_gate_known : (gates : List ℕ) → AreUpToLast gates (length gates) (last_gate gates)
last_gate_known gates = let had = some_last gates (length gates) in subst (λ (n : ℕ). AreUpToLast gates (length gates) n) (sym (last_gate_is gates had.0 had.1)) had.1

-- where all gates from one on are 0, the last gate that is not 0 is before it
pub last_gate_before : (gates : List ℕ) (n : ℕ) → ((i : ℕ) → n ≤ i → i < length gates → slice_index gates i ≡ 0) → last_gate gates ≤ n
last_gate_before gates n zeros =
    let known = last_gate_known gates in
    elim (either_side n (last_gate gates)) [
      | inl more ↦ elim known.last [
        | inl none ↦ absurd (omega (arith, more, none))
        | inr one ↦ absurd (one (zeros (last_gate gates - 1) (omega (arith, more)) (omega (arith, more, known.few))))
      ]
      | inr few ↦ few
    ]

-- where a gate behind the last one that is not 0 gets another value than 0, it is the last one
pub last_gate_opened : (gates : List ℕ) (slot gate : ℕ) → slot < length gates → last_gate gates ≤ slot → gate ≢ 0 → last_gate (slice_set gates slot gate) ≡ slot + 1
last_gate_opened gates slot gate inside behind_it some =
    let known = last_gate_known gates in
    let long = length-set gates slot gate in
    let at : slot + 1 - 1 ≡ slot = omega arith in
    last_gate_is (slice_set gates slot gate) (slot + 1) (record {
      few = omega (arith, inside, long);
      last = inr (λ e. some (sym (get_or-set_same gates slot gate 0 inside) ∙ sym (ap (slice_index (slice_set gates slot gate)) at) ∙ e));
      behind = λ i le lt. get_or-set_other gates slot i gate 0 (λ e. absurd (omega (arith, e, le))) ∙ known.behind i (omega (arith, behind_it, le)) (omega (arith, lt, long));
    })

-- where the gates up to the last one that is not 0 are closed, none is left
pub last_gate_closed : (gates : List ℕ) (used : ℕ) → used ≤ length gates → last_gate gates ≤ used → last_gate (replicate used 0 ++ drop used gates) ≡ 0
last_gate_closed gates used inside all =
    let known = last_gate_known gates in
    let zeros : List ℕ = replicate used 0 in
    let long : length zeros ≡ used = length-replicate {A = ℕ} used 0 in
    let whole : length (zeros ++ drop used gates) ≡ length gates = omega (arith, length-append zeros (drop used gates), long, length-drop used gates, inside) in
    last_gate_is (zeros ++ drop used gates) 0 (record {
      few = omega arith;
      last = inl refl;
      behind = λ i le lt. elim (either_side i used) [
        | inl low ↦ get_or_append_left zeros (drop used gates) 0 i (omega (arith, low, long)) ∙ get_or-replicate used i 0 0 low
        | inr high ↦
            let place : used + (i - used) ≡ i = omega (arith, high) in
            get_or-append_right zeros (drop used gates) used i 0 long high ∙ get_or-drop used gates (i - used) 0 ∙ ap (slice_index gates) place ∙ known.behind i (omega (arith, high, all)) (omega (arith, lt, whole))
      ];
    })
