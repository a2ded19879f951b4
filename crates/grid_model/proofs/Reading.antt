-- The lines of a script: what each asks, and the first that is nothing of the grammar.
use Rattle.std.proofs.Common.{◌≡◌, ◌≢◌, ◌<◌, ◌≤◌, ◌+◌, ◌-◌, ℕ, zero, suc, Bool, true, false, cond, List, [], ◌∷◌, take, fold, length, Option, Some, None, Result, Ok, Err, refl, sym, ap, ◌∙◌, arith, true≢false, slice_get, nat_lt, ltb-true, ltb-false, lt-ltb}
use Rattle.std.specs.Prelude.{filter_map}
use Rattle.std.specs.List.{range_with_len, cons_option}
use Rattle.std.specs.Option.{option_and_then, is_some}
use Rattle.grid_types.specs.declared.request.Line.{Line}
use Rattle.grid_model.specs.Script.{Meaning, Silent, Speaks, Asks, Bad, asked, also, meanings, longest, lines}
use Rattle.grid_model.specs.ScriptLaws.{speaker, line_of, IsFirstBadLine, IsOneScript}

-- a value and an error are told apart
abbrev is-ok : {X E : Type 0} → Result X E → Bool
is-ok (Ok x) = true
is-ok (Err e) = false

abbrev value-or : {X E : Type 0} → X → Result X E → X
value-or d (Ok x) = x
value-or d (Err e) = d

-- the error, or e where there is none
abbrev pub error-or : {X E : Type 0} → E → Result X E → E
error-or e (Ok x) = e
error-or e (Err f) = f

-- what is Ok is no Err
pub ok-is-no-err : {X E : Type 0} (x : X) (e : E) → Ok x ≡ Err e → ⊥
ok-is-no-err {X = X} {E = E} x e p = true≢false (ap (is-ok {X = X} {E = E}) p)

abbrev is-bad : {K : ℕ} → Option (Meaning K) → Bool
is-bad None = false
is-bad (Some Silent) = false
is-bad (Some (Speaks c)) = false
is-bad (Some (Asks r)) = false
is-bad (Some Bad) = true

-- no line is nothing of the grammar
abbrev NoneBad : {K : ℕ} → List (Meaning K) → Type 0
NoneBad ms = (i : ℕ) → slice_get ms i ≢ Some Bad

-- what line i asks, where a client spoke before the first
abbrev pub said : {K : ℕ} → ℕ → List (Meaning K) → ℕ → Option (Line K)
said client ms i = option_and_then (line_of (fold speaker client (take i ms))) (slice_get ms i)

one-more : (i : ℕ) → i + 1 ≡ suc i
one-more i = omega arith

place : (n j : ℕ) → n + 1 + j ≡ n + suc j
place n j = omega arith

counted : (n : ℕ) → 1 ≤ n → 1 + (n - 1) ≡ n
counted n h = omega (arith, h)

module _ {X : Type 0} where
  -- a range that begins one later
  shifted : (f g : ℕ → Option X) → ((i : ℕ) → f (i + 1) ≡ g i) → (a n : ℕ) → filter_map f (range_with_len (a + 1) n) ≡ filter_map g (range_with_len a n)
  shifted f g h a zero = refl
  shifted f g h a (suc n) = λ j. cons_option (h a j) (shifted f g h (a + 1) n j)

module _ {K : ℕ} where
  -- the lines that are asked, one after the other
  abbrev told : ℕ → List (Meaning K) → List (Line K)
  told client ms = filter_map (said client ms) (range_with_len 0 (length ms))

  told-more : (client : ℕ) (m : Meaning K) (ms : List (Meaning K)) → told client (m ∷ ms) ≡ cons_option (line_of client m) (told (speaker client m) ms)
  told-more client m ms = ap (cons_option (line_of client m)) (shifted (said client (m ∷ ms)) (said (speaker client m) ms) (λ i. ap (said client (m ∷ ms)) (one-more i)) 0 (length ms))

  -- where no line is nothing of the grammar, all that is asked is read
  none-bad-read : (n client : ℕ) (ms : List (Meaning K)) → NoneBad ms → asked n client ms ≡ Ok (told client ms)
  unfolding asked
  none-bad-read n client [] h = refl
  none-bad-read n client (Silent ∷ ms) h = none-bad-read (n + 1) client ms (λ i. h (suc i)) ∙ ap Ok (sym (told-more client Silent ms))
  none-bad-read n client (Speaks c ∷ ms) h = none-bad-read (n + 1) c ms (λ i. h (suc i)) ∙ ap Ok (sym (told-more client (Speaks c) ms))
  none-bad-read n client (Asks r ∷ ms) h = ap (also (record { client = client; request = r })) (none-bad-read (n + 1) client ms (λ i. h (suc i))) ∙ ap Ok (sym (told-more client (Asks r) ms))
  none-bad-read n client (Bad ∷ ms) h = absurd (h zero refl)

  also-ok : (l : Line K) (x : Result (List (Line K)) ℕ) (ls : List (Line K)) → also l x ≡ Ok ls → is-ok x ≡ true
  also-ok l (Ok y) ls e = refl
  also-ok l (Err y) ls e = absurd (ok-is-no-err ls y (sym e))

  also-err : (l : Line K) (x : Result (List (Line K)) ℕ) (n : ℕ) → also l x ≡ Err n → x ≡ Err n
  also-err l (Ok y) n e = absurd (ok-is-no-err (l ∷ y) n e)
  also-err l (Err y) n e = e

  -- where the lines are read, none is nothing of the grammar
  read-none-bad : (n client : ℕ) (ms : List (Meaning K)) → is-ok (asked n client ms) ≡ true → NoneBad ms
  unfolding asked
  read-none-bad n client [] e i p = true≢false (sym (ap is_some p))
  read-none-bad n client (Silent ∷ ms) e zero p = true≢false (sym (ap is-bad p))
  read-none-bad n client (Silent ∷ ms) e (suc i) p = read-none-bad (n + 1) client ms e i p
  read-none-bad n client (Speaks c ∷ ms) e zero p = true≢false (sym (ap is-bad p))
  read-none-bad n client (Speaks c ∷ ms) e (suc i) p = read-none-bad (n + 1) c ms e i p
  read-none-bad n client (Asks r ∷ ms) e zero p = true≢false (sym (ap is-bad p))
  read-none-bad n client (Asks r ∷ ms) e (suc i) p = read-none-bad (n + 1) client ms (inner (asked (n + 1) client ms) e) i p
    where
      inner : (x : Result (List (Line K)) ℕ) → is-ok (also (record { client = client; request = r }) x) ≡ true → is-ok x ≡ true
      inner (Ok y) q = refl
      inner (Err y) q = q
  read-none-bad n client (Bad ∷ ms) e i p = true≢false (sym e)

  -- the first fault from line n on: line e is nothing of the grammar, and none before it
  record IsFirstFrom (n : ℕ) (ms : List (Meaning K)) (e : ℕ) : Type 0 where
    some : n ≤ e
    bad : slice_get ms (e - n) ≡ Some Bad
    first : (i : ℕ) → i + n < e → slice_get ms i ≢ Some Bad

  later : (n : ℕ) (m : Meaning K) (ms : List (Meaning K)) (e : ℕ) → is-bad (Some m) ≡ false → IsFirstFrom (n + 1) ms e → IsFirstFrom n (m ∷ ms) e
  later n m ms e good h = record { some = omega (arith, h.some); bad = ap (slice_get (m ∷ ms)) shift ∙ h.bad; first = first }
    where
      shift : e - n ≡ suc (e - (n + 1))
      shift = omega (arith, h.some)

      first : (i : ℕ) → i + n < e → slice_get (m ∷ ms) i ≢ Some Bad
      first zero l p = true≢false (sym (ap is-bad p) ∙ good)
      first (suc i) l p = h.first i (omega (arith, l)) p

  fault-first : (n client : ℕ) (ms : List (Meaning K)) (e : ℕ) → asked n client ms ≡ Err e → IsFirstFrom n ms e
  unfolding asked
  fault-first n client [] e p = absurd (ok-is-no-err [] e p)
  fault-first n client (Silent ∷ ms) e p = later n Silent ms e refl (fault-first (n + 1) client ms e p)
  fault-first n client (Speaks c ∷ ms) e p = later n (Speaks c) ms e refl (fault-first (n + 1) c ms e p)
  fault-first n client (Asks r ∷ ms) e p = later n (Asks r) ms e refl (fault-first (n + 1) client ms e (also-err (record { client = client; request = r }) (asked (n + 1) client ms) e p))
  fault-first n client (Bad ∷ ms) e p =
      let same : n ≡ e = ap (error-or 0) p in
      record { some = omega (arith, same); bad = ap (slice_get (Bad ∷ ms)) (none e same); first = λ i l q. absurd (omega (arith, l, same)) }
    where
      none : (m : ℕ) → n ≡ m → m - n ≡ 0
      none m q = omega (arith, q)

  -- and the first is the fault
  first-fault : (n client : ℕ) (ms : List (Meaning K)) (j : ℕ) → slice_get ms j ≡ Some Bad → ((i : ℕ) → i < j → slice_get ms i ≢ Some Bad) → asked n client ms ≡ Err (n + j)
  unfolding asked
  first-fault n client [] j p h = absurd (true≢false (sym (ap is_some p)))
  first-fault n client (Bad ∷ ms) zero p h = ap Err (plus-none n)
    where
      plus-none : (m : ℕ) → m ≡ m + 0
      plus-none m = omega arith
  first-fault n client (Bad ∷ ms) (suc j) p h = absurd (h zero (omega arith) refl)
  first-fault n client (Silent ∷ ms) zero p h = absurd (true≢false (sym (ap is-bad p)))
  first-fault n client (Silent ∷ ms) (suc j) p h = first-fault (n + 1) client ms j p (λ i l. h (suc i) (omega (arith, l))) ∙ ap Err (place n j)
  first-fault n client (Speaks c ∷ ms) zero p h = absurd (true≢false (sym (ap is-bad p)))
  first-fault n client (Speaks c ∷ ms) (suc j) p h = first-fault (n + 1) c ms j p (λ i l. h (suc i) (omega (arith, l))) ∙ ap Err (place n j)
  first-fault n client (Asks r ∷ ms) zero p h = absurd (true≢false (sym (ap is-bad p)))
  first-fault n client (Asks r ∷ ms) (suc j) p h = ap (also (record { client = client; request = r })) (first-fault (n + 1) client ms j p (λ i l. h (suc i) (omega (arith, l)))) ∙ ap Err (place n j)

  -- the lines of a text that is short enough
  short : (bytes : List ℕ) → length bytes ≤ longest → lines K bytes ≡ asked 1 1 (meanings K bytes)
  unfolding lines
  short bytes h = by (nat_lt longest (length bytes)) refl
    where
      by : (t : Bool) → nat_lt longest (length bytes) ≡ t → cond t (Err 0) (asked 1 1 (meanings K bytes)) ≡ asked 1 1 (meanings K bytes)
      by true e = absurd (omega (arith, h, ltb-true longest (length bytes) e))
      by false e = refl

  too-long : (bytes : List ℕ) → longest < length bytes → lines K bytes ≡ Err 0
  unfolding lines
  too-long bytes h = ap (λ t. cond t (Err 0) (asked 1 1 (meanings K bytes))) (lt-ltb longest (length bytes) h)

  no-line-zero : (bytes : List ℕ) → lines K bytes ≡ Err 0 → longest < length bytes
  no-line-zero bytes e = by (nat_lt longest (length bytes)) refl
    where
      by : (t : Bool) → nat_lt longest (length bytes) ≡ t → longest < length bytes
      by true p = ltb-true longest (length bytes) p
      by false p = absurd (omega (arith, (fault-first 1 1 (meanings K bytes) 0 (sym (short bytes (ltb-false longest (length bytes) p)) ∙ e)).some))

  first-of : (ms : List (Meaning K)) (n : ℕ) → IsFirstFrom 1 ms n → IsFirstBadLine ms n
  first-of ms n h = record { some = h.some; bad = h.bad; first = h.first }

  fault-of : (ms : List (Meaning K)) (n : ℕ) → IsFirstBadLine ms n → asked 1 1 ms ≡ Err n
  fault-of ms n h = first-fault 1 1 ms (n - 1) h.bad (λ i l. h.first i (omega (arith, l))) ∙ ap Err (counted n h.some)

  whole-of : (ms : List (Meaning K)) (ls : List (Line K)) → asked 1 1 ms ≡ Ok ls → NoneBad ms × (ls ≡ told 1 ms)
  whole-of ms ls e =
      let none = read-none-bad 1 1 ms (ap is-ok e) in
      (none, ap (value-or []) (sym e ∙ none-bad-read 1 1 ms none))

  -- a script has one list of lines or one first fault
  pub one-script : IsOneScript K
  one-script = record {
    long = λ bytes. (no-line-zero bytes, too-long bytes);
    fault = λ bytes n h. (λ e. first-of (meanings K bytes) n (fault-first 1 1 (meanings K bytes) n (sym (short bytes h) ∙ e)), λ f. short bytes h ∙ fault-of (meanings K bytes) n f);
    whole = λ bytes ls h. (λ e. whole-of (meanings K bytes) ls (sym (short bytes h) ∙ e), λ w. short bytes h ∙ none-bad-read 1 1 (meanings K bytes) w.0 ∙ ap Ok (sym w.1));
  }
