-- The lines of a script that the program takes, and the first that it refuses.
use Rattle.std.proofs.lemmas.List.{length-map}
use Rattle.std.proofs.lemmas.List.Elements.{All-same, All-push, All-weaker}
use Rattle.std.proofs.lemmas.Bool.Decides.{nat_tests}
use Rattle.std.proofs.lemmas.List.FromFn.{length-range_with_len}
use Rattle.std.proofs.Common.{◌==◌, cond, nat_le, nat_lt, leb-true, leb-false, eqb-true, ◌≡◌, ◌<◌, ◌≤◌, ◌+◌, ◌-◌, ◌⊎◌, ⊎_elim, ℕ, zero, suc, Bool, true, false, List, [], ◌∷◌, ◌++◌, fold, take, length, Option, Some, None, IsTrue, IsFalse, Ok, Err, refl, sym, ap, subst, ◌∙◌, arith, true≢false, slice_get}
use Rattle.std.specs.Prelude.{filter_map}
use Rattle.std.specs.List.{All, Contains, range_with_len, cons_option}
use Rattle.std.specs.Option.{option_and_then}
use Rattle.grid_types.specs.declared.request.Line.{Line}
use Rattle.grid_types.specs.declared.request.Request.{Request}
use Rattle.grid_model.specs.Lists.{below}
use Rattle.grid_model.specs.Script.{Meaning, Silent, Speaks, Asks, Bad, meaning, lines, lines_of, onto_first, meanings, asked, longest}
use Rattle.grid_model.specs.ScriptLaws.{line_at, line_of, speaker, speaker_at}
use Rattle.grid_model.proofs.Reading.{one-script, ok-is-no-err}
use Rattle.grid_model.proofs.Boxes.{one-value, some-not-none}
use Rattle.grid_script.specs.Taken.{is_taken, AreTaken, IsScript, Refuses, IsRefused, IsFirstRefused, IsFault, RefusesNone}

-- a text has no more lines than bytes
length-onto_first : (b : ℕ) (ls : List (List ℕ)) (n : ℕ) → length ls ≤ n → length (onto_first b ls) ≤ suc n
length-onto_first b [] n h = omega arith
length-onto_first b (l ∷ ls) n h = omega (arith, h)

length-lines_of : (bytes : List ℕ) → length (lines_of bytes) ≤ length bytes
unfolding lines_of
length-lines_of [] = omega arith
length-lines_of (b ∷ bs) = cases (b == 10) (length-lines_of bs)
  where
    cases : (t : Bool) → length (lines_of bs) ≤ length bs → length (cond t ([] ∷ lines_of bs) (onto_first b (lines_of bs))) ≤ suc (length bs)
    cases true h = omega (arith, h)
    cases false h = length-onto_first b (lines_of bs) (length bs) h

lower_or_higher : (n m : ℕ) → (n == m) ≡ false → (n < m) ⊎ (m < n)
lower_or_higher n m e = grind (arith, nat_tests)

slice_get-inside : {X : Type 0} (xs : List X) (i : ℕ) (x : X) → slice_get xs i ≡ Some x → i < length xs
slice_get-inside [] i x e = absurd (some-not-none x (sym e))
slice_get-inside (y ∷ ys) zero x e = omega arith
slice_get-inside (y ∷ ys) (suc i) x e = omega (arith, slice_get-inside ys i x e)

not-false : (t : Bool) → (IsFalse t → ⊥) → IsTrue t
not-false true h = refl
not-false false h = absurd (h refl)

module _ {K : ℕ} where
  -- line i is refused, where this client spoke before the first
  pub record Bars (client : ℕ) (ms : List (Meaning K)) (i : ℕ) : Type 0 where
    pub says : Meaning K
    pub there : slice_get ms i ≡ Some says
    pub refused : Refuses (fold speaker client (take i ms)) says

  -- line j is the first that is refused
  pub record Stops (client : ℕ) (ms : List (Meaning K)) (j : ℕ) : Type 0 where
    pub refused : Bars client ms j
    pub first : (i : ℕ) → i < j → Bars client ms i → ⊥

  first-bars : (client : ℕ) (m : Meaning K) (ms : List (Meaning K)) → (Refuses client m → ⊥) → Bars client (m ∷ ms) 0 → ⊥
  first-bars client m ms p b = p (subst (Refuses client) (sym (one-value m b.says b.there)) b.refused)

  bars-tail : (client : ℕ) (m : Meaning K) (ms : List (Meaning K)) (i : ℕ) → Bars client (m ∷ ms) (suc i) → Bars (speaker client m) ms i
  bars-tail client m ms i b = record { says = b.says; there = b.there; refused = b.refused }

  bars-cons : (client : ℕ) (m : Meaning K) (ms : List (Meaning K)) (i : ℕ) → Bars (speaker client m) ms i → Bars client (m ∷ ms) (suc i)
  bars-cons client m ms i b = record { says = b.says; there = b.there; refused = b.refused }

  -- behind a line that passes the first that is refused is one later
  stops-later : (client : ℕ) (m : Meaning K) (ms : List (Meaning K)) (j : ℕ) → (Refuses client m → ⊥) → Stops (speaker client m) ms j → Stops client (m ∷ ms) (suc j)
  stops-later client m ms j p h = record { refused = bars-cons client m ms j h.refused; first = first }
    where
      first : (i : ℕ) → i < suc j → Bars client (m ∷ ms) i → ⊥
      first zero q b = first-bars client m ms p b
      first (suc i) q b = h.first i (omega (arith, q)) (bars-tail client m ms i b)

  -- so far a text was read: where the rest stops all does
  pub record Follows (all : List (Meaning K)) (client : ℕ) (rest : List (Meaning K)) (number : ℕ) : Type 0 where
    pub stops : (j : ℕ) → Stops client rest j → Stops 1 all (number - 1 + j)

  -- one line more
  pub follows-more : (all : List (Meaning K)) (client : ℕ) (m : Meaning K) (ms rest : List (Meaning K)) (number : ℕ) → 1 ≤ number → rest ≡ m ∷ ms → (Refuses client m → ⊥) → Follows all client rest number → (next past : ℕ) → next ≡ speaker client m → past ≡ number + 1 → Follows all next ms past
  follows-more all client m ms rest number some e p h next past who later = record {
    stops = λ j t. subst (Stops 1 all) (onward j) (h.stops (suc j) (subst (λ (xs : List (Meaning K)). Stops client xs (suc j)) (sym e) (stops-later client m ms j p (subst (λ c. Stops c ms j) who t))));
  }
    where
      onward : (j : ℕ) → number - 1 + suc j ≡ past - 1 + j
      onward j = omega (arith, some, later)

  -- the line at which it stops
  pub stops-here : (client : ℕ) (m : Meaning K) (ms : List (Meaning K)) → Refuses client m → Stops client (m ∷ ms) 0
  stops-here client m ms r = record { refused = record { says = m; there = refl; refused = r }; first = λ i q b. absurd (omega (arith, q)) }

  as-refused : (ms : List (Meaning K)) (i : ℕ) → Bars 1 ms i → IsRefused ms i
  as-refused ms i r = record { says = r.says; there = r.there; refused = r.refused }

  as-barred : (ms : List (Meaning K)) (i : ℕ) → IsRefused ms i → Bars 1 ms i
  as-barred ms i r = record { says = r.says; there = r.there; refused = r.refused }

  pub first-of : (bytes : List ℕ) (number : ℕ) → 1 ≤ number → Stops 1 (meanings K bytes) (number - 1 + 0) → IsFirstRefused K bytes number
  first-of bytes number some h = record {
    some = some;
    refused = subst (IsRefused (meanings K bytes)) (same number) (as-refused (meanings K bytes) (number - 1 + 0) h.refused);
    first = λ i q r. h.first i (omega (arith, q)) (as-barred (meanings K bytes) i r);
  }
    where
      same : (n : ℕ) → n - 1 + 0 ≡ n - 1
      same n = omega arith

  -- where the next line is refused, it is the first that is
  pub refused-next : (bytes : List ℕ) (client : ℕ) (m : Meaning K) (ms rest : List (Meaning K)) (number n : ℕ) → 1 ≤ number → number ≡ n → rest ≡ m ∷ ms → Refuses client m → Follows (meanings K bytes) client rest number → IsFirstRefused K bytes n
  refused-next bytes client m ms rest number n some e next r h =
      subst (IsFirstRefused K bytes) e (first-of bytes number some (h.stops 0 (subst (λ (xs : List (Meaning K)). Stops client xs 0) (sym next) (stops-here client m ms r))))

  -- one line more that is not refused
  pub taken-more : (ls longer : List (Line K)) (client : ℕ) (r : Request K) → longer ≡ ls ++ (record { client = client; request = r }) ∷ [] → (Refuses client (Asks r) → ⊥) → AreTaken ls → AreTaken longer
  taken-more ls longer client r e p h =
      let l : Line K = record { client = client; request = r } in
      All-same (λ x. IsTrue (is_taken x)) longer (ls ++ l ∷ []) e (All-push (λ x. IsTrue (is_taken x)) ls l h (not-false (is_taken l) p))

  -- a text that is read is short enough
  pub read-short : (bytes : List ℕ) (asked : List (Line K)) → lines K bytes ≡ Ok asked → length bytes ≤ longest
  read-short bytes asked e = cases (nat_le (length bytes) longest) refl
    where
      cases : (t : Bool) → nat_le (length bytes) longest ≡ t → length bytes ≤ longest
      cases true p = leb-true (length bytes) longest p
      cases false p = absurd (ok-is-no-err asked 0 (sym e ∙ ((one-script {K = K}).long bytes).1 (omega (arith, leb-false (length bytes) longest p))))

  length-filter_map : {X : Type 0} (f : X → Option (Line K)) (xs : List X) → length (filter_map f xs) ≤ length xs
  length-filter_map f [] = omega arith
  length-filter_map f (x ∷ xs) = cases (f x) (length-filter_map f xs)
    where
      cases : (o : Option (Line K)) → length (filter_map f xs) ≤ length xs → length (cons_option o (filter_map f xs)) ≤ suc (length xs)
      cases None h = omega (arith, h)
      cases (Some m) h = omega (arith, h)

  -- a script asks no more than it has bytes
  pub few-asked : (bytes : List ℕ) (asked : List (Line K)) → lines K bytes ≡ Ok asked → length asked ≤ length bytes
  few-asked bytes asked e =
      omega (arith, ap length (((one-script {K = K}).whole bytes asked (read-short bytes asked e)).0 e).1, length-filter_map (line_at (meanings K bytes)) (below (length (meanings K bytes))), length-range_with_len 0 (length (meanings K bytes)), length-map (lines_of bytes) (meaning K), length-lines_of bytes)

  -- the lines of a text that is not too long are read one by one
  pub lines-read : (bytes : List ℕ) (ls : List (Line K)) → false ≡ nat_lt longest (length bytes) → asked 1 1 (meanings K bytes) ≡ Ok ls → lines K bytes ≡ Ok ls
  unfolding lines
  lines-read bytes ls short e = ap (λ t. cond t (Err 0) (asked 1 1 (meanings K bytes))) (sym short) ∙ e

  -- the fault of a text that is not too long is the first line that is refused
  pub fault-short : (bytes : List ℕ) (n : ℕ) → (longest < length bytes → ⊥) → IsFirstRefused K bytes n → IsFault K bytes n
  fault-short bytes n short f = record { long = λ long. absurd (short long); short = λ h. f }

  filter_map-contains : (f : ℕ → Option (Line K)) (a n i : ℕ) (l : Line K) → a ≤ i → i < a + n → f i ≡ Some l → Contains (filter_map f (range_with_len a n)) l
  filter_map-contains f a zero i l p q e = absurd (omega (arith, p, q))
  filter_map-contains f a (suc n) i l p q e = cases (a == i) refl (filter_map-contains f (a + 1) n i l)
    where
      after : (o : Option (Line K)) → Contains (filter_map f (range_with_len (a + 1) n)) l → Contains (cons_option o (filter_map f (range_with_len (a + 1) n))) l
      after None c = c
      after (Some m) c = (suc c.0, omega (arith, c.1), c.2)

      first : (o : Option (Line K)) → o ≡ Some l → Contains (cons_option o (filter_map f (range_with_len (a + 1) n))) l
      first None g = absurd (some-not-none l (sym g))
      first (Some m) g = (zero, omega arith, one-value m l g)

      cases : (t : Bool) → (a == i) ≡ t → (a + 1 ≤ i → i < a + 1 + n → f i ≡ Some l → Contains (filter_map f (range_with_len (a + 1) n)) l) → Contains (cons_option (f a) (filter_map f (range_with_len (a + 1) n))) l
      cases true g rest = first (f a) (ap f (eqb-true a i g) ∙ e)
      cases false g rest = after (f a) (rest (grind (arith, p, g)) (omega (arith, q)) e)

  -- a line of a script is taken
  taken-one : (asked : List (Line K)) (l : Line K) → AreTaken asked → Contains asked l → IsTrue (is_taken l)
  taken-one asked l each c = subst (λ x. IsTrue (is_taken x)) c.2 (each c.0 l c.1)

  -- each line of a script is client 1's
  pub script-clients : (bytes : List ℕ) (asked : List (Line K)) → IsScript bytes asked → All (λ l. l.client ≡ 1) asked
  unfolding is_taken
  script-clients bytes asked s = All-weaker (λ l. IsTrue (is_taken l)) (λ l. l.client ≡ 1) (λ l t. eqb-true l.client 1 t) asked s.taken

  -- no line of a script is refused
  none-refused : (bytes : List ℕ) (asked : List (Line K)) → IsScript bytes asked → RefusesNone K bytes
  none-refused bytes asked s i r = cases r.says r.there r.refused
    where
      ms : List (Meaning K)
      ms = meanings K bytes

      says : ((j : ℕ) → slice_get ms j ≡ Some Bad → ⊥) × (asked ≡ filter_map (line_at ms) (below (length ms)))
      says = ((one-script {K = K}).whole bytes asked (read-short bytes asked s.read)).0 s.read

      cases : (m : Meaning K) → slice_get ms i ≡ Some m → Refuses (speaker_at ms i) m → ⊥
      cases Silent e f = f
      cases (Speaks c) e f = f
      cases Bad e f = says.0 i e
      cases (Asks q) e f =
          let l : Line K = record { client = speaker_at ms i; request = q } in
          let listed = filter_map-contains (line_at ms) 0 (length ms) i l (omega arith) (omega (arith, slice_get-inside ms i (Asks q) e)) (ap (λ x. option_and_then (line_of (speaker_at ms i)) x) e) in
          true≢false (sym (taken-one asked l s.taken (subst (λ ls. Contains ls l) (sym says.1) listed)) ∙ f)

  -- a script has no fault
  pub script-sound : (bytes : List ℕ) (asked : List (Line K)) (n : ℕ) → IsScript bytes asked → IsFault K bytes n → ⊥
  script-sound bytes asked n s f = none-refused bytes asked s (n - 1) (f.short (read-short bytes asked s.read)).refused

  -- of two lines the earlier is not refused, where the other is the first that is
  not-before : (bytes : List ℕ) (n m : ℕ) → IsFirstRefused K bytes n → IsFirstRefused K bytes m → n < m → ⊥
  not-before bytes n m f g lt = g.first (n - 1) (omega (arith, f.some, lt)) f.refused

  first-one : (bytes : List ℕ) (n m : ℕ) → IsFirstRefused K bytes n → IsFirstRefused K bytes m → n ≡ m
  first-one bytes n m f g = cases (n == m) refl
    where
      cases : (t : Bool) → (n == m) ≡ t → n ≡ m
      cases true e = eqb-true n m e
      cases false e = absurd (⊎_elim (not-before bytes n m f g) (not-before bytes m n g f) (lower_or_higher n m e))

  -- a text has one fault at most
  pub fault-one : (bytes : List ℕ) (n m : ℕ) → IsFault K bytes n → IsFault K bytes m → n ≡ m
  fault-one bytes n m f g = cases (nat_le (length bytes) longest) refl
    where
      cases : (t : Bool) → nat_le (length bytes) longest ≡ t → n ≡ m
      cases true e =
          let short : length bytes ≤ longest = leb-true (length bytes) longest e in
          first-one bytes n m (f.short short) (g.short short)
      cases false e =
          let long : longest < length bytes = omega (arith, leb-false (length bytes) longest e) in
          f.long long ∙ sym (g.long long)
