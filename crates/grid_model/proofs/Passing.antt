-- Forks, entries and joins keep passes passes.
use Rattle.std.proofs.Common.{◌≡◌, ◌<◌, ◌≤◌, ◌+◌, ◌++◌, ◌==◌, ℕ, Bool, true, false, cond, List, [], ◌∷◌, map, filter, take, min, length, refl, sym, ap, subst, ◌∙◌, arith, All, Contains, length-take, eqb-true}
use Rattle.std.proofs.lemmas.List.{map-append, take-append-le}
use Rattle.std.specs.List.{enumerate_from}
use Rattle.std.proofs.lemmas.List.Elements.{All-cons, All-nil, All-head, All-tail, All-take, All-push, All-weaker, All-contains}
use Rattle.grid_types.specs.declared.update.Entry.{Entry}
use Rattle.grid_model.specs.Lists.{AreDistinct}
use Rattle.grid_model.specs.Histories.{History}
use Rattle.grid_model.specs.TableLaws.{extended}
use Rattle.grid_model.specs.Passes.{Pass, places_of, IsPassOf, AreCallersBelow, ArePasses}
use Rattle.grid_model.specs.PassLaws.{first_pass, forked, KeepsPasses}

-- a number that is above another is not the other
above-differs : (n m : ℕ) (b : Bool) → n < m → (n == m) ≡ b → b ≡ false
above-differs n m true l e = absurd (omega (arith, l, eqb-true n m e))
above-differs n m false l e = refl

-- what holds of each item behind others holds where one between is left out
left-out : {X : Type 0} (P : X → Type 0) (xs : List X) (x : X) (ys : List X) → All P (xs ++ x ∷ ys) → All P (xs ++ ys)
left-out P [] x ys h = All-tail P x ys h
left-out P (z ∷ xs) x ys h = All-cons P z (xs ++ ys) (All-head P z (xs ++ x ∷ ys) h) (left-out P xs x ys (All-tail P z (xs ++ x ∷ ys) h))

-- a number above all has no place among them
none-counted : (n : ℕ) (cs : List ℕ) → All (λ c. c < n) cs → length (filter (λ c. c == n) cs) ≡ 0
none-counted n [] h = refl
none-counted n (c ∷ cs) h =
    ap (λ b. length (cond b (c ∷ filter (λ m. m == n) cs) (filter (λ m. m == n) cs))) (above-differs c n (c == n) (All-head (λ m. m < n) c cs h) refl)
    ∙ none-counted n cs (All-tail (λ m. m < n) c cs h)

-- the numbers stay distinct with one above them
one-above : (n : ℕ) (cs : List ℕ) → All (λ c. c < n) cs → AreDistinct cs → AreDistinct (n ∷ cs)
one-above n cs below distinct m = by (n == m) refl
  where
    by : (b : Bool) → (n == m) ≡ b → length (cond b (n ∷ filter (λ c. c == m) cs) (filter (λ c. c == m) cs)) ≤ 1
    by true e = let none = subst (λ k. length (filter (λ c. c == k) cs) ≡ 0) (eqb-true n m e) (none-counted n cs below) in omega (arith, none)
    by false e = distinct m

-- one number less is counted at most as often
fewer : (n : ℕ) (xs : List ℕ) (x : ℕ) (ys : List ℕ) → length (filter (λ c. c == n) (xs ++ ys)) ≤ length (filter (λ c. c == n) (xs ++ x ∷ ys))
fewer n [] x ys = by (x == n)
  where
    by : (b : Bool) → length (filter (λ c. c == n) ys) ≤ length (cond b (x ∷ filter (λ c. c == n) ys) (filter (λ c. c == n) ys))
    by true = omega arith
    by false = omega arith
fewer n (z ∷ xs) x ys = by (z == n) (fewer n xs x ys)
  where
    by : (b : Bool) → length (filter (λ c. c == n) (xs ++ ys)) ≤ length (filter (λ c. c == n) (xs ++ x ∷ ys))
        → length (cond b (z ∷ filter (λ c. c == n) (xs ++ ys)) (filter (λ c. c == n) (xs ++ ys))) ≤ length (cond b (z ∷ filter (λ c. c == n) (xs ++ x ∷ ys)) (filter (λ c. c == n) (xs ++ x ∷ ys)))
    by true l = omega (arith, l)
    by false l = l

module _ {K : ℕ} where
  -- where each caller has a number below another, the other has no entry
  no-place : (from caller : ℕ) (es : List (Entry K)) → All (λ (e : Entry K). e.caller < caller) es → [] ≡ places_of from caller es
  no-place from caller [] h = refl
  no-place from caller (e ∷ es) h =
      no-place (from + 1) caller es (All-tail (λ (x : Entry K). x.caller < caller) e es h)
      ∙ ap (λ b. map (λ p. p.0) (cond b ((from, e) ∷ filter (λ p. p.1.caller == caller) (enumerate_from (from + 1) es)) (filter (λ p. p.1.caller == caller) (enumerate_from (from + 1) es))))
      (sym (above-differs e.caller caller (e.caller == caller) (All-head (λ (x : Entry K). x.caller < caller) e es h) refl))

  callers : List (Pass K) → List ℕ
  callers ps = map (λ p. p.caller) ps

  callers-below : (made : ℕ) (ps : List (Pass K)) → All (λ (p : Pass K). p.caller < made) ps → All (λ c. c < made) (callers ps)
  unfolding callers
  callers-below made [] h = All-nil (λ c. c < made)
  callers-below made (p ∷ ps) h = All-cons (λ c. c < made) p.caller (callers ps) (All-head (λ (q : Pass K). q.caller < made) p ps h) (callers-below made ps (All-tail (λ (q : Pass K). q.caller < made) p ps h))

  -- a pass that is forked from one of a history is one of it
  forked-of : (made : ℕ) (h : History K) (p : Pass K) → AreCallersBelow made h → IsPassOf p h → IsPassOf (forked made p) h
  forked-of made h p below is = record {
    beginning = is.beginning;
    own = no-place (h.from + 1) made p.seen (subst (All (λ (e : Entry K). e.caller < made)) (sym is.beginning) (All-take (λ (e : Entry K). e.caller < made) (length p.seen) h.entries below));
  }

  fork : (made : ℕ) (ps : List (Pass K)) (h : History K) (p : Pass K) → ArePasses made ps h → Contains ps p → ArePasses (made + 1) (forked made p ∷ ps) h
  unfolding callers
  fork made ps h p are there = record {
    each = All-cons (λ q. IsPassOf q h) (forked made p) ps (forked-of made h p are.callers (All-contains (λ q. IsPassOf q h) ps p are.each there)) are.each;
    below = All-cons (λ (q : Pass K). q.caller < made + 1) (forked made p) ps (omega arith) (All-weaker (λ (q : Pass K). q.caller < made) (λ q. q.caller < made + 1) (λ q l. omega (arith, l)) ps are.below);
    apart = one-above made (callers ps) (callers-below made ps are.below) are.apart;
    callers = All-weaker (λ (e : Entry K). e.caller < made) (λ e. e.caller < made + 1) (λ e l. omega (arith, l)) h.entries are.callers;
  }

  -- what a pass has seen is a beginning of a longer history too
  seen-still : (seen es : List (Entry K)) (e : Entry K) → seen ≡ take (length seen) es → seen ≡ take (length seen) (es ++ e ∷ [])
  seen-still seen es e is =
      let few : length seen ≡ min (length seen) (length es) = ap length is ∙ length-take (length seen) es in
      is ∙ sym (take-append-le (length seen) es (e ∷ []) (omega (arith, few)))

  entry : (made : ℕ) (ps : List (Pass K)) (h : History K) (e : Entry K) → ArePasses made ps h → e.caller < made → ArePasses made ps (extended h e)
  entry made ps h e are one = record {
    each = All-weaker (λ (p : Pass K). IsPassOf p h) (λ p. IsPassOf p (extended h e)) (λ p is. record { beginning = seen-still p.seen h.entries e is.beginning; own = is.own }) ps are.each;
    below = are.below;
    apart = are.apart;
    callers = All-push (λ (x : Entry K). x.caller < made) h.entries e are.callers one;
  }

  join : (made : ℕ) (before : List (Pass K)) (p : Pass K) (behind : List (Pass K)) (h : History K) → ArePasses made (before ++ p ∷ behind) h → ArePasses made (before ++ behind) h
  unfolding callers
  join made before p behind h are = record {
    each = left-out (λ q. IsPassOf q h) before p behind are.each;
    below = left-out (λ (q : Pass K). q.caller < made) before p behind are.below;
    apart = λ n.
        let few = fewer n (callers before) p.caller (callers behind) in
        let all = subst (λ cs. length (filter (λ c. c == n) cs) ≤ 1) (map-append (λ (q : Pass K). q.caller) before (p ∷ behind)) (are.apart n) in
        subst (λ cs. length (filter (λ c. c == n) cs) ≤ 1) (sym (map-append (λ (q : Pass K). q.caller) before behind)) (omega (arith, few, all));
    callers = are.callers;
  }

  first : (h : History K) → h.entries ≡ [] → ArePasses 1 (first_pass K ∷ []) h
  first h none = record {
    each = All-cons (λ q. IsPassOf q h) (first_pass K) [] (record { beginning = refl; own = refl }) (All-nil (λ q. IsPassOf q h));
    below = All-cons (λ (q : Pass K). q.caller < 1) (first_pass K) [] (omega arith) (All-nil (λ (q : Pass K). q.caller < 1));
    apart = one-above 0 [] (All-nil (λ c. c < 0)) (λ n. omega arith);
    callers = subst (All (λ (e : Entry K). e.caller < 1)) (sym none) (All-nil (λ (e : Entry K). e.caller < 1));
  }

  -- passes stay passes
  pub keeps-passes : KeepsPasses K
  keeps-passes = record { first = first; fork = fork; entry = entry; join = join }
