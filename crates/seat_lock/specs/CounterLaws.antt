-- The counter keeps the laws of what lies in a lock.
use Rattle.std.specs.Prelude.{◌≡◌, ◌≢◌, ℕ, ◌+◌, ◌<◌, ◌≤◌, zero, suc, List, [], ◌∷◌, ◌++◌, length, Option, Some, None, Ok, Err, get_or, set}
use Rattle.std.proofs.lemmas.Option.{none-some}
use Rattle.std.proofs.lemmas.List.{get_or-set_same, get_or-set_other}
use Rattle.std.proofs.Common.{refl, sym, ◌∙◌, ap, subst, inl, inr, arith, length-append, length-set, le_refl, le_trans}
use mathlib.Core.List.{append-nil}
use Rattle.atomic_table.proofs.Lists.{at_set}
use Rattle.seat_lock.specs.Parts.{Has, Meets, StaysSafe, Keeps, Forked, Joined}
use Rattle.seat_lock.specs.Laws.{Laws}
use Rattle.seat_lock.specs.declared.counter.Counter.{Counter}
use Rattle.seat_lock.specs.declared.counter.Ask.{Ask}
use Rattle.seat_lock.specs.declared.counter.Ask.TheVariants.{Add, Reach, Share}
use Rattle.seat_lock.specs.Counters.{place_count, told_count, appended_by, enabled_in, with_count_told, counter_after, without_place, CountsHistory, CounterDoes, CounterForks}

-- one part follows another where it is no smaller
abbrev pub IsNoLess : ℕ → ℕ → Type 0
IsNoLess x y = x ≤ y

abbrev CounterMeets : Counter → ℕ → ℕ → List ℕ → List (Option ℕ) → Type 0
CounterMeets = Meets told_count IsNoLess place_count CountsHistory

abbrev CounterStays : ℕ → ℕ → Counter → Counter → List ℕ → List (Option ℕ) → Type 0
CounterStays = StaysSafe told_count IsNoLess place_count CountsHistory

abbrev CounterKeeps : ℕ → ℕ → Counter → Counter → List ℕ → List (Option ℕ) → Type 0
CounterKeeps = Keeps told_count IsNoLess place_count CountsHistory

-- where a place has a part it is one of the list
some_in_bounds : (l : List (Option ℕ)) (p x : ℕ) → get_or l p None ≡ Some x → p < length l
some_in_bounds [] p x e = absurd (none-some x e)
some_in_bounds (y ∷ ys) zero x e = omega arith
some_in_bounds (y ∷ ys) (suc p) x e = let h = some_in_bounds ys p x e in omega arith

-- where each part that a seat has is the list's, it stays so where both have another at one place
owned_set : (l parts : List (Option ℕ)) (i : ℕ) (a : Option ℕ) → i < length l → ((p x : ℕ) → p ≢ i → Has parts p x → get_or l p None ≡ Some x) → (p x : ℕ) → Has (set parts i a) p x → get_or (set l i a) p None ≡ Some x
owned_set l parts i a h owned p x has = elim (at_set parts i p a (Some x) has) [
  | inl t ↦ ap (λ k. get_or (set l i a) k None) t.0 ∙ (get_or-set_same l i a None h ∙ t.1)
  | inr t ↦ get_or-set_other l i p a None t.0 ∙ owned p x t.0 t.1
]

-- and where the seats' one part becomes what the list has already
owned_same : (l parts : List (Option ℕ)) (i y : ℕ) → get_or l i None ≡ Some y → ((p x : ℕ) → Has parts p x → get_or l p None ≡ Some x) → (p x : ℕ) → Has (set parts i (Some y)) p x → get_or l p None ≡ Some x
owned_same l parts i y is owned p x has = elim (at_set parts i p (Some y) (Some x) has) [
  | inl t ↦ ap (λ k. get_or l k None) t.0 ∙ (is ∙ t.1)
  | inr t ↦ owned p x t.1
]

-- a counter that told its seat a count keeps safe, where that is the history's
told_keeps : (s : Counter) (seat n from x : ℕ) (history more : List ℕ) (parts : List (Option ℕ)) → CountsHistory s from history parts → told_count s seat ≡ Some x → n ≡ from + length (history ++ more)
    → CounterKeeps seat from s (with_count_told s seat n) (history ++ more) parts
told_keeps s seat n from x history more parts safe e len = let h = some_in_bounds s.parts seat x e in record {
  stays = record {
    part = n;
    part_is = get_or-set_same s.parts seat (Some n) None h;
    kept = record { counted = len; owned = owned_set s.parts parts seat (Some n) h (λ p y _ has. safe.owned p y has) };
    same = length-set s.parts seat (Some n);
  };
  moves = λ p y other is. (y, get_or-set_other s.parts seat p (Some n) None other ∙ is, le_refl y);
}

event_keeps : (s : Counter) (seat from x : ℕ) (history : List ℕ) (parts : List (Option ℕ)) (event : Ask) → CountsHistory s from history parts → told_count s seat ≡ Some x
    → CounterKeeps seat from s (counter_after s seat event) (history ++ appended_by s seat event) parts
event_keeps s seat from x history parts Add safe e = told_keeps s seat (s.count + 1) from x history (seat ∷ []) parts safe e (let h = safe.counted in omega (arith, length-append history (seat ∷ [])))
event_keeps s seat from x history parts (Reach n) safe e = told_keeps s seat s.count from x history [] parts safe e (safe.counted ∙ ap (λ (h : List ℕ). from + length h) (sym (append-nil history)))
event_keeps s seat from x history parts (Share n) safe e = told_keeps s seat s.count from x history [] parts safe e (safe.counted ∙ ap (λ (h : List ℕ). from + length h) (sym (append-nil history)))

-- an event keeps the counter safe
step_keeps : (s t : Counter) (seat from : ℕ) (history : List ℕ) (parts : List (Option ℕ)) (event : Ask) (reply : ℕ) → CounterMeets s seat from history parts → CounterDoes s seat event t reply
    → CounterKeeps seat from s t (history ++ appended_by s seat event) parts
step_keeps s t seat from history parts event reply m did = subst (λ (u : Counter). CounterKeeps seat from s u (history ++ appended_by s seat event) parts) (sym did.0) (event_keeps s seat from m.found history parts event m.is_safe m.found_is)

-- a move that leaves the seat's own part as it was keeps the counter safe, where each part that a seat has is still the counter's
unmoved_stays : (s t : Counter) (seat from : ℕ) (history : List ℕ) (parts ps : List (Option ℕ)) (y : ℕ) → CountsHistory s from history parts → t.count ≡ s.count → told_count t seat ≡ Some y
    → ((p x : ℕ) → Has ps p x → told_count t p ≡ Some x) → place_count t ≡ place_count s → CounterStays seat from s t history ps
unmoved_stays s t seat from history parts ps y safe count is owned same = record {
  part = y;
  part_is = is;
  kept = record { counted = count ∙ safe.counted; owned = owned_same t.parts ps seat y is owned };
  same = same;
}

forked_free : (s : Counter) (seat from new : ℕ) (history : List ℕ) (parts : List (Option ℕ)) → CounterMeets s seat from history parts → new < place_count s → told_count s new ≡ None
    → Forked told_count IsNoLess place_count CountsHistory seat new from s (with_count_told s new s.count) history parts
forked_free s seat from new history parts m small free =
    let apart : (p x : ℕ) → told_count s p ≡ Some x → p ≢ new = λ p x there e. none-some x (sym free ∙ (ap (told_count s) (sym e) ∙ there)) in
    let still : told_count (with_count_told s new s.count) seat ≡ Some m.found = get_or-set_other s.parts new seat (Some s.count) None (apart seat m.found m.found_is) ∙ m.found_is in record {
      given = s.count;
      given_is = get_or-set_same s.parts new (Some s.count) None small;
      free = free;
      within = small;
      stays = unmoved_stays s (with_count_told s new s.count) seat from history parts (set parts new (Some s.count)) m.found m.is_safe refl still
          (owned_set s.parts parts new (Some s.count) small (λ p x _ has. m.is_safe.owned p x has)) (length-set s.parts new (Some s.count));
      moves = λ p z _ there. (z, get_or-set_other s.parts new p (Some s.count) None (apart p z there) ∙ there, le_refl z);
    }

-- a fork keeps the counter safe
fork_keeps : (s t : Counter) (seat new from : ℕ) (history : List ℕ) (parts : List (Option ℕ)) → CounterMeets s seat from history parts → CounterForks s t (Ok new)
    → Forked told_count IsNoLess place_count CountsHistory seat new from s t history parts
fork_keeps s t seat new from history parts m did =
    subst (λ (u : Counter). Forked told_count IsNoLess place_count CountsHistory seat new from s u history parts) (sym did.2) (forked_free s seat from new history parts m did.0 did.1)

-- so does one that is refused
refusal_keeps : (s t : Counter) (seat from : ℕ) (history : List ℕ) (parts : List (Option ℕ)) (reply : ℕ) → CounterMeets s seat from history parts → CounterForks s t (Err reply) → CounterKeeps seat from s t history parts
refusal_keeps s t seat from history parts reply m did = subst (λ (u : Counter). CounterKeeps seat from s u history parts) (sym did.1) record {
  stays = unmoved_stays s s seat from history parts parts m.found m.is_safe refl m.found_is m.is_safe.owned refl;
  moves = λ p z _ there. (z, there, le_refl z);
}

-- a join keeps the counter safe
join_keeps : (s t : Counter) (seat other from : ℕ) (history : List ℕ) (parts : List (Option ℕ)) → seat ≢ other → CounterMeets s seat from history parts → CounterMeets s other from history parts → t ≡ without_place s other
    → Joined told_count IsNoLess place_count CountsHistory seat other from s t history parts
join_keeps s t seat other from history parts apart m o did = let h = some_in_bounds s.parts other o.found o.found_is in let u : Counter = without_place s other in
    let still : told_count u seat ≡ Some m.found = get_or-set_other s.parts other seat None None apart ∙ m.found_is in
    subst (λ (u : Counter). Joined told_count IsNoLess place_count CountsHistory seat other from s u history parts) (sym did) record {
      free = get_or-set_same s.parts other None None h;
      stays = unmoved_stays s u seat from history parts (set parts other None) m.found m.is_safe refl still (owned_set s.parts parts other None h (λ p x _ has. m.is_safe.owned p x has)) (length-set s.parts other None);
      moves = λ p z ne there. (z, get_or-set_other s.parts other p None None ne.1 ∙ there, le_refl z);
    }

-- the counter keeps all of the laws
pub counter_laws : Laws told_count IsNoLess place_count CountsHistory appended_by (λ _ _ _. Unit {0}) (λ s _ event. enabled_in s event) CounterDoes (λ s _ t r. CounterForks s t r) (λ s _ other t. t ≡ without_place s other) (λ _. Unit {0}) (λ s. s.count)
counter_laws = record {
  step_keeps = λ s t seat from history parts event reply m _ _ did. step_keeps s t seat from history parts event reply m did;
  fork_keeps = fork_keeps;
  refusal_keeps = refusal_keeps;
  join_keeps = λ s t seat other from history parts apart m o _ did. join_keeps s t seat other from history parts apart m o did;
  idle_stays = λ _ _ _ _. tt;
  onward_self = le_refl;
  onward_on = λ x y z a b. le_trans a b;
  allowed_stays = λ _ _ _ _ _ _ _ _. tt;
  front_counts = λ s from history parts safe. safe.counted;
}
