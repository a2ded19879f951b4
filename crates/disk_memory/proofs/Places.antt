-- What a change of a bay's entries changes under its names.
use Rattle.std.proofs.Common.{◌≡◌, ◌≢◌, ◌<◌, ◌≤◌, ◌+◌, ◌⊎◌, inl, inr, ⊎_elim, ℕ, zero, suc, cond, Bool, true, false, List, [], ◌∷◌, ◌++◌, length, get_or, set, Option, Some, None, refl, sym, ap, ◌∙◌, arith}
use Rattle.std.proofs.lemmas.Slice.Eq.{bytes_eq-Decides}
use Rattle.std.proofs.lemmas.Bool.{ltb-false}
use Rattle.std.proofs.lemmas.List.Quantifiers.{position-Some}
use Rattle.std.proofs.lemmas.List.Sums.{fails_before_first}
use Rattle.std.specs.Prelude.{◌↔◌, ◌-◌, ◌^◌, min, Err, string_bytes, nat_lt, IsNone, if◌then◌else◌}
use Rattle.std.specs.List.{position, position_or_len}
use Rattle.std.specs.Str.{bytes_eq}
use Rattle.disk_trait.specs.Bay.{Absent, SameBut, HasNameCause}
use Rattle.disk_memory.specs.declared.memory.Memory.{Memory}
use Rattle.disk_memory.specs.declared.bay.Entry.{Entry}
use Rattle.disk_memory.specs.Memories.{TellsSame}
use Rattle.disk_memory.specs.Bays.{is_named, place_of_disk, place_among}

-- an entry is a place
pub never_absent : (disk : Option Memory) → place_of_disk disk ≢ Absent
never_absent None h = cc
never_absent (Some d) h = cc

-- a test is true or false
true_or_false : (b : Bool) → (b ≡ true) ⊎ (b ≡ false)
true_or_false true = inl refl
true_or_false false = inr refl

-- an entry with one name has no other
pub other_name : (e : Entry) (name other : List ℕ) → is_named name e ≡ true → other ≢ name → is_named other e ≡ false
other_name e name other named apart =
    ⊎_elim (λ same. absurd (apart (sym ((bytes_eq-Decides (string_bytes e.name) other).0 same) ∙ (bytes_eq-Decides (string_bytes e.name) name).0 named))) (λ differs. differs) (true_or_false (is_named other e))

-- an entry with these bytes as its name has that name
pub has_name : (e : Entry) (name : List ℕ) → string_bytes e.name ≡ name → is_named name e ≡ true
has_name e name is = (bytes_eq-Decides (string_bytes e.name) name).1 is

-- the first entry with a name is what is under it
pub place_here : (es : List Entry) (name : List ℕ) (i : ℕ) (d : Entry) → i < length es → is_named name (get_or es i d) ≡ true → ((k : ℕ) → k < i → is_named name (get_or es k d) ≡ false)
    → place_among es name ≡ place_of_disk (get_or es i d).disk
place_here [] name i d lt named first = absurd (omega arith)
place_here (e ∷ es) name zero d lt named first = rw named refl
place_here (e ∷ es) name (suc i) d lt named first = rw (first 0 (omega arith)) (place_here es name i d (omega arith) named (λ k h. first (suc k) (omega arith)))

-- no entry with a name, and nothing is under it
all_other : (es : List Entry) (name : List ℕ) → ((k : ℕ) (d : Entry) → k < length es → is_named name (get_or es k d) ≡ false) → place_among es name ≡ Absent
all_other [] name each = refl
all_other (e ∷ es) name each = rw (each 0 e (omega arith)) (all_other es name (λ k d h. each (suc k) d (omega arith)))

found_none : (b : Bool) (i : ℕ) → cond b (Some i) None ≡ None → b ≡ false
found_none true i h = cc
found_none false i h = refl

-- no index is found, and nothing is under the name
not_found : (es : List Entry) (name : List ℕ) → position (is_named name) es ≡ None → place_among es name ≡ Absent
not_found es name h =
    let past : length es ≤ position_or_len (is_named name) es = omega (arith, ltb-false (position_or_len (is_named name) es) (length es) (found_none (nat_lt (position_or_len (is_named name) es) (length es)) (position_or_len (is_named name) es) h)) in
    all_other es name (λ k d lt. fails_before_first (is_named name) es k d (omega (arith, lt, past)))

-- an index is found, and its entry is what is under the name
pub found_place : (es : List Entry) (name : List ℕ) (i : ℕ) (d : Entry) → position (is_named name) es ≡ Some i → place_among es name ≡ place_of_disk (get_or es i d).disk
found_place es name i d h = let at = position-Some (is_named name) es i d h in place_here es name i d at.0 at.1 at.2

found_there : (es : List Entry) (name : List ℕ) (i : ℕ) → position (is_named name) es ≡ Some i → place_among es name ≢ Absent
found_there [] name i h absent = cc
found_there (e ∷ es) name i h absent = never_absent (get_or (e ∷ es) i e).disk (sym (found_place (e ∷ es) name i e h) ∙ absent)

-- no index is found exactly where nothing is under the name
pub found_or_absent : (es : List Entry) (name : List ℕ) (r : Option ℕ) → r ≡ position (is_named name) es → IsNone r ↔ (place_among es name ≡ Absent)
found_or_absent es name None is = (λ h. not_found es name (sym is), λ h. refl)
found_or_absent es name (Some i) is = (λ h. cc, λ h. absurd (found_there es name i (sym is) h))

-- and where it changes, what is under that name changes with it
pub place_set : (es : List Entry) (name : List ℕ) (i : ℕ) (d e : Entry) → i < length es → is_named name e ≡ true → ((k : ℕ) → k < i → is_named name (get_or es k d) ≡ false)
    → place_among (set es i e) name ≡ place_of_disk e.disk
place_set [] name i d new lt named first = absurd (omega arith)
place_set (e ∷ es) name zero d new lt named first = rw named refl
place_set (e ∷ es) name (suc i) d new lt named first = rw (first 0 (omega arith)) (place_set es name i d new (omega arith) named (λ k h. first (suc k) (omega arith)))

-- and under each other name nothing
pub other_set : (es : List Entry) (other : List ℕ) (i : ℕ) (d e : Entry) → i < length es → is_named other (get_or es i d) ≡ false → is_named other e ≡ false → place_among (set es i e) other ≡ place_among es other
other_set [] other i d new lt had now = refl
other_set (e ∷ es) other zero d new lt had now = rw (had, now) refl
other_set (e ∷ es) other (suc i) d new lt had now = ap (λ p. (if is_named other e then place_of_disk e.disk else p)) (other_set es other i d new (omega arith) had now)

-- an entry that was found is changed, but for its name
module _ (es : List Entry) (name : List ℕ) (i : ℕ) (e new : Entry) (found : position (is_named name) es ≡ Some i) (is : e ≡ get_or es i e) (same_name : new.name ≡ e.name) where
  named : is_named name (get_or es i e) ≡ true
  named = (position-Some (is_named name) es i e found).1

  still_named : is_named name new ≡ true
  still_named = ap (λ n. bytes_eq (string_bytes n) name) (same_name ∙ ap (λ x. x.name) is) ∙ named

  pub changed_place : place_among (set es i new) name ≡ place_of_disk new.disk
  changed_place = let at = position-Some (is_named name) es i e found in place_set es name i e new at.0 still_named at.2

  pub changed_others : SameBut name (place_among es) (place_among (set es i new))
  changed_others other apart = other_set es other i e new (position-Some (is_named name) es i e found).0 (other_name (get_or es i e) name other named apart) (other_name new name other still_named apart)

-- a new entry is what is under its name, where nothing was
pub place_push : (es : List Entry) (name : List ℕ) (e : Entry) → place_among es name ≡ Absent → is_named name e ≡ true → place_among (es ++ e ∷ []) name ≡ place_of_disk e.disk
place_push [] name e absent named = rw named refl
place_push (f ∷ es) name e absent named = ⊎_elim
    (λ here. absurd (never_absent f.disk (rw here at absent)))
    (λ not_here. rw not_here (place_push es name e (rw not_here at absent) named))
    (true_or_false (is_named name f))

-- and under each other name nothing changes
pub other_push : (es : List Entry) (other : List ℕ) (e : Entry) → is_named other e ≡ false → place_among (es ++ e ∷ []) other ≡ place_among es other
other_push [] other e apart = rw apart refl
other_push (f ∷ es) other e apart = ap (λ p. (if is_named other f then place_of_disk f.disk else p)) (other_push es other e apart)

-- a failure that is counted has its cause, and that is not the name
pub counted_failure : {T E : Type 0} (by_name : Type 0) (before now : ℕ) (error : E) → (by_name → ⊥) → before ≤ now → now ≡ min (before + 1) (2 ^ 64 - 1) → HasNameCause {T = T} by_name before now (Err error)
counted_failure by_name before now error other later is = record { later = later; uncounted = λ named_so. absurd (other named_so); failed = inr (omega arith) }

-- a disk with its counts at 0 tells what it told
pub unfailed_same : (m n : Memory) → n ≡ record m { reads = 0; writes = 0 } → TellsSame n m
unfailed_same m n is = rw is (record { same_honesty = refl; same_extent = refl; same_bytes = refl; same_crash = λ c. (λ h. h, λ h. h); same_moment = refl; same_past = λ t c. (λ h. h, λ h. h) })
