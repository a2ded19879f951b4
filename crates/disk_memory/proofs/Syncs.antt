-- The last sync of a disk, and what was on the disk then.
use Rattle.std.proofs.Common.{◌≡◌, ◌<◌, ◌+◌, ℕ, Bool, true, false, ◌||◌, List, [], ◌∷◌, ◌++◌, length, map, take, get_or, refl, sym, ap, subst, ◌∙◌, arith}
use Rattle.std.specs.Prelude.{All, if◌then◌else◌}
use Rattle.std.specs.List.{list_any}
use Rattle.std.proofs.lemmas.List.Elements.{All-cons, All-head, All-tail}
use Rattle.std.proofs.lemmas.List.Folds.{list_any-append}
use Rattle.std.proofs.Math.Bool.{or-true, or-false}
use Rattle.std.proofs.lemmas.Bool.{false≢true}
use Rattle.disk_trait.specs.Moments.{AgreesOutside}
use Rattle.disk_trait.proofs.Pages.{byte_apart}
use Rattle.disk_trait.proofs.Ranges.{outside_same}
use Rattle.disk_memory.specs.declared.history.Event.{Event}
use Rattle.disk_memory.specs.declared.history.Event.TheVariants.{Write, FailedWrite, Sync}
use Rattle.disk_memory.specs.Events.{change_of}
use Rattle.disk_memory.specs.Past.{Past, Contents, Change, Written, Failed, Synced, turned, run, contents_now, contents_after, Leaves}
use Rattle.disk_memory.specs.OnDisk.{is_sync, up_to_sync, on_disk, LiesInside}
use Rattle.disk_trait.proofs.Pages.{holds_agrees}
use Rattle.disk_memory.proofs.Walks.{changes_more, turned_long, contents_long}

-- the changes up to the last sync, where the last change is a sync, and where it is not
up_cons : (e : Change) (es : List Change) → list_any is_sync (e ∷ es) ≡ true → up_to_sync (e ∷ es) ≡ e ∷ up_to_sync es
up_cons e es h = rw h refl

up_none : (es : List Change) → list_any is_sync es ≡ false → up_to_sync es ≡ []
up_none [] h = refl
up_none (e ∷ es) h = rw h refl

any_push : (es : List Change) (e : Change) → list_any is_sync (es ++ e ∷ []) ≡ (list_any is_sync es || is_sync e)
any_push es e = list_any-append is_sync es (e ∷ []) ∙ ap (λ (b : Bool). list_any is_sync es || b) (or-false (is_sync e))

pub up_sync : (es : List Change) → up_to_sync (es ++ Synced ∷ []) ≡ es ++ Synced ∷ []
up_sync [] = refl
up_sync (e ∷ es) = up_cons e (es ++ Synced ∷ []) (any_push (e ∷ es) Synced ∙ or-true (list_any is_sync (e ∷ es))) ∙ ap (λ fs. e ∷ fs) (up_sync es)

pub up_other : (es : List Change) (e : Change) → is_sync e ≡ false → up_to_sync (es ++ e ∷ []) ≡ up_to_sync es
up_other [] e h = up_none (e ∷ []) (any_push [] e ∙ h)
up_other (f ∷ fs) e h =
    let same : list_any is_sync (f ∷ (fs ++ e ∷ [])) ≡ list_any is_sync (f ∷ fs) = any_push (f ∷ fs) e ∙ ap (λ (b : Bool). list_any is_sync (f ∷ fs) || b) h ∙ or-false (list_any is_sync (f ∷ fs)) in
    ap (λ (b : Bool). if b then f ∷ up_to_sync (fs ++ e ∷ []) else []) same ∙ ap (λ gs. if list_any is_sync (f ∷ fs) then f ∷ gs else []) (up_other fs e h)

-- the walk backwards to the last sync
pub sync_found : (events : List Event) (k n : ℕ) (d : Event) → k < length events → n ≡ k + 1 → change_of (get_or events k d) ≡ Synced → up_to_sync (map change_of (take n events)) ≡ map change_of (take n events)
sync_found events k n d lt is e =
    let last : map change_of (take n events) ≡ map change_of (take k events) ++ Synced ∷ [] = ap (λ (m : ℕ). map change_of (take m events)) is ∙ changes_more events k d lt ∙ ap (λ f. map change_of (take k events) ++ f ∷ []) e in
    ap up_to_sync last ∙ up_sync (map change_of (take k events)) ∙ sym last

pub sync_before : (events : List Event) (k n : ℕ) (d : Event) → k < length events → n ≡ k + 1 → is_sync (change_of (get_or events k d)) ≡ false → up_to_sync (map change_of (take k events)) ≡ up_to_sync (map change_of (take n events))
sync_before events k n d lt is e =
    sym (ap (λ (m : ℕ). up_to_sync (map change_of (take m events))) is ∙ ap up_to_sync (changes_more events k d lt) ∙ up_other (map change_of (take k events)) (change_of (get_or events k d)) e)

pub not_sync : (e : Event) → (e ≡ Sync → ⊥) → is_sync (change_of e) ≡ false
not_sync (Write at bytes) other = refl
not_sync (FailedWrite at n) other = refl
not_sync Sync other = absurd (other refl)

any_cons : (e : Change) (es : List Change) → list_any is_sync (e ∷ es) ≡ false → list_any is_sync es ≡ false
any_cons (Written at bytes) es h = h
any_cons (Failed at n) es h = h
any_cons Synced es h = absurd (false≢true (sym h))

first_other : (e : Change) (es : List Change) → list_any is_sync (e ∷ es) ≡ false → is_sync e ≡ false
first_other (Written at bytes) es h = refl
first_other (Failed at n) es h = refl
first_other Synced es h = absurd (false≢true (sym h))

split_sync : (b : Bool) (e : Change) (es rest : List Change) → list_any is_sync (e ∷ es) ≡ b → es ≡ up_to_sync es ++ rest → list_any is_sync rest ≡ false → (more : List Change) × (e ∷ es ≡ up_to_sync (e ∷ es) ++ more) × (list_any is_sync more ≡ false)
split_sync true e es rest h is none = (rest, ap (λ fs. e ∷ fs) is ∙ ap (λ fs. fs ++ rest) (sym (up_cons e es h)), none)
split_sync false e es rest h is none = (e ∷ es, ap (λ fs. fs ++ e ∷ es) (sym (up_none (e ∷ es) h)), h)

-- all changes are those up to the last sync, and others behind them among which is no sync
split_at_sync : (changes : List Change) → (rest : List Change) × (changes ≡ up_to_sync changes ++ rest) × (list_any is_sync rest ≡ false)
split_at_sync [] = ([], refl, refl)
split_at_sync (e ∷ es) = let s = split_at_sync es in split_sync (list_any is_sync (e ∷ es)) e es s.0 refl s.1 s.2

run_append : (h : Contents) (xs ys : List Change) → run h (xs ++ ys) ≡ run (run h xs) ys
run_append h [] ys = refl
run_append h (x ∷ xs) ys = run_append (turned h x) xs ys

-- changes that are no syncs leave all but their ranges as it was
turned_left : (size : ℕ) (h : Contents) (e : Change) (base : List ℕ) → length h.bytes ≡ size → LiesInside size e → is_sync e ≡ false → AgreesOutside h.dirty h.bytes base → AgreesOutside (turned h e).dirty (turned h e).bytes base
turned_left size h (Written at bytes) base long le other left =
    let a = holds_agrees h.bytes at bytes (turned h (Written at bytes)).bytes (omega (arith, long, le)) refl in
    record { same_length = left.same_length ∙ sym a.same_length; each = λ i o. left.each i o.1 ∙ sym (byte_apart at (length bytes) i h.bytes (turned h (Written at bytes)).bytes o.0 a) }
turned_left size h (Failed at n) base long le other left = record { same_length = left.same_length; each = λ i o. left.each i o.1 }
turned_left size h Synced base long le other left = absurd (false≢true (sym other))

run_left : (size : ℕ) (h : Contents) (changes : List Change) (base : List ℕ) → length h.bytes ≡ size → All (LiesInside size) changes → list_any is_sync changes ≡ false → AgreesOutside h.dirty h.bytes base → AgreesOutside (run h changes).dirty (run h changes).bytes base
run_left size h [] base long all none left = left
run_left size h (e ∷ es) base long all none left =
    let one = All-head (LiesInside size) e es all in
    run_left size (turned h e) es base (turned_long size h e long one) (All-tail (LiesInside size) e es all) (any_cons e es none) (turned_left size h e base long one (first_other e es none) left)

all_front : (P : Change → Type 0) (xs ys : List Change) → All P (xs ++ ys) → All P xs
all_front P [] ys all = λ k d lt. absurd (omega (arith, lt))
all_front P (x ∷ xs) ys all = All-cons P x xs (All-head P x (xs ++ ys) all) (all_front P xs ys (All-tail P x (xs ++ ys) all))

all_back : (P : Change → Type 0) (xs ys : List Change) → All P (xs ++ ys) → All P ys
all_back P [] ys all = all
all_back P (x ∷ xs) ys all = all_back P xs ys (All-tail P x (xs ++ ys) all)

-- what was on the disk at the last sync has as many bytes, and a crash may leave it
pub on_disk_long : (p : Past) → All (LiesInside (length p.first)) p.changes → length (on_disk p) ≡ length p.first
on_disk_long p all =
    let s = split_at_sync p.changes in
    contents_long p.first (up_to_sync p.changes) (all_front (LiesInside (length p.first)) (up_to_sync p.changes) s.0 (subst (All (LiesInside (length p.first))) s.1 all))

pub on_disk_left : (p : Past) → All (LiesInside (length p.first)) p.changes → Leaves (contents_now p) (on_disk p)
on_disk_left p all =
    let s = split_at_sync p.changes in
    let P = LiesInside (length p.first) in
    let up = up_to_sync p.changes in
    let h = contents_after p.first up in
    let parts = subst (All P) s.1 all in
    let whole : contents_now p ≡ run h s.0 = ap (contents_after p.first) s.1 ∙ run_append (record { bytes = p.first; dirty = [] }) up s.0 in
    subst (λ g. Leaves g (on_disk p)) (sym whole) (run_left (length p.first) h s.0 h.bytes (contents_long p.first up (all_front P up s.0 parts)) (all_back P up s.0 parts) s.2 (outside_same h.dirty h.bytes))
