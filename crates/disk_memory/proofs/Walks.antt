-- What is held after the events of a disk, one after the other.
use Rattle.std.proofs.Common.{◌≡◌, ◌<◌, ◌+◌, ℕ, List, [], ◌∷◌, ◌++◌, length, map, take, get_or, refl, sym, ap, ◌∙◌, arith}
use Rattle.std.specs.Prelude.{All}
use Rattle.std.proofs.lemmas.List.{take_more}
use Rattle.std.proofs.lemmas.List.Elements.{All-cons, All-head, All-tail, All-append}
use Rattle.disk_trait.specs.Disk.{Holds}
use Rattle.disk_memory.specs.declared.history.Event.{Event}
use Rattle.disk_memory.specs.Events.{change_of}
use Rattle.disk_memory.specs.Past.{Contents, Change, Written, Failed, Synced, turned, run, contents_after}
use Rattle.disk_memory.specs.OnDisk.{LiesInside}
use Rattle.disk_trait.proofs.Pages.{holds_agrees}
use Rattle.disk_memory.proofs.Changes.{contents_push, changes_push}

-- the changes of the events, one more
pub changes_more : (events : List Event) (k : ℕ) (d : Event) → k < length events → map change_of (take (k + 1) events) ≡ map change_of (take k events) ++ change_of (get_or events k d) ∷ []
changes_more events k d lt = ap (map change_of) (take_more events k d lt) ∙ changes_push (take k events) (get_or events k d)

-- what is held after one change more
pub contents_more : (first : List ℕ) (changes : List Change) (e : Change) → contents_after first (changes ++ e ∷ []) ≡ turned (contents_after first changes) e
contents_more first changes e = contents_push (record { first = first; changes = changes }) (record { first = first; changes = changes ++ e ∷ [] }) e refl

-- what is held after the events up to one, from what was held before it
pub contents_next : (first : List ℕ) (events : List Event) (k n : ℕ) (d : Event) → k < length events → n ≡ k + 1 → contents_after first (map change_of (take n events)) ≡ turned (contents_after first (map change_of (take k events))) (change_of (get_or events k d))
contents_next first events k n d lt is =
    ap (λ (m : ℕ). contents_after first (map change_of (take m events))) is ∙ ap (contents_after first) (changes_more events k d lt) ∙ contents_more first (map change_of (take k events)) (change_of (get_or events k d))

-- changes inside a disk leave its size
pub turned_long : (size : ℕ) (h : Contents) (e : Change) → length h.bytes ≡ size → LiesInside size e → length (turned h e).bytes ≡ size
turned_long size h (Written at bytes) long le = (holds_agrees h.bytes at bytes (turned h (Written at bytes)).bytes (omega (arith, long, le)) refl).same_length ∙ long
turned_long size h (Failed at n) long le = long
turned_long size h Synced long le = long

pub run_long : (size : ℕ) (h : Contents) (changes : List Change) → length h.bytes ≡ size → All (LiesInside size) changes → length (run h changes).bytes ≡ size
run_long size h [] long all = long
run_long size h (e ∷ es) long all = run_long size (turned h e) es (turned_long size h e long (All-head (LiesInside size) e es all)) (All-tail (LiesInside size) e es all)

pub contents_long : (first : List ℕ) (changes : List Change) → All (LiesInside (length first)) changes → length (contents_after first changes).bytes ≡ length first
contents_long first changes all = run_long (length first) (record { bytes = first; dirty = [] }) changes refl all

-- one element more
pub all_push : {X : Type 0} (P : X → Type 0) (xs : List X) (x : X) → All P xs → P x → All P (xs ++ x ∷ [])
all_push P xs x all one = All-append P xs (x ∷ []) all (All-cons P x [] one (λ k d lt. absurd (omega (arith, lt))))

-- the next write, or the next change that writes nothing, when writes are made again
pub replay_write : (first : List ℕ) (events : List Event) (k : ℕ) (d : Event) (at : ℕ) (bytes all new : List ℕ) → k < length events → change_of (get_or events k d) ≡ Written at bytes → all ≡ (contents_after first (map change_of (take k events))).bytes → Holds all at bytes new
    → new ≡ (contents_after first (map change_of (take (k + 1) events))).bytes
replay_write first events k d at bytes all new lt e i h =
    h ∙ rw i (sym (ap (λ g. g.bytes) (contents_next first events k (k + 1) d lt refl ∙ ap (turned (contents_after first (map change_of (take k events)))) e)))

pub replay_other : (first : List ℕ) (events : List Event) (k : ℕ) (d : Event) (e : Change) (all : List ℕ) → ((h : Contents) → (turned h e).bytes ≡ h.bytes) → k < length events → change_of (get_or events k d) ≡ e → all ≡ (contents_after first (map change_of (take k events))).bytes
    → all ≡ (contents_after first (map change_of (take (k + 1) events))).bytes
replay_other first events k d e all leaves lt is i =
    i ∙ sym (ap (λ g. g.bytes) (contents_next first events k (k + 1) d lt refl ∙ ap (turned (contents_after first (map change_of (take k events)))) is) ∙ leaves (contents_after first (map change_of (take k events))))
