-- What one change more does to what a disk has held.
use Rattle.std.proofs.Common.{◌≡◌, ◌≤◌, ◌+◌, ◌⊎◌, inl, inr, ⊎_elim, ℕ, List, [], ◌∷◌, ◌++◌, length, map, refl, sym, ap, subst, ◌∙◌, arith}
use Rattle.std.proofs.lemmas.List.{take_all, take-append-le, length_push}
use Rattle.disk_trait.specs.Disk.{Agrees, Holds, Only}
use Rattle.disk_trait.specs.Moments.{After, Always, AgreesOutside}
use Rattle.disk_trait.proofs.Pages.{agrees_same, holds_agrees}
use Rattle.disk_memory.specs.declared.history.Event.{Event}
use Rattle.disk_memory.specs.Events.{change_of}
use Rattle.disk_memory.specs.declared.memory.Memory.{Memory}
use Rattle.disk_memory.specs.Memories.{TimeGoesOn}
use Rattle.disk_memory.specs.Past.{Past, Recorded, with_recorded, Contents, Change, Written, Failed, Synced, turned, run, contents_now, contents_after, Leaves, HadBeen, with_change}
use Rattle.disk_memory.proofs.Ranges.{torn, outside_nothing, outside_any}

run_push : (h : Contents) (changes : List Change) (e : Change) → run h (changes ++ e ∷ []) ≡ turned (run h changes) e
run_push h [] e = refl
run_push h (f ∷ fs) e = run_push (turned h f) fs e

-- what is held after one change more
pub contents_push : (p q : Past) (e : Change) → q ≡ with_change p e → contents_now q ≡ turned (contents_now p) e
contents_push p q e is = ap contents_now is ∙ run_push (record { bytes = p.first; dirty = [] }) p.changes e

-- one event more is one change more
pub changes_push : (events : List Event) (e : Event) → map change_of (events ++ e ∷ []) ≡ map change_of events ++ change_of e ∷ []
changes_push [] e = refl
changes_push (f ∷ fs) e = ap (λ es. change_of f ∷ es) (changes_push fs e)

module _ (p : Past) (e : Change) where
  kept : (t : ℕ) (c : List ℕ) → HadBeen p t c → HadBeen (with_change p e) t c
  kept t c h = record {
    count = h.count;
    since = h.since;
    made = omega (arith, h.made, length_push p.changes e);
    left = subst (λ es. Leaves (contents_after p.first es) c) (sym (take-append-le h.count p.changes (e ∷ []) h.made)) h.left;
  }

  by_count : (k n : ℕ) → k ≤ n + 1 → (k ≤ n) ⊎ (n + 1 ≤ k)
  by_count k n le = grind arith

  nothing_else : (t : ℕ) (c : List ℕ) → HadBeen (with_change p e) t c → HadBeen p t c ⊎ Leaves (contents_now (with_change p e)) c
  nothing_else t c h =
      let made : h.count ≤ length p.changes + 1 = omega (arith, h.made, length_push p.changes e) in
      elim (by_count h.count (length p.changes) made) [
        | inl le ↦ inl (record { count = h.count; since = h.since; made = le; left = subst (λ es. Leaves (contents_after p.first es) c) (take-append-le h.count p.changes (e ∷ []) le) h.left })
        | inr ge ↦ inr (subst (λ es. Leaves (contents_after p.first es) c) (take_all h.count (p.changes ++ e ∷ []) (omega (arith, ge, length_push p.changes e))) h.left)
      ]

-- time goes on by a change
pub elapses_push : (m n : Memory) (e : Change) → n.history.past ≡ with_change m.history.past e → TimeGoesOn m n
elapses_push m n e is = record {
  later = omega (arith, ap (λ (p : Past). length p.changes) is, length_push m.history.past.changes e);
  nothing_else = λ t c le. subst (λ q. HadBeen q t c → HadBeen m.history.past t c ⊎ Leaves (contents_now q) c) (sym is) (λ h. nothing_else m.history.past e t c h);
  keeps = λ t c le h. subst (λ q. HadBeen q t c) (sym is) (kept m.history.past e t c h);
}

-- time goes on by nothing
pub elapses_same : (m n : Memory) → n.history.past ≡ m.history.past → TimeGoesOn m n
elapses_same m n is = record {
  later = omega (arith, ap (λ (p : Past). length p.changes) is);
  nothing_else = λ t c le h. inl (subst (λ q. HadBeen q t c) is h);
  keeps = λ t c le h. subst (λ q. HadBeen q t c) (sym is) h;
}

-- where one change more is recorded, or none, the past has it, and as much room is kept
pub either_past : (r s : Recorded) (e : Change) → (s ≡ r) ⊎ (s ≡ with_recorded r e) → (s.past ≡ r.past) ⊎ (s.past ≡ with_change r.past e)
either_past r s e is = ⊎_elim (λ none. inl (ap (λ x. x.past) none)) (λ one. inr (ap (λ x. x.past) one)) is

pub either_room : (r s : Recorded) (e : Change) → (s ≡ r) ⊎ (s ≡ with_recorded r e) → s.room ≡ r.room
either_room r s e is = ⊎_elim (λ none. ap (λ x. x.room) none) (λ one. ap (λ x. x.room) one) is

-- time goes on by a change or by nothing
pub elapses_either : (m n : Memory) (e : Change) → (n.history.past ≡ m.history.past) ⊎ (n.history.past ≡ with_change m.history.past e) → TimeGoesOn m n
elapses_either m n e is = ⊎_elim (elapses_same m n) (elapses_push m n e) is

module _ (p q : Past) (at : ℕ) (bytes : List ℕ) (is : q ≡ with_change p (Written at bytes)) where
  pub written_holds : Holds (contents_now p).bytes at bytes (contents_now q).bytes
  written_holds = ap (λ h. h.bytes) (contents_push p q (Written at bytes) is)

  pub written_dirty : (contents_now q).dirty ≡ (at, length bytes) ∷ (contents_now p).dirty
  written_dirty = ap (λ h. h.dirty) (contents_push p q (Written at bytes) is)

  pub written_agrees : at + length bytes ≤ length (contents_now p).bytes → Agrees at (length bytes) (contents_now p).bytes (contents_now q).bytes
  written_agrees le = holds_agrees (contents_now p).bytes at bytes (contents_now q).bytes le written_holds

  pub written_crash : at + length bytes ≤ length (contents_now p).bytes → Always (Leaves (contents_now q)) (After (Agrees at (length bytes)) (Leaves (contents_now p)))
  written_crash le c left = torn (contents_now p).dirty at (length bytes) (contents_now p).bytes (contents_now q).bytes le (written_agrees le) c (subst (λ rs. AgreesOutside rs (contents_now q).bytes c) written_dirty left)

  -- the bytes over which these are written are those that are held
  pub written_over : (image over : List ℕ) → image ≡ (contents_now p).bytes → Holds image at bytes over → over ≡ (contents_now q).bytes
  written_over image over i h = h ∙ rw i (sym written_holds)

-- the bytes that are held after no change, or after one that leaves them
pub same_bytes : (p q : Past) (e : Change) → ((h : Contents) → (turned h e).bytes ≡ h.bytes) → (q ≡ p) ⊎ (q ≡ with_change p e) → (contents_now q).bytes ≡ (contents_now p).bytes
same_bytes p q e leaves is = ⊎_elim (λ none. ap (λ r. (contents_now r).bytes) none) (λ one. ap (λ h. h.bytes) (contents_push p q e one) ∙ leaves (contents_now p)) is

module _ (p q : Past) (at n : ℕ) (is : q ≡ with_change p (Failed at n)) where
  pub failed_same : (contents_now q).bytes ≡ (contents_now p).bytes
  failed_same = ap (λ h. h.bytes) (contents_push p q (Failed at n) is)

  pub failed_dirty : (contents_now q).dirty ≡ (at, n) ∷ (contents_now p).dirty
  failed_dirty = ap (λ h. h.dirty) (contents_push p q (Failed at n) is)

  pub failed_crash : at + n ≤ length (contents_now p).bytes → Always (Leaves (contents_now q)) (After (Agrees at n) (Leaves (contents_now p)))
  failed_crash le c left = torn (contents_now p).dirty at n (contents_now p).bytes (contents_now p).bytes le (agrees_same at n (contents_now p).bytes) c (subst (λ h. Leaves h c) (contents_push p q (Failed at n) is) left)

module _ (p q : Past) (is : (q ≡ p) ⊎ (q ≡ with_change p Synced)) where
  pub synced_same : (contents_now q).bytes ≡ (contents_now p).bytes
  synced_same = same_bytes p q Synced (λ h. refl) is

  pub synced_only : (contents_now q).dirty ≡ [] → Only (contents_now p).bytes (Leaves (contents_now q))
  synced_only clean c left = outside_nothing (contents_now q).bytes c (subst (λ rs. AgreesOutside rs (contents_now q).bytes c) clean left) ∙ synced_same

  pub synced_crash : (contents_now q).dirty ≡ [] → (c : List ℕ) → Leaves (contents_now q) c → Leaves (contents_now p) c
  synced_crash clean c left = outside_any (contents_now p).dirty (contents_now p).bytes c (synced_only clean c left)

-- nothing is dirty after a sync
pub synced_clean : (p q : Past) → q ≡ with_change p Synced → (contents_now q).dirty ≡ []
synced_clean p q is = ap (λ h. h.dirty) (contents_push p q Synced is)
