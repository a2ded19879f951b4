-- Room for a change in a lone caller's state: a root step where pages lack, and one where there is no slot.
use Rattle.std.proofs.Common.{◌≡◌, ◌<◌, ◌≤◌, ◌==◌, ◌&&◌, ℕ, [], ◌∷◌, Bool, true, nat_lt, Result, Ok, Err, refl, sym, ap, subst, ◌∙◌}
use Rattle.std.specs.Prelude.{OnOk, IfErr}
use Rattle.std.specs.List.{count_by, list_any}
use Rattle.grid_types.specs.declared.refusal.Refusal.{Refusal}
use Rattle.grid_types.specs.declared.refusal.Refusal.TheVariants as why
use Rattle.grid_types.specs.declared.shape.Shape.{Shape}
use Rattle.disk_trait.specs.declared.disk.Disk.{Ghosts}
use Rattle.grid_model.specs.Lone.{State, claimed, free, queued, root, root_if}
use Rattle.page_states.specs.Effects.{is_of_roots}
use Rattle.page_states.specs.States.{is_claimed, is_free}
use Rattle.kept_pages.proofs.FreePages.{free-count}
use Rattle.file_images.specs.Leads.{Standing}
use Rattle.file_books.specs.Books.{Books}
use Rattle.file_books.specs.Effects.{used_of, swept_books}
use Rattle.file_standing.specs.Files.{state_along}
use Rattle.file_standing.specs.Open.{IsOpenAlone}
use Rattle.file_standing.proofs.PageSteps.{page-steps}
use Rattle.checkpoints.specs.Checkpoints.{checkpointed_books}
use Rattle.grid_file.specs.Files.{OpenFile}
use Rattle.durable_updates.specs.Goings.{HasRoomAlone, IsOpenSwept, IsStepCause}
use Rattle.durable_updates.proofs.Sweeps.{stepped-swept, stepped-free}

module _ {K : ℕ} {D : Type 0} (g : Ghosts D) (m : Standing K) (s : State K) where
  -- a root step leaves a swept file swept
  stepped : (b c : Books) (old new : D) → IsOpenSwept g b m s old → IsOpenAlone g c m (root s) new → c ≡ checkpointed_books b → count_by is_claimed c.pages ≡ count_by is_claimed b.pages → IsOpenSwept g c m (root s) new
  stepped b c old new was o is claims =
      let unclaimed : count_by is_claimed c.pages ≡ 0 = claims ∙ was.unclaimed in
      record {
        alone = o;
        unclaimed = unclaimed;
        counted = sym (ap (count_by is_free) (ap (λ (x : Books). (swept_books x).pages) is ∙ stepped-swept b ∙ sym (ap (λ (x : Books). x.pages) is))) ∙ page-steps.counted c o.kept m (root s) o.file o.alone unclaimed;
      }

  pub step-swept : {T : Type 0} (r : Result T Refusal) (b c : Books) (old new : D) → IsOpenSwept g b m s old → (IsOpenAlone g b m s old → OnOk r (IsOpenAlone g c m (root s) new)) → OnOk r (c ≡ checkpointed_books b) → count_by is_claimed c.pages ≡ count_by is_claimed b.pages
      → OnOk r (IsOpenSwept g c m (root s) new)
  step-swept (Ok x) b c old new was o is claims = stepped b c old new was (o was.alone) is claims
  step-swept (Err e) b c old new was o is claims = tt

-- as many pages are free
pub step-free : {T : Type 0} (r : Result T Refusal) (b c : Books) → OnOk r (c ≡ checkpointed_books b) → OnOk r (count_by is_free b.pages ≤ count_by is_free c.pages)
step-free (Ok x) b c is = stepped-free b c is
step-free (Err e) b c is = tt

-- whether pages lack, and a root step would free some
abbrev pages_due : Books → ℕ → Bool
pages_due b need = nat_lt (count_by is_free b.pages) need && list_any (is_of_roots [] (b.rooted_at ∷ [])) b.pages

-- whether no slot is left
abbrev slot_due : Books → Bool
slot_due b = used_of b b.half == b.shape.slots

module _ {K : ℕ} {D : Type 0} (g : Ghosts D) (b : Books) (m : Standing K) (s : State K) (old : D) (was : IsOpenSwept g b m s old) where
  -- a root step is due for pages where a lone caller's is
  due-pages : (due : Bool) (need : ℕ) → due ≡ pages_due b need → root_if due s ≡ claimed b.shape need s
  unfolding claimed
  due-pages due need is =
      let a = was.alone in
      let kept : list_any (is_of_roots [] (b.rooted_at ∷ [])) b.pages ≡ nat_lt 0 s.kept =
      ap (λ (p : ℕ). list_any (is_of_roots [] (p ∷ [])) b.pages) (sym a.file.agree.root)
      ∙ free-count.would_free b.pages b.front a.kept.root.fields.front (state_along a.kept.root a.alone.lineage) a.alone.follows.counts
      ∙ ap (λ (t : State K). nat_lt 0 t.kept) (sym a.alone.state) in
      ap (λ (t : Bool). root_if t s) (is ∙ (λ i. nat_lt (was.counted i) need && kept i))

  -- and for a slot
  due-slot : (due : Bool) → due ≡ slot_due b → root_if due s ≡ queued b.shape s
  unfolding queued
  due-slot due is = ap (λ (t : Bool). root_if t s) (is ∙ ap (λ (n : ℕ). n == b.shape.slots) (ap (λ (t : State K). t.used) (sym was.alone.alone.state)))

  -- with the pages that it asks for, or with fewer, the file is as a lone caller's after its root step
  module _ (mid : Books) (new : D) (need : ℕ) (due : Bool) (known : Books) (same : known ≡ b) (is : due ≡ pages_due known need) (shape : mid.shape ≡ b.shape) (then : IsOpenSwept g mid m (root_if due s) new) where
    claimed-swept : IsOpenSwept g mid m (claimed b.shape need s) new
    claimed-swept = subst (λ (t : State K). IsOpenSwept g mid m t new) (due-pages due need (is ∙ ap (λ (x : Books). pages_due x need) same)) then

    claimed-free : count_by is_free mid.pages ≡ free b.shape (claimed b.shape need s)
    claimed-free = claimed-swept.counted ∙ ap (λ (z : Shape). free z (claimed b.shape need s)) shape

    pub pages-made : {T : Type 0} (x : T) → need ≤ count_by is_free mid.pages → HasRoomAlone g b.shape m need (claimed b.shape need s) (claimed b.shape need s) (Ok x) mid new
    pages-made x enough = (claimed-swept, subst (λ (n : ℕ). need ≤ n) claimed-free enough)

    pub pages-lack : (T : Type 0) (few : ℕ) → few ≡ count_by is_free mid.pages → few < need → HasRoomAlone {T = T} g b.shape m need (claimed b.shape need s) (claimed b.shape need s) (Err (why.Full few need)) mid new
    pages-lack T few are less = (claimed-swept, are ∙ claimed-free, refl, less)

  -- and with a slot
  pub slot-made : {T : Type 0} (r : Result T Refusal) (c : Books) (new : D) (due : Bool) (known : Books) → known ≡ b → due ≡ slot_due known → OnOk r (IsOpenSwept g c m (root_if due s) new) → OnOk r (IsOpenSwept g c m (queued b.shape s) new)
  slot-made (Ok x) c new due known same is then = subst (λ (t : State K). IsOpenSwept g c m t new) (due-slot due (is ∙ ap slot_due same)) then
  slot-made (Err e) c new due known same is then = tt

module _ {K : ℕ} {D : Type 0} (g : Ghosts D) (m : Standing K) where
  -- a root step that was due
  pub step-due : {T : Type 0} (s : State K) (due : Bool) (r : Result T Refusal) (c : Books) (new : D) → due ≡ true → OnOk r (IsOpenSwept g c m (root s) new) → OnOk r (IsOpenSwept g c m (root_if due s) new)
  step-due s due r c new is then = subst (λ (t : Bool). OnOk r (IsOpenSwept g c m (root_if t s) new)) (sym is) then

  -- a step that failed says nothing of a lone caller's state
  step-failed : (T : Type 0) (shape : Shape) (need : ℕ) (pages room : State K) (old new : OpenFile D) (e : Refusal) (b : Books) (d : D) → IsStepCause g old new e → HasRoomAlone {T = T} g shape m need pages room (Err e) b d
  step-failed T shape need pages room old new why.NoMemory b d is = tt
  step-failed T shape need pages room old new why.ReadFault b d is = tt
  step-failed T shape need pages room old new why.WriteFault b d is = tt
  step-failed T shape need pages room old new (why.Unsure faults before) b d is = tt
  step-failed T shape need pages room old new (why.Stopped faults opened) b d is = tt
  step-failed T shape need pages room old new (why.Full few wanted) b d is = absurd is
  step-failed T shape need pages room old new (why.NoCut cells boundaries) b d is = absurd is
  step-failed T shape need pages room old new (why.Damaged page) b d is = tt
  step-failed T shape need pages room old new why.Foreign b d is = tt
  step-failed T shape need pages room old new (why.Version found) b d is = tt
  step-failed T shape need pages room old new why.Seats b d is = tt
  step-failed T shape need pages room old new why.BadShape b d is = tt
  step-failed T shape need pages room old new why.BadQuery b d is = tt
  step-failed T shape need pages room old new (why.Worn count) b d is = tt
  step-failed T shape need pages room old new (why.Arity found) b d is = tt

  -- pages and then a slot
  pub room-made : {T U : Type 0} (shape : Shape) (need : ℕ) (pages : State K) (x : U) (r : Result T Refusal) (mid new : OpenFile D) → HasRoomAlone g shape m need pages pages (Ok x) mid.books mid.disk → mid.books.shape ≡ shape
      → (IsOpenSwept g mid.books m pages mid.disk → OnOk r (IsOpenSwept g new.books m (queued mid.books.shape pages) new.disk)) → IfErr r (IsStepCause g mid new) → HasRoomAlone g shape m need pages (queued shape pages) r new.books new.disk
  room-made shape need pages x (Ok y) mid new was same then failed = (subst (λ (z : Shape). IsOpenSwept g new.books m (queued z pages) new.disk) same (then was.0), was.1)
  room-made {T = T} shape need pages x (Err e) mid new was same then failed = step-failed T shape need pages (queued shape pages) mid new e new.books new.disk failed
