-- A header page that is written for a new root.
use Rattle.std.proofs.Common.{◌≡◌, ◌+◌, ℕ, List, IsTrue, sym, ap, subst, ◌∙◌}
use Rattle.std.specs.Prelude.{Option, Some, None, Result, OnOk, OnErr}
use Rattle.grid_types.specs.declared.shape.Shape.{Shape}
use Rattle.disk_trait.specs.declared.disk.Disk.{Ghosts}
use Rattle.disk_trait.specs.Calls.{Changes, IsSynced}
use Rattle.grid_model.specs.Spellings.{RootFields}
use Rattle.grid_model.specs.Roots.{WholeRoot, IsNewestWhole, IsReplaceable}
use Rattle.file_roots.specs.Places.{HeaderAlone, RootAlone}
use Rattle.file_roots.specs.Writing.{HeaderStep, MayBeWritten, Awaits, AwaitsHeader, StaysReplaceable}
use Rattle.file_roots.proofs.Alone.{header_in_root}
use Rattle.file_roots.proofs.Sections.{header_changes, may_be_next}
use Rattle.file_images.specs.Kept.{LooseHeader, Kept, next_number}
use Rattle.file_images.specs.Meets.{Meets}
use Rattle.file_images.specs.Steps.{with_tried, with_root}
use Rattle.file_images.proofs.Newest.{comes_next}
use Rattle.file_sections.specs.Sections.{StaysShown, AwaitsRoot, AreaReads}
use Rattle.file_sections.proofs.Meeting.{told, on_ok_synced, on_err_told}
use Rattle.file_sections.proofs.RootSteps.{awaits_next, roots_shown, roots_meet}

module _ {K : ℕ} {D : Type 0} {g : Ghosts D} {T E : Type 0} (k : Kept K) (s : Shape) (fields : RootFields) (root : WholeRoot) (at : AwaitsRoot k s fields root) {old new : D} (result : Result T E) (step : Changes g (HeaderStep fields (g.seen old)) old new)
    (was : Meets g k old) (law : IsTrue (g.honest old) → g.may_leave old (g.seen old)) (reads : AreaReads g s root old) where
  abbrev n : ℕ
  n = root.fields.number

  abbrev here : ◌≡◌ {A = Shape × ℕ} (k.shape, next_number k) (s, n)
  here = λ j. (at.awaits.next.shape j, (at.awaits.next.number_is ∙ sym (ap (λ (f : RootFields). f.number) at.fields_are)) j)

  r : Changes g (HeaderAlone fields.number) old new
  r = header_changes fields law step

  alone : (c d : List ℕ) → HeaderAlone fields.number c d → RootAlone k.shape (next_number k) c d
  alone c d a = subst (λ (z : Shape × ℕ). RootAlone z.0 z.1 c d) (λ j. (sym at.awaits.next.shape j, sym at.awaits.next.number_is j)) (header_in_root s fields.number c d a)

  header : IsTrue (g.honest old) → AwaitsHeader g s fields (Some k.root) root old
  header h = record {
    fields_are = at.fields_are;
    lawful = at.lawful;
    area = reads h;
    awaits = subst (λ (z : Shape × ℕ). Awaits g z.0 z.1 (Some k.root) old) here (awaits_next k was h at.awaits.shut);
  }

  -- at each moment the new root may be closed and written again
  pub finishing_shown : ((o : Option WholeRoot) (w : WholeRoot) → AwaitsHeader g s fields o w old → StaysReplaceable g s w.fields.number o (Some w) old new) → StaysShown g (with_tried k (Some root)) old new
  finishing_shown replaceable = roots_shown k r alone was law k.root (LooseHeader (Some root)) (IsReplaceable s n (Some k.root) (Some root)) (λ d p. subst (λ (z : Shape × ℕ). IsReplaceable z.0 z.1 (Some k.root) (Some root) d) (sym here) p)
      (λ h. replaceable (Some k.root) root (header h))

  -- after a failure it is the one that was tried
  pub finishing_again : ((o : Option WholeRoot) (w : WholeRoot) → AwaitsHeader g s fields o w old → OnErr result (MayBeWritten g s w.fields.number o (Some w) new)) → OnErr result (Meets g (with_tried k (Some root)) new)
  finishing_again again = on_err_told result (λ h. again (Some k.root) root (header h))
      (λ then.
      let back : IsTrue (g.honest new) → MayBeWritten g k.shape (next_number k) (Some k.root) (Some root) new = λ h. subst (λ (z : Shape × ℕ). MayBeWritten g z.0 z.1 (Some k.root) (Some root) new) (sym here) (then (told k k r was h)) in
      roots_meet k r alone was law k.root (LooseHeader (Some root)) (λ h d now. (back h).each d now) (λ h gate d now. (back h).under_open gate d now))

  -- and where it is written, it is the root
  pub finishing_rooted : ((o : Option WholeRoot) (w : WholeRoot) → AwaitsHeader g s fields o w old → OnOk result (IsNewestWhole s w (g.seen new))) → OnOk result (IsSynced g new) → OnOk result (Meets g (with_root k root) new)
  finishing_rooted newest durable = on_ok_synced result (λ h. newest (Some k.root) root (header h)) durable
      (λ whole synced.
      let next : IsTrue (g.honest new) → MayBeWritten g k.shape (n + 1) (Some root) None new = λ h. subst (λ (z : Shape). MayBeWritten g z (n + 1) (Some root) None new) (sym at.awaits.next.shape) (may_be_next s (n + 1) (Some root) h synced (comes_next root) (whole (told k k r was h))) in
      roots_meet k r alone was law root (LooseHeader None) (λ h d now. (next h).each d now) (λ h gate d now. (next h).under_open gate d now))
