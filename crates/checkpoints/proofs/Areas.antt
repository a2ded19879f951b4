-- What the write of a whole table area leaves of what a file keeps.
use Rattle.std.proofs.Common.{◌≡◌, ℕ, List, IsTrue, sym, subst}
use Rattle.std.specs.Prelude.{Option, Some}
use Rattle.grid_types.specs.declared.shape.Shape.{Shape}
use Rattle.disk_trait.specs.declared.disk.Disk.{Ghosts}
use Rattle.disk_trait.specs.Calls.{Changes}
use Rattle.grid_model.specs.Roots.{WholeRoot, IsReady}
use Rattle.file_roots.specs.Places.{AreaAlone, RootAlone}
use Rattle.file_roots.specs.Writing.{Awaits, StaysReady}
use Rattle.file_roots.proofs.Alone.{area_in_root}
use Rattle.file_roots.proofs.Exchange.{ready_is_replaceable}
use Rattle.file_images.specs.Kept.{ShutHeader, LooseHeader, Kept, next_number}
use Rattle.file_images.specs.Meets.{Meets}
use Rattle.file_images.specs.Steps.{with_closed, with_tried}
use Rattle.file_sections.specs.Sections.{StaysShown, AwaitsNumber}
use Rattle.file_sections.proofs.Meeting.{told}
use Rattle.file_sections.proofs.RootSteps.{awaits_next, roots_shown, roots_meet}

module _ {K : ℕ} {D : Type 0} {g : Ghosts D} (k : Kept K) (s : Shape) (n : ℕ) (at : AwaitsNumber k s n) {old new : D} (r : Changes g (AreaAlone s n) old new) (was : Meets g k old) (law : (d : D) → IsTrue (g.honest d) → g.may_leave d (g.seen d)) where
  abbrev here : ◌≡◌ {A = Shape × ℕ} (k.shape, next_number k) (s, n)
  here = λ j. (at.next.shape j, at.next.number_is j)

  alone : (c d : List ℕ) → AreaAlone s n c d → RootAlone k.shape (next_number k) c d
  alone c d a = subst (λ (z : Shape × ℕ). RootAlone z.0 z.1 c d) (λ j. (sym at.next.shape j, sym at.next.number_is j)) (area_in_root s n c d a)

  awaited : IsTrue (g.honest old) → Awaits g s n (Some k.root) old
  awaited h = subst (λ (z : Shape × ℕ). Awaits g z.0 z.1 (Some k.root) old) here (awaits_next k was h at.shut)

  back : (d : List ℕ) → IsReady s n (Some k.root) d → IsReady k.shape (next_number k) (Some k.root) d
  back d p = subst (λ (z : Shape × ℕ). IsReady z.0 z.1 (Some k.root) d) (λ j. (sym at.next.shape j, sym at.next.number_is j)) p

  -- at each moment a root, or none, may have been tried
  pub area-shown : (tried : Option WholeRoot) → ((o : Option WholeRoot) → Awaits g s n o old → StaysReady g s n o old new) → StaysShown g (with_tried k tried) old new
  area-shown tried ready = roots_shown k r alone was (law old) k.root (LooseHeader tried) (IsReady s n (Some k.root)) (λ d p. ready_is_replaceable k.shape (next_number k) (Some k.root) tried d (back d p)) (λ h. ready (Some k.root) (awaited h))

  -- afterwards the header page is closed still
  shut-is : with_closed k ≡ k
  shut-is = λ i. record k { other = sym at.shut i }

  pub area-meets : ((o : Option WholeRoot) → Awaits g s n o old → Awaits g s n o new) → Meets g k new
  area-meets awaits = subst (λ (x : Kept K). Meets g x new) shut-is (roots_meet k r alone was (law old) k.root ShutHeader (λ h d now. back d ((awaits (Some k.root) (awaited (told k k r was h))).each d now)) (λ h is d now. tt))

  -- and a root, or none, may have been tried
  pub area-loose : (tried : Option WholeRoot) → ((o : Option WholeRoot) → Awaits g s n o old → Awaits g s n o new) → Meets g (with_tried k tried) new
  area-loose tried awaits =
      let ready : IsTrue (g.honest new) → (d : List ℕ) → g.may_leave new d → IsReady k.shape (next_number k) (Some k.root) d = λ h d now. back d ((awaits (Some k.root) (awaited (told k k r was h))).each d now) in
      roots_meet k r alone was (law old) k.root (LooseHeader tried) (λ h d now. ready_is_replaceable k.shape (next_number k) (Some k.root) tried d (ready h d now)) (λ h gate. absurd ((ready h (g.seen new) (law new h)).closed gate))
