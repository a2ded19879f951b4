-- A header page that is closed, and a page of a table area that is written.
use Rattle.std.proofs.Common.{◌≡◌, ◌≢◌, ◌<◌, ℕ, List, IsTrue, refl, sym, ap, subst, ◌∙◌}
use Rattle.std.specs.Prelude.{Option, Some, Result, OnOk, OnErr}
use Rattle.grid_types.specs.declared.shape.Shape.{Shape}
use Rattle.grid_types.specs.Shapes.{area_pages, header_page}
use Rattle.disk_trait.specs.declared.disk.Disk.{Ghosts}
use Rattle.disk_trait.specs.Calls.{Changes}
use Rattle.disk_trait.specs.Disk.{Stays}
use Rattle.grid_model.specs.Images.{header_gate}
use Rattle.grid_model.specs.Roots.{WholeRoot, IsReady, IsReplaceable}
use Rattle.file_roots.specs.Places.{GateAlone, AreaPageAlone, RootAlone}
use Rattle.file_roots.specs.Writing.{MayBeWritten, Awaits, StaysReplaceable, StaysReady}
use Rattle.file_roots.proofs.Alone.{gate_in_root, area_in_root}
use Rattle.file_roots.proofs.Sections.{changes_if_told}
use Rattle.file_images.specs.Kept.{OtherHeader, ShutHeader, LooseHeader, Kept, next_number}
use Rattle.file_images.specs.Shows.{ShowsRoots}
use Rattle.file_images.specs.Meets.{Meets}
use Rattle.file_images.specs.Steps.{with_closed, with_tried}
use Rattle.file_sections.specs.Sections.{StaysShown, IsNextNumber, AwaitsNumber}
use Rattle.file_sections.proofs.Meeting.{told, stays_shown, meets_still, on_ok_told, on_err_told, on_any_ok, on_any_err}
use Rattle.file_sections.proofs.RootSteps.{page_in_area, may_be_written, awaits_next, roots_shown, roots_meet}

-- what is kept is kept with its other header page
loose_is : {K : ℕ} (k : Kept K) (tried : Option WholeRoot) → k.other ≡ LooseHeader tried → with_tried k tried ≡ k
loose_is k tried is = λ i. record k { other = sym is i }

pub shut_is : {K : ℕ} (k : Kept K) → k.other ≡ ShutHeader → with_closed k ≡ k
shut_is k is = λ i. record k { other = sym is i }

module _ {K : ℕ} {D : Type 0} {g : Ghosts D} {T E : Type 0} (k : Kept K) (s : Shape) (n : ℕ) (at : IsNextNumber k s n) {old new : D} (result : Result T E) (r : Changes g (GateAlone n) old new) (was : Meets g k old) (law : IsTrue (g.honest old) → g.may_leave old (g.seen old)) where
  abbrev here : ◌≡◌ {A = Shape × ℕ} (k.shape, next_number k) (s, n)
  here = λ j. (at.shape j, at.number_is j)

  alone : (c d : List ℕ) → GateAlone n c d → RootAlone k.shape (next_number k) c d
  alone c d a = subst (λ (z : Shape × ℕ). RootAlone z.0 z.1 c d) (sym here) (gate_in_root s n c d a)

  -- a loose header page
  module _ (tried : Option WholeRoot) (is : k.other ≡ LooseHeader tried) where
    may : IsTrue (g.honest old) → MayBeWritten g s n (Some k.root) tried old
    may h = subst (λ (z : Shape × ℕ). MayBeWritten g z.0 z.1 (Some k.root) tried old) here (may_be_written k was h tried is)

    loose_shown : ((o t : Option WholeRoot) → MayBeWritten g s n o t old → StaysReplaceable g s n o t old new) → StaysShown g k old new
    loose_shown replaceable = subst (λ (x : Kept K). StaysShown g x old new) (loose_is k tried is)
        (roots_shown k r alone was law k.root (LooseHeader tried) (IsReplaceable s n (Some k.root) tried) (λ d p. subst (λ (z : Shape × ℕ). IsReplaceable z.0 z.1 (Some k.root) tried d) (sym here) p) (λ h. replaceable (Some k.root) tried (may h)))

    loose_closed : ((o t : Option WholeRoot) → MayBeWritten g s n o t old → OnOk result (Awaits g s n o new)) → OnOk result (Meets g (with_closed k) new)
    loose_closed awaits = on_ok_told result (λ h. awaits (Some k.root) tried (may h))
        (λ then. roots_meet k r alone was law k.root ShutHeader (λ h d now. subst (λ (z : Shape × ℕ). IsReady z.0 z.1 (Some k.root) d) (sym here) ((then (told k k r was h)).each d now)) (λ h is d now. tt))

    loose_again : ((o t : Option WholeRoot) → MayBeWritten g s n o t old → OnErr result (MayBeWritten g s n o t new)) → OnErr result (Meets g k new)
    loose_again again = on_err_told result (λ h. again (Some k.root) tried (may h))
        (λ then.
        let back : IsTrue (g.honest new) → MayBeWritten g k.shape (next_number k) (Some k.root) tried new = λ h. subst (λ (z : Shape × ℕ). MayBeWritten g z.0 z.1 (Some k.root) tried new) (sym here) (then (told k k r was h)) in
        subst (λ (x : Kept K). Meets g x new) (loose_is k tried is) (roots_meet k r alone was law k.root (LooseHeader tried) (λ h d now. (back h).each d now) (λ h gate d now. (back h).under_open gate d now)))

  -- a closed one, which is not written
  module _ (is : k.other ≡ ShutHeader) (unwritten : header_gate (g.seen old) (header_page n) ≢ 1 → Changes g Stays old new) where
    gate_shut : IsTrue (g.honest old) → header_gate (g.seen old) (header_page n) ≢ 1
    gate_shut h e =
        let ready : IsReady k.shape (next_number k) (Some k.root) (g.seen old) = subst (λ (o : OtherHeader). ShowsRoots k.shape k.root o (g.seen old)) is (was.crash h (g.seen old) (law h)).roots in
        ready.closed (ap (λ (m : ℕ). header_gate (g.seen old) (header_page m)) at.number_is ∙ e)

    nothing : Changes g Stays old new
    nothing = changes_if_told r (λ h. unwritten (gate_shut h))

    shut_shown : StaysShown g k old new
    shut_shown = stays_shown k nothing was

    shut_closed : OnOk result (Meets g (with_closed k) new)
    shut_closed = on_any_ok result (subst (λ (x : Kept K). Meets g x new) (sym (shut_is k is)) (meets_still k nothing was))

    shut_again : OnErr result (Meets g k new)
    shut_again = on_any_err result (meets_still k nothing was)

  module _ (unwritten : header_gate (g.seen old) (header_page n) ≢ 1 → Changes g Stays old new) where
    pub closing_shown : ((o t : Option WholeRoot) → MayBeWritten g s n o t old → StaysReplaceable g s n o t old new) → StaysShown g k old new
    closing_shown replaceable = by k.other refl
      where
        by : (o : OtherHeader) → k.other ≡ o → StaysShown g k old new
        by ShutHeader is = shut_shown is unwritten
        by (LooseHeader tried) is = loose_shown tried is replaceable

    pub closing_closed : ((o t : Option WholeRoot) → MayBeWritten g s n o t old → OnOk result (Awaits g s n o new)) → OnOk result (Meets g (with_closed k) new)
    closing_closed awaits = by k.other refl
      where
        by : (o : OtherHeader) → k.other ≡ o → OnOk result (Meets g (with_closed k) new)
        by ShutHeader is = shut_closed is unwritten
        by (LooseHeader tried) is = loose_closed tried is awaits

    pub closing_again : ((o t : Option WholeRoot) → MayBeWritten g s n o t old → OnErr result (MayBeWritten g s n o t new)) → OnErr result (Meets g k new)
    closing_again again = by k.other refl
      where
        by : (o : OtherHeader) → k.other ≡ o → OnErr result (Meets g k new)
        by ShutHeader is = shut_again is unwritten
        by (LooseHeader tried) is = loose_again tried is again

-- a page of the next root's table area
module _ {K : ℕ} {D : Type 0} {g : Ghosts D} (k : Kept K) (s : Shape) (n i : ℕ) (at : AwaitsNumber k s n) (inside : i < area_pages s) {old new : D} (r : Changes g (AreaPageAlone s n i) old new) (was : Meets g k old) (law : IsTrue (g.honest old) → g.may_leave old (g.seen old)) where
  abbrev there : ◌≡◌ {A = Shape × ℕ} (k.shape, next_number k) (s, n)
  there = λ j. (at.next.shape j, at.next.number_is j)

  part_alone : (c d : List ℕ) → AreaPageAlone s n i c d → RootAlone k.shape (next_number k) c d
  part_alone c d a = subst (λ (z : Shape × ℕ). RootAlone z.0 z.1 c d) (sym there) (area_in_root s n c d (page_in_area s n i c d inside a))

  awaited : IsTrue (g.honest old) → Awaits g s n (Some k.root) old
  awaited h = subst (λ (z : Shape × ℕ). Awaits g z.0 z.1 (Some k.root) old) there (awaits_next k was h at.shut)

  pub part_shown : ((o : Option WholeRoot) → Awaits g s n o old → StaysReady g s n o old new) → StaysShown g k old new
  part_shown ready = subst (λ (x : Kept K). StaysShown g x old new) (shut_is k at.shut)
      (roots_shown k r part_alone was law k.root ShutHeader (IsReady s n (Some k.root)) (λ d p. subst (λ (z : Shape × ℕ). IsReady z.0 z.1 (Some k.root) d) (sym there) p) (λ h. ready (Some k.root) (awaited h)))

  pub part_meets : ((o : Option WholeRoot) → Awaits g s n o old → Awaits g s n o new) → Meets g k new
  part_meets awaits = subst (λ (x : Kept K). Meets g x new) (shut_is k at.shut)
      (roots_meet k r part_alone was law k.root ShutHeader (λ h d now. subst (λ (z : Shape × ℕ). IsReady z.0 z.1 (Some k.root) d) (sym there) ((awaits (Some k.root) (awaited (told k k r was h))).each d now)) (λ h is d now. tt))
