-- What each step of a root step leaves of what a file keeps.
use Rattle.std.proofs.Common.{◌≡◌, ◌<◌, inl, inr, ◌+◌, ◌*◌, ℕ, List, IsTrue, ap, subst, ◌∙◌, arith}
use Rattle.std.specs.Prelude.{Option, Some}
use Rattle.grid_types.specs.declared.shape.Shape.{Shape}
use Rattle.grid_types.specs.Ranges.{own_page, area_at, area_bytes}
use Rattle.grid_types.specs.Shapes.{area_pages, header_page, table_page}
use Rattle.grid_types.proofs.Places.{table-page, one-of-two}
use Rattle.disk_trait.specs.declared.disk.Disk.{Ghosts}
use Rattle.disk_trait.specs.Calls.{Changes}
use Rattle.disk_trait.specs.Moments.{LeavesOnly}
use Rattle.disk_trait.proofs.Moments.{both}
use Rattle.disk_trait.proofs.Pages.{agrees_wider}
use Rattle.grid_model.specs.Roots.{WholeRoot}
use Rattle.file_roots.specs.Places.{AreaPageAlone, AreaAlone, RootAlone}
use Rattle.file_roots.specs.Writing.{MayBeWritten, Awaits}
use Rattle.file_roots.proofs.Headers.{header_two}
use Rattle.file_images.specs.Kept.{OtherHeader, ShutHeader, LooseHeader, Kept, next_number}
use Rattle.file_images.specs.Shows.{ShowsRoots, Shows}
use Rattle.file_images.specs.Meets.{IsLooseUnder, MayBeClosed, Meets}
use Rattle.file_images.proofs.Newest.{comes_next}
use Rattle.file_images.proofs.RootSteps.{holds_in_root_step, root_step_shows}
use Rattle.file_sections.specs.Sections.{StaysShown}
use Rattle.file_sections.proofs.Meeting.{told}

-- a page of a table area in the area
pub page_in_area : (s : Shape) (number i : ℕ) (c d : List ℕ) → i < area_pages s → AreaPageAlone s number i c d → AreaAlone s number c d
page_in_area s number i c d lt a =
    let t = table-page s i in
    let z = table-page s 0 in
    elim (one-of-two (header_page number) (header_two number)) [
      | inl e ↦
          let p : own_page s number i ≡ 2 + i = ap (λ (h : ℕ). table_page s h i) e ∙ t.0 in
          let q : own_page s number 0 ≡ 2 + 0 = ap (λ (h : ℕ). table_page s h 0) e ∙ z.0 in
          agrees_wider (own_page s number i * 4096) 4096 (area_at s number) (area_bytes s) c d (omega (arith, p, q)) (omega (arith, p, q, lt)) a
      | inr e ↦
          let p : own_page s number i ≡ 2 + area_pages s + i = ap (λ (h : ℕ). table_page s h i) e ∙ t.1 in
          let q : own_page s number 0 ≡ 2 + area_pages s + 0 = ap (λ (h : ℕ). table_page s h 0) e ∙ z.1 in
          agrees_wider (own_page s number i * 4096) 4096 (area_at s number) (area_bytes s) c d (omega (arith, p, q)) (omega (arith, p, q, lt)) a
    ]

module _ {K : ℕ} {D : Type 0} {g : Ghosts D} (k : Kept K) {old : D} (was : Meets g k old) (told_old : IsTrue (g.honest old)) where
  -- where the other header page is loose, the next root may be written
  pub may_be_written : (tried : Option WholeRoot) → k.other ≡ LooseHeader tried → MayBeWritten g k.shape (next_number k) (Some k.root) tried old
  may_be_written tried is = record {
    honest = told_old;
    next = comes_next k.root;
    each = λ i now. subst (λ (o : OtherHeader). ShowsRoots k.shape k.root o i) is (was.crash told_old i now).roots;
    under_open = λ gate i now. subst (λ (o : OtherHeader). IsLooseUnder k o i) is (was.loose told_old gate i now);
  }

  -- where it is closed, the disk awaits it
  pub awaits_next : k.other ≡ ShutHeader → Awaits g k.shape (next_number k) (Some k.root) old
  awaits_next is = record {
    honest = told_old;
    next = comes_next k.root;
    each = λ i now. subst (λ (o : OtherHeader). ShowsRoots k.shape k.root o i) is (was.crash told_old i now).roots;
  }

-- a call that changes bytes of the next root alone
module _ {K : ℕ} {D : Type 0} {g : Ghosts D} (k : Kept K) {old new : D} {step : List ℕ → List ℕ → Type 0} (r : Changes g step old new) (alone : (c d : List ℕ) → step c d → RootAlone k.shape (next_number k) c d) (was : Meets g k old)
    (law : IsTrue (g.honest old) → g.may_leave old (g.seen old)) where
  -- each image shows all but the roots as before
  roots_alone : (root : WholeRoot) (other : OtherHeader) (c d : List ℕ) → Shows k c → step c d → ShowsRoots k.shape root other d → Shows (record k { root = root; other = other }) d
  roots_alone root other c d shows a roots = root_step_shows k c d shows.shape.lawful (alone c d a) root other shows roots

  -- so at each moment, where the roots are shown at each
  pub roots_shown : (root : WholeRoot) (other : OtherHeader) (P : List ℕ → Type 0) → ((d : List ℕ) → P d → ShowsRoots k.shape root other d) → (IsTrue (g.honest old) → LeavesOnly g.moment g.left_since old new P) → StaysShown g (record k { root = root; other = other }) old new
  roots_shown root other P roots each h =
      both g.moment g.left_since old new _ P (Shows (record k { root = root; other = other })) (r.moments h) (each h) (λ d from p. roots_alone root other from.0 d (was.crash h from.0 from.1) from.2 (roots d p))

  -- and a disk meets it, where the roots are shown in each image, and the other header page may be closed
  pub roots_meet : (root : WholeRoot) (other : OtherHeader) → (IsTrue (g.honest new) → (d : List ℕ) → g.may_leave new d → ShowsRoots k.shape root other d) → (IsTrue (g.honest new) → MayBeClosed (record k { root = root; other = other }) (g.seen new) (g.may_leave new)) → Meets g (record k { root = root; other = other }) new
  roots_meet root other roots loose = record {
    crash = λ h d now. let from = r.crash (told k k r was h) d now in roots_alone root other from.0 d (was.crash (told k k r was h) from.0 from.1) from.2 (roots h d now);
    loose = loose;
    fresh = λ h.
        let o = told k k r was h in
        holds_in_root_step k (g.seen old) (g.seen new) (was.crash o (g.seen old) (law o)).shape.lawful (alone (g.seen old) (g.seen new) (r.outside o)) k.fresh (was.fresh o);
    reads = omega (arith, was.reads, r.reads);
    writes = omega (arith, was.writes, r.writes);
    size = omega (arith, was.size, r.extent);
  }
