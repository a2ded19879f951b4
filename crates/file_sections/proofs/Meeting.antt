-- What a call that changes images by one step leaves of a disk that meets what a file keeps.
use Rattle.std.proofs.Common.{◌≡◌, ℕ, List, IsTrue, sym, ap, subst, ◌∙◌, arith}
use Rattle.std.specs.Prelude.{Result, Ok, Err, OnOk, OnErr}
use Rattle.grid_types.specs.Shapes.{header_page}
use Rattle.disk_trait.specs.declared.disk.Disk.{Ghosts}
use Rattle.disk_trait.specs.Calls.{Changes}
use Rattle.disk_trait.specs.Disk.{Stays}
use Rattle.disk_trait.specs.Moments.{Always}
use Rattle.disk_trait.proofs.Moments.{weakened}
use Rattle.grid_model.specs.Images.{header_gate}
use Rattle.file_images.specs.Kept.{Kept, next_number}
use Rattle.file_images.specs.Shows.{HoldsPages, Shows}
use Rattle.file_images.specs.Meets.{IsLooseUnder, MayBeClosed, Meets}
use Rattle.file_sections.specs.Sections.{StaysShown}

-- what follows where a call answered, from what its clauses say then
pub on_ok_told : {T E H P Q : Type 0} (r : Result T E) → (H → OnOk r P) → ((H → P) → Q) → OnOk r Q
on_ok_told (Ok x) p then = then p
on_ok_told (Err e) p then = tt

pub on_ok_synced : {T E H P S Q : Type 0} (r : Result T E) → (H → OnOk r P) → OnOk r S → ((H → P) → S → Q) → OnOk r Q
on_ok_synced (Ok x) p synced then = then p synced
on_ok_synced (Err e) p synced then = tt

pub on_err_told : {T E H P Q : Type 0} (r : Result T E) → (H → OnErr r P) → ((H → P) → Q) → OnErr r Q
on_err_told (Ok x) p then = tt
on_err_told (Err e) p then = then p

pub on_any_ok : {T E Q : Type 0} (r : Result T E) → Q → OnOk r Q
on_any_ok (Ok x) q = q
on_any_ok (Err e) q = tt

pub on_any_err : {T E Q : Type 0} (r : Result T E) → Q → OnErr r Q
on_any_err (Ok x) q = tt
on_any_err (Err e) q = q

-- what is kept later, of a disk that met what was kept before
module _ {K : ℕ} {D : Type 0} {g : Ghosts D} (k k2 : Kept K) {old new : D} {step : List ℕ → List ℕ → Type 0} (r : Changes g step old new) (was : Meets g k old) where
  pub told : IsTrue (g.honest new) → IsTrue (g.honest old)
  told h = sym r.honest ∙ h

  module _ (shown : (c d : List ℕ) → Shows k c → step c d → Shows k2 d) where
    -- each image that a crash may leave afterwards shows it
    pub shown_after : IsTrue (g.honest new) → Always (g.may_leave new) (Shows k2)
    shown_after h d now = let from = r.crash (told h) d now in shown from.0 d (was.crash (told h) from.0 from.1) from.2

    -- and each that a crash at a moment of the call leaves
    pub shown_meanwhile : StaysShown g k2 old new
    shown_meanwhile h = weakened g.moment g.left_since old new _ _ (r.moments h) (λ d from. shown from.0 d (was.crash h from.0 from.1) from.2)

  -- the other header page may be closed as before, where it stays with what stands under its gate
  pub loose_after : ((c d : List ℕ) → Shows k c → step c d → header_gate d (header_page (next_number k)) ≡ header_gate c (header_page (next_number k))) → ((c d : List ℕ) → Shows k c → step c d → IsLooseUnder k k.other c → IsLooseUnder k k.other d)
      → (IsTrue (g.honest old) → g.may_leave old (g.seen old)) → IsTrue (g.honest new) → MayBeClosed k (g.seen new) (g.may_leave new)
  loose_after gate under law h is d now =
      let from = r.crash (told h) d now in
      let same = gate (g.seen old) (g.seen new) (was.crash (told h) (g.seen old) (law (told h))) (r.outside (told h)) in
      under from.0 d (was.crash (told h) from.0 from.1) from.2 (was.loose (told h) (sym same ∙ is) from.0 from.1)

-- a call that changes nothing leaves a disk that meets what it met
module _ {K : ℕ} {D : Type 0} {g : Ghosts D} (k : Kept K) {old new : D} (r : Changes g Stays old new) (was : Meets g k old) where
  still : (c d : List ℕ) → Shows k c → Stays c d → Shows k d
  still c d shows same = subst (Shows k) (sym same) shows

  pub stays_shown : StaysShown g k old new
  stays_shown = shown_meanwhile k k r was still

  pub meets_still : Meets g k new
  meets_still = record {
    crash = shown_after k k r was still;
    loose = λ h is d now.
        let from = r.crash (told k k r was h) d now in
        subst (IsLooseUnder k k.other) (sym from.2) (was.loose (told k k r was h) (ap (λ (x : List ℕ). header_gate x (header_page (next_number k))) (sym (r.outside (told k k r was h))) ∙ is) from.0 from.1);
    fresh = λ h. subst (HoldsPages k.shape k.fresh) (sym (r.outside (told k k r was h))) (was.fresh (told k k r was h));
    reads = omega (arith, was.reads, r.reads);
    writes = omega (arith, was.writes, r.writes);
    size = omega (arith, was.size, r.extent);
  }
