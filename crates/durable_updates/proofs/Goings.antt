-- Calls that leave a file where it stands, one after the other.
use Rattle.std.proofs.Common.{◌≡◌, ℕ, [], refl, ◌∙◌, arith}
use Rattle.disk_trait.specs.declared.disk.Disk.{Ghosts}
use Rattle.disk_trait.proofs.Calls.{changes_none}
use Rattle.checkpoints.proofs.Disks as disks
use Rattle.checkpoints.proofs.Standing.{standing-then}
use Rattle.grid_file.specs.CallLaws.{IsNow}
use Rattle.grid_file.specs.Files.{OpenFile}
use Rattle.grid_file.proofs.Alike.{keeps-then, roots-keep}
use Rattle.durable_updates.specs.Answers.{GoesOn}
use Rattle.durable_updates.specs.Goings.{GoesOnThere}
use Rattle.durable_updates.proofs.Roots.{stays-here}

-- a file goes on where there is no call
pub on-none : {D : Type 0} (f : OpenFile D) → f.claimed ≡ [] → GoesOn f f
on-none f none = record { shape = refl; session = refl; unclaimed = none; front = omega arith; number = omega arith }

-- and through two calls
pub on-then : {D : Type 0} {a b c : OpenFile D} → GoesOn a b → GoesOn b c → GoesOn a c
on-then p q = record { shape = q.shape ∙ p.shape; session = q.session ∙ p.session; unclaimed = q.unclaimed; front = omega (arith, p.front, q.front); number = omega (arith, p.number, q.number) }

module _ {K : ℕ} {D : Type 0} {g : Ghosts D} where
  -- it stays where it stands
  pub there-none : (f : OpenFile D) → f.claimed ≡ [] → IsNow g f.disk → GoesOnThere K g f f
  there-none f none now = record {
    moments = λ m o. stays-here g m f.books f.disk now o;
    stays = λ m o. o;
    reading = roots-keep f.books f.books.number f.books.rooted_at f.books.trying_at f.books.half f.books.first_used f.books.second_used;
    claims = refl;
    same = on-none f none;
    changes = changes_none (λ x. refl) now;
  }

  pub there-then : {a b c : OpenFile D} → GoesOnThere K g a b → GoesOnThere K g b c → GoesOnThere K g a c
  there-then {a} {b} {c} p q = record {
    moments = λ m o. standing-then g m p.changes.honest (p.moments m o) (q.moments m (p.stays m o));
    stays = λ m o. q.stays m (p.stays m o);
    reading = keeps-then p.reading q.reading;
    claims = q.claims ∙ p.claims;
    same = on-then p.same q.same;
    changes = disks.keeps-then p.changes q.changes;
  }
