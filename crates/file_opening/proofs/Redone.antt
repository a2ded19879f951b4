-- A file of which all is redone, once that is on the disk for good.
use Rattle.std.proofs.Common.{◌≡◌, ℕ, List, [], Result, Ok, Err, sym, ap, subst, ◌∙◌}
use Rattle.std.specs.Prelude.{OnOk}
use Rattle.grid_types.specs.declared.layout_change.LoggedUpdate.{LoggedUpdate}
use Rattle.disk_trait.specs.declared.disk.Disk.{Ghosts}
use Rattle.disk_trait.specs.Calls.{IsSynced}
use Rattle.disk_trait.proofs.Moments.{weakened}
use Rattle.file_images.specs.Leads.{Standing, HasStanding}
use Rattle.file_images.specs.Meets.{Meets}
use Rattle.file_images.specs.Shows.{Shows}
use Rattle.file_images.proofs.Crashes.{stands_there}
use Rattle.file_sections.specs.Sections.{StaysShown}
use Rattle.file_books.specs.Books.{Books}
use Rattle.file_books.specs.Effects.{session_books}
use Rattle.file_standing.specs.Open.{IsOpenAt, StaysStanding}
use Rattle.file_redo.specs.Redoing.{settled_kept}
use Rattle.file_redo.proofs.Leading.{redo-leads}
use Rattle.file_redo.proofs.Ending.{redo-ends}
use Rattle.file_redo.proofs.Synced.{synced-meets}
use Rattle.checkpoints.specs.Checkpoints.{AreBooksAfter, checkpointed_books}
use Rattle.file_opening.specs.UnderWay.{IsUnderWay}

module _ {K : ℕ} {D : Type 0} (g : Ghosts D) (b : Books) (disk new : D) (m : Standing K) where
  -- while a section shows what is kept, a crash leaves where all leads
  pub shown-stands : (rest : List (LoggedUpdate K)) (w : IsUnderWay g b disk m rest) → StaysShown g w.kept disk new → StaysStanding g m disk new
  shown-stands rest w shown told = weakened g.moment g.left_since disk new (Shows w.kept) (λ (c : List ℕ). HasStanding c m) (shown told)
      (λ c shows. stands_there w.kept m c w.redoing.shut (redo-leads.leads b w.kept m w.lineage w.done rest w.redoing) shows)

  -- once all that was redone is on the disk for good, the file of the next session is open
  pub settled-open : (c : Books) → c ≡ session_books b → IsSynced g new → (w : IsUnderWay g b disk m []) → Meets g w.kept new → IsOpenAt g c m new
  settled-open c is-c synced w meets = subst (λ (x : Books). IsOpenAt g x m new) (sym is-c) (record {
    kept = settled_kept w.kept;
    file = redo-ends b w.kept m w.lineage w.done w.redoing;
    meets = synced-meets g w.kept new synced meets;
  })

-- the books after a root step that succeeded
pub after-ok : {T E : Type 0} (r : Result T E) (b c d : Books) → AreBooksAfter r b c → b ≡ d → OnOk r (c ≡ checkpointed_books d)
after-ok (Ok x) b c d is same = is ∙ ap checkpointed_books same
after-ok (Err e) b c d is same = tt
