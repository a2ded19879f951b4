-- A part that is written by a reading and then a write.
use Rattle.std.proofs.Common.{◌≡◌, ◌+◌, ◌++◌, ◌∷◌, [], ℕ, List, ap, ◌∙◌, subst}
use Rattle.std.specs.Prelude.{Result, Err, OnOk, OnErr, IfErr, IsErrAnd}
use Rattle.std.proofs.lemmas.Result.{on_ok_weaker}
use Rattle.grid_types.specs.declared.owner.Owner.TheVariants.{Part}
use Rattle.grid_types.specs.declared.refusal.Refusal.{Refusal}
use Rattle.grid_model.specs.Spellings.{directory_spelling}
use Rattle.directory_changes.specs.declared.change.DirectoryChange.{DirectoryChange}
use Rattle.shadow_directory.specs.declared.pages.ChangePages.{Ghosts}
use Rattle.shadow_directory.specs.Pages.{BeganFor}
use Rattle.shadow_directory.specs.Calls.{Keeps, OnlyReads, ReadsOld, Tells, IsCause, IsFault, WrotePart}
use Rattle.shadow_directory.specs.Directories.{IsPartAfter}
use Rattle.shadow_directory.specs.WrittenParts.{WritesPart}
use Rattle.shadow_directory.proofs.Began.{began-none}
use Rattle.shadow_directory.proofs.Faults.{err-goes, err-not-ok, err-there, err-weaker}
use Rattle.shadow_directory.proofs.Keeping.{keeps-on, causes-behind}

module _ {P T : Type 0} {g : Ghosts P} {K : ℕ} (ns : List ℕ) (change : DirectoryChange K) (part : ℕ) (old new : P) (bytes : List ℕ) (r : Result T Refusal) where
  -- the reading failed
  pub part-failed : {U : Type 0} (e : Refusal) → IsErrAnd r (λ y. y ≡ e) → ReadsOld {T = U} g ns (Err e) old new bytes → WritesPart g ns change part r old new bytes
  part-failed e goes h = record {
    written = λ D after tells is. err-not-ok r e (g.written new ≡ g.written old ++ (Part part, directory_spelling part after) ∷ []) goes;
    honest = λ D tells. err-goes r e IsFault goes (h.honest D tells);
    cause = err-goes r e (IsCause g ns old new bytes) goes h.cause;
    same = h.same.keeps;
    wrote = err-not-ok r e (WrotePart part (g.written old) (g.written new)) goes;
    began = err-there r (BeganFor (Part part ∷ []) (g.written old) (g.written new)) (began-none (Part part ∷ []) (g.written old) (g.written new) h.same.written);
    left = err-not-ok r e (g.room new + 1 ≡ g.room old) goes;
  }

  -- it was done, and then a page was written
  pub part-ended : (law : (a b c : P) → g.stays a b → g.stays b c → g.stays a c) (mid : P) (page : List ℕ) → OnlyReads g old mid → ((D after : List ℕ) → Tells g old ns D → IsPartAfter ns change D part after → page ≡ directory_spelling part after)
      → OnOk r (g.written new ≡ g.written mid ++ (Part part, page) ∷ []) → OnErr r (BeganFor (Part part ∷ []) (g.written mid) (g.written new)) → OnOk r (g.room new + 1 ≡ g.room mid) → Keeps g mid new → IfErr r IsFault → IfErr r (IsCause g ns mid new bytes)
      → WritesPart g ns change part r old new bytes
  part-ended law mid page reads page-is written began left keeps fault cause = record {
    written = λ D after tells is. let spelled = page-is D after tells is in on_ok_weaker r (λ w. w ∙ (λ i. reads.written i ++ (Part part, spelled i) ∷ [])) written;
    honest = λ D tells. fault;
    cause = causes-behind old mid new ns bytes r reads.keeps cause;
    same = keeps-on law reads.keeps keeps;
    wrote = on_ok_weaker r (λ w. record { bytes = page; is = w ∙ ap (λ xs. xs ++ (Part part, page) ∷ []) reads.written }) written;
    began = err-weaker r (BeganFor (Part part ∷ []) (g.written mid) (g.written new)) (BeganFor (Part part ∷ []) (g.written old) (g.written new)) (λ b. subst (λ xs. BeganFor (Part part ∷ []) xs (g.written new)) reads.written b) began;
    left = on_ok_weaker r (λ w. w ∙ reads.room) left;
  }
