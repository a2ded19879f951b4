-- The newest root of an image stands, and the other header page may be closed and written again.
use Rattle.std.proofs.Common.{◌≡◌, ◌≢◌, ◌⊎◌, inl, inr, ◌+◌, ℕ, List, sym, subst}
use Rattle.std.specs.Prelude.{None, Some}
use Rattle.grid_types.specs.declared.shape.Shape.{Shape}
use Rattle.grid_types.specs.Shapes.{header_page}
use Rattle.grid_model.specs.Images.{header_gate, IsOtherOlder, IsNewest}
use Rattle.grid_model.specs.Roots.{WholeRoot, HasAreaOf, HasOlderOrTried}
use Rattle.file_images.specs.Kept.{LooseHeader}
use Rattle.file_images.specs.Shows.{ShowsRoots}

module _ (s : Shape) (w : WholeRoot) (image : List ℕ) (newest : IsNewest s image w.fields) where
  abbrev other : ℕ
  other = header_page (w.fields.number + 1)

  -- the other header page is closed, or has an older root
  under_other : IsOtherOlder s w.fields.number image → (header_gate image other ≢ 1) ⊎ HasOlderOrTried s other (Some w) None image
  under_other (inl closed) = inl closed
  under_other (inr older) = inr (inl (older.0, record { spelled = older.1.spelled; lawful = older.1.lawful }, older.2))

  -- so the image shows the root, with none tried beside it
  pub roots_shown : HasAreaOf s w image → ShowsRoots s w (LooseHeader None) image
  roots_shown area = record { keeps = record { opens = newest.opens; area = area }; under = under_other newest.other }

  -- and where the other gate is open, an older root stands under it
  pub loose_under : header_gate image other ≡ 1 → (left : List ℕ) → left ≡ image → HasOlderOrTried s other (Some w) None left
  loose_under open_there left same = elim (under_other newest.other) [
    | inl closed ↦ absurd (closed open_there)
    | inr older ↦ subst (HasOlderOrTried s other (Some w) None) (sym same) older
  ]
