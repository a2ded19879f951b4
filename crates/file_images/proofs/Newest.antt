-- Which root is the newest in an image that shows what a file keeps.
use Rattle.std.proofs.Common.{◌≡◌, ◌⊎◌, inl, inr, ◌+◌, ℕ, List, refl, arith}
use Rattle.std.specs.Prelude.{Option, Some, None}
use Rattle.grid_types.specs.declared.shape.Shape.{Shape}
use Rattle.grid_model.specs.Roots.{WholeRoot, IsNewestWhole, ShowsOldOrTried, ComesNext}
use Rattle.file_roots.proofs.Exchange.{old_or_tried_is_newest, ready_is_replaceable}
use Rattle.file_images.specs.Kept.{OtherHeader, ShutHeader, LooseHeader, IsTried}
use Rattle.file_images.specs.Shows.{ShowsRoots}

-- the next root comes behind the kept one
pub comes_next : (root : WholeRoot) → ComesNext (Some root) (root.fields.number + 1)
comes_next root = record { apart = λ e. absurd (omega (arith, e)); later = omega arith }

-- one root is the newest, with its whole table area: the kept one, or the one that was tried
pub record HasNewest (s : Shape) (root : WholeRoot) (other : OtherHeader) (image : List ℕ) : Type 0 where
  pub newest : WholeRoot
  pub is : (newest ≡ root) ⊎ IsTried other newest
  pub whole : IsNewestWhole s newest image

one_of : (s : Shape) (root : WholeRoot) (tried : Option WholeRoot) (image : List ℕ) → ShowsOldOrTried s (Some root) tried image → HasNewest s root (LooseHeader tried) image
one_of s root None image shown = record { newest = root; is = inl refl; whole = shown }
one_of s root (Some w) image (inl shown) = record { newest = w; is = inr refl; whole = shown }
one_of s root (Some w) image (inr shown) = record { newest = root; is = inl refl; whole = shown }

kept_one : (s : Shape) (root : WholeRoot) (image : List ℕ) → IsNewestWhole s root image → HasNewest s root ShutHeader image
kept_one s root image whole = record { newest = root; is = inl refl; whole = whole }

pub newest_of : (s : Shape) (root : WholeRoot) (other : OtherHeader) (image : List ℕ) → ShowsRoots s root other image → HasNewest s root other image
newest_of s root ShutHeader image shown = kept_one s root image (old_or_tried_is_newest s (root.fields.number + 1) (Some root) None image (comes_next root) (ready_is_replaceable s (root.fields.number + 1) (Some root) None image shown))
newest_of s root (LooseHeader tried) image shown = one_of s root tried image (old_or_tried_is_newest s (root.fields.number + 1) (Some root) tried image (comes_next root) shown)
