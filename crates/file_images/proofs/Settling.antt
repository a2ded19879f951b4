-- Data pages that are written, and what they read as once all is on the disk.
use Rattle.std.proofs.Common.{◌≡◌, ◌≢◌, inl, inr, ℕ, zero, suc, List, [], ◌∷◌, IsTrue, refl, sym, ap, subst, ◌∙◌, arith}
use Rattle.std.specs.Prelude.{slice_get, slice_set, slice_index_or, Option, Some, None, fold}
use Rattle.std.proofs.lemmas.Bool.{cases_eq}
use Rattle.std.proofs.lemmas.Option.{same_Some}
use Rattle.grid_types.specs.declared.shape.Shape.{Shape}
use Rattle.grid_types.specs.Pages.{page_of}
use Rattle.grid_types.specs.Shapes.{is_shape, header_page, data_page}
use Rattle.grid_model.proofs.Boxes.{some-not-none}
use Rattle.file_roots.proofs.Headers.{header_two}
use Rattle.file_images.specs.Kept.{Kept, used}
use Rattle.file_images.specs.Shows.{HasSizes, HoldsPages}
use Rattle.file_images.specs.Apart.{IsFreePage}
use Rattle.history_pages.specs.KnownPages.{settle_page}
use Rattle.file_images.proofs.PagesApart.{data_apart, table_below, gate_high, gate_below, slot_below}
use Rattle.file_images.proofs.Frames.{used_slot}

pub set_other : {X : Type 0} (xs : List X) (i j : ℕ) (x : X) → i ≢ j → slice_get (slice_set xs i x) j ≡ slice_get xs j
set_other [] i j x apart = refl
set_other (y ∷ xs) zero zero x apart = absurd (apart refl)
set_other (y ∷ xs) zero (suc j) x apart = refl
set_other (y ∷ xs) (suc i) zero x apart = refl
set_other (y ∷ xs) (suc i) (suc j) x apart = set_other xs i j x (λ e. apart (ap suc e))

pub set_same : {X : Type 0} (xs : List X) (i : ℕ) (x y : X) → slice_get (slice_set xs i x) i ≡ Some y → y ≡ x
set_same [] i x y is = absurd (some-not-none y (sym is))
set_same (z ∷ xs) zero x y is = sym (same_Some x y is)
set_same (z ∷ xs) (suc i) x y is = set_same xs i x y is

-- what was known of other pages, and what is known of this one
pub holds_set : (s : Shape) (pages : List (Option (List ℕ))) (p : ℕ) (new : Option (List ℕ)) (image : List ℕ) → ((q : ℕ) (bytes : List ℕ) → p ≢ q → slice_get pages q ≡ Some (Some bytes) → page_of (data_page s q) image ≡ bytes)
    → ((bytes : List ℕ) → Some bytes ≡ new → page_of (data_page s p) image ≡ bytes) → HoldsPages s (slice_set pages p new) image
holds_set s pages p new image others this q bytes is = elim (cases_eq p q) [
  | inl same ↦ subst (λ (j : ℕ). page_of (data_page s j) image ≡ bytes) same (this bytes (set_same pages p new (Some bytes) (subst (λ (j : ℕ). slice_get (slice_set pages p new) j ≡ Some (Some bytes)) (sym same) is)))
  | inr apart ↦ others q bytes apart (sym (set_other pages p q new apart) ∙ is)
]

some_is : {X : Type 0} (xs : List (Option X)) (i : ℕ) (x : X) → Some x ≡ slice_index_or xs i None → slice_get xs i ≡ Some (Some x)
some_is [] i x is = absurd (some-not-none x is)
some_is (y ∷ xs) zero x is = ap Some (sym is)
some_is (y ∷ xs) (suc i) x is = some_is xs i x is

-- what pages read as, they hold for good
pub holds_settled : (s : Shape) (fresh always : List (Option (List ℕ))) (pages : List ℕ) (image : List ℕ) → HoldsPages s fresh image → HoldsPages s always image → HoldsPages s (fold (settle_page fresh) always pages) image
holds_settled s fresh always [] image now ever = ever
holds_settled s fresh always (p ∷ ps) image now ever =
    holds_settled s fresh (settle_page fresh always p) ps image now
    (holds_set s always p (slice_index_or fresh p None) image (λ q bytes apart is. ever q bytes is) (λ bytes is. now p bytes (some_is fresh p bytes is)))

-- a data page that always holds nothing that is known is a free one
pub data_is_free : {K : ℕ} (k : Kept K) (p : ℕ) → IsTrue (is_shape k.shape) → HasSizes k → ((bytes : List ℕ) → slice_get k.always p ≢ Some (Some bytes)) → IsFreePage k (data_page k.shape p)
data_is_free k p lawful sizes unkept = record {
  headers = omega (arith, gate_high k.shape lawful 0 (omega arith), gate_below k.shape lawful 0 p (omega arith));
  areas = λ w i m lt e. absurd (omega (arith, e, table_below k.shape lawful (header_page w.fields.number) i 0 (header_two w.fields.number) (omega arith) lt, gate_below k.shape lawful 0 p (omega arith)));
  pages = λ q bytes is. data_apart k.shape q p (λ e. unkept bytes (subst (λ (j : ℕ). slice_get k.always j ≡ Some (Some bytes)) e is));
  gates = λ h two e. absurd (omega (arith, e, gate_below k.shape lawful h p two));
  slots = λ h i x two is e. absurd (omega (arith, e, slot_below k.shape lawful h i p two (used_slot k h i x two sizes is)));
  doubt = λ b is lt e. absurd (omega (arith, e, slot_below k.shape lawful k.half (used k k.half) p sizes.two lt));
}
