-- While a file is being opened all leads to its standing, and pages that are free or claimed may be written.
use Rattle.std.proofs.Common.{◌≡◌, ◌<◌, ℕ, Bool, true, not, List, Some, is_some, sym, ap, subst, ◌∙◌, arith, true≢false}
use Rattle.std.specs.Prelude.{slice_get}
use Rattle.std.specs.Option.{option_map}
use Rattle.std.proofs.lemmas.Option.{slice_get-map, slice_get_within}
use Rattle.grid_types.specs.declared.layout_change.LoggedUpdate.{LoggedUpdate}
use Rattle.grid_types.specs.declared.shape.Shape.{Shape}
use Rattle.grid_model.specs.Roots.{WholeRoot}
use Rattle.grid_model.proofs.Boxes.{one-value}
use Rattle.page_states.specs.declared.page_state.PageState.{PageState}
use Rattle.layout_pages.specs.Holding.{is_live}
use Rattle.file_images.specs.Kept.{Kept}
use Rattle.file_images.specs.Leads.{Standing, Lineage, LeadsAlong}
use Rattle.file_images.proofs.PagesLeading.{leads_fresh}
use Rattle.file_books.specs.Books.{Books}
use Rattle.file_standing.proofs.Moving.{only-root}
use Rattle.file_redo.specs.Redoing.{IsRedoing, as_read}
use Rattle.file_redo.specs.RedoLaws.{RedoLeads}
use Rattle.file_redo.proofs.Reading.{always-read}

module _ {K : ℕ} (b : Books) (k : Kept K) (m : Standing K) (x : Lineage K) (done rest : List (LoggedUpdate K)) (is : IsRedoing b k m x done rest) where
  -- a page of which something is always known is live
  known-live : (p : ℕ) (state : PageState) (bytes : List ℕ) → slice_get b.pages p ≡ Some state → slice_get k.always p ≡ Some (Some bytes) → is_live state ≡ true
  known-live p state bytes has known =
      let low : p < k.shape.pages = omega (arith, slice_get_within k.always p (Some bytes) known, is.hold.always, ap (λ (s : Shape). s.pages) is.agree.shape) in
      sym (one-value true (is_live state)
      (sym (always-read k.shape.pages k.fresh k.always p bytes low known) ∙ sym (slice_get-map is_some (as_read k) p) ∙ ap (λ (bs : List Bool). slice_get bs p) is.hold.holds.known ∙ slice_get-map is_live b.pages p ∙ ap (option_map is_live) has))

pub redo-leads : {K : ℕ} → RedoLeads K
redo-leads = record {
  leads = λ b k m x done rest is w may. record { lineage = x; along = subst (λ (v : WholeRoot). LeadsAlong k v m x) (sym (only-root k w is.other may)) is.along };
  written = λ b k m x done rest fresh is w may. record { lineage = x; along = leads_fresh k fresh m w x (subst (λ (v : WholeRoot). LeadsAlong k v m x) (sym (only-root k w is.other may)) is.along) };
  unkept = λ b k m x done rest p state bytes is has dead known. true≢false (sym dead ∙ ap not (known-live b k m x done rest is p state bytes has known));
}
