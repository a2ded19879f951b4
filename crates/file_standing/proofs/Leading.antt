-- Where a file stands its roots lead, and of a claimed page nothing is known.
use Rattle.std.proofs.Common.{◌≡◌, ℕ, Bool, true, false, List, Some, is_some, sym, ap, ◌∙◌, true≢false}
use Rattle.std.specs.Prelude.{slice_get}
use Rattle.std.specs.Option.{option_map}
use Rattle.std.proofs.lemmas.Option.{slice_get-map, same_Some}
use Rattle.layout_pages.specs.Holding.{is_live}
use Rattle.file_standing.specs.FileLaws.{FilesLead, ClaimedUnkept}

pub files-lead : {K : ℕ} → FilesLead K
files-lead b k m is w may = let f = is.each w may in record { lineage = f.lineage; along = f.along.along }

pub claimed-unkept : {K : ℕ} → ClaimedUnkept K
claimed-unkept b k m p seat bytes is claimed known =
    let there : Some true ≡ Some false = sym (ap (option_map is_some) known) ∙ sym (slice_get-map is_some k.always p) ∙ ap (λ (bs : List Bool). slice_get bs p) is.hold.holds.known ∙ slice_get-map is_live b.pages p ∙ ap (option_map is_live) claimed in
    true≢false (same_Some true false there)
