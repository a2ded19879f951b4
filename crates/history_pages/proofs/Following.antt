-- Pages that follow those of a layout and a table by a change are the pages after it.
use Rattle.std.proofs.Common.{◌≡◌, ℕ, Bool, true, false, List, Option, refl, sym, subst, ◌∙◌}
use Rattle.grid_types.specs.declared.layout_change.LayoutChange.{LayoutChange}
use Rattle.grid_types.specs.declared.owner.Owner.{Owner}
use Rattle.grid_types.specs.declared.shape.Shape.{Shape}
use Rattle.grid_types.specs.declared.update.Update.{Update}
use Rattle.grid_model.specs.Tables.{Table, effect}
use Rattle.grid_model.specs.Layouts.{BucketBox, Layout}
use Rattle.grid_model.specs.Notes.{updated_key, after_note, after_note_at}
use Rattle.grid_model.specs.Lawful.{IsUpdateOf}
use Rattle.grid_model.specs.LayoutLaws.{StandsOver, Fits}
use Rattle.grid_model.specs.Lone.{renewed, dropped}
use Rattle.grid_model.proofs.Holders.{after-there}
use Rattle.grid_model.proofs.Together.{sound-layouts}
use Rattle.history_pages.specs.OwnerPages.{has_owner, owner_page, ImagePages, page_in}
use Rattle.history_pages.specs.PageLaws.{IsChange, Follow, page_after}
use Rattle.history_pages.specs.SpellingLaws.{ImageSpells}
use Rattle.history_pages.proofs.Changes.{others, gone}
use Rattle.history_pages.proofs.Whole.{whole}

module _ {K : ℕ} (shape : Shape) (L : Layout K) (t : Table) (u : Update K) (n : LayoutChange) (e : ℕ × BucketBox K) where
  -- pages that follow those of a layout and a table are those after the change
  pub next-pages : (before later : Owner → Option (List ℕ)) → IsChange shape L t u n e → ((o : Owner) → before o ≡ owner_page L t o) → Follow L t u n e before later → (o : Owner) → later o ≡ page_after L t u n e o
  next-pages before later h was f o = by (has_owner (dropped L e n) o) (has_owner (renewed L e n) o) refl refl
    where
      by : (d r : Bool) → has_owner (dropped L e n) o ≡ d → has_owner (renewed L e n) o ≡ r → later o ≡ page_after L t u n e o
      by false r p q = f.others o p ∙ was o ∙ sym (others shape L t u n e o h p)
      by true true p q = f.new o q
      by true false p q = f.gone o q p ∙ sym (gone shape L t u n e o h q p)

  -- the layout after a change stands over the table after it
  pub stands-after : IsChange shape L t u n e → IsUpdateOf K u → Fits shape (after_note_at L e n) → StandsOver shape (after_note_at L e n) (effect t u)
  stands-after h update fits = subst (λ (M : Layout K). StandsOver shape M (effect t u)) same (sound-layouts.after shape L t u n h.stands update h.lawful (subst (λ (M : Layout K). Fits shape M) (sym same) fits))
    where
      same : after_note L (updated_key u) n ≡ after_note_at L e n
      same = after-there L (updated_key u) e n h.holds

  -- an image whose pages follow those of another one spells the layout and the table after the change
  pub next-spells : (before later : ImagePages) → IsChange shape L t u n e → IsUpdateOf K u → Fits shape (after_note_at L e n) → ImageSpells shape before L t → Follow L t u n e (page_in shape before) (page_in shape later)
      → ImageSpells shape later (after_note_at L e n) (effect t u)
  next-spells before later h update fits spelled follow =
      (whole shape (after_note_at L e n) (effect t u) later (stands-after h update fits)).1 (next-pages (page_in shape before) (page_in shape later) h ((whole shape L t before h.stands).0 spelled) follow)
