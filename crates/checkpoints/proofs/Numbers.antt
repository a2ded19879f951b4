-- The number and the fields of the next root, as the sections of a root step know them.
use Rattle.std.proofs.Common.{◌≡◌, ◌+◌, ℕ, sym, ap, subst, ◌∙◌}
use Rattle.grid_types.specs.declared.shape.Shape.{Shape}
use Rattle.grid_model.specs.Roots.{AreRootFields}
use Rattle.grid_model.specs.Spellings.{RootFields}
use Rattle.linear_scales.specs.Roots.{root_fields_of, whole_of, IsRoot}
use Rattle.linear_scales.specs.declared.root.Root.{Root}
use Rattle.root_pages.specs.declared.root_header.RootHeader.{RootHeader}
use Rattle.root_pages.specs.Fields.{model_fields}
use Rattle.file_images.specs.Kept.{Kept}
use Rattle.file_sections.specs.Sections.{IsNextNumber, AwaitsNumber, AwaitsRoot}
use Rattle.file_books.specs.Books.{Books}
use Rattle.file_books.specs.Effects.{turned_books}
use Rattle.file_state.specs.Roots.{next_fields}

-- a shape and a number that are those of the books
pub next-known : {K : ℕ} (k : Kept K) (b : Books) (s : Shape) (n : ℕ) → s ≡ b.shape → n ≡ b.number → IsNextNumber k b.shape (b.number + 1) → IsNextNumber k s (n + 1)
next-known k b s n shape number at = record { shape = at.shape ∙ sym shape; number_is = at.number_is ∙ sym (ap (λ (i : ℕ). i + 1) number) }

-- a root that was made of the books, once the halves' roles were exchanged
module _ {K : ℕ} (k : Kept K) (b b1 : Books) (s : Shape) (root : Root K) (shape : s ≡ b.shape) (turned : b1 ≡ turned_books b) (fields : root_fields_of root ≡ next_fields b1) (at : AwaitsNumber k b.shape (b.number + 1)) where
  root-number : root.number ≡ b.number + 1
  root-number = ap (λ (f : RootFields). f.number) fields ∙ ap (λ (x : Books). x.number + 1) turned

  pub awaits-known : AwaitsNumber k s root.number
  awaits-known = record { next = record { shape = at.next.shape ∙ sym shape; number_is = at.next.number_is ∙ sym root-number }; shut = at.shut }

  pub awaits-root : (header : RootHeader) → model_fields header ≡ root_fields_of root → IsRoot b1.shape root → AwaitsRoot k s (model_fields header) (whole_of root)
  awaits-root header is lawful = record {
    awaits = subst (λ (f : RootFields). AwaitsNumber k s f.number) (sym is) awaits-known;
    fields_are = sym is;
    lawful = subst (λ (x : Shape). AreRootFields x (root_fields_of root)) (ap (λ (x : Books). x.shape) turned ∙ sym shape) lawful.fields;
  }
