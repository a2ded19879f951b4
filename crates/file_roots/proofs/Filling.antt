-- What was gathered may have been gathered from some file, also where a disk does not tell its content.
use Rattle.std.proofs.Common.{◌≡◌, ◌<◌, ◌≤◌, inl, inr, ◌+◌, ◌*◌, ◌++◌, ℕ, zero, List, length, replicate, take, drop, IsTrue, refl, sym, ◌∙◌, subst, arith}
use Rattle.std.proofs.lemmas.List.{length-replicate}
use Rattle.grid_types.specs.declared.shape.Shape.{Shape}
use Rattle.grid_types.specs.Pages.{page_of}
use Rattle.grid_types.specs.Shapes.{is_shape, area_pages, file_pages, header_page, table_page}
use Rattle.grid_types.proofs.Places.{table-page, table-page-lies, one-of-two}
use Rattle.grid_model.specs.Spellings.{RootFields}
use Rattle.grid_model.specs.Lawful.{IsRootOn, Area, IsAreaOf}
use Rattle.disk_trait.specs.Disk.{Agrees}
use Rattle.disk_trait.proofs.Pages.{page_apart, holds_agrees, page_written}
use Rattle.file_roots.specs.declared.gathering.Gathered.{Gathered}
use Rattle.file_roots.specs.Gathering.{HasGathered, MayBeGathered, area_in}
use Rattle.file_roots.proofs.Headers.{header_two}
use Rattle.file_roots.proofs.Whole.{area_of_pages}

-- an image with other bytes from an offset on
abbrev pub with_bytes : List ℕ → ℕ → List ℕ → List ℕ
with_bytes c at bytes = take at c ++ (bytes ++ drop (at + length bytes) c)

-- one page of a table area lies before another
before_in_area : (s : Shape) (area j i : ℕ) → area < 2 → j < i → table_page s area j < table_page s area i
before_in_area s area j i two lt =
    let a = table-page s j in
    let b = table-page s i in
    elim (one-of-two area two) [
      | inl e ↦ rw e (omega (arith, a.0, b.0, lt))
      | inr e ↦ rw e (omega (arith, a.1, b.1, lt))
    ]

module _ {K : ℕ} (s : Shape) (r : RootFields) (lawful : IsTrue (is_shape s)) (i : ℕ) (inside : i < area_pages s) (g : Gathered K) (page : List ℕ) (long : length page ≡ 4096) (may : MayBeGathered s r i g) where
  -- the file that has this page next
  abbrev pub next_file : List ℕ
  next_file = with_bytes may.image (table_page s (header_page r.number) i * 4096) page

  next_inside : table_page s (header_page r.number) i * 4096 + length page ≤ length may.image
  next_inside = let p = table-page-lies s (header_page r.number) i lawful (header_two r.number) inside in omega (arith, p.inside, may.long, long)

  next_agrees : Agrees (table_page s (header_page r.number) i * 4096) (length page) may.image next_file
  next_agrees = holds_agrees may.image (table_page s (header_page r.number) i * 4096) page next_file next_inside refl

  pub next_long : file_pages s * 4096 ≤ length next_file
  next_long = omega (arith, next_agrees.same_length, may.long)

  pub next_page : page_of (table_page s (header_page r.number) i) next_file ≡ page
  next_page = page_written may.image (table_page s (header_page r.number) i) page next_file (omega (arith, next_inside)) long refl

  pub gathered_there : HasGathered s next_file r i g
  gathered_there = record {
    area = record {
      spelled = record {
        attributes = may.gathered.area.spelled.attributes;
        boundaries = may.gathered.area.spelled.boundaries;
        parts = may.gathered.area.spelled.parts;
        numbers = may.gathered.area.spelled.numbers;
        scales = may.gathered.area.spelled.scales;
        named = may.gathered.area.spelled.named;
        distinct = may.gathered.area.spelled.distinct;
        pages = λ j lt.
            let first = before_in_area s (header_page r.number) j i (header_two r.number) lt in
            page_apart (table_page s (header_page r.number) i * 4096) (length page) (table_page s (header_page r.number) j) may.image next_file (inl (omega (arith, first))) next_agrees ∙ may.gathered.area.spelled.pages j lt;
      };
      buckets = may.gathered.area.buckets;
    };
    marked = may.gathered.marked;
  }

-- a file of zeros
pub zeros_long : (s : Shape) → file_pages s * 4096 ≤ length (replicate (file_pages s * 4096) zero)
zeros_long s = omega (arith, length-replicate (file_pages s * 4096) zero)

-- an area that may have been gathered from all pages is lawful for its root
pub area_lawful : {K : ℕ} (s : Shape) (r : RootFields) (g : Gathered K) → IsTrue (is_shape s) → IsRootOn s (header_page r.number) r → MayBeGathered s r (area_pages s) g → IsAreaOf s r (area_in g)
area_lawful s r g lawful root may = (area_of_pages s may.image r (area_in g) lawful root may.gathered.area).lawful

-- what is lawful for a root's fields is so for the same fields
pub same_root : (s : Shape) (r q : RootFields) (a : Area) → q ≡ r → IsRootOn s (header_page r.number) r → IsAreaOf s r a → IsRootOn s (header_page q.number) q × IsAreaOf s q a
same_root s r q a same root area = (subst (λ f. IsRootOn s (header_page f.number) f) (sym same) root, subst (λ f. IsAreaOf s f a) (sym same) area)
