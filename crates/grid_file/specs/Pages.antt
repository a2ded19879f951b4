-- The pages of owners at the front of a file, and what readings of them give.
use Rattle.std.specs.Prelude.{◌≡◌, ℕ, suc, List, [], ◌∷◌, cond, if◌then◌else◌, Option, Some, None, IsTrue}
use Rattle.std.specs.Option.{option_map, unwrap_or}
use Rattle.grid_types.specs.declared.owner.Owner.{Owner}
use Rattle.grid_types.specs.Pages.{page_of}
use Rattle.grid_types.specs.Shapes.{data_page}
use Rattle.disk_trait.specs.declared.disk.Disk.{Ghosts}
use Rattle.page_states.specs.declared.page_state.PageState.{PageState}
use Rattle.page_states.specs.States.{shows}
use Rattle.query_paths.specs.Pinned.{Place}
use Rattle.file_books.specs.Books.{Books, numbers_now}
use Rattle.grid_file.specs.Files.{OpenFile}

-- the first of these pages that is an owner's at a place, if there is one
abbrev pub first_shown : Owner → ℕ → List PageState → Option ℕ
first_shown o place [] = None
first_shown o place (x ∷ xs) = cond (shows o place x) (Some 0) (option_map suc (first_shown o place xs))

-- the data page of an owner at the front, if it has one
abbrev pub page_here : Books → Owner → Option ℕ
page_here b o = first_shown o b.front b.pages

-- the page of the file in which an owner's page stands
abbrev pub file_page : Books → Owner → ℕ
file_page b o = data_page b.shape (unwrap_or (page_here b o) 0)

-- the bytes of an owner's page in an image, where the owner has one
abbrev pub page_in_image : Books → List ℕ → Owner → Option (List ℕ)
page_in_image b image o = option_map (λ p. page_of (data_page b.shape p) image) (page_here b o)

-- what readings of owners give: what the disk reads as on their pages, where it tells its content
abbrev pub pages_given : {D : Type 0} → Ghosts D → OpenFile D → Option (Owner → Option (List ℕ))
pages_given g f = if g.honest f.disk then Some (page_in_image f.books (g.seen f.disk)) else None

-- the front of an open file, as a place of which the pages are read
abbrev pub front_place : {D : Type 0} → Ghosts D → OpenFile D → Place
front_place g f = record { shape = f.books.shape; scales = f.books.scales; numbers = numbers_now f.books; pages = pages_given g f; file_page = file_page f.books }

-- an owner's page was read: it is this page of the file, if the owner has one, and where the disk tells its content the bytes are what is given of the owner
pub record IsFoundIn {D : Type 0} (g : Ghosts D) (b : Books) (o : Owner) (disk : D) (bytes : List ℕ) (at : Option ℕ) : Type 0 where
  pub stands : at ≡ option_map (data_page b.shape) (page_here b o)
  pub given : IsTrue (g.honest disk) → page_in_image b (g.seen disk) o ≡ option_map (λ p. bytes) (page_here b o)
