-- The books of a file: what memory keeps of it, as plain data.
use Rattle.std.specs.Prelude.{◌≡◌, ◌<◌, ◌≤◌, ◌*◌, ◌^◌, ℕ, Bool, List, filter, length, nat_lt, Option, IsTrue}
use Rattle.std.specs.List.{count_by, list_any}
use Rattle.grid_types.specs.declared.owner.Owner.{Owner}
use Rattle.grid_types.specs.declared.owner.Owner.TheVariants.{Bucket, Part}
use Rattle.grid_types.specs.declared.shape.Shape.{Shape}
use Rattle.grid_types.specs.Shapes.{is_shape}
use Rattle.grid_model.specs.Lists.{below}
use Rattle.grid_model.specs.Scales.{scale_of, is_scale}
use Rattle.grid_model.specs.Cells.{cells, parts}
use Rattle.page_states.specs.declared.page_state.PageState.{PageState}
use Rattle.page_states.specs.States.{shows}
use Rattle.page_states.specs.Laws.{Settled}

-- the books of a file: its shape; the session, the front, how many records and buckets there are; the number and the place of the newest root, and the place of one that is being written or was tried; the current half of the journal, and how many slots of each are used; the boundaries of each attribute at the front; and the state of each data page
pub record Books : Type 0 where
  pub shape : Shape
  pub session : ℕ
  pub front : ℕ
  pub records : ℕ
  pub buckets : ℕ
  pub number : ℕ
  pub rooted_at : ℕ
  pub trying_at : Option ℕ
  pub half : ℕ
  pub first_used : ℕ
  pub second_used : ℕ
  pub scales : List (List ℕ)
  pub pages : List PageState

-- an owner has a page at the front
abbrev pub has_page : Books → Owner → Bool
has_page b o = list_any (shows o b.front) b.pages

-- the bucket numbers that have a page at the front, ascending
abbrev pub numbers_now : Books → List ℕ
numbers_now b = filter (λ n. has_page b (Bucket n)) (below b.shape.pages)

-- scales are those of K attributes in a file of this shape: each ascends, none has more boundaries and all together make no more cells than the shape says
pub record AreScalesOf (K : ℕ) (shape : Shape) (scales : List (List ℕ)) : Type 0 where
  pub attributes : length scales ≡ K
  pub ascend : (a : ℕ) → a < K → IsTrue (is_scale (scale_of scales a))
  pub few_boundaries : (a : ℕ) → a < K → length (scale_of scales a) ≤ shape.boundaries
  pub few_cells : cells scales ≤ shape.cells

-- the numbers of books are in their ranges: session and root number are at most 2 ^ 63, the front is below, and no half has more used slots than slots
pub record InRanges (b : Books) : Type 0 where
  pub session : b.session ≤ 2 ^ 63
  pub number : b.number ≤ 2 ^ 63
  pub front : b.front < 2 ^ 63
  pub half : b.half < 2
  pub first : b.first_used ≤ b.shape.slots
  pub second : b.second_used ≤ b.shape.slots

-- each owner has one page at the front at most; the directory parts of the scales have one, and so have as many buckets as are counted, all of lower numbers than there are pages; none began or ended beyond the front
pub record OwnersHavePages (b : Books) : Type 0 where
  pub settled : Settled b.front b.pages
  pub one : (o : Owner) → count_by (shows o b.front) b.pages ≤ 1
  pub directory : (p : ℕ) → has_page b (Part p) ≡ nat_lt p (parts b.scales)
  pub numbers : (n : ℕ) → IsTrue (has_page b (Bucket n)) → n < b.shape.pages
  pub buckets : b.buckets ≡ length (numbers_now b)

-- books are those of a file with K attributes, whatever the file says: a root can always be made of them
pub record AreBooksOf (K : ℕ) (b : Books) : Type 0 where
  pub lawful : IsTrue (is_shape b.shape)
  pub attributes : b.shape.k ≡ K
  pub size : length b.pages ≡ b.shape.pages
  pub ranges : InRanges b
  pub scales : AreScalesOf K b.shape b.scales
  pub owners : OwnersHavePages b
  pub some : 1 ≤ b.buckets
  pub records : b.records ≤ b.buckets * b.shape.capacity
