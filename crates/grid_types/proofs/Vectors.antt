-- Where the pages of a file with 64 data pages and 8 slots stand.
use Rattle.std.specs.Prelude.{◌≡◌, refl, true}
use Rattle.grid_types.specs.declared.shape.Shape.{Shape}
use Rattle.grid_types.specs.Shapes.{is_shape, file_pages, table_page, gate_page, slot_page, data_page}

abbrev small : Shape
small = record { k = 2; capacity = 2; pages = 64; slots = 8; boundaries = 1000; cells = 1000000 }

lawful : is_shape small ≡ true
unfolding is_shape
lawful = refl

all-pages : file_pages small ≡ 104
unfolding file_pages
all-pages = refl

second-area : table_page small 1 0 ≡ 12
unfolding table_page
second-area = refl

first-gates : gate_page small 0 ≡ 22
unfolding gate_page
first-gates = refl

last-slot : slot_page small 1 7 ≡ 39
unfolding slot_page gate_page
last-slot = refl

first-data : data_page small 0 ≡ 40
unfolding data_page
first-data = refl
