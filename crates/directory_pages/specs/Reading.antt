-- What stands in the front of a directory page.
use Rattle.std.specs.Prelude.{◌≡◌, ℕ, List, take, drop, codes}
use Rattle.page_fields.specs.Fields.{number, AreZeros}

-- the front of a page is the head of that part with so many cells: each field stands at its offset, and zeros behind them
pub record IsPartHead (part count : ℕ) (page : List ℕ) : Type 0 where
  pub kind : take 4 page ≡ codes "GFD1"
  pub part_is : number 4 (drop 4 page) ≡ part
  pub count_is : number 4 (drop 8 page) ≡ count
  pub rest : AreZeros 12 96 page
