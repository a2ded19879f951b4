-- What becomes of the books where pages are claimed and given back.
use Rattle.std.specs.Prelude.{ℕ, List}
use Rattle.page_states.specs.Effects.{claim_all, given_back}
use Rattle.file_books.specs.Books.{Books}

-- the books after a seat claimed pages
abbrev pub claimed_books : ℕ → List ℕ → Books → Books
claimed_books seat pages b = record b { pages = claim_all seat pages b.pages }

-- the books after a seat gave back what it had claimed and did not publish
abbrev pub given_back_books : ℕ → Books → Books
given_back_books seat b = record b { pages = given_back seat b.pages }
