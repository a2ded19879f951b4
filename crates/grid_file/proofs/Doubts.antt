-- A batch that is in doubt stays so where claimed pages are given back, and what was said of a commit is said of the file that was committed to.
use Rattle.std.proofs.Common.{◌≡◌, ◌∙◌, ℕ, List, ap, subst}
use Rattle.disk_trait.specs.declared.disk.Disk.{Ghosts}
use Rattle.grid_model.specs.Spellings.{LoggedBatch}
use Rattle.page_states.specs.States.{is_claimed_by}
use Rattle.page_states.proofs.PagesStay.{pages_stay}
use Rattle.layout_pages.proofs.Claiming.{given-holds}
use Rattle.file_images.specs.Kept.{Kept}
use Rattle.file_images.specs.Leads.{Standing}
use Rattle.file_books.specs.Books.{Books}
use Rattle.file_state.specs.Claims.{given_back_books}
use Rattle.file_standing.specs.Files.{AgreeWith, BooksHold}
use Rattle.commits.specs.Commits.{IsDoubtful}
use Rattle.grid_file.specs.Files.{OpenFile}

module _ {K : ℕ} (seat : ℕ) (b : Books) where
  given-agree : (k : Kept K) → AgreeWith b k → AgreeWith (given_back_books seat b) k
  given-agree k agree = record {
    shape = agree.shape;
    number = agree.number;
    root = agree.root;
    tried = agree.tried;
    half = agree.half;
    two = agree.two;
    first = agree.first;
    second = agree.second;
  }

  given-hold : (k : Kept K) (m : Standing K) → BooksHold b k m → BooksHold (given_back_books seat b) k m
  given-hold k m hold = record {
    place = hold.place;
    scales = hold.scales;
    records = hold.records;
    buckets = hold.buckets;
    stands = hold.stands;
    size = pages_stay.freeing (is_claimed_by seat) b.pages ∙ hold.size;
    holds = given-holds b.pages k.always b.front m.layout m.table seat hold.holds;
    fresh = hold.fresh;
  }

  pub given-doubtful : {D : Type 0} (g : Ghosts D) (m : Standing K) (d : LoggedBatch K) (disk : D) → IsDoubtful g b m d disk → IsDoubtful g (given_back_books seat b) m d disk
  given-doubtful g m d disk was = record {
    kept = was.kept;
    agree = given-agree was.kept was.agree;
    hold = given-hold was.kept m was.hold;
    session = was.session;
    doubt = was.doubt;
    leads = was.leads;
    meets = was.meets;
    crash = was.crash;
  }

-- what is said of the disk, the books and the claimed pages of a file as they are is said of the file as it is seen
pub said_of : {D : Type 0} {from : D} {pages : List ℕ} {f now : OpenFile D} → f ≡ now → from ≡ f.disk → pages ≡ f.claimed → (P : D → Books → List ℕ → Type 0) → P from f.books pages → P now.disk now.books now.claimed
said_of {D} {f = f} view disk claimed P said = subst (λ (z : D × Books × List ℕ). P z.0 z.1 z.2) (λ i. ((disk ∙ ap (λ (x : OpenFile D). x.disk) view) i, (view i).books, (claimed ∙ ap (λ (x : OpenFile D). x.claimed) view) i)) said
