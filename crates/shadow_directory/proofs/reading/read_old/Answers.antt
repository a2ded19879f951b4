use Rattle.std.proofs.Common.{◌∙◌, sym, subst, arith, ℕ}
use Rattle.std.proofs.lemmas.Bool.{false≢true}
use Rattle.directory_pages.specs.Spelling.{IsDirectoryPage}
use Rattle.directory_pages.specs.CellBoxes.{cells_on}
use Rattle.shadow_directory.proofs.Keeping.{keeps-call}
use Rattle.shadow_directory.proofs.Spelled.{told-page}
use Rattle.shadow_directory.proofs.reading.read_old.Goals as goal

pub returns-else-is_directory_page-clause-reads : goal.returns-else-is_directory_page-clause-reads
returns-else-is_directory_page-clause-reads g c =
    let ns = c.args.dims.now.intervals in
    let part = c.args.part in
    let page = c.read_part.new.page in
    let read = c.in-Ok.ensures in
    let no : IsDirectoryPage part (cells_on ns part) page → ⊥ = λ is. false≢true (sym c.if-is_directory_page.false ∙ c.is_directory_page.ensures.1 (subst (λ (n : ℕ). IsDirectoryPage part n page) (sym c.cells_on.ensures) is)) in
    record {
      honest = λ D tells. no (told-page ns D tells.given part page tells.spell c.requires.part (omega arith) (read.bytes tells.given tells.told));
      cause = record { part = part; below = c.requires.part; lies = read.there; not_spelled = no };
      same = record { keeps = keeps-call read.same read.cause.later read.other; written = read.written; room = read.room };
    }
