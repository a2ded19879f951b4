use Rattle.std.proofs.Common.{◌≡◌, ℕ, List, true, false, Option, Some, None, sym, arith, IsSome, IfSome, IfNone, true≢false}
use Rattle.std.specs.List.{list_any}
use Rattle.grid_types.specs.declared.owner.Owner.{Owner}
use Rattle.page_states.specs.declared.page_state.PageState.{PageState}
use Rattle.page_states.specs.States.{shows}
use Rattle.page_states.specs.Effects.{IsPageAt, ShowsNone}
use Rattle.file_state.specs.Memories.{books_of}
use Rattle.file_state.proofs.Rooms.{none_beyond}
use Rattle.file_state.proofs.Shown.{any_there, none_shown}
use Rattle.file_state.proofs.reading.page_of.Goals as goal

-- a page that is found is there
there : (o : Owner) (place : ℕ) (states : List PageState) (r : Option ℕ) → IfSome r (λ p. IsPageAt o place states p) → IsSome r → list_any (shows o place) states ≡ true
there o place states None found some = absurd (true≢false (sym some))
there o place states (Some p) found some = any_there (shows o place) states p found.state found.there found.shown

none : (o : Owner) (place : ℕ) (states : List PageState) (r : Option ℕ) → IfNone r (ShowsNone o place states) → IfNone r (list_any (shows o place) states ≡ false)
none o place states None is = none_shown o place states is
none o place states (Some p) is = is

pub returns-then-number_of-memory-clause-none : goal.returns-then-number_of-memory-clause-none
returns-then-number_of-memory-clause-none g c = none_beyond (books_of c.args.memory.now) c.requires.books.size c.requires.books.owners c.args.owner (omega (arith, c.if-number_of-memory.true, c.number_of.ensures))

pub returns-clause-there : goal.returns-clause-there
returns-clause-there g c = there c.args.owner c.args.memory.now.counts.front c.args.memory.now.pages c.page_at.result c.page_at.ensures.found

pub returns-clause-none : goal.returns-clause-none
returns-clause-none g c = none c.args.owner c.args.memory.now.counts.front c.args.memory.now.pages c.page_at.result c.page_at.ensures.none
