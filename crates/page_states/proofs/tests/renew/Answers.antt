use Rattle.std.proofs.Common.{◌≡◌, ◌<◌, List, Some, sym, subst, ap, ◌∙◌, length, length-take, arith}
use Rattle.std.specs.Prelude.{slice_get, slice_index}
use Rattle.page_states.specs.declared.page_state.PageState.{PageState}
use Rattle.page_states.specs.declared.page_state.PageState.TheVariants.{Claimed}
use Rattle.page_states.specs.Effects.{free_pages}
use Rattle.page_states.proofs.Claims.{free_length}
use Rattle.page_states.proofs.ClaimedPages.{claimed_pages_are_the_seats}
use Rattle.page_states.proofs.tests.renew.Goals as goal

pub publish-requires-clause-claimed : goal.publish-requires-clause-claimed
publish-requires-clause-claimed c =
    let s = c.args.states.now in
    let out = c.claim.new.out in
    let long = ap length c.claim.ensures.pages ∙ length-take 1 (free_pages s) in
    let inside : 0 < length out = omega (arith, long, free_length 0 s, c.free.ensures, c.if-free-eq0.false) in
    (5, subst (λ (xs : List PageState). slice_get xs (slice_index out 0) ≡ Some (Claimed 5)) (sym c.claim.ensures.states) (claimed_pages_are_the_seats 5 1 0 out s c.claim.ensures.pages inside))
