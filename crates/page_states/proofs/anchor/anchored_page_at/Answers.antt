use Rattle.std.proofs.Common.{◌≡◌, None, Some, sym, ◌∙◌}
use Rattle.page_states.proofs.AnchoredPages.{none_written, written_is, written_same}
use Rattle.page_states.proofs.anchor.anchored_page_at.Goals as goal

pub returns-in_default-clause-none : goal.returns-in_default-clause-none
returns-in_default-clause-none c =
    let a = c.args.anchor.now in
    none_written c.args.owner c.args.place c.args.states.now.items a.by_owner.items a.pages.items c.requires.anchor.written (λ q has.
    let no : None ≡ Some q = sym c.in_default.is ∙ written_is a.by_owner.items c.args.owner c.slot_of.result c.index.result.now q c.slot_of.ensures c.index.ensures has in
    absurd cc)

pub returns-clause-none : goal.returns-clause-none
returns-clause-none c =
    let a = c.args.anchor.now in
    none_written c.args.owner c.args.place c.args.states.now.items a.by_owner.items a.pages.items c.requires.anchor.written (λ q has.
    let is : Some c.in-Some.page ≡ Some q = sym c.in-Some.is ∙ written_is a.by_owner.items c.args.owner c.slot_of.result c.index.result.now q c.slot_of.ensures c.index.ensures has in
    written_same c.args.owner c.args.place c.args.states.now.items c.in-Some.page q is (c.is_shown-shown.ensures.no c.if-shown.false))
