use Rattle.std.proofs.Common.{◌≡◌, ◌*◌, ◌≤◌, inl, ℕ, List, length, sym, ap, ◌∙◌, arith, subst}
use Rattle.grid_types.specs.Pages.{page_of}
use Rattle.grid_types.specs.Shapes.{file_pages}
use Rattle.grid_types.proofs.Places.{within-limits}
use Rattle.root_pages.specs.Headers.{SpellsShape}
use Rattle.recovery.specs.Beginnings.{BeginsAsGrid, IsOurs, version_on}
use Rattle.recovery.proofs.shape.judge_first_page.Goals as goal

-- an image that begins with a page is one of ours, where that page begins so
ours : (image page : List ℕ) (size : ℕ) → page_of 0 image ≡ page → length image ≡ size → 2 * 4096 ≤ size → BeginsAsGrid page → IsOurs image
ours image page size p0 long two kind = record { two = omega (arith, long, two); kind = subst BeginsAsGrid (sym p0) kind }

pub returns-then-found-ne-VERSION-clause-first : goal.returns-then-found-ne-VERSION-clause-first
returns-then-found-ne-VERSION-clause-first c = λ image p0 long. record {
  ours = ours image c.args.page.now c.args.size p0 long c.requires.two (c.begins_as_grid.ensures.0 c.if-not-begins_as_grid.false);
  version_is = ap version_on p0 ∙ sym c.get_u16-found.ensures;
  unknown = c.if-found-ne-VERSION.true;
}

pub returns-in_default-clause-first : goal.returns-in_default-clause-first
returns-in_default-clause-first c = λ image p0 long. inl (record {
  ours = ours image c.args.page.now c.args.size p0 long c.requires.two (c.begins_as_grid.ensures.0 c.if-not-begins_as_grid.false);
  version = ap version_on p0 ∙ sym c.get_u16-found.ensures ∙ c.if-found-ne-VERSION.false;
  none = λ s spelled. c.in_default.ensures.none s (subst (λ p. SpellsShape p s) p0 spelled);
  page_is = omega arith;
})

pub overflow_cast-result : goal.overflow_cast-result
unfolding file_pages
overflow_cast-result c =
    let w = within-limits c.in-Some.geometry.shape c.in-Some.geometry.lawful in
    let is = c.file_pages.ensures in
    omega (arith, c.if-whole-file_pages.true, is, w.few_pages, w.few_slots)
