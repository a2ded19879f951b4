use Rattle.std.proofs.Common.{◌∙◌, None, sym, ap, subst, refl, arith}
use Rattle.grid_types.proofs.Places.{within-limits}
use Rattle.grid_model.specs.Lists.{product}
use Rattle.linear_scales.specs.Roots.{root_fields_of, area_of, whole_of}
use Rattle.grid_check.specs.Reads.{AreNamed}
use Rattle.grid_check.specs.Verdicts.{Judges}
use Rattle.grid_check.specs.declared.verdict.Rule.{Rule}
use Rattle.grid_check.specs.declared.verdict.Rule.TheVariants.{Face, Cover, Records}
use Rattle.grid_check.proofs.Breaches.{up_to}
use Rattle.grid_check.proofs.RootLists.{number_low}
use Rattle.grid_check.proofs.Tally.{one_count}
use Rattle.grid_check.proofs.judging.judge_held.Goals as goal

pub first_bad_face-requires : goal.first_bad_face-requires
first_bad_face-requires g c =
    let s = c.args.geometry.now.shape in
    let root = c.args.root.now in
    let few = c.requires.few in
    (omega arith, (omega (arith, few), (c.requires.lawful.area.numbers, (number_low s (root_fields_of {K = g.row.K} root) (area_of {K = g.row.K} root) c.requires.lawful.area, (few, c.requires.room)))))

pub first_bad_cover-requires : goal.first_bad_cover-requires
first_bad_cover-requires g c =
    let s = c.args.geometry.now.shape in
    let root = c.args.root.now in
    let few = c.requires.few in
    let cells_are = c.requires.cells ∙ ap product (sym c.requires.dims) in
    (omega (arith, few), (omega arith, (omega (arith, few), (c.requires.lawful.area.numbers, (number_low s (root_fields_of {K = g.row.K} root) (area_of {K = g.row.K} root) c.requires.lawful.area, (few, (c.requires.dims, (cells_are, (c.requires.numbered, c.requires.room)))))))))

pub returns-in-Some-first_bad_cover : goal.returns-in-Some-first_bad_cover
returns-in-Some-first_bad_cover g c = record {
  judged = λ image named held before.
      let s = c.args.geometry.now.shape in
      let root = c.args.root.now in
      let names = c.args.names.now in
      record {
        before = up_to (λ r. Judges g.row.K s image (whole_of {K = g.row.K} root) r None) Face before (c.in_default.ensures.judged image held);
        breaks = c.in-Some-first_bad_cover.ensures.judged image root.parts.items (subst (AreNamed s image root.parts.items names) (ap product (sym c.requires.dims)) named) held;
      };
}

pub returns-then-count_records-root : goal.returns-then-count_records-root
returns-then-count_records-root g c = record {
  judged = λ image named held before.
      let s = c.args.geometry.now.shape in
      let root = c.args.root.now in
      let names = c.args.names.now in
      let P : Rule → Type 0 = λ r. Judges g.row.K s image (whole_of {K = g.row.K} root) r None in
      let low = (within-limits s c.args.geometry.now.lawful).small_capacity in
      record {
        before = up_to P Cover (up_to P Face before (c.in_default.ensures.judged image held)) (c.in_default-first_bad_cover.ensures.judged image root.parts.items (subst (AreNamed s image root.parts.items names) (ap product (sym c.requires.dims)) named) held);
        breaks = record {
          bad = λ has. c.if-count_records-root.true (one_count {K = g.row.K} s c.requires.few low image root.table.items c.args.holdings.now c.requires.room held c.count_records.result root.records (c.count_records.ensures.counted image held) has);
          page_is = refl;
        };
      };
}

pub returns : goal.returns
returns g c = record {
  judged = λ image named held before.
      let s = c.args.geometry.now.shape in
      let root = c.args.root.now in
      let names = c.args.names.now in
      let P : Rule → Type 0 = λ r. Judges g.row.K s image (whole_of {K = g.row.K} root) r None in
      up_to P Records (up_to P Cover (up_to P Face before (c.in_default.ensures.judged image held)) (c.in_default-first_bad_cover.ensures.judged image root.parts.items (subst (AreNamed s image root.parts.items names) (ap product (sym c.requires.dims)) named) held))
      (λ bs has. c.count_records.ensures.counted image held bs has ∙ c.if-count_records-root.false);
}
