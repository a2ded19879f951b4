use Rattle.std.proofs.Common.{◌≡◌, ◌∙◌, ◌+◌, ◌<◌, [], ◌∷◌, length, map, take, set, sym, ap, arith}
use Rattle.std.proofs.lemmas.List.{length-set, length-replicate, length-take-le, take_more_set, take_all}
use Rattle.grid_model.specs.Script.{pieces, all_of}
use Rattle.grid_script.specs.Reading.{pieces_left}
use Rattle.grid_script.proofs.AllOf.{after, after-none, all-next, all-bad, all-short, all-long, all-done}
use Rattle.grid_script.proofs.Pieces.{left-more, left-none, pieces-some}
use Rattle.grid_script.proofs.reader.parts.parts_of.Goals as goal

pub loop-a-init : goal.loop-a-init
loop-a-init g c = record {
  count = length-replicate g.row.K c.args.blank;
  so_far = after-none (all_of (map g.T.Part.value (pieces 44 c.args.word.now)));
}

pub loop-a-preserved : goal.loop-a-preserved
loop-a-preserved g c =
    let values = c.loop-a.values in
    let a = c.loop-a.a in
    let n = c.in-Some.value in
    let lt : a < length values = omega (arith, c.loop-a.invariant.count, c.loop-a-test.true) in
    let parts = c.first_piece-further.result in
    let first : pieces_left 44 c.loop-a.more c.loop-a.rest.now ≡ parts.0.now ∷ pieces_left 44 parts.2 parts.1.now = left-more 44 c.loop-a.more c.loop-a.rest.now c.if-not-more.false ∙ c.first_piece-further.ensures.pieces in
    record {
      count = length-set values a n ∙ c.loop-a.invariant.count;
      so_far = all-next g.T.Part.value (all_of (map g.T.Part.value (pieces 44 c.args.word.now))) (take a values) (take (a + 1) (set values a n)) n parts.0.now (pieces_left 44 parts.2 parts.1.now) (pieces_left 44 c.loop-a.more c.loop-a.rest.now)
          c.loop-a.invariant.so_far first (sym c.of.ensures ∙ c.in-Some.is) (take_more_set values a n lt);
    }

pub returns-in_default : goal.returns-in_default
returns-in_default g c =
    let parts = c.first_piece-further.result in
    sym (all-bad g.T.Part.value g.row.K (all_of (map g.T.Part.value (pieces 44 c.args.word.now))) (take c.loop-a.a c.loop-a.values) parts.0.now (pieces_left 44 parts.2 parts.1.now) (pieces_left 44 c.loop-a.more c.loop-a.rest.now)
    c.loop-a.invariant.so_far (left-more 44 c.loop-a.more c.loop-a.rest.now c.if-not-more.false ∙ c.first_piece-further.ensures.pieces) (sym c.of.ensures ∙ c.in_default.is))

pub returns-then-not-more : goal.returns-then-not-more
returns-then-not-more g c =
    let done = take c.loop-a.a c.loop-a.values in
    let few : length done < g.row.K = omega (arith, length-take-le c.loop-a.a c.loop-a.values (omega (arith, c.loop-a.invariant.count, c.loop-a-test.true)), c.loop-a-test.true) in
    sym (all-short g.T.Part.value g.row.K (all_of (map g.T.Part.value (pieces 44 c.args.word.now))) done
    (c.loop-a.invariant.so_far ∙ ap (λ l. after done (all_of (map g.T.Part.value l))) (left-none 44 c.loop-a.more c.loop-a.rest.now c.if-not-more.true)) few)

pub returns-then-more : goal.returns-then-more
returns-then-more g c =
    let done = take c.loop-a.a c.loop-a.values in
    let count : length done ≡ g.row.K = omega (arith, length-take-le c.loop-a.a c.loop-a.values (omega (arith, c.loop-a.invariant.count, c.loop-a.auto.a-end)), c.loop-a-test.false, c.loop-a.auto.a-end) in
    let left = left-more 44 c.loop-a.more c.loop-a.rest.now c.if-more.true in
    sym (all-long g.T.Part.value g.row.K (all_of (map g.T.Part.value (pieces 44 c.args.word.now))) done (pieces 44 c.loop-a.rest.now)
    (c.loop-a.invariant.so_far ∙ ap (λ l. after done (all_of (map g.T.Part.value l))) left) count (pieces-some 44 c.loop-a.rest.now))

pub returns-else-more : goal.returns-else-more
returns-else-more g c =
    let values = c.loop-a.values in
    let whole : take c.loop-a.a values ≡ values = take_all c.loop-a.a values (omega (arith, c.loop-a.invariant.count, c.loop-a-test.false)) in
    let left = left-none 44 c.loop-a.more c.loop-a.rest.now c.if-more.false in
    sym (all-done g.T.Part.value g.row.K (all_of (map g.T.Part.value (pieces 44 c.args.word.now))) values
    (c.loop-a.invariant.so_far ∙ ap (λ l. after (take c.loop-a.a values) (all_of (map g.T.Part.value l))) left ∙ ap (λ xs. after xs (all_of (map g.T.Part.value []))) whole) c.loop-a.invariant.count)
