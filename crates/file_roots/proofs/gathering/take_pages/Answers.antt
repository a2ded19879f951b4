use Rattle.std.proofs.Common.{◌≡◌, ◌<◌, ◌+◌, ◌++◌, ◌∷◌, [], ◌∙◌, length, take, drop, get_or, sym, ap, subst, append_assoc, arith}
use Rattle.std.specs.Prelude.{All}
use Rattle.std.proofs.lemmas.List.{take_all}
use Rattle.std.proofs.lemmas.List.Elements.{All-append}
use Rattle.grid_model.specs.Lists.{AreDistinct}
use Rattle.file_roots.specs.Gathering.{AreMarked, named_by}
use Rattle.file_roots.proofs.Marking.{named_more, named_split, all_middle, entries_more}
use Rattle.file_roots.proofs.gathering.take_pages.Goals as goal

pub returns-then-not-mark_entry-clause-refused : goal.returns-then-not-mark_entry-clause-refused
returns-then-not-mark_entry-clause-refused c = λ xs named on m no all distinct.
    let may = c.args.may_be_nowhere in
    let i = c.loop-i.i in
    let v = c.entry_at-entry.result in
    let lt : i < length xs = omega (arith, on.count_is, c.loop-i-test.true) in
    let is : v ≡ get_or xs i 0 = c.entry_at-entry.ensures.number ∙ sym (on.each i lt) in
    let split = named_split may xs i v lt is in
    let before = named_by may (take i xs) in
    let here = named_by may (v ∷ []) in
    let behind = named_by may (drop (i + 1) xs) in
    let inside = all_middle (λ p. p < length c.args.marks.now.items) before here behind (subst (All (λ p. p < length c.args.marks.now.items)) split all) in
    c.mark_entry.ensures.refused (named ++ before) behind (c.loop-i.invariant.marked xs named on m) c.if-not-mark_entry.true
    (subst (λ n. All (λ p. p < n) here) (sym c.loop-i.invariant.count) inside)
    (subst AreDistinct (ap (λ ys. named ++ ys) split ∙ sym (append_assoc named before (here ++ behind))) distinct)

pub loop-i-preserved : goal.loop-i-preserved
loop-i-preserved c =
    let may = c.args.may_be_nowhere in
    let i = c.loop-i.i in
    let v = c.entry_at-entry.result in
    record {
      taken = λ xs on.
          let lt : i < length xs = omega (arith, on.count_is, c.loop-i-test.true) in
          let is : v ≡ get_or xs i 0 = c.entry_at-entry.ensures.number ∙ sym (on.each i lt) in
          c.in_ok-push.ensures.added ∙ ap (λ ys. ys ++ v ∷ []) (c.loop-i.invariant.taken xs on) ∙ entries_more c.args.list.now.items xs i v lt is;
      inside = λ xs on.
          let lt : i < length xs = omega (arith, on.count_is, c.loop-i-test.true) in
          let is : v ≡ get_or xs i 0 = c.entry_at-entry.ensures.number ∙ sym (on.each i lt) in
          subst (All (λ p. p < length c.args.marks.now.items)) (sym (named_more may xs i v lt is))
          (All-append (λ p. p < length c.args.marks.now.items) (named_by may (take i xs)) (named_by may (v ∷ [])) (c.loop-i.invariant.inside xs on)
          (subst (λ n. All (λ p. p < n) (named_by may (v ∷ []))) c.loop-i.invariant.count (c.mark_entry.ensures.inside c.if-not-mark_entry.false)));
      marked = λ xs named on m.
          let lt : i < length xs = omega (arith, on.count_is, c.loop-i-test.true) in
          let is : v ≡ get_or xs i 0 = c.entry_at-entry.ensures.number ∙ sym (on.each i lt) in
          subst (AreMarked c.mark_entry.new.marks.items) (append_assoc named (named_by may (take i xs)) (named_by may (v ∷ [])) ∙ ap (λ ys. named ++ ys) (sym (named_more may xs i v lt is)))
          (c.mark_entry.ensures.marked (named ++ named_by may (take i xs)) (c.loop-i.invariant.marked xs named on m) c.if-not-mark_entry.false);
      count = c.mark_entry.ensures.count ∙ c.loop-i.invariant.count;
    }

pub returns-clause-marked : goal.returns-clause-marked
returns-clause-marked c = λ xs named on m yes.
    subst (λ ys. AreMarked c.loop-i.marks.items (named ++ named_by c.args.may_be_nowhere ys)) (take_all c.loop-i.i xs (omega (arith, on.count_is, c.loop-i-test.false))) (c.loop-i.invariant.marked xs named on m)
