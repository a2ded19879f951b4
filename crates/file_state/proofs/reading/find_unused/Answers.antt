use Rattle.std.proofs.Common.{◌≡◌, ℕ, false, inl, inr, refl, sym, subst, arith, IsTrue}
use Rattle.std.proofs.lemmas.Bool.{cases_lt}
use Rattle.grid_types.specs.declared.owner.Owner.TheVariants.{Bucket}
use Rattle.file_books.specs.Books.{has_page}
use Rattle.file_state.specs.declared.memory.Memory.{Memory}
use Rattle.file_state.specs.Memories.{books_of}
use Rattle.file_state.proofs.Rooms.{one_unused}
use Rattle.file_state.proofs.reading.find_unused.Goals as goal

pub returns-in-None-clause-least : goal.returns-in-None-clause-least
returns-in-None-clause-least g c = record {
  unused = subst (λ (m : Memory g.row.K). has_page (books_of m) (Bucket c.loop-number.number) ≡ false) c.loop-number.invariant.same c.in-None.ensures.none;
  lower = λ n low. subst (λ (m : Memory g.row.K). IsTrue (has_page (books_of m) (Bucket n))) c.loop-number.invariant.same (c.loop-number.invariant.used n low);
  within = c.loop-number-test.true;
}

pub loop-number-preserved : goal.loop-number-preserved
loop-number-preserved g c = record {
  same = c.loop-number.invariant.same;
  used = λ n low. elim (cases_lt n c.loop-number.number) [
    | inl less ↦ c.loop-number.invariant.used n less
    | inr more ↦
        let is : n ≡ c.loop-number.number = omega (arith, low, more) in
        subst (λ (m : ℕ). IsTrue (has_page (books_of c.loop-number.memory) (Bucket m))) (sym is) (c.in-Some.ensures.there refl)
  ];
}

pub unreachable-requires : goal.unreachable-requires
unreachable-requires g c = one_unused (books_of c.args.memory.now) c.requires.books.size c.requires.books.owners
    (λ n low. subst (λ (m : Memory g.row.K). IsTrue (has_page (books_of m) (Bucket n))) c.loop-number.invariant.same (c.loop-number.invariant.used n (omega (arith, low, c.loop-number-test.false))))
