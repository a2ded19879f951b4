use Rattle.std.proofs.Common.{subst, arith}
use Rattle.grid_types.specs.Pages.{page_of}
use Rattle.root_pages.specs.Fields.{model_fields}
use Rattle.file_roots.specs.Headers.{Says}
use Rattle.file_roots.proofs.Newest.{open_over, newest_alone, newest_of_two, first_alone, first_lawful, first_none, lawful_on_own}
use Rattle.file_roots.proofs.choosing.newer.Goals as goal

pub returns-then-zeroth-first-clause-found : goal.returns-then-zeroth-first-clause-found
returns-then-zeroth-first-clause-found c = λ s image zeroth first.
    let z = subst (Says s 0 (page_of 0 image)) c.in-Some.is zeroth in
    let f = subst (Says s 1 (page_of 1 image)) c.in-Some-first.is first in
    newest_of_two s image 1 0 (model_fields c.in-Some-first.first) (model_fields c.in-Some.zeroth) (omega arith)
    (open_over s image 1 (model_fields c.in-Some-first.first) f.0 f.1) (open_over s image 0 (model_fields c.in-Some.zeroth) z.0 z.1) (omega (arith, c.if-zeroth-first.true))

pub returns-else-zeroth-first-clause-found : goal.returns-else-zeroth-first-clause-found
returns-else-zeroth-first-clause-found c = λ s image zeroth first.
    let z = subst (Says s 0 (page_of 0 image)) c.in-Some.is zeroth in
    let f = subst (Says s 1 (page_of 1 image)) c.in-Some-first.is first in
    newest_of_two s image 0 1 (model_fields c.in-Some.zeroth) (model_fields c.in-Some-first.first) (omega arith)
    (open_over s image 0 (model_fields c.in-Some.zeroth) z.0 z.1) (open_over s image 1 (model_fields c.in-Some-first.first) f.0 f.1) c.if-zeroth-first.false

pub returns-in-None-clause-found : goal.returns-in-None-clause-found
returns-in-None-clause-found c = λ s image zeroth first. first_alone s image c.args.first (subst (Says s 0 (page_of 0 image)) c.in-None.is zeroth) first

pub returns-in-None-clause-lawful : goal.returns-in-None-clause-lawful
returns-in-None-clause-lawful c = λ s a b zeroth first. first_lawful s b c.args.first first

pub returns-in-None-clause-none : goal.returns-in-None-clause-none
returns-in-None-clause-none c = λ s image zeroth first. first_none s image c.args.first (subst (Says s 0 (page_of 0 image)) c.in-None.is zeroth) first

pub returns-in-None-first-clause-found : goal.returns-in-None-first-clause-found
returns-in-None-first-clause-found c = λ s image zeroth first.
    let z = subst (Says s 0 (page_of 0 image)) c.in-Some.is zeroth in
    let f = subst (Says s 1 (page_of 1 image)) c.in-None-first.is first in
    newest_alone s image 0 1 (model_fields c.in-Some.zeroth) (omega arith) (open_over s image 0 (model_fields c.in-Some.zeroth) z.0 z.1) f

pub returns-then-zeroth-first-clause-lawful : goal.returns-then-zeroth-first-clause-lawful
returns-then-zeroth-first-clause-lawful c = λ s a b zeroth first. lawful_on_own s 1 b (model_fields c.in-Some-first.first) (subst (Says s 1 b) c.in-Some-first.is first).1

pub returns-else-zeroth-first-clause-lawful : goal.returns-else-zeroth-first-clause-lawful
returns-else-zeroth-first-clause-lawful c = λ s a b zeroth first. lawful_on_own s 0 a (model_fields c.in-Some.zeroth) (subst (Says s 0 a) c.in-Some.is zeroth).1

pub returns-in-None-first-clause-lawful : goal.returns-in-None-first-clause-lawful
returns-in-None-first-clause-lawful c = λ s a b zeroth first. lawful_on_own s 0 a (model_fields c.in-Some.zeroth) (subst (Says s 0 a) c.in-Some.is zeroth).1
