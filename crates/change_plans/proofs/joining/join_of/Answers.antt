use Rattle.std.proofs.Common.{rules, ◌≤◌, ◌+◌, ◌∙◌, length, sym, ap, subst}
use Rattle.grid_types.specs.Regions.{make_a_box}
use Rattle.grid_types.proofs.Numbers.{first}
use Rattle.grid_model.specs.Buckets.{SpellsBucket}
use Rattle.grid_model.specs.Images.{bucket_on}
use Rattle.grid_model.specs.Spellings.{BucketOf}
use Rattle.bucket_page.specs.Buckets.{bucket_of}
use Rattle.bucket_page.specs.Changing.{without_key, joined_buckets}
use Rattle.change_plans.specs.Plans.{may_join}
use Rattle.change_plans.proofs.InMemory.{in_memory}
use Rattle.change_plans.proofs.JoinPages.{joinable-is, joined-fits, joins-so, merge-page}
use Rattle.change_plans.proofs.joining.join_of.Goals as goal

pub returns-in_default-clause-exactly : goal.returns-in_default-clause-exactly
returns-in_default-clause-exactly g c = λ b d s r. absurd (c.in_default.ensures.none (in_memory b) s)

pub returns-in_default-clause-joins : goal.returns-in_default-clause-joins
returns-in_default-clause-joins g c = λ shape L t e f n h r same.
    absurd (c.in_default.ensures.none (in_memory (bucket_on t e)) (subst (λ m. SpellsBucket m c.args.from.now (bucket_on t e)) same h.spelled))

pub returns-in_default-decode-clause-exactly : goal.returns-in_default-decode-clause-exactly
returns-in_default-decode-clause-exactly g c = λ b d s r. absurd (c.in_default-decode.ensures.none (in_memory d) r)

pub returns-in_default-decode-clause-joins : goal.returns-in_default-decode-clause-joins
returns-in_default-decode-clause-joins g c = λ shape L t e f n h r same.
    absurd (c.in_default-decode.ensures.none (in_memory (bucket_on t f)) (subst (λ m. SpellsBucket m c.args.other.now (bucket_on t f)) same r.spelled))

pub returns-then-not-joinable-clause-exactly : goal.returns-then-not-joinable-clause-exactly
returns-then-not-joinable-clause-exactly g c = λ b d s r.
    let k = c.args.key.now.numbers in
    let left = c.remove.ensures.without ∙ ap (λ x. without_key (bucket_of x) k) (c.in-Some.ensures.only (in_memory b) s) in
    let right = ap bucket_of (c.in-Some-decode.ensures.only (in_memory d) r) in
    sym c.if-not-joinable.true
    ∙ c.joinable.ensures
    ∙ joinable-is c.args.capacity _ (bucket_of c.remove.new.self) (bucket_of c.in-Some-decode.beside) (without_key b k) d (λ i. c.len.ensures.value i + c.len-2.ensures.value i) left right

pub returns-then-not-joinable-clause-joins : goal.returns-then-not-joinable-clause-joins
returns-then-not-joinable-clause-joins g c = λ shape L t e f n h r same.
    let k = c.args.key.now.numbers in
    let here = subst (λ m. SpellsBucket m c.args.from.now (bucket_on t e)) same h.spelled in
    let there = subst (λ m. SpellsBucket m c.args.other.now (bucket_on t f)) same r.spelled in
    returns-then-not-joinable-clause-exactly g c (bucket_on t e) (bucket_on t f) here there
    ∙ ap (λ m. may_join m (without_key (bucket_on t e) k) (bucket_on t f)) (sym same)
    ∙ joins-so shape L t k e f c.args.from.now c.args.other.now n h r

pub encode-requires : goal.encode-requires
encode-requires g c =
    let made = c.join.ensures.joined c.in-Some-joins.ensures.joined in
    let few : length c.join.new.self.rows.items ≤ c.args.capacity = joined-fits c.args.capacity _ (bucket_of c.remove.new.self) (bucket_of c.in-Some-decode.beside) (bucket_of c.join.new.self) (λ i. c.len.ensures.value i + c.len-2.ensures.value i) (sym c.joinable.ensures ∙ c.if-not-joinable.false) made in
    (search rules, (c.requires.few, (c.requires.lawful, few)))

pub returns-clause-exactly : goal.returns-clause-exactly
returns-clause-exactly g c = λ b d s r.
    let k = c.args.key.now.numbers in
    let left = c.remove.ensures.without ∙ ap (λ x. without_key (bucket_of x) k) (c.in-Some.ensures.only (in_memory b) s) in
    let right = ap bucket_of (c.in-Some-decode.ensures.only (in_memory d) r) in
    sym c.if-not-joinable.false
    ∙ c.joinable.ensures
    ∙ joinable-is c.args.capacity _ (bucket_of c.remove.new.self) (bucket_of c.in-Some-decode.beside) (without_key b k) d (λ i. c.len.ensures.value i + c.len-2.ensures.value i) left right

pub returns-clause-spelled : goal.returns-clause-spelled
returns-clause-spelled g c = λ b d s r.
    let k = c.args.key.now.numbers in
    let left = c.remove.ensures.without ∙ ap (λ x. without_key (bucket_of x) k) (c.in-Some.ensures.only (in_memory b) s) in
    let right = ap bucket_of (c.in-Some-decode.ensures.only (in_memory d) r) in
    let x = bucket_of c.remove.new.self in
    let y = bucket_of c.in-Some-decode.beside in
    let may = sym c.joinable.ensures ∙ c.if-not-joinable.false in
    let make = first (make_a_box x.box.region y.box.region) _ may in
    let made = c.join.ensures.joined c.in-Some-joins.ensures.joined in
    let few : length c.join.new.self.rows.items ≤ c.args.capacity = joined-fits c.args.capacity _ x y (bucket_of c.join.new.self) (λ i. c.len.ensures.value i + c.len-2.ensures.value i) may made in
    let whole = c.join.ensures.lawful c.args.capacity c.args.capacity c.args.capacity c.in-Some-joins.ensures.joined make (c.remove.ensures.lawful c.args.capacity c.in-Some.ensures.found.lawful) c.in-Some-decode.ensures.found.lawful few in
    subst (SpellsBucket c.args.capacity c.encode.new.page) (made ∙ (λ i. joined_buckets (left i) (right i))) (c.encode.ensures.spelled whole)

pub returns-clause-number : goal.returns-clause-number
returns-clause-number g c = λ b d s r.
    let k = c.args.key.now.numbers in
    let left = c.remove.ensures.without ∙ ap (λ x. without_key (bucket_of x) k) (c.in-Some.ensures.only (in_memory b) s) in
    let right = ap bucket_of (c.in-Some-decode.ensures.only (in_memory d) r) in
    ap (λ (x : BucketOf g.row.K). x.number) (c.join.ensures.joined c.in-Some-joins.ensures.joined ∙ (λ i. joined_buckets (left i) (right i)))

pub returns-clause-joins : goal.returns-clause-joins
returns-clause-joins g c = λ shape L t e f n h r same.
    let k = c.args.key.now.numbers in
    let here = subst (λ m. SpellsBucket m c.args.from.now (bucket_on t e)) same h.spelled in
    let there = subst (λ m. SpellsBucket m c.args.other.now (bucket_on t f)) same r.spelled in
    returns-clause-exactly g c (bucket_on t e) (bucket_on t f) here there
    ∙ ap (λ m. may_join m (without_key (bucket_on t e) k) (bucket_on t f)) (sym same)
    ∙ joins-so shape L t k e f c.args.from.now c.args.other.now n h r

pub returns-clause-page : goal.returns-clause-page
returns-clause-page g c = λ shape L t e f n h r same.
    let here = subst (λ m. SpellsBucket m c.args.from.now (bucket_on t e)) same h.spelled in
    let there = subst (λ m. SpellsBucket m c.args.other.now (bucket_on t f)) same r.spelled in
    let make = first (make_a_box e.1.region f.1.region) _ (sym (returns-clause-exactly g c (bucket_on t e) (bucket_on t f) here there)) in
    merge-page shape L t c.args.key.now e f c.args.from.now c.args.other.now n c.args.capacity c.join.new.self.number c.encode.new.page h r make
    (returns-clause-number g c (bucket_on t e) (bucket_on t f) here there) (returns-clause-spelled g c (bucket_on t e) (bucket_on t f) here there)
