use Rattle.std.proofs.Common.{rules, List, flat_map, map, length, sym, subst, ap, ◌+◌, ◌∙◌, arith, ◌∷◌, []}
use Rattle.std.specs.Prelude.{All, Contains}
use Rattle.std.proofs.lemmas.List.{map-append}
use Rattle.grid_model.specs.Spellings as model
use Rattle.grid_model.specs.Images.{Join}
use Rattle.journal_slots.specs.Batches.{batch_of}
use Rattle.recovery.specs.Joins.{AreLawfulOrEmpty, IsFirstOn, NoneLeadsOn}
use Rattle.recovery.proofs.Taking.{taking_more, taking_ends, one_counted, from_begins, from_more}
use Rattle.recovery.proofs.joining.join.Goals as goal

pub loop-i-init : goal.loop-i-init
loop-i-init g c = record {
  small = search rules;
  count = search rules;
  among = from_begins (map batch_of c.into_list-left.result.items) (map batch_of c.new-taken.result.items) (ap (map batch_of) c.new-taken.ensures.items);
  taking = search rules;
}

pub loop-i-preserved : goal.loop-i-preserved
loop-i-preserved g c =
    let out = c.take_out-batch.ensures in
    let count = c.len.ensures.value in
    let place = c.loop-i.place in
    let taken = c.loop-i.taken.items in
    let b = c.take_out-batch.result in
    let first = subst (λ xs. IsFirstOn (map batch_of xs) place c.in-Some.i) c.deref.ensures.value c.in-Some.ensures.found in
    record {
      small = omega (arith, first.leads.small, ap (λ (x : model.LoggedBatch g.row.K). length x.updates) out.taken, count);
      count = one_counted c.args.front place (place + c.len.result) (map batch_of taken) (map batch_of c.push.new.self.items) (batch_of b) c.loop-i.invariant.count (ap (map batch_of) c.in_ok-push.ensures.items ∙ map-append batch_of taken (b ∷ [])) (ap (λ n. place + n) count);
      among = from_more (map batch_of c.into_list-left.result.items) (map batch_of taken) (map batch_of c.loop-i.left.items) (map batch_of c.push.new.self.items) (map batch_of c.take_out-batch.new.batches.items)
          place c.in-Some.i (batch_of b) c.loop-i.invariant.among first out.taken (ap (map batch_of) c.in_ok-push.ensures.items ∙ map-append batch_of taken (b ∷ [])) out.left;
      taking = λ lawful. taking_more (map batch_of c.into_list-left.result.items) (map batch_of taken) (map batch_of c.loop-i.left.items) (map batch_of c.push.new.self.items) (map batch_of c.take_out-batch.new.batches.items)
          c.args.front place (place + c.len.result) c.in-Some.i (batch_of b) (c.loop-i.invariant.taking lawful) first out.taken
          (ap (map batch_of) c.in_ok-push.ensures.items ∙ map-append batch_of taken (b ∷ [])) out.left (ap (λ n. place + n) count);
    }

pub returns-clause-among : goal.returns-clause-among
returns-clause-among g c =
    subst (λ (all : List (model.LoggedBatch g.row.K)). All (Contains all) c.of.result) c.into_list-left.ensures
    (subst (λ (t : List (model.LoggedBatch g.row.K)). All (Contains (map batch_of c.into_list-left.result.items)) t) (sym c.of.ensures) c.loop-i.invariant.among.among)

pub returns-clause-count : goal.returns-clause-count
returns-clause-count g c = c.loop-i.invariant.count ∙ ap (λ (t : List (model.LoggedBatch g.row.K)). c.args.front + length (flat_map (λ b. b.updates) t)) (sym c.of.ensures)

pub returns-clause-joined : goal.returns-clause-joined
returns-clause-joined g c = λ lawful.
    let all = map batch_of c.into_list-left.result.items in
    let place = c.loop-i.place in
    let none = subst (λ xs. NoneLeadsOn (map batch_of xs) place) c.deref.ensures.value c.in_default.ensures.none in
    let taking = c.loop-i.invariant.taking (subst AreLawfulOrEmpty (sym c.into_list-left.ensures) lawful) in
    let join = taking_ends all (map batch_of c.loop-i.taken.items) (map batch_of c.loop-i.left.items) c.args.front place taking none in
    subst (λ xs. Join xs c.args.front c.of.result place) c.into_list-left.ensures (subst (λ t. Join all c.args.front t place) (sym c.of.ensures) join)
