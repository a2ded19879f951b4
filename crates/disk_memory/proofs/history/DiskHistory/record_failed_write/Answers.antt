use Rattle.std.proofs.Common.{arith, ◌≡◌, ◌≤◌, ◌∙◌, ap, sym, subst, length, map, ℕ}
use Rattle.std.specs.Prelude.{All}
use Rattle.std.proofs.lemmas.List.Elements.{All-map}
use Rattle.disk_memory.specs.declared.history.Event.{Event}
use Rattle.disk_memory.specs.declared.history.Event.TheVariants.{FailedWrite}
use Rattle.disk_memory.specs.Events.{change_of}
use Rattle.disk_memory.specs.Past.{contents_now}
use Rattle.disk_memory.specs.OnDisk.{LiesInside}
use Rattle.disk_memory.proofs.Walks.{all_push, contents_long}
use Rattle.disk_memory.proofs.history.DiskHistory.record_failed_write.Goals as goal

pub invariant_of-self : goal.invariant_of-self
invariant_of-self c =
    let first = c.self.inside.first.items in
    let events = c.self.inside.events.items in
    let P = λ (e : Event). LiesInside (length first) (change_of e) in
    let long : length (contents_now c.args.self.now.past).bytes ≡ length first = ap (λ r. length (contents_now r.past).bytes) (sym c.self.view_is) ∙ contents_long first (map change_of events) (All-map (LiesInside (length first)) change_of events c.self.invariant.inside) in
    let some : 1 ≤ c.self.inside.spare = subst (λ (n : ℕ). 1 ≤ n) (sym (ap (λ r. r.room) c.self.view_is)) c.requires.room in
    record {
      inside = subst (All P) (sym c.push_reserved.ensures.items) (all_push P events (FailedWrite c.args.at c.args.size) c.self.invariant.inside (omega (arith, long, c.requires.inside)));
      clean = λ h. cc;
      spare = omega (arith, some, c.self.invariant.spare, c.push_reserved.ensures.len, c.push_reserved.ensures.capacity);
      room = λ h. omega (arith, some, c.self.invariant.spare, c.push_reserved.ensures.len, c.push_reserved.ensures.capacity);
    }
