use Rattle.std.proofs.Common.{arith, ◌++◌, ◌∷◌, [], ◌≡◌, ◌∙◌, ap, sym, subst, length, map, ℕ}
use Rattle.std.specs.Prelude.{All}
use Rattle.std.proofs.lemmas.List.Elements.{All-map}
use Rattle.disk_memory.specs.declared.history.Event.{Event}
use Rattle.disk_memory.specs.Events.{change_of}
use Rattle.disk_memory.specs.Past.{contents_now}
use Rattle.disk_memory.specs.OnDisk.{LiesInside}
use Rattle.disk_memory.proofs.Walks.{all_push, contents_long}
use Rattle.disk_memory.proofs.history.DiskHistory.add.Goals as goal

pub invariant_of-self-2 : goal.invariant_of-self-2
invariant_of-self-2 c =
    let first = c.self.inside.first.items in
    let events = c.self.inside.events.items in
    let P = λ (e : Event). LiesInside (length first) (change_of e) in
    let long : length (contents_now c.args.self.now.past).bytes ≡ length first = ap (λ r. length (contents_now r.past).bytes) (sym c.self.view_is) ∙ contents_long first (map change_of events) (All-map (LiesInside (length first)) change_of events c.self.invariant.inside) in
    let one = subst (λ (n : ℕ). LiesInside n (change_of c.args.event)) long c.requires in
    record {
      inside = subst (All P) (sym (c.in_ok-push.ensures.items ∙ ap (λ es. es ++ c.args.event ∷ []) c.make_room.ensures.items)) (all_push P events c.args.event c.self.invariant.inside one);
      clean = λ h. cc;
      spare = omega (arith, c.in_ok-push.ensures.len, c.in_ok-push.ensures.capacity, c.in_ok-make_room.ensures.room);
      room = λ h. omega (arith, c.in_ok-push.ensures.len, c.in_ok-push.ensures.capacity, c.in_ok-make_room.ensures.room);
    }
