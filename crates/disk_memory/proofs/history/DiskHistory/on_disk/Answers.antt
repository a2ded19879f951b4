use Rattle.std.proofs.Common.{◌≡◌, ◌∙◌, ap, sym, subst, length, map, take, ℕ, List}
use Rattle.std.proofs.lemmas.List.{with_items_is}
use Rattle.std.proofs.lemmas.List.Elements.{All-map}
use Rattle.disk_memory.specs.Events.{change_of}
use Rattle.disk_memory.specs.Past.{contents_now, contents_after, Leaves}
use Rattle.disk_memory.specs.OnDisk.{LiesInside, up_to_sync, on_disk}
use Rattle.disk_memory.specs.Histories.{past_of}
use Rattle.disk_memory.proofs.Syncs.{on_disk_left}
use Rattle.disk_memory.proofs.history.DiskHistory.on_disk.Goals as goal

pub returns-clause-bytes : goal.returns-clause-bytes
returns-clause-bytes c =
    let events = c.self.inside.events.items in
    let start = c.deref_mut.result.now in
    let base : start ≡ c.self.inside.first.items = c.deref_mut.ensures.value ∙ c.in_ok-bytes.ensures.items_if_clones_equal (λ x y e. e) ∙ c.deref.ensures.value in
    with_items_is c.in_ok-bytes.bytes c.replay.new.all (c.replay.auto.all ∙ c.deref_mut.ensures.len)
    ∙ c.replay.ensures
    ∙ ap (λ es. (contents_after start (map change_of (take c.synced_count.result es))).bytes) (c.deref-2.ensures.value ∙ sym c.deref-3.ensures.value)
    ∙ ap (λ cs. (contents_after start cs).bytes) c.synced_count.ensures.synced
    ∙ ap (λ es. (contents_after start (up_to_sync (map change_of es))).bytes) c.deref-3.ensures.value
    ∙ ap (λ (f : List ℕ). (contents_after f (up_to_sync (map change_of events))).bytes) base
    ∙ ap (λ r. on_disk r.past) c.self.view_is

pub returns-clause-left : goal.returns-clause-left
returns-clause-left c =
    let first = c.self.inside.first.items in
    let left = on_disk_left (past_of c.self.inside) (All-map (LiesInside (length first)) change_of c.self.inside.events.items c.self.invariant.inside) in
    let is = returns-clause-bytes c in
    subst (Leaves (contents_now c.args.self.now.past)) (sym is) (subst (λ r. Leaves (contents_now r.past) (on_disk r.past)) c.self.view_is left)
