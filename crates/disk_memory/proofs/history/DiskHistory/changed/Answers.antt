use Rattle.std.proofs.Common.{◌≡◌, ◌∙◌, ap, sym, subst, length, map, ℕ, List}
use Rattle.std.specs.Prelude.{All}
use Rattle.std.proofs.lemmas.List.{with_items_is}
use Rattle.std.proofs.lemmas.List.Elements.{All-map}
use Rattle.disk_trait.specs.Moments.{AgreesOutside}
use Rattle.disk_memory.specs.declared.history.Event.{Event}
use Rattle.disk_memory.specs.Events.{change_of}
use Rattle.disk_memory.specs.Past.{contents_now, contents_after}
use Rattle.disk_memory.specs.OnDisk.{LiesInside, on_disk}
use Rattle.disk_memory.specs.Histories.{past_of}
use Rattle.disk_memory.proofs.Walks.{contents_long}
use Rattle.disk_memory.proofs.Syncs.{on_disk_long}
use Rattle.disk_memory.proofs.history.DiskHistory.changed.Goals as goal

-- the image begins as what reads give, and has the disk's size
start_is : (c : goal.After-deref_mut) → c.deref_mut.result.now ≡ c.args.bytes.now
start_is c = c.deref_mut.ensures.value ∙ c.in_ok-image.ensures.items_if_clones_equal (λ x y e. e)

start_long : (c : goal.After-deref_mut) → length c.deref_mut.result.now ≡ length c.self.inside.first.items
start_long c =
    let first = c.self.inside.first.items in
    let events = c.self.inside.events.items in
    ap length (start_is c ∙ c.requires) ∙ ap (λ r. length (contents_now r.past).bytes) (sym c.self.view_is) ∙ contents_long first (map change_of events) (All-map (LiesInside (length first)) change_of events c.self.invariant.inside)

pub change_unsynced-requires-clause-inside : goal.change_unsynced-requires-clause-inside
change_unsynced-requires-clause-inside c =
    subst (λ es. All (λ (e : Event). LiesInside (length c.deref_mut.result.now) (change_of e)) es) (sym c.deref.ensures.value) (subst (λ (n : ℕ). All (λ (e : Event). LiesInside n (change_of e)) c.self.inside.events.items) (sym (start_long c)) c.self.invariant.inside)

pub change_unsynced-requires-clause-synced : goal.change_unsynced-requires-clause-synced
change_unsynced-requires-clause-synced c =
    let first = c.self.inside.first.items in
    let events = c.self.inside.events.items in
    ap length (c.deref-2.ensures.value ∙ c.in_ok-synced.ensures.bytes)
    ∙ ap (λ r. length (on_disk r.past)) (sym c.self.view_is)
    ∙ on_disk_long (past_of c.self.inside) (All-map (LiesInside (length first)) change_of events c.self.invariant.inside)
    ∙ sym (start_long c)

pub returns-clause-outside : goal.returns-clause-outside
returns-clause-outside c =
    let first = c.self.inside.first.items in
    let after = c.change_unsynced.ensures.outside first in
    let is : c.deref_mut.result.now ≡ c.args.bytes.now = c.deref_mut.ensures.value ∙ c.in_ok-image.ensures.items_if_clones_equal (λ x y e. e) in
    let ranges : (contents_after first (map change_of c.deref.result.now)).dirty ≡ (contents_now c.args.self.now.past).dirty = ap (λ es. (contents_after first (map change_of es)).dirty) c.deref.ensures.value ∙ ap (λ r. (contents_now r.past).dirty) c.self.view_is in
    let items = with_items_is c.in_ok-image.image c.change_unsynced.new.image (after.same_length ∙ c.deref_mut.ensures.len) in
    subst (AgreesOutside (contents_now c.args.self.now.past).dirty c.args.bytes.now) (sym items) (subst (λ (b : List ℕ). AgreesOutside (contents_now c.args.self.now.past).dirty b c.change_unsynced.new.image) is (subst (λ rs. AgreesOutside rs c.deref_mut.result.now c.change_unsynced.new.image) ranges after))
