use Rattle.std.proofs.Common.{rules, ap, sym, subst, ◌∙◌, refl, map, length}
use Rattle.std.specs.Prelude.{All}
use Rattle.disk_memory.specs.declared.history.Event.TheVariants.{Sync}
use Rattle.disk_memory.specs.Events.{change_of}
use Rattle.disk_memory.specs.Histories.{past_of}
use Rattle.disk_memory.specs.OnDisk.{LiesInside}
use Rattle.disk_memory.proofs.Changes.{changes_push, synced_clean}
use Rattle.disk_memory.proofs.Walks.{all_push}
use Rattle.disk_memory.proofs.history.DiskHistory.record_sync.Goals as goal

pub invariant_of-self : goal.invariant_of-self
invariant_of-self c = record {
  inside = subst (All (λ e. LiesInside (length c.self.inside.first.items) (change_of e))) (sym c.in-Ok.ensures.items) (all_push (λ e. LiesInside (length c.self.inside.first.items) (change_of e)) c.self.inside.events.items Sync c.self.invariant.inside tt);
  clean = λ h. synced_clean (past_of c.self.inside) _ (ap (λ es. record { first = c.self.inside.first.items; changes = es }) (ap (map change_of) c.in-Ok.ensures.items ∙ changes_push c.self.inside.events.items Sync));
  spare = search rules;
  room = λ h. cc;
}

pub returns-clause-clean : goal.returns-clause-clean
returns-clause-clean c = (invariant_of-self c).clean refl
