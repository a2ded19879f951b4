use Rattle.std.proofs.Common.{◌∙◌, ◌≤◌, ℕ, ap, sym, subst, All, length, arith}
use Rattle.query_paths.specs.declared.marks.Marks.TheInside.{Inside}
use Rattle.query_paths.proofs.Rounds.{none-filled, none-next, as-many}
use Rattle.query_paths.proofs.marks.Marks.clear.Goals as goal
use Rattle.query_paths.proofs.marks.Marks.clear.Goals.{then-self, else-self}

pub returns : goal.returns
returns c =
    let s = c.if-self.self-inside in
    let many = as-many c.self.inside.present c.self.inside.rounds.items c.args.self.now c.self.view_is in
    elim c.if-self.branch [
      | then-self w ↦ none-filled s.rounds.items s.present _ _ (ap (λ (x : Inside). x.rounds.items) w.self-inside-is ∙ w.fill.ensures.items (λ y e. e)) (omega (arith, c.self.inside.rounds.ok.0, many))
      | else-self w ↦ none-next s.rounds.items s.present _ (subst (λ (x : Inside). All (λ (r : ℕ). r ≤ x.present) x.rounds.items) (sym w.self-inside-is) c.self.invariant) (ap (λ (x : Inside). length x.rounds.items) w.self-inside-is ∙ many)
    ]
