use Rattle.std.proofs.Common.{◌∙◌, ◌≤◌, length, drop, arith}
use Rattle.std.proofs.lemmas.List.{length-take}
use Rattle.grid_shell.proofs.Pieces.{length-piece, front_more, rest_more}
use Rattle.grid_shell.proofs.input.read_all.Goals as goal

pub pieces-preserved : goal.pieces-preserved
pieces-preserved g c =
    let old = c.pieces.invariant in
    let items = c.in-Ok-extend_from_slice.ensures.items in
    let le : c.in-Ok.count ≤ length c.take.new.out = omega (arith, c.in-Ok.ensures.bound, c.take.auto.out) in
    let room : c.in-Ok.count ≤ c.min-room.result = omega (arith, c.in-Ok.ensures.bound, length-take c.min-room.result c.pieces.piece) in
    record {
      within = omega (arith, c.in-Ok-extend_from_slice.ensures.len, length-piece c.take.new.out (drop c.min-room.result c.pieces.piece) c.in-Ok.count le);
      later = omega (arith, c.in-Ok.ensures.cause.later, old.later);
      tells = c.in-Ok.ensures.tells ∙ old.tells;
      had = λ h. front_more _ c.pieces.bytes.items c.take.new.out _ _ _ _ c.in-Ok.count le items (old.rest h) (c.in-Ok.ensures.taken (old.tells ∙ h)) (old.had h);
      rest = λ h. rest_more _ c.pieces.bytes.items c.take.new.out _ _ _ _ c.in-Ok.count le items (old.rest h) (c.in-Ok.ensures.taken (old.tells ∙ h));
    }
