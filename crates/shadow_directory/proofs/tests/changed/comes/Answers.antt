use Rattle.std.proofs.Common.{rules, arith}
use Rattle.shadow_directory.proofs.tests.changed.comes.Goals as goal

pub change_with-told-requires : goal.change_with-told-requires
change_with-told-requires g c = (search rules, (search rules, (c.requires.change, (c.in_ok-pages.ensures.parts, omega (arith, c.in_ok-pages.ensures.room)))))
