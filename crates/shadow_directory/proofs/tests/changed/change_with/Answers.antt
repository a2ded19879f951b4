use Rattle.std.proofs.Common.{rules, arith}
use Rattle.shadow_directory.proofs.tests.changed.change_with.Goals as goal

pub write_change-requires : goal.write_change-requires
write_change-requires g c = (search rules, (search rules, (c.requires.change, (c.requires.parts, omega (arith, c.requires.room, c.count_changed_parts-count.ensures.count, c.count_changed_parts-count.ensures.few)))))
