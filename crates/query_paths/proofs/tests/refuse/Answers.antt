use Rattle.std.proofs.Common.{arith, rules}
use Rattle.query_paths.specs.Rooms.{room_for}
use Rattle.query_paths.proofs.Telling.{all-below}
use Rattle.query_paths.proofs.tests.refuse.Goals as goal

pub count_rows-counted-requires : goal.count_rows-counted-requires
count_rows-counted-requires g c =
    let pages = c.exact-got.new.pinned in
    (omega arith, (omega arith, (search rules, (search rules, all-below pages.count (room_for c.in_ok-room.room) (omega (arith, pages.few, c.in_ok-room.ensures))))))
