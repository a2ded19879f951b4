use Rattle.std.proofs.Common.{arith, rules}
use Rattle.query_paths.specs.Rooms.{room_for}
use Rattle.query_paths.proofs.Telling.{all-below}
use Rattle.query_paths.proofs.tests.answers.Goals as goal

pub list_rows-requires : goal.list_rows-requires
list_rows-requires g c =
    let pages = c.args.pages.now in
    (omega arith, (omega arith, (omega arith, (search rules, (search rules, all-below pages.count (room_for c.in_ok-room.room) (omega (arith, pages.few, c.in_ok-room.ensures)))))))

pub count_rows-counted-requires : goal.count_rows-counted-requires
count_rows-counted-requires g c =
    let pages = c.list_rows.new.pinned in
    (omega arith, (omega arith, (search rules, (search rules, all-below pages.count (room_for c.list_rows.new.room) (omega (arith, pages.few, c.in_ok-room.ensures, c.list_rows.ensures.marks))))))
