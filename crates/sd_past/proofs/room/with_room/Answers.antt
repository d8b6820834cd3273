use Rattle.std.proofs.Common.{List, ◌+◌, ◌≤◌, length, vec_capacity, arith, ap}
use Rattle.sd_rules.specs.declared.replies.Entry.{Entry}
use Rattle.sd_past.proofs.RoomLaws.{room_for_all}
use Rattle.sd_past.proofs.room.with_room.Goals as goal

pub returns-clause-room : goal.returns-clause-room
returns-clause-room c =
    let same = ap (λ (es : List Entry). length es) c.as_slice-places.ensures.value in
    let still = ap (λ (es : List Entry). length es) c.make_room.ensures.same in
    let has = c.in_ok-make_room.ensures.room in
    let enough : length c.make_room.new.entries.items + length c.make_room.new.entries.items ≤ vec_capacity c.make_room.new.entries = omega arith in
    room_for_all c.make_room.new.entries.items (vec_capacity c.make_room.new.entries) enough
