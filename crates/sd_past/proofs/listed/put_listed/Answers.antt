use Rattle.std.proofs.Common.{List, ◌≤◌, length, reverse, vec_capacity, arith, ap, sym, ◌∙◌}
use Rattle.sd_rules.specs.declared.replies.Entry.{Entry}
use Rattle.sd_past.specs.Closing.{closes_place}
use Rattle.sd_past.proofs.RoomLaws.{room_for_more, room_given_back}
use Rattle.sd_past.proofs.listed.put_listed.Goals as goal

pub returns-then-closes_listed-clause-room : goal.returns-then-closes_listed-clause-room
returns-then-closes_listed-clause-room c =
    room_given_back c.args.entries.now.items c.push_reserved.new.self.items c.args.entry (vec_capacity c.args.entries.now) (vec_capacity c.push_reserved.new.self)
    c.push_reserved.ensures.items c.requires.room
    (c.requires.back (ap (λ (es : List Entry). closes_place (reverse es) c.args.entry.event) (sym c.as_slice.ensures.value) ∙ (sym c.closes_listed.ensures ∙ c.if-closes_listed.true)))
    c.push_reserved.ensures.capacity

pub returns-in-Ok-clause-room : goal.returns-in-Ok-clause-room
returns-in-Ok-clause-room c =
    let same = ap (λ (es : List Entry). length es) c.as_slice-places.ensures.value in
    let most : length c.args.entries.now.items ≤ length c.as_slice-places.result.now = omega arith in
    room_for_more c.args.entries.now.items c.make_room.new.entries.items c.push_reserved-in-Ok.new.self.items c.args.entry (length c.as_slice-places.result.now)
    (vec_capacity c.make_room.new.entries) (vec_capacity c.push_reserved-in-Ok.new.self) c.make_room.ensures.same c.push_reserved-in-Ok.ensures.items c.push_reserved-in-Ok.ensures.capacity
    c.requires.numbers most c.in-Ok.ensures.room
