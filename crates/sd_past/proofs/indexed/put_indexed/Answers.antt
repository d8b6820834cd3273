use Rattle.std.proofs.Common.{List, ◌+◌, ◌≤◌, length, reverse, vec_capacity, arith, ap, sym, ◌∙◌}
use Rattle.sd_rules.specs.declared.replies.Entry.{Entry}
use Rattle.sd_rules.specs.Requests.{reserved_places}
use Rattle.sd_past.proofs.RoomLaws.{appended_there, kept_there, room_either, room_given_back, room_with_more}
use Rattle.sd_past.proofs.indexed.put_indexed.Goals as goal

pub returns-then-closes_indexed-clause-room : goal.returns-then-closes_indexed-clause-room
returns-then-closes_indexed-clause-room c =
    let closes = sym (c.closes_indexed.ensures (reverse c.args.entries.now.items) c.requires.indexes) ∙ c.if-closes_indexed.true in
    room_either c.args.entries.now.items c.push_indexed.new.entries.items c.args.entry (vec_capacity c.args.entries.now) (vec_capacity c.push_indexed.new.entries)
    c.push_indexed.result c.push_indexed.ensures.ok c.push_indexed.ensures.err
    (λ put. room_given_back c.args.entries.now.items c.push_indexed.new.entries.items c.args.entry (vec_capacity c.args.entries.now) (vec_capacity c.push_indexed.new.entries)
    put c.requires.room (c.requires.back closes) c.push_indexed.ensures.capacity)
    (omega (arith, c.push_indexed.ensures.capacity)) c.requires.room

pub returns-in-Ok-clause-room : goal.returns-in-Ok-clause-room
returns-in-Ok-clause-room c =
    let still = c.make_room_for.ensures.same in
    let count = ap (λ (es : List Entry). length es) still in
    let has = c.in-Ok.ensures.room in
    let enough : length c.args.entries.now.items + reserved_places (reverse c.args.entries.now.items) + 2 ≤ vec_capacity c.make_room_for.new.entries = omega arith in
    let falling = c.requires.numbers in
    room_either c.args.entries.now.items c.push_indexed-in-Ok.new.entries.items c.args.entry (vec_capacity c.args.entries.now) (vec_capacity c.push_indexed-in-Ok.new.entries)
    c.push_indexed-in-Ok.result
    (appended_there c.make_room_for.new.entries.items c.args.entries.now.items c.push_indexed-in-Ok.new.entries.items c.args.entry c.push_indexed-in-Ok.result still c.push_indexed-in-Ok.ensures.ok)
    (kept_there c.make_room_for.new.entries.items c.args.entries.now.items c.push_indexed-in-Ok.new.entries.items c.args.entry c.push_indexed-in-Ok.result still c.push_indexed-in-Ok.ensures.err)
    (λ put. room_with_more c.args.entries.now.items c.push_indexed-in-Ok.new.entries.items c.args.entry (vec_capacity c.make_room_for.new.entries) (vec_capacity c.push_indexed-in-Ok.new.entries)
    put falling enough c.push_indexed-in-Ok.ensures.capacity)
    (omega (arith, c.push_indexed-in-Ok.ensures.capacity, c.make_room_for.ensures.capacity)) c.requires.room
