use Rattle.std.proofs.Common.{rules, ◌≤◌, length, reverse}
use Rattle.sd_past.proofs.RoomLaws.{places_within}
use Rattle.sd_past.proofs.indexed.room_of.Goals as goal

pub overflow_add-entries : goal.overflow_add-entries
overflow_add-entries c =
    let few : c.reserved_places.result ≤ length c.args.entries.now =
    places_within c.args.entries.now c.reserved_places.result (c.reserved_places.ensures (reverse c.args.entries.now) c.requires) in
    search rules
