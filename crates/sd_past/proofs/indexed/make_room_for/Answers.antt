use Rattle.std.proofs.Common.{reverse}
use Rattle.sd_past.proofs.RoomLaws.{places_within}
use Rattle.sd_past.proofs.indexed.make_room_for.Goals as goal

pub make_room-requires : goal.make_room-requires
make_room-requires c =
    places_within c.args.entries.now.items c.reserved_places-places.result (c.reserved_places-places.ensures (reverse c.args.entries.now.items) c.requires)
