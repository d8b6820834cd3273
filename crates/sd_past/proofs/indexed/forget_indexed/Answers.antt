use Rattle.std.proofs.Common.{rules, ◌≡◌, ◌+◌, ◌≤◌, length, reverse, vec_capacity}
use Rattle.sd_rules.specs.Needed.{needed}
use Rattle.sd_rules.specs.Requests.{reserved_places}
use Rattle.sd_past.proofs.RoomLaws.{room_kept}
use Rattle.sd_past.proofs.indexed.forget_indexed.Goals as goal

pub returns-clause-room : goal.returns-clause-room
returns-clause-room c =
    let is : reverse c.sift-kept.result.kept.items ≡ needed (reverse c.args.entries.now.items) = search rules in
    let has : length c.args.entries.now.items + reserved_places (reverse c.args.entries.now.items) ≤ vec_capacity c.sift-kept.result.kept = search rules in
    room_kept c.args.entries.now.items c.sift-kept.result.kept.items (vec_capacity c.sift-kept.result.kept) c.requires.shown is has
