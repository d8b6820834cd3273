use Rattle.sd_turn.specs.Seats as seats
use Rattle.sd_desk.specs.Desks.{opening}
use Rattle.sd_desk.specs.Journals.{basis_of}
use Rattle.sd_desk.proofs.Counted.{later_is}
use Rattle.sd_desk.proofs.desk.Desk.join.Goals as goal

pub invariant_of-seat : goal.invariant_of-seat
invariant_of-seat c =
    let is = later_is (basis_of (opening c.args.self.now)) (seats.front c.args.seat.now.seat) (seats.front c.args.other.seat) (seats.front c.join.new.seat)
    c.args.seat.now.counts c.args.other.counts c.later-seat.result c.later-seat.ensures c.args.seat.now.next_is c.args.seat.now.entries_are c.args.other.next_is c.args.other.entries_are
    c.join.ensures.front c.join.ensures.follows c.join.ensures.follows_other in
    record { next_is = is.0; entries_are = is.1 }
