use Rattle.std.proofs.Common.{rules, ◌≡◌, ap, ◌∙◌, ⊎_elim, arith, inl, inr, subst, sym, map}
use Rattle.sd_turn.specs.Counts.{AreDistinct}
use Rattle.sd_turn.specs.Seats.{opening, front}
use Rattle.sd_turn.proofs.Joining.{joins_seats, settles, joins}
use Rattle.sd_turn.proofs.turn.Turn.join.Goals as goal

pub join_seat-requires : goal.join_seat-requires
join_seat-requires g c = (search rules, search rules, search rules, search rules, joins_seats g.V.Chronicle (opening c.args.self.now) _ _ _ _ _ _ c.requires.own.0.1 c.requires.own.1.1 c.requires.free.0.0 c.requires.free.1.0 c.requires.out)

pub load-seat-requires : goal.load-seat-requires
load-seat-requires g c = let e = c.join_seat.ensures.2 in (search rules, search rules, settles g.V.Chronicle (opening c.args.self.now) g.met.V.Chronicle.follows_itself _ _ _ _ _ _ (ap (λ m. m.0.setting) e ∙ c.requires.own.0.1) (ap (λ m. m.0.stage) e))

pub invariant_of-seat : goal.invariant_of-seat
invariant_of-seat g c = let t = joins g.V.Chronicle (opening c.args.self.now) c.args.seat.now.seat.me c.args.other.seat.me _ _ c.requires.own.0.1 c.join_seat.ensures.2 c.load-seat.ensures.2 in
    let next : c.load-seat.new.seat.me.0.front.next ≡ t.front.next = ap (λ m. m.0.front.next) t.is in
    let a = c.args.seat.now.tells in let b = c.args.other.tells in let up = c.args.seat.now.above in let m = c.max-seat.ensures in let n = t.next in
    record { tells = omega arith; above = omega arith }

pub returns-clause-own : goal.returns-clause-own
returns-clause-own g c = let t = joins g.V.Chronicle (opening c.args.self.now) c.args.seat.now.seat.me c.args.other.seat.me _ _ c.requires.own.0.1 c.join_seat.ensures.2 c.load-seat.ensures.2 in
    (search rules, ap (λ m. m.0.setting) t.is ∙ c.requires.own.0.1)

pub returns-clause-free : goal.returns-clause-free
returns-clause-free g c = let t = joins g.V.Chronicle (opening c.args.self.now) c.args.seat.now.seat.me c.args.other.seat.me _ _ c.requires.own.0.1 c.join_seat.ensures.2 c.load-seat.ensures.2 in
    (ap (λ m. m.0.stage) t.is, ap (λ m. m.1) t.is ∙ c.requires.free.0.1)

pub returns-clause-seat : goal.returns-clause-seat
returns-clause-seat g c = let t = joins g.V.Chronicle (opening c.args.self.now) c.args.seat.now.seat.me c.args.other.seat.me _ _ c.requires.own.0.1 c.join_seat.ensures.2 c.load-seat.ensures.2 in
    (ap (λ m. m.0.name) t.is, ap (λ m. m.0.splits) t.is, ap (λ m. m.0.out) t.is, ap (λ m. m.0.mine) t.is, (ap (λ m. m.0.takes) t.is, ap (λ m. m.0.found) t.is))

pub returns-clause-apart : goal.returns-clause-apart
returns-clause-apart g c = let t = joins g.V.Chronicle (opening c.args.self.now) c.args.seat.now.seat.me c.args.other.seat.me _ _ c.requires.own.0.1 c.join_seat.ensures.2 c.load-seat.ensures.2 in
    subst (λ m. AreDistinct (map g.V.Chronicle.number m.0.mine)) (sym t.is) t.apart

pub returns-clause-front : goal.returns-clause-front
returns-clause-front g c = let t = joins g.V.Chronicle (opening c.args.self.now) c.args.seat.now.seat.me c.args.other.seat.me _ _ c.requires.own.0.1 c.join_seat.ensures.2 c.load-seat.ensures.2 in
    let is = ap (λ m. m.0.front) t.is in ⊎_elim (λ e. inl (is ∙ e)) (λ e. inr (is ∙ e)) t.either

pub returns-clause-follows : goal.returns-clause-follows
returns-clause-follows g c = let t = joins g.V.Chronicle (opening c.args.self.now) c.args.seat.now.seat.me c.args.other.seat.me _ _ c.requires.own.0.1 c.join_seat.ensures.2 c.load-seat.ensures.2 in
    subst (λ m. g.V.Chronicle.follows (g.V.Chronicle.setting (opening c.args.self.now)) (front c.args.seat.now) m.0.front) (sym t.is) t.follows_own

pub returns-clause-follows_other : goal.returns-clause-follows_other
returns-clause-follows_other g c = let t = joins g.V.Chronicle (opening c.args.self.now) c.args.seat.now.seat.me c.args.other.seat.me _ _ c.requires.own.0.1 c.join_seat.ensures.2 c.load-seat.ensures.2 in
    subst (λ m. g.V.Chronicle.follows (g.V.Chronicle.setting (opening c.args.self.now)) (front c.args.other) m.0.front) (sym t.is) t.follows_other
