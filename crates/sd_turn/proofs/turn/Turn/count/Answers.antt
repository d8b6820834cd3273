use Rattle.std.proofs.Common.{rules, sym, ap, ◌∙◌}
use Rattle.sd_turn.specs.Seats.{opening}
use Rattle.sd_turn.specs.Views.{is_held, taken_in, now_in}
use Rattle.sd_turn.proofs.Keeping.{held_is}
use Rattle.sd_turn.proofs.Counting.{counts_turn}
use Rattle.sd_turn.proofs.turn.Turn.count.Goals as goal

pub fetch_add-requires : goal.fetch_add-requires
fetch_add-requires g c = let t = c.requires.grown in let v = c.args.seat.now.seat.me.0 in
    (search rules, search rules, counts_turn g.V.Chronicle (opening c.args.self.now) _ _ _ _ t.0 _ _ _ _ t.1 c.requires.own.1 (held_is v.front v.stage c.requires.holds.0) t.2 t.3)

pub invariant_of-seat : goal.invariant_of-seat
invariant_of-seat g c = let v = c.args.seat.now.seat.me.0 in let q = (c.fetch_add.ensures.2 _ _ _ (held_is v.front v.stage c.requires.holds.0)).0 in record { tells = c.args.seat.now.tells ∙ sym (ap (λ m. m.0.front.next) q); above = c.args.seat.now.above }

pub returns-clause-own : goal.returns-clause-own
returns-clause-own g c = let v = c.args.seat.now.seat.me.0 in let q = (c.fetch_add.ensures.2 _ _ _ (held_is v.front v.stage c.requires.holds.0)).0 in (search rules, ap (λ m. m.0.setting) q ∙ c.requires.own.1)

pub returns-clause-same : goal.returns-clause-same
returns-clause-same g c = let v = c.args.seat.now.seat.me.0 in let q = (c.fetch_add.ensures.2 _ _ _ (held_is v.front v.stage c.requires.holds.0)).0 in (ap (λ m. m.0.name) q, ap (λ m. m.0.splits) q, ap (λ m. m.0.out) q)

pub returns-clause-tries : goal.returns-clause-tries
returns-clause-tries g c = let v = c.args.seat.now.seat.me.0 in let q = (c.fetch_add.ensures.2 _ _ _ (held_is v.front v.stage c.requires.holds.0)).0 in (ap (λ m. m.0.takes) q, ap (λ m. m.0.found) q)

pub returns-clause-front : goal.returns-clause-front
returns-clause-front g c = let v = c.args.seat.now.seat.me.0 in let q = (c.fetch_add.ensures.2 _ _ _ (held_is v.front v.stage c.requires.holds.0)).0 in ap (λ m. m.0.front) q

pub returns-clause-mine : goal.returns-clause-mine
returns-clause-mine g c = let v = c.args.seat.now.seat.me.0 in let q = (c.fetch_add.ensures.2 _ _ _ (held_is v.front v.stage c.requires.holds.0)).0 in ap (λ m. m.0.mine) q

pub returns-clause-holds : goal.returns-clause-holds
returns-clause-holds g c = let v = c.args.seat.now.seat.me.0 in let q = (c.fetch_add.ensures.2 _ _ _ (held_is v.front v.stage c.requires.holds.0)).0 in (ap (λ m. is_held m.0.stage) q, ap (λ m. m.1) q ∙ c.requires.holds.1)

pub returns-clause-taken : goal.returns-clause-taken
returns-clause-taken g c = let v = c.args.seat.now.seat.me.0 in let q = (c.fetch_add.ensures.2 _ _ _ (held_is v.front v.stage c.requires.holds.0)).0 in ap (λ m. taken_in m.0.front m.0.stage) q

pub returns-clause-now : goal.returns-clause-now
returns-clause-now g c = let v = c.args.seat.now.seat.me.0 in let q = (c.fetch_add.ensures.2 _ _ _ (held_is v.front v.stage c.requires.holds.0)).0 in ap (λ m. now_in m.0.front m.0.stage) q
