use Rattle.std.proofs.Common.{rules, ◌≡◌, sym, ap, subst, ◌∙◌}
use Rattle.sd_turn.specs.Seats as seats
use Rattle.sd_rules.specs.Steps.{Daemon, entry_made, after}
use Rattle.sd_core.specs.Laws.{IsKept}
use Rattle.sd_desk.specs.declared.shared.SharedCore.{SharedCore}
use Rattle.sd_desk.specs.Journals.{history_of}
use Rattle.sd_desk.specs.Desks.{front, mine}
use Rattle.sd_desk.specs.Steps.{MadeOver}
use Rattle.sd_desk.proofs.Giving.{gives_made}
use Rattle.sd_desk.proofs.Made.{grown_by, ends_with}
use Rattle.sd_desk.proofs.desk.Desk.step_held.Goals as goal

pub append-requires-clause-grown : goal.append-requires-clause-grown
append-requires-clause-grown c =
    let same : c.value.result.now.core.value ≡ c.args.held.value.core.value = ap (λ (v : SharedCore). v.core.value) c.value.ensures.value in
    grown_by c.value.result.now.core.value c.step.new.self.core.value c.args.now c.args.event (seats.history_now c.args.seat.now.seat)
    (subst IsKept (sym same) c.requires.holds.kept) c.in-Ok.ensures.made (c.requires.holds.taken.2 ∙ ap history_of (sym same))

pub returns-in-Ok-clause-made : goal.returns-in-Ok-clause-made
returns-in-Ok-clause-made c =
    let same : c.value.result.now.core.value ≡ c.args.held.value.core.value = ap (λ (v : SharedCore). v.core.value) c.value.ensures.value in
    let kept = subst IsKept (sym same) c.requires.holds.kept in
    let ends = ends_with c.value.result.now.core.value c.step.new.self.core.value c.args.now c.args.event (seats.history_now c.args.seat.now.seat)
    kept c.in-Ok.ensures.made (c.requires.holds.taken.2 ∙ ap history_of (sym same)) in
    let given_back : front c.args.self.now c.give.new.seat ≡ c.step.new.self.core.value = search rules in
    subst (λ (core : Daemon). MadeOver core (front c.args.self.now c.give.new.seat) (mine c.args.seat.now) (mine c.give.new.seat) c.args.now c.args.event c.in-Ok.given) same
    (record {
      kept = kept;
      room = c.in-Ok.ensures.room;
      front = given_back ∙ c.in-Ok.ensures.made;
      gives = c.in-Ok.ensures.given;
      mine = c.give.ensures.mine ∙ c.append.ensures.mine (entry_made c.value.result.now.core.value c.args.now c.args.event) ends;
      laws = c.in-Ok.ensures.laws;
      texts = c.in-Ok.ensures.texts;
    })

pub give-requires : goal.give-requires
give-requires c =
    let same : c.value.result.now.core.value ≡ c.args.held.value.core.value = ap (λ (v : SharedCore). v.core.value) c.value.ensures.value in
    let kept : c.append.new.held.value.core.value ≡ c.step.new.self.core.value = search rules in
    gives_made c.args.self.now c.args.seat.now _ c.args.held.value.core.value c.value.result.now.core.value c.step.new.self.core.value
    c.append.new.held.value.core.value c.args.now c.args.event c.requires.holds same c.in-Ok.ensures.made c.in-Ok.ensures.reached kept c.append.ensures.own c.append.ensures.holds
    c.append.ensures.taken c.append.ensures.now
