use Rattle.std.proofs.Common.{Bool, Result, Ok, Err, sym, ap, ◌∙◌, subst}
use Rattle.std.proofs.lemmas.Result.{err_from_is_err_and}
use Rattle.sd_nested.specs.declared.searcher.Stop.{Stop}
use Rattle.sd_fetch.specs.Exchanging.{Telling}
use Rattle.sd_netgroup.specs.declared.finds.Finds.{Finds}
use Rattle.sd_netgroup.specs.Stepping.{Steps, Gathered}
use Rattle.sd_netgroup.proofs.Goings.{stopped, all_gathered, gone_on}
use Rattle.sd_netgroup.proofs.rounds.gather.Goals as goal

pub returns-in_err-step : goal.returns-in_err-step
returns-in_err-step g c =
    let t : Telling _ = record { sent = g.L.Link.sent; asked = g.L.DirectoryLink.asked; received = g.L.Link.received; coming = g.L.Link.coming; answer = g.L.Link.answer; behind = g.L.DirectoryLink.behind; faults = g.L.Link.faults; refuses = g.L.Link.refuses; ends = g.L.Link.ends } in
    let p = err_from_is_err_and c.from_residual-in_err-step.result c.from_residual-in_err-step.ensures.1 in
    subst (λ (r : Result Finds Stop). Gathered t c.args.base.now c.args.name.now c.args.client.now r c.step.new.client) (sym (p.1 ∙ ap (λ (s : Stop). Err s) p.2))
    (stopped t c.args.base.now c.args.name.now c.loop-place.place c.loop-place.finds c.args.client.now c.loop-place.client c.loop-place.invariant c.in_err-step.field-0.0 c.step.new.finds c.step.new.client c.in_err-step.ensures)

pub returns-then-not-branch : goal.returns-then-not-branch
returns-then-not-branch g c =
    let t : Telling _ = record { sent = g.L.Link.sent; asked = g.L.DirectoryLink.asked; received = g.L.Link.received; coming = g.L.Link.coming; answer = g.L.Link.answer; behind = g.L.DirectoryLink.behind; faults = g.L.Link.faults; refuses = g.L.Link.refuses; ends = g.L.Link.ends } in
    all_gathered t c.args.base.now c.args.name.now c.loop-place.place c.loop-place.finds c.args.client.now c.loop-place.client c.loop-place.invariant c.step.new.finds c.step.new.client
    (subst (λ (b : Bool). Steps t c.args.base.now c.loop-place.place c.loop-place.finds c.loop-place.client (Ok b) c.step.new.finds c.step.new.client) c.if-not-branch.true c.in_ok-step.ensures)

pub loop-place-preserved : goal.loop-place-preserved
loop-place-preserved g c =
    let t : Telling _ = record { sent = g.L.Link.sent; asked = g.L.DirectoryLink.asked; received = g.L.Link.received; coming = g.L.Link.coming; answer = g.L.Link.answer; behind = g.L.DirectoryLink.behind; faults = g.L.Link.faults; refuses = g.L.Link.refuses; ends = g.L.Link.ends } in
    gone_on t c.args.base.now c.args.name.now c.loop-place.place c.loop-place.finds c.args.client.now c.loop-place.client c.loop-place.invariant c.step.new.finds c.step.new.client
    (subst (λ (b : Bool). Steps t c.args.base.now c.loop-place.place c.loop-place.finds c.loop-place.client (Ok b) c.step.new.finds c.step.new.client) c.if-not-branch.false c.in_ok-step.ensures)
