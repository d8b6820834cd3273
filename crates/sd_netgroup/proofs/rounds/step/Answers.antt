use Rattle.std.proofs.Common.{Bool, List, Result, Ok, Err, sym, ap, ◌∙◌, subst}
use Rattle.std.proofs.lemmas.Result.{err_from_is_err_and}
use Rattle.sd_ldap.specs.declared.entry.DirEntry.{DirEntry}
use Rattle.sd_nested.specs.declared.searcher.Stop.{Stop}
use Rattle.sd_fetch.specs.Exchanging.{Telling}
use Rattle.sd_netgroup.specs.Stepping.{Tried, Steps}
use Rattle.sd_netgroup.proofs.Goings.{step_on, step_stopped, step_starved}
use Rattle.sd_netgroup.proofs.rounds.step.Goals as goal

pub returns-in_err-entries : goal.returns-in_err-entries
returns-in_err-entries g c =
    let t : Telling _ = record { sent = g.L.Link.sent; asked = g.L.DirectoryLink.asked; received = g.L.Link.received; coming = g.L.Link.coming; answer = g.L.Link.answer; behind = g.L.DirectoryLink.behind; faults = g.L.Link.faults; refuses = g.L.Link.refuses; ends = g.L.Link.ends } in
    let p = err_from_is_err_and c.from_residual-in_err-entries.result c.from_residual-in_err-entries.ensures.1 in
    subst (λ (r : Result Bool Stop). Steps t c.args.base.now c.args.place c.args.finds.now c.args.client.now r c.args.finds.now c.find.new.client) (sym (p.1 ∙ ap (λ (s : Stop). Err s) p.2))
    (step_stopped t c.args.base.now c.in-Some.name c.args.place c.args.finds.now c.args.finds.now c.args.client.now c.find.new.client c.in_err-entries.field-0.0 (sym c.in-Some.is ∙ c.in_ok-name.ensures) c.in_err-entries.ensures)

pub returns-in_err-take : goal.returns-in_err-take
returns-in_err-take g c =
    let t : Telling _ = record { sent = g.L.Link.sent; asked = g.L.DirectoryLink.asked; received = g.L.Link.received; coming = g.L.Link.coming; answer = g.L.Link.answer; behind = g.L.DirectoryLink.behind; faults = g.L.Link.faults; refuses = g.L.Link.refuses; ends = g.L.Link.ends } in
    let p = err_from_is_err_and c.from_residual-in_err-take.result c.from_residual-in_err-take.ensures.1 in
    subst (λ (r : Result Bool Stop). Steps t c.args.base.now c.args.place c.args.finds.now c.args.client.now r c.take.new.self c.find.new.client) (sym (p.1 ∙ ap (λ (s : Stop). Err s) p.2))
    (step_starved t c.args.base.now c.in-Some.name c.args.place c.args.finds.now c.take.new.self c.args.client.now c.find.new.client c.in_ok-entries.entries (sym c.in-Some.is ∙ c.in_ok-name.ensures) c.in_ok-entries.ensures)

pub returns : goal.returns
returns g c =
    let t : Telling _ = record { sent = g.L.Link.sent; asked = g.L.DirectoryLink.asked; received = g.L.Link.received; coming = g.L.Link.coming; answer = g.L.Link.answer; behind = g.L.DirectoryLink.behind; faults = g.L.Link.faults; refuses = g.L.Link.refuses; ends = g.L.Link.ends } in
    step_on t c.args.base.now c.in-Some.name c.args.place c.args.finds.now c.take.new.self c.args.client.now c.find.new.client c.items.result.now (sym c.in-Some.is ∙ c.in_ok-name.ensures)
    (subst (λ (es : List DirEntry). Tried t c.args.base.now c.in-Some.name c.args.client.now (Ok es) c.find.new.client) (sym c.items.ensures) c.in_ok-entries.ensures)
    (record { names = c.in_ok-take.ensures.names; triples = c.in_ok-take.ensures.triples; some = c.in_ok-take.ensures.some })
