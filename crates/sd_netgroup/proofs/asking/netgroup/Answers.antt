use Rattle.std.proofs.Common.{sym, subst}
use Rattle.sd_fetch.specs.Exchanging.{Telling}
use Rattle.sd_netgroup.specs.declared.asking.Netted.{Netted}
use Rattle.sd_netgroup.specs.Asking.{Asked}
use Rattle.sd_netgroup.proofs.Nets.{asked_all, asked_stopped, told}
use Rattle.sd_netgroup.proofs.asking.netgroup.Goals as goal

pub returns-in-Ok-clause-asked : goal.returns-in-Ok-clause-asked
returns-in-Ok-clause-asked g c =
    let t : Telling _ = record { sent = g.L.Link.sent; asked = g.L.DirectoryLink.asked; received = g.L.Link.received; coming = g.L.Link.coming; answer = g.L.Link.answer; behind = g.L.DirectoryLink.behind; faults = g.L.Link.faults; refuses = g.L.Link.refuses; ends = g.L.Link.ends } in
    asked_all t c.args.base.now c.args.name.now c.args.client.now c.in-Ok.finds c.found_by.result c.gather.new.client c.in-Ok.ensures c.found_by.ensures

pub returns-in-Ok-clause-told : goal.returns-in-Ok-clause-told
returns-in-Ok-clause-told g c = λ b is quiet.
    let t : Telling _ = record { sent = g.L.Link.sent; asked = g.L.DirectoryLink.asked; received = g.L.Link.received; coming = g.L.Link.coming; answer = g.L.Link.answer; behind = g.L.DirectoryLink.behind; faults = g.L.Link.faults; refuses = g.L.Link.refuses; ends = g.L.Link.ends } in
    told t c.args.base.now c.args.name.now c.args.client.now c.found_by.result c.gather.new.client b
    (asked_all t c.args.base.now c.args.name.now c.args.client.now c.in-Ok.finds c.found_by.result c.gather.new.client c.in-Ok.ensures c.found_by.ensures)
    (record { is = is; quiet = quiet })

pub returns-in-Err-clause-asked : goal.returns-in-Err-clause-asked
returns-in-Err-clause-asked g c =
    let t : Telling _ = record { sent = g.L.Link.sent; asked = g.L.DirectoryLink.asked; received = g.L.Link.received; coming = g.L.Link.coming; answer = g.L.Link.answer; behind = g.L.DirectoryLink.behind; faults = g.L.Link.faults; refuses = g.L.Link.refuses; ends = g.L.Link.ends } in
    subst (λ (r : Netted). Asked t c.args.base.now c.args.name.now c.args.client.now r c.gather.new.client) (sym c.stopped_by.ensures)
    (asked_stopped t c.args.base.now c.args.name.now c.args.client.now c.in-Err.stop c.gather.new.client c.in-Err.ensures)

pub returns-in-Err-clause-told : goal.returns-in-Err-clause-told
returns-in-Err-clause-told g c = λ b is quiet.
    let t : Telling _ = record { sent = g.L.Link.sent; asked = g.L.DirectoryLink.asked; received = g.L.Link.received; coming = g.L.Link.coming; answer = g.L.Link.answer; behind = g.L.DirectoryLink.behind; faults = g.L.Link.faults; refuses = g.L.Link.refuses; ends = g.L.Link.ends } in
    told t c.args.base.now c.args.name.now c.args.client.now c.stopped_by.result c.gather.new.client b
    (subst (λ (r : Netted). Asked t c.args.base.now c.args.name.now c.args.client.now r c.gather.new.client) (sym c.stopped_by.ensures)
    (asked_stopped t c.args.base.now c.args.name.now c.args.client.now c.in-Err.stop c.gather.new.client c.in-Err.ensures))
    (record { is = is; quiet = quiet })
