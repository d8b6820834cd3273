use Rattle.sd_engine.proofs.Asking.{looks_over, unbinds_by, looked_fallen, looked_later, fresh_settled, told_by_fresh}
use Rattle.sd_engine.proofs.looking.look_over.Goals as goal

pub returns-clause-asks : goal.returns-clause-asks
returns-clause-asks g c =
    looks_over _ _ _ _ _ _ _ _ c.new-client.ensures c.fetch-fetched.ensures.looked (unbinds_by g.L.DirectoryLink.asked c.fetch-fetched.new.client c.end.result _ _ _ c.end.ensures.failed c.end.ensures.unbinds) c.end.ensures.received

pub returns-clause-fallen : goal.returns-clause-fallen
returns-clause-fallen g c = λ is. looked_fallen _ _ _ _ _ _ _ _ c.new-client.ensures c.fetch-fetched.ensures.looked c.end.ensures.later is

pub returns-clause-later : goal.returns-clause-later
returns-clause-later g c = looked_later _ _ _ _ _ _ _ _ c.new-client.ensures c.fetch-fetched.ensures.looked c.end.ensures.later

pub returns-clause-told : goal.returns-clause-told
returns-clause-told g c = λ b is.
    let some = (g.met.L.DirectoryLink.tells_coming c.args.line b is).0 in
    let settled = fresh_settled g.L.Link.coming c.new-client.result c.args.line c.new-client.ensures some c.requires in
    let link = c.fetch-fetched.new.client.link in
    told_by_fresh g.L.DirectoryLink.behind g.L.Link.coming c.args.config.now c.args.key.now c.new-client.result c.args.line c.fetch-fetched.result
    (g.L.Link.refuses link) (g.L.Link.ends link) (g.L.Link.coming link) b c.new-client.ensures is settled c.fetch-fetched.ensures.told
