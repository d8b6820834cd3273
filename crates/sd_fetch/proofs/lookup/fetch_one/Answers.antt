use Rattle.std.proofs.Common.{◌≡◌, ℕ, List, length, Option, Some, None, Result, Ok, Err, sym, ap, subst, ◌∙◌, refl}
use Rattle.std.proofs.lemmas.Result.{err_from_is_err_and}
use Rattle.sd_ldap.specs.declared.entry.DirEntry.{DirEntry}
use Rattle.sd_rules.specs.declared.keys.Key.TheVariants as keys
use Rattle.sd_rules.specs.declared.tasks.Fetched.{Fetched}
use Rattle.sd_dial.specs.Entries.{Behind}
use Rattle.sd_fetch.specs.declared.finding.Early.{Early}
use Rattle.sd_fetch.specs.declared.finding.Early.TheVariants as earlies
use Rattle.sd_fetch.specs.Searches.{first_search, services_search}
use Rattle.sd_fetch.specs.Early.{Asked, Tried}
use Rattle.sd_fetch.specs.Exchanging.{Telling}
use Rattle.sd_fetch.specs.Sought.{Sought, IsToldSought}
use Rattle.sd_fetch.specs.Told.{searches_of, first_failure}
use Rattle.sd_fetch.specs.Lookup.{looked_up, rules_among, services_among}
use Rattle.sd_fetch.proofs.Seeking.{asked_ok, sought_early, sought_one, told_first, told_chosen}
use Rattle.sd_fetch.proofs.lookup.fetch_one.Goals as goal

pub returns-in_err-entries-clause-sought : goal.returns-in_err-entries-clause-sought
returns-in_err-entries-clause-sought g c =
    let t : Telling _ = record { sent = g.L.Link.sent; asked = g.L.DirectoryLink.asked; received = g.L.Link.received; coming = g.L.Link.coming; answer = g.L.Link.answer; behind = g.L.DirectoryLink.behind; faults = g.L.Link.faults; refuses = g.L.Link.refuses; ends = g.L.Link.ends } in
    let p = err_from_is_err_and c.from_residual.result c.from_residual.ensures.1 in
    subst (λ (r : Result Fetched Early). Sought t c.args.config.now c.args.key.now c.args.client.now r c.seek.new.client) (sym (p.1 ∙ ap (λ (e : Early). Err e) p.2))
    (sought_early t c.args.config.now c.args.key.now c.args.client.now c.seek.new.client c.in_err-entries.field-0.0 c.in_err-entries.ensures)

pub returns-in_err-entries-clause-told : goal.returns-in_err-entries-clause-told
returns-in_err-entries-clause-told g c = λ b is quiet.
    let t : Telling _ = record { sent = g.L.Link.sent; asked = g.L.DirectoryLink.asked; received = g.L.Link.received; coming = g.L.Link.coming; answer = g.L.Link.answer; behind = g.L.DirectoryLink.behind; faults = g.L.Link.faults; refuses = g.L.Link.refuses; ends = g.L.Link.ends } in
    let p = err_from_is_err_and c.from_residual.result c.from_residual.ensures.1 in
    subst (λ (r : Result Fetched Early). IsToldSought r (first_failure b (length c.args.client.now.received) c.args.client.now.next (searches_of c.args.config.now b.entries c.args.key.now)) (looked_up c.args.config.now b.entries c.args.key.now) (t.refuses c.seek.new.client.link) (t.ends c.seek.new.client.link) (t.coming c.seek.new.client.link)) (sym (p.1 ∙ ap (λ (e : Early). Err e) p.2))
    (told_first t c.args.config.now c.args.key.now c.args.client.now c.seek.new.client c.in_err-entries.field-0.0 b c.in_err-entries.ensures (record { is = is; quiet = quiet }))

pub returns-clause-sought : goal.returns-clause-sought
returns-clause-sought g c =
    let t : Telling _ = record { sent = g.L.Link.sent; asked = g.L.DirectoryLink.asked; received = g.L.Link.received; coming = g.L.Link.coming; answer = g.L.Link.answer; behind = g.L.DirectoryLink.behind; faults = g.L.Link.faults; refuses = g.L.Link.refuses; ends = g.L.Link.ends } in
    let asked : Asked t c.args.client.now (first_search c.args.config.now c.args.key.now) (Ok c.items.result.now) c.seek.new.client =
    subst (λ (es : List DirEntry). Asked t c.args.client.now (first_search c.args.config.now c.args.key.now) (Ok es) c.seek.new.client) (sym c.items.ensures)
    (asked_ok t c.args.client.now (first_search c.args.config.now c.args.key.now) c.in_ok-entries.entries c.seek.new.client c.in_ok-entries.ensures) in
    sought_one t c.args.config.now c.args.key.now c.args.client.now c.seek.new.client c.choose.new.client c.items.result.now c.choose.result _ c.requires asked c.choose.ensures.further c.choose.ensures.one

pub returns-clause-told : goal.returns-clause-told
returns-clause-told g c = λ b is quiet.
    let t : Telling _ = record { sent = g.L.Link.sent; asked = g.L.DirectoryLink.asked; received = g.L.Link.received; coming = g.L.Link.coming; answer = g.L.Link.answer; behind = g.L.DirectoryLink.behind; faults = g.L.Link.faults; refuses = g.L.Link.refuses; ends = g.L.Link.ends } in
    let asked : Asked t c.args.client.now (first_search c.args.config.now c.args.key.now) (Ok c.items.result.now) c.seek.new.client =
    subst (λ (es : List DirEntry). Asked t c.args.client.now (first_search c.args.config.now c.args.key.now) (Ok es) c.seek.new.client) (sym c.items.ensures)
    (asked_ok t c.args.client.now (first_search c.args.config.now c.args.key.now) c.in_ok-entries.entries c.seek.new.client c.in_ok-entries.ensures) in
    told_chosen t c.args.config.now c.args.key.now c.args.client.now c.seek.new.client c.choose.new.client c.items.result.now c.choose.result b c.requires asked c.choose.ensures.further
    (λ on dns. c.choose.ensures.found b on.is on.quiet dns) (record { is = is; quiet = quiet })
