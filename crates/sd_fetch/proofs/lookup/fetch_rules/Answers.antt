use Rattle.std.proofs.Common.{◌≡◌, ℕ, List, length, Option, Some, None, Result, Ok, Err, sym, ap, subst, ◌∙◌, refl}
use Rattle.std.proofs.lemmas.Result.{err_from_is_err_and}
use Rattle.sd_ldap.specs.declared.entry.DirEntry.{DirEntry}
use Rattle.sd_rules.specs.declared.keys.Key.TheVariants as keys
use Rattle.sd_rules.specs.declared.tasks.Fetched.{Fetched}
use Rattle.sd_dial.specs.Entries.{Behind}
use Rattle.sd_fetch.specs.declared.finding.Early.{Early}
use Rattle.sd_fetch.specs.declared.finding.Early.TheVariants as earlies
use Rattle.sd_fetch.specs.Searches.{first_search, services_search}
use Rattle.sd_fetch.specs.Early.{Asked, Tried}
use Rattle.sd_fetch.specs.Exchanging.{Telling}
use Rattle.sd_fetch.specs.Sought.{Sought, IsToldSought}
use Rattle.sd_fetch.specs.Told.{searches_of, first_failure}
use Rattle.sd_fetch.specs.Lookup.{looked_up, rules_among, services_among}
use Rattle.sd_rules.specs.declared.records.Rule.{Rule}
use Rattle.sd_rules.specs.declared.records.Service.{Service}
use Rattle.sd_fetch.proofs.Seeking.{asked_ok, sought_early, sought_starved, told_first}
use Rattle.sd_fetch.proofs.RuleLaws.{sought_second, sought_rules, sought_unread, told_second, told_rules}
use Rattle.sd_fetch.proofs.lookup.fetch_rules.Goals as goal

pub returns-in_err-entries-clause-sought : goal.returns-in_err-entries-clause-sought
returns-in_err-entries-clause-sought g c =
    let t : Telling _ = record { sent = g.L.Link.sent; asked = g.L.DirectoryLink.asked; received = g.L.Link.received; coming = g.L.Link.coming; answer = g.L.Link.answer; behind = g.L.DirectoryLink.behind; faults = g.L.Link.faults; refuses = g.L.Link.refuses; ends = g.L.Link.ends } in
    let p = err_from_is_err_and c.from_residual.result c.from_residual.ensures.1 in
    subst (λ (r : Result Fetched Early). Sought t c.args.config.now keys.Rules c.args.client.now r c.seek.new.client) (sym (p.1 ∙ ap (λ (e : Early). Err e) p.2))
    (sought_early t c.args.config.now keys.Rules c.args.client.now c.seek.new.client c.in_err-entries.field-0.0 c.in_err-entries.ensures)

pub returns-in_err-entries-clause-told : goal.returns-in_err-entries-clause-told
returns-in_err-entries-clause-told g c = λ b is quiet.
    let t : Telling _ = record { sent = g.L.Link.sent; asked = g.L.DirectoryLink.asked; received = g.L.Link.received; coming = g.L.Link.coming; answer = g.L.Link.answer; behind = g.L.DirectoryLink.behind; faults = g.L.Link.faults; refuses = g.L.Link.refuses; ends = g.L.Link.ends } in
    let p = err_from_is_err_and c.from_residual.result c.from_residual.ensures.1 in
    subst (λ (r : Result Fetched Early). IsToldSought r (first_failure b (length c.args.client.now.received) c.args.client.now.next (searches_of c.args.config.now b.entries keys.Rules)) (looked_up c.args.config.now b.entries keys.Rules) (t.refuses c.seek.new.client.link) (t.ends c.seek.new.client.link) (t.coming c.seek.new.client.link)) (sym (p.1 ∙ ap (λ (e : Early). Err e) p.2))
    (told_first t c.args.config.now keys.Rules c.args.client.now c.seek.new.client c.in_err-entries.field-0.0 b c.in_err-entries.ensures (record { is = is; quiet = quiet }))

pub returns-in_err-rules-clause-sought : goal.returns-in_err-rules-clause-sought
returns-in_err-rules-clause-sought g c =
    let t : Telling _ = record { sent = g.L.Link.sent; asked = g.L.DirectoryLink.asked; received = g.L.Link.received; coming = g.L.Link.coming; answer = g.L.Link.answer; behind = g.L.DirectoryLink.behind; faults = g.L.Link.faults; refuses = g.L.Link.refuses; ends = g.L.Link.ends } in
    let p = err_from_is_err_and c.from_residual-in_err-rules.result c.from_residual-in_err-rules.ensures.1 in
    subst (λ (r : Result Fetched Early). Sought t c.args.config.now keys.Rules c.args.client.now r c.seek.new.client) (sym (p.1 ∙ ap (λ (e : Early). Err e) p.2))
    (sought_starved t c.args.config.now keys.Rules c.args.client.now c.seek.new.client c.in_ok-entries.entries
    (asked_ok t c.args.client.now (first_search c.args.config.now keys.Rules) c.in_ok-entries.entries c.seek.new.client c.in_ok-entries.ensures))

pub returns-in_err-others-clause-sought : goal.returns-in_err-others-clause-sought
returns-in_err-others-clause-sought g c =
    let t : Telling _ = record { sent = g.L.Link.sent; asked = g.L.DirectoryLink.asked; received = g.L.Link.received; coming = g.L.Link.coming; answer = g.L.Link.answer; behind = g.L.DirectoryLink.behind; faults = g.L.Link.faults; refuses = g.L.Link.refuses; ends = g.L.Link.ends } in
    let p = err_from_is_err_and c.from_residual-in_err-others.result c.from_residual-in_err-others.ensures.1 in
    subst (λ (r : Result Fetched Early). Sought t c.args.config.now keys.Rules c.args.client.now r c.seek_services.new.client) (sym (p.1 ∙ ap (λ (e : Early). Err e) p.2))
    (sought_second t c.args.config.now c.args.client.now c.seek.new.client c.seek_services.new.client c.in_ok-entries.entries c.in_err-others.field-0.0
    (asked_ok t c.args.client.now (first_search c.args.config.now keys.Rules) c.in_ok-entries.entries c.seek.new.client c.in_ok-entries.ensures) c.in_err-others.ensures)

pub returns-in_err-others-clause-told : goal.returns-in_err-others-clause-told
returns-in_err-others-clause-told g c = λ b is quiet.
    let t : Telling _ = record { sent = g.L.Link.sent; asked = g.L.DirectoryLink.asked; received = g.L.Link.received; coming = g.L.Link.coming; answer = g.L.Link.answer; behind = g.L.DirectoryLink.behind; faults = g.L.Link.faults; refuses = g.L.Link.refuses; ends = g.L.Link.ends } in
    let p = err_from_is_err_and c.from_residual-in_err-others.result c.from_residual-in_err-others.ensures.1 in
    subst (λ (r : Result Fetched Early). IsToldSought r (first_failure b (length c.args.client.now.received) c.args.client.now.next (searches_of c.args.config.now b.entries keys.Rules)) (looked_up c.args.config.now b.entries keys.Rules) (t.refuses c.seek_services.new.client.link) (t.ends c.seek_services.new.client.link) (t.coming c.seek_services.new.client.link)) (sym (p.1 ∙ ap (λ (e : Early). Err e) p.2))
    (told_second t c.args.config.now c.args.client.now c.seek.new.client c.seek_services.new.client c.in_ok-entries.entries c.in_err-others.field-0.0 b
    (asked_ok t c.args.client.now (first_search c.args.config.now keys.Rules) c.in_ok-entries.entries c.seek.new.client c.in_ok-entries.ensures) c.in_err-others.ensures (record { is = is; quiet = quiet }))

pub returns-in_err-services-clause-sought : goal.returns-in_err-services-clause-sought
returns-in_err-services-clause-sought g c =
    let t : Telling _ = record { sent = g.L.Link.sent; asked = g.L.DirectoryLink.asked; received = g.L.Link.received; coming = g.L.Link.coming; answer = g.L.Link.answer; behind = g.L.DirectoryLink.behind; faults = g.L.Link.faults; refuses = g.L.Link.refuses; ends = g.L.Link.ends } in
    let p = err_from_is_err_and c.from_residual-in_err-services.result c.from_residual-in_err-services.ensures.1 in
    subst (λ (r : Result Fetched Early). Sought t c.args.config.now keys.Rules c.args.client.now r c.seek_services.new.client) (sym (p.1 ∙ ap (λ (e : Early). Err e) p.2))
    (sought_unread t c.args.config.now c.args.client.now c.seek.new.client c.seek_services.new.client c.in_ok-entries.entries c.in_ok-others.others
    (asked_ok t c.args.client.now (first_search c.args.config.now keys.Rules) c.in_ok-entries.entries c.seek.new.client c.in_ok-entries.ensures)
    (asked_ok t c.seek.new.client (services_search c.args.config.now.base) c.in_ok-others.others c.seek_services.new.client c.in_ok-others.ensures))

pub returns-in_err-fetched-clause-sought : goal.returns-in_err-fetched-clause-sought
returns-in_err-fetched-clause-sought g c =
    let t : Telling _ = record { sent = g.L.Link.sent; asked = g.L.DirectoryLink.asked; received = g.L.Link.received; coming = g.L.Link.coming; answer = g.L.Link.answer; behind = g.L.DirectoryLink.behind; faults = g.L.Link.faults; refuses = g.L.Link.refuses; ends = g.L.Link.ends } in
    let p = err_from_is_err_and c.from_residual-in_err-fetched.result c.from_residual-in_err-fetched.ensures.1 in
    subst (λ (r : Result Fetched Early). Sought t c.args.config.now keys.Rules c.args.client.now r c.seek_services.new.client) (sym (p.1 ∙ ap (λ (e : Early). Err e) p.2))
    (sought_unread t c.args.config.now c.args.client.now c.seek.new.client c.seek_services.new.client c.in_ok-entries.entries c.in_ok-others.others
    (asked_ok t c.args.client.now (first_search c.args.config.now keys.Rules) c.in_ok-entries.entries c.seek.new.client c.in_ok-entries.ensures)
    (asked_ok t c.seek.new.client (services_search c.args.config.now.base) c.in_ok-others.others c.seek_services.new.client c.in_ok-others.ensures))

pub returns-clause-sought : goal.returns-clause-sought
returns-clause-sought g c =
    let t : Telling _ = record { sent = g.L.Link.sent; asked = g.L.DirectoryLink.asked; received = g.L.Link.received; coming = g.L.Link.coming; answer = g.L.Link.answer; behind = g.L.DirectoryLink.behind; faults = g.L.Link.faults; refuses = g.L.Link.refuses; ends = g.L.Link.ends } in
    subst (λ (fetched : Fetched). Sought t c.args.config.now keys.Rules c.args.client.now (Ok fetched) c.seek_services.new.client) (sym c.in_ok-fetched.ensures)
    (sought_rules t c.args.config.now c.args.client.now c.seek.new.client c.seek_services.new.client c.in_ok-entries.entries c.in_ok-others.others c.in_ok-rules.rules c.in_ok-services.services
    (asked_ok t c.args.client.now (first_search c.args.config.now keys.Rules) c.in_ok-entries.entries c.seek.new.client c.in_ok-entries.ensures)
    (asked_ok t c.seek.new.client (services_search c.args.config.now.base) c.in_ok-others.others c.seek_services.new.client c.in_ok-others.ensures)
    (c.in_ok-rules.ensures ∙ ap (rules_among c.args.config.now) c.items.ensures) (c.in_ok-services.ensures ∙ ap (services_among c.args.config.now) c.items-2.ensures))

pub returns-clause-told : goal.returns-clause-told
returns-clause-told g c = λ b is quiet.
    let t : Telling _ = record { sent = g.L.Link.sent; asked = g.L.DirectoryLink.asked; received = g.L.Link.received; coming = g.L.Link.coming; answer = g.L.Link.answer; behind = g.L.DirectoryLink.behind; faults = g.L.Link.faults; refuses = g.L.Link.refuses; ends = g.L.Link.ends } in
    let p =
    told_rules t c.args.config.now c.args.client.now c.seek.new.client c.seek_services.new.client c.in_ok-entries.entries c.in_ok-others.others c.in_ok-rules.rules c.in_ok-services.services b
    (asked_ok t c.args.client.now (first_search c.args.config.now keys.Rules) c.in_ok-entries.entries c.seek.new.client c.in_ok-entries.ensures)
    (asked_ok t c.seek.new.client (services_search c.args.config.now.base) c.in_ok-others.others c.seek_services.new.client c.in_ok-others.ensures)
    (c.in_ok-rules.ensures ∙ ap (rules_among c.args.config.now) c.items.ensures) (c.in_ok-services.ensures ∙ ap (services_among c.args.config.now) c.items-2.ensures)
    (record { is = is; quiet = quiet }) in
    (p.0, c.in_ok-fetched.ensures ∙ p.1)
