use Rattle.std.proofs.Common.{◌≡◌, Bool, ℕ, refl, ap, sym, inl, ◌∙◌}
use Rattle.sd_server.specs.HostStores.{Stored}
use Rattle.sd_server.proofs.Held.{fails_later, given_fails, journal_held, old_or_journal, store_begun}
use Rattle.sd_server.specs.Stores.{told_by}
use Rattle.sd_server.proofs.command.serve.Goals as goal

pub returns-in-Ok-clause-stored : goal.returns-in-Ok-clause-stored
returns-in-Ok-clause-stored g c = λ done given.
    journal_held (g.H.Host.text_at c.args.host.now c.args.conf.now) (g.H.Host.stored c.args.host.now).blobs (told_by g.H.Store.Keeper.told c.in-Ok.begun.keeper)
    (g.H.Host.stored c.serve_begun.new.host).blobs c.in-Ok.begun.core (c.in-Ok.ensures.begun given) (c.in-Ok.ensures.ready.tells given)
    (c.serve_begun.ensures.stored done (c.in-Ok.ensures.ready.there ∙ given))

pub returns-in-Ok-clause-held : goal.returns-in-Ok-clause-held
returns-in-Ok-clause-held g c = λ given.
    old_or_journal (g.H.Host.text_at c.args.host.now c.args.conf.now) (g.H.Host.stored c.args.host.now).blobs (told_by g.H.Store.Keeper.told c.in-Ok.begun.keeper)
    (g.H.Host.stored c.serve_begun.new.host).blobs c.in-Ok.begun.core (c.in-Ok.ensures.begun given) (c.in-Ok.ensures.ready.tells given)
    (c.serve_begun.ensures.held (c.in-Ok.ensures.ready.there ∙ given))

pub returns-in-Ok-clause-loaded : goal.returns-in-Ok-clause-loaded
returns-in-Ok-clause-loaded g c = λ tried given.
    store_begun (g.H.Host.text_at c.args.host.now c.args.conf.now) (g.H.Host.stored c.args.host.now).blobs c.in-Ok.begun.core (c.in-Ok.ensures.begun given)

pub returns-in-Ok-clause-unasked : goal.returns-in-Ok-clause-unasked
returns-in-Ok-clause-unasked g c = λ none.
    c.serve_begun.ensures.unasked (c.in-Ok.ensures.ready.there ∙ none) ∙ c.begin.ensures.opening.unasked none

pub returns-in-Ok-clause-store_fault : goal.returns-in-Ok-clause-store_fault
returns-in-Ok-clause-store_fault g c = λ status.
    let fault = c.serve_begun.ensures.store_fault status in
    (fails_later (g.H.Host.stored c.args.host.now) (g.H.Host.stored c.begin.new.host) (g.H.Host.stored c.serve_begun.new.host) c.begin.ensures.opening.later fault.0, fault.1)
