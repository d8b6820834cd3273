use Rattle.std.proofs.Common.{◌≡◌, List, Option, ℕ, Bool, true, ap, sym, subst, ◌∙◌}
use Rattle.std.specs.Prelude.{is_some}
use Rattle.sd_base.specs.Causes.{Rose}
use Rattle.sd_server.specs.HostStores.{Stored}
use Rattle.sd_server.proofs.Held.{done_stored, done_told, failed_back, fails_back, fails_between, none_back, told_back}
use Rattle.sd_server.specs.Stores.{faults_by, told_by, HoldsOldOrReached, HoldsReached}
use Rattle.sd_server.proofs.command.run.Goals as goal

pub returns-clause-held : goal.returns-clause-held
returns-clause-held g c = λ there.
    let told = told_back g.H.Store.Keeper.told g.H.Store.Keeper.faults g.H.Store.Keeper.failed (g.H.Host.stored c.done_doors.new.self)
    (g.H.Host.stored c.give_back.new.host) c.serve_core-served.result.2 (c.serve_core-served.ensures.stays.there ∙ there) c.give_back.ensures.store in
    let last = ap (λ (s : Stored). s.blobs) c.log-2.ensures.store in
    subst (λ (t : Option (List (List ℕ))). HoldsOldOrReached c.args.begun.core (told_by g.H.Store.Keeper.told c.args.begun.keeper) t) (sym (last ∙ told)) c.serve_core-served.ensures.held

pub returns-clause-stored : goal.returns-clause-stored
returns-clause-stored g c = λ done there.
    let told = told_back g.H.Store.Keeper.told g.H.Store.Keeper.faults g.H.Store.Keeper.failed (g.H.Host.stored c.done_doors.new.self)
    (g.H.Host.stored c.give_back.new.host) c.serve_core-served.result.2 (c.serve_core-served.ensures.stays.there ∙ there) c.give_back.ensures.store in
    let last = ap (λ (s : Stored). s.blobs) c.log-2.ensures.store in
    subst (λ (t : Option (List (List ℕ))). HoldsReached c.args.begun.core (told_by g.H.Store.Keeper.told c.args.begun.keeper) t) (sym (last ∙ told))
    (done_stored c.serve_core-served.result.0 c.serve_core-served.ensures.stored done)

pub returns-clause-unasked : goal.returns-clause-unasked
returns-clause-unasked g c = λ none.
    let back = none_back g.H.Store.Keeper.told g.H.Store.Keeper.faults g.H.Store.Keeper.failed (g.H.Host.stored c.done_doors.new.self)
    (g.H.Host.stored c.give_back.new.host) c.serve_core-served.result.2 (c.serve_core-served.ensures.stays.there ∙ none) c.give_back.ensures.store in
    c.log-2.ensures.store ∙ (back ∙ (c.done_doors.ensures.store ∙ (c.equipment-tools.ensures.store ∙ c.log.ensures.store)))

pub returns-clause-failed : goal.returns-clause-failed
returns-clause-failed g c = λ failed.
    let first = c.done_doors.ensures.store ∙ (c.equipment-tools.ensures.store ∙ c.log.ensures.store) in
    let flush = c.serve_core-served.ensures.failed failed in
    fails_between (g.H.Host.stored c.args.host.now) (g.H.Host.stored c.done_doors.new.self) (g.H.Host.stored c.give_back.new.host) (g.H.Host.stored c.log-2.new.self) first
    c.log-2.ensures.store
    (fails_back g.H.Store.Keeper.told g.H.Store.Keeper.faults g.H.Store.Keeper.failed (g.H.Host.stored c.done_doors.new.self) (g.H.Host.stored c.give_back.new.host)
    c.serve_core-served.result.2 (faults_by g.H.Store.Keeper.faults c.args.begun.keeper) flush.0 flush.1 c.give_back.ensures.store)

pub returns-clause-failing : goal.returns-clause-failing
returns-clause-failing g c = λ there fails.
    let told = failed_back g.H.Store.Keeper.told g.H.Store.Keeper.faults g.H.Store.Keeper.failed (g.H.Host.stored c.done_doors.new.self)
    (g.H.Host.stored c.give_back.new.host) c.serve_core-served.result.2 (c.serve_core-served.ensures.stays.there ∙ there) c.give_back.ensures.store in
    let last = ap (λ (s : Stored). s.failed) c.log-2.ensures.store in
    c.serve_core-served.ensures.failed_only (sym told ∙ (sym last ∙ fails))

pub returns-clause-done : goal.returns-clause-done
returns-clause-done g c = λ done.
    done_told (Rose (g.H.Door.Doors.faults c.args.begun.doors) (g.H.Door.Doors.faults c.serve_core-served.result.1)) c.serve_core-served.result.0 (g.H.Door.Doors.gave c.serve_core-served.result.1) (g.H.Door.Doors.ended c.serve_core-served.result.1)
    (g.H.Host.gave c.log-2.new.self) (g.H.Host.ended c.log-2.new.self) c.serve_core-served.ensures.end
    (record {
      gave_one = λ e. (c.log-2.ensures.told.0 ∙ c.give_back.ensures.told.0) ∙ c.done_doors.ensures.tells.gave_one e;
      has_ended = λ e. (c.log-2.ensures.told.1 ∙ c.give_back.ensures.told.1) ∙ c.done_doors.ensures.tells.has_ended e;
    }) done
