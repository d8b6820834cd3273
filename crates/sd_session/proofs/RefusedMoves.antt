-- What no session does: moves that a faulty one would make, each of which `May` or `EndsAs` refuses.
use Rattle.std.proofs.Common.{◌≡◌, ◌∙◌, ℕ, Bool, true, false, List, [], ◌∷◌, ◌++◌, Option, Some, None, refl, sym, ap, subst}
use Rattle.sd_rules.specs.declared.events.Event.TheVariants as events
use Rattle.sd_rules.specs.declared.replies.Entry.{Entry}
use Rattle.sd_rules.specs.declared.tasks.Bound.TheVariants as bounds
use Rattle.sd_rules.specs.declared.tasks.Fetched.{Fetched}
use Rattle.sd_rules.specs.declared.tasks.Fetched.TheVariants as fetches
use Rattle.sd_conf.specs.declared.config.Config.{Config}
use Rattle.sd_desk.specs.Steps.{IsPending}
use Rattle.sd_dial.specs.Entries.{Behind}
use Rattle.sd_dial.specs.Operations.{Operation}
use Rattle.sd_engine.specs.declared.ending.SessionEnd.TheVariants as ends
use Rattle.sd_wire.specs.declared.requests.Request.{Request}
use Rattle.sd_wire.specs.declared.requests.Request.TheVariants as requests
use Rattle.sd_session.specs.Desks.{at_desk}
use Rattle.sd_session.specs.Picking.{IsPicked}
use Rattle.sd_session.specs.Running.{Outside, EndsAs}
use Rattle.sd_session.specs.Sessions.{Company, Hears, Steps, Fetches, Binds, Stand, May, last_stops}
use Rattle.sd_session.proofs.HoldingLaws.{untrue}

module _ (w : Company) (config : Config) (behind : ℕ → Option Behind) (s : Stand) where
  -- it asks again where memory was wanting for an answer
  asks_again : (operations : List Operation) (lines : List (List ℕ)) (fell : Bool) → May w config behind s (Fetches fetches.Memory operations lines fell) → ⊥
  asks_again operations lines fell may = untrue (sym may.memory)

  binds_again : (operations : List Operation) (lines : List (List ℕ)) (fell : Bool) → May w config behind s (Binds bounds.Memory operations lines fell) → ⊥
  binds_again operations lines fell may = untrue (sym may.memory)

  -- it hears a request whose name is empty
  hears_no_name : May w config behind s (Hears (requests.User [])) → ⊥
  hears_no_name may = untrue may.carried.sound

  -- it hears a request behind the answer to a stop
  hears_behind_stop : (request : Request) → last_stops s.requests ≡ true → May w config behind s (Hears request) → ⊥
  hears_behind_stop request stops may = untrue (sym may.listens.going ∙ stops)

  -- it ends otherwise behind the answer to a stop
  closes_behind_stop : (before now : Outside) → last_stops s.requests ≡ true → EndsAs w ends.Closed s before now → ⊥
  closes_behind_stop before now stops h = untrue (sym h.0.going ∙ stops)

  -- it asks before any own entry
  asks_unpicked : (fetched : Fetched) (operations : List Operation) (lines : List (List ℕ)) (fell : Bool) → s.own ≡ [] → May w config behind s (Fetches fetched operations lines fell) → ⊥
  asks_unpicked fetched operations lines fell none may = no_last may.picked.earlier may.picked.last (sym none ∙ may.picked.are)
    where
      no_last : (earlier : List Entry) (last : Entry) → [] ≡ earlier ++ last ∷ [] → ⊥
      no_last [] last e = cc
      no_last (x ∷ earlier) last e = cc

-- it polls through the journal
polls : (config : Config) (behind : ℕ → Option Behind) (s : Stand) (now ticket request : ℕ) → IsPending s.daemon.past ticket request → May at_desk config behind s (Steps now (events.Collect ticket)) → ⊥
polls config behind s now ticket request pending may = may.ready request pending
