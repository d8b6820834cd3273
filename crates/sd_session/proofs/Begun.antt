-- A request that was just heard names nothing that the journal would have to know.
use Rattle.std.proofs.Common.{refl}
use Rattle.sd_rules.specs.declared.settings.Settings.{Settings}
use Rattle.sd_rules.specs.Steps.{Daemon}
use Rattle.sd_engine.proofs.CourseLaws.{login_names_nothing}
use Rattle.sd_wire.specs.declared.requests.Request.{Request}
use Rattle.sd_wire.specs.declared.requests.Request.TheVariants as requests
use Rattle.sd_session.specs.Spoken.{IsSpoken}
use Rattle.sd_session.proofs.SpokenLaws.{begun_known}
use Rattle.sd_engine.specs.Engines.{course_of}

pub begun_is_spoken : (d : Daemon) (settings : Settings) (request : Request) → IsSpoken d (course_of settings request)
begun_is_spoken d settings (requests.User name) = begun_known d _ refl refl
begun_is_spoken d settings (requests.Uid uid) = begun_known d _ refl refl
begun_is_spoken d settings (requests.Group name) = begun_known d _ refl refl
begun_is_spoken d settings (requests.Gid gid) = begun_known d _ refl refl
begun_is_spoken d settings (requests.GroupsOf name) = begun_known d _ refl refl
begun_is_spoken d settings (requests.Login user password) =
    begun_known d _ (login_names_nothing (record { user = user; password = password; stores = settings.cache_credentials })) refl
begun_is_spoken d settings (requests.Access user service) = begun_known d _ refl refl
begun_is_spoken d settings (requests.Void what) = begun_known d _ refl refl
begun_is_spoken d settings requests.Offline = begun_known d _ refl refl
begun_is_spoken d settings requests.Online = begun_known d _ refl refl
begun_is_spoken d settings requests.Stop = begun_known d _ refl refl
