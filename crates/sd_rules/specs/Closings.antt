-- Closings: how a login or an account check ends.
use Rattle.std.specs.Prelude.{Bool, true, List, [], ◌∷◌, Option, Some, None}
use Rattle.sd_rules.specs.declared.keys.Key.{Key}
use Rattle.sd_rules.specs.declared.replies.Given.{Given}
use Rattle.sd_rules.specs.declared.scripts.Led.{Led}
use Rattle.sd_rules.specs.declared.scripts.LookupStage.{LookupStage}
use Rattle.sd_rules.specs.declared.scripts.LookupStage.TheVariants as stages
use Rattle.sd_rules.specs.declared.scripts.LookupStep.{LookupStep}
use Rattle.sd_rules.specs.declared.scripts.LookupStep.TheVariants as steps
use Rattle.sd_rules.specs.declared.tasks.Fetched.{Fetched}
use Rattle.sd_rules.specs.declared.tasks.Need.{Need}
use Rattle.sd_rules.specs.declared.tasks.Need.TheVariants as needs
use Rattle.sd_rules.specs.declared.tasks.Said.{Said}
use Rattle.sd_rules.specs.Lookups.{lookup_need, lookup_replied, lookup_fetched, is_sayable, is_stage_of_kind}

-- How a login or an account check ends: its client is told, then the requests that it leads to renew answers are carried out,
-- the first led first, each to its end.
pub data Closing : Type 0 where
  Saying : Said → List Led → Closing
  Renewing : Key → LookupStage → List Led → Closing
  Over : Closing

-- the first of the requests that are left is begun
abbrev pub begun : List Led → Closing
begun [] = Over
begun (first ∷ led) = Renewing first.key (stages.Pick first.request) led

abbrev pub closing_need : Closing → Need
closing_need (Saying said led) = needs.Say said
closing_need (Renewing key stage led) = lookup_need key stage
closing_need Over = needs.End

abbrev pub closing_told : Closing → Closing
closing_told (Saying said led) = begun led
closing_told closing = closing

-- once one has come to its end, the next is begun
abbrev pub carried_out : Key → List Led → LookupStep → Closing
carried_out key led (steps.Next stage) = Renewing key stage led
carried_out key led (steps.Ended said) = begun led
carried_out key led (steps.Renew said request) = begun led

abbrev pub closing_replied : Closing → Given → Closing
closing_replied (Renewing key stage led) given = carried_out key led (lookup_replied stage given)
closing_replied closing given = closing

abbrev pub closing_fetched : Closing → Fetched → Closing
closing_fetched (Renewing key stage led) fetched = Renewing key (lookup_fetched stage fetched) led
closing_fetched closing fetched = closing

abbrev pub closing_key : Closing → Option Key
closing_key (Renewing key stage led) = Some key
closing_key _ = None

-- what is to be told can be told, and what is to be recorded is of its key's kind
abbrev pub is_closing_of_kind : Closing → Bool
is_closing_of_kind (Saying said led) = is_sayable said
is_closing_of_kind (Renewing key stage led) = is_stage_of_kind key stage
is_closing_of_kind Over = true
