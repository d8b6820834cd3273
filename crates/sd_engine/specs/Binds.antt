-- What a bind at a server asks.
use Rattle.std.specs.Prelude.{◌≡◌, ℕ, ◌⊎◌, List, [], ◌∷◌, ◌++◌, Option}
use Rattle.sd_base.specs.declared.Why.TheVariants as whys
use Rattle.sd_rules.specs.declared.tasks.Bound.{Bound}
use Rattle.sd_rules.specs.declared.tasks.Bound.TheVariants as bounds
use Rattle.sd_ldap.specs.Values.{MessageValue}
use Rattle.sd_dial.specs.Operations.{Operation}
use Rattle.sd_client.specs.Talk.{bind_message, failure_by_bind}
use Rattle.std.specs.Io.KnownBytes.{append_known}
use Rattle.sd_engine.specs.Lookups.{MayUnbind, asked_on, with_messages, with_operations}
use Rattle.sd_engine.specs.Received.{DecidesBind, with_lines}

-- a bind that was not sent: the link failed, or memory was wanting
abbrev pub IsUnsentBind : Bound → Type 0
IsUnsentBind (bounds.Code code) = ⊥
IsUnsentBind (bounds.Failed why) = why ≡ whys.Link
IsUnsentBind bounds.Memory = Unit {0}

-- What a bind asked on its line, on which these bytes were received: itself, which the bytes decide, and an unbind unless the client failed
-- or a count of faults rose.
pub record BindAsked (dn password : List ℕ) (bound : Bound) (rose : Type 0) (messages : List MessageValue) (received : List ℕ) : Type 0 where
  pub binds : List MessageValue
  pub next : ℕ
  pub unbinds : List MessageValue
  pub sent : ((binds ≡ bind_message 1 dn password ∷ []) × (next ≡ 2) × DecidesBind received bound) ⊎ ((binds ≡ []) × (next ≡ 1) × IsUnsentBind bound)
  pub unbind : MayUnbind (failure_by_bind bound) rose next unbinds
  pub are : messages ≡ binds ++ unbinds

pub data BindOperations (dn password : List ℕ) (server : ℕ) (bound : Bound) (rose : Type 0) : List Operation → List (List ℕ) → Type 0 where
  undialled : bound ≡ bounds.Failed whys.Link → BindOperations dn password server bound rose [] []
  bound_on : (messages : List MessageValue) (received : List ℕ) → BindAsked dn password bound rose messages received → BindOperations dn password server bound rose (asked_on server messages) (received ∷ [])

pub record AsksBind (dn password : List ℕ) (server : ℕ) (bound : Bound) (rose : Type 0) (known known' : Option (List Operation)) (before after : Option (List (List ℕ))) : Type 0 where
  pub operations : List Operation
  pub lines : List (List ℕ)
  pub are : BindOperations dn password server bound rose operations lines
  pub told : known' ≡ with_operations known operations
  pub received : after ≡ with_lines before lines

-- what a bind over a link asks and receives, where the link tells it
pub record BindsOver (dn password : List ℕ) (bound : Bound) (rose : Type 0) (known known' : Option (List MessageValue)) (before after : Option (List ℕ)) : Type 0 where
  pub messages : List MessageValue
  pub received : List ℕ
  pub asked : BindAsked dn password bound rose messages received
  pub told : known' ≡ with_messages known messages
  pub comes : after ≡ append_known before received
