-- What becomes of a configuration, what is written where it is refused, and which statuses the daemon ends with.
use Rattle.std.specs.Prelude.{◌≡◌, ◌⊎◌, ◌<◌, ◌≤◌, ◌++◌, ℕ, List, Option, Err, IfSome, IsOk, length, codes}
use Rattle.sd_conf.specs.Config.{conf_of, Answers}
use Rattle.sd_conf.specs.declared.ConfFault.{ConfFault}
use Rattle.sd_conf.specs.declared.ConfFault.TheVariants as faults
use Rattle.sd_server.specs.declared.refusals.Stop.{Stop}
use Rattle.sd_server.specs.declared.refusals.Stop.TheVariants as stops
use Rattle.sd_wire.specs.Forms.{numbered}

-- the most bytes that a configuration has: 1 MiB
abbrev pub conf_limit : ℕ
conf_limit = 1048576

-- the configuration, where it is told, has more
abbrev pub IsTooLong : Option (List ℕ) → Type 0
IsTooLong told = IfSome told (λ text. conf_limit < length text)

-- the configuration, where it is told, has no more, and is refused for this reason
abbrev pub IsRefused : ConfFault → Option (List ℕ) → Type 0
IsRefused fault told = IfSome told (λ text. (length text ≤ conf_limit) × Answers (Err fault) (conf_of text))

-- the configuration, where it is told, has no more, and is not refused
abbrev pub IsTaken : Option (List ℕ) → Type 0
IsTaken told = IfSome told (λ text. (length text ≤ conf_limit) × IsOk (conf_of text))

abbrev pub refused : List ℕ → List ℕ
refused why = codes "refused " ++ (why ++ codes "\n")

-- the refusal's name, and its value where it has one
abbrev pub why_refused : ConfFault → List ℕ
why_refused (faults.BadLine n) = numbered (codes "BadLine ") n
why_refused (faults.NoSection n) = numbered (codes "NoSection ") n
why_refused (faults.BadValue n) = numbered (codes "BadValue ") n
why_refused (faults.ManyDomains n) = numbered (codes "ManyDomains ") n
why_refused faults.NoDomain = codes "NoDomain"
why_refused (faults.Missing option) = codes "Missing " ++ option
why_refused faults.Memory = codes ""

-- why a configuration is not taken; the store and the doors are not tried then
abbrev pub IsOfConfig : Stop → Type 0
IsOfConfig stops.ReadFault = Unit {0}
IsOfConfig stops.TooLong = Unit {0}
IsOfConfig (stops.Refused fault) = Unit {0}
IsOfConfig stops.Memory = Unit {0}
IsOfConfig stop = ⊥

-- what is tried behind the configuration did not go: the store, the doors
abbrev pub IsBehindConfig : Stop → Type 0
IsBehindConfig stops.StoreFault = Unit {0}
IsBehindConfig (stops.BadStore n) = Unit {0}
IsBehindConfig stops.DoorFault = Unit {0}
IsBehindConfig stop = ⊥

-- likewise, or memory was wanting
abbrev pub IsNoneOfConfig : Stop → Type 0
IsNoneOfConfig stops.Memory = Unit {0}
IsNoneOfConfig stops.StoreFault = Unit {0}
IsNoneOfConfig (stops.BadStore n) = Unit {0}
IsNoneOfConfig stops.DoorFault = Unit {0}
IsNoneOfConfig stop = ⊥

-- by its status the daemon tried the store or the doors: done, the store failed or is none, the doors failed
abbrev pub TriesBehindConfig : ℕ → Type 0
TriesBehindConfig status = (status ≡ 0) ⊎ ((status ≡ 9) ⊎ ((status ≡ 11) ⊎ (status ≡ 12)))

-- done; a source, or the sink, failed; want of memory; the configuration is too long; the doors failed; it is refused; the store
-- failed; it is none
abbrev pub IsServeStatus : ℕ → Type 0
IsServeStatus status = (status ≡ 0) ⊎ ((status ≡ 3) ⊎ ((status ≡ 4) ⊎ ((7 ≤ status) × (status ≤ 12))))
