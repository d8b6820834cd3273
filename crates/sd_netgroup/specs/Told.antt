-- What asking for a netgroup comes to over a link that tells the directory behind it.
use Rattle.std.specs.Prelude.{◌≡◌, ◌⊎◌, ℕ, ◌≤◌, true, false, List, [], length, Option, Some, None}
use Rattle.sd_base.specs.declared.Why.{Why}
use Rattle.sd_base.specs.declared.Why.TheVariants as whys
use Rattle.sd_dial.specs.Entries.{Behind}
use Rattle.sd_client.specs.Links.{Links}
use Rattle.sd_client.specs.Talk.{Talk}
use Rattle.sd_asking.specs.Settled.{OverTold}
use Rattle.sd_fetch.specs.Told.{first_failure}
use Rattle.sd_netgroup.specs.declared.asking.Netted.{Netted}
use Rattle.sd_netgroup.specs.declared.asking.Netted.TheVariants as nets
use Rattle.sd_netgroup.specs.Named.{named_in}
use Rattle.sd_netgroup.specs.Paths.{AreTriplesOf}
use Rattle.sd_netgroup.specs.Rounds.{course_in, searches_in, is_some}

-- All names were asked for, and no search meets a limit: so many bytes were received over the link before, and
-- the first search has this id.
pub record AreWithin (b : Behind) (count id : ℕ) (base name : List ℕ) : Type 0 where
  pub asked : ℕ
  pub whole : length (course_in b.entries base name asked).names ≤ asked
  pub within : first_failure b count id (searches_in b.entries base name asked) ≡ None

-- one of the first searches meets a limit
pub record MeetLimit (b : Behind) (count id : ℕ) (base name : List ℕ) (why : Why) : Type 0 where
  pub asked : ℕ
  pub met : first_failure b count id (searches_in b.entries base name asked) ≡ Some why

-- A failure is that of the first search that meets a limit. The link may fail at any time; where it refused
-- nothing and no byte is to come, it fails only by a limit.
abbrev pub IsToldFailure : Why → (Why → Type 0) → Type 0 → Type 0 → Option (List ℕ) → Type 0
IsToldFailure whys.Link met refuses ends coming = refuses ⊎ (ends × (coming ≡ Some [] → met whys.Link))
IsToldFailure (whys.Bytes at) met refuses ends coming = met (whys.Bytes at)
IsToldFailure (whys.Code code) met refuses ends coming = ⊥
IsToldFailure (whys.Message tag) met refuses ends coming = met (whys.Message tag)
IsToldFailure (whys.Flood count) met refuses ends coming = met (whys.Flood count)

abbrev pub IsToldNetting : Behind → ℕ → ℕ → List ℕ → List ℕ → Netted → Type 0 → Type 0 → Option (List ℕ) → Type 0
IsToldNetting b count id base name (nets.Found triples) refuses ends coming =
    AreWithin b count id base name × (is_some (named_in b.entries base name) ≡ true) × AreTriplesOf b.entries base name triples
IsToldNetting b count id base name nets.Absent refuses ends coming = AreWithin b count id base name × (is_some (named_in b.entries base name) ≡ false)
IsToldNetting b count id base name (nets.Code code) refuses ends coming = ⊥
IsToldNetting b count id base name (nets.Failed why) refuses ends coming = IsToldFailure why (MeetLimit b count id base name) refuses ends coming
IsToldNetting b count id base name nets.Memory refuses ends coming = Unit {0}

-- where the directory is told: the triples in its entries, unless a search meets a limit
abbrev pub NettedInTold : {L : Type 0} → Links L → List ℕ → List ℕ → Talk L → Netted → Talk L → Type 0
NettedInTold links base name old result new =
    OverTold links old (λ b. IsToldNetting b (length old.received) old.next base name result (links.refuses new.link) (links.ends new.link) (links.coming new.link))
