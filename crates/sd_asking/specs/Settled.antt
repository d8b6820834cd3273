-- Clients between two requests, and what a request makes of them.
use Rattle.std.specs.Prelude.{◌≡◌, ℕ, ◌+◌, ◌≤◌, ◌⊎◌, List, [], length, Option, Some, None}
use Rattle.sd_base.specs.Causes.{Rose}
use Rattle.sd_base.specs.declared.Why.{Why}
use Rattle.sd_base.specs.declared.Why.TheVariants as whys
use Rattle.sd_ldap.specs.Values.{MessageValue}
use Rattle.sd_dial.specs.Entries.{Behind}
use Rattle.sd_client.specs.Deciding.{Decision, undecided, failed}
use Rattle.sd_client.specs.Links.{Links, answer_of}
use Rattle.sd_client.specs.Talk.{Talk}

-- a client has not failed, all that came was read, and no byte is to come
pub record IsSettled {L : Type 0} (talk : Talk L) (coming : Option (List ℕ)) : Type 0 where
  pub well : talk.failed ≡ None
  pub read : talk.at ≡ length talk.received
  pub short : length talk.received ≤ 67108864
  pub quiet : coming ≡ Some []

-- a client is settled again after a request, whose reply took so many bytes
pub record GoesOn {L : Type 0} (old new : Talk L) (coming : Option (List ℕ)) (count : ℕ) : Type 0 where
  pub settled : IsSettled new coming
  pub grown : length new.received ≡ length old.received + count
  pub used : new.next ≡ old.next + 1

-- A failure, by what all bytes that answer the request decide. Where no byte is to come any more, a link fails
-- only where they decide nothing.
abbrev pub IsFailedBy : Why → Decision → Option (List ℕ) → Type 0
IsFailedBy whys.Link decision coming = coming ≡ Some [] → decision ≡ undecided
IsFailedBy (whys.Bytes at) decision coming = decision ≡ failed (whys.Bytes at)
IsFailedBy (whys.Message tag) decision coming = decision ≡ failed (whys.Message tag)
IsFailedBy (whys.Flood count) decision coming = decision ≡ failed (whys.Flood count)
IsFailedBy (whys.Code code) decision coming = ⊥

-- ---- by what the link tells

-- a client is settled over its link
abbrev pub IsSettledOver : {L : Type 0} → Links L → Talk L → Type 0
IsSettledOver links talk = IsSettled talk (links.coming talk.link)

-- it holds of the directory behind the link, where the link tells it and the client is settled
abbrev pub OverTold : {L : Type 0} → Links L → Talk L → (Behind → Type 0) → Type 0
OverTold links talk holds = (behind : Behind) → links.behind talk.link ≡ Some behind → IsSettled talk (links.coming talk.link) → holds behind

-- the link failed: as it was to take the request, or behind a request that was sent
abbrev pub LinkFails : {L : Type 0} → Links L → Talk L → Talk L → Type 0
LinkFails links old new =
    Rose (links.faults old.link) (links.faults new.link)
    × (((new.next ≡ old.next) × links.refuses new.link) ⊎ ((new.next ≡ old.next + 1) × links.ends new.link))

-- where all bytes that answer a message are the reply, and are among those that may be read, the client is settled
-- again
abbrev pub SettlesAgain : {L : Type 0} → Links L → MessageValue → Talk L → Talk L → Type 0
SettlesAgain links m old new =
    new.at ≡ length old.received + length (answer_of links old.link m) → length old.received + length (answer_of links old.link m) ≤ 67108864
    → GoesOn old new (links.coming new.link) (length (answer_of links old.link m))
