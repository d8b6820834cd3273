-- What links to directories tell, and what a message makes of one.
use Rattle.std.specs.Prelude.{◌≡◌, ◌⊎◌, ℕ, List, Option}
use Rattle.sd_base.specs.Causes.{Rose}
use Rattle.sd_ldap.specs.Values.{MessageValue}
use Rattle.sd_ldap.specs.Spelling.{message_bytes}
use Rattle.sd_link.specs.Told.{with_piece}
use Rattle.sd_dial.specs.Asked.{with_message}
use Rattle.sd_dial.specs.Entries.{Behind}
use Rattle.sd_client.specs.Replying.{IsUnsent, IsSent}

-- what links of a kind tell and do, which a clause has as L.DirectoryLink
abbrev pub Links : Type 0 → Type 1
Links L = record {
  coming : L → Option (List ℕ);
  sent : L → Option (List (List ℕ));
  received : L → Option (List ℕ);
  answer : L → List ℕ → List ℕ;
  went : L → Option (List ℕ) → L → Type 0;
  faults : L → ℕ;
  refuses : L → Type 0;
  ends : L → Type 0;
  asked : L → Option (List MessageValue);
  behind : L → Option Behind;
}

-- over the link nothing was sent, asked or received, and the bytes held are the same
abbrev pub SendsNothing : {L : Type 0} → Links L → L → L → List ℕ → List ℕ → Type 0
SendsNothing links old new held held' =
    IsUnsent (links.sent old) (links.sent new) (links.asked old) (links.asked new) (links.received old) (links.received new) (links.coming old) (links.coming new) held held'

-- the bytes with which a link answers a message
abbrev pub answer_of : {L : Type 0} → Links L → L → MessageValue → List ℕ
answer_of links link m = links.answer link (message_bytes m)

-- over the link a message was sent as one piece, and bytes came to those held, in front of those to come with the
-- link's answer behind them
abbrev pub Sends : {L : Type 0} → Links L → MessageValue → L → L → List ℕ → List ℕ → Type 0
Sends links m old new held held' =
    IsSent m (answer_of links old m) (links.sent old) (links.sent new) (links.asked old) (links.asked new) (links.received old) (links.received new) (links.coming old) (links.coming new) held held'

-- over the link a message was sent as one piece, or nothing was sent and the link failed
abbrev pub SendsOrFails : {L : Type 0} → Links L → MessageValue → L → L → Type 0
SendsOrFails links m old new =
    ((links.sent new ≡ with_piece (links.sent old) (message_bytes m)) × (links.asked new ≡ with_message (links.asked old) m))
    ⊎ (Rose (links.faults old) (links.faults new) × (links.sent new ≡ links.sent old) × (links.asked new ≡ links.asked old))
