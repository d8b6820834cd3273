-- What is known while a link is served.
use Rattle.std.specs.Prelude.{◌≡◌, ℕ, ◌+◌, ◌<◌, ◌≤◌, true, false, List, [], ◌++◌, length, drop, max}
use Rattle.std.specs.declared.option.Option.{Option}
use Rattle.std.specs.Io.KnownBytes.{Appends, Consumes, IsAtEnd}
use Rattle.sd_base.specs.Written.{AppendsFront}
use Rattle.sd_ldap.specs.declared.entry.DirEntry.{DirEntry}
use Rattle.sd_ldap.specs.Values.{MessageValue}
use Rattle.sd_ldap.specs.MessageReading.{DecodedValue, whole, unfinished, wrong, decode_of}
use Rattle.sd_match.specs.Answering.{reply_bytes}
use Rattle.sd_stub.specs.declared.stepping.Stop.{Stop}
use Rattle.sd_stub.specs.declared.stepping.Stop.TheVariants as stops
use Rattle.sd_stub.specs.declared.stepping.Front.{Front}
use Rattle.sd_stub.specs.declared.stepping.Front.TheVariants.{Passed, Stopped}
use Rattle.sd_stub.specs.declared.ending.LinkEnd.{LinkEnd}
use Rattle.sd_stub.specs.declared.ending.LinkEnd.TheVariants as ends
use Rattle.sd_stub.specs.Saying.{Said, is_unbind, said_from, answers}

-- some messages, and then what else is said
abbrev pub after : List MessageValue → Said → Said
after done rest = record { messages = done ++ rest.messages; ending = rest.ending }

-- Why answering stops at what stands in front, and what was written then. Only a message is answered, and only its
-- answer can be written in part.
abbrev pub Stops : List DirEntry → Stop → DecodedValue → Option (List ℕ) → Option (List ℕ) → Type 0 → Type 0
Stops entries stops.Waits unfinished held held' writes = held' ≡ held
Stops entries stops.Waits (whole m used) held held' writes = ⊥
Stops entries stops.Waits (wrong at) held held' writes = ⊥
Stops entries stops.Unbound (whole m used) held held' writes = (is_unbind m.operation ≡ true) × (held' ≡ held)
Stops entries stops.Unbound unfinished held held' writes = ⊥
Stops entries stops.Unbound (wrong at) held held' writes = ⊥
Stops entries (stops.Bad place) (wrong at) held held' writes = (at ≡ place) × (held' ≡ held)
Stops entries (stops.Bad place) unfinished held held' writes = ⊥
Stops entries (stops.Bad place) (whole m used) held held' writes = ⊥
Stops entries stops.WriteFault (whole m used) held held' writes = (is_unbind m.operation ≡ false) × writes × AppendsFront held held' (reply_bytes entries m)
Stops entries stops.WriteFault unfinished held held' writes = ⊥
Stops entries stops.WriteFault (wrong at) held held' writes = ⊥
Stops entries stops.Memory d held held' writes = held' ≡ held

-- a message in front was answered
abbrev pub IsPassed : List DirEntry → ℕ → DecodedValue → Option (List ℕ) → Option (List ℕ) → Type 0
IsPassed entries used (whole m count) held held' = (count ≡ used) × (is_unbind m.operation ≡ false) × Appends held held' (reply_bytes entries m)
IsPassed entries used unfinished held held' = ⊥
IsPassed entries used (wrong at) held held' = ⊥

abbrev pub Goes : List DirEntry → Front → DecodedValue → Option (List ℕ) → Option (List ℕ) → Type 0 → Type 0
Goes entries (Passed used) d held held' writes = IsPassed entries used d held held'
Goes entries (Stopped stop) d held held' writes = Stops entries stop d held held' writes

-- so many bytes in front are messages that were answered, whatever follows the bytes
pub record Passes (entries : List DirEntry) (bytes : List ℕ) (used : ℕ) (held held' : Option (List ℕ)) : Type 0 where
  pub done : List MessageValue
  pub says : (place : ℕ) (more : List ℕ) → said_from place 0 (bytes ++ more) ≡ after done (said_from (place + used) 0 (drop used bytes ++ more))
  pub written : Appends held held' (answers entries done)
  pub within : used ≤ length bytes

-- and behind them answering stopped
pub record PassesTo (entries : List DirEntry) (bytes : List ℕ) (used : ℕ) (stop : Stop) (held held' : Option (List ℕ)) (writes : Type 0) : Type 0 where
  pub between : Option (List ℕ)
  pub passes : Passes entries bytes used held between
  pub stops : Stops entries stop (decode_of (drop used bytes)) between held' writes

-- Where a link stands: the bytes taken say the messages that were answered, and then what the unread bytes say,
-- which begin at a place of the input.
pub record Stands (entries : List DirEntry) (left left' held held' : Option (List ℕ)) (place : ℕ) (unread : List ℕ) : Type 0 where
  pub taken : List ℕ
  pub done : List MessageValue
  pub consumed : Consumes left left' taken
  pub says : (more : List ℕ) → said_from 0 0 (taken ++ more) ≡ after done (said_from place 0 (unread ++ more))
  pub written : Appends held held' (answers entries done)
  pub counted : length taken ≡ place + length unread

-- bytes are wrong at a place of the input, unless its number is wanting
abbrev pub IsBadAt : LinkEnd → ℕ → Type 0
IsBadAt (ends.Bad at) place = at ≡ place
IsBadAt ends.Memory place = Unit {0}
IsBadAt ends.Closed place = ⊥
IsBadAt ends.Unbound place = ⊥
IsBadAt ends.Cut place = ⊥
IsBadAt (ends.Long count) place = ⊥
IsBadAt ends.ReadFault place = ⊥
IsBadAt ends.WriteFault place = ⊥
