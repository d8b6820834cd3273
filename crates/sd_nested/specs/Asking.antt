-- Questions asked one after the other.
use Rattle.std.specs.Prelude.{◌≡◌, ◌≢◌, List, [], ◌∷◌, ◌++◌, map, Option, Some, None, Result, Ok, Err, IfSome}
use Rattle.sd_ldap.specs.declared.entry.DirEntry.{DirEntry}
use Rattle.sd_dial.specs.declared.searched.Searched.{Searched}
use Rattle.sd_dial.specs.declared.searched.Searched.TheVariants as searches
use Rattle.sd_nested.specs.declared.searcher.Stop.{Stop}
use Rattle.sd_nested.specs.declared.searcher.Stop.TheVariants as stops
use Rattle.sd_nested.specs.Searches.{Question, Exchange}

-- the exchanges lead from one searcher to another, in order
abbrev pub Goes : {S : Type 0} → (S → Exchange → S → Type 0) → S → List Exchange → S → Type 0
Goes went before [] after = before ≡ after
Goes {S} went before (x ∷ xs) after = (between : S) × went before x between × Goes went between xs after

-- it came to entries, or to code 32, which counts as none
abbrev pub GaveEntries : Searched → Type 0
GaveEntries (searches.Entries given) = Unit {0}
GaveEntries (searches.Code code) = code ≡ 32
GaveEntries (searches.Failed why) = ⊥
GaveEntries searches.Memory = ⊥

abbrev pub AllGave : List Exchange → Type 0
AllGave [] = Unit {0}
AllGave (x ∷ xs) = GaveEntries x.searched × AllGave xs

-- the last exchange came to this, and those before it to entries
pub record IsLast (searched : Searched) (exchanges : List Exchange) : Type 0 where
  pub before : List Exchange
  pub question : Question
  pub are : exchanges ≡ before ++ record { question = question; searched = searched } ∷ []
  pub gave : AllGave before

-- How the exchanges ended: all came to entries, or the last came to what the stop carries. A code is neither
-- 0 nor 32. Memory may be wanting at any point.
abbrev pub EndsBy : Option Stop → List Exchange → Type 0
EndsBy None exchanges = AllGave exchanges
EndsBy (Some (stops.Code code)) exchanges = (code ≢ 0) × (code ≢ 32) × IsLast (searches.Code code) exchanges
EndsBy (Some (stops.Failed why)) exchanges = IsLast (searches.Failed why) exchanges
EndsBy (Some stops.Memory) exchanges = Unit {0}

-- all that was due was asked, or after a stop a front of it
abbrev pub AskedOf : Option Stop → List Question → List Question → Type 0
AskedOf None asked due = asked ≡ due
AskedOf (Some stop) asked due = (rest : List Question) × (asked ++ rest ≡ due)

abbrev pub questions : List Exchange → List Question
questions exchanges = map (λ (x : Exchange). x.question) exchanges

-- what a call asked: exchanges in order, how they ended, and that what is known to be due was asked
pub record Exchanged {S : Type 0} (went : S → Exchange → S → Type 0) (before after : S) (stop : Option Stop) (due : Option (List Question)) : Type 0 where
  pub exchanges : List Exchange
  pub in_order : Goes went before exchanges after
  pub ends : EndsBy stop exchanges
  pub asked : IfSome due (λ all. AskedOf stop (questions exchanges) all)

-- the same, where told entries say what was due
pub record ExchangedOver {S : Type 0} (went : S → Exchange → S → Type 0) (before after : S) (stop : Option Stop) (tells : List DirEntry → Type 0) (due : List DirEntry → List Question) : Type 0 where
  pub exchanges : List Exchange
  pub in_order : Goes went before exchanges after
  pub ends : EndsBy stop exchanges
  pub asked : (told : List DirEntry) → tells told → AskedOf stop (questions exchanges) (due told)

abbrev pub stop_of : {X : Type 0} → Result X Stop → Option Stop
stop_of (Ok x) = None
stop_of (Err stop) = Some stop
