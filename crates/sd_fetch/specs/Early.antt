-- What ends a lookup early, by what a search came to.
use Rattle.std.specs.Prelude.{◌≡◌, ℕ, ◌⊎◌, List, [], Result, Ok, Err}
use Rattle.sd_base.specs.declared.Why.{Why}
use Rattle.sd_base.specs.declared.Why.TheVariants as whys
use Rattle.sd_ldap.specs.declared.entry.DirEntry.{DirEntry}
use Rattle.sd_dial.specs.declared.searched.Searched.{Searched}
use Rattle.sd_dial.specs.declared.searched.Searched.TheVariants as searches
use Rattle.sd_fetch.specs.declared.finding.Early.{Early}
use Rattle.sd_fetch.specs.declared.finding.Early.TheVariants as earlies
use Rattle.sd_ldap.specs.Values.{SearchValue}
use Rattle.sd_client.specs.Talk.{Talk}
use Rattle.sd_fetch.specs.Exchanging.{Telling, Exchange, Went, IsOfServer, IsRefusal}

-- a failure is handed on, or is by a code
abbrev pub FailsBy : Why → Searched → Type 0
FailsBy why searched = (searched ≡ searches.Failed why) ⊎ ((code : ℕ) × (why ≡ whys.Code code) × IsOfServer code × (searched ≡ searches.Code code))

abbrev pub EndsEarly : Early → Searched → Type 0
EndsEarly (earlies.Refused code) searched = IsRefusal code × (searched ≡ searches.Code code)
EndsEarly (earlies.Failed why) searched = FailsBy why searched
EndsEarly earlies.Memory searched = Unit {0}

abbrev pub Finds : Result (List DirEntry) Early → Searched → Type 0
Finds (Ok given) (searches.Entries entries) = given ≡ entries
Finds (Ok given) (searches.Code code) = (code ≡ 32) × (given ≡ [])
Finds (Ok given) (searches.Failed why) = ⊥
Finds (Ok given) searches.Memory = ⊥
Finds (Err early) searched = EndsEarly early searched

-- a search, what it came to, and what a lookup makes of that
pub record Asked {L : Type 0} (t : Telling L) (old : Talk L) (search : SearchValue) (result : Result (List DirEntry) Early) (new : Talk L) : Type 0 where
  pub searched : Searched
  pub went : Went t old (record { search = search; searched = searched }) new
  pub finds : Finds result searched

-- the same, or memory was wanting before the search
abbrev pub Tried : {L : Type 0} → Telling L → Talk L → SearchValue → Result (List DirEntry) Early → Talk L → Type 0
Tried t old search result new = Asked t old search result new ⊎ ((result ≡ Err earlies.Memory) × (new ≡ old))
