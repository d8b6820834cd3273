-- The searcher of nested groups over a client: what it tells, and what its questions make of it.
use Rattle.std.specs.Prelude.{◌≡◌, ◌≢◌, ℕ, Bool, true, false, ◌⊎◌, List, [], ◌∷◌, ◌++◌, map, Option, Some, None, Result, Ok, Err}
use Rattle.sd_ldap.specs.declared.entry.DirEntry.{DirEntry}
use Rattle.sd_ldap.specs.Values.{SearchValue}
use Rattle.sd_dial.specs.Entries.{Behind}
use Rattle.sd_dial.specs.declared.searched.Searched.TheVariants as searches
use Rattle.sd_client.specs.Talk.{Talk}
use Rattle.sd_nested.specs.Searches.{Question, entry_at, holders_of, read_search, holder_search}
use Rattle.sd_nested.specs.Searches as nested
use Rattle.sd_base.specs.declared.Why.TheVariants as whys
use Rattle.sd_nested.specs.declared.searcher.Stop.{Stop}
use Rattle.sd_nested.specs.declared.searcher.Stop.TheVariants as stops
use Rattle.sd_fetch.specs.declared.finding.Early.{Early}
use Rattle.sd_fetch.specs.declared.finding.Early.TheVariants as earlies
use Rattle.sd_fetch.specs.Exchanging.{Telling, Exchange, Went, Goes, AllGave, IsLast, IsRefusal, FailedBy, IsOfServer, IsQuiet, is_stop}

-- the search for a question
abbrev pub search_for : List ℕ → Question → SearchValue
search_for base (entry_at dn) = read_search dn
search_for base (holders_of dn) = holder_search base dn

abbrev pub exchange_of : List ℕ → nested.Exchange → Exchange
exchange_of base x = record { search = search_for base x.question; searched = x.searched }

-- the searches of the same exchanges
abbrev pub exchanges_of : List ℕ → List nested.Exchange → List Exchange
exchanges_of base xs = map (exchange_of base) xs

-- It tells the entries of the directory behind the link, while the client is settled; when it has stopped it
-- asks no more.
pub record Tells {L : Type 0} (t : Telling L) (talk : Talk L) (is_stopped : Bool) (told : List DirEntry) : Type 0 where
  pub behind : Behind
  pub is_told : t.behind talk.link ≡ Some behind
  pub entries : behind.entries ≡ told
  pub quiet : is_stopped ≡ false → IsQuiet t talk

-- Nothing was asked, for want of memory or since it had stopped.
pub record IsUnasked {L : Type 0} (old : Talk L) (x : nested.Exchange) (new : Talk L) (is_stopped : Bool) : Type 0 where
  pub stopped : is_stopped ≡ true
  pub memory : x.searched ≡ searches.Memory
  pub same : new ≡ old

-- It was asked by a search.
pub record IsAsked {L : Type 0} (t : Telling L) (base : List ℕ) (old : Talk L) (was_stopped : Bool) (x : nested.Exchange) (new : Talk L) (is_stopped : Bool) : Type 0 where
  pub going : was_stopped ≡ false
  pub went : Went t old (exchange_of base x) new
  pub stops : is_stopped ≡ is_stop x.searched

abbrev pub WentOn : {L : Type 0} → Telling L → List ℕ → Talk L → Bool → nested.Exchange → Talk L → Bool → Type 0
WentOn t base old was_stopped x new is_stopped = IsUnasked old x new is_stopped ⊎ IsAsked t base old was_stopped x new is_stopped

-- how rounds ended: by entries alone, or by what the last exchange came to
abbrev pub EndsIn : Option Early → List Exchange → Type 0
EndsIn None exchanges = AllGave exchanges
EndsIn (Some (earlies.Refused code)) exchanges = IsRefusal code × IsLast (searches.Code code) exchanges
EndsIn (Some (earlies.Failed why)) exchanges = FailedBy why exchanges
EndsIn (Some earlies.Memory) exchanges = Unit {0}

-- all that was due was searched, or a front of it
abbrev pub SearchedOf : Option Early → List SearchValue → List SearchValue → Type 0
SearchedOf None searched due = searched ≡ due
SearchedOf (Some (earlies.Refused code)) searched due = (rest : List SearchValue) × (searched ++ rest ≡ due)
SearchedOf (Some (earlies.Failed why)) searched due = (rest : List SearchValue) × (searched ++ rest ≡ due)
SearchedOf (Some earlies.Memory) searched due = Unit {0}

abbrev pub searches_in : List Exchange → List SearchValue
searches_in exchanges = map (λ (x : Exchange). x.search) exchanges

-- each search is that of a question
abbrev pub AreQuestions : List ℕ → List Exchange → Type 0
AreQuestions base [] = Unit {0}
AreQuestions base (x ∷ xs) = ((question : Question) × (x.search ≡ search_for base question)) × AreQuestions base xs

-- What rounds searched over a client, from a base. Where the link tells the directory behind it, and the client
-- is settled, the searches are those due.
pub record Rounded {L : Type 0} (t : Telling L) (base : List ℕ) (old new : Talk L) (early : Option Early) (due : List DirEntry → List Question) : Type 0 where
  pub exchanges : List Exchange
  pub in_order : Goes t old exchanges new
  pub ends : EndsIn early exchanges
  pub asked : AreQuestions base exchanges
  pub searched : (b : Behind) → t.behind old.link ≡ Some b → IsQuiet t old → SearchedOf early (searches_in exchanges) (map (search_for base) (due b.entries))

abbrev pub early_of : {A : Type 0} → Result A Early → Option Early
early_of (Ok x) = None
early_of (Err early) = Some early

-- Why rounds stopped, as what ends a lookup: a code of a busy or unavailable server is a failure.
abbrev pub IsEarly : Stop → Early → Type 0
IsEarly (stops.Code code) (earlies.Refused refused) = (refused ≡ code) × (code ≢ 51) × (code ≢ 52)
IsEarly (stops.Code code) (earlies.Failed why) = (why ≡ whys.Code code) × IsOfServer code
IsEarly (stops.Code code) earlies.Memory = ⊥
IsEarly (stops.Failed why) early = early ≡ earlies.Failed why
IsEarly stops.Memory early = early ≡ earlies.Memory
