-- What a search comes to over a link that tells the directory behind it.
use Rattle.std.specs.Prelude.{◌≡◌, ◌≢◌, ℕ, ◌+◌, ◌==◌, if◌then◌else◌, List, [], ◌++◌, map, length, Option, Some, None}
use Rattle.std.specs.List.{list_any}
use Rattle.sd_base.specs.declared.Why.{Why}
use Rattle.sd_base.specs.declared.Why.TheVariants as whys
use Rattle.sd_ldap.specs.declared.entry.DirEntry.{DirEntry}
use Rattle.sd_ldap.specs.Values.{SearchValue}
use Rattle.sd_match.specs.Matching.{has_unsupported}
use Rattle.sd_match.specs.Answering.{is_at_or_under, found, sent, search_code, search_replies}
use Rattle.sd_dial.specs.Entries.{Behind}
use Rattle.sd_dial.specs.declared.searched.Searched.{Searched}
use Rattle.sd_dial.specs.declared.searched.Searched.TheVariants as searches
use Rattle.sd_client.specs.declared.step.Request.TheVariants as requests
use Rattle.sd_client.specs.Deciding.{Decision, ended, decided}
use Rattle.sd_client.specs.Links.{Links, answer_of}
use Rattle.sd_client.specs.Talk.{Talk, search_message, without_entries}
use Rattle.sd_asking.specs.Sizes.{content_size, is_too_long, total_size, first_limit}
use Rattle.sd_asking.specs.Settled.{GoesOn, IsFailedBy, OverTold}

-- the entries as they were sent, where the code is 0; another code; a failure
pub data ToldReply : Type 0 where
  entries : List DirEntry → ToldReply
  code : ℕ → ToldReply
  failed : Why → ToldReply

-- the entries found, as they are sent
abbrev pub entries_sent : List DirEntry → SearchValue → List DirEntry
entries_sent all s = map (λ (e : DirEntry). sent s e) (found all s)

-- 53 where a part of the filter is not supported, 32 where no entry is at or under the base, 4 where more
-- entries are found than the limit asked for
abbrev pub code_sent : List DirEntry → SearchValue → ℕ
code_sent all s =
    if has_unsupported s.filter then 53
    else if list_any (λ (e : DirEntry). is_at_or_under s.base e) all then search_code s.size (found all s)
    else 32

-- how many bytes the contents of each message of the reply take
abbrev pub reply_sizes : List DirEntry → ℕ → SearchValue → List ℕ
reply_sizes all id s = map content_size (search_replies all id s)

abbrev pub by_code : List DirEntry → ℕ → ToldReply
by_code sent result = if result == 0 then entries sent else code result

abbrev pub by_limit : Option Why → ToldReply → ToldReply
by_limit (Some why) reply = failed why
by_limit None reply = reply

-- What a search of an id comes to, where so many bytes were received before. The peer can't read a request
-- that is too long, and nothing comes; else the first limit decides that a message of the reply meets.
unfoldable pub told_search : Behind → ℕ → ℕ → SearchValue → ToldReply
told_search told count id s =
    if is_too_long (content_size (search_message id s)) then failed whys.Link
    else by_limit (first_limit told.framing count (reply_sizes told.entries id s)) (by_code (entries_sent told.entries s) (code_sent told.entries s))

-- how many bytes the whole reply takes
unfoldable pub search_reply_size : Behind → ℕ → SearchValue → ℕ
search_reply_size told id s = total_size told.framing (reply_sizes told.entries id s)

-- ---- what a call gives

-- a failure is the one told, but for one of the link, which may fail at any time
abbrev pub IsToldFailure : Why → ToldReply → Type 0
IsToldFailure whys.Link reply = Unit {0}
IsToldFailure (whys.Bytes at) reply = reply ≡ failed (whys.Bytes at)
IsToldFailure (whys.Message tag) reply = reply ≡ failed (whys.Message tag)
IsToldFailure (whys.Flood count) reply = reply ≡ failed (whys.Flood count)
IsToldFailure (whys.Code result) reply = reply ≡ failed (whys.Code result)

abbrev pub IsToldSearch : Searched → ToldReply → Type 0
IsToldSearch (searches.Entries found) reply = reply ≡ entries found
IsToldSearch (searches.Code result) reply = reply ≡ code result
IsToldSearch (searches.Failed why) reply = IsToldFailure why reply
IsToldSearch searches.Memory reply = Unit {0}

-- entries or a code
abbrev pub HasReply : Searched → Type 0
HasReply (searches.Entries found) = Unit {0}
HasReply (searches.Code result) = Unit {0}
HasReply (searches.Failed why) = ⊥
HasReply searches.Memory = ⊥

-- what all bytes that answer the request decide, and where reading goes on
abbrev pub IsSearchedBy : Searched → Decision → ℕ → Option (List ℕ) → Type 0
IsSearchedBy (searches.Entries found) decision at coming = decision ≡ ended found 0 at
IsSearchedBy (searches.Code result) decision at coming = (result ≢ 0) × (without_entries decision ≡ ended [] result at)
IsSearchedBy (searches.Failed why) decision at coming = IsFailedBy why decision coming
IsSearchedBy searches.Memory decision at coming = Unit {0}

-- a search came to what all bytes that answer it decide
abbrev pub IsSearchedByAnswer : {L : Type 0} → Links L → Talk L → SearchValue → Searched → Talk L → Type 0
IsSearchedByAnswer links old s result new =
    IsSearchedBy result (decided requests.Search old.next old.at (old.received ++ answer_of links old.link (search_message old.next s))) new.at (links.coming new.link)

-- where the directory is told, a search with a reply leaves the client settled, behind as many bytes as are told
abbrev pub SearchGoesOn : {L : Type 0} → Links L → Talk L → SearchValue → Searched → Talk L → Type 0
SearchGoesOn links old s result new =
    OverTold links old (λ behind. HasReply result → GoesOn old new (links.coming new.link) (search_reply_size behind old.next s))

-- where the directory is told, a search that was sent fails with the link and no byte to come only as told
abbrev pub SearchEnds : {L : Type 0} → Links L → Talk L → SearchValue → Searched → Talk L → Type 0
SearchEnds links old s result new =
    OverTold links old
    (λ behind. new.next ≡ old.next + 1 → links.coming new.link ≡ Some [] → result ≡ searches.Failed whys.Link → told_search behind (length old.received) old.next s ≡ failed whys.Link)
