-- What contracts see of a client, and what its calls say.
use Rattle.std.specs.Prelude.{◌≡◌, ◌≢◌, ℕ, List, [], ◌∷◌, Some, None}
use Rattle.std.specs.declared.option.Option.{Option}
use Rattle.sd_base.specs.declared.Why.{Why}
use Rattle.sd_base.specs.declared.Why.TheVariants as whys
use Rattle.sd_rules.specs.declared.tasks.Bound.{Bound}
use Rattle.sd_rules.specs.declared.tasks.Bound.TheVariants as bounds
use Rattle.sd_ldap.specs.Values.{SearchValue, MessageValue, search, bind_request, unbind}
use Rattle.sd_dial.specs.declared.searched.Searched.{Searched}
use Rattle.sd_dial.specs.declared.searched.Searched.TheVariants as searches
use Rattle.sd_client.specs.Deciding.{Decision, undecided, ended, failed}
use Rattle.sd_client.specs.Replying.{request_message, IsFailure}
use Rattle.sd_ldap.specs.declared.entry.DirEntry.{DirEntry}

-- a client's link, all bytes received over it, the place where reading goes on, the id of the next request,
-- and why the client has failed
pub record Talk (L : Type 0) : Type 0 where
  pub link : L
  pub received : List ℕ
  pub at : ℕ
  pub next : ℕ
  pub failed : Option Why

-- the messages that a client sends
abbrev pub search_message : ℕ → SearchValue → MessageValue
search_message id s = request_message id (search s)

abbrev pub bind_message : ℕ → List ℕ → List ℕ → MessageValue
bind_message id dn password = request_message id (bind_request 3 dn password)

abbrev pub unbind_message : ℕ → MessageValue
unbind_message id = request_message id unbind

-- a decision but for the entries
abbrev pub without_entries : Decision → Decision
without_entries undecided = undecided
without_entries (ended found code at) = ended [] code at
without_entries (failed why) = failed why

-- Entries come exactly for code 0, as the bytes decide; another code as they decide; a failure is by its cause.
abbrev pub IsSearched : Searched → Decision → ℕ → Type 0 → Type 0
IsSearched (searches.Entries found) decision at rose = decision ≡ ended found 0 at
IsSearched (searches.Code code) decision at rose = (code ≢ 0) × (without_entries decision ≡ ended [] code at)
IsSearched (searches.Failed why) decision at rose = IsFailure why decision rose
IsSearched searches.Memory decision at rose = Unit {0}

abbrev pub IsBound : Bound → Decision → ℕ → Type 0 → Type 0
IsBound (bounds.Code code) decision at rose = without_entries decision ≡ ended [] code at
IsBound (bounds.Failed why) decision at rose = IsFailure why decision rose
IsBound bounds.Memory decision at rose = Unit {0}

-- the request was not sent: the link failed, or memory was wanting
abbrev pub IsUnsearched : Searched → Type 0 → Type 0
IsUnsearched (searches.Entries found) rose = ⊥
IsUnsearched (searches.Code code) rose = ⊥
IsUnsearched (searches.Failed why) rose = (why ≡ whys.Link) × rose
IsUnsearched searches.Memory rose = Unit {0}

abbrev pub IsUnbound : Bound → Type 0 → Type 0
IsUnbound (bounds.Code code) rose = ⊥
IsUnbound (bounds.Failed why) rose = (why ≡ whys.Link) × rose
IsUnbound bounds.Memory rose = Unit {0}

-- why a client has failed after a search, and after a bind
abbrev pub failure_by_search : Searched → Option Why
failure_by_search (searches.Entries found) = None
failure_by_search (searches.Code code) = None
failure_by_search (searches.Failed why) = Some why
failure_by_search searches.Memory = None

abbrev pub failure_by_bind : Bound → Option Why
failure_by_bind (bounds.Code code) = None
failure_by_bind (bounds.Failed why) = Some why
failure_by_bind bounds.Memory = None

-- reading goes on where it was, unless a reply ended
abbrev pub IsPlacedBySearch : Searched → ℕ → ℕ → Type 0
IsPlacedBySearch (searches.Entries found) old new = Unit {0}
IsPlacedBySearch (searches.Code code) old new = Unit {0}
IsPlacedBySearch (searches.Failed why) old new = new ≡ old
IsPlacedBySearch searches.Memory old new = new ≡ old

abbrev pub IsPlacedByBind : Bound → ℕ → ℕ → Type 0
IsPlacedByBind (bounds.Code code) old new = Unit {0}
IsPlacedByBind (bounds.Failed why) old new = new ≡ old
IsPlacedByBind bounds.Memory old new = new ≡ old
