-- How a tool ends: its status and what it writes.
use Rattle.std.specs.Prelude.{◌≡◌, ◌≢◌, ◌⊎◌, ◌++◌, ℕ, codes, true, List, [], Option, Some, None, Result, Err}
use Rattle.std.specs.Fmt.{decimal}
use Rattle.sd_tools.specs.Queries.{first_line}
use Rattle.sd_tools.specs.declared.endings.TheConstants.{DONE, USAGE, READ_FAULT, WRITE_FAULT, NO_MEMORY, TOO_LONG, NO_DAEMON, BAD_REPLY}
use Rattle.sd_tools.specs.declared.links.TalkFault.{TalkFault}
use Rattle.sd_tools.specs.declared.links.TalkFault.TheVariants as faults
use Rattle.sd_tools.specs.declared.queries.Query.{Query}
use Rattle.sd_tools.specs.declared.queries.Query.TheVariants as queries
use Rattle.sd_wire.specs.Frames.{is_sound}
use Rattle.sd_wire.specs.declared.requests.Request.{Request}
use Rattle.sd_wire.specs.declared.requests.Request.TheVariants as requests

abbrev pub usage : List ℕ
usage = codes "usage\n"

abbrev pub too_long : List ℕ
too_long = codes "too long\n"

-- at the line of this number, counted from 1, which has no form
abbrev pub bad_line : ℕ → List ℕ
bad_line n = codes "bad line " ++ (decimal n ++ codes "\n")

abbrev pub no_daemon : List ℕ
no_daemon = codes "no daemon\n"

abbrev pub bad_reply : List ℕ
bad_reply = codes "bad reply\n"

-- what is written behind the texts of the replies
abbrev pub ending_of : Result (Unit {0}) TalkFault → List ℕ
ending_of (Err faults.Link) = no_daemon
ending_of (Err faults.BadReply) = bad_reply
ending_of _ = []

-- the statuses of a talk over a link
abbrev pub IsTalkStatus : ℕ → Type 0
IsTalkStatus status = (status ≡ DONE) ⊎ ((status ≡ WRITE_FAULT) ⊎ ((status ≡ NO_MEMORY) ⊎ ((status ≡ NO_DAEMON) ⊎ (status ≡ BAD_REPLY))))

abbrev pub IsStatusOfCache : ℕ → Type 0
IsStatusOfCache status = (status ≡ USAGE) ⊎ IsTalkStatus status

abbrev pub IsAskStatus : ℕ → Type 0
IsAskStatus status = (status ≡ READ_FAULT) ⊎ ((status ≡ TOO_LONG) ⊎ IsTalkStatus status)

abbrev pub IsStatusOfQuery : ℕ → Type 0
IsStatusOfQuery status = (status ≡ USAGE) ⊎ IsAskStatus status

-- a fact of the request of a query, by the first line of the input where it needs a password and the source tells it
abbrev pub OfQuery : Query → Option (List ℕ) → (Request → Type 0) → Type 0
OfQuery (queries.Asked request) input P = P request
OfQuery (queries.Login user) None P = Unit {0}
OfQuery (queries.Login user) (Some input) P = P (requests.Login user (first_line input))

-- the same by the query of words, where they have a form
abbrev pub OfWords : Option Query → Option (List ℕ) → (Request → Type 0) → Type 0
OfWords None input P = Unit {0}
OfWords (Some query) input P = OfQuery query input P

-- a fact of the requests of options, where the words have a form
abbrev pub OfOptions : Option (List Request) → (List Request → Type 0) → Type 0
OfOptions None P = Unit {0}
OfOptions (Some requests) P = P requests

-- the request is within its limits, unless the status is that of a fault of the sink or of want of memory
abbrev pub IsSoundUnlessFailed : ℕ → Request → Type 0
IsSoundUnlessFailed status request = status ≢ WRITE_FAULT → status ≢ NO_MEMORY → is_sound request ≡ true
