-- What a bind comes to over a link that tells the directory behind it.
use Rattle.std.specs.Prelude.{◌≡◌, ℕ, ◌+◌, if◌then◌else◌, List, [], ◌∷◌, ◌++◌, length, Option, Some, None}
use Rattle.sd_base.specs.declared.Why.{Why}
use Rattle.sd_base.specs.declared.Why.TheVariants as whys
use Rattle.sd_rules.specs.declared.tasks.Bound.{Bound}
use Rattle.sd_rules.specs.declared.tasks.Bound.TheVariants as bounds
use Rattle.sd_ldap.specs.declared.entry.DirEntry.{DirEntry}
use Rattle.sd_ldap.specs.Values.{bind_response}
use Rattle.sd_match.specs.Answering.{told, reply, bind_code}
use Rattle.sd_dial.specs.Entries.{Behind}
use Rattle.sd_client.specs.declared.step.Request.TheVariants as requests
use Rattle.sd_client.specs.Deciding.{Decision, ended, decided}
use Rattle.sd_client.specs.Links.{Links, answer_of}
use Rattle.sd_client.specs.Talk.{Talk, bind_message, without_entries}
use Rattle.sd_asking.specs.Sizes.{content_size, is_too_long, total_size, first_limit}
use Rattle.sd_asking.specs.Settled.{GoesOn, IsFailedBy, OverTold}

-- the code, or a failure
pub data ToldBound : Type 0 where
  code : ℕ → ToldBound
  failed : Why → ToldBound

-- how many bytes the contents of the one message of the reply take
abbrev pub reply_sizes : List DirEntry → ℕ → List ℕ → List ℕ → List ℕ
reply_sizes all id name password = content_size (reply id (bind_response (told (bind_code all name password)))) ∷ []

abbrev pub by_limit : Option Why → ToldBound → ToldBound
by_limit (Some why) bound = failed why
by_limit None bound = bound

-- What a bind of an id comes to, where so many bytes were received before. The peer can't read a request that
-- is too long, and nothing comes.
unfoldable pub told_bind : Behind → ℕ → ℕ → List ℕ → List ℕ → ToldBound
told_bind behind count id name password =
    if is_too_long (content_size (bind_message id name password)) then failed whys.Link
    else by_limit (first_limit behind.framing count (reply_sizes behind.entries id name password)) (code (bind_code behind.entries name password))

-- how many bytes the reply takes
unfoldable pub bind_reply_size : Behind → ℕ → List ℕ → List ℕ → ℕ
bind_reply_size behind id name password = total_size behind.framing (reply_sizes behind.entries id name password)

-- ---- what a call gives

-- a failure is the one told, but for one of the link, which may fail at any time
abbrev pub IsToldFailure : Why → ToldBound → Type 0
IsToldFailure whys.Link bound = Unit {0}
IsToldFailure (whys.Bytes at) bound = bound ≡ failed (whys.Bytes at)
IsToldFailure (whys.Message tag) bound = bound ≡ failed (whys.Message tag)
IsToldFailure (whys.Flood count) bound = bound ≡ failed (whys.Flood count)
IsToldFailure (whys.Code result) bound = bound ≡ failed (whys.Code result)

abbrev pub IsToldBind : Bound → ToldBound → Type 0
IsToldBind (bounds.Code result) bound = bound ≡ code result
IsToldBind (bounds.Failed why) bound = IsToldFailure why bound
IsToldBind bounds.Memory bound = Unit {0}

-- a code
abbrev pub HasReply : Bound → Type 0
HasReply (bounds.Code result) = Unit {0}
HasReply (bounds.Failed why) = ⊥
HasReply bounds.Memory = ⊥

-- what all bytes that answer the request decide, and where reading goes on
abbrev pub IsBoundBy : Bound → Decision → ℕ → Option (List ℕ) → Type 0
IsBoundBy (bounds.Code result) decision at coming = without_entries decision ≡ ended [] result at
IsBoundBy (bounds.Failed why) decision at coming = IsFailedBy why decision coming
IsBoundBy bounds.Memory decision at coming = Unit {0}

-- a bind came to what all bytes that answer it decide
abbrev pub IsBoundByAnswer : {L : Type 0} → Links L → Talk L → List ℕ → List ℕ → Bound → Talk L → Type 0
IsBoundByAnswer links old name password result new =
    IsBoundBy result (decided requests.Bind old.next old.at (old.received ++ answer_of links old.link (bind_message old.next name password))) new.at (links.coming new.link)

-- where the directory is told, a bind with a reply leaves the client settled, behind as many bytes as are told
abbrev pub BindGoesOn : {L : Type 0} → Links L → Talk L → List ℕ → List ℕ → Bound → Talk L → Type 0
BindGoesOn links old name password result new =
    OverTold links old (λ behind. HasReply result → GoesOn old new (links.coming new.link) (bind_reply_size behind old.next name password))

-- where the directory is told, a bind that was sent fails with the link and no byte to come only as told
abbrev pub BindEnds : {L : Type 0} → Links L → Talk L → List ℕ → List ℕ → Bound → Talk L → Type 0
BindEnds links old name password result new =
    OverTold links old
    (λ behind. new.next ≡ old.next + 1 → links.coming new.link ≡ Some [] → result ≡ bounds.Failed whys.Link → told_bind behind (length old.received) old.next name password ≡ failed whys.Link)
