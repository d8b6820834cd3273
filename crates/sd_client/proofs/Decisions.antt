-- What all bytes received decide, by what reading them came to.
use Rattle.std.proofs.Common.{◌≡◌, ℕ, ◌+◌, ◌<◌, ◌≤◌, true, false, ltb, List, [], ◌∷◌, ◌++◌, length, take, drop, refl, sym, ap, ◌∙◌, append-nil, append_assoc, arith, subst, Result, Ok, Err}
use Rattle.std.proofs.lemmas.Bool.{le-ltb, lt-ltb}
use Rattle.std.proofs.lemmas.List.{take_all, take_at}
use Rattle.sd_base.specs.declared.Why.{Why}
use Rattle.sd_base.specs.declared.Why.TheVariants as whys
use Rattle.sd_ldap.specs.declared.entry.DirEntry.{DirEntry}
use Rattle.sd_ldap.specs.MessageReading.{unfinished, decode_of}
use Rattle.sd_client.specs.declared.step.Request.{Request}
use Rattle.sd_client.specs.declared.reading.Read.{Read}
use Rattle.sd_client.specs.declared.reading.Read.TheVariants as reads
use Rattle.sd_base.specs.Causes.{Rose}
use Rattle.sd_client.specs.Waiting.{IsByBytes}
use Rattle.sd_client.specs.Reading.{IsRead}
use Rattle.sd_client.specs.Deciding.{Decision, undecided, ended, failed, reply_at, flooded, decided}
use Rattle.sd_base.specs.declared.Memory.{Memory}
use Rattle.sd_client.specs.declared.exchange.Reply.{Reply}
use Rattle.sd_client.specs.declared.exchange.Reply.TheVariants as replies
use Rattle.sd_client.specs.Replying.{IsFailure, IsReply}
use Rattle.sd_client.proofs.Replies.{waits_at}

flooded_within : (count : ℕ) (d : Decision) → count ≤ 67108864 → flooded count d ≡ d
flooded_within count undecided few = let test : ltb 67108864 count ≡ false = le-ltb 67108864 count few in rw test refl
flooded_within count (ended found code at) few = refl
flooded_within count (failed why) few = refl

-- within the limit all bytes are read
pub decided_within : (request : Request) (id at : ℕ) (received : List ℕ) → length received ≤ 67108864 → decided request id at received ≡ reply_at request id [] at received
decided_within request id at received few =
    let all : take 67108864 received ≡ received = take_all 67108864 received few in
    ap (λ (bytes : List ℕ). flooded (length received) (reply_at request id [] at bytes)) all ∙ flooded_within (length received) (reply_at request id [] at received) few

-- one more than the limit is a flood, where those within it decide nothing
pub decided_flood : (request : Request) (id at : ℕ) (old new more : List ℕ) → length old ≡ 67108864 → new ≡ old ++ more → 67108864 < length new → reply_at request id [] at old ≡ undecided
    → decided request id at new ≡ failed (whys.Flood 67108865)
decided_flood request id at old new more full grown many none =
    let front : take 67108864 new ≡ old = ap (take 67108864) grown ∙ take_at old more 67108864 full in
    let test : ltb 67108864 (length new) ≡ true = lt-ltb 67108864 (length new) many in
    ap (λ (bytes : List ℕ). flooded (length new) (reply_at request id [] at bytes)) front
    ∙ ap (λ (d : Decision). flooded (length new) d) none
    ∙ rw test refl

-- what holds with any bytes behind holds with none
pub with_none : (bytes : List ℕ) (f g : List ℕ → Decision) → ((more : List ℕ) → f (bytes ++ more) ≡ g (bytes ++ more)) → f bytes ≡ g bytes
with_none bytes f g same = ap f (sym (append-nil bytes)) ∙ same [] ∙ ap g (append-nil bytes)

-- and with more bytes there
pub with_more : (old new gained : List ℕ) (f g : List ℕ → Decision) → new ≡ old ++ gained → ((more : List ℕ) → f (old ++ more) ≡ g (old ++ more)) → (more : List ℕ) → f (new ++ more) ≡ g (new ++ more)
with_more old new gained f g grown same more =
    let joined : new ++ more ≡ old ++ (gained ++ more) = ap (λ (bytes : List ℕ). bytes ++ more) grown ∙ append_assoc old gained more in
    ap f joined ∙ same (gained ++ more) ∙ ap g (sym joined)

-- a failure that bytes can be is by them
pub failure_by_bytes : (why : Why) (d : Decision) (rose : Type 0) → IsByBytes why → d ≡ failed why → IsFailure why d rose
failure_by_bytes (whys.Bytes at) d rose h e = e
failure_by_bytes (whys.Message tag) d rose h e = e
failure_by_bytes whys.Link d rose h e = absurd h
failure_by_bytes (whys.Code code) d rose h e = absurd h
failure_by_bytes (whys.Flood count) d rose h e = absurd h

-- what reading says of the bytes as they are
read_here : (request : Request) (id at at' : ℕ) (first found : List DirEntry) (buffer bytes : List ℕ) (read other : Read) → bytes ≡ buffer → read ≡ other
    → ((more : List ℕ) → IsRead read found at' (reply_at request id first at (bytes ++ more)) (reply_at request id found at' (bytes ++ more)))
    → IsRead other found at' (reply_at request id first at buffer) (reply_at request id found at' buffer)
read_here request id at at' first found buffer bytes read other e1 e2 h =
    let same : bytes ++ [] ≡ buffer = append-nil bytes ∙ e1 in
    let here = subst (λ (list : List ℕ). IsRead read found at' (reply_at request id first at list) (reply_at request id found at' list)) same (h []) in
    subst (λ (x : Read). IsRead x found at' (reply_at request id first at buffer) (reply_at request id found at' buffer)) e2 here

-- the reply ended
pub ended_by_read : (request : Request) (id start at at' code : ℕ) (first found : List DirEntry) (buffer bytes : List ℕ) (read : Read) → bytes ≡ buffer → read ≡ reads.Ended code → length buffer ≤ 67108864
    → ((more : List ℕ) → reply_at request id [] start (buffer ++ more) ≡ reply_at request id first at (buffer ++ more))
    → ((more : List ℕ) → IsRead read found at' (reply_at request id first at (bytes ++ more)) (reply_at request id found at' (bytes ++ more)))
    → decided request id start buffer ≡ ended found code at'
ended_by_read request id start at at' code first found buffer bytes read e1 e2 few same h =
    decided_within request id start buffer few
    ∙ with_none buffer (λ list. reply_at request id [] start list) (λ list. reply_at request id first at list) same
    ∙ read_here request id at at' first found buffer bytes read (reads.Ended code) e1 e2 h

-- the bytes are a failure
pub failed_by_read : (request : Request) (id start at at' : ℕ) (why : Why) (first found : List DirEntry) (buffer bytes : List ℕ) (read : Read) (rose : Type 0) → bytes ≡ buffer → read ≡ reads.Failed why → length buffer ≤ 67108864
    → ((more : List ℕ) → reply_at request id [] start (buffer ++ more) ≡ reply_at request id first at (buffer ++ more))
    → ((more : List ℕ) → IsRead read found at' (reply_at request id first at (bytes ++ more)) (reply_at request id found at' (bytes ++ more)))
    → IsFailure why (decided request id start buffer) rose
failed_by_read request id start at at' why first found buffer bytes read rose e1 e2 few same h =
    let here = read_here request id at at' first found buffer bytes read (reads.Failed why) e1 e2 h in
    failure_by_bytes why (decided request id start buffer) rose here.1
    (decided_within request id start buffer few
    ∙ with_none buffer (λ list. reply_at request id [] start list) (λ list. reply_at request id first at list) same
    ∙ here.0)

-- nothing is decided yet
pub undecided_by_read : (request : Request) (id start at at' : ℕ) (first found : List DirEntry) (buffer bytes : List ℕ) (read : Read) → bytes ≡ buffer → read ≡ reads.Waits
    → ((more : List ℕ) → reply_at request id [] start (buffer ++ more) ≡ reply_at request id first at (buffer ++ more))
    → ((more : List ℕ) → IsRead read found at' (reply_at request id first at (bytes ++ more)) (reply_at request id found at' (bytes ++ more)))
    → decode_of (drop at' bytes) ≡ unfinished
    → reply_at request id [] start buffer ≡ undecided
undecided_by_read request id start at at' first found buffer bytes read e1 e2 same h none =
    let there : decode_of (drop at' buffer) ≡ unfinished = subst (λ (list : List ℕ). decode_of (drop at' list) ≡ unfinished) e1 none in
    with_none buffer (λ list. reply_at request id [] start list) (λ list. reply_at request id first at list) same
    ∙ read_here request id at at' first found buffer bytes read reads.Waits e1 e2 h
    ∙ waits_at request id found at' buffer there

-- a count that rose since, rose from before
pub rose_earlier : (a b c : ℕ) → a ≤ b → Rose b c → Rose a c
rose_earlier a b c before rose = omega arith

failure_earlier : (why : Why) (d : Decision) (P Q : Type 0) → (P → Q) → IsFailure why d P → IsFailure why d Q
failure_earlier whys.Link d P Q f h = (f h.0, h.1)
failure_earlier (whys.Bytes at) d P Q f h = h
failure_earlier (whys.Message tag) d P Q f h = h
failure_earlier (whys.Flood count) d P Q f h = h
failure_earlier (whys.Code code) d P Q f h = h

-- a reply whose failure is by a rise is so by every rise that follows from it
pub reply_earlier : (reply : Result Reply Memory) (d : Decision) (at : ℕ) (P Q : Type 0) → (P → Q) → IsReply reply d at P → IsReply reply d at Q
reply_earlier (Ok (replies.Ended found code)) d at P Q f h = h
reply_earlier (Ok (replies.Failed why)) d at P Q f h = failure_earlier why d P Q f h
reply_earlier (Err memory) d at P Q f h = tt
