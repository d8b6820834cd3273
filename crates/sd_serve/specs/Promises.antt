-- What each word of the program promises, by what its input, its output and its links tell before and after.
use Rattle.std.specs.Prelude.{◌≡◌, ◌≢◌, ◌⊎◌, ◌≤◌, ◌<◌, ℕ, List, [], ◌∷◌, length, codes, Bool, true, false, IfSome, Some, None}
use Rattle.std.specs.declared.option.Option.{Option}
use Rattle.std.specs.Io.KnownBytes.{Appends}
use Rattle.sd_base.specs.Causes.{Rose}
use Rattle.sd_base.specs.Written.{AppendsFront}
use Rattle.sd_conf.specs.declared.ConfFault.{ConfFault}
use Rattle.sd_idmap.specs.Endings as ids
use Rattle.sd_idmap.specs.Lines as id_lines
use Rattle.sd_idmap.specs.Transcript as id_script
use Rattle.sd_layout.specs.Faults as lines
use Rattle.sd_ldap_server.specs.Listening.{with_address, ListensAtMostOnce}
use Rattle.sd_ldap_server.specs.Refusals as dirs
use Rattle.sd_ldif.specs.declared.LdifFault.{LdifFault}
use Rattle.sd_netgroup.specs.Endings as nets
use Rattle.sd_netgroup.specs.Words.{question_of}
use Rattle.sd_scenario.specs.Endings as ends
use Rattle.sd_server.specs.HostStores as stores
use Rattle.sd_server.specs.Refusals as refusals
use Rattle.sd_server.specs.declared.beginning.TheConstants.{BAD_STORE, DOOR_FAULT, REFUSED, STORE_FAULT}
use Rattle.sd_storm.specs.Lines.{storm_lines}
use Rattle.sd_storm.specs.Endings as storms
use Rattle.sd_sudo.specs.Endings as rules
use Rattle.sd_sudo.specs.Words.{user_asked}
use Rattle.sd_tools.specs.Endings as endings
use Rattle.sd_tools.specs.Options.{requests_of}
use Rattle.sd_tools.specs.Queries.{query_of, needs_password, first_line}
use Rattle.sd_tools.specs.Replies as replies
use Rattle.sd_tools.specs.declared.endings.TheConstants.{DONE, BAD_LINE, READ_FAULT, WRITE_FAULT, NO_MEMORY, TOO_LONG, NO_DAEMON, BAD_REPLY}
use Rattle.sd_wire.specs.Frames.{is_sound}
use Rattle.sd_wire.specs.declared.requests.TheConstants.{LONGEST_PASSWORD}
use Rattle.sd_world.specs.Endings as played
use Rattle.sd_world.specs.Transcript as script
use Rattle.sd_world.specs.declared.endings.TheConstants.{LIMIT, JOURNAL_FULL}

-- a text is printed, and nothing is read
pub record Prints {S W : Type 0} (held : W → Option (List ℕ)) (text : List ℕ) (source source' : S) (sink sink' : W) (status : ℕ) : Type 0 where
  pub status_is : (status ≡ DONE) ⊎ (status ≡ WRITE_FAULT)
  pub printed : status ≡ DONE → Appends (held sink) (held sink') text
  pub front : status ≡ WRITE_FAULT → AppendsFront (held sink) (held sink') text
  pub unread : source' ≡ source

-- `scenario`: the lines of the input are played.
pub record Plays {S W : Type 0} (left : S → Option (List ℕ)) (read_faults : S → ℕ) (held : W → Option (List ℕ)) (write_faults : W → ℕ)
    (source source' : S) (sink sink' : W) (status : ℕ) : Type 0 where
  pub status_is : ends.IsStatus status
  -- the whole input was taken, it is at most 16 MiB, each line has a form, and the whole transcript was written
  pub done : status ≡ DONE → IfSome (left source) (λ text. (left source' ≡ Some []) × (length text ≤ LIMIT) × (lines.first_bad text ≡ None)
      × ((script.transcript text).is_full ≡ false) × Appends (held sink) (held sink') (script.transcript text).text)
  -- line n is the first without a form, and `bad line n` alone was written
  pub bad_line : status ≡ BAD_LINE → IfSome (left source) (λ text. (length text ≤ LIMIT)
      × ((n : ℕ) × (lines.first_bad text ≡ Some n) × Appends (held sink) (held sink') (endings.bad_line n)))
  -- a step of the transcript is refused as full; the transcript was written, whose last line is `journal full n`
  pub journal_full : status ≡ JOURNAL_FULL → IfSome (left source) (λ text. (length text ≤ LIMIT) × (lines.first_bad text ≡ None)
      × ((script.transcript text).is_full ≡ true) × Appends (held sink) (held sink') (script.transcript text).text)
  -- the input passes 16 MiB, and `too long` was written
  pub too_long : status ≡ TOO_LONG → IfSome (left source) (λ text. LIMIT < length text) × Appends (held sink) (held sink') endings.too_long
  -- the sink failed, and a front of the output was written
  pub front : status ≡ WRITE_FAULT → IfSome (left source) (λ text. AppendsFront (held sink) (held sink') (ends.ending_of text).output)
  -- with no fault counted and memory enough, the text decides the status: each cause brings its own
  pub exactly : IfSome (left source) (λ text. ¬ (Rose (read_faults source) (read_faults source')) → ¬ (Rose (write_faults sink) (write_faults sink'))
      → status ≢ NO_MEMORY → status ≡ (ends.ending_of text).status)
  -- lines that all have forms, within 16 MiB, with no fault counted, are done or end by a full journal
  pub complete : IfSome (left source) (λ text. length text ≤ LIMIT → lines.first_bad text ≡ None
      → ¬ (Rose (read_faults source) (read_faults source')) → ¬ (Rose (write_faults sink) (write_faults sink'))
      → status ≢ NO_MEMORY → status ≡ played.status_by_journal (script.transcript text).is_full)

-- `idmap`: the lines of the input are answered.
pub record Numbers {S W : Type 0} (left : S → Option (List ℕ)) (read_faults : S → ℕ) (held : W → Option (List ℕ)) (write_faults : W → ℕ)
    (source source' : S) (sink sink' : W) (status : ℕ) : Type 0 where
  pub status_is : ids.IsStatus status
  -- the whole input was taken, it is at most 16 MiB, each line has a form, and the answers to all were written
  pub done : status ≡ DONE → IfSome (left source) (λ text. (left source' ≡ Some []) × (length text ≤ LIMIT) × (id_lines.first_bad text ≡ None)
      × Appends (held sink) (held sink') (id_script.transcript text))
  -- line n is the first without a form, and `bad line n` alone was written
  pub bad_line : status ≡ BAD_LINE → IfSome (left source) (λ text. (length text ≤ LIMIT)
      × ((n : ℕ) × (id_lines.first_bad text ≡ Some n) × Appends (held sink) (held sink') (endings.bad_line n)))
  -- the input passes 16 MiB, and `too long` was written
  pub too_long : status ≡ TOO_LONG → IfSome (left source) (λ text. LIMIT < length text) × Appends (held sink) (held sink') endings.too_long
  -- the sink failed, and a front of the output was written
  pub front : status ≡ WRITE_FAULT → IfSome (left source) (λ text. AppendsFront (held sink) (held sink') (ids.ending_of text).output)
  -- with no fault counted and memory enough, the text decides the status: each cause brings its own
  pub exactly : IfSome (left source) (λ text. ¬ (Rose (read_faults source) (read_faults source')) → ¬ (Rose (write_faults sink) (write_faults sink'))
      → status ≢ NO_MEMORY → status ≡ (ids.ending_of text).status)
  -- lines that all have forms, within 16 MiB, with no fault counted, are done
  pub complete : IfSome (left source) (λ text. length text ≤ LIMIT → id_lines.first_bad text ≡ None
      → ¬ (Rose (read_faults source) (read_faults source')) → ¬ (Rose (write_faults sink) (write_faults sink'))
      → status ≢ NO_MEMORY → status ≡ DONE)

-- `netgroup` and `innetgr`, by what the host tells of the files at the two paths: a netgroup is sought in the entries of an LDIF.
pub record Nets {H W : Type 0} (text_at : H → List ℕ → Option (List ℕ)) (source_faults : H → ℕ) (held : W → Option (List ℕ)) (words : List (List ℕ))
    (conf ldif : List ℕ) (host host' : H) (sink sink' : W) (status : ℕ) : Type 0 where
  pub status_is : nets.IsStatus status
  -- the triples of the netgroup in the entries of the LDIF read whole were written, or the answer by them
  pub done : status ≡ DONE → nets.OfInputs (question_of words) (text_at host conf) (text_at host ldif)
      (λ q c l. (output : List ℕ) × nets.OfDirectory c l (nets.IsPrinted q output) × Appends (held sink) (held sink') output)
  -- each other ending comes by its cause, and what it writes was written
  pub ends : nets.IsEnding status → nets.OfInputs (question_of words) (text_at host conf) (text_at host ldif)
      (λ q c l. (output : List ℕ) × nets.Ends q c l status output × Appends (held sink) (held sink') output)
  -- the sink failed, and a front of the output was written
  pub front : status ≡ WRITE_FAULT → nets.OfInputs (question_of words) (text_at host conf) (text_at host ldif)
      (λ q c l. (end : ℕ) × (output : List ℕ) × nets.Ends q c l end output × AppendsFront (held sink) (held sink') output)
  -- a file could not be read, and nothing was written
  pub read_fault : status ≡ READ_FAULT → Rose (source_faults host) (source_faults host') × (sink' ≡ sink)

-- `sudo`, likewise: the rules that apply to a user are sought in the entries of an LDIF.
pub record Rules {H W : Type 0} (text_at : H → List ℕ → Option (List ℕ)) (source_faults : H → ℕ) (held : W → Option (List ℕ)) (words : List (List ℕ))
    (conf ldif : List ℕ) (host host' : H) (sink sink' : W) (status : ℕ) : Type 0 where
  pub status_is : rules.IsStatus status
  -- the rules that apply to the user, by the entries of the LDIF read whole, were written
  pub done : status ≡ DONE → rules.OfInputs (user_asked words) (text_at host conf) (text_at host ldif)
      (λ u c l. (output : List ℕ) × rules.OfDirectory c l (rules.ArePrinted u output) × Appends (held sink) (held sink') output)
  -- each other ending comes by its cause, and what it writes was written
  pub ends : rules.IsEnding status → rules.OfInputs (user_asked words) (text_at host conf) (text_at host ldif)
      (λ u c l. (output : List ℕ) × rules.Ends u c l status output × Appends (held sink) (held sink') output)
  -- the sink failed, and a front of the output was written
  pub front : status ≡ WRITE_FAULT → rules.OfInputs (user_asked words) (text_at host conf) (text_at host ldif)
      (λ u c l. (end : ℕ) × (output : List ℕ) × rules.Ends u c l end output × AppendsFront (held sink) (held sink') output)
  -- a file could not be read, and nothing was written
  pub read_fault : status ≡ READ_FAULT → Rose (source_faults host) (source_faults host') × (sink' ≡ sink)

-- `directory`, by what the host tells of the LDIF at a path: its entries are served at an address.
pub record Directories {H N W : Type 0} (text_at : H → List ℕ → Option (List ℕ)) (source_faults : H → ℕ) (listened : N → Option (List (List ℕ)))
    (ended : N → Bool) (door_faults : N → ℕ) (held : W → Option (List ℕ)) (ldif address : List ℕ) (host host' : H) (network network' : N)
    (sink sink' : W) (status : ℕ) : Type 0 where
  pub status_is : dirs.IsStatus status
  -- the doors at the address answered that no connection will come; nothing was written
  pub done : status ≡ DONE → (ended network' ≡ true) × (sink' ≡ sink) × (listened network' ≡ with_address (listened network) address)
  -- the LDIF is within 64 MiB, and was taken, where the address was tried; no other was
  pub taken : (status ≡ DONE) ⊎ (status ≡ DOOR_FAULT) → dirs.IsTaken (text_at host ldif)
  pub once : ListensAtMostOnce address (listened network) (listened network')
  -- the LDIF could not be read, and nothing was written
  pub read_fault : status ≡ READ_FAULT → Rose (source_faults host) (source_faults host') × (sink' ≡ sink) × (network' ≡ network)
  -- it has more than 64 MiB, and `too long` was written; it is refused for a reason, which was written
  pub too_long : status ≡ TOO_LONG → dirs.IsTooLong (text_at host ldif) × (network' ≡ network) × Appends (held sink) (held sink') (codes "too long\n")
  pub refused : status ≡ REFUSED → (fault : LdifFault) × dirs.IsRefused fault (text_at host ldif) × (network' ≡ network)
      × Appends (held sink) (held sink') (dirs.refused fault)
  -- the doors could not be made, or failed, and `door fault` was written
  pub door_fault : status ≡ DOOR_FAULT → Rose (door_faults network) (door_faults network') × Appends (held sink) (held sink') (codes "door fault\n")

-- a load of so many requests, and what is printed of it
pub record Storms {W : Type 0} (held : W → Option (List ℕ)) (requests : ℕ) (sink sink' : W) (status : ℕ) : Type 0 where
  pub status_is : storms.IsStatus status
  -- the four lines of so many requests were written, or a front of them where the sink failed
  pub done : status ≡ DONE → Appends (held sink) (held sink') (storm_lines requests)
  pub front : status ≡ WRITE_FAULT → AppendsFront (held sink) (held sink') (storm_lines requests)

-- `storm`, where its word is a number of requests
abbrev pub Loads : {W : Type 0} → (W → Option (List ℕ)) → Option ℕ → W → W → ℕ → Type 0
Loads held requests sink sink' status = IfSome requests (λ n. Storms held n sink sink' status)

-- `query`, by the words behind its socket: the daemon is asked one thing, over links of which this is told.
pub record Asks {S : Type 0} (left : S → Option (List ℕ)) (rest : List (List ℕ)) (source source' : S) (told told' : replies.Told)
    (held held' : Option (List ℕ)) (status : ℕ) : Type 0 where
  pub status_is : endings.IsAskStatus status
  -- the frame of the words was sent, no other piece, and the text of the reply was printed
  pub done : status ≡ DONE → endings.OfWords (query_of rest) (left source) (λ request. replies.IsDone (request ∷ []) told told' held held')
  -- whatever the status, nothing but the frame of the words was sent
  pub sent : endings.OfWords (query_of rest) (left source) (λ request. replies.IsFrontSent (request ∷ []) told told')
  -- the input was read for the password of a login alone
  pub unread : IfSome (query_of rest) (λ query. needs_password query ≡ false → source' ≡ source)
  -- the source failed: nothing was sent
  pub read_fault : status ≡ READ_FAULT → told' ≡ told
  -- the first line of the input passes 1024 bytes: nothing was sent, and `too long` was written
  pub too_long : status ≡ TOO_LONG → IfSome (query_of rest) (λ query. needs_password query ≡ true)
      × IfSome (left source) (λ input. LONGEST_PASSWORD < length (first_line input)) × (told' ≡ told) × Appends held held' endings.too_long
  -- no daemon answers: that was written
  pub no_daemon : status ≡ NO_DAEMON → Appends held held' endings.no_daemon
  -- what was received begins no reply, and `bad reply` was written
  pub bad_reply : status ≡ BAD_REPLY
      → endings.OfWords (query_of rest) (left source) (λ request. replies.FindsBadReply (request ∷ []) told told' held held')

-- A password that was sent, or was to be sent over a link that was made, has at most 1024 bytes.
abbrev pub IsWithin : List (List ℕ) → Option (List ℕ) → Type 0 → ℕ → Type 0
IsWithin rest input IsLinked status = endings.IsTalkStatus status → (status ≡ NO_DAEMON → IsLinked)
    → endings.OfWords (query_of rest) input (λ request. status ≢ WRITE_FAULT → status ≢ NO_MEMORY → is_sound request ≡ true)

-- `cache`, by the words behind its socket: answers are asked anew.
pub record Voids (rest : List (List ℕ)) (told told' : replies.Told) (held held' : Option (List ℕ)) (status : ℕ) : Type 0 where
  pub status_is : endings.IsTalkStatus status
  -- the frames of the options were sent, in the order E, u, U, g, G, no other piece, and the texts of the replies were printed
  pub done : status ≡ DONE → endings.OfOptions (requests_of rest) (λ requests. replies.IsDone requests told told' held held')
  -- whatever the status, some of these frames were sent, the first before the others, and nothing else
  pub sent : endings.OfOptions (requests_of rest) (λ requests. replies.IsFrontSent requests told told')
  -- no daemon answers any more: the replies before that were written, and then that
  pub no_daemon : status ≡ NO_DAEMON → endings.OfOptions (requests_of rest) (λ requests. replies.FindsNoDaemon requests held held')
  -- what was received behind the replies before begins no reply: those were written, and then `bad reply`
  pub bad_reply : status ≡ BAD_REPLY
      → endings.OfOptions (requests_of rest) (λ requests. replies.FindsBadReply requests told told' held held')

-- `serve`, by what its host tells: clients are served by the configuration at a path, with the rows of a store where one is given.
pub record Serves {H W : Type 0} (text_at : H → List ℕ → Option (List ℕ)) (source_faults door_faults : H → ℕ) (gave ended : H → Bool)
    (store : H → stores.Stored) (held : W → Option (List ℕ)) (conf : List ℕ) (has_store : Bool) (host host' : H) (sink sink' : W) (status : ℕ) : Type 0 where
  pub status_is : refusals.IsServeStatus status
  -- the doors gave a connection, or answered that none will come
  pub done : status ≡ DONE → (gave host' ≡ true) ⊎ (ended host' ≡ true)
  -- the configuration is within 1 MiB, and was taken, where the store or the doors were tried; so was the store where the doors were
  pub taken : refusals.TriesBehindConfig status → refusals.IsTaken (text_at host conf)
  pub loaded : (status ≡ DONE) ⊎ (status ≡ DOOR_FAULT) → has_store ≡ true → IfSome (store host).blobs stores.IsStore
  -- the store holds the rows of a journal that the daemon reached, which began with what the store held
  pub stored : status ≡ DONE → has_store ≡ true → stores.HoldsJournal (text_at host conf) (store host).blobs (store host').blobs
  -- whatever the status, it holds that or what it held; without a store given it is not touched
  pub kept : has_store ≡ true → ((store host').blobs ≡ (store host).blobs) ⊎ stores.HoldsJournal (text_at host conf) (store host).blobs (store host').blobs
  pub unasked : has_store ≡ false → store host' ≡ store host
  -- the configuration or the seed could not be read
  pub read_fault : status ≡ READ_FAULT → Rose (source_faults host) (source_faults host')
  -- the configuration has more than 1 MiB, and `too long` was written
  pub too_long : status ≡ TOO_LONG → refusals.IsTooLong (text_at host conf) × Appends (held sink) (held sink') (codes "too long\n")
  -- the configuration is refused for a reason, which was written
  pub refused : status ≡ REFUSED → (fault : ConfFault) × refusals.IsRefused fault (text_at host conf)
      × Appends (held sink) (held sink') (refusals.refused (refusals.why_refused fault))
  -- the store is none, and `bad store n` was written
  pub bad_store : status ≡ BAD_STORE → (n : ℕ) × IfSome (store host).blobs (stores.IsNoStore n) × Appends (held sink) (held sink') (stores.bad_store n)
  -- the making of the store's keeper, or the last call on it, failed, and `store fault` was written; where that failed, no other status
  -- is told but those of doors, sink and memory
  pub store_fault : status ≡ STORE_FAULT → stores.Fails (store host) (store host') × Appends (held sink) (held sink') (codes "store fault\n")
  pub failing : (store host).failed ≡ false → (store host').failed ≡ true → stores.IsFailingStatus status
  -- the doors could not be made, or failed, and `door fault` was written
  pub door_fault : status ≡ DOOR_FAULT → Rose (door_faults host) (door_faults host') × Appends (held sink) (held sink') (codes "door fault\n")
