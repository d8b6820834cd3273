-- What one search comes to over a link to a server that tells no directory.
use Rattle.std.proofs.Common.{◌≡◌, ◌≢◌, ℕ, ◌^◌, ◌<◌, ◌≤◌, true, false, cond, eqb, List, [], ◌++◌, ◌⊎◌, Some, refl, sym, ap, subst, ◌∙◌, arith, inl, inr}
use Rattle.std.proofs.lemmas.Bool.{cases_lt, le-ltb, lt-ltb, ne_eqb}
use Rattle.sd_base.specs.declared.Why.{Why}
use Rattle.sd_base.specs.declared.Why.TheVariants as whys
use Rattle.sd_ldap.specs.declared.entry.DirEntry.{DirEntry}
use Rattle.sd_ldap.specs.Values.{SearchValue, done}
use Rattle.sd_ldap.specs.Spelling.{message_bytes}
use Rattle.sd_ldap.specs.Sound.{IsSoundSearch, IsSound}
use Rattle.sd_match.specs.Answering.{told, reply}
use Rattle.sd_dial.specs.declared.searched.Searched.{Searched}
use Rattle.sd_dial.specs.declared.searched.Searched.TheVariants as searches
use Rattle.sd_client.specs.declared.step.Request.TheVariants as requests
use Rattle.sd_client.specs.Deciding.{Decision, undecided, ended, decided}
use Rattle.sd_client.specs.Deciding as decisions
use Rattle.sd_client.specs.Talk.{Talk, search_message, without_entries, IsSearched, IsUnsearched}
use Rattle.sd_asking.specs.Laws.{CutDecides, IndefiniteDecides, CodeDecides}
use Rattle.sd_asking.specs.Sizes.{content_size, is_too_long}
use Rattle.sd_asking.specs.Settled.{IsSettled, IsFailedBy}
use Rattle.sd_asking.specs.Searching.{IsSearchedBy}
use Rattle.sd_asking.proofs.Rooms.{done_fits}
use Rattle.sd_stub.specs.declared.Mode.TheVariants as modes
use Rattle.sd_stub_link.specs.Asking.{messages_of}
use Rattle.sd_stub_link.specs.Modes.{answer_by}
use Rattle.sd_stub_link.specs.Standing.{Standing, rest_of, coming_of, received_of, behind_of, answer_of}
use Rattle.sd_fetch.specs.Exchanging.{Telling, Exchange, Went}
use Rattle.sd_provider.proofs.Answering.{search_first, cut_few, cut_long, indefinite_rest, indefinite_few, indefinite_long, coded_few, coded_long}
use Rattle.sd_provider.proofs.Binds.{no_bytes, code_small}

-- what these links tell
abbrev pub telling : Telling Standing
telling = record {
  sent = λ l. Some l.pieces;
  asked = λ l. Some (messages_of l.pieces);
  received = λ l. Some (received_of l);
  coming = λ l. coming_of l;
  answer = λ l piece. answer_of l piece;
  behind = λ l. behind_of l;
  faults = λ l. l.faults;
  refuses = λ l. l.starved ≡ true;
  ends = λ l. rest_of l ≡ [];
}

-- ---- by the bytes that answer

abbrev pub by_decision : Decision → Searched
by_decision undecided = searches.Failed whys.Link
by_decision (ended found code at) = cond (eqb code 0) (searches.Entries found) (searches.Code code)
by_decision (decisions.failed why) = searches.Failed why

-- want of memory, a link that found none, or what was searched
abbrev pub Finds : Searched → Talk Standing → Searched → Type 0
Finds searched new answer = (searched ≡ searches.Memory) ⊎ (((searched ≡ searches.Failed whys.Link) × (new.link.starved ≡ true)) ⊎ (searched ≡ answer))

coded : (result : ℕ) (d : Decision) (at : ℕ) → result ≢ 0 → without_entries d ≡ ended [] result at → by_decision d ≡ searches.Code result
coded result undecided at some e = absurd cc
coded result (ended found code place) at some e = let same : code ≡ result = cc in subst (λ (n : ℕ). cond (eqb n 0) (searches.Entries found) (searches.Code n) ≡ searches.Code result) (sym same) (rw (ne_eqb result 0 some) refl)
coded result (decisions.failed why) at some e = absurd cc

failed_by : (why : Why) (d : Decision) (new : Talk Standing) → IsFailedBy why d (coming_of new.link) → (why ≡ whys.Link → (new.link.starved ≡ true) ⊎ (rest_of new.link ≡ [])) → Finds (searches.Failed why) new (by_decision d)
failed_by whys.Link d new h quiet =
    elim (quiet refl) [
      | inl starved ↦ inr (inl (refl, starved))
      | inr none ↦ inr (inr (sym (ap by_decision (h (ap (λ (rest : List ℕ). Some rest) none)))))
    ]
failed_by (whys.Bytes at) d new h quiet = inr (inr (sym (ap by_decision h)))
failed_by (whys.Message tag) d new h quiet = inr (inr (sym (ap by_decision h)))
failed_by (whys.Flood count) d new h quiet = inr (inr (sym (ap by_decision h)))
failed_by (whys.Code result) d new h quiet = absurd h

by_bytes : (searched : Searched) (d : Decision) (new : Talk Standing) → IsSearchedBy searched d new.at (coming_of new.link) → (searched ≡ searches.Failed whys.Link → (new.link.starved ≡ true) ⊎ (rest_of new.link ≡ [])) → Finds searched new (by_decision d)
by_bytes (searches.Entries found) d new h quiet = inr (inr (sym (ap by_decision h)))
by_bytes (searches.Code result) d new h quiet = inr (inr (sym (coded result d new.at h.0 h.1)))
by_bytes (searches.Failed why) d new h quiet = failed_by why d new h (λ e. quiet (ap searches.Failed e))
by_bytes searches.Memory d new h quiet = inl refl

unsent : (searched : Searched) (rose : Type 0) (new : Talk Standing) (answer : Searched) → IsUnsearched searched (rose × (new.link.starved ≡ true)) → Finds searched new answer
unsent (searches.Entries found) rose new answer h = absurd h
unsent (searches.Code result) rose new answer h = absurd h
unsent (searches.Failed why) rose new answer h = inr (inl (ap searches.Failed h.0, h.1.1))
unsent searches.Memory rose new answer h = inl refl

-- a link whose failure is not for want of memory has no byte to come
quiet_by : (searched : Searched) (d : Decision) (at : ℕ) (rose : Type 0) (new : Talk Standing) → IsSearched searched d at (rose × (rest_of new.link ≡ [])) → searched ≡ searches.Failed whys.Link → rest_of new.link ≡ []
quiet_by (searches.Entries found) d at rose new h e = absurd cc
quiet_by (searches.Code result) d at rose new h e = absurd cc
quiet_by (searches.Failed whys.Link) d at rose new h e = h.0.1
quiet_by (searches.Failed (whys.Bytes place)) d at rose new h e = absurd cc
quiet_by (searches.Failed (whys.Message tag)) d at rose new h e = absurd cc
quiet_by (searches.Failed (whys.Flood count)) d at rose new h e = absurd cc
quiet_by (searches.Failed (whys.Code result)) d at rose new h e = absurd cc
quiet_by searches.Memory d at rose new h e = absurd cc

-- what all bytes that answer a search over a settled client decide
abbrev pub decision : Talk Standing → SearchValue → Decision
decision old s = decided requests.Search old.next old.at (old.received ++ answer_of old.link (message_bytes (search_message old.next s)))

pub searched_is : (old new : Talk Standing) (x : Exchange) → Went telling old x new → IsSettled old (coming_of old.link) → Finds x.searched new (by_decision (decision old x.search))
searched_is old new x went settled =
    elim went.used [
      | inl none ↦ unsent x.searched _ new _ (went.no_reply settled.well none)
      | inr used ↦ by_bytes x.searched (decision old x.search) new (went.answered settled used) (λ e. inr (quiet_by x.searched _ new.at _ new (went.reply used) e))
    ]

-- ---- the bytes of each mode

pub search_sound : (id : ℕ) (s : SearchValue) → id ≤ 2147483647 → IsSoundSearch s → IsSound (search_message id s)
search_sound id s small sound = record { id = small; operation = sound }

-- a search is too long, or what it comes to
abbrev pub where_read : ℕ → SearchValue → Searched → Searched
where_read id s searched = cond (is_too_long (content_size (search_message id s))) (searches.Failed whys.Link) searched

abbrev decides : ℕ → List ℕ → Searched
decides id bytes = by_decision (decided requests.Search id 0 bytes)

pub in_cut : CutDecides → (entries : List DirEntry) (s : SearchValue) → IsSoundSearch s → decides 1 (answer_by modes.Cut entries (message_bytes (search_message 1 s))) ≡ searches.Failed whys.Link
in_cut law entries s sound =
    let m = search_message 1 s in
    let h = search_first entries 1 s in
    elim (cases_lt 16777216 (content_size m)) [
      | inl long ↦ ap (decides 1) (cut_long entries m long) ∙ ap by_decision (no_bytes requests.Search 1)
      | inr fits ↦ ap (decides 1) (cut_few entries m h.first h.rest (search_sound 1 s (omega arith) sound) fits h.are) ∙ ap by_decision (law requests.Search 1 [] (omega arith))
    ]

pub in_indefinite : IndefiniteDecides → (entries : List DirEntry) (s : SearchValue) → IsSoundSearch s → decides 1 (answer_by modes.Indef entries (message_bytes (search_message 1 s))) ≡ where_read 1 s (searches.Failed (whys.Bytes 1))
in_indefinite law entries s sound =
    let m = search_message 1 s in
    let h = search_first entries 1 s in
    elim (cases_lt 16777216 (content_size m)) [
      | inl long ↦
          let test : is_too_long (content_size m) ≡ true = lt-ltb _ _ long in
          rw test (ap (decides 1) (indefinite_long entries m long) ∙ ap by_decision (no_bytes requests.Search 1))
      | inr fits ↦
          let test : is_too_long (content_size m) ≡ false = le-ltb _ _ fits in
          rw test (ap (decides 1) (indefinite_few entries m h.first h.rest (search_sound 1 s (omega arith) sound) fits h.are) ∙ ap by_decision (law requests.Search 1 [] (indefinite_rest h.first h.rest) (omega arith)))
    ]

-- what a code alone comes to
abbrev pub by_code : ℕ → Searched
by_code result = cond (eqb result 0) (searches.Entries []) (searches.Code result)

pub in_code : CodeDecides → (result : ℕ) → result < 2 ^ 32 → (entries : List DirEntry) (s : SearchValue) → IsSoundSearch s → decides 1 (answer_by (modes.Code result) entries (message_bytes (search_message 1 s))) ≡ where_read 1 s (by_code result)
in_code law result few entries s sound =
    let m = search_message 1 s in
    let first = reply 1 (done (told result)) in
    elim (cases_lt 16777216 (content_size m)) [
      | inl long ↦
          let test : is_too_long (content_size m) ≡ true = lt-ltb _ _ long in
          rw test (ap (decides 1) (coded_long result entries m long) ∙ ap by_decision (no_bytes requests.Search 1))
      | inr fits ↦
          let test : is_too_long (content_size m) ≡ false = le-ltb _ _ fits in
          rw test (ap (decides 1) (coded_few result entries m first (search_sound 1 s (omega arith) sound) fits refl) ∙ ap by_decision (law requests.Search 1 result [] (omega arith) few (omega (arith, code_small first (done_fits 1 result)))))
    ]
