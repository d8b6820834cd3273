-- What a search comes to over a link that tells its directory.
use Rattle.std.proofs.Common.{◌≡◌, ℕ, ◌+◌, ◌^◌, ◌<◌, ◌≤◌, Bool, true, false, cond, ltb, List, [], ◌∷◌, ◌++◌, length, map, take, Option, Some, None, refl, sym, ap, subst, ◌∙◌, arith, inl, inr}
use Rattle.std.specs.List.{flat_map, list_any}
use Rattle.std.proofs.lemmas.Bool.{cases_lt, cases_Bool, le-ltb, lt-ltb, ne_eqb}
use Rattle.std.proofs.lemmas.List.{length-append}
use Rattle.sd_base.specs.declared.Why.{Why}
use Rattle.sd_base.specs.declared.Why.TheVariants as whys
use Rattle.sd_ldap.specs.declared.entry.DirEntry.{DirEntry}
use Rattle.sd_ldap.specs.Values.{SearchValue, MessageValue, entry, done}
use Rattle.sd_ldap.specs.Spelling.{message_bytes}
use Rattle.sd_ldap.specs.Sound.{IsSoundSearch}
use Rattle.sd_match.specs.Matching.{has_unsupported}
use Rattle.sd_match.specs.Answering.{told, reply, is_at_or_under, is_found, found, sent, is_past_limit, limited, search_code, search_replies}
use Rattle.sd_dial.specs.Entries.{Behind, answer_behind}
use Rattle.sd_dial.specs.Rooms.{are_short}
use Rattle.sd_dial.specs.declared.searched.Searched.{Searched}
use Rattle.sd_dial.specs.declared.searched.Searched.TheVariants as searches
use Rattle.sd_client.specs.declared.step.Request.TheVariants as requests
use Rattle.sd_client.specs.Deciding.{Decision, undecided, ended, decided}
use Rattle.sd_client.specs.Deciding as decisions
use Rattle.sd_client.specs.Replying.{IsFailure}
use Rattle.sd_client.specs.Talk.{search_message, without_entries, IsSearched, IsUnsearched, failure_by_search}
use Rattle.sd_asking.specs.Sizes.{content_size, total_size, first_limit}
use Rattle.sd_asking.specs.Settled.{IsFailedBy}
use Rattle.sd_asking.specs.Searching.{ToldReply, entries, failed, entries_sent, code_sent, reply_sizes, by_code, by_limit, told_search, search_reply_size, IsToldFailure, IsToldSearch, HasReply, IsSearchedBy}
use Rattle.sd_asking.proofs.Replies.{framed_bytes}
use Rattle.sd_asking.proofs.Walk.{decision_by}
use Rattle.sd_asking.proofs.Stream.{replies, walk, stream_length}
use Rattle.sd_asking.proofs.Requests.{answered}
use Rattle.sd_asking.proofs.Rooms.{AreShort, AreSmall, short_each, short_filtered, short_taken, small_sent, replies_framed}
use Rattle.sd_asking.proofs.Arriving.{IsArrived, kept, none_left, IsRestored, restored}
use Rattle.sd_asking.proofs.Outcomes.{Outcome, IsNothing, IsLimited, IsEnded, by_first, all_within, nothing_comes}

-- ---- the replies are entries and a code behind them

record IsAnswered (all : List DirEntry) (id : ℕ) (s : SearchValue) : Type 0 where
  found_entries : List DirEntry
  result : ℕ
  replies_are : search_replies all id s ≡ replies id result found_entries
  told_is : by_code (entries_sent all s) (code_sent all s) ≡ by_code found_entries result
  small : AreSmall found_entries
  few : result < 2 ^ 32

found_are : (id result : ℕ) (s : SearchValue) (list : List DirEntry)
    → map (λ (e : DirEntry). reply id (entry (sent s e))) list ++ reply id (done (told result)) ∷ [] ≡ replies id result (map (λ (e : DirEntry). sent s e) list)
found_are id result s [] = refl
found_are id result s (e ∷ list) = ap (λ (messages : List MessageValue). reply id (entry (sent s e)) ∷ messages) (found_are id result s list)

past_told : (past : Bool) (s : SearchValue) (list : List DirEntry)
    → by_code (map (λ (e : DirEntry). sent s e) list) (cond past 4 0) ≡ by_code (map (λ (e : DirEntry). sent s e) (cond past (take s.size list) list)) (cond past 4 0)
past_told true s list = refl
past_told false s list = refl

past_short : (past : Bool) (size : ℕ) (list : List DirEntry) → AreShort list → AreShort (cond past (take size list) list)
past_short true size list short = short_taken size list short
past_short false size list short = short

past_few : (past : Bool) → cond past 4 0 < 2 ^ 32
past_few true = omega arith
past_few false = omega arith

by_replies : (all : List DirEntry) (id : ℕ) (s : SearchValue) → are_short all ≡ true → IsAnswered all id s
by_replies all id s short =
    let list = found all s in
    let sent_list = map (λ (e : DirEntry). sent s e) (limited s.size list) in
    let result = search_code s.size list in
    elim (cases_Bool (has_unsupported s.filter)) [
      | inl unknown ↦ record { found_entries = []; result = 53; replies_are = rw unknown refl; told_is = rw unknown refl; small = tt; few = omega arith }
      | inr known ↦
          elim (cases_Bool (list_any (λ (e : DirEntry). is_at_or_under s.base e) all)) [
            | inl there ↦ record {
              found_entries = sent_list;
              result = result;
              replies_are = rw (known, there) (found_are id result s (limited s.size list));
              told_is = rw (known, there) (past_told (is_past_limit s.size list) s list);
              small = small_sent s (limited s.size list) (past_short (is_past_limit s.size list) s.size list (short_filtered (λ (e : DirEntry). is_found s e) all (short_each all short)));
              few = past_few (is_past_limit s.size list);
            }
            | inr nowhere ↦ record { found_entries = []; result = 32; replies_are = rw (known, nowhere) refl; told_is = rw (known, nowhere) refl; small = tt; few = omega arith }
          ]
    ]

-- ---- what all bytes decide

told_long : (behind : Behind) (count id : ℕ) (s : SearchValue) → 16777216 < content_size (search_message id s) → told_search behind count id s ≡ failed whys.Link
unfolding told_search
told_long behind count id s long = let test : ltb 16777216 (content_size (search_message id s)) ≡ true = lt-ltb _ _ long in rw test refl

told_short : (behind : Behind) (count id : ℕ) (s : SearchValue) → content_size (search_message id s) ≤ 16777216
    → told_search behind count id s ≡ by_limit (first_limit behind.framing count (reply_sizes behind.entries id s)) (by_code (entries_sent behind.entries s) (code_sent behind.entries s))
unfolding told_search
told_short behind count id s fits = let test : ltb 16777216 (content_size (search_message id s)) ≡ false = le-ltb _ _ fits in rw test refl

size_is : (behind : Behind) (id : ℕ) (s : SearchValue) → search_reply_size behind id s ≡ total_size behind.framing (reply_sizes behind.entries id s)
unfolding search_reply_size
size_is behind id s = refl

pub outcome : (behind : Behind) (id : ℕ) (s : SearchValue) (received : List ℕ) → IsSoundSearch s → id ≤ 2147483647 → are_short behind.entries ≡ true → length received ≤ 67108864
    → Outcome failed by_code (decided requests.Search id (length received) (received ++ answer_behind behind (message_bytes (search_message id s)))) (told_search behind (length received) id s)
    (length (received ++ answer_behind behind (message_bytes (search_message id s)))) (length received + search_reply_size behind id s)
outcome behind id s received sound small short few =
    let m = search_message id s in
    let answer = answer_behind behind (message_bytes m) in
    elim (cases_lt 16777216 (content_size m)) [
      | inl long ↦ inl (record { decided_is = nothing_comes requests.Search id behind m received long few; told_is = told_long behind (length received) id s long })
      | inr fits ↦
          let a = by_replies behind.entries id s short in
          let sizes = reply_sizes behind.entries id s in
          let messages = replies id a.result a.found_entries in
          let comes : answer ≡ flat_map (framed_bytes behind.framing) messages =
          answered behind m (record { id = small; operation = sound }) fits ∙ ap (flat_map (framed_bytes behind.framing)) a.replies_are in
          let same : map content_size messages ≡ sizes = ap (map content_size) (sym a.replies_are) in
          let walked =
          walk id a.result behind.framing (received ++ answer) a.found_entries [] received (replies_framed behind.framing id a.result a.found_entries small a.few a.small) (ap (λ (bytes : List ℕ). received ++ bytes) comes) few in
          let told_by : Decision = decision_by (first_limit behind.framing (length received) sizes) (ended a.found_entries a.result (length received + total_size behind.framing sizes)) in
          let decides : decided requests.Search id (length received) (received ++ answer) ≡ told_by =
          walked ∙ ap (λ (list : List ℕ). decision_by (first_limit behind.framing (length received) list) (ended a.found_entries a.result (length received + total_size behind.framing list))) same in
          let total : search_reply_size behind id s ≡ total_size behind.framing sizes = size_is behind id s in
          let count : length received + total_size behind.framing sizes ≡ length received + search_reply_size behind id s = omega (arith, total) in
          let size : length (received ++ answer) ≡ length received + search_reply_size behind id s =
          length-append received answer ∙ ap (λ (n : ℕ). length received + n) (ap length comes ∙ stream_length behind.framing messages ∙ ap (total_size behind.framing) same ∙ sym total) in
          by_first failed by_code (λ (o : Option Why). by_limit o (by_code a.found_entries a.result)) (first_limit behind.framing (length received) sizes)
          (decided requests.Search id (length received) (received ++ answer)) (told_search behind (length received) id s)
          (length (received ++ answer)) (length received + search_reply_size behind id s) a.found_entries a.result
          (decides ∙ ap (λ (at : ℕ). decision_by (first_limit behind.framing (length received) sizes) (ended a.found_entries a.result at)) count)
          (told_short behind (length received) id s fits ∙ ap (λ (r : ToldReply). by_limit (first_limit behind.framing (length received) sizes) r) a.told_is)
          (λ why. refl) refl size
          (λ none. omega (arith, total, all_within behind.framing (length received) sizes few none))
    ]

-- ---- what a call gives, by what all bytes decide

failure_kept : (why : Why) (id at : ℕ) (old answer new : List ℕ) (coming : Option (List ℕ)) (rose : Type 0) → IsArrived old answer new coming → at ≤ length old
    → IsFailure why (decided requests.Search id at new) rose → IsFailedBy why (decided requests.Search id at (old ++ answer)) coming
failure_kept whys.Link id at old answer new coming rose a there h = λ quiet. none_left requests.Search id at old answer new coming a quiet ∙ h.1
failure_kept (whys.Bytes place) id at old answer new coming rose a there h = kept requests.Search id at old answer new coming a there (λ none. let bad : undecided ≡ decisions.failed (whys.Bytes place) = sym none ∙ h in cc) ∙ h
failure_kept (whys.Message tag) id at old answer new coming rose a there h = kept requests.Search id at old answer new coming a there (λ none. let bad : undecided ≡ decisions.failed (whys.Message tag) = sym none ∙ h in cc) ∙ h
failure_kept (whys.Flood count) id at old answer new coming rose a there h = kept requests.Search id at old answer new coming a there (λ none. let bad : undecided ≡ decisions.failed (whys.Flood count) = sym none ∙ h in cc) ∙ h
failure_kept (whys.Code result) id at old answer new coming rose a there h = absurd h

pub searched_by : (result : Searched) (id at at' : ℕ) (old answer new : List ℕ) (coming : Option (List ℕ)) (rose : Type 0) → IsArrived old answer new coming → at ≤ length old
    → IsSearched result (decided requests.Search id at new) at' rose → IsSearchedBy result (decided requests.Search id at (old ++ answer)) at' coming
searched_by (searches.Entries list) id at at' old answer new coming rose a there h =
    kept requests.Search id at old answer new coming a there (λ none. let bad : undecided ≡ ended list 0 at' = sym none ∙ h in cc) ∙ h
searched_by (searches.Code result) id at at' old answer new coming rose a there h =
    (h.0, ap without_entries (kept requests.Search id at old answer new coming a there (λ none. let bad : undecided ≡ ended [] result at' = sym (ap without_entries none) ∙ h.1 in cc)) ∙ h.1)
searched_by (searches.Failed why) id at at' old answer new coming rose a there h = failure_kept why id at old answer new coming rose a there h
searched_by searches.Memory id at at' old answer new coming rose a there h = tt

-- ---- and by what is told

failure_told : (why : Why) (d : Decision) (r : ToldReply) (coming : Option (List ℕ)) → ((w : Why) → d ≡ decisions.failed w → r ≡ failed w) → IsFailedBy why d coming → IsToldFailure why r
failure_told whys.Link d r coming f h = tt
failure_told (whys.Bytes at) d r coming f h = f (whys.Bytes at) h
failure_told (whys.Message tag) d r coming f h = f (whys.Message tag) h
failure_told (whys.Flood count) d r coming f h = f (whys.Flood count) h
failure_told (whys.Code result) d r coming f h = absurd h

by_nothing : (result : Searched) (d : Decision) (r : ToldReply) (at : ℕ) (coming : Option (List ℕ)) → IsNothing d r (failed whys.Link) → IsSearchedBy result d at coming → IsToldSearch result r
by_nothing (searches.Entries list) d r at coming n h = let bad : undecided ≡ ended list 0 at = sym n.decided_is ∙ h in absurd cc
by_nothing (searches.Code result) d r at coming n h = let bad : undecided ≡ ended [] result at = sym (ap without_entries n.decided_is) ∙ h.1 in absurd cc
by_nothing (searches.Failed why) d r at coming n h = failure_told why d r coming (λ w e. let bad : undecided ≡ decisions.failed w = sym n.decided_is ∙ e in absurd cc) h
by_nothing searches.Memory d r at coming n h = tt

by_limited : (result : Searched) (d : Decision) (r : ToldReply) (at : ℕ) (coming : Option (List ℕ)) → IsLimited failed d r → IsSearchedBy result d at coming → IsToldSearch result r
by_limited (searches.Entries list) d r at coming l h = let bad : decisions.failed l.why ≡ ended list 0 at = sym l.decided_is ∙ h in absurd cc
by_limited (searches.Code result) d r at coming l h = let bad : decisions.failed l.why ≡ ended [] result at = sym (ap without_entries l.decided_is) ∙ h.1 in absurd cc
by_limited (searches.Failed why) d r at coming l h =
    failure_told why d r coming (λ w e. let both : decisions.failed l.why ≡ decisions.failed w = sym l.decided_is ∙ e in let same : l.why ≡ w = cc in l.told_is ∙ ap failed same) h
by_limited searches.Memory d r at coming l h = tt

by_ended : (result : Searched) (d : Decision) (r : ToldReply) (at size count : ℕ) (coming : Option (List ℕ)) → IsEnded by_code d r size count → IsSearchedBy result d at coming → IsToldSearch result r
by_ended (searches.Entries list) d r at size count coming n h =
    let both : ended n.entries n.code size ≡ ended list 0 at = sym n.decided_is ∙ h in
    let found_is : n.entries ≡ list = cc in
    let code_is : n.code ≡ 0 = cc in
    n.told_is ∙ ap (λ (c : ℕ). by_code n.entries c) code_is ∙ ap entries found_is
by_ended (searches.Code result) d r at size count coming n h =
    let both : ended [] n.code size ≡ ended [] result at = sym (ap without_entries n.decided_is) ∙ h.1 in
    let code_is : n.code ≡ result = cc in
    n.told_is ∙ ap (λ (c : ℕ). by_code n.entries c) code_is ∙ rw (ne_eqb result 0 h.0) refl
by_ended (searches.Failed why) d r at size count coming n h = failure_told why d r coming (λ w e. let bad : ended n.entries n.code size ≡ decisions.failed w = sym n.decided_is ∙ e in absurd cc) h
by_ended searches.Memory d r at size count coming n h = tt

pub told_by : (result : Searched) (d : Decision) (r : ToldReply) (at size count : ℕ) (coming : Option (List ℕ)) → Outcome failed by_code d r size count → IsSearchedBy result d at coming → IsToldSearch result r
told_by result d r at size count coming (inl n) h = by_nothing result d r at coming n h
told_by result d r at size count coming (inr (inl l)) h = by_limited result d r at coming l h
told_by result d r at size count coming (inr (inr n)) h = by_ended result d r at size count coming n h

-- a request that was not sent comes to nothing told
pub told_unsent : (result : Searched) (r : ToldReply) (rose : Type 0) → IsUnsearched result rose → IsToldSearch result r
told_unsent (searches.Entries list) r rose h = absurd h
told_unsent (searches.Code result) r rose h = absurd h
told_unsent (searches.Failed whys.Link) r rose h = tt
told_unsent (searches.Failed (whys.Bytes at)) r rose h = let bad = h.0 in absurd cc
told_unsent (searches.Failed (whys.Message tag)) r rose h = let bad = h.0 in absurd cc
told_unsent (searches.Failed (whys.Flood count)) r rose h = let bad = h.0 in absurd cc
told_unsent (searches.Failed (whys.Code result)) r rose h = let bad = h.0 in absurd cc
told_unsent searches.Memory r rose h = tt

-- the link failed, and nothing is to come: that is told
pub ends_by : (d : Decision) (r : ToldReply) (size count : ℕ) → Outcome failed by_code d r size count → d ≡ undecided → r ≡ failed whys.Link
ends_by d r size count (inl n) none = n.told_is
ends_by d r size count (inr (inl l)) none = let bad : decisions.failed l.why ≡ undecided = sym l.decided_is ∙ none in absurd cc
ends_by d r size count (inr (inr n)) none = let bad : ended n.entries n.code size ≡ undecided = sym n.decided_is ∙ none in absurd cc

-- a reply ends where all bytes do
pub record IsAtEnd (at size count : ℕ) : Type 0 where
  pub end : at ≡ size
  pub counted : size ≡ count
  pub within : count ≤ 67108864

place_of : (result : Searched) (d : Decision) (at : ℕ) (coming : Option (List ℕ)) → HasReply result → IsSearchedBy result d at coming → (c : ℕ) × (without_entries d ≡ ended [] c at)
place_of (searches.Entries list) d at coming has h = (0, ap without_entries h)
place_of (searches.Code result) d at coming has h = (result, h.1)
place_of (searches.Failed why) d at coming has h = absurd has
place_of searches.Memory d at coming has h = absurd has

pub at_end_by : (result : Searched) (d : Decision) (r : ToldReply) (at size count : ℕ) (coming : Option (List ℕ)) → Outcome failed by_code d r size count → HasReply result → IsSearchedBy result d at coming → IsAtEnd at size count
at_end_by result d r at size count coming (inl n) has h =
    let p = place_of result d at coming has h in let bad : undecided ≡ ended [] p.0 at = sym (ap without_entries n.decided_is) ∙ p.1 in absurd cc
at_end_by result d r at size count coming (inr (inl l)) has h =
    let p = place_of result d at coming has h in let bad : decisions.failed l.why ≡ ended [] p.0 at = sym (ap without_entries l.decided_is) ∙ p.1 in absurd cc
at_end_by result d r at size count coming (inr (inr n)) has h =
    let p = place_of result d at coming has h in
    let both : ended [] n.code size ≡ ended [] p.0 at = sym (ap without_entries n.decided_is) ∙ p.1 in
    let same : at ≡ size = cc in
    record { end = same; counted = n.counted; within = n.within }

-- ---- together

same_decision : (behind : Behind) (id at : ℕ) (s : SearchValue) (received answer : List ℕ) → at ≡ length received → answer ≡ answer_behind behind (message_bytes (search_message id s))
    → decided requests.Search id at (received ++ answer) ≡ decided requests.Search id (length received) (received ++ answer_behind behind (message_bytes (search_message id s)))
same_decision behind id at s received answer at_is answer_is =
    ap (λ (place : ℕ). decided requests.Search id place (received ++ answer)) at_is ∙ ap (λ (list : List ℕ). decided requests.Search id (length received) (received ++ list)) answer_is

-- the bytes that answer a request are those of the directory behind a settled client
pub record IsAsked (behind : Behind) (id at : ℕ) (s : SearchValue) (received answer : List ℕ) : Type 0 where
  pub sound : IsSoundSearch s
  pub small : id ≤ 2147483647
  pub short : are_short behind.entries ≡ true
  pub few : length received ≤ 67108864
  pub at_is : at ≡ length received
  pub answer_is : answer ≡ answer_behind behind (message_bytes (search_message id s))

module _ (result : Searched) (behind : Behind) (id at at' : ℕ) (s : SearchValue) (received answer : List ℕ) (coming : Option (List ℕ)) (asked : IsAsked behind id at s received answer)
    (h : IsSearchedBy result (decided requests.Search id at (received ++ answer)) at' coming) where
  outcome_here : Outcome failed by_code (decided requests.Search id (length received) (received ++ answer_behind behind (message_bytes (search_message id s)))) (told_search behind (length received) id s)
      (length (received ++ answer_behind behind (message_bytes (search_message id s)))) (length received + search_reply_size behind id s)
  outcome_here = outcome behind id s received asked.sound asked.small asked.short asked.few

  here : IsSearchedBy result (decided requests.Search id (length received) (received ++ answer_behind behind (message_bytes (search_message id s)))) at' coming
  here = subst (λ (d : Decision). IsSearchedBy result d at' coming) (same_decision behind id at s received answer asked.at_is asked.answer_is) h

  -- the result is what is told
  pub searched_told : IsToldSearch result (told_search behind (length received) id s)
  searched_told =
      told_by result (decided requests.Search id (length received) (received ++ answer_behind behind (message_bytes (search_message id s)))) (told_search behind (length received) id s) at'
      (length (received ++ answer_behind behind (message_bytes (search_message id s)))) (length received + search_reply_size behind id s) coming outcome_here here

  -- a client is settled again
  pub searched_settles : (new : List ℕ) → HasReply result → IsArrived received answer new coming → at' ≤ length new → IsRestored received new coming at' (search_reply_size behind id s)
  searched_settles new has arrival within =
      let e =
      at_end_by result (decided requests.Search id (length received) (received ++ answer_behind behind (message_bytes (search_message id s)))) (told_search behind (length received) id s) at'
      (length (received ++ answer_behind behind (message_bytes (search_message id s)))) (length received + search_reply_size behind id s) coming outcome_here has here in
      restored received answer new coming at' (search_reply_size behind id s) arrival within
      (e.end ∙ ap (λ (list : List ℕ). length (received ++ list)) (sym asked.answer_is))
      (ap (λ (list : List ℕ). length (received ++ list)) asked.answer_is ∙ e.counted) e.within

-- the link failed behind the last byte: that is told
pub searched_ends : (behind : Behind) (id at at' : ℕ) (s : SearchValue) (received answer : List ℕ) (coming : Option (List ℕ)) → IsAsked behind id at s received answer
    → IsSearchedBy (searches.Failed whys.Link) (decided requests.Search id at (received ++ answer)) at' coming → coming ≡ Some [] → told_search behind (length received) id s ≡ failed whys.Link
searched_ends behind id at at' s received answer coming asked h quiet =
    ends_by (decided requests.Search id (length received) (received ++ answer_behind behind (message_bytes (search_message id s)))) (told_search behind (length received) id s)
    (length (received ++ answer_behind behind (message_bytes (search_message id s)))) (length received + search_reply_size behind id s)
    (outcome behind id s received asked.sound asked.small asked.short asked.few)
    (sym (same_decision behind id at s received answer asked.at_is asked.answer_is) ∙ h quiet)

-- a reply comes to a request that was sent, and it is no failure
pub was_sent : (result : Searched) (rose : Type 0) → HasReply result → IsUnsearched result rose → ⊥
was_sent (searches.Entries list) rose has h = h
was_sent (searches.Code result) rose has h = h
was_sent (searches.Failed why) rose has h = has
was_sent searches.Memory rose has h = has

pub no_failure : (result : Searched) → HasReply result → failure_by_search result ≡ None
no_failure (searches.Entries list) has = refl
no_failure (searches.Code result) has = refl
no_failure (searches.Failed why) has = absurd has
no_failure searches.Memory has = absurd has
