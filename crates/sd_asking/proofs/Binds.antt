-- What a bind comes to over a link that tells its directory.
use Rattle.std.proofs.Common.{◌≡◌, ℕ, ◌+◌, ◌^◌, ◌<◌, ◌≤◌, Bool, true, false, cond, ltb, List, [], ◌∷◌, ◌++◌, length, Option, Some, None, refl, sym, ap, subst, ◌∙◌, arith, inl, inr}
use Rattle.std.proofs.lemmas.Bool.{cases_lt, le-ltb, lt-ltb}
use Rattle.std.proofs.lemmas.List.{length-append}
use Rattle.sd_base.specs.declared.Why.{Why}
use Rattle.sd_base.specs.declared.Why.TheVariants as whys
use Rattle.sd_rules.specs.declared.tasks.Bound.{Bound}
use Rattle.sd_rules.specs.declared.tasks.Bound.TheVariants as bounds
use Rattle.sd_ldap.specs.declared.entry.DirEntry.{DirEntry}
use Rattle.sd_ldap.specs.Values.{bind_response}
use Rattle.sd_ldap.specs.Spelling.{message_bytes}
use Rattle.sd_match.specs.Answering.{told, reply, is_empty, is_right, bind_code}
use Rattle.sd_dial.specs.Entries.{Behind, answer_behind}
use Rattle.sd_client.specs.declared.step.Request.TheVariants as requests
use Rattle.sd_client.specs.Deciding.{Decision, undecided, ended, decided}
use Rattle.sd_client.specs.Deciding as decisions
use Rattle.sd_client.specs.Replying.{IsFailure}
use Rattle.sd_client.specs.Talk.{bind_message, without_entries, IsBound, IsUnbound, failure_by_bind}
use Rattle.sd_asking.specs.Sizes.{content_size, total_size, first_limit}
use Rattle.sd_asking.specs.Settled.{IsFailedBy}
use Rattle.sd_asking.specs.Binding.{ToldBound, code, failed, reply_sizes, by_limit, told_bind, bind_reply_size, IsToldFailure, IsToldBind, HasReply, IsBoundBy}
use Rattle.sd_asking.proofs.Replies.{framed_bytes}
use Rattle.sd_asking.proofs.Walk.{decision_by}
use Rattle.sd_asking.proofs.Stream.{ends_alone, stream_length}
use Rattle.sd_asking.proofs.Requests.{answered}
use Rattle.sd_asking.proofs.Rooms.{bound_framed}
use Rattle.sd_asking.proofs.Arriving.{IsArrived, kept, none_left, IsRestored, restored}
use Rattle.sd_asking.proofs.Outcomes.{Outcome, by_first, all_within, nothing_comes}

-- ---- what all bytes decide

code_few : (nobody nameless right : Bool) → cond nobody (cond nameless 0 53) (cond right 0 49) < 2 ^ 32
code_few true true right = omega arith
code_few true false right = omega arith
code_few false nameless true = omega arith
code_few false nameless false = omega arith

bind_few : (all : List DirEntry) (name password : List ℕ) → bind_code all name password < 2 ^ 32
bind_few all name password = code_few (is_empty password) (is_empty name) (is_right all name password)

told_long : (behind : Behind) (count id : ℕ) (name password : List ℕ) → 16777216 < content_size (bind_message id name password) → told_bind behind count id name password ≡ failed whys.Link
unfolding told_bind
told_long behind count id name password long = let test : ltb 16777216 (content_size (bind_message id name password)) ≡ true = lt-ltb _ _ long in rw test refl

told_short : (behind : Behind) (count id : ℕ) (name password : List ℕ) → content_size (bind_message id name password) ≤ 16777216
    → told_bind behind count id name password ≡ by_limit (first_limit behind.framing count (reply_sizes behind.entries id name password)) (code (bind_code behind.entries name password))
unfolding told_bind
told_short behind count id name password fits = let test : ltb 16777216 (content_size (bind_message id name password)) ≡ false = le-ltb _ _ fits in rw test refl

size_is : (behind : Behind) (id : ℕ) (name password : List ℕ) → bind_reply_size behind id name password ≡ total_size behind.framing (reply_sizes behind.entries id name password)
unfolding bind_reply_size
size_is behind id name password = refl

-- the reply as a code, whatever the entries
abbrev pub by_result : List DirEntry → ℕ → ToldBound
by_result entries result = code result

pub outcome : (behind : Behind) (id : ℕ) (name password received : List ℕ) → id ≤ 2147483647 → length received ≤ 67108864
    → Outcome failed by_result (decided requests.Bind id (length received) (received ++ answer_behind behind (message_bytes (bind_message id name password)))) (told_bind behind (length received) id name password)
    (length (received ++ answer_behind behind (message_bytes (bind_message id name password)))) (length received + bind_reply_size behind id name password)
outcome behind id name password received small few =
    let m = bind_message id name password in
    let answer = answer_behind behind (message_bytes m) in
    elim (cases_lt 16777216 (content_size m)) [
      | inl long ↦ inl (record { decided_is = nothing_comes requests.Bind id behind m received long few; told_is = told_long behind (length received) id name password long })
      | inr fits ↦
          let result = bind_code behind.entries name password in
          let sizes = reply_sizes behind.entries id name password in
          let message = reply id (bind_response (told result)) in
          let comes : answer ≡ framed_bytes behind.framing message ++ [] = answered behind m (record { id = small; operation = (omega arith, omega arith) }) fits in
          let decides : decided requests.Bind id (length received) (received ++ answer) ≡ decision_by (first_limit behind.framing (length received) sizes) (ended [] result (length received + total_size behind.framing sizes)) =
          ends_alone requests.Bind id [] behind.framing (bind_response (told result)) result received (received ++ answer) (λ used. refl)
          (bound_framed behind.framing id result small (bind_few behind.entries name password)) (ap (λ (bytes : List ℕ). received ++ bytes) comes) few in
          let total : bind_reply_size behind id name password ≡ total_size behind.framing sizes = size_is behind id name password in
          let count : length received + total_size behind.framing sizes ≡ length received + bind_reply_size behind id name password = omega (arith, total) in
          let size : length (received ++ answer) ≡ length received + bind_reply_size behind id name password =
          length-append received answer ∙ ap (λ (n : ℕ). length received + n) (ap length comes ∙ stream_length behind.framing (message ∷ []) ∙ sym total) in
          by_first failed by_result (λ (o : Option Why). by_limit o (code result)) (first_limit behind.framing (length received) sizes)
          (decided requests.Bind id (length received) (received ++ answer)) (told_bind behind (length received) id name password)
          (length (received ++ answer)) (length received + bind_reply_size behind id name password) [] result
          (decides ∙ ap (λ (at : ℕ). decision_by (first_limit behind.framing (length received) sizes) (ended [] result at)) count)
          (told_short behind (length received) id name password fits)
          (λ why. refl) refl size
          (λ none. omega (arith, total, all_within behind.framing (length received) sizes few none))
    ]

-- ---- what a call gives, by what all bytes decide

failure_kept : (why : Why) (id at : ℕ) (old answer new : List ℕ) (coming : Option (List ℕ)) (rose : Type 0) → IsArrived old answer new coming → at ≤ length old
    → IsFailure why (decided requests.Bind id at new) rose → IsFailedBy why (decided requests.Bind id at (old ++ answer)) coming
failure_kept whys.Link id at old answer new coming rose a there h = λ quiet. none_left requests.Bind id at old answer new coming a quiet ∙ h.1
failure_kept (whys.Bytes place) id at old answer new coming rose a there h = kept requests.Bind id at old answer new coming a there (λ none. let bad : undecided ≡ decisions.failed (whys.Bytes place) = sym none ∙ h in cc) ∙ h
failure_kept (whys.Message tag) id at old answer new coming rose a there h = kept requests.Bind id at old answer new coming a there (λ none. let bad : undecided ≡ decisions.failed (whys.Message tag) = sym none ∙ h in cc) ∙ h
failure_kept (whys.Flood count) id at old answer new coming rose a there h = kept requests.Bind id at old answer new coming a there (λ none. let bad : undecided ≡ decisions.failed (whys.Flood count) = sym none ∙ h in cc) ∙ h
failure_kept (whys.Code result) id at old answer new coming rose a there h = absurd h

pub bound_by : (result : Bound) (id at at' : ℕ) (old answer new : List ℕ) (coming : Option (List ℕ)) (rose : Type 0) → IsArrived old answer new coming → at ≤ length old
    → IsBound result (decided requests.Bind id at new) at' rose → IsBoundBy result (decided requests.Bind id at (old ++ answer)) at' coming
bound_by (bounds.Code result) id at at' old answer new coming rose a there h =
    ap without_entries (kept requests.Bind id at old answer new coming a there (λ none. let bad : undecided ≡ ended [] result at' = sym (ap without_entries none) ∙ h in cc)) ∙ h
bound_by (bounds.Failed why) id at at' old answer new coming rose a there h = failure_kept why id at old answer new coming rose a there h
bound_by bounds.Memory id at at' old answer new coming rose a there h = tt

-- ---- and by what is told

failure_told : (why : Why) (d : Decision) (r : ToldBound) (coming : Option (List ℕ)) → ((w : Why) → d ≡ decisions.failed w → r ≡ failed w) → IsFailedBy why d coming → IsToldFailure why r
failure_told whys.Link d r coming f h = tt
failure_told (whys.Bytes at) d r coming f h = f (whys.Bytes at) h
failure_told (whys.Message tag) d r coming f h = f (whys.Message tag) h
failure_told (whys.Flood count) d r coming f h = f (whys.Flood count) h
failure_told (whys.Code result) d r coming f h = absurd h

told_by : (result : Bound) (d : Decision) (r : ToldBound) (at size count : ℕ) (coming : Option (List ℕ)) → Outcome failed by_result d r size count → IsBoundBy result d at coming → IsToldBind result r
told_by (bounds.Code result) d r at size count coming (inl n) h = let bad : undecided ≡ ended [] result at = sym (ap without_entries n.decided_is) ∙ h in absurd cc
told_by (bounds.Code result) d r at size count coming (inr (inl l)) h = let bad : decisions.failed l.why ≡ ended [] result at = sym (ap without_entries l.decided_is) ∙ h in absurd cc
told_by (bounds.Code result) d r at size count coming (inr (inr n)) h =
    let both : ended [] n.code size ≡ ended [] result at = sym (ap without_entries n.decided_is) ∙ h in
    let code_is : n.code ≡ result = cc in
    n.told_is ∙ ap code code_is
told_by (bounds.Failed why) d r at size count coming (inl n) h = failure_told why d r coming (λ w e. let bad : undecided ≡ decisions.failed w = sym n.decided_is ∙ e in absurd cc) h
told_by (bounds.Failed why) d r at size count coming (inr (inl l)) h =
    failure_told why d r coming (λ w e. let both : decisions.failed l.why ≡ decisions.failed w = sym l.decided_is ∙ e in let same : l.why ≡ w = cc in l.told_is ∙ ap failed same) h
told_by (bounds.Failed why) d r at size count coming (inr (inr n)) h = failure_told why d r coming (λ w e. let bad : ended n.entries n.code size ≡ decisions.failed w = sym n.decided_is ∙ e in absurd cc) h
told_by bounds.Memory d r at size count coming o h = tt

-- a request that was not sent comes to nothing told
pub told_unsent : (result : Bound) (r : ToldBound) (rose : Type 0) → IsUnbound result rose → IsToldBind result r
told_unsent (bounds.Code result) r rose h = absurd h
told_unsent (bounds.Failed whys.Link) r rose h = tt
told_unsent (bounds.Failed (whys.Bytes at)) r rose h = let bad = h.0 in absurd cc
told_unsent (bounds.Failed (whys.Message tag)) r rose h = let bad = h.0 in absurd cc
told_unsent (bounds.Failed (whys.Flood count)) r rose h = let bad = h.0 in absurd cc
told_unsent (bounds.Failed (whys.Code result)) r rose h = let bad = h.0 in absurd cc
told_unsent bounds.Memory r rose h = tt

ends_by : (d : Decision) (r : ToldBound) (size count : ℕ) → Outcome failed by_result d r size count → d ≡ undecided → r ≡ failed whys.Link
ends_by d r size count (inl n) none = n.told_is
ends_by d r size count (inr (inl l)) none = let bad : decisions.failed l.why ≡ undecided = sym l.decided_is ∙ none in absurd cc
ends_by d r size count (inr (inr n)) none = let bad : ended n.entries n.code size ≡ undecided = sym n.decided_is ∙ none in absurd cc

-- a reply ends where all bytes do
record IsAtEnd (at size count : ℕ) : Type 0 where
  end : at ≡ size
  counted : size ≡ count
  within : count ≤ 67108864

at_end_by : (result : Bound) (d : Decision) (r : ToldBound) (at size count : ℕ) (coming : Option (List ℕ)) → Outcome failed by_result d r size count → HasReply result → IsBoundBy result d at coming → IsAtEnd at size count
at_end_by (bounds.Code result) d r at size count coming (inl n) has h = let bad : undecided ≡ ended [] result at = sym (ap without_entries n.decided_is) ∙ h in absurd cc
at_end_by (bounds.Code result) d r at size count coming (inr (inl l)) has h = let bad : decisions.failed l.why ≡ ended [] result at = sym (ap without_entries l.decided_is) ∙ h in absurd cc
at_end_by (bounds.Code result) d r at size count coming (inr (inr n)) has h =
    let both : ended [] n.code size ≡ ended [] result at = sym (ap without_entries n.decided_is) ∙ h in
    let same : at ≡ size = cc in
    record { end = same; counted = n.counted; within = n.within }
at_end_by (bounds.Failed why) d r at size count coming o has h = absurd has
at_end_by bounds.Memory d r at size count coming o has h = absurd has

-- ---- together

same_decision : (behind : Behind) (id at : ℕ) (name password received answer : List ℕ) → at ≡ length received → answer ≡ answer_behind behind (message_bytes (bind_message id name password))
    → decided requests.Bind id at (received ++ answer) ≡ decided requests.Bind id (length received) (received ++ answer_behind behind (message_bytes (bind_message id name password)))
same_decision behind id at name password received answer at_is answer_is =
    ap (λ (place : ℕ). decided requests.Bind id place (received ++ answer)) at_is ∙ ap (λ (list : List ℕ). decided requests.Bind id (length received) (received ++ list)) answer_is

-- the bytes that answer a request are those of the directory behind a settled client
pub record IsAsked (behind : Behind) (id at : ℕ) (name password received answer : List ℕ) : Type 0 where
  pub small : id ≤ 2147483647
  pub few : length received ≤ 67108864
  pub at_is : at ≡ length received
  pub answer_is : answer ≡ answer_behind behind (message_bytes (bind_message id name password))

module _ (result : Bound) (behind : Behind) (id at at' : ℕ) (name password received answer : List ℕ) (coming : Option (List ℕ)) (asked : IsAsked behind id at name password received answer)
    (h : IsBoundBy result (decided requests.Bind id at (received ++ answer)) at' coming) where
  outcome_here : Outcome failed by_result (decided requests.Bind id (length received) (received ++ answer_behind behind (message_bytes (bind_message id name password)))) (told_bind behind (length received) id name password)
      (length (received ++ answer_behind behind (message_bytes (bind_message id name password)))) (length received + bind_reply_size behind id name password)
  outcome_here = outcome behind id name password received asked.small asked.few

  here : IsBoundBy result (decided requests.Bind id (length received) (received ++ answer_behind behind (message_bytes (bind_message id name password)))) at' coming
  here = subst (λ (d : Decision). IsBoundBy result d at' coming) (same_decision behind id at name password received answer asked.at_is asked.answer_is) h

  -- the result is what is told
  pub bound_told : IsToldBind result (told_bind behind (length received) id name password)
  bound_told =
      told_by result (decided requests.Bind id (length received) (received ++ answer_behind behind (message_bytes (bind_message id name password)))) (told_bind behind (length received) id name password) at'
      (length (received ++ answer_behind behind (message_bytes (bind_message id name password)))) (length received + bind_reply_size behind id name password) coming outcome_here here

  -- a client is settled again
  pub bound_settles : (new : List ℕ) → HasReply result → IsArrived received answer new coming → at' ≤ length new → IsRestored received new coming at' (bind_reply_size behind id name password)
  bound_settles new has arrival within =
      let e =
      at_end_by result (decided requests.Bind id (length received) (received ++ answer_behind behind (message_bytes (bind_message id name password)))) (told_bind behind (length received) id name password) at'
      (length (received ++ answer_behind behind (message_bytes (bind_message id name password)))) (length received + bind_reply_size behind id name password) coming outcome_here has here in
      restored received answer new coming at' (bind_reply_size behind id name password) arrival within
      (e.end ∙ ap (λ (list : List ℕ). length (received ++ list)) (sym asked.answer_is))
      (ap (λ (list : List ℕ). length (received ++ list)) asked.answer_is ∙ e.counted) e.within

-- the link failed behind the last byte: that is told
pub bound_ends : (behind : Behind) (id at at' : ℕ) (name password received answer : List ℕ) (coming : Option (List ℕ)) → IsAsked behind id at name password received answer
    → IsBoundBy (bounds.Failed whys.Link) (decided requests.Bind id at (received ++ answer)) at' coming → coming ≡ Some [] → told_bind behind (length received) id name password ≡ failed whys.Link
bound_ends behind id at at' name password received answer coming asked h quiet =
    ends_by (decided requests.Bind id (length received) (received ++ answer_behind behind (message_bytes (bind_message id name password)))) (told_bind behind (length received) id name password)
    (length (received ++ answer_behind behind (message_bytes (bind_message id name password)))) (length received + bind_reply_size behind id name password)
    (outcome behind id name password received asked.small asked.few)
    (sym (same_decision behind id at name password received answer asked.at_is asked.answer_is) ∙ h quiet)

-- a reply comes to a request that was sent, and it is no failure
pub was_sent : (result : Bound) (rose : Type 0) → HasReply result → IsUnbound result rose → ⊥
was_sent (bounds.Code result) rose has h = h
was_sent (bounds.Failed why) rose has h = has
was_sent bounds.Memory rose has h = has

pub no_failure : (result : Bound) → HasReply result → failure_by_bind result ≡ None
no_failure (bounds.Code result) has = refl
no_failure (bounds.Failed why) has = absurd has
no_failure bounds.Memory has = absurd has
