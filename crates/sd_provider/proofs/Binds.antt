-- What a bind comes to over a link to a server, by its mode.
use Rattle.std.proofs.Common.{◌≡◌, ℕ, ◌+◌, ◌^◌, ◌<◌, ◌≤◌, true, false, List, [], ◌++◌, ◌⊎◌, length, Some, None, refl, sym, ap, subst, ◌∙◌, arith, inl, inr}
use Rattle.std.proofs.lemmas.Bool.{cases_lt, le-ltb, lt-ltb}
use Rattle.sd_base.specs.Causes.{Rose}
use Rattle.sd_base.specs.declared.Why.{Why}
use Rattle.sd_base.specs.declared.Why.TheVariants as whys
use Rattle.sd_rules.specs.declared.tasks.Bound.{Bound}
use Rattle.sd_rules.specs.declared.tasks.Bound.TheVariants as bounds
use Rattle.sd_rules.specs.Scripts.{is_bind_out_of_memory}
use Rattle.sd_ber.specs.Octets.{length_octets}
use Rattle.sd_ber.proofs.Lengths.{spelled}
use Rattle.sd_ldap.specs.declared.entry.DirEntry.{DirEntry}
use Rattle.sd_ldap.specs.Values.{MessageValue, bind_response}
use Rattle.sd_ldap.specs.Spelling.{message_bytes}
use Rattle.sd_ldap.specs.Sound.{IsSound}
use Rattle.sd_match.specs.Answering.{told, reply, bind_code}
use Rattle.sd_dial.specs.Entries.{shortest, four_octets, Behind}
use Rattle.sd_dial.specs.Rooms.{are_short}
use Rattle.sd_client.specs.declared.step.Request.{Request}
use Rattle.sd_client.specs.declared.step.Request.TheVariants as requests
use Rattle.sd_client.specs.Deciding.{Decision, undecided, ended, decided}
use Rattle.sd_client.specs.Deciding as decisions
use Rattle.sd_client.specs.Talk.{Talk, bind_message, without_entries, IsUnbound, failure_by_bind}
use Rattle.sd_asking.specs.Laws.{CutDecides, IndefiniteDecides, CodeDecides}
use Rattle.sd_asking.specs.Sizes.{content_size, is_too_long}
use Rattle.sd_asking.specs.Settled.{IsSettled, IsFailedBy}
use Rattle.sd_asking.specs.Binding.{ToldBound, failed, told_bind, IsToldFailure, IsToldBind, IsBoundBy}
use Rattle.sd_asking.proofs.Requests.{few_octets}
use Rattle.sd_asking.proofs.Rooms.{bound_fits}
use Rattle.sd_asking.proofs.Walk.{framed_length}
use Rattle.sd_stub.specs.declared.Mode.{Mode}
use Rattle.sd_stub.specs.declared.Mode.TheVariants as modes
use Rattle.sd_stub_link.specs.Distinct.{have_own_dns}
use Rattle.sd_stub_link.specs.Modes.{is_down, answer_by}
use Rattle.sd_stub_link.specs.Standing.{Standing, made, rest_of, coming_of, behind_of, answer_of}
use Rattle.sd_provider.specs.Servers.{behind_in, bound_told, HasCode, bound_in}
use Rattle.sd_provider.proofs.Answering.{cut_few, cut_long, indefinite_rest, indefinite_few, indefinite_long, coded_few, coded_long}

-- a client that was just made over a link to a server
abbrev pub fresh : List DirEntry → Mode → Talk Standing
fresh entries mode = record { link = made entries mode [] 0; received = []; at = 0; next = 1; failed = None }

pub fresh_settled : (entries : List DirEntry) (mode : Mode) → IsSettled (fresh entries mode) (Some [])
fresh_settled entries mode = record { well = refl; read = refl; short = omega arith; quiet = refl }

-- no byte decides nothing
pub no_bytes : (request : Request) (id : ℕ) → decided request id 0 [] ≡ undecided
unfolding decisions.reply
no_bytes request id = refl

-- ---- the result by the bytes that answer

abbrev pub by_decision : Decision → Bound
by_decision undecided = bounds.Failed whys.Link
by_decision (ended found result at) = bounds.Code result
by_decision (decisions.failed why) = bounds.Failed why

without : (d : Decision) → by_decision (without_entries d) ≡ by_decision d
without undecided = refl
without (ended found result at) = refl
without (decisions.failed why) = refl

-- want of memory, a link that found none, or the answer
abbrev pub Comes : Bound → Talk Standing → Bound → Type 0
Comes result new answer = (is_bind_out_of_memory result ≡ true) ⊎ (((new.failed ≡ Some whys.Link) × (new.link.starved ≡ true)) ⊎ (result ≡ answer))

failed_by : (why : Why) (d : Decision) (new : Talk Standing) → new.failed ≡ Some why → IsFailedBy why d (coming_of new.link) → (why ≡ whys.Link → (new.link.starved ≡ true) ⊎ (rest_of new.link ≡ [])) → Comes (bounds.Failed why) new (by_decision d)
failed_by whys.Link d new fails h quiet =
    elim (quiet refl) [
      | inl starved ↦ inr (inl (fails, starved))
      | inr none ↦ inr (inr (sym (ap by_decision (h (ap (λ (rest : List ℕ). Some rest) none)))))
    ]
failed_by (whys.Bytes at) d new fails h quiet = inr (inr (sym (ap by_decision h)))
failed_by (whys.Message tag) d new fails h quiet = inr (inr (sym (ap by_decision h)))
failed_by (whys.Flood count) d new fails h quiet = inr (inr (sym (ap by_decision h)))
failed_by (whys.Code result) d new fails h quiet = absurd h

by_bytes : (result : Bound) (d : Decision) (new : Talk Standing) → new.failed ≡ failure_by_bind result → IsBoundBy result d new.at (coming_of new.link)
    → (result ≡ bounds.Failed whys.Link → (new.link.starved ≡ true) ⊎ (rest_of new.link ≡ [])) → Comes result new (by_decision d)
by_bytes (bounds.Code result) d new fails h quiet = inr (inr (sym (ap by_decision h) ∙ without d))
by_bytes (bounds.Failed why) d new fails h quiet = failed_by why d new fails h (λ e. quiet (ap bounds.Failed e))
by_bytes bounds.Memory d new fails h quiet = inl refl

-- ---- the result by the directory told

told_failed : (why : Why) (r : ToldBound) (new : Talk Standing) → new.failed ≡ Some why → IsToldFailure why r → (why ≡ whys.Link → (new.link.starved ≡ true) ⊎ (r ≡ failed whys.Link)) → Comes (bounds.Failed why) new (bound_told r)
told_failed whys.Link r new fails h quiet =
    elim (quiet refl) [
      | inl starved ↦ inr (inl (fails, starved))
      | inr told_is ↦ inr (inr (sym (ap bound_told told_is)))
    ]
told_failed (whys.Bytes at) r new fails h quiet = inr (inr (sym (ap bound_told h)))
told_failed (whys.Message tag) r new fails h quiet = inr (inr (sym (ap bound_told h)))
told_failed (whys.Flood count) r new fails h quiet = inr (inr (sym (ap bound_told h)))
told_failed (whys.Code result) r new fails h quiet = inr (inr (sym (ap bound_told h)))

by_told : (result : Bound) (r : ToldBound) (new : Talk Standing) → new.failed ≡ failure_by_bind result → IsToldBind result r
    → (result ≡ bounds.Failed whys.Link → (new.link.starved ≡ true) ⊎ (r ≡ failed whys.Link)) → Comes result new (bound_told r)
by_told (bounds.Code result) r new fails h quiet = inr (inr (sym (ap bound_told h)))
by_told (bounds.Failed why) r new fails h quiet = told_failed why r new fails h (λ e. quiet (ap bounds.Failed e))
by_told bounds.Memory r new fails h quiet = inl refl

-- a request that was not sent
unsent : (result : Bound) (rose : Type 0) (new : Talk Standing) (answer : Bound) → new.failed ≡ failure_by_bind result → IsUnbound result (rose × (new.link.starved ≡ true)) → Comes result new answer
unsent (bounds.Code result) rose new answer fails h = absurd h
unsent (bounds.Failed why) rose new answer fails h = inr (inl (fails ∙ ap (λ (w : Why). Some w) h.0, h.1.1))
unsent bounds.Memory rose new answer fails h = inl refl

-- ---- the bytes of each mode

bind_sound : (dn password : List ℕ) → IsSound (bind_message 1 dn password)
bind_sound dn password = record { id = omega arith; operation = (omega arith, omega arith) }

abbrev decision : Mode → List DirEntry → List ℕ → List ℕ → Decision
decision mode entries dn password = decided requests.Bind 1 0 (answer_by mode entries (message_bytes (bind_message 1 dn password)))

abbrev decides : List ℕ → Bound
decides bytes = by_decision (decided requests.Bind 1 0 bytes)

in_cut : CutDecides → (entries : List DirEntry) (dn password : List ℕ) → by_decision (decision modes.Cut entries dn password) ≡ bound_in modes.Cut entries dn password
unfolding bound_in
in_cut law entries dn password =
    let m = bind_message 1 dn password in
    elim (cases_lt 16777216 (content_size m)) [
      | inl long ↦ ap decides (cut_long entries m long) ∙ ap by_decision (no_bytes requests.Bind 1)
      | inr fits ↦ ap decides (cut_few entries m (reply 1 (bind_response (told (bind_code entries dn password)))) [] (bind_sound dn password) fits refl) ∙ ap by_decision (law requests.Bind 1 [] (omega arith))
    ]

in_indefinite : IndefiniteDecides → (entries : List DirEntry) (dn password : List ℕ) → by_decision (decision modes.Indef entries dn password) ≡ bound_in modes.Indef entries dn password
unfolding bound_in
in_indefinite law entries dn password =
    let m = bind_message 1 dn password in
    let first = reply 1 (bind_response (told (bind_code entries dn password))) in
    elim (cases_lt 16777216 (content_size m)) [
      | inl long ↦
          let test : is_too_long (content_size m) ≡ true = lt-ltb _ _ long in
          rw test (ap decides (indefinite_long entries m long) ∙ ap by_decision (no_bytes requests.Bind 1))
      | inr fits ↦
          let test : is_too_long (content_size m) ≡ false = le-ltb _ _ fits in
          rw test (ap decides (indefinite_few entries m first [] (bind_sound dn password) fits refl) ∙ ap by_decision (law requests.Bind 1 [] (indefinite_rest first []) (omega arith)))
    ]

-- a code alone takes few bytes
pub code_small : (m : MessageValue) → content_size m ≤ 64 → length (message_bytes m) ≤ 70
code_small m few = let size = content_size m in omega (arith, framed_length shortest m, few_octets (length_octets size) size (spelled size (omega (arith, few))), few)

in_code : CodeDecides → (result : ℕ) → result < 2 ^ 32 → (entries : List DirEntry) (dn password : List ℕ) → by_decision (decision (modes.Code result) entries dn password) ≡ bound_in (modes.Code result) entries dn password
unfolding bound_in
in_code law result few entries dn password =
    let m = bind_message 1 dn password in
    let first = reply 1 (bind_response (told result)) in
    elim (cases_lt 16777216 (content_size m)) [
      | inl long ↦
          let test : is_too_long (content_size m) ≡ true = lt-ltb _ _ long in
          rw test (ap decides (coded_long result entries m long) ∙ ap by_decision (no_bytes requests.Bind 1))
      | inr fits ↦
          let test : is_too_long (content_size m) ≡ false = le-ltb _ _ fits in
          rw test (ap decides (coded_few result entries m first (bind_sound dn password) fits refl) ∙ ap by_decision (law requests.Bind 1 result [] (omega arith) few (omega (arith, code_small first (bound_fits 1 result)))))
    ]

-- ---- together

-- what a bind says of a client
pub record IsBinding (dn password : List ℕ) (result : Bound) (old new : Talk Standing) : Type 0 where
  pub used : (new.next ≡ old.next) ⊎ (new.next ≡ old.next + 1)
  pub no_reply : old.failed ≡ None → new.next ≡ old.next → IsUnbound result (Rose old.link.faults new.link.faults × (new.link.starved ≡ true))
  pub fails : old.failed ≡ None → new.failed ≡ failure_by_bind result
  pub cause : old.failed ≡ None → result ≡ bounds.Failed whys.Link → Rose old.link.faults new.link.faults × (((new.next ≡ old.next) × (new.link.starved ≡ true)) ⊎ ((new.next ≡ old.next + 1) × (rest_of new.link ≡ [])))
  pub answered : IsSettled old (coming_of old.link) → new.next ≡ old.next + 1 → IsBoundBy result (decided requests.Bind old.next old.at (old.received ++ answer_of old.link (message_bytes (bind_message old.next dn password)))) new.at (coming_of new.link)
  pub told : (behind : Behind) → behind_of old.link ≡ Some behind → IsSettled old (coming_of old.link) → IsToldBind result (told_bind behind (length old.received) old.next dn password)
  pub ends : (behind : Behind) → behind_of old.link ≡ Some behind → IsSettled old (coming_of old.link) → new.next ≡ old.next + 1 → coming_of new.link ≡ Some [] → result ≡ bounds.Failed whys.Link → told_bind behind (length old.received) old.next dn password ≡ failed whys.Link

module _ (entries : List DirEntry) (mode : Mode) (dn password : List ℕ) (result : Bound) (new : Talk Standing) (is : IsBinding dn password result (fresh entries mode) new) where
  settled : IsSettled (fresh entries mode) (coming_of (fresh entries mode).link)
  settled = fresh_settled entries mode

  by_answer : answer_of (made entries mode [] 0) (message_bytes (bind_message 1 dn password)) ≡ answer_by mode entries (message_bytes (bind_message 1 dn password)) → Comes result new (by_decision (decision mode entries dn password))
  by_answer same =
      elim is.used [
        | inl none ↦ unsent result _ new _ (is.fails refl) (is.no_reply refl none)
        | inr used ↦
            by_bytes result (decision mode entries dn password) new (is.fails refl)
            (subst (λ (bytes : List ℕ). IsBoundBy result (decided requests.Bind 1 0 bytes) new.at (coming_of new.link)) same (is.answered settled used))
            (λ e. elim (is.cause refl e).1 [
              | inl starved ↦ inl starved.1
              | inr quiet ↦ inr quiet.1
            ])
      ]

  by_behind : (behind : Behind) → behind_of (made entries mode [] 0) ≡ Some behind → Comes result new (bound_told (told_bind behind 0 1 dn password))
  by_behind behind known =
      by_told result (told_bind behind 0 1 dn password) new (is.fails refl) (is.told behind known settled)
      (λ e. elim (is.cause refl e).1 [
        | inl starved ↦ inl starved.1
        | inr quiet ↦ inr (is.ends behind known settled quiet.0 (ap (λ (rest : List ℕ). Some rest) quiet.1) e)
      ])

pub bound_by_mode : CutDecides → IndefiniteDecides → CodeDecides → (entries : List DirEntry) (mode : Mode) (dn password : List ℕ) (result : Bound) (new : Talk Standing) → is_down mode ≡ false → HasCode mode → have_own_dns entries ≡ true → are_short entries ≡ true
    → IsBinding dn password result (fresh entries mode) new → Comes result new (bound_in mode entries dn password)
unfolding bound_in
bound_by_mode cut indefinite coded entries modes.Up dn password result new takes has own short is = by_behind entries modes.Up dn password result new is (behind_in shortest entries) (rw (own, short) refl)
bound_by_mode cut indefinite coded entries modes.Long dn password result new takes has own short is = by_behind entries modes.Long dn password result new is (behind_in four_octets entries) (rw (own, short) refl)
bound_by_mode cut indefinite coded entries modes.Down dn password result new takes has own short is = absurd cc
bound_by_mode cut indefinite coded entries modes.Cut dn password result new takes has own short is =
    subst (Comes result new) (in_cut cut entries dn password) (by_answer entries modes.Cut dn password result new is refl)
bound_by_mode cut indefinite coded entries modes.Indef dn password result new takes has own short is =
    subst (Comes result new) (in_indefinite indefinite entries dn password) (by_answer entries modes.Indef dn password result new is refl)
bound_by_mode cut indefinite coded entries (modes.Code number) dn password result new takes has own short is =
    subst (Comes result new) (in_code coded number has entries dn password) (by_answer entries (modes.Code number) dn password result new is refl)
