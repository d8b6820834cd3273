-- What all bytes that answer a request decide, beside what is told of it.
use Rattle.std.proofs.Common.{◌≡◌, ℕ, ◌+◌, ◌≤◌, ◌<◌, List, [], ◌∷◌, ◌++◌, length, drop, Option, Some, None, refl, sym, ap, ◌∙◌, append-nil, arith, inl, inr, ◌⊎◌}
use Rattle.std.proofs.Math.Seq.{drop-append_seam}
use Rattle.std.proofs.lemmas.Bool.{cases_lt}
use Rattle.sd_base.specs.declared.Why.{Why}
use Rattle.sd_base.specs.declared.Why.TheVariants as whys
use Rattle.sd_ldap.specs.declared.entry.DirEntry.{DirEntry}
use Rattle.sd_ldap.specs.Values.{MessageValue}
use Rattle.sd_ldap.specs.Spelling.{message_bytes}
use Rattle.sd_ldap.specs.MessageReading.{unfinished, decode_of}
use Rattle.sd_dial.specs.Entries.{Framing, Behind, answer_behind}
use Rattle.sd_client.specs.declared.step.Request.{Request}
use Rattle.sd_client.specs.Deciding.{Decision, undecided, ended, failed, decided}
use Rattle.sd_client.proofs.Replies.{waits_at}
use Rattle.sd_client.proofs.Decisions.{decided_within}
use Rattle.sd_asking.specs.Sizes.{content_size, header_size, framed_size, total_size, limit_met, or_later, first_limit}
use Rattle.sd_asking.proofs.Walk.{decision_by, met_flood, met_long, met_late}
use Rattle.sd_asking.proofs.Requests.{unanswered}

-- nothing is decided, and the link's failure is told
pub record IsNothing {T : Type 0} (d : Decision) (told nothing : T) : Type 0 where
  pub decided_is : d ≡ undecided
  pub told_is : told ≡ nothing

-- a limit is met
pub record IsLimited {T : Type 0} (fail : Why → T) (d : Decision) (told : T) : Type 0 where
  pub why : Why
  pub decided_is : d ≡ failed why
  pub told_is : told ≡ fail why

-- the reply ends, at the end of all bytes
pub record IsEnded {T : Type 0} (reply : List DirEntry → ℕ → T) (d : Decision) (told : T) (size count : ℕ) : Type 0 where
  pub entries : List DirEntry
  pub code : ℕ
  pub decided_is : d ≡ ended entries code size
  pub told_is : told ≡ reply entries code
  pub counted : size ≡ count
  pub within : count ≤ 67108864

abbrev pub Outcome : {T : Type 0} → (Why → T) → (List DirEntry → ℕ → T) → Decision → T → ℕ → ℕ → Type 0
Outcome fail reply d told size count = IsNothing d told (fail whys.Link) ⊎ (IsLimited fail d told ⊎ IsEnded reply d told size count)

-- an outcome by the limit that is met
pub by_first : {T : Type 0} (fail : Why → T) (reply : List DirEntry → ℕ → T) (limited : Option Why → T) (o : Option Why) (d : Decision) (told : T) (size count : ℕ) (entries : List DirEntry) (code : ℕ)
    → d ≡ decision_by o (ended entries code count) → told ≡ limited o → ((why : Why) → limited (Some why) ≡ fail why) → limited None ≡ reply entries code → size ≡ count → (o ≡ None → count ≤ 67108864)
    → Outcome fail reply d told size count
by_first fail reply limited (Some why) d told size count entries code is tells some none counted within = inr (inl (record { why = why; decided_is = is; told_is = tells ∙ some why }))
by_first fail reply limited None d told size count entries code is tells some none counted within =
    inr
    (inr (record {
      entries = entries;
      code = code;
      decided_is = is ∙ ap (λ (at : ℕ). ended entries code at) (sym counted);
      told_is = tells ∙ none;
      counted = counted;
      within = within refl;
    }))

-- ---- where no limit is met, all is within it

met_within : (framing : Framing) (count size : ℕ) → limit_met framing count size ≡ None → count + framed_size framing size ≤ 67108864
met_within framing count size none =
    elim (cases_lt 16777216 size) [
      | inl long ↦
          elim (cases_lt 67108864 (count + header_size framing size)) [
            | inl beyond ↦ let bad : Some (whys.Flood 67108865) ≡ None = sym (met_late framing count size long beyond) ∙ none in absurd cc
            | inr within ↦ let bad : Some (whys.Bytes 1) ≡ None = sym (met_long framing count size long within) ∙ none in absurd cc
          ]
      | inr fits ↦
          elim (cases_lt 67108864 (count + framed_size framing size)) [
            | inl beyond ↦ let bad : Some (whys.Flood 67108865) ≡ None = sym (met_flood framing count size fits beyond) ∙ none in absurd cc
            | inr within ↦ within
          ]
    ]

both_none : (o p : Option Why) → or_later o p ≡ None → (o ≡ None) × (p ≡ None)
both_none (Some why) p e = absurd cc
both_none None p e = (refl, e)

pub all_within : (framing : Framing) (count : ℕ) (sizes : List ℕ) → count ≤ 67108864 → first_limit framing count sizes ≡ None → count + total_size framing sizes ≤ 67108864
all_within framing count [] few none = omega arith
all_within framing count (size ∷ sizes) few none =
    let both = both_none (limit_met framing count size) (first_limit framing (count + framed_size framing size) sizes) none in
    let here = met_within framing count size both.0 in
    omega (arith, all_within framing (count + framed_size framing size) sizes here both.1)

-- ---- where the request is too long, nothing comes

no_bytes : decode_of [] ≡ unfinished
unfolding decode_of
no_bytes = refl

pub nothing_comes : (request : Request) (id : ℕ) (behind : Behind) (m : MessageValue) (received : List ℕ) → 16777216 < content_size m → length received ≤ 67108864
    → decided request id (length received) (received ++ answer_behind behind (message_bytes m)) ≡ undecided
nothing_comes request id behind m received long few =
    let all : received ++ answer_behind behind (message_bytes m) ≡ received = ap (λ (bytes : List ℕ). received ++ bytes) (unanswered behind m long) ∙ append-nil received in
    let none : drop (length received) received ≡ [] = ap (drop (length received)) (sym (append-nil received)) ∙ drop-append_seam received [] in
    ap (λ (bytes : List ℕ). decided request id (length received) bytes) all
    ∙ decided_within request id (length received) received few
    ∙ waits_at request id [] (length received) received (ap decode_of none ∙ no_bytes)
