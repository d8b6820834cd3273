-- What all bytes decide is told, message by message, by sizes.
use Rattle.std.proofs.Common.{◌≡◌, ℕ, ◌+◌, ◌-◌, ◌^◌, ◌<◌, ◌≤◌, true, false, ltb, leb, List, [], ◌∷◌, ◌++◌, length, take, drop, Option, Some, None, refl, sym, ap, ◌∙◌, append_assoc, append-nil, arith, inl, inr}
use Rattle.std.proofs.Math.Seq.{take-append-add, drop-append_seam}
use Rattle.std.proofs.lemmas.Bool.{cases_lt, le-ltb, lt-ltb, le-leb, lt-leb}
use Rattle.std.proofs.lemmas.List.{length-append, take-append-le}
use Rattle.sd_base.specs.declared.Why.{Why}
use Rattle.sd_base.specs.declared.Why.TheVariants.{Bytes, Flood}
use Rattle.sd_ber.specs.Grammar.{IsLength}
use Rattle.sd_ldap.specs.declared.entry.DirEntry.{DirEntry}
use Rattle.sd_ldap.specs.Values.{MessageValue}
use Rattle.sd_ldap.specs.Spelling.{content_bytes}
use Rattle.sd_ldap.specs.MessageReading.{whole, unfinished, wrong, decode_of}
use Rattle.sd_dial.specs.Entries.{Framing}
use Rattle.sd_client.specs.declared.step.Request.{Request}
use Rattle.sd_client.specs.declared.step.Step.{Step}
use Rattle.sd_client.specs.declared.step.Step.TheVariants as steps
use Rattle.sd_client.specs.Heard.{step_of}
use Rattle.sd_client.specs.Deciding.{Decision, ended, failed, reply_at, flooded}
use Rattle.sd_client.proofs.Replies.{waits_at, finds_at, ends_at, fails_at}
use Rattle.sd_asking.specs.Sizes.{content_size, header_size, framed_size, limit_met}
use Rattle.sd_asking.proofs.Frames.{frame_long, front_cut, whole_cut}
use Rattle.sd_asking.proofs.Replies.{octets_by, spelled_by, header_by, framed_bytes, framed_is}

-- what bytes decide where reading goes on at a place, and some entries were found in front of it
abbrev pub decided_at : Request → ℕ → List DirEntry → ℕ → List ℕ → Decision
decided_at request id found at bytes = flooded (length bytes) (reply_at request id found at (take 67108864 bytes))

module _ (request : Request) (id : ℕ) (found : List DirEntry) (read front rest bytes : List ℕ) (parts : bytes ≡ read ++ (front ++ rest)) where
  joined : bytes ≡ (read ++ front) ++ rest
  joined = parts ∙ sym (append_assoc read front rest)

  -- what is behind bytes that are within the limit
  behind : List ℕ
  behind = take (67108864 - (length read + length front)) rest

  -- bytes within the limit are all taken
  taken : length read + length front ≤ 67108864 → take 67108864 bytes ≡ (read ++ front) ++ behind
  unfolding behind
  taken few =
      let size : length (read ++ front) ≡ length read + length front = length-append read front in
      let room : 67108864 ≡ length (read ++ front) + (67108864 - (length read + length front)) = omega (arith, size) in
      ap (take 67108864) joined
      ∙ ap (λ (n : ℕ). take n ((read ++ front) ++ rest)) room
      ∙ take-append-add (read ++ front) rest (67108864 - (length read + length front))

  there : length read ≤ length (read ++ front)
  there = omega (arith, length-append read front)

  stands : drop (length read) (read ++ front) ≡ front
  stands = drop-append_seam read front

  by_taken : (more : List DirEntry) (at : ℕ) → length read + length front ≤ 67108864
      → decided_at request id more at bytes ≡ flooded (length bytes) (reply_at request id more at ((read ++ front) ++ behind))
  by_taken more at few = ap (λ (list : List ℕ). flooded (length bytes) (reply_at request id more at list)) (taken few)

  heard : (s : Step) → s ≡ step_of request id (decode_of front) → s ≡ step_of request id (decode_of (drop (length read) (read ++ front)))
  heard s is = is ∙ ap (λ (list : List ℕ). step_of request id (decode_of list)) (sym stands)

  -- an entry within the limit is found
  pub finds : (e : DirEntry) → length read + length front ≤ 67108864 → steps.Found e (length front) ≡ step_of request id (decode_of front)
      → decided_at request id found (length read) bytes ≡ decided_at request id (found ++ e ∷ []) (length read + length front) bytes
  finds e few is =
      by_taken found (length read) few
      ∙ ap (flooded (length bytes)) (finds_at request id found e (length read) (length front) (read ++ front) behind there (heard (steps.Found e (length front)) is))
      ∙ sym (by_taken (found ++ e ∷ []) (length read + length front) few)

  -- the end within the limit ends the reply
  pub ends : (code : ℕ) → length read + length front ≤ 67108864 → steps.Ended code (length front) ≡ step_of request id (decode_of front)
      → decided_at request id found (length read) bytes ≡ ended found code (length read + length front)
  ends code few is =
      by_taken found (length read) few
      ∙ ap (flooded (length bytes)) (ends_at request id found code (length read) (length front) (read ++ front) behind there (heard (steps.Ended code (length front)) is))

  -- what is wrong within the limit fails
  pub fails : (at : ℕ) → length read + length front ≤ 67108864 → decode_of front ≡ wrong at → decided_at request id found (length read) bytes ≡ failed (Bytes at)
  fails at few is =
      by_taken found (length read) few
      ∙ ap (flooded (length bytes)) (fails_at request id found (Bytes at) (length read) (read ++ front) behind there (heard (steps.Failed (Bytes at)) (sym (ap (step_of request id) is))))

  -- what goes beyond the limit, and is unfinished before it, is a flood
  pub floods : length read ≤ 67108864 → 67108864 < length read + length front → decode_of (take (67108864 - length read) front) ≡ unfinished
      → decided_at request id found (length read) bytes ≡ failed (Flood 67108865)
  floods few many cut =
      let room : 67108864 ≡ length read + (67108864 - length read) = omega arith in
      let all : take 67108864 bytes ≡ read ++ take (67108864 - length read) (front ++ rest) =
      ap (take 67108864) parts ∙ ap (λ (n : ℕ). take n (read ++ (front ++ rest))) room ∙ take-append-add read (front ++ rest) (67108864 - length read) in
      let inside : take (67108864 - length read) (front ++ rest) ≡ take (67108864 - length read) front = take-append-le (67108864 - length read) front rest (omega arith) in
      let unread : drop (length read) (take 67108864 bytes) ≡ take (67108864 - length read) front =
      ap (drop (length read)) all ∙ drop-append_seam read (take (67108864 - length read) (front ++ rest)) ∙ inside in
      let size : length bytes ≡ length read + (length front + length rest) = ap length parts ∙ omega (arith, length-append read (front ++ rest), length-append front rest) in
      let test : ltb 67108864 (length bytes) ≡ true = lt-ltb _ _ (omega (arith, size)) in
      ap (flooded (length bytes)) (waits_at request id found (length read) (take 67108864 bytes) (ap decode_of unread ∙ cut))
      ∙ rw test refl

-- ---- which limit is met

module _ (framing : Framing) (count size : ℕ) where
  pub met_long : 16777216 < size → count + header_size framing size ≤ 67108864 → limit_met framing count size ≡ Some (Bytes 1)
  met_long long within = let l : ltb 16777216 size ≡ true = lt-ltb _ _ long in let w : leb (count + header_size framing size) 67108864 ≡ true = le-leb _ _ within in rw (l, w) refl

  pub met_late : 16777216 < size → 67108864 < count + header_size framing size → limit_met framing count size ≡ Some (Flood 67108865)
  met_late long beyond =
      let l : ltb 16777216 size ≡ true = lt-ltb _ _ long in
      let w : leb (count + header_size framing size) 67108864 ≡ false = lt-leb _ _ beyond in
      let f : ltb 67108864 (count + framed_size framing size) ≡ true = lt-ltb _ _ (omega arith) in
      rw (l, w, f) refl

  pub met_flood : size ≤ 16777216 → 67108864 < count + framed_size framing size → limit_met framing count size ≡ Some (Flood 67108865)
  met_flood fits beyond =
      let l : ltb 16777216 size ≡ false = le-ltb _ _ fits in
      let f : ltb 67108864 (count + framed_size framing size) ≡ true = lt-ltb _ _ beyond in
      rw (l, f) refl

  pub met_none : size ≤ 16777216 → count + framed_size framing size ≤ 67108864 → limit_met framing count size ≡ None
  met_none fits within =
      let l : ltb 16777216 size ≡ false = le-ltb _ _ fits in
      let f : ltb 67108864 (count + framed_size framing size) ≡ false = le-ltb _ _ within in
      rw (l, f) refl

abbrev pub decision_by : Option Why → Decision → Decision
decision_by (Some why) d = failed why
decision_by None d = d

-- ---- one message

-- a message in a framing: its contents have a length that four octets tell, and where they are short enough all of it is decoded
pub record IsFramed (framing : Framing) (m : MessageValue) : Type 0 where
  pub small : content_size m < 2 ^ 32
  pub decodes : content_size m ≤ 16777216 → decode_of (framed_bytes framing m) ≡ whole m (length (framed_bytes framing m))

pub framed_length : (framing : Framing) (m : MessageValue) → length (framed_bytes framing m) ≡ framed_size framing (content_size m)
framed_length framing m =
    ap length (framed_is framing m) ∙ omega (arith, header_by framing (length (content_bytes m)), length-append (octets_by framing (length (content_bytes m))) (content_bytes m))

module _ (request : Request) (id : ℕ) (found : List DirEntry) (framing : Framing) (m : MessageValue) (is : IsFramed framing m) (read rest bytes : List ℕ) (parts : bytes ≡ read ++ (framed_bytes framing m ++ rest)) (few : length read ≤ 67108864) where
  -- the tag and the octets of the length
  head : List ℕ
  head = 48 ∷ octets_by framing (length (content_bytes m))

  split : framed_bytes framing m ++ rest ≡ head ++ (content_bytes m ++ rest)
  unfolding head
  split = ap (λ (list : List ℕ). list ++ rest) (framed_is framing m) ∙ ap (λ (list : List ℕ). 48 ∷ list) (append_assoc (octets_by framing (length (content_bytes m))) (content_bytes m) rest)

  by_head : bytes ≡ read ++ (head ++ (content_bytes m ++ rest))
  by_head = parts ∙ ap (λ (list : List ℕ). read ++ list) split

  head_length : length head ≡ header_size framing (content_size m)
  unfolding head
  head_length = omega (arith, header_by framing (length (content_bytes m)))

  spelled : IsLength (octets_by framing (length (content_bytes m))) (length (content_bytes m))
  spelled = spelled_by framing (length (content_bytes m)) is.small

  -- it is too long, as its header tells
  too_long : 16777216 < content_size m → length read + header_size framing (content_size m) ≤ 67108864 → decided_at request id found (length read) bytes ≡ failed (Bytes 1)
  unfolding head
  too_long long within =
      let wrong_head : decode_of head ≡ wrong 1 =
      ap (λ (list : List ℕ). decode_of (48 ∷ list)) (sym (append-nil (octets_by framing (length (content_bytes m))))) ∙ frame_long (octets_by framing (length (content_bytes m))) [] (length (content_bytes m)) spelled long in
      fails request id found read head (content_bytes m ++ rest) bytes by_head 1 (omega (arith, head_length)) wrong_head

  -- it is too long, and its header goes beyond the limit
  too_late : 67108864 < length read + header_size framing (content_size m) → decided_at request id found (length read) bytes ≡ failed (Flood 67108865)
  unfolding head
  too_late beyond =
      floods request id found read head (content_bytes m ++ rest) bytes by_head few (omega (arith, head_length))
      (front_cut (octets_by framing (length (content_bytes m))) (length (content_bytes m)) (67108864 - length read) spelled (omega (arith, head_length)))

  -- it goes beyond the limit
  too_far : content_size m ≤ 16777216 → 67108864 < length read + framed_size framing (content_size m) → decided_at request id found (length read) bytes ≡ failed (Flood 67108865)
  too_far fits beyond =
      floods request id found read (framed_bytes framing m) rest bytes parts few (omega (arith, framed_length framing m))
      (whole_cut (framed_bytes framing m) m (67108864 - length read) (is.decodes fits) (omega (arith, framed_length framing m)))

  -- a message decides by the limit that it meets, else by what it is
  pub one : (next : Decision) → (content_size m ≤ 16777216 → length read + framed_size framing (content_size m) ≤ 67108864 → decided_at request id found (length read) bytes ≡ next)
      → decided_at request id found (length read) bytes ≡ decision_by (limit_met framing (length read) (content_size m)) next
  one next goes =
      elim (cases_lt 16777216 (content_size m)) [
        | inl long ↦
            elim (cases_lt 67108864 (length read + header_size framing (content_size m))) [
              | inl beyond ↦ too_late beyond ∙ sym (ap (λ (o : Option Why). decision_by o next) (met_late framing (length read) (content_size m) long beyond))
              | inr within ↦ too_long long within ∙ sym (ap (λ (o : Option Why). decision_by o next) (met_long framing (length read) (content_size m) long within))
            ]
        | inr fits ↦
            elim (cases_lt 67108864 (length read + framed_size framing (content_size m))) [
              | inl beyond ↦ too_far fits beyond ∙ sym (ap (λ (o : Option Why). decision_by o next) (met_flood framing (length read) (content_size m) fits beyond))
              | inr within ↦ goes fits within ∙ sym (ap (λ (o : Option Why). decision_by o next) (met_none framing (length read) (content_size m) fits within))
            ]
      ]
