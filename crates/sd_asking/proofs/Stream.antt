-- What a stream of entries and a code behind them decides.
use Rattle.std.proofs.Common.{◌≡◌, ℕ, ◌+◌, ◌^◌, ◌<◌, ◌≤◌, List, [], ◌∷◌, ◌++◌, length, map, Option, Some, None, refl, sym, ap, ◌∙◌, append_assoc, append-nil, arith}
use Rattle.std.specs.List.{flat_map}
use Rattle.std.proofs.lemmas.Bool.{eq-eqb}
use Rattle.std.proofs.lemmas.List.{length-append}
use Rattle.sd_base.specs.declared.Why.{Why}
use Rattle.sd_ldap.specs.declared.entry.DirEntry.{DirEntry}
use Rattle.sd_ldap.specs.Values.{OperationValue, MessageValue, entry, done}
use Rattle.sd_ldap.specs.Spelling.{content_bytes}
use Rattle.sd_ldap.specs.MessageReading.{whole, decode_of}
use Rattle.sd_match.specs.Answering.{told, reply}
use Rattle.sd_dial.specs.Entries.{Framing}
use Rattle.sd_client.specs.declared.step.Request.{Request}
use Rattle.sd_client.specs.declared.step.Request.TheVariants as requests
use Rattle.sd_client.specs.declared.step.Step.{Step}
use Rattle.sd_client.specs.declared.step.Step.TheVariants as steps
use Rattle.sd_client.specs.Heard.{operation_heard, message_heard, step_of}
use Rattle.sd_client.specs.Deciding.{Decision, ended}
use Rattle.sd_asking.specs.Sizes.{content_size, framed_size, total_size, limit_met, or_later, first_limit}
use Rattle.sd_asking.proofs.Frames.{frame, frame_whole}
use Rattle.sd_asking.proofs.Replies.{octets_by, spelled_by, framed_bytes, framed_is, IsReadable, message_again}
use Rattle.sd_asking.proofs.Walk.{decided_at, decision_by, IsFramed, framed_length, finds, ends, one}

-- a reply is framed where its contents are short enough
pub framed : (framing : Framing) (m : MessageValue) → m.id ≤ 2147483647 → IsReadable m.operation → content_size m < 2 ^ 32 → IsFramed framing m
framed framing m id readable small =
    let octets = octets_by framing (length (content_bytes m)) in
    let body = content_bytes m in
    let again = message_again (0 + (1 + length octets)) m id readable small in
    let all : content_size m ≤ 16777216 → decode_of (frame octets body) ≡ whole m (length (frame octets body)) =
    λ fits. ap decode_of (sym (append-nil (frame octets body))) ∙ frame_whole octets body [] m (spelled_by framing (length body) small) fits again in
    record {
      small = small;
      decodes = λ fits. ap decode_of (framed_is framing m) ∙ all fits ∙ ap (λ (list : List ℕ). whole m (length list)) (sym (framed_is framing m));
    }

-- ---- what replies say

-- what a whole message of the id says is what its operation says
heard_own : (request : Request) (id used : ℕ) (op : OperationValue) (bytes : List ℕ) (s : Step) → decode_of bytes ≡ whole (reply id op) used → operation_heard request used op ≡ s → s ≡ step_of request id (decode_of bytes)
heard_own request id used op bytes s is says =
    let own : message_heard request id used (reply id op) ≡ s = rw (eq-eqb id id refl) says in
    sym (ap (step_of request id) is ∙ own)

-- ---- entries and the code behind them

abbrev pub replies : ℕ → ℕ → List DirEntry → List MessageValue
replies id code [] = reply id (done (told code)) ∷ []
replies id code (e ∷ entries) = reply id (entry e) ∷ replies id code entries

abbrev pub AreFramed : Framing → List MessageValue → Type 0
AreFramed framing [] = Unit {0}
AreFramed framing (m ∷ messages) = IsFramed framing m × AreFramed framing messages

no_later : (o : Option Why) (d : Decision) → decision_by o d ≡ decision_by (or_later o None) d
no_later (Some why) d = refl
no_later None d = refl

later : (o p : Option Why) (d : Decision) → decision_by o (decision_by p d) ≡ decision_by (or_later o p) d
later (Some why) p d = refl
later None p d = refl

-- one message that ends the reply
pub ends_alone : (request : Request) (id : ℕ) (found : List DirEntry) (framing : Framing) (op : OperationValue) (code : ℕ) (read bytes : List ℕ) → ((used : ℕ) → operation_heard request used op ≡ steps.Ended code used)
    → IsFramed framing (reply id op) → bytes ≡ read ++ (framed_bytes framing (reply id op) ++ []) → length read ≤ 67108864
    → decided_at request id found (length read) bytes
    ≡ decision_by (first_limit framing (length read) (content_size (reply id op) ∷ [])) (ended found code (length read + total_size framing (content_size (reply id op) ∷ [])))
ends_alone request id found framing op code read bytes says is parts few =
    let m = reply id op in
    let front = framed_bytes framing m in
    let size = framed_size framing (content_size m) in
    let place : length read + length front ≡ length read + (size + 0) = omega (arith, framed_length framing m) in
    one request id found framing m is read [] bytes parts few (ended found code (length read + (size + 0)))
    (λ fits within.
    ends request id found read front [] bytes parts code (omega (arith, framed_length framing m)) (heard_own request id (length front) op front (steps.Ended code (length front)) (is.decodes fits) (says (length front)))
    ∙ ap (λ (at : ℕ). ended found code at) place)
    ∙ no_later (limit_met framing (length read) (content_size m)) (ended found code (length read + (size + 0)))

-- what a stream decides
pub walk : (id code : ℕ) (framing : Framing) (bytes : List ℕ) (entries found : List DirEntry) (read : List ℕ) → AreFramed framing (replies id code entries)
    → bytes ≡ read ++ flat_map (framed_bytes framing) (replies id code entries) → length read ≤ 67108864
    → decided_at requests.Search id found (length read) bytes
    ≡ decision_by (first_limit framing (length read) (map content_size (replies id code entries))) (ended (found ++ entries) code (length read + total_size framing (map content_size (replies id code entries))))
walk id code framing bytes [] found read are parts few =
    ends_alone requests.Search id found framing (done (told code)) code read bytes (λ used. refl) are.0 parts few
    ∙ ap
    (λ (list : List DirEntry). decision_by (first_limit framing (length read) (map content_size (replies id code []))) (ended list code (length read + total_size framing (map content_size (replies id code [])))))
    (sym (append-nil found))
walk id code framing bytes (e ∷ entries) found read are parts few =
    let m = reply id (entry e) in
    let front = framed_bytes framing m in
    let size = framed_size framing (content_size m) in
    let sizes = map content_size (replies id code entries) in
    let rest = flat_map (framed_bytes framing) (replies id code entries) in
    let long : length (read ++ front) ≡ length read + size = omega (arith, framed_length framing m, length-append read front) in
    let place : length read + length front ≡ length (read ++ front) = omega (arith, length-append read front) in
    let regrouped : bytes ≡ (read ++ front) ++ rest = parts ∙ sym (append_assoc read front rest) in
    let next : Decision = decision_by (first_limit framing (length read + size) sizes) (ended (found ++ e ∷ entries) code (length read + (size + total_size framing sizes))) in
    let sum : length read + size + total_size framing sizes ≡ length read + (size + total_size framing sizes) = omega arith in
    one requests.Search id found framing m are.0 read rest bytes parts few next
    (λ fits within.
    finds requests.Search id found read front rest bytes parts e (omega (arith, framed_length framing m)) (heard_own requests.Search id (length front) (entry e) front (steps.Found e (length front)) (are.0.decodes fits) refl)
    ∙ ap (λ (at : ℕ). decided_at requests.Search id (found ++ e ∷ []) at bytes) place
    ∙ walk id code framing bytes entries (found ++ e ∷ []) (read ++ front) are.1 regrouped (omega (arith, long))
    ∙ ap (λ (count : ℕ). decision_by (first_limit framing count sizes) (ended ((found ++ e ∷ []) ++ entries) code (count + total_size framing sizes))) long
    ∙ ap (λ (list : List DirEntry). decision_by (first_limit framing (length read + size) sizes) (ended list code (length read + size + total_size framing sizes))) (append_assoc found (e ∷ []) entries)
    ∙ ap (λ (at : ℕ). decision_by (first_limit framing (length read + size) sizes) (ended (found ++ e ∷ entries) code at)) sum)
    ∙ later (limit_met framing (length read) (content_size m)) (first_limit framing (length read + size) sizes) (ended (found ++ e ∷ entries) code (length read + (size + total_size framing sizes)))

-- the bytes of messages take as many as their sizes say
pub stream_length : (framing : Framing) (messages : List MessageValue) → length (flat_map (framed_bytes framing) messages) ≡ total_size framing (map content_size messages)
stream_length framing [] = refl
stream_length framing (m ∷ messages) =
    omega (arith, length-append (framed_bytes framing m) (flat_map (framed_bytes framing) messages), framed_length framing m, stream_length framing messages)
