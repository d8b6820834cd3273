use Rattle.std.proofs.Common.{◌≡◌, ℕ, ◌+◌, ◌^◌, ◌<◌, ◌≤◌, List, [], ◌∷◌, ◌++◌, length, None, Option, refl, sym, ap, ◌∙◌, append-nil, arith}
use Rattle.std.proofs.Math.Seq.{drop-append_seam}
use Rattle.std.proofs.lemmas.List.{length-append}
use Rattle.sd_base.specs.declared.Why.{Why}
use Rattle.sd_ldap.specs.MessageReading.{unfinished, wrong, decode_of}
use Rattle.sd_ldap.specs.Spelling.{message_bytes}
use Rattle.sd_ber.specs.Reading.{header_at}
use Rattle.sd_match.specs.Answering.{reply}
use Rattle.sd_dial.specs.Entries.{shortest}
use Rattle.sd_client.specs.declared.step.Request.{Request}
use Rattle.sd_client.specs.declared.step.Request.TheVariants as requests
use Rattle.sd_client.specs.declared.step.Step.TheVariants as steps
use Rattle.sd_client.specs.Heard.{operation_heard}
use Rattle.sd_client.specs.Deciding.{ended}
use Rattle.sd_client.proofs.Replies.{waits_at}
use Rattle.sd_client.proofs.Decisions.{decided_within}
use Rattle.sd_asking.specs.Laws.{ending}
use Rattle.sd_asking.specs.Sizes.{content_size, framed_size, first_limit}
use Rattle.sd_asking.proofs.Walk.{decision_by, IsFramed, framed_length, fails, met_none}
use Rattle.sd_asking.proofs.Stream.{ends_alone}
use Rattle.sd_asking.proofs.Rooms.{done_fits, bound_fits, done_framed, bound_framed}
use Rattle.sd_asking.proofs.laws.decides_alone.Goals as goal

one_byte : decode_of (48 ∷ []) ≡ unfinished
unfolding decode_of header_at
one_byte = refl

no_length : decode_of (48 ∷ 128 ∷ []) ≡ wrong 1
unfolding decode_of header_at
no_length = refl

pub returns-clause-cut : goal.returns-clause-cut
returns-clause-cut c request id received few =
    decided_within request id (length received) (received ++ 48 ∷ []) (omega (arith, length-append received (48 ∷ [])))
    ∙ waits_at request id [] (length received) (received ++ 48 ∷ []) (ap decode_of (drop-append_seam received (48 ∷ [])) ∙ one_byte)

pub returns-clause-indefinite : goal.returns-clause-indefinite
returns-clause-indefinite c request id received more few =
    fails request id [] received (48 ∷ 128 ∷ []) more (received ++ 48 ∷ 128 ∷ more) refl 1 (omega arith) no_length

ending_heard : (request : Request) (code used : ℕ) → operation_heard request used (ending request code) ≡ steps.Ended code used
ending_heard requests.Search code used = refl
ending_heard requests.Bind code used = refl

ending_framed : (request : Request) (id code : ℕ) → id ≤ 2147483647 → code < 2 ^ 32 → IsFramed shortest (reply id (ending request code))
ending_framed requests.Search id code small few = done_framed shortest id code small few
ending_framed requests.Bind id code small few = bound_framed shortest id code small few

ending_fits : (request : Request) (id code : ℕ) → content_size (reply id (ending request code)) ≤ 64
ending_fits requests.Search id code = done_fits id code
ending_fits requests.Bind id code = bound_fits id code

pub returns-clause-coded : goal.returns-clause-coded
returns-clause-coded c request id code received small few within =
    let m = reply id (ending request code) in
    let size = content_size m in
    let bytes = message_bytes m in
    let len : length bytes ≡ framed_size shortest size = framed_length shortest m in
    let none : first_limit shortest (length received) (size ∷ []) ≡ None = rw (met_none shortest (length received) size (omega (arith, ending_fits request id code)) (omega (arith, len))) refl in
    let place : length received + (framed_size shortest size + 0) ≡ length received + length bytes = omega (arith, len) in
    ends_alone request id [] shortest (ending request code) code received (received ++ bytes) (λ used. ending_heard request code used) (ending_framed request id code small few)
    (ap (λ (list : List ℕ). received ++ list) (sym (append-nil bytes))) (omega arith)
    ∙ ap (λ (o : Option Why). decision_by o (ended [] code (length received + (framed_size shortest size + 0)))) none
    ∙ ap (λ (at : ℕ). ended [] code at) place
