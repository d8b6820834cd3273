-- How a reply is read from one message to the next.
use Rattle.std.proofs.Common.{◌≡◌, ℕ, zero, suc, ◌+◌, ◌-◌, ◌<◌, ◌≤◌, List, [], ◌∷◌, ◌++◌, length, take, drop, refl, sym, ap, ◌∙◌, arith, subst}
use Rattle.std.proofs.lemmas.List.{drop-append-le, drop-drop}
use Rattle.sd_base.specs.declared.Why.{Why}
use Rattle.sd_ldap.specs.declared.entry.DirEntry.{DirEntry}
use Rattle.sd_ldap.specs.MessageReading.{DecodedValue, unfinished, decode_of}
use Rattle.sd_ldap.proofs.Cuts.{stays}
use Rattle.sd_client.specs.declared.step.Request.{Request}
use Rattle.sd_client.specs.declared.step.Step.{Step}
use Rattle.sd_client.specs.declared.step.Step.TheVariants.{Waits, Passed, Found, Ended, Failed}
use Rattle.sd_client.specs.Heard.{step_of}
use Rattle.sd_client.specs.Waiting.{IsWithin}
use Rattle.sd_client.specs.Deciding.{Decision, undecided, ended, failed, by_step, reply, reply_at}
use Rattle.sd_client.proofs.Steps.{step_within}

-- bytes of a message that was read are passed over
passed_over : (request : Request) (id : ℕ) (found : List DirEntry) (at within : ℕ) (bytes : List ℕ) → reply request id found at within bytes ≡ reply request id found (at + within) 0 (drop within bytes)
unfolding reply
passed_over request id found at zero [] = refl
passed_over request id found at (suc within) [] = refl
passed_over request id found at zero (byte ∷ bytes) = ap (λ (place : ℕ). reply request id found place 0 (byte ∷ bytes)) (omega arith)
passed_over request id found at (suc within) (byte ∷ bytes) =
    let moved : at + 1 + within ≡ at + suc within = omega arith in
    passed_over request id found (at + 1) within bytes ∙ ap (λ (place : ℕ). reply request id found place 0 (drop within bytes)) moved

-- two ways to go on that agree behind a message of at least one byte
same_step : (f g : ℕ → List DirEntry → Decision) (found : List DirEntry) (at count : ℕ) (s : Step) → IsWithin s count
    → ((used : ℕ) (more : List DirEntry) → 0 < used → f used more ≡ g used more) → by_step f found at s ≡ by_step g found at s
same_step f g found at count Waits h same = refl
same_step f g found at count (Passed used) h same = same used found h.0
same_step f g found at count (Found entry used) h same = same used (found ++ entry ∷ []) h.0
same_step f g found at count (Ended code used) h same = refl
same_step f g found at count (Failed why) h same = refl

-- where reading goes on behind a message
behind : (request : Request) (id : ℕ) (at : ℕ) (byte : ℕ) (bytes : List ℕ) (used : ℕ) (more : List DirEntry) → 0 < used
    → reply request id more (at + 1) (used - 1) bytes ≡ reply request id more (at + used) 0 (drop used (byte ∷ bytes))
behind request id at byte bytes zero more h = absurd (omega arith)
behind request id at byte bytes (suc n) more h =
    let less : suc n - 1 ≡ n = omega arith in
    let moved : at + 1 + n ≡ at + suc n = omega arith in
    ap (λ (within : ℕ). reply request id more (at + 1) within bytes) less
    ∙ passed_over request id more (at + 1) n bytes
    ∙ ap (λ (place : ℕ). reply request id more place 0 (drop n bytes)) moved

-- a reply by its first message
first_step : (request : Request) (id : ℕ) (found : List DirEntry) (at : ℕ) (bytes : List ℕ)
    → reply request id found at 0 bytes ≡ by_step (λ used more. reply request id more (at + used) 0 (drop used bytes)) found at (step_of request id (decode_of bytes))
unfolding reply decode_of
first_step request id found at [] = refl
first_step request id found at (byte ∷ bytes) =
    same_step
    (λ used more. reply request id more (at + 1) (used - 1) bytes)
    (λ used more. reply request id more (at + used) 0 (drop used (byte ∷ bytes)))
    found at (length (byte ∷ bytes))
    (step_of request id (decode_of (byte ∷ bytes)))
    (step_within request id (byte ∷ bytes))
    (λ used more h. behind request id at byte bytes used more h)

-- the same at a place, whatever comes behind the bytes, where a whole message or what is none stands there
pub step_at : (request : Request) (id : ℕ) (found : List DirEntry) (at : ℕ) (bytes more : List ℕ) → at ≤ length bytes → (decode_of (drop at bytes) ≡ unfinished → ⊥)
    → reply_at request id found at (bytes ++ more)
    ≡ by_step (λ used entries. reply_at request id entries (at + used) (bytes ++ more)) found at (step_of request id (decode_of (drop at bytes)))
step_at request id found at bytes more there some =
    let rest : drop at (bytes ++ more) ≡ drop at bytes ++ more = drop-append-le at bytes more there in
    let same : decode_of (drop at (bytes ++ more)) ≡ decode_of (drop at bytes) = ap decode_of rest ∙ stays (drop at bytes) more some in
    first_step request id found at (drop at (bytes ++ more))
    ∙ same_step
    (λ used entries. reply request id entries (at + used) 0 (drop used (drop at (bytes ++ more))))
    (λ used entries. reply_at request id entries (at + used) (bytes ++ more))
    found at (length (drop at (bytes ++ more)))
    (step_of request id (decode_of (drop at (bytes ++ more))))
    (step_within request id (drop at (bytes ++ more)))
    (λ used entries h. ap (λ (list : List ℕ). reply request id entries (at + used) 0 list) (drop-drop used at (bytes ++ more)))
    ∙ ap (λ (d : DecodedValue). by_step (λ used entries. reply_at request id entries (at + used) (bytes ++ more)) found at (step_of request id d)) same

-- nothing is decided where the next message is not whole
pub waits_at : (request : Request) (id : ℕ) (found : List DirEntry) (at : ℕ) (bytes : List ℕ) → decode_of (drop at bytes) ≡ unfinished → reply_at request id found at bytes ≡ undecided
waits_at request id found at bytes e =
    first_step request id found at (drop at bytes)
    ∙ ap (λ (d : DecodedValue). by_step (λ used more. reply request id more (at + used) 0 (drop used (drop at bytes))) found at (step_of request id d)) e

-- one message passed over
pub passes_at : (request : Request) (id : ℕ) (found : List DirEntry) (at used : ℕ) (bytes more : List ℕ) → at ≤ length bytes → Passed used ≡ step_of request id (decode_of (drop at bytes))
    → reply_at request id found at (bytes ++ more) ≡ reply_at request id found (at + used) (bytes ++ more)
passes_at request id found at used bytes more there e =
    step_at request id found at bytes more there (λ none. let waits : Passed used ≡ Waits = e ∙ ap (step_of request id) none in cc)
    ∙ ap (λ (s : Step). by_step (λ used entries. reply_at request id entries (at + used) (bytes ++ more)) found at s) (sym e)

-- one entry found
pub finds_at : (request : Request) (id : ℕ) (found : List DirEntry) (entry : DirEntry) (at used : ℕ) (bytes more : List ℕ) → at ≤ length bytes → Found entry used ≡ step_of request id (decode_of (drop at bytes))
    → reply_at request id found at (bytes ++ more) ≡ reply_at request id (found ++ entry ∷ []) (at + used) (bytes ++ more)
finds_at request id found entry at used bytes more there e =
    step_at request id found at bytes more there (λ none. let waits : Found entry used ≡ Waits = e ∙ ap (step_of request id) none in cc)
    ∙ ap (λ (s : Step). by_step (λ used entries. reply_at request id entries (at + used) (bytes ++ more)) found at s) (sym e)

-- the reply ended
pub ends_at : (request : Request) (id : ℕ) (found : List DirEntry) (code at used : ℕ) (bytes more : List ℕ) → at ≤ length bytes → Ended code used ≡ step_of request id (decode_of (drop at bytes))
    → reply_at request id found at (bytes ++ more) ≡ ended found code (at + used)
ends_at request id found code at used bytes more there e =
    step_at request id found at bytes more there (λ none. let waits : Ended code used ≡ Waits = e ∙ ap (step_of request id) none in cc)
    ∙ ap (λ (s : Step). by_step (λ used entries. reply_at request id entries (at + used) (bytes ++ more)) found at s) (sym e)

-- the bytes are a failure
pub fails_at : (request : Request) (id : ℕ) (found : List DirEntry) (why : Why) (at : ℕ) (bytes more : List ℕ) → at ≤ length bytes → Failed why ≡ step_of request id (decode_of (drop at bytes))
    → reply_at request id found at (bytes ++ more) ≡ failed why
fails_at request id found why at bytes more there e =
    step_at request id found at bytes more there (λ none. let waits : Failed why ≡ Waits = e ∙ ap (step_of request id) none in cc)
    ∙ ap (λ (s : Step). by_step (λ used entries. reply_at request id entries (at + used) (bytes ++ more)) found at s) (sym e)
