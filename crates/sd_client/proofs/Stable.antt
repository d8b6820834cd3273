-- What was decided stays, whatever bytes follow.
use Rattle.std.proofs.Common.{◌≡◌, ℕ, zero, suc, ◌+◌, ◌-◌, ◌<◌, ◌≤◌, true, false, ltb, List, [], ◌∷◌, ◌++◌, length, take, drop, refl, sym, ap, ◌∙◌, arith, inl, inr}
use Rattle.std.proofs.lemmas.Bool.{cases_lt, le-ltb, lt-ltb}
use Rattle.std.proofs.lemmas.List.{take-append-le, drop-append-le, length-append}
use Rattle.std.proofs.Math.Seq.{take-append-add}
use Rattle.sd_base.specs.declared.Why.{Why}
use Rattle.sd_ldap.specs.declared.entry.DirEntry.{DirEntry}
use Rattle.sd_ldap.specs.MessageReading.{DecodedValue, unfinished, decode_of}
use Rattle.sd_ldap.proofs.Cuts.{stays}
use Rattle.sd_client.specs.declared.step.Request.{Request}
use Rattle.sd_client.specs.declared.step.Step.{Step}
use Rattle.sd_client.specs.declared.step.Step.TheVariants.{Waits, Passed, Found, Ended, Failed}
use Rattle.sd_client.specs.Heard.{step_of}
use Rattle.sd_client.specs.Deciding.{Decision, undecided, ended, failed, by_step, reply, reply_at, flooded, decided}
use Rattle.sd_client.specs.Law.{StaysDecided}
use Rattle.sd_client.proofs.Decisions.{decided_within}

-- two ways to go on of which the first keeps what the second decides
step_stable : (f g : ℕ → List DirEntry → Decision) (found : List DirEntry) (at : ℕ) (s : Step)
    → ((used : ℕ) (more : List DirEntry) → (g used more ≡ undecided → ⊥) → f used more ≡ g used more)
    → (by_step g found at s ≡ undecided → ⊥) → by_step f found at s ≡ by_step g found at s
step_stable f g found at Waits same some = refl
step_stable f g found at (Passed used) same some = same used found some
step_stable f g found at (Found entry used) same some = same used (found ++ entry ∷ []) some
step_stable f g found at (Ended code used) same some = refl
step_stable f g found at (Failed why) same some = refl

reply_stable : (request : Request) (id : ℕ) (found : List DirEntry) (at within : ℕ) (bytes more : List ℕ)
    → (reply request id found at within bytes ≡ undecided → ⊥) → reply request id found at within (bytes ++ more) ≡ reply request id found at within bytes
unfolding reply
reply_stable request id found at within [] more some = absurd (some refl)
reply_stable request id found at (suc within) (byte ∷ bytes) more some = reply_stable request id found (at + 1) within bytes more some
reply_stable request id found at zero (byte ∷ bytes) more some =
    let f : ℕ → List DirEntry → Decision = λ used entries. reply request id entries (at + 1) (used - 1) (bytes ++ more) in
    let g : ℕ → List DirEntry → Decision = λ used entries. reply request id entries (at + 1) (used - 1) bytes in
    let there : decode_of (byte ∷ bytes) ≡ unfinished → ⊥ = λ none. some (ap (λ (d : DecodedValue). by_step g found at (step_of request id d)) none) in
    ap (λ (d : DecodedValue). by_step f found at (step_of request id d)) (stays (byte ∷ bytes) more there)
    ∙ step_stable f g found at (step_of request id (decode_of (byte ∷ bytes))) (λ used entries h. reply_stable request id entries (at + 1) (used - 1) bytes more h) some

reply_at_stable : (request : Request) (id : ℕ) (found : List DirEntry) (at : ℕ) (bytes more : List ℕ) → at ≤ length bytes
    → (reply_at request id found at bytes ≡ undecided → ⊥) → reply_at request id found at (bytes ++ more) ≡ reply_at request id found at bytes
reply_at_stable request id found at bytes more there some =
    ap (λ (list : List ℕ). reply request id found at 0 list) (drop-append-le at bytes more there) ∙ reply_stable request id found at 0 (drop at bytes) more some

flood_same : (m n : ℕ) (d : Decision) → 67108864 < m → 67108864 < n → flooded m d ≡ flooded n d
flood_same m n undecided many more =
    let first : ltb 67108864 m ≡ true = lt-ltb 67108864 m many in
    let second : ltb 67108864 n ≡ true = lt-ltb 67108864 n more in
    rw (first, second) refl
flood_same m n (ended found code at) many more = refl
flood_same m n (failed why) many more = refl

flooded_some : (count : ℕ) (d : Decision) → (d ≡ undecided → ⊥) → flooded count d ≡ d
flooded_some count undecided some = absurd (some refl)
flooded_some count (ended found code at) some = refl
flooded_some count (failed why) some = refl

pub decided_stable : StaysDecided
decided_stable request id at received more there some =
    elim (cases_lt 67108864 (length received)) [
      | inl many ↦
          let front : take 67108864 (received ++ more) ≡ take 67108864 received = take-append-le 67108864 received more (omega arith) in
          let also : 67108864 < length (received ++ more) = omega (arith, length-append received more) in
          ap (λ (bytes : List ℕ). flooded (length (received ++ more)) (reply_at request id [] at bytes)) front
          ∙ flood_same (length (received ++ more)) (length received) (reply_at request id [] at (take 67108864 received)) also many
      | inr few ↦
          let all : decided request id at received ≡ reply_at request id [] at received = decided_within request id at received few in
          let own : reply_at request id [] at received ≡ undecided → ⊥ = λ none. some (all ∙ none) in
          let room : 67108864 ≡ length received + (67108864 - length received) = omega arith in
          let extra : List ℕ = take (67108864 - length received) more in
          let front : take 67108864 (received ++ more) ≡ received ++ extra =
          ap (λ (n : ℕ). take n (received ++ more)) room ∙ take-append-add received more (67108864 - length received) in
          let same : reply_at request id [] at (received ++ extra) ≡ reply_at request id [] at received = reply_at_stable request id [] at received extra there own in
          ap (λ (bytes : List ℕ). flooded (length (received ++ more)) (reply_at request id [] at bytes)) front
          ∙ ap (λ (d : Decision). flooded (length (received ++ more)) d) same
          ∙ flooded_some (length (received ++ more)) (reply_at request id [] at received) own
          ∙ sym all
    ]
