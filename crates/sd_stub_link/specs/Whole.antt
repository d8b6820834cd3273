-- What is written for a sound message is read again, at any length below 4 GiB.
use Rattle.std.proofs.Common.{◌≡◌, ℕ, ◌+◌, ◌^◌, ◌<◌, List, [], length, Ok, refl, sym, ap, ◌∙◌, arith}
use Rattle.std.proofs.lemmas.List.{append-nil}
use Rattle.sd_ber.specs.Octets.{element, length_octets}
use Rattle.sd_ber.specs.Reading.{reading_of, start_of, element_at}
use Rattle.sd_ber.proofs.Lengths.{spelled}
use Rattle.sd_ber.proofs.Elements.{element_again}
use Rattle.sd_ldap.specs.Values.{MessageValue}
use Rattle.sd_ldap.specs.MessageReading.{message_in}
use Rattle.sd_ldap.specs.Spelling.{inside, content_bytes, message_bytes}
use Rattle.sd_ldap.specs.Sound.{IsSound}
use Rattle.sd_ldap.proofs.MessageAgain.{message_again}
use Rattle.sd_ldap.proofs.Again.{longer}
use Rattle.sd_stub_link.specs.Asking.{read_in}

-- the outer element of a message's bytes
outer_again : (body : List ℕ) → length body < 2 ^ 32 → read_in (element_at (start_of (element 48 body))) ≡ message_in (reading_of (0 + (1 + length (length_octets (length body)))) body)
outer_again body small =
    let opened = element_again 0 48 (element 48 body) body [] (record { one_octet = λ z. omega arith; octets = length_octets (length body); spelled = spelled (length body) small; parts = refl }) in
    let whole = ap (λ (bytes : List ℕ). element_at (start_of bytes)) (sym (append-nil (element 48 body))) ∙ opened in
    rw whole refl

pub whole_again : (m : MessageValue) → IsSound m → length (message_bytes m) < 2 ^ 32 → read_in (element_at (start_of (message_bytes m))) ≡ Ok m
unfolding inside
whole_again m sound small =
    let body : length (content_bytes m) < 2 ^ 32 = omega (arith, longer 48 (content_bytes m)) in
    outer_again (content_bytes m) body ∙ message_again (0 + (1 + length (length_octets (length (content_bytes m))))) m sound body
