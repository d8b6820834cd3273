-- Counts of faults along a line, and the operations that a dialer then tells.
use Rattle.std.proofs.Common.{◌≡◌, ◌∙◌, ℕ, zero, suc, ◌<◌, ◌≤◌, List, [], ◌∷◌, ◌++◌, Option, Some, None, refl, sym, ap, append_assoc, append-nil, arith, map}
use Rattle.std.specs.Prelude.{IfSome, IsSome}
use Rattle.std.specs.Io.KnownBytes.{append_known}
use Rattle.sd_base.specs.Causes.{Rose}
use Rattle.sd_ldap.specs.Values.{MessageValue}
use Rattle.sd_dial.specs.Operations.{Operation, dialled, asked, with_dial, with_asked, with_received}
use Rattle.sd_engine.specs.Counting.{HasNotFallen}
use Rattle.sd_engine.specs.Lookups.{with_messages, with_operations, asked_on}
use Rattle.sd_engine.specs.Received.{with_lines}

-- what rose from a later moment on rose from an earlier one on
pub rose_earlier : (a b c : ℕ) → a ≤ b → Rose b c → Rose a c
rose_earlier a b c le rose = omega (arith, le, rose)

-- and so to a later one
pub rose_later : (a b c : ℕ) → b ≤ c → Rose a b → Rose a c
rose_later a b c le rose = omega (arith, le, rose)

-- a line without faults, one of whose calls failed, has a fault
pub some_fault : (before line : ℕ) → before ≡ 0 → Rose before line → 0 < line
some_fault before line e rose = omega (arith, e, rose)

-- a line that is dialled and given back lowers no count
pub done_later : (before between after line : ℕ) → before ≤ between → (0 < line → Rose between after) → (line ≡ 0 → after ≡ between) → HasNotFallen before after
done_later before between after zero later rises stays = let e = stays refl in omega (arith, e, later)
done_later before between after (suc n) later rises stays = let risen : Rose between after = rises (omega arith) in omega (arith, risen, later)

-- a fault of a line is one of the dialer that takes it back
pub rose_back : (first between after before line : ℕ) → first ≤ between → before ≡ 0 → (0 < line → Rose between after) → Rose before line → Rose first after
rose_back first between after before line later none rises rose = rose_earlier first between after later (rises (some_fault before line none rose))

-- the operations told where a dial failed
pub asks_nothing : (known known' : Option (List Operation)) → known' ≡ known → known' ≡ with_operations known []
asks_nothing None known' e = e
asks_nothing (Some operations) known' e = e ∙ ap Some (sym (append-nil operations))

told_operations : (operations : List Operation) (server : ℕ) (messages : List MessageValue) → Some ((operations ++ dialled server ∷ []) ++ map asked messages) ≡ Some (operations ++ asked_on server messages)
told_operations operations server messages = ap Some (append_assoc operations (dialled server ∷ []) (map asked messages))

-- the operations told of a line that was dialled and given back
pub asks_on : (known between known' : Option (List Operation)) (line line' : Option (List MessageValue)) (server : ℕ) (messages : List MessageValue) →
    between ≡ with_dial known server → IfSome line (λ (asked : List MessageValue). asked ≡ []) → (IsSome known → IsSome line) → line' ≡ with_messages line messages →
    known' ≡ with_asked between line' → known' ≡ with_operations known (asked_on server messages)
asks_on None between known' line line' server messages dial none tells asks done =
    done ∙ ap (λ (o : Option (List Operation)). with_asked o line') dial
asks_on (Some operations) between known' None line' server messages dial none tells asks done = let e = tells refl in cc
asks_on (Some operations) between known' (Some earlier) line' server messages dial none tells asks done =
    done
    ∙ ap (λ (o : Option (List Operation)). with_asked o line') dial
    ∙ ap (with_asked (with_dial (Some operations) server)) asks
    ∙ ap (λ (ms : List MessageValue). with_asked (with_dial (Some operations) server) (with_messages (Some ms) messages)) none
    ∙ told_operations operations server messages

-- the bytes told where a dial failed
pub receives_nothing : (known known' : Option (List (List ℕ))) → known' ≡ known → known' ≡ with_lines known []
receives_nothing None known' e = e
receives_nothing (Some lines) known' e = e ∙ ap Some (sym (append-nil lines))

-- the bytes told of a line that was dialled and given back
pub receives_on : (known between known' : Option (List (List ℕ))) (line line' : Option (List ℕ)) (bytes : List ℕ) → between ≡ known → IfSome line (λ (received : List ℕ). received ≡ []) → (IsSome known → IsSome line) → line' ≡ append_known line bytes
    → known' ≡ with_received between line' → known' ≡ with_lines known (bytes ∷ [])
receives_on None between known' line line' bytes dial none tells comes done = done ∙ ap (λ (o : Option (List (List ℕ))). with_received o line') dial
receives_on (Some lines) between known' None line' bytes dial none tells comes done = let e = tells refl in cc
receives_on (Some lines) between known' (Some earlier) line' bytes dial none tells comes done =
    done
    ∙ ap (λ (o : Option (List (List ℕ))). with_received o line') dial
    ∙ ap (with_received (Some lines)) comes
    ∙ ap (λ (first : List ℕ). with_received (Some lines) (append_known (Some first) bytes)) none
