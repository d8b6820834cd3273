-- Messages taken one after another and framed anew.
use Rattle.std.proofs.Common.{◌≡◌, ℕ, ◌^◌, ◌<◌, List, [], ◌∷◌, ◌++◌, length, Option, Some, None, Result, Ok, Err, sym, ap, subst, ◌∙◌, arith, append_assoc}
use Rattle.std.proofs.lemmas.List.{append-nil, length-append}
use Rattle.std.specs.List.{flat_map}
use Rattle.sd_ber.specs.Grammar.{IsElement}
use Rattle.sd_ber.specs.Reading.{Reading, Element}
use Rattle.sd_ber.specs.Seen.{seen, Given}
use Rattle.sd_ber.specs.declared.reader.Tlv.{Tlv}
use Rattle.sd_ber.specs.declared.fault.BerFault.{BerFault}
use Rattle.sd_ber.proofs.Elements.{written_is}
use Rattle.sd_ldap.specs.Values.{MessageValue}
use Rattle.sd_ldap.specs.Spelling.{inside, content_bytes, message_bytes}
use Rattle.sd_ldap.proofs.Again.{longer}
use Rattle.sd_stub_link.specs.declared.framing.Outer.{Outer}
use Rattle.sd_stub_link.specs.Modes.{framed_in, framed_bytes}

-- a message's bytes are an element
pub message_is : (m : MessageValue) → length (message_bytes m) < 2 ^ 32 → IsElement (message_bytes m) 48 (content_bytes m)
unfolding inside
message_is m small = written_is 48 (content_bytes m) (λ z. omega arith) (omega (arith, longer 48 (content_bytes m)))

-- the contents of an element that was read
abbrev pub body_of : Result (Option Element) BerFault → Option (List ℕ)
body_of (Ok (Some e)) = Some e.body
body_of (Ok None) = None
body_of (Err fault) = None

-- where a message stands in front, its contents are read
pub given_first : (old new : Reading) (result : Result (Option Tlv) BerFault) → Given old new result → (m : MessageValue) (more : List ℕ) → length (message_bytes m) < 2 ^ 32 → old.rest ≡ message_bytes m ++ more
    → (body_of (seen result) ≡ Some (content_bytes m)) × (new.rest ≡ more)
given_first old new result given m more small e = let t = given 48 (message_bytes m) (content_bytes m) more (message_is m small) e in (ap body_of t.0, t.1)

-- the messages that are still left, and those framed so far
pub record Left (outer : Outer) (all : List MessageValue) (out rest : List ℕ) : Type 0 where
  pub messages : List MessageValue
  pub rest_is : rest ≡ flat_map message_bytes messages
  pub out_is : out ++ flat_map (framed_bytes outer) messages ≡ flat_map (framed_bytes outer) all

pub left_first : (outer : Outer) (all : List MessageValue) (out rest : List ℕ) → out ≡ [] → rest ≡ flat_map message_bytes all → Left outer all out rest
left_first outer all out rest o r = record { messages = all; rest_is = r; out_is = ap (λ (bytes : List ℕ). bytes ++ flat_map (framed_bytes outer) all) o }

-- what a try to take the first message gives
pub record Tries (rest : List ℕ) (found : Option (List ℕ)) (after : List ℕ) : Type 0 where
  pub first : (m : MessageValue) (more : List ℕ) → length (message_bytes m) < 2 ^ 32 → rest ≡ message_bytes m ++ more → (found ≡ Some (content_bytes m)) × (after ≡ more)
  pub end : rest ≡ [] → found ≡ None

none_left : (outer : Outer) (all left : List MessageValue) (out rest after : List ℕ) → length rest < 2 ^ 32 → Tries rest None after → rest ≡ flat_map message_bytes left → out ++ flat_map (framed_bytes outer) left ≡ flat_map (framed_bytes outer) all
    → out ≡ flat_map (framed_bytes outer) all
none_left outer all [] out rest after small tries r o = sym (append-nil out) ∙ o
none_left outer all (m ∷ left) out rest after small tries r o =
    let fits : length (message_bytes m) < 2 ^ 32 = omega (arith, ap length r, length-append (message_bytes m) (flat_map message_bytes left)) in
    let e = (tries.first m (flat_map message_bytes left) fits r).0 in
    absurd cc

-- at the end all are framed
pub left_none : (outer : Outer) (all : List MessageValue) (out rest after : List ℕ) → length rest < 2 ^ 32 → Tries rest None after → Left outer all out rest → out ≡ flat_map (framed_bytes outer) all
left_none outer all out rest after small tries l = none_left outer all l.messages out rest after small tries l.rest_is l.out_is

one_left : (outer : Outer) (all left : List MessageValue) (out rest contents after : List ℕ) → length rest < 2 ^ 32 → Tries rest (Some contents) after → rest ≡ flat_map message_bytes left → out ++ flat_map (framed_bytes outer) left ≡ flat_map (framed_bytes outer) all
    → Left outer all (out ++ framed_in outer contents) after
one_left outer all [] out rest contents after small tries r o = let e = tries.end r in absurd cc
one_left outer all (m ∷ left) out rest contents after small tries r o =
    let fits : length (message_bytes m) < 2 ^ 32 = omega (arith, ap length r, length-append (message_bytes m) (flat_map message_bytes left)) in
    let t = tries.first m (flat_map message_bytes left) fits r in
    let is : contents ≡ content_bytes m = some_is contents (content_bytes m) t.0 in
    record {
      messages = left;
      rest_is = t.1;
      out_is = ap (λ (bytes : List ℕ). (out ++ framed_in outer bytes) ++ flat_map (framed_bytes outer) left) is ∙ append_assoc out (framed_bytes outer m) (flat_map (framed_bytes outer) left) ∙ o;
    }
  where
    some_is : (a b : List ℕ) → Some a ≡ Some b → a ≡ b
    some_is a b e = cc

pub left_one : (outer : Outer) (all : List MessageValue) (out rest contents after new : List ℕ) → length rest < 2 ^ 32 → Tries rest (Some contents) after → new ≡ out ++ framed_in outer contents → Left outer all out rest → Left outer all new after
left_one outer all out rest contents after new small tries e l =
    subst (λ (bytes : List ℕ). Left outer all bytes after) (sym e) (one_left outer all l.messages out rest contents after small tries l.rest_is l.out_is)
