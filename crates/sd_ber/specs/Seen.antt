-- What contracts see of values that hold references.
use Rattle.std.specs.Prelude.{◌≡◌, ◌+◌, ◌++◌, length, ◌%◌, ◌≢◌, ◌<◌, ◌^◌, IfOk, IfSome, ℕ, List, Option, Some, None, Result, Ok, Err}
use Rattle.sd_ber.specs.declared.fault.BerFault.{BerFault}
use Rattle.sd_ber.specs.declared.reader.Tlv.{Tlv}
use Rattle.sd_ber.specs.declared.reader.Whole.{Whole}
use Rattle.sd_ber.specs.Reading.{Reading, Opened, Element, reading_of, next_of, after_next, element_at}
use Rattle.sd_ber.specs.Grammar.{IsElement}
use Rattle.sd_ber.specs.Octets.{element}

-- an element by its contents
abbrev pub element_of : Tlv → Element
element_of tlv = record { tag = tlv.tag; at = tlv.at; body = tlv.body.now }

-- what next gave
abbrev pub seen : Result (Option Tlv) BerFault → Result (Option Element) BerFault
seen (Ok None) = Ok None
seen (Ok (Some tlv)) = Ok (Some (element_of tlv))
seen (Err fault) = Err fault

abbrev pub opened_from : Whole → Opened
opened_from w = record { tag = w.tag; contents = reading_of w.start w.body.now; after = reading_of w.end w.rest.now }

abbrev pub seen_whole : Result Whole BerFault → Result Opened BerFault
seen_whole (Ok whole) = Ok (opened_from whole)
seen_whole (Err fault) = Err fault

-- tag, contents, and what comes after them
abbrev pub opened_as : ℕ × Reading → Reading → Opened
opened_as found after = record { tag = found.0; contents = found.1; after = after }

-- no element is in front, and reading has not moved
abbrev pub StandsStill : Reading → Reading → Type 0
StandsStill old new = (fault : BerFault) × (element_at old ≡ Err fault) × (new ≡ old)

-- an element stands in front of what was left, and reading goes on behind it
pub record Takes (old new : Reading) (tag : ℕ) (body : List ℕ) : Type 0 where
  pub front : List ℕ
  pub is : IsElement front tag body
  pub parts : old.rest ≡ front ++ new.rest
  pub moved : new.at ≡ old.at + length front

-- what was given stands in front
abbrev pub Found : Reading → Reading → Result (Option Tlv) BerFault → Type 0
Found old new result = IfOk result (λ o. IfSome o (λ tlv. Takes old new tlv.tag tlv.body.now))

-- what stands in front is given
abbrev pub Given : Reading → Reading → Result (Option Tlv) BerFault → Type 0
Given old new result =
    (tag : ℕ) (front body more : List ℕ) → IsElement front tag body → old.rest ≡ front ++ more
    → (seen result ≡ Ok (Some (record { tag = tag; at = old.at; body = body }))) × (new.rest ≡ more)

-- an element that is written is read back, whatever follows it
abbrev pub ReadsBack : Type 0
ReadsBack =
    (tag at : ℕ) (body more : List ℕ) → tag % 32 ≢ 31 → length body < 2 ^ 32
    → (next_of (reading_of at (element tag body ++ more)) ≡ Ok (Some (record { tag = tag; at = at; body = body })))
    × (after_next (reading_of at (element tag body ++ more)) ≡ reading_of (at + length (element tag body)) more)
