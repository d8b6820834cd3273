use Rattle.std.proofs.Common.{List, ℕ, Option, Result, Ok, sym, ap, ◌∙◌}
use Rattle.sd_ber.specs.Seen.{seen}
use Rattle.sd_ber.specs.declared.reader.Tlv.{Tlv}
use Rattle.sd_ber.specs.declared.fault.BerFault.{BerFault}
use Rattle.sd_stub_link.proofs.Frames.{body_of, given_first}
use Rattle.sd_stub_link.proofs.framing.next_contents.Goals as goal

abbrev found : Option Tlv → Result (Option Tlv) BerFault
found o = Ok o

abbrev body : Result (Option Tlv) BerFault → Option (List ℕ)
body result = body_of (seen result)

pub returns-in-Ok-Some-clause-first : goal.returns-in-Ok-Some-clause-first
returns-in-Ok-Some-clause-first c m more small e =
    let t = given_first c.args.reader.now c.next.new.self c.next.result c.next.ensures.only m more small e in
    (sym (ap body (c.in-Ok-Some.is ∙ ap found c.in-Ok-Some.field-0-is)) ∙ t.0, t.1)

pub returns-in-Ok-None-clause-first : goal.returns-in-Ok-None-clause-first
returns-in-Ok-None-clause-first c m more small e =
    let t = given_first c.args.reader.now c.next.new.self c.next.result c.next.ensures.only m more small e in
    (sym (ap body (c.in-Ok-None.is ∙ ap found c.in-Ok-None.field-0-is)) ∙ t.0, t.1)

pub returns-in-Err-clause-first : goal.returns-in-Err-clause-first
returns-in-Err-clause-first c m more small e =
    let t = given_first c.args.reader.now c.next.new.self c.next.result c.next.ensures.only m more small e in
    (sym (ap body c.in-Err.is) ∙ t.0, t.1)
