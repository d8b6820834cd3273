use Rattle.std.proofs.Common.{◌≡◌, ◌++◌, drop}
use Rattle.sd_match.specs.Answering.{sent_attributes}
use Rattle.sd_stub.proofs.sending.sent_attributes.Given as goal

-- those sent so far, and those that are left
abbrev pub invariant-loop-attribute : goal.invariant-loop-attribute
invariant-loop-attribute l =
    l.sent ++ sent_attributes l.request.types_only l.request.attributes (drop l.attribute-index l.attributes) ≡ sent_attributes l.request.types_only l.request.attributes l.attributes
