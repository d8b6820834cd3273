use Rattle.std.proofs.Common.{List, ℕ, map, sym, ap, ◌∙◌}
use Rattle.std.specs.Prelude.{string_bytes}
use Rattle.sd_storm.specs.Words.{requests_of}
use Rattle.sd_serve.specs.Words.{operand_of}
use Rattle.sd_serve.proofs.Spoken.{has_number, none_is_not}
use Rattle.sd_serve.proofs.storms.storm_by.Goals as goal

pub unreachable-requires : goal.unreachable-requires
unreachable-requires g c =
    let words : List (List ℕ) = map string_bytes c.args.words.now in
    none_is_not (requests_of (operand_of words))
    (ap requests_of (sym c.operand_of.ensures.operand) ∙ ap requests_of (sym c.as_bytes.ensures.value) ∙ sym c.requests_of.ensures ∙ c.in_default.is)
    (has_number words c.requires)
