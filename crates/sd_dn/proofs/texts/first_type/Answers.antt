use Rattle.std.proofs.Common.{sym, ◌∙◌}
use Rattle.sd_dn.proofs.Meets.{typed_value, typed_none}
use Rattle.sd_dn.proofs.texts.first_type.Goals as goal

pub returns-in-None-clause-exact : goal.returns-in-None-clause-exact
returns-in-None-clause-exact c =
    typed_none c.args.text.now c.behind_spaces-text.result.now c.type_length-length.result
    c.behind_spaces-text.ensures.type_there c.behind_spaces-text.ensures.no_space (sym c.starts_with_type.ensures ∙ c.if-not-starts_with_type.false)
    c.type_length-length.ensures.named c.type_length-length.ensures.no_type c.in-None.ensures.exact

pub returns-in-Some-clause-exact : goal.returns-in-Some-clause-exact
returns-in-Some-clause-exact c =
    typed_value c.args.text.now c.behind_spaces-text.result.now c.type_length-length.result c.in-Some.value.now
    c.behind_spaces-text.ensures.type_there c.behind_spaces-text.ensures.no_space (sym c.starts_with_type.ensures ∙ c.if-not-starts_with_type.false)
    c.type_length-length.ensures.named c.type_length-length.ensures.no_type c.in-Some.ensures.exact
