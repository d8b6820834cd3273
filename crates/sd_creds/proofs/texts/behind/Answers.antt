use Rattle.std.proofs.Common.{◌++◌, ap, sym, ◌∙◌}
use Rattle.sd_creds.proofs.Pieces.{front_and_rest, no_front}
use Rattle.sd_creds.proofs.texts.behind.Goals as goal

pub returns-in-Some-clause-ok : goal.returns-in-Some-clause-ok
returns-in-Some-clause-ok c =
    front_and_rest c.args.text.now c.args.front.now c.in-Some.ensures.cases.0
    ∙ ap (λ rest. c.args.front.now ++ rest) (sym c.in-Some.ensures.cases.1)

pub returns-in-None-clause-bad : goal.returns-in-None-clause-bad
returns-in-None-clause-bad c = λ rest. no_front c.args.text.now c.args.front.now rest c.in-None.ensures.cases
