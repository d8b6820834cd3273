use Rattle.std.proofs.Common.{sym, ◌∙◌}
use Rattle.sd_creds.proofs.Pieces.{if_err, behind_salt}
use Rattle.sd_creds.proofs.texts.pieces.Goals as goal

pub returns-in_err-digest-clause-bad : goal.returns-in_err-digest-clause-bad
returns-in_err-digest-clause-bad c =
    if_err c.from_residual-in_err-digest.result _
    (λ s g ls lg is. c.in_err-digest.ensures.bad g
    (behind_salt c.args.text.now c.in_ok-front.front.now c.in_ok-salt.salt.now c.in_ok-salt.rest.now s g c.in_ok-front.ensures.ok c.in_ok-salt.ensures.ok.0 (c.in_ok-salt.ensures.ok.1 ∙ sym ls) is))
