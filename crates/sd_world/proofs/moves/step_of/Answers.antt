use Rattle.sd_world.proofs.KnownLaws.{known_on}
use Rattle.sd_world.proofs.ReplyLaws.{known_steppable, found_if_made, known_if_made}
use Rattle.sd_world.proofs.moves.step_of.Goals as goal

pub step-requires : goal.step-requires
step-requires c = known_steppable c.args.core.now c.args.client.now.task c.args.event c.requires.event c.requires.kind c.requires.known

pub returns-clause-found : goal.returns-clause-found
returns-clause-found c =
    found_if_made c.args.core.now c.args.now c.args.client.now.task c.args.event c.step.result c.step.ensures.given c.step.ensures.fits c.requires.event c.requires.known

pub returns-clause-known : goal.returns-clause-known
returns-clause-known c =
    known_if_made c.args.core.now c.step.new.core c.args.now c.args.client.now.task c.args.event c.step.result c.step.ensures.made c.step.ensures.given
    c.requires.event c.step.ensures.keys c.requires.known

pub returns-clause-still : goal.returns-clause-still
returns-clause-still c = known_on c.args.core.now c.step.new.core c.args.client.now.task c.step.ensures.keys c.requires.known
