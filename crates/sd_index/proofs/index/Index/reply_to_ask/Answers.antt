use Rattle.std.proofs.Common.{◌∙◌}
use Rattle.sd_index.proofs.AskLaws.{reply_is}
use Rattle.sd_index.proofs.index.Index.reply_to_ask.Goals as goal

pub returns : goal.returns
returns c = λ past is. c.reply.ensures ∙ reply_is c.args.settings.now past c.args.number c.args.moment c.args.key.now c.args.self.now is
