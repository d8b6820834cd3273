use Rattle.std.proofs.Common.{inl, inr, sym, ◌∙◌}
use Rattle.sd_netgroup.proofs.Looks.{not_starved}
use Rattle.sd_netgroup.proofs.directory.look_over.Goals as goal

pub returns : goal.returns
returns c = elim c.ask-netted.ensures [
  | inl s ↦ absurd (not_starved c.ask-netted.new.client c.end-link.result c.end-link.ensures.failed (sym c.starved.ensures ∙ c.if-starved.false) s)
  | inr a ↦ c.answer_of.ensures c.args.directory.now c.args.base.now c.args.name.now a
]
