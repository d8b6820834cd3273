use Rattle.std.proofs.Common.{inl, inr, sym, ◌∙◌}
use Rattle.sd_sudo.proofs.Asked.{not_starved}
use Rattle.sd_sudo.proofs.nets.stands_in.Goals as goal

pub returns-clause-stands : goal.returns-clause-stands
returns-clause-stands c = elim c.ask-netted.ensures [
  | inl s ↦ absurd (not_starved c.ask-netted.new.client c.end-link.result c.end-link.ensures.failed (sym c.starved.ensures ∙ c.if-starved.false) s)
  | inr a ↦ c.stands_by.ensures.stands c.args.directory.now c.args.base.now c.args.net.now a
]

pub returns-clause-halt : goal.returns-clause-halt
returns-clause-halt c = elim c.ask-netted.ensures [
  | inl s ↦ absurd (not_starved c.ask-netted.new.client c.end-link.result c.end-link.ensures.failed (sym c.starved.ensures ∙ c.if-starved.false) s)
  | inr a ↦ c.stands_by.ensures.halt c.args.directory.now c.args.base.now c.args.net.now a
]
