use Rattle.std.proofs.Common.{inl, inr, sym, ◌∙◌}
use Rattle.sd_sudo.proofs.Asked.{not_starved}
use Rattle.sd_sudo.proofs.roles.roles_under.Goals as goal

pub returns-clause-roles : goal.returns-clause-roles
returns-clause-roles c = elim c.ask_first-searched.ensures [
  | inl s ↦ absurd (not_starved c.ask_first-searched.new.client c.end-link.result c.end-link.ensures.failed (sym c.starved.ensures ∙ c.if-starved.false) s)
  | inr a ↦ c.roles_from.ensures.roles c.args.directory.now c.args.base.now a
]

pub returns-clause-halt : goal.returns-clause-halt
returns-clause-halt c = elim c.ask_first-searched.ensures [
  | inl s ↦ absurd (not_starved c.ask_first-searched.new.client c.end-link.result c.end-link.ensures.failed (sym c.starved.ensures ∙ c.if-starved.false) s)
  | inr a ↦ c.roles_from.ensures.halt c.args.directory.now c.args.base.now a
]
