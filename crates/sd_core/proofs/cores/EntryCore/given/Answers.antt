use Rattle.std.proofs.Common.{◌≡◌, true, sym, subst}
use Rattle.sd_rules.specs.Steps.{Daemon}
use Rattle.sd_past.specs.Closing.{closes_place}
use Rattle.sd_core.proofs.HeldLaws.{falls_if_sound}
use Rattle.sd_core.proofs.Stepped.{closing_reply}
use Rattle.sd_core.proofs.cores.EntryCore.given.Goals as goal

pub returns-clause-closing : goal.returns-clause-closing
returns-clause-closing g c = λ h.
    c.given_by.ensures.free
    (closing_reply c.self.inside.settings (g.P.Past.entries c.self.inside.past) c.next_number-number.result c.args.moment c.args.event.now c.in_ok-reply.reply
    c.in_ok-reply.ensures.made (subst (λ (d : Daemon). closes_place d.past c.args.event.now ≡ true) (sym c.self.view_is) h))

pub given_by-requires : goal.given_by-requires
given_by-requires g c =
    falls_if_sound c.self.inside.next (g.P.Past.entries c.self.inside.past) c.self.invariant.0.sound.numbers
