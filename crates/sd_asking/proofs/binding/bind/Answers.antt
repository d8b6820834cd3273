use Rattle.std.proofs.Common.{◌++◌, length, ◌∙◌, subst, arith, inl, inr}
use Rattle.std.proofs.lemmas.List.{length-append}
use Rattle.sd_base.specs.Causes.{Rose}
use Rattle.sd_rules.specs.declared.tasks.Bound.{Bound}
use Rattle.sd_ldap.specs.Spelling.{message_bytes}
use Rattle.sd_client.specs.declared.step.Request.TheVariants as requests
use Rattle.sd_client.specs.Deciding.{decided}
use Rattle.sd_client.specs.Talk.{bind_message}
use Rattle.sd_asking.specs.Binding.{told_bind, IsBoundBy}
use Rattle.sd_asking.proofs.Arriving.{arrived, restored}
use Rattle.sd_asking.proofs.Binds.{IsAsked, bound_by, told_unsent, bound_told, bound_settles, bound_ends, was_sent, no_failure}
use Rattle.sd_asking.proofs.binding.bind.Goals as goal

pub returns-clause-answered : goal.returns-clause-answered
returns-clause-answered g c = λ settled used.
    let old = c.args.client.now in
    let new = c.bind.new.self in
    bound_by c.bind.result old.next old.at new.at old.received (g.L.Link.answer old.link (message_bytes (bind_message old.next c.args.dn.now c.args.password.now))) new.received (g.L.Link.coming new.link)
    (Rose (g.L.Link.faults old.link) (g.L.Link.faults new.link) × g.L.Link.ends new.link)
    (arrived _ _ _ _ _ _ _ settled.quiet (c.bind.ensures.sent used).came)
    (omega (arith, settled.read))
    (c.bind.ensures.reply used)

pub returns-clause-told : goal.returns-clause-told
returns-clause-told g c = λ behind is settled.
    let old = c.args.client.now in
    let new = c.bind.new.self in
    let piece = message_bytes (bind_message old.next c.args.dn.now c.args.password.now) in
    elim c.bind.ensures.used [
      | inl same ↦ told_unsent c.bind.result (told_bind behind (length old.received) old.next c.args.dn.now c.args.password.now) _ (c.bind.ensures.no_reply settled.well same)
      | inr used ↦
          let asked : IsAsked behind old.next old.at c.args.dn.now c.args.password.now old.received (g.L.Link.answer old.link piece) = record {
            small = omega (arith, used, c.bind.ensures.counted);
            few = settled.short;
            at_is = settled.read;
            answer_is = g.met.L.DirectoryLink.answers old.link behind piece is;
          } in
          bound_told c.bind.result behind old.next old.at new.at c.args.dn.now c.args.password.now old.received (g.L.Link.answer old.link piece) (g.L.Link.coming new.link) asked (returns-clause-answered g c settled used)
    ]

pub returns-clause-goes_on : goal.returns-clause-goes_on
returns-clause-goes_on g c = λ behind is settled has.
    let old = c.args.client.now in
    let new = c.bind.new.self in
    let piece = message_bytes (bind_message old.next c.args.dn.now c.args.password.now) in
    elim c.bind.ensures.used [
      | inl same ↦ absurd (was_sent c.bind.result _ has (c.bind.ensures.no_reply settled.well same))
      | inr used ↦
          let asked : IsAsked behind old.next old.at c.args.dn.now c.args.password.now old.received (g.L.Link.answer old.link piece) = record {
            small = omega (arith, used, c.bind.ensures.counted);
            few = settled.short;
            at_is = settled.read;
            answer_is = g.met.L.DirectoryLink.answers old.link behind piece is;
          } in
          let arrival = arrived _ _ _ _ _ _ _ settled.quiet (c.bind.ensures.sent used).came in
          let r = bound_settles c.bind.result behind old.next old.at new.at c.args.dn.now c.args.password.now old.received (g.L.Link.answer old.link piece) (g.L.Link.coming new.link) asked (returns-clause-answered g c settled used) new.received has arrival c.bind.ensures.within in
          record {
            settled = record { well = c.bind.ensures.fails settled.well ∙ no_failure c.bind.result has; read = r.read; short = r.short; quiet = r.quiet };
            grown = r.grown;
            used = used;
          }
    ]

pub returns-clause-ends : goal.returns-clause-ends
returns-clause-ends g c = λ behind is settled used quiet fails.
    let old = c.args.client.now in
    let new = c.bind.new.self in
    let piece = message_bytes (bind_message old.next c.args.dn.now c.args.password.now) in
    let answer = g.L.Link.answer old.link piece in
    let asked : IsAsked behind old.next old.at c.args.dn.now c.args.password.now old.received answer = record {
      small = omega (arith, used, c.bind.ensures.counted);
      few = settled.short;
      at_is = settled.read;
      answer_is = g.met.L.DirectoryLink.answers old.link behind piece is;
    } in
    let h = subst (λ (r : Bound). IsBoundBy r (decided requests.Bind old.next old.at (old.received ++ answer)) new.at (g.L.Link.coming new.link)) fails (returns-clause-answered g c settled used) in
    bound_ends behind old.next old.at new.at c.args.dn.now c.args.password.now old.received answer (g.L.Link.coming new.link) asked h quiet

pub returns-clause-settles : goal.returns-clause-settles
returns-clause-settles g c = λ settled has end within.
    let old = c.args.client.now in
    let new = c.bind.new.self in
    let answer = g.L.Link.answer old.link (message_bytes (bind_message old.next c.args.dn.now c.args.password.now)) in
    elim c.bind.ensures.used [
      | inl same ↦ absurd (was_sent c.bind.result _ has (c.bind.ensures.no_reply settled.well same))
      | inr used ↦
          let size = length-append old.received answer in
          let r =
          restored old.received answer new.received (g.L.Link.coming new.link) new.at (length answer) (arrived _ _ _ _ _ _ _ settled.quiet (c.bind.ensures.sent used).came) c.bind.ensures.within
          (omega (arith, size, end)) size within in
          record {
            settled = record { well = c.bind.ensures.fails settled.well ∙ no_failure c.bind.result has; read = r.read; short = r.short; quiet = r.quiet };
            grown = r.grown;
            used = used;
          }
    ]
