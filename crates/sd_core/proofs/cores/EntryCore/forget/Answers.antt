use Rattle.sd_forgetting.proofs.Forgets.{needed_kept}
use Rattle.sd_core.proofs.HeldLaws.{held_forgotten}
use Rattle.sd_books.proofs.RuledLaws.{says_forgotten}
use Rattle.sd_core.proofs.cores.EntryCore.forget.Goals as goal

pub forget-requires-clause-shown : goal.forget-requires-clause-shown
forget-requires-clause-shown g c = needed_kept c.self.inside.next (g.P.Past.entries c.self.inside.past) c.self.invariant.0.kept.orderly

pub invariant_of-self-2 : goal.invariant_of-self-2
invariant_of-self-2 g c = (
  held_forgotten c.self.inside.settings c.self.inside.next c.self.inside.floor c.self.inside.text_bytes c.in_ok-dropped.field-0.text_bytes c.saturating_sub-self-inside.result
      c.self.inside.has_stopped (g.P.Past.entries c.self.inside.past) (g.P.Past.entries c.forget.new.past) c.self.invariant.0 c.in_ok-dropped.ensures.kept
      c.in_ok-dropped.ensures.back.texts c.saturating_sub-self-inside.ensures,
  (
    says_forgotten g.R.Ruling.Says c.self.inside.next (g.P.Past.entries c.self.inside.past) (g.P.Past.entries c.forget.new.past) c.self.inside.ruling c.self.invariant.0.kept.orderly c.in_ok-dropped.ensures.kept c.self.invariant.1.0,
    c.in_ok-dropped.ensures.says,
  ),
)
