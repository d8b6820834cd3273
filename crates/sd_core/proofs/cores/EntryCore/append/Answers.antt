use Rattle.std.proofs.Common.{◌≡◌, ◌+◌, ◌∷◌, ◌≤◌, true, sym, subst}
use Rattle.sd_rules.specs.Requests.{reserved_places}
use Rattle.sd_rules.specs.Steps.{Daemon, recorded}
use Rattle.sd_voids.specs.Entries.{numbers_fall}
use Rattle.sd_index.specs.Table.{takes_none}
use Rattle.sd_past.specs.Closing.{closes_place}
use Rattle.sd_keeping.specs.Counts.{HasCounts}
use Rattle.sd_core.specs.Held.{daemon_of}
use Rattle.sd_core.specs.Laws.{IsKept}
use Rattle.sd_core.specs.Sound.{IsSound}
use Rattle.sd_core.proofs.HeldLaws.{counts_if_sound, falls_below, held_after}
use Rattle.sd_books.proofs.RuledLaws.{says_then}
use Rattle.sd_core.proofs.cores.EntryCore.append.Goals as goal

pub put-requires-clause-numbers : goal.put-requires-clause-numbers
put-requires-clause-numbers g c =
    subst (λ (d : Daemon). numbers_fall c.args.entry.number d.past ≡ true) (sym c.self.view_is) (falls_below c.args.self.now c.args.entry c.requires.sound)

pub put-requires-clause-before : goal.put-requires-clause-before
put-requires-clause-before g c =
    counts_if_sound (daemon_of c.self.inside.settings c.self.inside.next c.self.inside.floor (g.P.Past.entries c.self.inside.past)) c.self.invariant.0.sound

pub put-requires-clause-after : goal.put-requires-clause-after
put-requires-clause-after g c =
    subst (λ (d : Daemon). HasCounts (c.args.entry ∷ d.past)) (sym c.self.view_is) (counts_if_sound (recorded c.args.self.now c.args.entry) c.requires.sound)

pub put-requires-clause-back : goal.put-requires-clause-back
put-requires-clause-back g c =
    subst (λ (d : Daemon). closes_place d.past c.args.entry.event ≡ true → reserved_places (c.args.entry ∷ d.past) + 1 ≤ reserved_places d.past) (sym c.self.view_is) c.requires.back

pub put-requires-clause-none : goal.put-requires-clause-none
put-requires-clause-none g c =
    subst (λ (d : Daemon). closes_place d.past c.args.entry.event ≡ true → takes_none c.args.entry ≡ true) (sym c.self.view_is) c.requires.none

pub invariant_of-self-2 : goal.invariant_of-self-2
invariant_of-self-2 g c = (
  held_after c.self.inside.settings c.self.inside.next c.self.inside.floor c.self.inside.text_bytes c.of_event.result c.self.inside.has_stopped c.stops_after-has_stopped.result
      (g.P.Past.entries c.self.inside.past) (g.P.Past.entries c.put.new.past) c.args.entry c.self.invariant.0 c.in_ok-put.ensures.ok c.of_event.ensures c.stops_after-has_stopped.ensures
      (subst (λ (d : Daemon). IsSound (recorded d c.args.entry)) (sym c.self.view_is) c.requires.sound)
      (subst (λ (d : Daemon). IsKept (recorded d c.args.entry)) (sym c.self.view_is) c.requires.kept),
  (says_then g.R.Ruling.Says (g.P.Past.entries c.self.inside.past) (g.P.Past.entries c.put.new.past) c.args.entry c.in-Ok.ruling c.self.inside.ruling c.keep.new.kept c.in-Ok.ensures.made c.self.invariant.1.0 c.keep.ensures c.in_ok-put.ensures.ok, c.in_ok-put.ensures.says),
)
