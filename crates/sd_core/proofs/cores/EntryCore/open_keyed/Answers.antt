use Rattle.std.proofs.Common.{rules, ◌≡◌, ◌-◌, ◌^◌, List, None, min, reverse, arith, ap, sym, subst, ◌∙◌}
use Rattle.std.specs.Prelude.{Option}
use Rattle.std.specs.Option.{option_map}
use Rattle.sd_rules.specs.declared.replies.Entry.{Entry}
use Rattle.sd_rules.specs.Past.{Standing}
use Rattle.sd_journal.specs.Seen.{standing}
use Rattle.sd_rules.specs.KeptRows.{bad_row}
use Rattle.sd_rules.specs.Steps.{Daemon}
use Rattle.sd_rules.specs.TextBytes.{text_bytes}
use Rattle.sd_core.specs.Held.{daemon_of}
use Rattle.sd_core.specs.Laws.{IsKept}
use Rattle.sd_core.specs.Looks.{has_stopped}
use Rattle.sd_books.specs.Noted.{HadCounts}
use Rattle.sd_core.specs.Sound.{IsSound}
use Rattle.sd_core.proofs.HeldLaws.{falls_if_sound, held_at_first, next_at_first}
use Rattle.sd_core.proofs.OpeningLaws.{bad_row_within, counted_at_first, kept_at_first, sound_at_first}
use Rattle.sd_books.proofs.RuledLaws.{opened_below}
use Rattle.sd_core.proofs.cores.EntryCore.open_keyed.Goals as goal

pub overflow_cast-result : goal.overflow_cast-result
overflow_cast-result g c =
    let within = bad_row_within c.args.rows c.in-Some.place (sym c.in-Some.ensures) in
    omega (arith, within, c.requires.few)

pub open-requires : goal.open-requires
open-requires g c =
    let good : bad_row c.args.rows ≡ None = search rules in
    let is = c.in_ok-next.ensures c.args.settings in
    let sound = sound_at_first c.args.settings c.args.rows c.requires.servers c.requires.few
    (next_at_first c.args.settings c.args.rows c.in_ok-next.field-0.next c.in_ok-next.field-0.floor (reverse c.in_ok-next.field-0.entries.items) is (omega arith)) good in
    let here : IsSound (daemon_of c.args.settings c.in_ok-next.field-0.next c.in_ok-next.field-0.floor (reverse c.in_ok-next.field-0.entries.items)) = subst IsSound (sym is) sound in
    falls_if_sound c.in_ok-next.field-0.next (reverse c.in_ok-next.field-0.entries.items) here.numbers

pub invariant_of-result : goal.invariant_of-result
invariant_of-result g c =
    let good : bad_row c.args.rows ≡ None = search rules in
    let is = c.in_ok-next.ensures c.args.settings in (
      held_at_first c.args.settings c.args.rows c.in_ok-next.field-0.next c.in_ok-next.field-0.floor c.of_entries-text_bytes.result c.has_stopped-has_stopped.result
          c.in_ok-next.field-0.entries.items (g.P.Past.entries c.in_ok-past.past) is c.in_ok-past.ensures
          (c.of_entries-text_bytes.ensures ∙ ap (λ (es : List Entry). min (text_bytes (reverse es)) (2 ^ 64 - 1)) c.as_slice.ensures.value)
          (c.has_stopped-has_stopped.ensures ∙ ap (λ (es : List Entry). has_stopped (reverse es)) c.as_slice-2.ensures.value)
          (sound_at_first c.args.settings c.args.rows c.requires.servers c.requires.few
          (next_at_first c.args.settings c.args.rows c.in_ok-next.field-0.next c.in_ok-next.field-0.floor (reverse c.in_ok-next.field-0.entries.items) is (omega arith)) good)
          (kept_at_first c.args.settings c.args.rows good),
      (
        subst (λ (o : Option Standing). g.R.Ruling.Says c.in_ok-ruling.ruling o) c.newest.ensures c.in_ok-ruling.ensures,
        subst (λ (es : List Entry). g.L.LoginBook.Says c.in_ok-logins.logins es) (sym c.in_ok-past.ensures)
            (subst (λ (es : List Entry). g.L.LoginBook.Says c.in_ok-logins.logins (reverse es)) c.as_slice-3.ensures.value c.in_ok-logins.ensures),
      ),
    )

pub read-requires : goal.read-requires
read-requires g c =
    let good : bad_row c.args.rows ≡ None = search rules in
    let is = c.in_ok-next.ensures c.args.settings in
    let had = counted_at_first c.args.settings c.args.rows
    (next_at_first c.args.settings c.args.rows c.in_ok-next.field-0.next c.in_ok-next.field-0.floor (reverse c.in_ok-next.field-0.entries.items) is (omega arith)) good in
    let here : HadCounts (reverse c.in_ok-next.field-0.entries.items) = subst (λ (d : Daemon). HadCounts d.past) (sym is) had in
    subst (λ (es : List Entry). HadCounts (reverse es)) (sym c.as_slice-3.ensures.value) here

pub of-requires : goal.of-requires
of-requires g c =
    let good : bad_row c.args.rows ≡ None = search rules in
    let is = c.in_ok-next.ensures c.args.settings in
    let sound = sound_at_first c.args.settings c.args.rows c.requires.servers c.requires.few
    (next_at_first c.args.settings c.args.rows c.in_ok-next.field-0.next c.in_ok-next.field-0.floor (reverse c.in_ok-next.field-0.entries.items) is (omega arith)) good in
    let here : IsSound (daemon_of c.args.settings c.in_ok-next.field-0.next c.in_ok-next.field-0.floor (reverse c.in_ok-next.field-0.entries.items)) = subst IsSound (sym is) sound in
    opened_below (g.P.Past.entries c.in_ok-past.past) (reverse c.in_ok-next.field-0.entries.items) (option_map standing c.newest.result) c.newest.ensures c.in_ok-past.ensures here.texts

pub returns-clause-kept : goal.returns-clause-kept
returns-clause-kept g c =
    let good : bad_row c.args.rows ≡ None = search rules in
    let same = ap (λ (es : List Entry). daemon_of c.args.settings c.in_ok-next.field-0.next c.in_ok-next.field-0.floor es) c.in_ok-past.ensures ∙ c.in_ok-next.ensures c.args.settings in
    subst IsKept (sym same) (kept_at_first c.args.settings c.args.rows good)
