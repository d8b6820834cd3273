use Rattle.std.proofs.Common.{◌≡◌, true, ◌+◌, ◌∷◌, ◌≤◌, ◌*◌, ap, sym, subst, ◌∙◌}
use Rattle.sd_rules.specs.declared.replies.Entry.{Entry}
use Rattle.sd_rules.specs.declared.replies.Given.{Given}
use Rattle.sd_rules.specs.Requests.{reserved_places}
use Rattle.sd_rules.specs.Steps.{Daemon, given_by, next_number, recorded, reply_to}
use Rattle.sd_rules.specs.TextBytes.{text_bytes}
use Rattle.sd_index.specs.Table.{takes_none}
use Rattle.sd_core.specs.Laws.{IsKept}
use Rattle.sd_core.specs.Sound.{IsSound}
use Rattle.sd_core.proofs.KeptLaws.{given_follows, kept_after}
use Rattle.sd_core.proofs.Stepped.{closing_place_back, closing_takes_none, entry_is, sound_after}
use Rattle.sd_core.proofs.cores.EntryCore.step.Goals as goal

pub returns-then-is_full-clause-texts : goal.returns-then-is_full-clause-texts
returns-then-is_full-clause-texts g c = c.moment_of-moment.ensures.sound.texts

pub append-requires-clause-sound : goal.append-requires-clause-sound
append-requires-clause-sound g c =
    let made = entry_is c.args.self.now c.args.now c.args.event c.in-Ok.given.number c.moment_of-moment.result c.in-Ok.given.reply
    (ap (λ (x : Given). x.number) c.in-Ok.ensures.made) c.moment_of-moment.ensures.moment (ap (λ (x : Given). x.reply) c.in-Ok.ensures.made) in
    subst (λ (e : Entry). IsSound (recorded c.args.self.now e)) (sym made)
    (sound_after c.args.self.now c.args.now c.args.event c.is_full.ensures.small c.moment_of-moment.ensures.sound c.requires (sym c.is_full.ensures.exact ∙ c.if-is_full.false))

pub append-requires-clause-kept : goal.append-requires-clause-kept
append-requires-clause-kept g c =
    let made = entry_is c.args.self.now c.args.now c.args.event c.in-Ok.given.number c.moment_of-moment.result c.in-Ok.given.reply
    (ap (λ (x : Given). x.number) c.in-Ok.ensures.made) c.moment_of-moment.ensures.moment (ap (λ (x : Given). x.reply) c.in-Ok.ensures.made) in
    subst (λ (e : Entry). IsKept (recorded c.args.self.now e)) (sym made)
    (kept_after c.args.self.now c.args.now c.args.event c.requires c.moment_of-moment.ensures.kept)

pub append-requires-clause-back : goal.append-requires-clause-back
append-requires-clause-back g c = λ h.
    let made = entry_is c.args.self.now c.args.now c.args.event c.in-Ok.given.number c.moment_of-moment.result c.in-Ok.given.reply
    (ap (λ (x : Given). x.number) c.in-Ok.ensures.made) c.moment_of-moment.ensures.moment (ap (λ (x : Given). x.reply) c.in-Ok.ensures.made) in
    subst (λ (e : Entry). reserved_places (e ∷ c.args.self.now.past) + 1 ≤ reserved_places c.args.self.now.past) (sym made)
    (closing_place_back c.args.self.now c.args.now c.args.event c.moment_of-moment.ensures.sound h)

pub returns-in-Ok-append-clause-of_kind : goal.returns-in-Ok-append-clause-of_kind
returns-in-Ok-append-clause-of_kind g c =
    let d : Daemon = c.args.self.now in
    let is = c.in-Ok.ensures.made ∙ ap (λ t. given_by d.past (next_number d) (reply_to d.settings d.past (next_number d) t c.args.event)) c.moment_of-moment.ensures.moment in
    let laws = given_follows d c.args.now c.args.event c.in-Ok.given is c.moment_of-moment.ensures.kept in
    laws.of_kind

pub returns-in-Ok-append-clause-texts : goal.returns-in-Ok-append-clause-texts
returns-in-Ok-append-clause-texts g c =
    let made = entry_is c.args.self.now c.args.now c.args.event c.in-Ok.given.number c.moment_of-moment.result c.in-Ok.given.reply
    (ap (λ (x : Given). x.number) c.in-Ok.ensures.made) c.moment_of-moment.ensures.moment (ap (λ (x : Given). x.reply) c.in-Ok.ensures.made) in
    let sound = subst (λ (e : Entry). IsSound (recorded c.args.self.now e)) (sym made)
    (sound_after c.args.self.now c.args.now c.args.event c.is_full.ensures.small c.moment_of-moment.ensures.sound c.requires (sym c.is_full.ensures.exact ∙ c.if-is_full.false)) in
    subst (λ (d : Daemon). text_bytes d.past ≤ 512 * 1024 * 1024) (sym c.in-Ok-append.ensures.ok) sound.texts

pub append-requires-clause-none : goal.append-requires-clause-none
append-requires-clause-none g c = λ h.
    let made = entry_is c.args.self.now c.args.now c.args.event c.in-Ok.given.number c.moment_of-moment.result c.in-Ok.given.reply
    (ap (λ (x : Given). x.number) c.in-Ok.ensures.made) c.moment_of-moment.ensures.moment (ap (λ (x : Given). x.reply) c.in-Ok.ensures.made) in
    subst (λ (e : Entry). takes_none e ≡ true) (sym made) (closing_takes_none c.args.self.now c.args.now c.args.event h)
