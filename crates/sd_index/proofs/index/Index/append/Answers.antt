use Rattle.std.proofs.Common.{not, List, ◌++◌, filter, reverse, Option, sym, ◌∙◌, ap, subst}
use Rattle.sd_rules.specs.declared.replies.Entry.{Entry}
use Rattle.sd_index.specs.declared.places.Place.{Place}
use Rattle.sd_index.specs.Places.{listed, gives_back}
use Rattle.sd_index.specs.Signals.{signals_after}
use Rattle.sd_index.specs.Table.{Table, Indexes}
use Rattle.sd_index.proofs.TableLaws.{indexes_after}
use Rattle.sd_index.proofs.index.Index.append.Goals as goal

pub returns-clause-ok : goal.returns-clause-ok
returns-clause-ok c =
    let is = subst (λ (t : Table). Indexes (reverse c.args.before.now) t) (sym c.self.view_is) c.requires.indexes in
    indexes_after (reverse c.args.before.now) c.args.entry.now _ _ is c.requires.numbers (c.in_ok-file.ensures.answers is.answers) (c.in_ok-file.ensures.bounds is.bounds)
    c.outage_after-self-inside.ensures
    (c.settle.ensures
    ∙ ap (λ (ps : List Place). filter (λ p. not (gives_back c.args.entry.now.event c.args.entry.now.reply p)) ps ++ listed c.in_ok-place.place) c.in_ok-make_room.ensures.same
    ∙ ap (λ (o : Option Place). filter (λ p. not (gives_back c.args.entry.now.event c.args.entry.now.reply p)) c.self.inside.places.items ++ listed o) c.in_ok-place.ensures.made)
    (c.note.ensures ∙ ap (λ (es : List Entry). signals_after (reverse es) c.args.entry.now) c.in_ok-make_room-2.ensures.same)
