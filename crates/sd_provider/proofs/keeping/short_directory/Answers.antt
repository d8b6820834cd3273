use Rattle.std.proofs.Common.{◌≡◌, true, List, subst, sym, ◌∙◌}
use Rattle.std.proofs.lemmas.Result.{IfOk-weaker}
use Rattle.sd_ldap.specs.declared.entry.DirEntry.{DirEntry}
use Rattle.sd_dial.specs.Rooms.{are_short}
use Rattle.sd_provider.proofs.Rooms.{short_kept}
use Rattle.sd_provider.proofs.keeping.short_directory.Goals as goal

pub returns-clause-short : goal.returns-clause-short
returns-clause-short c = IfOk-weaker c.directory_of.result _ _ (λ directory e. subst (λ (es : List DirEntry). are_short es ≡ true) (sym e) (short_kept c.args.entries.now (sym c.are_short.ensures ∙ c.if-not-are_short.false))) c.directory_of.ensures.kept
