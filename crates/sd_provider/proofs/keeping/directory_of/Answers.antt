use Rattle.std.proofs.Common.{◌≡◌, true, List, subst, sym}
use Rattle.std.proofs.lemmas.Result.{IfOk-weaker}
use Rattle.sd_ldap.specs.declared.entry.DirEntry.{DirEntry}
use Rattle.sd_stub_link.specs.Distinct.{have_own_dns}
use Rattle.sd_provider.proofs.OwnDns.{own_kept}
use Rattle.sd_provider.proofs.keeping.directory_of.Goals as goal

pub returns-clause-own : goal.returns-clause-own
returns-clause-own c = IfOk-weaker c.new.result _ _ (λ directory e. subst (λ (es : List DirEntry). have_own_dns es ≡ true) (sym e) (own_kept c.in_ok-copies.field-0.items)) c.new.ensures
