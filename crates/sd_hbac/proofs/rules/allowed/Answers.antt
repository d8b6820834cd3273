use Rattle.std.proofs.Common.{rules, ◌≡◌, IfSome, IfNone, ℕ, Option, sym, subst}
use Rattle.sd_rules.specs.Access as access
use Rattle.sd_hbac.specs.Seen as seen
use Rattle.sd_hbac.specs.Grants.{Grants, NoneMatches}
use Rattle.sd_hbac.proofs.Least.{granting_grants, none_matches}
use Rattle.sd_hbac.proofs.rules.allowed.Goals as goal

pub returns-clause-found : goal.returns-clause-found
returns-clause-found c =
    let who = seen.asker c.args.who.now in
    let is : c.map.result ≡ access.granting_rule c.args.book.now who = search rules in
    subst (λ (r : Option ℕ). IfSome r (Grants c.args.book.now who)) (sym is) (granting_grants c.args.book.now who)

pub returns-clause-none : goal.returns-clause-none
returns-clause-none c =
    let who = seen.asker c.args.who.now in
    let is : c.map.result ≡ access.granting_rule c.args.book.now who = search rules in
    subst (λ (r : Option ℕ). IfNone r (NoneMatches c.args.book.now who)) (sym is) (none_matches c.args.book.now who)
