use Rattle.std.proofs.Common.{Bool, cond, Option, Some, ◌∙◌, ap, sym}
use Rattle.std.specs.Map.{lookup}
use Rattle.sd_rules.specs.Keys.{same_key}
use Rattle.sd_cache.specs.declared.kept.Newest.{Newest}
use Rattle.sd_rules.proofs.SameKeys.{keys_equal, keys_equal_is}
use Rattle.sd_cache.proofs.Same.{look_up_is}
use Rattle.sd_cache.proofs.Puts.{of_ok}
use Rattle.sd_cache.proofs.filing.file.Goals as goal

pub returns-clause-filed : goal.returns-clause-filed
returns-clause-filed c k =
    sym (look_up_is c.insert-before.new.self.entries k)
    ∙ (of_ok c.insert-before.result _ (c.insert-before.ensures.succeeds c.requires) c.insert-before.ensures.updates).0 k
    ∙ ap (λ (b : Bool). cond b (Some c.args.newest) (lookup (keys_equal k) c.args.answers.now.entries)) (keys_equal_is c.args.key k)
    ∙ ap (λ (o : Option Newest). cond (same_key c.args.key k) (Some c.args.newest) o) (look_up_is c.args.answers.now.entries k)
