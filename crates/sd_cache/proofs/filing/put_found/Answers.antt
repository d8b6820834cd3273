use Rattle.std.proofs.Common.{cond, List, Option, Some, refl, ◌∙◌, ap}
use Rattle.sd_rules.specs.declared.keys.Key.{Key}
use Rattle.sd_rules.specs.Keys.{same_key}
use Rattle.sd_cache.specs.declared.kept.Newest.{Newest}
use Rattle.sd_cache.specs.Cache.{newest_in}
use Rattle.sd_cache.proofs.Puts.{three_puts}
use Rattle.sd_cache.proofs.filing.put_found.Goals as goal

pub returns-clause-ok : goal.returns-clause-ok
returns-clause-ok c k =
    let old : List (Key × Newest) = c.args.answers.now.entries in
    c.file-3.ensures.filed k
    ∙ ap (λ (o : Option Newest). cond (same_key c.args.number k) (Some c.in_ok-own.field-0.second) o)
    (c.file-2.ensures.filed k
    ∙ ap (λ (o : Option Newest). cond (same_key c.args.name k) (Some c.in_ok-own.field-0.first) o)
    (c.file.ensures.filed k
    ∙ ap (λ (es : List (Key × Newest)). cond (same_key c.in_ok-own.field-0.own k) (Some c.args.newest) (newest_in es k)) c.in_ok-reserve.ensures.entries
    ∙ ap (λ (own : Key). cond (same_key own k) (Some c.args.newest) (newest_in old k)) c.in_ok-own.ensures.own))
    ∙ three_puts (same_key c.args.newest.own k) (same_key c.args.name k) (same_key c.args.number k) c.args.newest c.args.newest c.in_ok-own.field-0.first c.in_ok-own.field-0.second (newest_in old k) refl c.in_ok-own.ensures.first c.in_ok-own.ensures.second
