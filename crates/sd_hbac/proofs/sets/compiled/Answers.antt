use Rattle.std.proofs.Common.{rules, ◌≡◌, ◌+◌, ◌-◌, ◌∷◌, ◌++◌, [], List, ℕ, true, drop, reverse, arith, subst, sym, ap, ◌∙◌}
use Rattle.sd_rules.specs.declared.records.Rule.{Rule}
use Rattle.sd_hbac.specs.declared.sets.Set.{Set}
use Rattle.sd_hbac.specs.Compiled.{CompilesFrom}
use Rattle.sd_hbac.proofs.Compiling.{compiles_more, fronted}
use Rattle.std.proofs.lemmas.List.{reverse-append}
use Rattle.sd_hbac.proofs.sets.compiled.Goals as goal

pub loop-place-preserved-in_ok-push : goal.loop-place-preserved-in_ok-push
loop-place-preserved-in_ok-push c =
    let place : ℕ = c.loop-place.place - 1 in
    let rest : List Rule = drop c.loop-place.place c.args.rules.now in
    let before : List Set = reverse c.loop-place.sets.items in
    let next : c.loop-place.place ≡ place + 1 = search rules in
    let kept : CompilesFrom c.args.services.now (place + 1) rest before = subst (λ (n : ℕ). CompilesFrom c.args.services.now n rest before) next c.loop-place.invariant in
    let more = compiles_more c.args.services.now place c.index-rules-place.result rest c.in_ok-of.field-0 before c.if-rule.true c.in_ok-of.ensures kept in
    let front : c.index-rules-place.result ∷ rest ≡ drop place c.args.rules.now =
    fronted c.args.rules.now place c.loop-place.place c.index-rules-place.result next (search rules) c.index-rules-place.is in
    let grown : c.in_ok-of.field-0 ∷ before ≡ reverse c.push.new.self.items =
    sym (ap (λ (sets : List Set). reverse sets) c.in_ok-push.ensures.items ∙ reverse-append c.loop-place.sets.items (c.in_ok-of.field-0 ∷ [])) in
    subst (λ (sets : List Set). CompilesFrom c.args.services.now place (drop place c.args.rules.now) sets) grown
    (subst (λ (rules : List Rule). CompilesFrom c.args.services.now place rules (c.in_ok-of.field-0 ∷ before)) front more)
