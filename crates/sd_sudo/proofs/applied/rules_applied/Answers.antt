use Rattle.std.proofs.Common.{◌≡◌, List, rules, subst}
use Rattle.std.specs.List.Sorted.{IsPermutation, IsStable}
use Rattle.std.specs.Ordering.{is_lt}
use Rattle.std.proofs.lemmas.List.Sorted.{answers_always}
use Rattle.std.proofs.lemmas.Fn.{filter_same}
use Rattle.sd_roles.specs.declared.roles.Role.{Role}
use Rattle.sd_roles.specs.Applying.{applies}
use Rattle.sd_sudo.specs.Applied.{role_cmp, applying}
use Rattle.sd_sudo.proofs.Orders.{ranks}
use Rattle.sd_sudo.proofs.applied.rules_applied.Goals as goal

pub returns : goal.returns
returns c =
    let kept : c.retain.new.self.items ≡ applying c.args.roles.items c.args.asker.now c.args.nets.now =
    filter_same _ (λ (r : Role). applies r c.args.asker.now c.args.nets.now) _ (λ x b f k. search rules) _ _ c.retain.ensures.filtered in
    record {
      same = subst (λ (xs : List Role). IsPermutation xs c.sort_by.new.self.items) kept c.in_ok-sort_by.ensures.permutation;
      sorted = c.in_ok-sort_by.ensures.sorted (λ (a b : Role). is_lt (role_cmp a b)) ranks (answers_always _ _ _ (λ f a r g h. search rules));
      stable = subst (λ (xs : List Role). IsStable role_cmp xs c.sort_by.new.self.items) kept
          (c.in_ok-sort_by.ensures.stable (λ (a b : Role). is_lt (role_cmp a b)) ranks (answers_always _ _ _ (λ f a r g h. search rules)));
    }
