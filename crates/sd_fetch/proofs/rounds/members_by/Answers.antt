use Rattle.std.proofs.Common.{refl}
use Rattle.sd_fetch.proofs.Chains.{Shows, same_name, rounded_all, rounded_stop}
use Rattle.sd_fetch.proofs.RoundLaws.{tells_first}
use Rattle.sd_fetch.proofs.rounds.members_by.Goals as goal

pub returns-in-Ok-clause-name : goal.returns-in-Ok-clause-name
returns-in-Ok-clause-name g c =
    same_name _ _ (λ r. r.client.ghost_name) (λ r. r.base.now) (λ r. r.client.now) (λ r. r.is_stopped) (record { goes = λ a x b w. w }) c.args.rounds.now _ c.members.new.searcher c.in-Ok.ensures.exchanged.in_order

pub returns-in-Err-clause-name : goal.returns-in-Err-clause-name
returns-in-Err-clause-name g c =
    same_name _ _ (λ r. r.client.ghost_name) (λ r. r.base.now) (λ r. r.client.now) (λ r. r.is_stopped) (record { goes = λ a x b w. w }) c.args.rounds.now _ c.members.new.searcher c.in-Err.ensures.exchanged.in_order

pub returns-in-Ok-clause-rounded : goal.returns-in-Ok-clause-rounded
returns-in-Ok-clause-rounded g c =
    rounded_all _ _ (λ r. r.client.ghost_name) (λ r. r.base.now) (λ r. r.client.now) (λ r. r.is_stopped) (record { goes = λ a x b w. w }) c.args.rounds.now c.members.new.searcher _ _ c.requires c.in-Ok.ensures.exchanged
    (λ b is quiet. tells_first _ _ _ b is quiet)

pub returns-in-Err-clause-rounded : goal.returns-in-Err-clause-rounded
returns-in-Err-clause-rounded g c =
    rounded_stop _ _ (λ r. r.client.ghost_name) (λ r. r.base.now) (λ r. r.client.now) (λ r. r.is_stopped) (record { goes = λ a x b w. w }) c.args.rounds.now c.members.new.searcher _ c.early_by.result _ _ c.requires c.early_by.ensures c.in-Err.ensures.exchanged
    (λ b is quiet. tells_first _ _ _ b is quiet)
