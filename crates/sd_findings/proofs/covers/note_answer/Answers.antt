use Rattle.std.proofs.Common.{ap}
use Rattle.std.specs.Option.{option_copied}
use Rattle.sd_rules.specs.declared.keys.Key.{Key}
use Rattle.sd_rules.specs.declared.records.Answered.{Answered}
use Rattle.sd_cache.proofs.Puts.{on_ok}
use Rattle.sd_findings.specs.Covers.{user_of_key, group_of_key, user_found, group_found}
use Rattle.sd_findings.specs.declared.covers.ByWhat.{ByWhat}
use Rattle.sd_findings.proofs.CoverLaws.{answer_after, puts_for}
use Rattle.sd_findings.proofs.covers.note_answer.Goals as goal

pub returns : goal.returns
returns c =
    let own : Key = c.args.a.own.now in
    let answered : Answered = c.args.a.answered.now in
    let old : ByWhat = c.args.firsts.now in
    let lasts : ByWhat = c.args.lasts.now in
    let kinds : ByWhat = c.note_kinds.new.firsts in
    on_ok c.put_both-2.result _ _
    (λ groups. answer_after own answered lasts old
    (record { all = kinds.all; users = kinds.users; groups = kinds.groups; user_names = c.put_both.new.firsts; group_names = c.put_both-2.new.firsts }) c.args.number
    c.note_kinds.ensures.all c.note_kinds.ensures.users c.note_kinds.ensures.groups
    (puts_for (option_copied c.user_of_key-by_key.result) (option_copied c.user_found-found.result) (user_of_key own) (user_found answered) lasts.user_names.entries
    kinds.user_names.entries old.user_names.entries c.put_both.new.firsts.entries c.args.number c.user_of_key-by_key.ensures c.user_found-found.ensures
    (ap (λ n. n.entries) c.note_kinds.ensures.same_users) c.in_ok-put_both.ensures)
    (puts_for (option_copied c.group_of_key-by_key.result) (option_copied c.group_found-found.result) (group_of_key own) (group_found answered) lasts.group_names.entries
    kinds.group_names.entries old.group_names.entries c.put_both-2.new.firsts.entries c.args.number c.group_of_key-by_key.ensures c.group_found-found.ensures
    (ap (λ n. n.entries) c.note_kinds.ensures.same_groups) groups))
    c.put_both-2.ensures
