use Rattle.std.proofs.Common.{◌≡◌, ◌++◌, drop, map}
use Rattle.sd_conf.specs.Values.{further_labels}
use Rattle.sd_conf.proofs.choices.push_labels.Given as goal

-- what was written, before the labels that are left
abbrev pub invariant-loop-label : goal.invariant-loop-label
invariant-loop-label l = l.out.items ++ further_labels (map (λ x. x.now) (drop l.label-index l.labels)) ≡ l.fn.out.items ++ further_labels (map (λ x. x.now) l.labels)
