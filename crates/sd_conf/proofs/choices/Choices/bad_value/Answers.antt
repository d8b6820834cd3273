use Rattle.std.proofs.Common.{◌≡◌, ℕ, Option, subst}
use Rattle.std.specs.Prelude.{IfOk}
use Rattle.sd_conf.specs.Options.{all_options}
use Rattle.sd_conf.specs.Chosen.{chosen, least_bad}
use Rattle.sd_conf.proofs.choices.Choices.bad_value.Goals as goal

-- the options of the code are those of the table
pub returns : goal.returns
returns c = subst (λ (line : Option ℕ). IfOk c.least_bad.result (λ found. found ≡ least_bad (chosen c.args.self.now) line all_options)) c.in_ok-line.ensures c.least_bad.ensures
