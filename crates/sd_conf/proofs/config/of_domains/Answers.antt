use Rattle.std.proofs.Common.{◌≡◌, ℕ, ◌≤◌, List, [], ◌∷◌, Err, length, map, sym, ap, ◌∙◌, arith}
use Rattle.std.proofs.lemmas.List.{length-map}
use Rattle.sd_conf.specs.declared.ConfFault.TheVariants as faults
use Rattle.sd_conf.specs.Lines.{Setting, settings_seen}
use Rattle.sd_conf.specs.Chosen.{told}
use Rattle.sd_conf.specs.Config.{of_domains}
use Rattle.sd_conf.proofs.config.of_domains.Goals as goal

-- more than one domain is refused with their number
many : {A : Type 0} (see : A → List ℕ) (settings : List Setting) (items : List A) (number : ℕ) → 2 ≤ length items → number ≡ told (length items) → of_domains settings (map see items) ≡ Err (faults.ManyDomains number)
many see settings [] number h e = absurd (omega arith)
many see settings (a ∷ []) number h e = absurd (omega arith)
many see settings (a ∷ b ∷ items) number h e = ap (λ (n : ℕ). Err (faults.ManyDomains n)) (ap told (length-map (a ∷ b ∷ items) see) ∙ sym e)

pub returns-in_default : goal.returns-in_default
returns-in_default c = many (λ x. x.now) (settings_seen c.args.choices.now.entries.items) c.args.domains.now c.told.result c.in_default.len_at_least c.told.ensures
