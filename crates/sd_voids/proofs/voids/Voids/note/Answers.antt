use Rattle.std.proofs.Common.{◌≡◌, ℕ, true, sym, subst}
use Rattle.sd_cache.proofs.Puts.{on_ok}
use Rattle.sd_voids.specs.Entries.{numbers_fall}
use Rattle.sd_voids.specs.Voids.{Sets}
use Rattle.sd_voids.proofs.VoidLaws.{holds_voids_after}
use Rattle.sd_voids.proofs.voids.Voids.note.Goals as goal

pub returns-clause-ok : goal.returns-clause-ok
returns-clause-ok c =
    on_ok c.set.result _ _
    (λ sets past e is same falls holds.
    holds_voids_after past e c.args.what.now c.args.self.now c.set.new.self is
    (subst (λ (n : ℕ). numbers_fall n past ≡ true) (sym same) falls)
    (subst (λ (n : ℕ). Sets c.args.what.now n c.args.self.now c.set.new.self) (sym same) sets) holds)
    c.set.ensures.ok
