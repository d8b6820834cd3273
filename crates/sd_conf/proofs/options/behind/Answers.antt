use Rattle.std.proofs.Common.{◌≡◌, ℕ, ◌<◌, Bool, true, false, cond, List, [], ◌∷◌, length, Option, None, refl, sym, arith}
use Rattle.std.specs.Prelude.{◌==◌}
use Rattle.sd_conf.specs.Options.{behind}
use Rattle.sd_conf.proofs.options.behind.Goals as goal

none_both : (b : Bool) (o : Option (List ℕ)) → o ≡ None → cond b o None ≡ None
none_both true o h = h
none_both false o h = refl

too_short : (beginning bytes : List ℕ) → length bytes < length beginning → behind beginning bytes ≡ None
too_short [] bytes h = absurd (omega arith)
too_short (p ∷ ps) [] h = refl
too_short (p ∷ ps) (b ∷ bs) h = none_both (b == p) (behind ps bs) (too_short ps bs (omega arith))

pub returns-then-bytes-beginning : goal.returns-then-bytes-beginning
returns-then-bytes-beginning c = sym (too_short c.args.beginning.now c.args.bytes.now c.if-bytes-beginning.true)
