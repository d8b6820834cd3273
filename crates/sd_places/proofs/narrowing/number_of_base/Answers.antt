use Rattle.std.proofs.Common.{ℕ, subst, sym}
use Rattle.sd_ldap.specs.declared.entry.DirEntry.{DirEntry}
use Rattle.sd_ldap.specs.Values.{search_value}
use Rattle.sd_match.specs.Answering.{is_found}
use Rattle.sd_places.specs.Covers.{AreEnough}
use Rattle.sd_places.specs.Index.{found_under}
use Rattle.sd_places.proofs.Near.{base_all}
use Rattle.sd_places.proofs.narrowing.number_of_base.Goals as goal

pub returns : goal.returns
returns c =
    subst (λ (n : ℕ). AreEnough (λ (e : DirEntry). is_found (search_value c.args.request.now) e) c.args.slots.now (found_under c.args.index.now n)) (sym c.base_number.ensures)
    (base_all c.args.index.now c.args.slots.now (search_value c.args.request.now) c.args.base.now c.check.ensures c.requires.index c.requires.base)
