-- Whether the triples of a netgroup speak of a user.
use Rattle.std.proofs.Common.{◌≡◌, ℕ, Bool, true, false, List, [], ◌∷◌, Some, None, sym, ◌∙◌}
use Rattle.sd_ldap.specs.declared.entry.DirEntry.{DirEntry}
use Rattle.sd_triples.specs.declared.triples.Triple.{Triple}
use Rattle.sd_triples.specs.Matching.{speaks_of, is_in}
use Rattle.sd_nested.proofs.In.{in_any, any_in}
use Rattle.sd_netgroup.specs.Named.{named_in}
use Rattle.sd_netgroup.specs.Paths.{In, AreTriplesOf}
use Rattle.sd_netgroup.specs.Rounds.{is_some}
use Rattle.sd_netgroup.specs.Endings.{AreFound, IsAbsent}
use Rattle.sd_sudo.specs.Standing.{StandsIn, IsSo}

module _ (entries : List DirEntry) (base user net : List ℕ) where
  stands : (triples : List Triple) → AreTriplesOf entries base net triples → is_in triples None (Some user) None ≡ true → StandsIn entries base user net
  stands triples are h =
      let one = any_in (speaks_of None (Some user) None) triples h in
      let from = are.sound one.it one.among in
      record { end = from.0; is_end = from.1; triple = one.it; has = from.2; speaks = one.passes }

  stood : (triples : List Triple) → AreTriplesOf entries base net triples → StandsIn entries base user net → is_in triples None (Some user) None ≡ true
  stood triples are s = in_any (speaks_of None (Some user) None) s.triple triples (are.complete s.end s.triple s.is_end s.has) s.speaks

  so : (triples : List Triple) (b : Bool) → AreTriplesOf entries base net triples → is_in triples None (Some user) None ≡ b → IsSo (StandsIn entries base user net) b
  so triples true are h = stands triples are h
  so triples false are h = λ s. let e : true ≡ false = sym (stood triples are s) ∙ h in absurd cc

  pub found_so : (triples : List Triple) (b : Bool) → b ≡ is_in triples None (Some user) None → AreFound entries base net triples → IsSo (StandsIn entries base user net) b
  found_so triples b e f = so triples b f.are (sym e)

  none_end : (es : List DirEntry) (e : DirEntry) → is_some es ≡ false → In e es → ⊥
  none_end [] e h k = k
  none_end (d ∷ ds) e h k = let f : true ≡ false = h in absurd cc

  pub absent_so : IsAbsent entries base net → IsSo (StandsIn entries base user net) false
  absent_so a = λ s. none_end (named_in entries base net) s.is_end.1 a.none s.is_end.2
