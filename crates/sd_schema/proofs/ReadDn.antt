-- A DN is read from its text exactly where the text spells it.
use Rattle.std.proofs.Common.{◌≡◌, ℕ, List, [], Some, None, Result, Ok, Err, refl, ap, subst}
use Rattle.std.specs.Result.{result_ok}
use Rattle.sd_dn.specs.declared.Pair.{Pair}
use Rattle.sd_dn.specs.declared.DnFault.{DnFault}
use Rattle.sd_dn.specs.declared.DnFault.TheVariants as faults
use Rattle.sd_dn.specs.Grammar.{Spells, Reads}
use Rattle.sd_dn.specs.Reading.{Start, run}
use Rattle.sd_dn.proofs.Complete.{is_read}
use Rattle.sd_dn.proofs.Sound.{is_spelled}
use Rattle.sd_schema.specs.Places.{dn_in}

pub read_so : (text : List ℕ) (dn : List (List Pair)) → Spells text dn → Some dn ≡ dn_in text
read_so text dn spelled = let e : dn_in text ≡ Some dn = ap result_ok (is_read text dn spelled) in cc

none_of : (text : List ℕ) (r : Result (List (List Pair)) ℕ) → ((dn : List (List Pair)) → r ≡ Ok dn → ⊥) → result_ok r ≡ None
none_of text (Ok dn) f = absurd (f dn refl)
none_of text (Err left) f = refl

unread : (text : List ℕ) (place : ℕ) → ((dn : List (List Pair)) → Spells text dn → Reads (Err (faults.BadDn place)) dn) → None ≡ dn_in text
unread text place all = let e : dn_in text ≡ None = none_of text (run (Start [] []) text) (λ dn h. all dn (is_spelled text dn h)) in cc

pub not_read : (text : List ℕ) (fault : DnFault) (place : ℕ) → ((dn : List (List Pair)) → Spells text dn → Reads (Err fault) dn) → fault ≡ faults.BadDn place → None ≡ dn_in text
not_read text fault place all e = unread text place (λ dn spelled. subst (λ (f : DnFault). Reads (Err f) dn) e (all dn spelled))
