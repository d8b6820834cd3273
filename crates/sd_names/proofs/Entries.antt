-- DNs beside their names.
use Rattle.std.proofs.Common.{◌≡◌, Bool, true, false, ◌||◌, List, [], ◌∷◌, ◌++◌, map, Option, Some, refl, sym, ap, ◌∙◌, subst, cond, is_some}
use Rattle.std.specs.List.{list_any}
use Rattle.std.specs.Map.{lookup}
use Rattle.std.proofs.lemmas.List.{map-append}
use Rattle.std.proofs.lemmas.List.Elements.{All-head, All-tail, All-push}
use Rattle.indexmap.specs.IndexMap.{insert_entry}
use Rattle.sd_dn.specs.declared.Pair.{Pair}
use Rattle.sd_dn.specs.Comparing.{same_dn}
use Rattle.sd_names.specs.declared.naming.Name.{Name}
use Rattle.sd_names.specs.Naming.{lower_dn, parts, names_equal, AreNames}
use Rattle.sd_names.proofs.Names.{named_same}

abbrev pub dns_in : List (Name × List (List Pair)) → List (List (List Pair))
dns_in entries = map (λ (e : Name × List (List Pair)). e.1) entries

found_by : (b : Bool) (dn : List (List Pair)) (o : Option (List (List Pair))) → is_some (cond b (Some dn) o) ≡ (b || is_some o)
found_by true dn o = refl
found_by false dn o = refl

-- an equal DN is there where its name is found
pub found_is : (es : List (Name × List (List Pair))) (name : Name) (dn : List (List Pair)) → AreNames es → parts name ≡ lower_dn dn → is_some (lookup (names_equal name) es) ≡ list_any (same_dn dn) (dns_in es)
found_is [] name dn a p = refl
found_is (e ∷ es) name dn a p =
    let own : parts e.0 ≡ lower_dn e.1 = All-head (λ (x : Name × List (List Pair)). parts x.0 ≡ lower_dn x.1) e es a in
    let rest : AreNames es = All-tail (λ (x : Name × List (List Pair)). parts x.0 ≡ lower_dn x.1) e es a in
    found_by (names_equal name e.0) e.1 (lookup (names_equal name) es)
    ∙ (ap (λ (b : Bool). b || is_some (lookup (names_equal name) es)) (named_same name e.0 dn e.1 p own)
    ∙ ap (λ (b : Bool). same_dn dn e.1 || b) (found_is es name dn rest p))

behind_by : (b : Bool) (e own : Name × List (List Pair)) (es made : List (Name × List (List Pair))) (o : Option (List (List Pair))) (dn : List (List Pair)) → is_some (cond b (Some dn) o) ≡ false
    → (is_some o ≡ false → made ≡ es ++ own ∷ []) → cond b ((e.0, own.1) ∷ es) (e ∷ made) ≡ e ∷ es ++ own ∷ []
behind_by true e own es made o dn h k = cc
behind_by false e own es made o dn h k = ap (λ (xs : List (Name × List (List Pair))). e ∷ xs) (k h)

-- a name that is not there goes behind the others
pub goes_behind : (es : List (Name × List (List Pair))) (name : Name) (dn : List (List Pair)) → is_some (lookup (names_equal name) es) ≡ false → insert_entry names_equal es name dn ≡ es ++ (name, dn) ∷ []
goes_behind [] name dn h = refl
goes_behind (e ∷ es) name dn h = behind_by (names_equal name e.0) e (name, dn) es (insert_entry names_equal es name dn) (lookup (names_equal name) es) e.1 h (goes_behind es name dn)

-- what the map says of a name, the DNs say
pub told : (es : List (Name × List (List Pair))) (met : List (List (List Pair))) (name : Name) (dn : List (List Pair)) (found : Bool) → AreNames es → dns_in es ≡ met → parts name ≡ lower_dn dn
    → found ≡ is_some (lookup (names_equal name) es) → list_any (same_dn dn) met ≡ found
told es met name dn found a v p f = ap (λ (ds : List (List (List Pair))). list_any (same_dn dn) ds) (sym v) ∙ (sym (found_is es name dn a p) ∙ sym f)

pub one_behind : (es made : List (Name × List (List Pair))) (name : Name) (dn : List (List Pair)) → is_some (lookup (names_equal name) es) ≡ false → made ≡ insert_entry names_equal es name dn → made ≡ es ++ (name, dn) ∷ []
one_behind es made name dn h m = m ∙ goes_behind es name dn h

pub still_names : (es made : List (Name × List (List Pair))) (name : Name) (dn : List (List Pair)) → AreNames es → parts name ≡ lower_dn dn → made ≡ es ++ (name, dn) ∷ [] → AreNames made
still_names es made name dn a p m =
    subst (λ (xs : List (Name × List (List Pair))). AreNames xs) (sym m) (All-push (λ (e : Name × List (List Pair)). parts e.0 ≡ lower_dn e.1) es (name, dn) a p)

pub dns_behind : (es made : List (Name × List (List Pair))) (met : List (List (List Pair))) (name : Name) (dn : List (List Pair)) → dns_in es ≡ met → made ≡ es ++ (name, dn) ∷ [] → dns_in made ≡ met ++ dn ∷ []
dns_behind es made met name dn v m =
    ap dns_in m ∙ (map-append (λ (e : Name × List (List Pair)). e.1) es ((name, dn) ∷ []) ∙ ap (λ (ds : List (List (List Pair))). ds ++ dn ∷ []) v)
