-- What the calls on the slices say, by what their fields keep.
use Rattle.std.specs.Prelude.{nat_eq, find, is_some, IfSome, IfNone, IfOk, OnOk, OnErr}
use Rattle.std.proofs.Common.{◌≡◌, ◌<◌, ◌≤◌, ℕ, ◌-◌, Bool, false, cond, List, [], ◌∷◌, ◌++◌, length, map, Option, Some, None, Result, Ok, Err, refl, sym, ap, subst, ◌∙◌, arith}
use Rattle.std.specs.List.{range_with_len}
use Rattle.std.specs.Option.{option_or}
use Rattle.std.specs.Map.{lookup}
use Rattle.std.proofs.lemmas.List.{length-map}
use Rattle.sd_base.specs.declared.Memory.{Memory}
use Rattle.sd_idmap.specs.declared.sids.Sid.{Sid}
use Rattle.sd_idmap.specs.Slicing.{Placed, same_domain, home, free_slice, placed, is_held, with_domain, slice_of, id_of, sid_of}
use Rattle.sd_idmap.specs.Keeping.{AreTables, turned, is_empty_at, divided}
use Rattle.sd_idmap.specs.Laws.{KeepsNumbers, IsAlone, IsSidOf, AreOneToOne}
use Rattle.sd_idmap.proofs.Apart.{turned_lookup, lookup_new}
use Rattle.sd_idmap.proofs.Pigeons.{one_is_free, free_is}
use Rattle.sd_idmap.proofs.Tables.{free_in_turned, placed_push, tables_push, slice_held, back, alone, sid_answers, divided_is, keeps_push}

none_by : {A : Type 0} (o : Option A) → is_some o ≡ false → o ≡ None
none_by None h = refl
none_by (Some x) h = absurd cc

-- ---- a free slice

pub free_first : (es : List (ℕ × List ℕ)) (first s : ℕ) → Some s ≡ find (is_empty_at es) (range_with_len first (10000 - first)) → (ps : Placed) → es ≡ map turned ps → Some s ≡ free_slice ps first
free_first es first s h ps is =
    ap (λ (o : Option ℕ). option_or o (find (is_empty_at es) (range_with_len 0 first))) h ∙ free_in_turned es first ps is

pub free_second : (es : List (ℕ × List ℕ)) (first : ℕ) (r : Option ℕ) → None ≡ find (is_empty_at es) (range_with_len first (10000 - first)) → r ≡ find (is_empty_at es) (range_with_len 0 (first - 0)) → (ps : Placed) → es ≡ map turned ps → r ≡ free_slice ps first
free_second es first r none h ps is =
    let same : first - 0 ≡ first = omega arith in
    h ∙ (ap (λ (n : ℕ). find (is_empty_at es) (range_with_len 0 n)) same
    ∙ (ap (λ (o : Option ℕ). option_or o (find (is_empty_at es) (range_with_len 0 first))) none ∙ free_in_turned es first ps is))

pub free_found : (ps : Placed) (domains : List (List ℕ)) (first : ℕ) (r : Option ℕ) → map (λ p. p.0) ps ≡ domains → r ≡ free_slice ps first → IfNone r (10000 ≤ length domains)
free_found ps domains first (Some s) view h = tt
free_found ps domains first None view h =
    let full : 10000 ≤ length ps = one_is_free ps first (sym h) in
    let count : length domains ≡ length ps = ap length (sym view) ∙ length-map ps (λ (p : List ℕ × ℕ). p.0) in
    omega arith

-- ---- placing

pub new_domain : (ps : Placed) (domains : List (List ℕ)) (domain : List ℕ) → map (λ p. p.0) ps ≡ domains → is_held domains domain ≡ false → lookup (same_domain domain) ps ≡ None
new_domain ps domains domain view h =
    none_by (lookup (same_domain domain) ps) (slice_held ps domain ∙ (ap (λ (w : List (List ℕ)). is_held w domain) view ∙ h))

pub new_slice : (ps : Placed) (es : List (ℕ × List ℕ)) (domains : List (List ℕ)) (domain : List ℕ) (slice : ℕ) → AreTables ps es → map (λ p. p.0) ps ≡ domains → free_slice (placed domains) (home domain) ≡ Some slice → home domain < 10000 → lookup (nat_eq slice) es ≡ None
new_slice ps es domains domain slice t view free low =
    let own : ps ≡ placed domains = t.as_placed ∙ ap placed view in
    let here : free_slice ps (home domain) ≡ Some slice = ap (λ (w : Placed). free_slice w (home domain)) own ∙ free in
    let f = free_is ps (home domain) slice low here in
    none_by (lookup (nat_eq slice) es) (ap (λ (w : List (ℕ × List ℕ)). is_some (lookup (nat_eq slice) w)) t.turned_is ∙ (turned_lookup slice ps ∙ f.0))

pub tables_after : (r : Result (Unit {0}) Memory) (ps : Placed) (es : List (ℕ × List ℕ)) (new_ps : Placed) (new_es : List (ℕ × List ℕ)) (domains : List (List ℕ)) (domain : List ℕ) (slice : ℕ) → OnOk r (new_ps ≡ ps ++ (domain, slice) ∷ []) → OnOk r (new_es ≡ es ++ (slice, domain) ∷ []) → OnErr r (new_ps ≡ ps) → OnErr r (new_es ≡ es) → AreTables ps es → map (λ p. p.0) ps ≡ domains → is_held domains domain ≡ false → free_slice (placed domains) (home domain) ≡ Some slice → length domains < 10000 → home domain < 10000 → AreTables new_ps new_es
tables_after (Ok u) ps es new_ps new_es domains domain slice a b c d t view new free room low =
    let pushed = tables_push ps es domain slice t (ap (λ (w : List (List ℕ)). is_held w domain) view ∙ new) (ap (λ (w : List (List ℕ)). free_slice (placed w) (home domain)) view ∙ free) (subst (λ (w : List (List ℕ)). length w < 10000) (sym view) room) low in
    subst (λ (w : Placed). AreTables w new_es) (sym a) (subst (λ (w : List (ℕ × List ℕ)). AreTables (ps ++ (domain, slice) ∷ []) w) (sym b) pushed)
tables_after (Err e) ps es new_ps new_es domains domain slice a b c d t view new free room low =
    subst (λ (w : Placed). AreTables w new_es) (sym c) (subst (λ (w : List (ℕ × List ℕ)). AreTables ps w) (sym d) t)

-- ---- numbers

pub one_to_one : (ps : Placed) (es : List (ℕ × List ℕ)) (domains : List (List ℕ)) → AreTables ps es → map (λ p. p.0) ps ≡ domains → AreOneToOne domains
one_to_one ps es domains t view =
    subst AreOneToOne view (record { back = λ sid id h. back ps es t sid id h; alone = λ sid id h. alone ps es t sid id h })

pub back_of : (domains : List (List ℕ)) (sid : Sid) (r : Option ℕ) → r ≡ id_of domains sid → AreOneToOne domains → IfSome r (λ id. sid_of domains id ≡ Some sid)
back_of domains sid None h one = tt
back_of domains sid (Some id) h one = one.back sid id (sym h)

pub alone_of : (domains : List (List ℕ)) (sid : Sid) (r : Option ℕ) → r ≡ id_of domains sid → AreOneToOne domains → IfSome r (λ id. IsAlone domains sid id)
alone_of domains sid None h one = tt
alone_of domains sid (Some id) h one = one.alone sid id (sym h)

pub ok_value : (r : Result (Option Sid) Memory) (a b : Option Sid) → IfOk r (λ s. s ≡ a) → a ≡ b → IfOk r (λ s. s ≡ b)
ok_value (Ok s) a b h e = h ∙ e
ok_value (Err f) a b h e = tt

pub divided_value : (ps : Placed) (es : List (ℕ × List ℕ)) (domains : List (List ℕ)) (id : ℕ) → AreTables ps es → map (λ p. p.0) ps ≡ domains → 200000 ≤ id → divided es id ≡ sid_of domains id
divided_value ps es domains id t view large = divided_is ps es t id large ∙ ap (λ (w : List (List ℕ)). sid_of w id) view

pub divided_back : (ps : Placed) (es : List (ℕ × List ℕ)) (domains : List (List ℕ)) (id : ℕ) → AreTables ps es → map (λ p. p.0) ps ≡ domains → (r : Result (Option Sid) Memory) → IfOk r (λ s. s ≡ sid_of domains id) → IfOk r (λ s. IsSidOf domains id s)
divided_back ps es domains id t view (Ok s) h =
    subst (λ (w : List (List ℕ)). IsSidOf w id s) view (sid_answers ps es t id s (ap (λ (w : List (List ℕ)). sid_of w id) view ∙ sym h))
divided_back ps es domains id t view (Err f) h = tt

-- ---- adding

pub added_ok : (domains new : List (List ℕ)) (domain : List ℕ) (slice : ℕ) → is_held domains domain ≡ false → None ≡ slice_of domains domain → free_slice (placed domains) (home domain) ≡ Some slice → new ≡ domains ++ domain ∷ [] → (new ≡ with_domain domains domain) × (slice_of new domain ≡ Some slice)
added_ok domains new domain slice fresh none free is = (
  is ∙ sym (ap (λ (b : Bool). cond b domains (domains ++ domain ∷ [])) fresh),
  ap (λ (w : List (List ℕ)). slice_of w domain) is
      ∙ (ap (lookup (same_domain domain)) (placed_push domains domain slice free) ∙ lookup_new domain slice (placed domains) (sym none)),
)

pub added_keeps : (domains new : List (List ℕ)) (domain : List ℕ) (slice : ℕ) → free_slice (placed domains) (home domain) ≡ Some slice → new ≡ domains ++ domain ∷ [] → KeepsNumbers domains new
added_keeps domains new domain slice free is = subst (λ (w : List (List ℕ)). KeepsNumbers domains w) (sym is) (keeps_push domains domain slice free)
