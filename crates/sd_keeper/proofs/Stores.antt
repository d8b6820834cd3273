-- Blobs that are read one after another.
use Rattle.std.proofs.Common.{◌≡◌, ℕ, zero, suc, ◌+◌, ◌<◌, ◌≤◌, Bool, true, false, ◌&&◌, not, cond, eqb, List, [], ◌∷◌, ◌++◌, length, get_or, take, map, Result, Ok, Err, refl, sym, ap, subst, ◌∙◌, arith}
use Rattle.std.specs.List.{AllByRecursion}
use Rattle.std.proofs.lemmas.Bool.{eqb-true}
use Rattle.std.proofs.lemmas.List.{take_more, take_all, get_or-map, get_or_default, length-map}
use Rattle.sd_rules.specs.declared.events.Row.{Row}
use Rattle.sd_rules.specs.declared.events.Row.TheVariants as rows
use Rattle.sd_keeper.specs.declared.rows.Version.{Version}
use Rattle.sd_keeper.specs.declared.rows.Version.TheVariants as versions
use Rattle.sd_keeper.specs.declared.loading.LoadFault.{LoadFault}
use Rattle.sd_keeper.specs.declared.loading.LoadFault.TheVariants as load_faults
use Rattle.sd_keeper.specs.Spelling.{number, row_bytes}
use Rattle.sd_keeper.specs.Blobs.{is_old_head, version_of, is_online, is_first, is_of_version, current_of, HasNoForm, Means, Says, IsStorable, GivesBack, AreRowsOf, AreGoodBefore, Loads, blobs_of, LoadsBack, is_failed}

-- ---- rows of the blobs so far

rows_and_one : (version : Version) (blobs : List (List ℕ)) (read : List Row) (blob : List ℕ) (row : Row) → AreRowsOf version blobs read → Means version blob (Ok row) → AreRowsOf version (blobs ++ blob ∷ []) (read ++ row ∷ [])
rows_and_one version [] [] blob row so_far means = (means, tt)
rows_and_one version [] (r ∷ read) blob row so_far means = absurd so_far
rows_and_one version (b ∷ blobs) [] blob row so_far means = absurd so_far
rows_and_one version (b ∷ blobs) (r ∷ read) blob row so_far means = (so_far.0, rows_and_one version blobs read blob row so_far.1 means)

pub rows_more : (version : Version) (blobs : List (List ℕ)) (read : List Row) (place : ℕ) (row : Row) → place < length blobs → AreRowsOf version (take place blobs) read → Means version (get_or blobs place []) (Ok row)
    → AreRowsOf version (take (place + 1) blobs) (read ++ row ∷ [])
rows_more version blobs read place row lt so_far means =
    subst (λ (b : List (List ℕ)). AreRowsOf version b (read ++ row ∷ [])) (sym (take_more blobs place [] lt)) (rows_and_one version (take place blobs) read (get_or blobs place []) row so_far means)

pub rows_all : (version : Version) (blobs : List (List ℕ)) (read : List Row) (n : ℕ) → length blobs ≤ n → AreRowsOf version (take n blobs) read → AreRowsOf version blobs read
rows_all version blobs read n le so_far = subst (λ (b : List (List ℕ)). AreRowsOf version b read) (take_all n blobs le) so_far

-- ---- the blobs of storable rows

and_false : (b : Bool) → not (b && false) ≡ true
and_false true = refl
and_false false = refl

second_any : (row : Row) → is_of_version versions.Second row ≡ true
second_any row = and_false (is_online row)

same_ok : {T E : Type 0} (x y : T) → ◌≡◌ {A = Result T E} (Ok x) (Ok y) → x ≡ y
same_ok x y e = cc

err_is_ok : {T E : Type 0} (x : E) (y : T) → ◌≡◌ {A = Result T E} (Err x) (Ok y) → ⊥
err_is_ok x y e = cc

version_is : (a b c d e f : ℕ) → rows.Head a b c ≡ rows.Head d e f → a ≡ d
version_is a b c d e f same = cc

-- a head that stays as it is has version 2
head_is_second : (known : Bool) (v n m : ℕ) → ◌≡◌ {A = Result Row ℕ} (cond known (Ok (rows.Head 2 n m)) (Err v)) (Ok (rows.Head v n m)) → 2 ≡ v
head_is_second true v n m e = version_is 2 n m v n m (same_ok (rows.Head 2 n m) (rows.Head v n m) e)
head_is_second false v n m e = absurd (err_is_ok v (rows.Head v n m) e)

second_head : (n m : ℕ) → is_old_head (row_bytes (rows.Head 2 n m)) ≡ false
unfolding number
second_head n m = refl

not_old : (row : Row) → current_of row ≡ Ok row → is_old_head (row_bytes row) ≡ false
not_old (rows.Head v n m) e = subst (λ (w : ℕ). is_old_head (row_bytes (rows.Head w n m)) ≡ false) (head_is_second _ v n m e) (second_head n m)
not_old (rows.Answer n m k answered voided) e = refl
not_old (rows.Hash n m name hash) e = refl
not_old (rows.Wrong n m name count) e = refl
not_old (rows.Fall n m server) e = refl
not_old (rows.Online n m name) e = refl

pub version_back : (kept : List Row) → AllByRecursion IsStorable kept → version_of (blobs_of kept) ≡ versions.Second
version_back [] storable = refl
version_back (row ∷ kept) storable = ap (λ (b : Bool). cond b versions.First versions.Second) (not_old row storable.0.current)

storable_at : (kept : List Row) (place : ℕ) (d : Row) → AllByRecursion IsStorable kept → place < length kept → IsStorable (get_or kept place d)
storable_at [] place d storable lt = absurd (omega arith)
storable_at (row ∷ kept) zero d storable lt = storable.0
storable_at (row ∷ kept) (suc place) d storable lt = storable_at kept place d storable.1 (omega arith)

any_row : Row
any_row = rows.Head 0 0 0

kept_length : (blobs : List (List ℕ)) (kept : List Row) → blobs ≡ blobs_of kept → length blobs ≡ length kept
kept_length blobs kept e = ap (λ (b : List (List ℕ)). length b) e ∙ length-map kept row_bytes

-- what is said of each row whose blob stands at a place
abbrev pub IsBackAt : List (List ℕ) → ℕ → (Row → Type 0) → Type 0
IsBackAt blobs place Given = (row : Row) → IsStorable row → is_of_version (version_of blobs) row ≡ true → get_or blobs place [] ≡ row_bytes row → Given row

back_at : (blobs : List (List ℕ)) (place : ℕ) (Given : Row → Type 0) → IsBackAt blobs place Given → place < length blobs → (kept : List Row) → AllByRecursion IsStorable kept → blobs ≡ blobs_of kept → Given (get_or kept place any_row)
back_at blobs place Given given lt kept storable e =
    let within : place < length kept = omega (arith, kept_length blobs kept e) in
    let version : version_of blobs ≡ versions.Second = ap version_of e ∙ version_back kept storable in
    given (get_or kept place any_row) (storable_at kept place any_row storable within)
    (ap (λ (v : Version). is_of_version v (get_or kept place any_row)) version ∙ second_any (get_or kept place any_row))
    (ap (λ (b : List (List ℕ)). get_or b place []) e ∙ get_or-map row_bytes kept place any_row [] within)

-- the rows so far are those that were kept
abbrev pub IsBack : List (List ℕ) → ℕ → List Row → Type 0
IsBack blobs place read = (kept : List Row) → AllByRecursion IsStorable kept → blobs ≡ blobs_of kept → read ≡ take place kept

pub back_more : (blobs : List (List ℕ)) (place : ℕ) (read : List Row) (row : Row) → place < length blobs → IsBack blobs place read → IsBackAt blobs place (λ r. row ≡ r) → IsBack blobs (place + 1) (read ++ row ∷ [])
back_more blobs place read row lt so_far given kept storable e =
    let within : place < length kept = omega (arith, kept_length blobs kept e) in
    ap (λ (r : List Row). r ++ row ∷ []) (so_far kept storable e)
    ∙ ap (λ (r : Row). take place kept ++ r ∷ []) (back_at blobs place (λ r. row ≡ r) given lt kept storable e)
    ∙ sym (take_more kept place any_row within)

pub back_all : (blobs : List (List ℕ)) (place : ℕ) (read : List Row) → length blobs ≤ place → IsBack blobs place read → (kept : List Row) → AllByRecursion IsStorable kept → blobs ≡ blobs_of kept → read ≡ kept
back_all blobs place read le so_far kept storable e =
    let len : length kept ≤ place = omega (arith, kept_length blobs kept e) in
    so_far kept storable e ∙ take_all place kept len

-- ---- faults

pub fault_says : (fault : LoadFault) (blobs : List (List ℕ)) (place : ℕ) (read : List Row) → place < length blobs → AreRowsOf (version_of blobs) (take place blobs) read → Says (version_of blobs) place (get_or blobs place []) (Err fault) → Loads blobs (Err fault)
fault_says load_faults.Failed blobs place read lt so_far said = absurd said
fault_says (load_faults.BadRow bad) blobs place read lt so_far said =
    subst (λ (p : ℕ). AreGoodBefore blobs p × HasNoForm (version_of blobs) (get_or blobs p [])) (sym said.0) (record { within = lt; read = read; are_rows = so_far }, said.1)
fault_says (load_faults.BadVersion other) blobs place read lt so_far said = (place, record { within = lt; read = read; are_rows = so_far }, said)
fault_says load_faults.Memory blobs place read lt so_far said = tt

not_back : (fault : LoadFault) (row : Row) (kept : List Row) → GivesBack (Err fault) row → LoadsBack (Err fault) kept
not_back load_faults.Failed row kept given = tt
not_back (load_faults.BadRow bad) row kept given = absurd given
not_back (load_faults.BadVersion other) row kept given = absurd given
not_back load_faults.Memory row kept given = tt

pub fault_back : (fault : LoadFault) (blobs : List (List ℕ)) (place : ℕ) → place < length blobs → IsBackAt blobs place (λ r. GivesBack (Err fault) r) → (kept : List Row) → AllByRecursion IsStorable kept → blobs ≡ blobs_of kept → LoadsBack (Err fault) kept
fault_back fault blobs place lt given kept storable e =
    not_back fault (get_or kept place any_row) kept (back_at blobs place (λ r. GivesBack (Err fault) r) given lt kept storable e)

pub not_failed : (fault : LoadFault) (version : Version) (place : ℕ) (blob : List ℕ) → Says version place blob (Err fault) → is_failed {T = List Row} (Err fault) ≡ false
not_failed load_faults.Failed version place blob said = absurd said
not_failed (load_faults.BadRow bad) version place blob said = refl
not_failed (load_faults.BadVersion other) version place blob said = refl
not_failed load_faults.Memory version place blob said = refl

-- ---- a blob as the code has it

pub blob_is : (blobs : List (List ℕ)) (place : ℕ) (bytes blob : List ℕ) → place < length blobs → bytes ≡ blob → blob ≡ get_or blobs place blob → bytes ≡ get_or blobs place []
blob_is blobs place bytes blob lt same is = same ∙ is ∙ get_or_default blobs place blob [] lt

pub means_at : (version other : Version) (blob bytes : List ℕ) (meant : Result Row ℕ) → version ≡ other → blob ≡ bytes → Means version blob meant → Means other bytes meant
means_at version other blob bytes meant v b means =
    subst (λ (w : Version). Means w bytes meant) v (subst (λ (x : List ℕ). Means version x meant) b means)
