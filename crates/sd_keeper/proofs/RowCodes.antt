-- What is read of a whole blob is its row, and a row's bytes are read as that row.
use Rattle.std.proofs.Common.{◌≡◌, ℕ, ◌^◌, ◌<◌, ◌≤◌, ◌-◌, get_or, take, drop, Bool, true, false, ◌&&◌, not, eqb, List, [], ◌∷◌, ◌++◌, length, codes, Option, Some, None, Result, Ok, Err, refl, sym, ap, subst, ◌∙◌, arith, length-append}
use Rattle.std.specs.Prelude.{IfOk, IfErr}
use Rattle.std.proofs.lemmas.Bool.{eqb-true}
use Rattle.std.proofs.lemmas.List.{append-nil, nil_from_length, take_all}
use Rattle.std.proofs.lemmas.Option.{cond_some, none-some, same_Some}
use Rattle.base64.specs.Engines.{standard}
use Rattle.base64.specs.GeneralPurpose.{encode_of}
use Rattle.sd_rules.specs.declared.events.Hash.{Hash}
use Rattle.sd_rules.specs.declared.events.Row.{Row}
use Rattle.sd_rules.specs.declared.events.Row.TheVariants as rows
use Rattle.sd_creds.specs.declared.texts.HashFault.{HashFault}
use Rattle.sd_creds.specs.Texts.{IsHash, IsNoHash, text_of}
use Rattle.sd_keeper.specs.declared.field.FieldFault.{FieldFault}
use Rattle.sd_keeper.specs.declared.field.FieldFault.TheVariants as faults
use Rattle.sd_keeper.specs.declared.rows.Version.{Version}
use Rattle.sd_keeper.specs.declared.rows.Version.TheVariants as versions
use Rattle.sd_keeper.specs.Spelling.{number, long, text, flag, key, answer, row_bytes}
use Rattle.sd_keeper.specs.Fitting.{IsNumber, IsLong, IsText, IsKey, IsAnswer, IsRow}
use Rattle.sd_keeper.specs.Reading.{Fails, Gives, pair_at, made_at, number_at, long_at, text_at, flag_at, key_at, answer_at, whole, head_of, head_at, answer_row_of, answer_row_at, wrong_of, wrong_at, fall_of, fall_at, online_of, online_at, online_by, plain_at, hashed_at}
use Rattle.sd_keeper.specs.Blobs.{is_online, is_of_version, is_hash_row, begins_as_hash, IsBlobOf, Reads}
use Rattle.sd_creds.proofs.Read.{salt_len, digest_len}
use Rattle.sd_base.proofs.Octets.{AreOctets}
use Rattle.sd_keeper.proofs.Codes.{Takes, IsCode, pair_code, number_code, long_code, text_code, flag_code, choose, kind_takes}
use Rattle.sd_keeper.proofs.RecordCodes.{answer_code, key_code}

-- ---- the text of a hash has a length of four octets

four_parts : (a s b d : List ℕ) → length a ≡ 5 → length s ≡ 24 → length b ≡ 1 → length d ≡ 88 → length (((a ++ s) ++ b) ++ d) < 2 ^ 32
four_parts a s b d la ls lb ld = omega (arith, length-append ((a ++ s) ++ b) d, length-append (a ++ s) b, length-append a s)

hash_text_fits : (h : Hash) → IsHash h → IsText (text_of h)
hash_text_fits h is = four_parts (codes "$sd1$") (encode_of standard h.salt) (codes "$") (encode_of standard h.digest) refl (salt_len h.salt is.salt_len) refl (digest_len h.digest is.digest_len)

-- ---- whole blobs

whole_is : {T : Type 0} (o : Option (T × List ℕ)) (x : T) → whole o ≡ Some x → o ≡ Some (x, [])
whole_is None x e = absurd (none-some x e)
whole_is {T} (Some y) x e =
    let p : (eqb (length y.1) 0 ≡ true) × (y.0 ≡ x) = cond_some (eqb (length y.1) 0) y.0 x e in
    let none : y.1 ≡ [] = nil_from_length y.1 (eqb-true _ _ p.0) in
    ap (λ (z : T). Some (z, y.1)) p.1 ∙ ap (λ (rest : List ℕ). Some (x, rest)) none

kind_again : {A : Type 0} (a : List ℕ → Option (A × List ℕ)) (sa : A → List ℕ) (Fa : A → Type 0) → IsCode a sa Fa → (make : A → Row) (x : A) → Fa x → whole (made_at make a (sa x)) ≡ Some (make x)
kind_again a sa Fa ca make x fits = ap (λ (s : List ℕ). whole (made_at make a s)) (sym (append-nil (sa x))) ∙ rw (ca.again x [] fits) refl

-- ---- rows that hold no hash

head_code : IsCode (pair_at number_at (pair_at long_at long_at)) (λ p. number p.0 ++ (long p.1.0 ++ long p.1.1)) (λ p. IsNumber p.0 × (IsLong p.1.0 × IsLong p.1.1))
head_code = pair_code _ _ _ _ _ _ number_code (pair_code _ _ _ _ _ _ long_code long_code)

answer_row_code : IsCode (pair_at long_at (pair_at long_at (pair_at key_at (pair_at answer_at flag_at)))) (λ p. long p.0 ++ (long p.1.0 ++ (key p.1.1.0 ++ (answer p.1.1.1.0 ++ flag p.1.1.1.1))))
    (λ p. IsLong p.0 × (IsLong p.1.0 × (IsKey p.1.1.0 × (IsAnswer p.1.1.1.0 × Unit {0}))))
answer_row_code = pair_code _ _ _ _ _ _ long_code (pair_code _ _ _ _ _ _ long_code (pair_code _ _ _ _ _ _ key_code (pair_code _ _ _ _ _ _ answer_code flag_code)))

wrong_code : IsCode (pair_at long_at (pair_at long_at (pair_at text_at long_at))) (λ p. long p.0 ++ (long p.1.0 ++ (text p.1.1.0 ++ long p.1.1.1))) (λ p. IsLong p.0 × (IsLong p.1.0 × (IsText p.1.1.0 × IsLong p.1.1.1)))
wrong_code = pair_code _ _ _ _ _ _ long_code (pair_code _ _ _ _ _ _ long_code (pair_code _ _ _ _ _ _ text_code long_code))

fall_code : IsCode (pair_at long_at (pair_at long_at number_at)) (λ p. long p.0 ++ (long p.1.0 ++ number p.1.1)) (λ p. IsLong p.0 × (IsLong p.1.0 × IsNumber p.1.1))
fall_code = pair_code _ _ _ _ _ _ long_code (pair_code _ _ _ _ _ _ long_code number_code)

online_code : IsCode (pair_at long_at (pair_at long_at text_at)) (λ p. long p.0 ++ (long p.1.0 ++ text p.1.1)) (λ p. IsLong p.0 × (IsLong p.1.0 × IsText p.1.1))
online_code = pair_code _ _ _ _ _ _ long_code (pair_code _ _ _ _ _ _ long_code text_code)

hashed_code : IsCode (pair_at long_at (pair_at long_at (pair_at text_at text_at))) (λ p. long p.0 ++ (long p.1.0 ++ (text p.1.1.0 ++ text p.1.1.1))) (λ p. IsLong p.0 × (IsLong p.1.0 × (IsText p.1.1.0 × IsText p.1.1.1)))
hashed_code = pair_code _ _ _ _ _ _ long_code (pair_code _ _ _ _ _ _ long_code (pair_code _ _ _ _ _ _ text_code text_code))

online_takes : (version : Version) (kind : ℕ) (bytes : List ℕ) (y : Row × List ℕ) → AreOctets bytes → eqb kind 5 ≡ true → online_by version bytes ≡ Some y → Takes (kind ∷ bytes) (row_bytes y.0) y.1 × (is_of_version version y.0 ≡ true)
unfolding online_at
online_takes versions.First kind bytes y octets k e = absurd (none-some y e)
online_takes versions.Second kind bytes y octets k e =
    kind_takes _ _ _ online_code row_bytes (λ r. is_of_version versions.Second r ≡ true) online_of 5 kind bytes y octets k e (λ p. refl) (λ p h. refl)

plain_takes : (version : Version) (kind : ℕ) (bytes : List ℕ) (y : Row × List ℕ) → AreOctets bytes → plain_at version kind bytes ≡ Some y → Takes (kind ∷ bytes) (row_bytes y.0) y.1 × (is_of_version version y.0 ≡ true)
unfolding head_at answer_row_at wrong_at fall_at
plain_takes version kind bytes y octets e =
    choose (eqb kind 0) _ _ y e (λ k x. kind_takes _ _ _ head_code row_bytes (λ r. is_of_version version r ≡ true) head_of 0 kind bytes y octets k x (λ p. refl) (λ p h. refl))
    (λ e1. choose (eqb kind 1) _ _ y e1 (λ k x. kind_takes _ _ _ answer_row_code row_bytes (λ r. is_of_version version r ≡ true) answer_row_of 1 kind bytes y octets k x (λ p. refl) (λ p h. refl))
    (λ e3. choose (eqb kind 3) _ _ y e3 (λ k x. kind_takes _ _ _ wrong_code row_bytes (λ r. is_of_version version r ≡ true) wrong_of 3 kind bytes y octets k x (λ p. refl) (λ p h. refl))
    (λ e4. choose (eqb kind 4) _ _ y e4 (λ k x. kind_takes _ _ _ fall_code row_bytes (λ r. is_of_version version r ≡ true) fall_of 4 kind bytes y octets k x (λ p. refl) (λ p h. refl))
    (λ e5. choose (eqb kind 5) _ _ y e5 (λ k x. online_takes version kind bytes y octets k x)
    (λ e6. absurd (none-some y e6))))))

pub plain_found : (version : Version) (kind : ℕ) (bytes : List ℕ) (row : Row) → AreOctets bytes → whole (plain_at version kind bytes) ≡ Some row → IsBlobOf version (kind ∷ bytes) row
plain_found version kind bytes row octets e =
    let taken = plain_takes version kind bytes (row, []) octets (whole_is (plain_at version kind bytes) row e) in
    record { spelled = taken.0.parts ∙ append-nil (row_bytes row); of_version = taken.1 }

same_parts : (k n : ℕ) (b x : List ℕ) → k ∷ b ≡ n ∷ x → (k ≡ n) × (b ≡ x)
same_parts k n b x e = (cc, cc)

at_kind : (version : Version) (kind n : ℕ) (bytes x : List ℕ) (row : Row) → kind ∷ bytes ≡ n ∷ x → whole (plain_at version n x) ≡ Some row → whole (plain_at version kind bytes) ≡ Some row
at_kind version kind n bytes x row e there =
    let p = same_parts kind n bytes x e in
    ap (λ (k : ℕ). whole (plain_at version k bytes)) p.0 ∙ ap (λ (b : List ℕ). whole (plain_at version n b)) p.1 ∙ there

not_two : (kind : ℕ) → eqb kind 2 ≡ false → kind ≡ 2 → ⊥
not_two kind k e = let two : eqb kind 2 ≡ true = ap (λ (n : ℕ). eqb n 2) e in cc

plain_again : (version : Version) (row : Row) (kind : ℕ) (bytes : List ℕ) → IsRow row → is_of_version version row ≡ true → kind ∷ bytes ≡ row_bytes row → eqb kind 2 ≡ false → whole (plain_at version kind bytes) ≡ Some row
unfolding head_at answer_row_at wrong_at fall_at online_at
plain_again version (rows.Head v n m) kind bytes fits of e k = at_kind version kind 0 bytes _ (rows.Head v n m) e (kind_again _ _ _ head_code head_of (v, (n, m)) fits)
plain_again version (rows.Answer n m key answered voided) kind bytes fits of e k = at_kind version kind 1 bytes _ (rows.Answer n m key answered voided) e (kind_again _ _ _ answer_row_code answer_row_of (n, (m, (key, (answered, voided)))) fits)
plain_again version (rows.Hash n m name hash) kind bytes fits of e k = absurd (not_two kind k (same_parts kind 2 bytes _ e).0)
plain_again version (rows.Wrong n m name count) kind bytes fits of e k = at_kind version kind 3 bytes _ (rows.Wrong n m name count) e (kind_again _ _ _ wrong_code wrong_of (n, (m, (name, count))) fits)
plain_again version (rows.Fall n m server) kind bytes fits of e k = at_kind version kind 4 bytes _ (rows.Fall n m server) e (kind_again _ _ _ fall_code fall_of (n, (m, server)) fits)
plain_again versions.First (rows.Online n m name) kind bytes fits of e k = absurd cc
plain_again versions.Second (rows.Online n m name) kind bytes fits of e k = at_kind versions.Second kind 5 bytes _ (rows.Online n m name) e (kind_again _ _ _ online_code online_of (n, (m, name)) fits)

pub plain_only : (version : Version) (result : Result Row FieldFault) (kind : ℕ) (bytes : List ℕ) → Gives (λ row. row) result (whole (plain_at version kind bytes)) → eqb kind 2 ≡ false
    → (row : Row) → IsRow row → is_of_version version row ≡ true → kind ∷ bytes ≡ row_bytes row → Reads result row
plain_only version (Ok read) kind bytes given k row fits of e = same_Some read row (sym given ∙ plain_again version row kind bytes fits of e k)
plain_only version (Err faults.Bad) kind bytes given k row fits of e = none-some row (sym given ∙ plain_again version row kind bytes fits of e k)
plain_only version (Err faults.Memory) kind bytes given k row fits of e = tt

-- ---- rows of hashes

pub hash_found : (bytes : List ℕ) (n m : ℕ) (name hashed : List ℕ) (hash : Hash) → AreOctets bytes → whole (hashed_at bytes) ≡ Some (n, (m, (name, hashed))) → hashed ≡ text_of hash → 2 ∷ bytes ≡ row_bytes (rows.Hash n m name hash)
unfolding hashed_at
hash_found bytes n m name hashed hash octets e is =
    let taken = hashed_code.takes bytes ((n, (m, (name, hashed))), []) octets (whole_is (hashed_at bytes) (n, (m, (name, hashed))) e) in
    ap (λ (b : List ℕ). 2 ∷ b) (taken.0.parts ∙ append-nil _)
    ∙ ap (λ (t : List ℕ). 2 ∷ (long n ++ (long m ++ (text name ++ text t)))) is

hash_again : (bytes : List ℕ) (n m : ℕ) (name : List ℕ) (hash : Hash) → IsRow (rows.Hash n m name hash) → 2 ∷ bytes ≡ row_bytes (rows.Hash n m name hash) → whole (hashed_at bytes) ≡ Some (n, (m, (name, text_of hash)))
unfolding hashed_at
hash_again bytes n m name hash fits e =
    let p = same_parts 2 2 bytes _ e in
    let all : List ℕ = long n ++ (long m ++ (text name ++ text (text_of hash))) in
    ap (λ (b : List ℕ). whole (hashed_at b)) p.1
    ∙ ap (λ (b : List ℕ). whole (hashed_at b)) (sym (append-nil all))
    ∙ rw (hashed_code.again (n, (m, (name, text_of hash))) [] (fits.0, (fits.1.0, (fits.1.1.0, hash_text_fits hash fits.1.1.1)))) refl

-- what is read as a row of a hash: only such a row has these bytes
hash_by : (bytes : List ℕ) (row : Row) {P : Type 0} → IsRow row → 2 ∷ bytes ≡ row_bytes row → ((n m : ℕ) (name : List ℕ) (hash : Hash) → row ≡ rows.Hash n m name hash → IsHash hash → whole (hashed_at bytes) ≡ Some (n, (m, (name, text_of hash))) → P) → P
hash_by bytes (rows.Head v n m) fits e then = absurd (let p = same_parts 2 0 bytes _ e in cc)
hash_by bytes (rows.Answer n m key answered voided) fits e then = absurd (let p = same_parts 2 1 bytes _ e in cc)
hash_by bytes (rows.Hash n m name hash) fits e then = then n m name hash refl fits.1.1.1 (hash_again bytes n m name hash fits e)
hash_by bytes (rows.Wrong n m name count) fits e then = absurd (let p = same_parts 2 3 bytes _ e in cc)
hash_by bytes (rows.Fall n m server) fits e then = absurd (let p = same_parts 2 4 bytes _ e in cc)
hash_by bytes (rows.Online n m name) fits e then = absurd (let p = same_parts 2 5 bytes _ e in cc)

-- bytes that give no parts
pub hash_not_read : (fault : FieldFault) (bytes : List ℕ) → Fails fault (whole (hashed_at bytes)) → (row : Row) → IsRow row → 2 ∷ bytes ≡ row_bytes row → Reads (Err fault) row
hash_not_read faults.Memory bytes failed row fits e = tt
hash_not_read faults.Bad bytes failed row fits e = hash_by bytes row fits e (λ n m name hash is sound there. none-some (n, (m, (name, text_of hash))) (sym failed ∙ there))

parts_are : (n m k l : ℕ) (name user hashed told : List ℕ) → ◌≡◌ {A = Option (ℕ × (ℕ × (List ℕ × List ℕ)))} (Some (n, (m, (name, hashed)))) (Some (k, (l, (user, told)))) → (n ≡ k) × (m ≡ l) × (name ≡ user) × (hashed ≡ told)
parts_are n m k l name user hashed told e =
    let p : ◌≡◌ {A = ℕ × (ℕ × (List ℕ × List ℕ))} (n, (m, (name, hashed))) (k, (l, (user, told))) = same_Some _ _ e in
    (ap (λ (q : ℕ × (ℕ × (List ℕ × List ℕ))). q.0) p, ap (λ (q : ℕ × (ℕ × (List ℕ × List ℕ))). q.1.0) p, ap (λ (q : ℕ × (ℕ × (List ℕ × List ℕ))). q.1.1.0) p, ap (λ (q : ℕ × (ℕ × (List ℕ × List ℕ))). q.1.1.1) p)

same_ok : {T E : Type 0} (x y : T) → ◌≡◌ {A = Result T E} (Ok x) (Ok y) → x ≡ y
same_ok x y e = cc

same_row : (n m k l : ℕ) (name user : List ℕ) (read hash : Hash) → n ≡ k → m ≡ l → name ≡ user → read ≡ hash → rows.Hash n m name read ≡ rows.Hash k l user hash
same_row n m k l name user read hash a b c d = cc

-- parts whose text is that of a hash
pub hash_only : (bytes : List ℕ) (n m : ℕ) (name hashed : List ℕ) (read : Hash) → whole (hashed_at bytes) ≡ Some (n, (m, (name, hashed))) → ((h : Hash) → IsHash h → hashed ≡ text_of h → ◌≡◌ {A = Result Hash HashFault} (Ok read) (Ok h))
    → (row : Row) → IsRow row → 2 ∷ bytes ≡ row_bytes row → rows.Hash n m name read ≡ row
hash_only bytes n m name hashed read given only row fits e =
    hash_by bytes row fits e (λ k l user hash is sound there.
    let p = parts_are n m k l name user hashed (text_of hash) (sym given ∙ there) in
    same_row n m k l name user read hash p.0 p.1 p.2 (same_ok read hash (only hash sound p.3)) ∙ sym is)

-- parts whose text is that of no hash
pub no_hash : (bytes : List ℕ) (n m : ℕ) (name hashed : List ℕ) → whole (hashed_at bytes) ≡ Some (n, (m, (name, hashed))) → IsNoHash hashed → (row : Row) → IsRow row → 2 ∷ bytes ≡ row_bytes row → ⊥
no_hash bytes n m name hashed given none row fits e =
    hash_by bytes row fits e (λ k l user hash is sound there.
    none hash sound (parts_are n m k l name user hashed (text_of hash) (sym given ∙ there)).3)

-- what is made of the parts is the row, or memory was wanting
pub row_made : (made : Result Row FieldFault) (x : Row) (bytes : List ℕ) → IfOk made (λ (row : Row). row ≡ x) → 2 ∷ bytes ≡ row_bytes x → is_online x ≡ false → IfOk made (λ (row : Row). (2 ∷ bytes ≡ row_bytes row) × (is_online row ≡ false))
row_made (Ok row) x bytes is e offline = (e ∙ ap row_bytes (sym is), ap is_online is ∙ offline)
row_made (Err fault) x bytes is e offline = tt

pub row_read : (made : Result Row FieldFault) (x row : Row) → IfOk made (λ (read : Row). read ≡ x) → IfErr made (λ (fault : FieldFault). fault ≡ faults.Memory) → x ≡ row → Reads made row
row_read (Ok read) x row is failed e = is ∙ e
row_read (Err fault) x row is failed e = subst (λ (f : FieldFault). Reads (Err f) row) (sym failed) tt

-- ---- the kind of a blob

pub hash_kind : (row : Row) (blob : List ℕ) → blob ≡ row_bytes row → begins_as_hash blob ≡ is_hash_row row
hash_kind (rows.Head v n m) blob e = ap begins_as_hash e
hash_kind (rows.Answer n m k answered voided) blob e = ap begins_as_hash e
hash_kind (rows.Hash n m name hash) blob e = ap begins_as_hash e
hash_kind (rows.Wrong n m name count) blob e = ap begins_as_hash e
hash_kind (rows.Fall n m server) blob e = ap begins_as_hash e
hash_kind (rows.Online n m name) blob e = ap begins_as_hash e

pub kind_and_rest : (blob : List ℕ) → 1 ≤ length blob → get_or blob 0 0 ∷ take (length blob - 1) (drop 1 blob) ≡ blob
kind_and_rest [] some = absurd (omega arith)
kind_and_rest (kind ∷ bytes) some = ap (λ (b : List ℕ). kind ∷ b) (take_all (length (kind ∷ bytes) - 1) bytes (omega arith))

pub plain_if : (version : Version) (result : Result Row FieldFault) (kind : ℕ) (bytes : List ℕ) → AreOctets bytes → Gives (λ row. row) result (whole (plain_at version kind bytes)) → IfOk result (λ row. IsBlobOf version (kind ∷ bytes) row)
plain_if version (Ok row) kind bytes octets given = plain_found version kind bytes row octets given
plain_if version (Err fault) kind bytes octets given = tt

of_no_online : (online first : Bool) → online ≡ false → not (online && first) ≡ true
of_no_online true first e = cc
of_no_online false first e = refl

-- the row of a hash, by its kind
pub by_hash : (version : Version) (kind : ℕ) (bytes : List ℕ) (row : Row) → kind ≡ 2 → (2 ∷ bytes ≡ row_bytes row) × (is_online row ≡ false) → IsBlobOf version (kind ∷ bytes) row
by_hash version kind bytes row k found =
    record { spelled = ap (λ (n : ℕ). n ∷ bytes) k ∙ found.0; of_version = of_no_online (is_online row) _ found.1 }
