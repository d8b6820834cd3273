-- What reading says of the records of a text, one by one.
use Rattle.std.proofs.Common.{◌≡◌, inl, inr, ℕ, List, [], ◌∷◌, map, Result, Ok, Err, refl, ap, ◌∙◌}
use Rattle.std.specs.Prelude.{IfOk, IfErr}
use Rattle.sd_ldap.specs.declared.entry.DirEntry.{DirEntry}
use Rattle.sd_ldif.specs.declared.LdifFault.{LdifFault}
use Rattle.sd_ldif.specs.declared.LdifFault.TheVariants as faults
use Rattle.sd_ldif.specs.Lines.{Line}
use Rattle.sd_ldif.specs.Records.{◌>>=◌, all_of, Pair, attributes_of, entry, dn_of, pair_of, record_of, records_of, ldif_of, Answers}
use Rattle.sd_ldif.specs.Laws.{Gives, IsFirstRefused, IsRefusedRecord, IsRefused, Refuses}

-- ---- where all are read

abbrev done : {B : Type 0} → List B → Result (List B) LdifFault
done ys = Ok ys

ok_same : {B : Type 0} (xs ys : List B) → done xs ≡ done ys → xs ≡ ys
ok_same xs ys e = cc

abbrev failed : {B : Type 0} → LdifFault → Result B LdifFault
failed fault = Err fault

err_is : (B : Type 0) (f g : LdifFault) → failed {B = B} f ≡ failed {B = B} g → f ≡ g
err_is B f g e = cc

both_given : (A B : Type 0) (one : A → Result B LdifFault) (x : A) (xs : List A) (r : Result B LdifFault) (more : Result (List B) LdifFault) (ys : List B)
    → one x ≡ r → ((zs : List B) → more ≡ Ok zs → map one xs ≡ map (λ z. Ok z) zs)
    → (r >>= λ z. more >>= λ zs. Ok (z ∷ zs)) ≡ Ok ys → one x ∷ map one xs ≡ map (λ y. Ok y) ys
both_given A B one x xs (Ok y) (Ok zs) ys h f e =
    ap (λ (w : Result B LdifFault). w ∷ map one xs) h ∙ (ap (λ (w : List (Result B LdifFault)). Ok y ∷ w) (f zs refl) ∙ ap (λ (w : List B). map (λ z. Ok z) w) (ok_same (y ∷ zs) ys e))
both_given A B one x xs (Ok y) (Err fault) ys h f e = absurd cc
both_given A B one x xs (Err fault) more ys h f e = absurd cc

all_given : (A B : Type 0) (one : A → Result B LdifFault) (xs : List A) (ys : List B) → all_of one xs ≡ Ok ys → map one xs ≡ map (λ y. Ok y) ys
all_given A B one [] ys e = ap (λ (w : List B). map (λ y. Ok y) w) (ok_same [] ys e)
all_given A B one (x ∷ xs) ys e = both_given A B one x xs (one x) (all_of one xs) ys refl (all_given A B one xs) e

-- ---- where one is refused

first_here : (A B : Type 0) (one : A → Result B LdifFault) (x : A) (xs : List A) (fault : LdifFault) → one x ≡ Err fault → IsFirstRefused one (x ∷ xs) fault
first_here A B one x xs fault e = record { before = []; refused = x; after = xs; given = []; parts = refl; read = refl; refusal = e }

first_later : (A B : Type 0) (one : A → Result B LdifFault) (x : A) (y : B) (xs : List A) (fault : LdifFault) → one x ≡ Ok y → IsFirstRefused one xs fault → IsFirstRefused one (x ∷ xs) fault
first_later A B one x y xs fault e f = record {
  before = x ∷ f.before;
  refused = f.refused;
  after = f.after;
  given = y ∷ f.given;
  parts = ap (λ (w : List A). x ∷ w) f.parts;
  read = ap (λ (w : Result B LdifFault). w ∷ map one f.before) e ∙ ap (λ (w : List (Result B LdifFault)). Ok y ∷ w) f.read;
  refusal = f.refusal;
}

first_of_two : (A B : Type 0) (one : A → Result B LdifFault) (x : A) (xs : List A) (r : Result B LdifFault) (more : Result (List B) LdifFault) (fault : LdifFault)
    → one x ≡ r → (more ≡ Err fault → IsFirstRefused one xs fault)
    → (r >>= λ z. more >>= λ zs. Ok (z ∷ zs)) ≡ Err fault → IsFirstRefused one (x ∷ xs) fault
first_of_two A B one x xs (Ok y) (Ok zs) fault h f e = absurd cc
first_of_two A B one x xs (Ok y) (Err other) fault h f e = first_later A B one x y xs fault h (f e)
first_of_two A B one x xs (Err other) more fault h f e = first_here A B one x xs fault (h ∙ ap (λ (w : LdifFault). Err w) (err_is (List B) other fault e))

first_refused : (A B : Type 0) (one : A → Result B LdifFault) (xs : List A) (fault : LdifFault) → all_of one xs ≡ Err fault → IsFirstRefused one xs fault
first_refused A B one [] fault e = absurd cc
first_refused A B one (x ∷ xs) fault e = first_of_two A B one x xs (one x) (all_of one xs) fault refl (first_refused A B one xs fault) e

refused_parts : (first : Line) (rest : List Line) (r : Result (List ℕ) LdifFault) (more : Result (List Pair) LdifFault) (fault : LdifFault)
    → dn_of first ≡ r → all_of pair_of rest ≡ more
    → (r >>= λ dn. more >>= λ pairs. Ok (entry dn (attributes_of pairs))) ≡ Err fault → IsRefusedRecord fault (first ∷ rest)
refused_parts first rest (Ok dn) (Ok pairs) fault h k e = absurd cc
refused_parts first rest (Ok dn) (Err other) fault h k e = inr (dn, h, first_refused Line Pair pair_of rest fault (k ∙ ap (λ (w : LdifFault). Err w) (err_is DirEntry other fault e)))
refused_parts first rest (Err other) more fault h k e = inl (h ∙ ap (λ (w : LdifFault). Err w) (err_is DirEntry other fault e))

refused_record : (lines : List Line) (fault : LdifFault) → record_of lines ≡ Err fault → IsRefusedRecord fault lines
refused_record [] fault e = absurd cc
refused_record (first ∷ rest) fault e = refused_parts first rest (dn_of first) (all_of pair_of rest) fault refl refl e

is_refused : (text : List ℕ) (fault : LdifFault) → ldif_of text ≡ Err fault → IsRefused text fault
is_refused text fault e =
    let f : IsFirstRefused record_of (records_of text) fault = first_refused (List Line) DirEntry record_of (records_of text) fault e in
    record { records = f; lines = refused_record f.refused fault f.refusal }

-- ---- of what was answered

pub gives : (text : List ℕ) (answer : Result (List DirEntry) LdifFault) → Answers (λ es. es) answer (ldif_of text) → IfOk answer (λ es. Gives text es)
gives text (Ok es) a = all_given (List Line) DirEntry record_of (records_of text) es a
gives text (Err fault) a = tt

refuses_at : (text : List ℕ) (fault : LdifFault) → Answers {X = List DirEntry} (λ es. es) (Err fault) (ldif_of text) → Refuses fault text
refuses_at text faults.Memory a = tt
refuses_at text (faults.BadLine number) a = is_refused text (faults.BadLine number) a
refuses_at text (faults.BadBase64 number) a = is_refused text (faults.BadBase64 number) a
refuses_at text (faults.NoDn number) a = is_refused text (faults.NoDn number) a

pub refuses : (text : List ℕ) (answer : Result (List DirEntry) LdifFault) → Answers (λ es. es) answer (ldif_of text) → IfErr answer (λ fault. Refuses fault text)
refuses text (Ok es) a = tt
refuses text (Err fault) a = refuses_at text fault a
