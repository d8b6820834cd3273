-- A last online login that is not the hash entry left no hash.
use Rattle.std.proofs.Common.{◌≡◌, ℕ, Bool, true, false, cond, ◌&&◌, not, ◌==◌, List, [], ◌∷◌, Option, None, Some, refl, sym, ◌∙◌, ap}
use Rattle.sd_rules.specs.declared.replies.Entry.{Entry}
use Rattle.sd_rules.specs.KeptRows.{is_unhashed_login}
use Rattle.sd_rules.specs.Logins.{Login, login_by, login_in, or_earlier, only_hashed, last_online_login, hash_entry}
use Rattle.sd_rules.specs.Needed.{is_number, is_login}
use Rattle.sd_findings.specs.Users.{number_of_login}

abbrev is_hashed : Option Login → Bool
is_hashed None = false
is_hashed (Some l) = l.hashed

only_step : (b : Bool) (l : Login) (earlier : Option Login) → b ≡ true → or_earlier (cond b (Some l) None) earlier ≡ Some l
only_step true l earlier is = refl
only_step false l earlier is = cc

hashed_step : (o last hash : Option Login) (l : Login) → or_earlier o last ≡ Some l → l.hashed ≡ true → (last ≡ Some l → hash ≡ Some l)
    → or_earlier (only_hashed o) hash ≡ Some l
hashed_step None last hash l h is f = f h
hashed_step (Some m) last hash l h is f = only_step m.hashed m hash (ap is_hashed h ∙ is) ∙ h

-- a last online login that carries a hash is the hash entry
hashed_last : (past : List Entry) (user : List ℕ) (l : Login) → last_online_login past user ≡ Some l → l.hashed ≡ true → hash_entry past user ≡ Some l
hashed_last [] user l h is = cc
hashed_last (e ∷ past) user l h is =
    hashed_step (login_in e (login_by past user e.event e.reply)) (last_online_login past user) (hash_entry past user) l h is
    (λ earlier. hashed_last past user l earlier is)

no_hash : (same hashed : Bool) → (hashed ≡ true → same ≡ false) → same ≡ (same && not hashed)
no_hash true true f = f refl
no_hash true false f = refl
no_hash false hashed f = refl

unhashed_by : (n : ℕ) (last hash : Option Login) → ((l : Login) → last ≡ Some l → l.hashed ≡ true → hash ≡ Some l) → is_login n hash ≡ false
    → is_number n (number_of_login last) ≡ is_unhashed_login n last
unhashed_by n None hash f other = refl
unhashed_by n (Some l) hash f other = no_hash (l.number == n) l.hashed (λ is. sym (ap (λ (o : Option Login). is_login n o) (f l refl is)) ∙ other)

pub unhashed_is : (past : List Entry) (user : List ℕ) (n : ℕ) → is_login n (hash_entry past user) ≡ false
    → is_number n (number_of_login (last_online_login past user)) ≡ is_unhashed_login n (last_online_login past user)
unhashed_is past user n other = unhashed_by n (last_online_login past user) (hash_entry past user) (hashed_last past user) other
