-- What is kept by names says what the journal says of users.
use Rattle.std.proofs.Common.{◌≡◌, ℕ, Bool, true, false, cond, ◌&&◌, List, [], ◌∷◌, Option, None, Some, refl, sym, ◌∙◌, ap}
use Rattle.sd_rules.specs.declared.events.Event.{Event}
use Rattle.sd_rules.specs.declared.events.Event.TheVariants.{LoginOnline, LoginGuess, LoginTry, Kept}
use Rattle.sd_rules.specs.declared.events.LoginResult.{LoginResult}
use Rattle.sd_rules.specs.declared.events.LoginResult.TheVariants.{Right}
use Rattle.sd_rules.specs.declared.events.Row.{Row}
use Rattle.sd_rules.specs.declared.events.Row.TheVariants as rows
use Rattle.sd_rules.specs.declared.replies.Entry.{Entry}
use Rattle.sd_rules.specs.declared.replies.Reply.{Reply}
use Rattle.sd_rules.specs.Keys.{same_name}
use Rattle.sd_rules.specs.Logins.{Login, user_of, is_name, hash_carried, kept_login, login_by, login_in, or_earlier, only_hashed, last_online_login, hash_entry, is_right, is_accepted, accepts}
use Rattle.sd_rules.specs.Needed.{is_number, is_login, user_if_right, user_of_row, user_logged_in}
use Rattle.sd_rules.specs.Past.{is_closed}
use Rattle.sd_rules.specs.Requests.{is_try_accepted}
use Rattle.sd_findings.specs.Users.{number_under, put_under, carries_hash, user_of_hash, user_hashed, user_accepted, number_of_login, HoldLogins, HoldHashes, HoldAccepts}

-- a login of a user, by the name of whose it is
put_is_name : (o : Option (List ℕ)) (number : ℕ) (user : List ℕ) (before : Option ℕ) → put_under o number user before ≡ cond (is_name o user) (Some number) before
put_is_name None number user before = refl
put_is_name (Some name) number user before = refl

module _ (e : Entry) (earlier : Option Login) where
  named_login : (b : Bool) (hashed : Bool) → number_of_login (or_earlier (login_in e (cond b (Some hashed) None)) earlier) ≡ cond b (Some e.number) (number_of_login earlier)
  named_login true hashed = refl
  named_login false hashed = refl

  none_login : (b : Bool) → ◌≡◌ {A = Option ℕ} (number_of_login (or_earlier (login_in e (cond b None None)) earlier)) (number_of_login earlier)
  none_login true = refl
  none_login false = refl

  online_login : (c : Bool) (name : Option (List ℕ)) (user : List ℕ) (h : Option Bool)
      → number_of_login (or_earlier (login_in e (cond (c && is_name name user) h None)) earlier)
      ≡ cond (is_name (cond c (user_if_right h name) None) user) (Some e.number) (number_of_login earlier)
  online_login true name user None = none_login (is_name name user)
  online_login true name user (Some hashed) = named_login (is_name name user) hashed
  online_login false name user h = refl

  row_login : (row : Row) (user : List ℕ)
      → number_of_login (or_earlier (login_in e (kept_login row user)) earlier) ≡ cond (is_name (user_of_row row) user) (Some e.number) (number_of_login earlier)
  row_login (rows.Hash n m name hash) user = named_login (same_name name user) true
  row_login (rows.Online n m name) user = named_login (same_name name user) false
  row_login _ user = refl

  login_after : (past : List Entry) (user : List ℕ) (event : Event) (reply : Reply)
      → number_of_login (or_earlier (login_in e (login_by past user event reply)) earlier)
      ≡ cond (is_name (user_logged_in past event reply) user) (Some e.number) (number_of_login earlier)
  login_after past user (LoginOnline attempt result) reply = online_login (is_closed reply) (user_of past attempt) user (hash_carried result)
  login_after past user (Kept row) reply = row_login row user
  login_after past user _ reply = refl

  -- the same of those that carry a hash
  hashed_login : (b : Bool) → number_of_login (or_earlier (only_hashed (login_in e (cond b (Some true) None))) earlier) ≡ cond b (Some e.number) (number_of_login earlier)
  hashed_login true = refl
  hashed_login false = refl

  other_login : (b : Bool) → number_of_login (or_earlier (only_hashed (login_in e (cond b (Some false) None))) earlier) ≡ number_of_login earlier
  other_login true = refl
  other_login false = refl

  no_login : (b : Bool) → number_of_login (or_earlier (only_hashed (login_in e (cond b None None))) earlier) ≡ number_of_login earlier
  no_login true = refl
  no_login false = refl

  online_hash : (c : Bool) (name : Option (List ℕ)) (user : List ℕ) (result : LoginResult)
      → number_of_login (or_earlier (only_hashed (login_in e (cond (c && is_name name user) (hash_carried result) None))) earlier)
      ≡ cond (is_name (cond c (cond (carries_hash result) name None) None) user) (Some e.number) (number_of_login earlier)
  online_hash true name user (Right (Some hash)) = hashed_login (is_name name user)
  online_hash true name user (Right None) = other_login (is_name name user)
  online_hash true name user _ = no_login (is_name name user)
  online_hash false name user result = refl

  row_hash : (row : Row) (user : List ℕ)
      → number_of_login (or_earlier (only_hashed (login_in e (kept_login row user))) earlier) ≡ cond (is_name (user_of_hash row) user) (Some e.number) (number_of_login earlier)
  row_hash (rows.Hash n m name hash) user = hashed_login (same_name name user)
  row_hash (rows.Online n m name) user = other_login (same_name name user)
  row_hash _ user = refl

  hash_after : (past : List Entry) (user : List ℕ) (event : Event) (reply : Reply)
      → number_of_login (or_earlier (only_hashed (login_in e (login_by past user event reply))) earlier)
      ≡ cond (is_name (user_hashed past event reply) user) (Some e.number) (number_of_login earlier)
  hash_after past user (LoginOnline attempt result) reply = online_hash (is_closed reply) (user_of past attempt) user result
  hash_after past user (Kept row) reply = row_hash row user
  hash_after past user _ reply = refl

-- whom an entry accepts
name_if : (b : Bool) (o : Option (List ℕ)) (user : List ℕ) → (b && is_name o user) ≡ is_name (cond b o None) user
name_if true o user = refl
name_if false o user = refl

name_if_both : (a b : Bool) (o : Option (List ℕ)) (user : List ℕ) → (a && (b && is_name o user)) ≡ is_name (cond a (cond b o None) None) user
name_if_both true b o user = name_if b o user
name_if_both false b o user = refl

accepts_is : (past : List Entry) (user : List ℕ) (event : Event) (reply : Reply) → accepts past user event reply ≡ is_name (user_accepted past event reply) user
accepts_is past user (LoginOnline attempt result) reply = name_if_both (is_right result) (is_closed reply) (user_of past attempt) user
accepts_is past user (LoginGuess name named right) reply = name_if (is_accepted reply) (Some name) user
accepts_is past user (LoginTry attempt named right) reply = name_if (is_try_accepted reply) (user_of past attempt) user
accepts_is past user _ reply = refl

-- one entry more
pub logins_after : (past : List Entry) (e : Entry) (old new : List (List ℕ × ℕ)) (who : Option (List ℕ)) → who ≡ user_logged_in past e.event e.reply
    → ((n : List ℕ) → number_under new n ≡ put_under who e.number n (number_under old n)) → HoldLogins past old → HoldLogins (e ∷ past) new
logins_after past e old new who is puts holds = record {
  each = λ user.
      puts user
      ∙ ap (λ (o : Option (List ℕ)). put_under o e.number user (number_under old user)) is
      ∙ put_is_name (user_logged_in past e.event e.reply) e.number user (number_under old user)
      ∙ ap (λ (o : Option ℕ). cond (is_name (user_logged_in past e.event e.reply) user) (Some e.number) o) (holds.each user)
      ∙ sym (login_after e (last_online_login past user) past user e.event e.reply);
}

pub hashes_after : (past : List Entry) (e : Entry) (old new : List (List ℕ × ℕ)) (who : Option (List ℕ)) → who ≡ user_hashed past e.event e.reply
    → ((n : List ℕ) → number_under new n ≡ put_under who e.number n (number_under old n)) → HoldHashes past old → HoldHashes (e ∷ past) new
hashes_after past e old new who is puts holds = record {
  each = λ user.
      puts user
      ∙ ap (λ (o : Option (List ℕ)). put_under o e.number user (number_under old user)) is
      ∙ put_is_name (user_hashed past e.event e.reply) e.number user (number_under old user)
      ∙ ap (λ (o : Option ℕ). cond (is_name (user_hashed past e.event e.reply) user) (Some e.number) o) (holds.each user)
      ∙ sym (hash_after e (hash_entry past user) past user e.event e.reply);
}

pub accepts_after : (past : List Entry) (e : Entry) (old new : List (List ℕ × ℕ)) (who : Option (List ℕ)) → who ≡ user_accepted past e.event e.reply
    → ((n : List ℕ) → number_under new n ≡ put_under who e.number n (number_under old n)) → HoldAccepts past old → HoldAccepts (e ∷ past) new
accepts_after past e old new who is puts holds = record {
  each = λ user.
      puts user
      ∙ ap (λ (o : Option (List ℕ)). put_under o e.number user (number_under old user)) is
      ∙ put_is_name (user_accepted past e.event e.reply) e.number user (number_under old user)
      ∙ ap (λ (b : Bool). cond b (Some e.number) (number_under old user)) (sym (accepts_is past user e.event e.reply))
      ∙ ap (λ (o : Option ℕ). cond (accepts past user e.event e.reply) (Some e.number) o) (holds.each user);
}

pub no_logins : HoldLogins [] []
no_logins = record { each = λ user. refl }

pub no_hashes : HoldHashes [] []
no_hashes = record { each = λ user. refl }

pub no_accepts : HoldAccepts [] []
no_accepts = record { each = λ user. refl }

-- an entry is the login of its number
pub login_is : (n : ℕ) (o : Option Login) → is_number n (number_of_login o) ≡ is_login n o
login_is n None = refl
login_is n (Some l) = refl
