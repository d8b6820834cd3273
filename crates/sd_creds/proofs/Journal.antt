-- A mark that is a journal's says of a login what the journal says; and it stays one from entry to entry.
use Rattle.std.proofs.Common.{◌≡◌, ◌+◌, ◌==◌, ℕ, Bool, true, false, cond, List, [], ◌∷◌, Option, Some, None, refl, sym, ap, ◌∙◌, add_comm}
use Rattle.std.specs.Option.{option_map}
use Rattle.sd_rules.specs.declared.settings.Settings.{Settings}
use Rattle.sd_rules.specs.declared.replies.Entry.{Entry}
use Rattle.sd_rules.specs.Logins as logins
use Rattle.sd_rules.specs.declared.limits.Login.{Login}
use Rattle.sd_creds.specs.declared.marks.Mark.{Mark}
use Rattle.sd_rules.specs.Limits as seen
use Rattle.sd_creds.specs.Marks as marked
use Rattle.sd_creds.specs.Marks.{IsMarkOf, mark_after, mark_in, login_after, hash_after}

module _ (s : Settings) (t : ℕ) (past : List Entry) (user : List ℕ) (m : Mark) (is : IsMarkOf past user m) where
  pub usable_hash_of_journal : marked.usable_hash s m ≡ logins.usable_hash s past user
  usable_hash_of_journal = ap (λ (o : Option logins.Login). cond s.cache_credentials o None) (sym is.hash)

  usable_login_of_journal : marked.usable_login s m ≡ logins.usable_login s past user
  usable_login_of_journal =
      ap (λ (o : Option logins.Login). cond s.cache_credentials (logins.only_hashed o) None) (sym is.login)

  pub verdict_of_journal : (named : ℕ) (right : Bool) → marked.verdict_of s t m named right ≡ logins.verdict_of s past t user named right
  verdict_of_journal named right =
      ap (λ (o : Option logins.Login). logins.verdict_by_hash s t m.wrong_count m.last_wrong o named right) usable_hash_of_journal
      ∙ ap (λ (w : ℕ). logins.verdict_by_hash s t w m.last_wrong (logins.usable_hash s past user) named right) (sym is.wrong_count)
      ∙ ap (λ (last : Option ℕ). logins.verdict_by_hash s t (logins.wrong_count past user) last (logins.usable_hash s past user) named right) (sym is.last_wrong)

  pub cached_login_of_journal : marked.cached_login s t m ≡ logins.cached_login s past t user
  cached_login_of_journal =
      ap (λ (o : Option logins.Login). cond (s.cached_auth_timeout == 0) None (logins.still_cached s t o)) usable_login_of_journal

  pub verdict_of_try_of_journal : (named : ℕ) (right : Bool) → marked.verdict_of_try s t m named right ≡ logins.verdict_of_try s past t user named right
  verdict_of_try_of_journal named right =
      ap (λ (o : Option logins.Login). logins.verdict_by_login s t o named right) usable_login_of_journal

hash_entry_after : (e : Entry) (b : Option Bool) (o : Option Login) → logins.or_earlier (logins.only_hashed (logins.login_in e b)) (option_map seen.login o) ≡ option_map seen.login (hash_after e b o)
hash_entry_after e None o = refl
hash_entry_after e (Some true) o = refl
hash_entry_after e (Some false) o = refl

last_login_after : (e : Entry) (b : Option Bool) (o : Option Login) → logins.or_earlier (logins.login_in e b) (option_map seen.login o) ≡ option_map seen.login (login_after e b o)
last_login_after e None o = refl
last_login_after e (Some hashed) o = refl

pub is_mark_after : (past : List Entry) (e : Entry) (user : List ℕ) (m : Mark) → IsMarkOf past user m → IsMarkOf (e ∷ past) user (mark_after past e user m)
is_mark_after past e user m is =
    let b : Option Bool = logins.login_by past user e.event e.reply in
    let n : ℕ = logins.wrongs user e.event e.reply in
    let accepted : Bool = logins.accepts past user e.event e.reply in
    record {
      hash =
          ap (λ (o : Option logins.Login). logins.or_earlier (logins.only_hashed (logins.login_in e b)) o) is.hash ∙ hash_entry_after e b m.hash;
      login =
          ap (λ (o : Option logins.Login). logins.or_earlier (logins.login_in e b) o) is.login ∙ last_login_after e b m.login;
      wrong_count =
          ap (λ (w : ℕ). cond accepted 0 (n + w)) is.wrong_count ∙ ap (λ (w : ℕ). cond accepted 0 w) (add_comm n m.wrong_count);
      last_wrong = ap (λ (last : Option ℕ). cond (n == 0) last (Some e.moment)) is.last_wrong;
    }

pub is_mark_in : (past : List Entry) (user : List ℕ) → IsMarkOf past user (mark_in past user)
is_mark_in [] user = record { hash = refl; login = refl; wrong_count = refl; last_wrong = refl }
is_mark_in (e ∷ past) user = is_mark_after past e user (mark_in past user) (is_mark_in past user)
