-- What is kept of each user's logins, and what it says of a login by a stored hash.
use Rattle.std.specs.Prelude.{◌≡◌, ◌≢◌, ℕ, Bool, true, false, ◌+◌, List, [], ◌∷◌, Option, Some, None, ◌==◌, unwrap_or, is_some, if◌then◌else◌}
use Rattle.std.specs.Map.{lookup}
use Rattle.std.specs.Option.{option_map}
use Rattle.sd_rules.specs.declared.settings.Settings.{Settings}
use Rattle.sd_rules.specs.declared.replies.Entry.{Entry}
use Rattle.sd_rules.specs.declared.replies.Verdict.{Verdict}
use Rattle.sd_rules.specs.Keys.{same_name}
use Rattle.sd_rules.specs.Logins as logins
use Rattle.sd_rules.specs.declared.limits.Login.{Login}
use Rattle.sd_creds.specs.declared.marks.Mark.{Mark}
use Rattle.sd_rules.specs.Limits as seen

-- what is kept of a user, where something is
abbrev pub mark_at : List (List ℕ × Mark) → List ℕ → Option Mark
mark_at marks user = lookup (same_name user) marks

-- a user of whom nothing is kept
abbrev pub unmarked : Mark
unmarked = record { hash = None; login = None; wrong_count = 0; last_wrong = None }

abbrev pub mark_of : List (List ℕ × Mark) → List ℕ → Mark
mark_of marks user = unwrap_or (mark_at marks user) unmarked

abbrev pub is_marked : List (List ℕ × Mark) → List ℕ → Bool
is_marked marks user = is_some (mark_at marks user)

-- the mark of one user is this now, and that of each other stays
pub record Sets (old new : List (List ℕ × Mark)) (user : List ℕ) (mark : Mark) : Type 0 where
  pub changed : mark_of new user ≡ mark
  pub others : (other : List ℕ) → other ≢ user → mark_of new other ≡ mark_of old other

-- a mark with this hash entry
abbrev pub with_hash : ℕ → ℕ → Mark → Mark
with_hash number moment m = record m { hash = Some (record { number = number; moment = moment; hashed = true }) }

-- a mark with this last online login
abbrev pub with_login : ℕ → ℕ → Bool → Mark → Mark
with_login number moment hashed m = record m { login = Some (record { number = number; moment = moment; hashed = hashed }) }

-- a mark with so many more wrong guesses, the last at this moment
abbrev pub with_wrong : ℕ → ℕ → Mark → Mark
with_wrong moment count m = record m { wrong_count = m.wrong_count + count; last_wrong = Some moment }

-- a mark of a user who was accepted
abbrev pub with_accept : Mark → Mark
with_accept m = record m { wrong_count = 0 }

-- the hash entry, where hashes are used
abbrev pub usable_hash : Settings → Mark → Option logins.Login
usable_hash s m = if s.cache_credentials then option_map seen.login m.hash else None

-- the verdict on a guess: the first case that holds
abbrev pub verdict_of : Settings → ℕ → Mark → ℕ → Bool → Verdict
verdict_of s t m named right = logins.verdict_by_hash s t m.wrong_count m.last_wrong (usable_hash s m) named right

-- the last online login, where it carries a hash and hashes are used
abbrev pub usable_login : Settings → Mark → Option logins.Login
usable_login s m = if s.cache_credentials then logins.only_hashed (option_map seen.login m.login) else None

-- the online login whose hash a login may use while the directory can be reached
abbrev pub cached_login : Settings → ℕ → Mark → Option ℕ
cached_login s t m = if s.cached_auth_timeout == 0 then None else logins.still_cached s t (usable_login s m)

-- the verdict on a try: the first case that holds
abbrev pub verdict_of_try : Settings → ℕ → Mark → ℕ → Bool → Verdict
verdict_of_try s t m named right = logins.verdict_by_login s t (usable_login s m) named right

-- a mark is what a journal's entries say of a user
pub record IsMarkOf (past : List Entry) (user : List ℕ) (m : Mark) : Type 0 where
  pub hash : logins.hash_entry past user ≡ option_map seen.login m.hash
  pub login : logins.last_online_login past user ≡ option_map seen.login m.login
  pub wrong_count : logins.wrong_count past user ≡ m.wrong_count
  pub last_wrong : logins.last_wrong past user ≡ m.last_wrong

-- the last online login after an entry that is one, or is none, of the user
abbrev pub login_after : Entry → Option Bool → Option Login → Option Login
login_after e None earlier = earlier
login_after e (Some hashed) earlier = Some (record { number = e.number; moment = e.moment; hashed = hashed })

-- the hash entry after it
abbrev pub hash_after : Entry → Option Bool → Option Login → Option Login
hash_after e None earlier = earlier
hash_after e (Some true) earlier = Some (record { number = e.number; moment = e.moment; hashed = true })
hash_after e (Some false) earlier = earlier

-- the mark of a user after one more entry
abbrev pub mark_after : List Entry → Entry → List ℕ → Mark → Mark
mark_after past e user m = record {
  hash = hash_after e (logins.login_by past user e.event e.reply) m.hash;
  login = login_after e (logins.login_by past user e.event e.reply) m.login;
  wrong_count = if logins.accepts past user e.event e.reply then 0 else m.wrong_count + logins.wrongs user e.event e.reply;
  last_wrong = if logins.wrongs user e.event e.reply == 0 then m.last_wrong else Some e.moment;
}

-- the mark of a user by a journal, entry by entry
abbrev pub mark_in : List Entry → List ℕ → Mark
mark_in [] user = unmarked
mark_in (e ∷ past) user = mark_after past e user (mark_in past user)
