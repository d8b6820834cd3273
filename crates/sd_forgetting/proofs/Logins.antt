-- The online logins and the hash entry of each user are the same in a part that keeps them, with their leading entries.
use Rattle.std.proofs.Common.{◌≡◌, ℕ, Bool, true, false, List, ◌∷◌, refl, sym, ap, subst, ◌∙◌, inl, inr}
use Rattle.std.specs.Prelude.{Option, Some, None, ◌⊎◌, ◌==◌, ◌&&◌, ◌||◌, if◌then◌else◌}
use Rattle.sd_rules.specs.declared.events.Event.{Event}
use Rattle.sd_rules.specs.declared.events.Event.TheVariants as events
use Rattle.sd_rules.specs.declared.events.Row.{Row}
use Rattle.sd_rules.specs.declared.events.Row.TheVariants as rows
use Rattle.sd_rules.specs.declared.replies.Entry.{Entry}
use Rattle.sd_rules.specs.declared.replies.Reply.{Reply}
use Rattle.sd_rules.specs.Keys.{same_name}
use Rattle.sd_rules.specs.Past.{or_else, is_closed}
use Rattle.sd_rules.specs.Logins.{Login, user_of, is_name, hash_carried, kept_login, login_by, login_in, or_earlier, only_hashed, last_online_login, hash_entry}
use Rattle.sd_rules.specs.Needed.{read_with, user_if_right, user_of_row, user_logged_in, is_login, is_login_needed}
use Rattle.sd_forgetting.specs.Parts.{part, entry_at, IsAt, numbers_fall}
use Rattle.sd_forgetting.proofs.Tests.{not_true, none_is_not, same_some, or_left, or_right, same_number}
use Rattle.sd_forgetting.proofs.Places.{entry_kept, user_kept, user_or_none, at_through, numbers_before}
use Rattle.sd_rules.proofs.SameKeys.{name_is}
use Rattle.sd_forgetting.proofs.Firsts.{first_kept, first_entry_same}

pub earlier_is_else : (x y : Option Login) → or_earlier x y ≡ or_else x y
earlier_is_else None y = refl
earlier_is_else (Some l) y = refl

name_of : (o : Option (List ℕ)) (user : List ℕ) → is_name o user ≡ true → o ≡ Some user
name_of None user h = absurd (not_true h)
name_of (Some name) user h = ap (λ (n : List ℕ). Some n) (name_is name user h)

-- a login by two pasts
login_if : (c : Bool) (x y : Option (List ℕ)) (user : List ℕ) (h : Option Bool) → (x ≡ y) ⊎ (x ≡ None) →
    ((if c && is_name x user then h else None) ≡ (if c && is_name y user then h else None)) ⊎ ((if c && is_name x user then h else None) ≡ None)
login_if c x y user h (inl e) = inl (ap (λ (o : Option (List ℕ)). if c && is_name o user then h else None) e)
login_if true x y user h (inr e) = inr (ap (λ (o : Option (List ℕ)). if is_name o user then h else None) e)
login_if false x y user h (inr e) = inr refl

login_or_none : (p q : List Entry) (user : List ℕ) (event : Event) (reply : Reply) → ((a : ℕ) → (user_of p a ≡ user_of q a) ⊎ (user_of p a ≡ None)) →
    (login_by p user event reply ≡ login_by q user event reply) ⊎ (login_by p user event reply ≡ None)
login_or_none p q user (events.LoginOnline a result) reply f = login_if (is_closed reply) (user_of p a) (user_of q a) user (hash_carried result) (f a)
login_or_none p q user (events.Kept row) reply f = inl refl
login_or_none p q user _ reply f = inl refl

read_if : (c : Bool) (a : ℕ) (x y : Option (List ℕ)) (user : List ℕ) (h : Option Bool) → ((n : ℕ) → (if c then Some a else None) ≡ Some n → n ≡ a → x ≡ y) →
    (if c && is_name x user then h else None) ≡ (if c && is_name y user then h else None)
read_if true a x y user h f = ap (λ (o : Option (List ℕ)). if is_name o user then h else None) (f a refl refl)
read_if false a x y user h f = refl

pub login_kept : (p q : List Entry) (user : List ℕ) (event : Event) (reply : Reply) → ((a : ℕ) → read_with event reply ≡ Some a → user_of p a ≡ user_of q a) →
    login_by p user event reply ≡ login_by q user event reply
login_kept p q user (events.LoginOnline a result) reply f =
    read_if (is_closed reply) a (user_of p a) (user_of q a) user (hash_carried result) (λ n h is. subst (λ m. user_of p m ≡ user_of q m) is (f n h))
login_kept p q user (events.Kept row) reply f = refl
login_kept p q user _ reply f = refl

-- whose login it is
online_user : (c : Bool) (o : Option (List ℕ)) (user : List ℕ) (h : Option Bool) (hashed : Bool) → (if c && is_name o user then h else None) ≡ Some hashed →
    (if c then user_if_right h o else None) ≡ Some user
online_user true None user h hashed g = absurd (none_is_not hashed g)
online_user true (Some name) user h hashed g = named (same_name name user) h refl g
  where
    named : (s : Bool) (k : Option Bool) → same_name name user ≡ s → (if s then k else None) ≡ Some hashed → user_if_right k (Some name) ≡ Some user
    named true (Some x) is e = ap (λ (n : List ℕ). Some n) (name_is name user is)
    named true None is e = absurd (none_is_not hashed e)
    named false k is e = absurd (none_is_not hashed e)
online_user false o user h hashed g = absurd (none_is_not hashed g)

row_if : (u user : List ℕ) (b : Bool) (hashed : Bool) (s : Bool) → same_name u user ≡ s → (if s then Some b else None) ≡ Some hashed → Some u ≡ Some user
row_if u user b hashed true is h = ap (λ (n : List ℕ). Some n) (name_is u user is)
row_if u user b hashed false is h = absurd (none_is_not hashed h)

row_user : (row : Row) (user : List ℕ) (hashed : Bool) → kept_login row user ≡ Some hashed → user_of_row row ≡ Some user
row_user (rows.Hash n m u hash) user hashed h = row_if u user true hashed (same_name u user) refl h
row_user (rows.Online n m u) user hashed h = row_if u user false hashed (same_name u user) refl h
row_user _ user hashed h = absurd (none_is_not hashed h)

whose : (past : List Entry) (user : List ℕ) (event : Event) (reply : Reply) (hashed : Bool) → login_by past user event reply ≡ Some hashed → user_logged_in past event reply ≡ Some user
whose past user (events.LoginOnline a result) reply hashed h = online_user (is_closed reply) (user_of past a) user (hash_carried result) hashed h
whose past user (events.Kept row) reply hashed h = row_user row user hashed h
whose past user _ reply hashed h = absurd (none_is_not hashed h)

-- what is read off a login
pub login_some : (e : Entry) (o : Option Bool) (l : Login) → login_in e o ≡ Some l → (hashed : Bool) × ((o ≡ Some hashed) × (l.number ≡ e.number))
login_some e None l h = absurd (none_is_not l h)
login_some e (Some hashed) l h = (hashed, (refl, ap (λ (x : Login). x.number) (sym (same_some (record { number = e.number; moment = e.moment; hashed = hashed }) l h))))

hashed_if : (l m : Login) (b : Bool) → (if b then Some l else None) ≡ Some m → Some l ≡ Some m
hashed_if l m true h = h
hashed_if l m false h = absurd (none_is_not m h)

pub hashed_some : (o : Option Login) (l : Login) → only_hashed o ≡ Some l → o ≡ Some l
hashed_some None l h = absurd (none_is_not l h)
hashed_some (Some m) l h = hashed_if m l m.hashed h

module _
    (all : List Entry) (looked keep : List Entry → Entry → Bool) (b : ℕ) (falls : numbers_fall b all ≡ true)
    (login_looked : (e : Entry) (past : List Entry) → IsAt all e past → is_login_needed all e.number (user_logged_in past e.event e.reply) ≡ true → looked past e ≡ true)
    (looked_kept : (e : Entry) (past : List Entry) → IsAt all e past → looked past e ≡ true → keep past e ≡ true)
    (lead_kept : (other : Entry) (q : List Entry) (r : ℕ) (x : Entry) (p : List Entry) → IsAt all other q → looked q other ≡ true →
    read_with other.event other.reply ≡ Some r → IsAt all x p → x.number ≡ r → keep p x ≡ true) (user : List ℕ) where
  login_later : (e : Entry) (past : List Entry) → IsAt all e past →
      (login_by (part keep past) user e.event e.reply ≡ login_by past user e.event e.reply) ⊎ (login_by (part keep past) user e.event e.reply ≡ None)
  login_later e past at =
      login_or_none (part keep past) past user e.event e.reply (user_or_none keep e.number past (numbers_before b all e past falls at))

  login_same : (e : Entry) (past : List Entry) → IsAt all e past → looked past e ≡ true → login_by past user e.event e.reply ≡ login_by (part keep past) user e.event e.reply
  login_same e past at look =
      login_kept past (part keep past) user e.event e.reply
      (λ a reads. user_kept past (part keep past) a
      (entry_kept keep a past (λ x p i is. lead_kept e past a x p at look reads (at_through all e past x p at i) is)))

  looked_as : (e : Entry) (past : List Entry) (hashed : Bool) → IsAt all e past → login_by past user e.event e.reply ≡ Some hashed →
      (is_login e.number (hash_entry all user) || is_login e.number (last_online_login all user)) ≡ true → looked past e ≡ true
  looked_as e past hashed at h is = login_looked e past at (ap (is_login_needed all e.number) (whose past user e.event e.reply hashed h) ∙ is)

  is_login_of : (e : Entry) (l : Login) (o : Option Login) → o ≡ Some l → l.number ≡ e.number → is_login e.number o ≡ true
  is_login_of e l o is same = ap (is_login e.number) is ∙ (ap (λ (n : ℕ). n == e.number) same ∙ same_number e.number)

  online_here : (e : Entry) (past : List Entry) (l : Login) → IsAt all e past → login_in e (login_by past user e.event e.reply) ≡ Some l → last_online_login all user ≡ Some l →
      (keep past e ≡ true) × (login_in e (login_by (part keep past) user e.event e.reply) ≡ Some l)
  online_here e past l at h is =
      let s = login_some e (login_by past user e.event e.reply) l h in
      let look = looked_as e past s.0 at s.1.0
      (or_right (is_login e.number (hash_entry all user)) (is_login e.number (last_online_login all user)) (is_login_of e l (last_online_login all user) is s.1.1)) in
      (looked_kept e past at look, ap (login_in e) (sym (login_same e past at look)) ∙ h)

  online_later : (e : Entry) (past : List Entry) → IsAt all e past → login_in e (login_by past user e.event e.reply) ≡ None → login_in e (login_by (part keep past) user e.event e.reply) ≡ None
  online_later e past at h = elim (login_later e past at) [
    | inl s ↦ ap (login_in e) s ∙ h
    | inr s ↦ ap (login_in e) s
  ]

  online_cut : (e : Entry) (past : List Entry) → last_online_login (e ∷ past) user ≡ or_else (login_in e (login_by past user e.event e.reply)) (last_online_login past user)
  online_cut e past = earlier_is_else (login_in e (login_by past user e.event e.reply)) (last_online_login past user)

  pub logins_same : last_online_login all user ≡ last_online_login (part keep all) user
  logins_same =
      first_kept keep (λ (xs : List Entry). last_online_login xs user) (λ (past : List Entry) (e : Entry). login_in e (login_by past user e.event e.reply)) online_cut all
      online_later online_here all (λ e past at. at) refl

  pub online_same : (l : Login) → last_online_login all user ≡ Some l → entry_at all l.number ≡ entry_at (part keep all) l.number
  online_same =
      first_entry_same keep (λ (xs : List Entry). last_online_login xs user) (λ (past : List Entry) (e : Entry). login_in e (login_by past user e.event e.reply)) online_cut all
      online_later online_here refl (λ (l : Login). l.number) (λ e past l h. (login_some e (login_by past user e.event e.reply) l h).1.1) b falls

  hash_here : (e : Entry) (past : List Entry) (l : Login) → IsAt all e past → only_hashed (login_in e (login_by past user e.event e.reply)) ≡ Some l → hash_entry all user ≡ Some l →
      (keep past e ≡ true) × (only_hashed (login_in e (login_by (part keep past) user e.event e.reply)) ≡ Some l)
  hash_here e past l at h is =
      let s = login_some e (login_by past user e.event e.reply) l (hashed_some (login_in e (login_by past user e.event e.reply)) l h) in
      let look = looked_as e past s.0 at s.1.0
      (or_left (is_login e.number (hash_entry all user)) (is_login e.number (last_online_login all user)) (is_login_of e l (hash_entry all user) is s.1.1)) in
      (looked_kept e past at look, ap (λ (o : Option Bool). only_hashed (login_in e o)) (sym (login_same e past at look)) ∙ h)

  hash_later : (e : Entry) (past : List Entry) → IsAt all e past → only_hashed (login_in e (login_by past user e.event e.reply)) ≡ None →
      only_hashed (login_in e (login_by (part keep past) user e.event e.reply)) ≡ None
  hash_later e past at h = elim (login_later e past at) [
    | inl s ↦ ap (λ (o : Option Bool). only_hashed (login_in e o)) s ∙ h
    | inr s ↦ ap (λ (o : Option Bool). only_hashed (login_in e o)) s
  ]

  hash_cut : (e : Entry) (past : List Entry) → hash_entry (e ∷ past) user ≡ or_else (only_hashed (login_in e (login_by past user e.event e.reply))) (hash_entry past user)
  hash_cut e past = earlier_is_else (only_hashed (login_in e (login_by past user e.event e.reply))) (hash_entry past user)

  pub hashes_same : hash_entry all user ≡ hash_entry (part keep all) user
  hashes_same =
      first_kept keep (λ (xs : List Entry). hash_entry xs user) (λ (past : List Entry) (e : Entry). only_hashed (login_in e (login_by past user e.event e.reply))) hash_cut all
      hash_later hash_here all (λ e past at. at) refl

  pub hashed_same : (l : Login) → hash_entry all user ≡ Some l → entry_at all l.number ≡ entry_at (part keep all) l.number
  hashed_same =
      first_entry_same keep (λ (xs : List Entry). hash_entry xs user) (λ (past : List Entry) (e : Entry). only_hashed (login_in e (login_by past user e.event e.reply))) hash_cut all
      hash_later hash_here refl (λ (l : Login). l.number)
      (λ e past l h. (login_some e (login_by past user e.event e.reply) l (hashed_some (login_in e (login_by past user e.event e.reply)) l h)).1.1) b falls
