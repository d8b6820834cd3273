-- What the rows that are kept of a journal say is what the journal says: of answers, logins, guesses and falls.
use Rattle.std.proofs.Common.{◌≡◌, ℕ, Bool, true, false, List, [], ◌∷◌, map, refl, sym, ap, subst, ◌∙◌}
use Rattle.std.specs.Prelude.{Option, Some, None, not, ◌==◌, ◌&&◌, ◌||◌, if◌then◌else◌}
use Rattle.std.specs.List.{list_any}
use Rattle.std.specs.Cmp.Lexicographic.{same_text}
use Rattle.sd_rules.specs.declared.keys.Key.{Key}
use Rattle.sd_rules.specs.declared.keys.Key.TheVariants as keys
use Rattle.sd_rules.specs.declared.records.Answered.{Answered}
use Rattle.sd_rules.specs.declared.records.Answered.TheVariants.{Found, Absent}
use Rattle.sd_rules.specs.declared.records.Record.{Record}
use Rattle.sd_rules.specs.declared.records.Record.TheVariants as records
use Rattle.sd_rules.specs.declared.events.Event.{Event}
use Rattle.sd_rules.specs.declared.events.Event.TheVariants as events
use Rattle.sd_rules.specs.declared.events.Hash.{Hash}
use Rattle.sd_rules.specs.declared.events.Row.{Row}
use Rattle.sd_rules.specs.declared.events.Row.TheVariants as rows
use Rattle.sd_rules.specs.declared.replies.Entry.{Entry}
use Rattle.sd_rules.specs.Keys.{record_speaks, same_key, speaks_of}
use Rattle.sd_rules.specs.KeptRows.{answer_row, fall_row, hash_row, is_last_wrong, is_unhashed_login, kept_entry, login_row, or_row, row_number, row_of, rows_among, server_row, with_row, wrong_row}
use Rattle.sd_rules.specs.Logins.{hash_entry, last_online_login, wrong_count}
use Rattle.sd_rules.specs.Needed.{is_login, is_newest_of, is_newest_of_some, is_number, is_number_of, keys_of_answer, keys_of_record, last_fall, user_guessed, user_logged_in}
use Rattle.sd_rules.specs.Past.{Standing, answer_by, answer_in, is_void_after, is_voided, newest, or_else, spoken}
use Rattle.sd_rules.specs.Steps.{hash_of_event}
use Rattle.sd_core.proofs.KindLaws.{first_holds, second_holds}
use Rattle.sd_core.proofs.Room.{same_number}

pub true_not_false : {X : Type 0} → true ≡ false → X
true_not_false e = let clash : ⊥ = cc in absurd clash

-- the entries that the rows kept of a part of a journal open
abbrev pub kept_of : List Entry → List Entry → List Entry
kept_of all xs = map kept_entry (rows_among all xs)

-- the row of an entry by its event
abbrev row_by : List Entry → List Entry → Entry → Event → Option Row
row_by all past e event =
    or_row (answer_row all (answer_by past e event))
    (or_row (login_row all e (user_logged_in past event e.reply))
    (or_row (wrong_row all e (user_guessed event)) (fall_row all e event)))

-- a law of what stands with a row before it holds where it holds with each row that can be, and without
with_head : (L : List Entry → Type 0) (r : Option Row) (rs : List Row) → (r ≡ None → L (map kept_entry rs)) → ((row : Row) → r ≡ Some row → L (kept_entry row ∷ map kept_entry rs)) →
    L (map kept_entry (with_row r rs))
with_head L None rs f g = f refl
with_head L (Some row) rs f g = g row refl

-- a law of rows that holds of each kind of row kept of an entry
abbrev pub RowIf : (Row → Type 0) → Option Row → Type 0
RowIf L None = Unit {0}
RowIf L (Some row) = L row

row_or : (L : Row → Type 0) (x y : Option Row) → RowIf L x → RowIf L y → RowIf L (or_row x y)
row_or L None y f g = g
row_or L (Some row) y f g = f

row_choice : (L : Row → Type 0) (b : Bool) (x y : Option Row) → (b ≡ true → RowIf L x) → (b ≡ false → RowIf L y) → RowIf L (if b then x else y)
row_choice L true x y f g = f refl
row_choice L false x y f g = g refl

row_is : (L : Row → Type 0) (r : Option Row) (row : Row) → r ≡ Some row → RowIf L r → L row
row_is L r row is h = let here : RowIf L (Some row) = subst (RowIf L) is h in here

-- each law of a row that asks for its parts
pub row_law : (L : Row → Type 0) (all past : List Entry) (e : Entry) →
    ((a : Standing) → answer_in past e ≡ Some a → L (rows.Answer a.number a.moment a.own a.answered (is_voided all a))) →
    ((user : List ℕ) (hash : Hash) → user_logged_in past e.event e.reply ≡ Some user → is_login e.number (hash_entry all user) ≡ true → L (rows.Hash e.number e.moment user hash)) →
    ((user : List ℕ) → user_logged_in past e.event e.reply ≡ Some user → is_unhashed_login e.number (last_online_login all user) ≡ true → L (rows.Online e.number e.moment user)) →
    ((user : List ℕ) → is_last_wrong all user e ≡ true → not (wrong_count all user == 0) ≡ true → L (rows.Wrong e.number e.moment user (wrong_count all user))) →
    ((server : ℕ) → is_number e.number (last_fall all server) ≡ true → L (rows.Fall e.number e.moment server)) →
    RowIf L (row_of all past e)
row_law L all past e answer hash online wrong fall =
    row_or L (answer_row all (answer_in past e))
    (or_row (login_row all e (user_logged_in past e.event e.reply)) (or_row (wrong_row all e (user_guessed e.event)) (fall_row all e e.event)))
    (of_answer (answer_in past e) (λ a. answer a))
    (row_or L (login_row all e (user_logged_in past e.event e.reply)) (or_row (wrong_row all e (user_guessed e.event)) (fall_row all e e.event))
    (of_login (user_logged_in past e.event e.reply) (λ user. hash user) (λ user. online user))
    (row_or L (wrong_row all e (user_guessed e.event)) (fall_row all e e.event) (of_wrong (user_guessed e.event)) (of_fall e.event)))
  where
    of_answer : (a : Option Standing) → ((b : Standing) → a ≡ Some b → L (rows.Answer b.number b.moment b.own b.answered (is_voided all b))) → RowIf L (answer_row all a)
    of_answer None f = tt
    of_answer (Some a) f =
        row_choice L (is_newest_of_some all (Some a)) (Some (rows.Answer a.number a.moment a.own a.answered (is_voided all a))) None (λ _. f a refl) (λ _. tt)

    of_hash : (user : List ℕ) (x : Option Hash) → ((y : Hash) → L (rows.Hash e.number e.moment user y)) → RowIf L (hash_row e user x)
    of_hash user None f = tt
    of_hash user (Some x) f = f x

    of_login : (user : Option (List ℕ)) →
        ((u : List ℕ) (y : Hash) → user ≡ Some u → is_login e.number (hash_entry all u) ≡ true → L (rows.Hash e.number e.moment u y)) →
        ((u : List ℕ) → user ≡ Some u → is_unhashed_login e.number (last_online_login all u) ≡ true → L (rows.Online e.number e.moment u)) →
        RowIf L (login_row all e user)
    of_login None f g = tt
    of_login (Some user) f g =
        row_choice L (is_login e.number (hash_entry all user)) (hash_row e user (hash_of_event e.event))
        (if is_unhashed_login e.number (last_online_login all user) then Some (rows.Online e.number e.moment user) else None)
        (λ is. of_hash user (hash_of_event e.event) (λ y. f user y refl is))
        (λ _. row_choice L (is_unhashed_login e.number (last_online_login all user)) (Some (rows.Online e.number e.moment user)) None (λ is. g user refl is) (λ _. tt))

    of_wrong : (user : Option (List ℕ)) → RowIf L (wrong_row all e user)
    of_wrong None = tt
    of_wrong (Some user) =
        row_choice L (is_last_wrong all user e && not (wrong_count all user == 0)) (Some (rows.Wrong e.number e.moment user (wrong_count all user))) None
        (λ both. wrong user (first_holds (is_last_wrong all user e) (not (wrong_count all user == 0)) both) (second_holds (is_last_wrong all user e) (not (wrong_count all user == 0)) both))
        (λ _. tt)

    of_server : (server : ℕ) → RowIf L (server_row all e server)
    of_server server = row_choice L (is_number e.number (last_fall all server)) (Some (rows.Fall e.number e.moment server)) None (λ is. fall server is) (λ _. tt)

    of_kept : (row : Row) → RowIf L (fall_row all e (events.Kept row))
    of_kept (rows.Fall n m server) = of_server server
    of_kept _ = tt

    of_fall : (event : Event) → RowIf L (fall_row all e event)
    of_fall (events.Fall r server why) = of_server server
    of_fall (events.Kept row) = of_kept row
    of_fall _ = tt

-- equal keys and names
some_is_not_none : {X : Type 0} {Y : Type 0} (x : Y) → Some x ≡ None → X
some_is_not_none x e = let clash : ⊥ = cc in absurd clash

key_same : (a b : Key) → same_key a b ≡ true → a ≡ b
key_same (keys.User a) (keys.User b) h = ap (λ n. keys.User n) (same_text a b (sym h))
key_same (keys.Uid a) (keys.Uid b) h =
    let is = same_text (a ∷ []) (b ∷ []) (sym h) in
    cc
key_same (keys.Group a) (keys.Group b) h = ap (λ n. keys.Group n) (same_text a b (sym h))
key_same (keys.Gid a) (keys.Gid b) h =
    let is = same_text (a ∷ []) (b ∷ []) (sym h) in
    cc
key_same (keys.GroupsOf a) (keys.GroupsOf b) h = ap (λ n. keys.GroupsOf n) (same_text a b (sym h))
key_same keys.Host keys.Host h = refl
key_same keys.Rules keys.Rules h = refl
key_same a b h = true_not_false (sym h)

-- answers
pub record IsKeptAnswer (all : List Entry) (b a : Standing) : Type 0 where
  pub number : b.number ≡ a.number
  pub moment : b.moment ≡ a.moment
  pub own : b.own ≡ a.own
  pub answered : b.answered ≡ a.answered
  pub marked : b.marked ≡ is_voided all a

abbrev pub KeptAnswer : List Entry → Option Standing → Option Standing → Type 0
KeptAnswer all None None = Unit {0}
KeptAnswer all (Some b) (Some a) = IsKeptAnswer all b a
KeptAnswer all None (Some a) = ⊥
KeptAnswer all (Some b) None = ⊥

is_newest_at : (all : List Entry) (a : Standing) (k key : Key) → newest all k ≡ Some a → same_key key k ≡ true → is_newest_of all a.number key ≡ true
is_newest_at all a k key is same =
    let here : newest all key ≡ Some a = ap (λ x. newest all x) (key_same key k same) ∙ is in
    ap (λ x. is_number_of a.number x) here ∙ same_number a.number

any_first : (x y : Bool) → x ≡ true → (x || y) ≡ true
any_first x y h = cc

any_rest : (x y : Bool) → y ≡ true → (x || y) ≡ true
any_rest true y h = refl
any_rest false y h = h

any_found : (all : List Entry) (a : Standing) (k : Key) (found : Record) → newest all k ≡ Some a → record_speaks found k ≡ true →
    list_any (λ key. is_newest_of all a.number key) (keys_of_record found) ≡ true
any_found all a k (records.User user) is h = by_name_or_number (same_key (keys.User user.name) k) (same_key (keys.Uid user.uid) k) refl refl h
  where
    by_name_or_number : (x y : Bool) → same_key (keys.User user.name) k ≡ x → same_key (keys.Uid user.uid) k ≡ y → (x || y) ≡ true →
        list_any (λ key. is_newest_of all a.number key) (keys.User user.name ∷ keys.Uid user.uid ∷ []) ≡ true
    by_name_or_number true y e f h = any_first (is_newest_of all a.number (keys.User user.name)) (is_newest_of all a.number (keys.Uid user.uid) || false) (is_newest_at all a k (keys.User user.name) is e)
    by_name_or_number false true e f h =
        any_rest (is_newest_of all a.number (keys.User user.name)) (is_newest_of all a.number (keys.Uid user.uid) || false)
        (any_first (is_newest_of all a.number (keys.Uid user.uid)) false (is_newest_at all a k (keys.Uid user.uid) is f))
    by_name_or_number false false e f h = true_not_false (sym h)
any_found all a k (records.Group group) is h = by_name_or_number (same_key (keys.Group group.name) k) (same_key (keys.Gid group.gid) k) refl refl h
  where
    by_name_or_number : (x y : Bool) → same_key (keys.Group group.name) k ≡ x → same_key (keys.Gid group.gid) k ≡ y → (x || y) ≡ true →
        list_any (λ key. is_newest_of all a.number key) (keys.Group group.name ∷ keys.Gid group.gid ∷ []) ≡ true
    by_name_or_number true y e f h = any_first (is_newest_of all a.number (keys.Group group.name)) (is_newest_of all a.number (keys.Gid group.gid) || false) (is_newest_at all a k (keys.Group group.name) is e)
    by_name_or_number false true e f h =
        any_rest (is_newest_of all a.number (keys.Group group.name)) (is_newest_of all a.number (keys.Gid group.gid) || false)
        (any_first (is_newest_of all a.number (keys.Gid group.gid)) false (is_newest_at all a k (keys.Gid group.gid) is f))
    by_name_or_number false false e f h = true_not_false (sym h)
any_found all a k (records.Groups groups) is h = true_not_false (sym h)
any_found all a k (records.Host host) is h = true_not_false (sym h)
any_found all a k (records.Rules book) is h = true_not_false (sym h)

newest_some : (all : List Entry) (a : Standing) (k : Key) (answered : Answered) → a.answered ≡ answered → newest all k ≡ Some a → speaks_of a.own answered k ≡ true →
    list_any (λ key. is_newest_of all a.number key) (keys_of_answer a.own answered) ≡ true
newest_some all a k Absent e is h = any_first (is_newest_of all a.number a.own) false (is_newest_at all a k a.own is h)
newest_some all a k (Found found) e is h = own_or_found (same_key a.own k) refl h
  where
    own_or_found : (b : Bool) → same_key a.own k ≡ b → (b || record_speaks found k) ≡ true →
        (is_newest_of all a.number a.own || list_any (λ key. is_newest_of all a.number key) (keys_of_record found)) ≡ true
    own_or_found true own h = any_first (is_newest_of all a.number a.own) (list_any (λ key. is_newest_of all a.number key) (keys_of_record found)) (is_newest_at all a k a.own is own)
    own_or_found false own h = any_rest (is_newest_of all a.number a.own) (list_any (λ key. is_newest_of all a.number key) (keys_of_record found)) (any_found all a k found is h)

-- the row of an answer that is the newest of a key
answer_kept : (all past : List Entry) (e : Entry) (a : Standing) (k : Key) → answer_in past e ≡ Some a → newest all k ≡ Some a → speaks_of a.own a.answered k ≡ true →
    row_of all past e ≡ Some (rows.Answer a.number a.moment a.own a.answered (is_voided all a))
answer_kept all past e a k holds is speaks =
    ap (λ x. or_row (answer_row all x) (or_row (login_row all e (user_logged_in past e.event e.reply)) (or_row (wrong_row all e (user_guessed e.event)) (fall_row all e e.event)))) holds
    ∙ ap (λ b. or_row (if b then Some (rows.Answer a.number a.moment a.own a.answered (is_voided all a)) else None)
    (or_row (login_row all e (user_logged_in past e.event e.reply)) (or_row (wrong_row all e (user_guessed e.event)) (fall_row all e e.event))))
    (newest_some all a k a.answered refl is speaks)

spoken_first : (b : Bool) (a c : Standing) (x : Option Standing) → b ≡ true → or_else (if b then Some a else None) x ≡ Some a
spoken_first true a c x h = refl
spoken_first false a c x h = true_not_false (sym h)

-- a row that says nothing of a key
abbrev SaysNothing : Key → Row → Type 0
SaysNothing k row = (past : List Entry) → spoken k (answer_in past (kept_entry row)) ≡ None

nothing_said : (b : Bool) (x : Standing) → b ≡ false → (if b then Some x else None) ≡ None
nothing_said true x h = true_not_false h
nothing_said false x h = refl

silent_row : (all past : List Entry) (e : Entry) (k : Key) → ((a : Standing) → answer_in past e ≡ Some a → speaks_of a.own a.answered k ≡ false) →
    RowIf (SaysNothing k) (row_of all past e)
silent_row all past e k f =
    row_law (SaysNothing k) all past e
    (λ a holds before. nothing_said (speaks_of a.own a.answered k)
    (record { number = a.number; moment = a.moment; own = a.own; answered = a.answered; marked = is_voided all a }) (f a holds))
    (λ user hash in_user is before. refl) (λ user in_user is before. refl) (λ user last counted before. refl) (λ server is before. refl)

newest_silent : (k : Key) (r : Option Row) (rs : List Row) → RowIf (SaysNothing k) r → newest (map kept_entry (with_row r rs)) k ≡ newest (map kept_entry rs) k
newest_silent k None rs h = refl
newest_silent k (Some row) rs h = ap (λ a. or_else a (newest (map kept_entry rs) k)) (h (map kept_entry rs))

same_standing : (b a : Standing) → Some b ≡ Some a → b ≡ a
same_standing b a e = cc

kept_newest_at : (all past : List Entry) (e : Entry) (k : Key) (x : Option Standing) → answer_in past e ≡ x →
    (newest all k ≡ newest past k → KeptAnswer all (newest (kept_of all past) k) (newest past k)) →
    newest all k ≡ or_else (spoken k x) (newest past k) → KeptAnswer all (newest (kept_of all (e ∷ past)) k) (or_else (spoken k x) (newest past k))
kept_newest_at all past e k None holds f is =
    subst (λ y. KeptAnswer all y (newest past k))
    (sym (newest_silent k (row_of all past e) (rows_among all past) (silent_row all past e k (λ a other. some_is_not_none a (sym other ∙ holds))))) (f is)
kept_newest_at all past e k (Some a) holds f is = by_speaking (speaks_of a.own a.answered k) refl is
  where
    by_speaking : (b : Bool) → speaks_of a.own a.answered k ≡ b → newest all k ≡ or_else (if b then Some a else None) (newest past k) →
        KeptAnswer all (newest (kept_of all (e ∷ past)) k) (or_else (if b then Some a else None) (newest past k))
    by_speaking true speaks here =
        subst (λ r. KeptAnswer all (newest (map kept_entry (with_row r (rows_among all past))) k) (Some a)) (sym (answer_kept all past e a k holds here speaks))
        (subst (λ y. KeptAnswer all y (Some a))
        (sym (spoken_first (speaks_of a.own a.answered k) (record { number = a.number; moment = a.moment; own = a.own; answered = a.answered; marked = is_voided all a }) a (newest (kept_of all past) k) speaks))
        (record { number = refl; moment = refl; own = refl; answered = refl; marked = refl }))
    by_speaking false speaks here =
        subst (λ y. KeptAnswer all y (newest past k))
        (sym (newest_silent k (row_of all past e) (rows_among all past)
        (silent_row all past e k (λ b other. ap (λ (c : Standing). speaks_of c.own c.answered k) (same_standing b a (sym other ∙ holds)) ∙ speaks)))) (f here)

pub kept_newest : (all past : List Entry) (k : Key) → newest all k ≡ newest past k → KeptAnswer all (newest (kept_of all past) k) (newest past k)
kept_newest all [] k is = tt
kept_newest all (e ∷ past) k is = kept_newest_at all past e k (answer_in past e) refl (λ here. kept_newest all past k here) is

-- rows void nothing
pub kept_void : (rs : List Row) (a : Standing) → is_void_after (map kept_entry rs) a ≡ false
kept_void [] a = refl
kept_void (row ∷ rs) a = stop_or_go (row_number row == a.number) (is_void_after (map kept_entry rs) a) (kept_void rs a)
  where
    stop_or_go : (b v : Bool) → v ≡ false → (if b then false else v) ≡ false
    stop_or_go true v h = refl
    stop_or_go false v h = h
