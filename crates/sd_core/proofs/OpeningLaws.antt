-- Kept rows that keep the rules open a sound journal, where nothing is open and nobody waits.
use Rattle.std.proofs.Common.{◌≡◌, ℕ, ◌+◌, ◌-◌, ◌*◌, ◌^◌, ◌<◌, ◌≤◌, Bool, true, false, List, [], ◌∷◌, ◌++◌, length, map, reverse, arith, refl, sym, ap, subst, ◌∙◌, append_assoc}
use Rattle.std.specs.Prelude.{Option, Some, None, cond, is_some, not, nat_lt, nat_le, sum_by, ◌==◌, ◌&&◌, ◌||◌, if◌then◌else◌}
use Rattle.std.specs.List.{list_any}
use Rattle.std.specs.Cmp.Lexicographic.{same_text}
use Rattle.std.proofs.lemmas.Bool.Decides.{nat_tests}
use Rattle.std.proofs.lemmas.List.{reverse-append, map-append, append-nil, length-reverse}
use Rattle.std.proofs.lemmas.List.Sums.{sum_by-cons}
use Rattle.sd_rules.specs.declared.events.Row.{Row}
use Rattle.sd_rules.specs.declared.events.Row.TheVariants as rows
use Rattle.sd_rules.specs.declared.replies.Entry.{Entry}
use Rattle.sd_rules.specs.declared.settings.Settings.{Settings}
use Rattle.sd_rules.specs.Keys.{same_name}
use Rattle.sd_rules.specs.KeptRows.{kept_entry, row_number, row_moment, last_number, last_moment, is_head, is_good_head, is_good_row, is_sound, is_in_order, has_room, counts_wrongs_of, first_bad, bad_row, opened}
use Rattle.sd_rules.specs.Logins.{wrong_count}
use Rattle.sd_rules.specs.Past.{answer_in}
use Rattle.sd_rules.specs.Requests.{unclosed, has_opened_request, has_opened_attempt, is_open, is_open_request, is_open_attempt, waits_for, reserves, reserved_among, reserved_places}
use Rattle.sd_rules.specs.Steps.{Daemon}
use Rattle.sd_rules.specs.TextBytes.{bytes_of_row, text_bytes}
use Rattle.sd_forgetting.proofs.Opened.{rows_orderly}
use Rattle.sd_forgetting.proofs.Orders.{orderly_first}
use Rattle.sd_books.specs.Noted.{HadCounts}
use Rattle.sd_core.specs.Laws.{IsKept, are_asked_since, are_own_outages}
use Rattle.sd_core.specs.Sound as sound
use Rattle.sd_core.specs.Sound.{all_name_earlier, moments_rise, falls_from, holds_kind, holds_kinds, row_holders, closes_once, IsSound}
use Rattle.sd_core.proofs.Room.{false_is_not_true, neither}
use Rattle.sd_core.proofs.ForgetLaws.{same_falls, falls_if_rises}
use Rattle.sd_core.proofs.KindLaws.{first_holds, second_holds, both_hold}

-- the entries of rows, the newest first
abbrev entries_of : List Row → List Entry
entries_of rs = map kept_entry rs

-- no entry of a row opens anything or lets anybody wait
no_request_by : (b : Bool) (row : Row) (y : Option Entry) → has_opened_request y ≡ false → has_opened_request (cond b (Some (kept_entry row)) y) ≡ false
no_request_by true row y h = refl
no_request_by false row y h = h

no_request : (rs : List Row) (n : ℕ) → is_open_request (entries_of rs) n ≡ false
no_request [] n = refl
no_request (row ∷ rs) n = no_request_by (row_number row == n) row (unclosed (entries_of rs) n) (no_request rs n)

no_attempt_by : (b : Bool) (row : Row) (y : Option Entry) → has_opened_attempt y ≡ false → has_opened_attempt (cond b (Some (kept_entry row)) y) ≡ false
no_attempt_by true row y h = refl
no_attempt_by false row y h = h

no_attempt : (rs : List Row) (n : ℕ) → is_open_attempt (entries_of rs) n ≡ false
no_attempt [] n = refl
no_attempt (row ∷ rs) n = no_attempt_by (row_number row == n) row (unclosed (entries_of rs) n) (no_attempt rs n)

none_either : (b : Bool) (w : Option ℕ) → w ≡ None → cond b None w ≡ None
none_either true w h = refl
none_either false w h = h

no_wait : (rs : List Row) (n : ℕ) → waits_for (entries_of rs) n ≡ None
no_wait [] n = refl
no_wait (row ∷ rs) n = none_either (row_number row == n) (waits_for (entries_of rs) n) (no_wait rs n)

none_waits : (w : Option ℕ) → w ≡ None → is_some w ≡ false
none_waits None h = refl
none_waits (Some r) h = cc

no_place : (rs : List Row) (n : ℕ) → reserves (entries_of rs) n ≡ false
no_place rs n =
    neither (is_open (entries_of rs) n) (is_some (waits_for (entries_of rs) n))
    (neither (is_open_request (entries_of rs) n) (is_open_attempt (entries_of rs) n) (no_request rs n) (no_attempt rs n))
    (none_waits (waits_for (entries_of rs) n) (no_wait rs n))

no_more : (b : Bool) (n : ℕ) → b ≡ false → n ≡ 0 → (if b then 1 else 0) + n ≡ 0
no_more true n f g = absurd (false_is_not_true (sym f))
no_more false n f g = omega (arith, g)

no_places_among : (all rs : List Row) → reserved_among (entries_of all) (entries_of rs) ≡ 0
no_places_among all [] = refl
no_places_among all (row ∷ rs) =
    no_more (reserves (entries_of all) (row_number row)) (reserved_among (entries_of all) (entries_of rs)) (no_place all (row_number row)) (no_places_among all rs)

no_places : (rs : List Row) → reserved_places (entries_of rs) ≡ 0
no_places rs = no_places_among rs rs

-- rows that keep the rules behind a head, the last first
abbrev are_good : Row → List Row → Bool
are_good head [] = true
are_good head (row ∷ before) = is_good_row head before row && are_good head before

good_row_by : (b : Bool) (n : ℕ) (o : Option ℕ) → (if b then o else Some n) ≡ None → b ≡ true
good_row_by true n o h = refl
good_row_by false n o h = cc

good_on : (b : Bool) (n : ℕ) (o : Option ℕ) → (if b then o else Some n) ≡ None → o ≡ None
good_on true n o h = h
good_on false n o h = cc

reverse_cons : (row : Row) (rs : List Row) → reverse (row ∷ rs) ≡ reverse rs ++ row ∷ []
reverse_cons row rs = reverse-append (row ∷ []) rs

all_good : (head : Row) (before : List Row) (place : ℕ) (others : List Row) → first_bad head before place others ≡ None → are_good head before ≡ true →
    are_good head (reverse others ++ before) ≡ true
all_good head before place [] f h = h
all_good head before place (row ∷ others) f h =
    let good = good_row_by (is_good_row head before row) place (first_bad head (row ∷ before) (place + 1) others) f in
    let rest = good_on (is_good_row head before row) place (first_bad head (row ∷ before) (place + 1) others) f in
    let on = all_good head (row ∷ before) (place + 1) others rest (both_hold (is_good_row head before row) (are_good head before) good h) in
    let order : reverse (row ∷ others) ++ before ≡ reverse others ++ (row ∷ before) =
    ap (λ rs. rs ++ before) (reverse_cons row others) ∙ append_assoc (reverse others) (row ∷ []) before in
    ap (are_good head) order ∙ on

-- what one good row says
row_sound : (head : Row) (before : List Row) (row : Row) → is_good_row head before row ≡ true → is_sound before row ≡ true
row_sound head before row h = first_holds (is_sound before row) (is_in_order head before row && has_room before row) h

row_in_order : (head : Row) (before : List Row) (row : Row) → is_good_row head before row ≡ true → is_in_order head before row ≡ true
row_in_order head before row h =
    first_holds (is_in_order head before row) (has_room before row) (second_holds (is_sound before row) (is_in_order head before row && has_room before row) h)

row_has_room : (head : Row) (before : List Row) (row : Row) → is_good_row head before row ≡ true → has_room before row ≡ true
row_has_room head before row h =
    second_holds (is_in_order head before row) (has_room before row) (second_holds (is_sound before row) (is_in_order head before row && has_room before row) h)

row_rises : (head : Row) (before : List Row) (row : Row) → is_in_order head before row ≡ true → last_number before < row_number row
row_rises head before row h =
    let less = first_holds (nat_lt (last_number before) (row_number row)) (nat_lt (row_number row) (row_number head) && (nat_le (last_moment before) (row_moment row) && nat_le (row_moment row) (row_moment head))) h in
    grind (arith, nat_tests, less)

row_below : (head : Row) (before : List Row) (row : Row) → is_in_order head before row ≡ true → row_number row < row_number head
row_below head before row h =
    let rest = second_holds (nat_lt (last_number before) (row_number row)) (nat_lt (row_number row) (row_number head) && (nat_le (last_moment before) (row_moment row) && nat_le (row_moment row) (row_moment head))) h in
    let less = first_holds (nat_lt (row_number row) (row_number head)) (nat_le (last_moment before) (row_moment row) && nat_le (row_moment row) (row_moment head)) rest in
    grind (arith, nat_tests, less)

here_good : (head row : Row) (before : List Row) → are_good head (row ∷ before) ≡ true → is_good_row head before row ≡ true
here_good head row before h = first_holds (is_good_row head before row) (are_good head before) h

rest_good : (head row : Row) (before : List Row) → are_good head (row ∷ before) ≡ true → are_good head before ≡ true
rest_good head row before h = second_holds (is_good_row head before row) (are_good head before) h

-- numbers
rows_fall : (head : Row) (rs : List Row) (n : ℕ) → are_good head rs ≡ true → last_number rs < n → falls_from n (entries_of rs) ≡ true
rows_fall head [] n h l = refl
rows_fall head (row ∷ rs) n h l =
    both_hold (nat_lt (row_number row) n) (falls_from (row_number row) (entries_of rs)) (grind (arith, nat_tests, l))
    (rows_fall head rs (row_number row) (rest_good head row rs h) (row_rises head rs row (row_in_order head rs row (here_good head row rs h))))

last_below : (head : Row) (rs : List Row) → are_good head rs ≡ true → 0 < row_number head → last_number rs < row_number head
last_below head [] h z = z
last_below head (row ∷ rs) h z = row_below head rs row (row_in_order head rs row (here_good head row rs h))

-- kinds
row_kind : (before past : List Row) (row : Row) → is_sound before row ≡ true → holds_kind (answer_in (entries_of past) (kept_entry row)) ≡ true
row_kind before past (rows.Answer n m key answered voided) h = h
row_kind before past _ h = refl

rows_kinds : (head : Row) (rs : List Row) → are_good head rs ≡ true → holds_kinds (entries_of rs) ≡ true
rows_kinds head [] h = refl
rows_kinds head (row ∷ rs) h =
    both_hold (holds_kind (answer_in (entries_of rs) (kept_entry row))) (holds_kinds (entries_of rs))
    (row_kind rs rs row (row_sound head rs row (here_good head row rs h))) (rows_kinds head rs (rest_good head row rs h))

-- texts
rows_texts : (rs : List Row) → text_bytes (entries_of rs) ≡ sum_by bytes_of_row rs
rows_texts [] = refl
rows_texts (row ∷ rs) = ap (λ n. bytes_of_row row + n) (rows_texts rs) ∙ sym (sum_by-cons bytes_of_row row rs)

room_for_row : (a b : ℕ) → nat_le (a + b) (512 * 1024 * 1024) ≡ true → b + a ≤ 512 * 1024 * 1024
room_for_row a b h = grind (arith, nat_tests, h)

texts_within : (head : Row) (rs : List Row) → are_good head rs ≡ true → text_bytes (entries_of rs) ≤ 512 * 1024 * 1024
texts_within head [] h = omega arith
texts_within head (row ∷ rs) h =
    let room = room_for_row (sum_by bytes_of_row rs) (bytes_of_row row) (row_has_room head rs row (here_good head row rs h)) in
    let same = rows_texts rs in
    omega (arith, room, same)

-- holders
rows_hold : (rs : List Row) → row_holders (entries_of rs) ≡ length rs
rows_hold [] = refl
rows_hold (row ∷ rs) = omega (arith, rows_hold rs)

-- closings
rows_close_none : (rs : List Row) → closes_once (entries_of rs) ≡ true
rows_close_none [] = refl
rows_close_none (row ∷ rs) = rows_close_none rs

-- answers to requests, and outages
rows_asked : (rs : List Row) → are_asked_since (entries_of rs) ≡ true
rows_asked [] = refl
rows_asked (row ∷ rs) = rows_asked rs

rows_outages : (rs : List Row) → are_own_outages (entries_of rs) ≡ true
rows_outages [] = refl
rows_outages (row ∷ rs) = rows_outages rs

-- names and moments
rows_name_nothing : (rs : List Row) → all_name_earlier (entries_of rs) ≡ true
rows_name_nothing [] = refl
rows_name_nothing (row ∷ rs) = rows_name_nothing rs

same_last : (rs : List Row) → sound.last_moment (entries_of rs) ≡ last_moment rs
same_last [] = refl
same_last (row ∷ rs) = refl

row_moment_rises : (head : Row) (before : List Row) (row : Row) → is_in_order head before row ≡ true → nat_le (last_moment before) (row_moment row) ≡ true
row_moment_rises head before row h =
    let rest = second_holds (nat_lt (last_number before) (row_number row)) (nat_lt (row_number row) (row_number head) && (nat_le (last_moment before) (row_moment row) && nat_le (row_moment row) (row_moment head))) h in
    let moments = second_holds (nat_lt (row_number row) (row_number head)) (nat_le (last_moment before) (row_moment row) && nat_le (row_moment row) (row_moment head)) rest in
    first_holds (nat_le (last_moment before) (row_moment row)) (nat_le (row_moment row) (row_moment head)) moments

rows_moments : (head : Row) (rs : List Row) → are_good head rs ≡ true → moments_rise (entries_of rs) ≡ true
rows_moments head [] h = refl
rows_moments head (row ∷ rs) h =
    both_hold (nat_le (sound.last_moment (entries_of rs)) (row_moment row)) (moments_rise (entries_of rs))
    (ap (λ m. nat_le m (row_moment row)) (same_last rs) ∙ row_moment_rises head rs row (row_in_order head rs row (here_good head row rs h)))
    (rows_moments head rs (rest_good head row rs h))

-- wrong guesses: each user has one row for them
not_among : (a b : Bool) → (a || b) ≡ false → b ≡ false
not_among true b h = absurd (false_is_not_true (sym h))
not_among false b h = h

not_here : (a b : Bool) → (a || b) ≡ false → a ≡ false
not_here true b h = h
not_here false b h = refl

none_of : (b : Bool) (count : ℕ) → b ≡ false → (if b then count else 0) ≡ 0
none_of true count h = absurd (false_is_not_true (sym h))
none_of false count h = refl

uncounted : (user : List ℕ) (row : Row) (rest : ℕ) (past : List Entry) → counts_wrongs_of user row ≡ false → wrong_count past user ≡ 0 →
    wrong_count (kept_entry row ∷ past) user ≡ 0
uncounted user (rows.Wrong n m name count) rest past f g =
    let none = none_of (same_name name user) count f in
    omega (arith, none, g)
uncounted user (rows.Head version next moment) rest past f g = omega (arith, g)
uncounted user (rows.Answer n m key answered voided) rest past f g = omega (arith, g)
uncounted user (rows.Hash n m name hash) rest past f g = omega (arith, g)
uncounted user (rows.Fall n m server) rest past f g = omega (arith, g)
uncounted user (rows.Online n m name) rest past f g = omega (arith, g)

no_wrongs : (rs : List Row) (user : List ℕ) → list_any (counts_wrongs_of user) rs ≡ false → wrong_count (entries_of rs) user ≡ 0
no_wrongs [] user h = refl
no_wrongs (row ∷ rs) user h =
    uncounted user row 0 (entries_of rs) (not_here (counts_wrongs_of user row) (list_any (counts_wrongs_of user) rs) h)
    (no_wrongs rs user (not_among (counts_wrongs_of user row) (list_any (counts_wrongs_of user) rs) h))

not_negated : (b : Bool) → not b ≡ true → b ≡ false
not_negated true h = absurd (false_is_not_true h)
not_negated false h = refl

few_by_name : (b : Bool) (count rest n : ℕ) → count ≤ n → rest ≤ n → (b ≡ true → rest ≡ 0) → (if b then count else 0) + rest ≤ n
few_by_name true count rest n f g h = omega (arith, f, h refl)
few_by_name false count rest n f g h = omega (arith, g)

few_wrong : (rs : List Row) (user name : List ℕ) (count n : ℕ) → (not (count == 0) && (nat_le count n && not (list_any (counts_wrongs_of name) rs))) ≡ true →
    wrong_count (entries_of rs) user ≤ n → (if same_name name user then count else 0) + wrong_count (entries_of rs) user ≤ n
few_wrong rs user name count n h rest =
    let tail = second_holds (not (count == 0)) (nat_le count n && not (list_any (counts_wrongs_of name) rs)) h in
    let within = first_holds (nat_le count n) (not (list_any (counts_wrongs_of name) rs)) tail in
    let alone = not_negated (list_any (counts_wrongs_of name) rs) (second_holds (nat_le count n) (not (list_any (counts_wrongs_of name) rs)) tail) in
    few_by_name (same_name name user) count (wrong_count (entries_of rs) user) n (grind (arith, nat_tests, within)) rest
    (λ same. no_wrongs rs user (subst (λ u. list_any (counts_wrongs_of u) rs ≡ false) (same_text name user (sym same)) alone))

few_at : (rs : List Row) (user : List ℕ) (row : Row) → is_sound rs row ≡ true → wrong_count (entries_of rs) user ≤ row_number row →
    wrong_count (entries_of (row ∷ rs)) user ≤ row_number row
few_at rs user (rows.Wrong n m name count) h rest = few_wrong rs user name count n h rest
few_at rs user (rows.Head version next moment) h rest = omega (arith, rest)
few_at rs user (rows.Answer n m key answered voided) h rest = omega (arith, rest)
few_at rs user (rows.Hash n m name hash) h rest = omega (arith, rest)
few_at rs user (rows.Fall n m server) h rest = omega (arith, rest)
few_at rs user (rows.Online n m name) h rest = omega (arith, rest)

few_wrongs : (head : Row) (rs : List Row) (user : List ℕ) → are_good head rs ≡ true → wrong_count (entries_of rs) user ≤ last_number rs
few_wrongs head [] user h = omega arith
few_wrongs head (row ∷ rs) user h =
    let before = few_wrongs head rs user (rest_good head row rs h) in
    let rises = row_rises head rs row (row_in_order head rs row (here_good head row rs h)) in
    few_at rs user row (row_sound head rs row (here_good head row rs h)) (omega (arith, before, rises))

map_reverse : (rs : List Row) → reverse (entries_of rs) ≡ entries_of (reverse rs)
map_reverse [] = refl
map_reverse (row ∷ rs) =
    reverse-append (kept_entry row ∷ []) (entries_of rs) ∙ (ap (λ es. es ++ kept_entry row ∷ []) (map_reverse rs)
    ∙ (sym (map-append kept_entry (reverse rs) (row ∷ [])) ∙ ap (λ xs. entries_of xs) (sym (reverse_cons row rs))))

-- the daemon of rows, the last first
abbrev opened_by : Settings → Row → List Row → Daemon
opened_by s head rs = record { settings = s; next = row_number head; floor = row_moment head; past = entries_of rs }

sound_by : (s : Settings) (head : Row) (rs : List Row) → s.primaries + s.backups ≤ 64 → length rs < 2 ^ 32 - 1 →
    row_number head ≤ 2 ^ 64 - 1 → are_good head rs ≡ true → 0 < row_number head → IsSound (opened_by s head rs)
sound_by s head rs servers few fits good z = record {
  servers = servers;
  numbers = rows_fall head rs (row_number head) good (last_below head rs good z);
  room = omega (arith, no_places rs, fits);
  texts = texts_within head rs good;
  rows = omega (arith, rows_hold rs, few);
  wrongs = record { fewer = λ user. omega (arith, few_wrongs head rs user good, last_below head rs good z) };
  closings = rows_close_none rs;
}

kept_by : (s : Settings) (head : Row) (rs : List Row) → are_good head rs ≡ true → 0 < row_number head → IsKept (opened_by s head rs)
kept_by s head rs good z = record {
  numbers = rows_fall head rs (row_number head) good (last_below head rs good z);
  kinds = rows_kinds head rs good;
  asked = rows_asked rs;
  outages = rows_outages rs;
  names = rows_name_nothing rs;
  moments = rows_moments head rs good;
  open_once = record { one = λ r q k fr fq kr kq. absurd (false_is_not_true (sym (no_request rs r) ∙ fr)) };
  tickets = record {
    has_key = λ t r w. absurd (nobody t r w);
    below = λ t r w. absurd (nobody t r w);
    no_attempt = λ t r w. absurd (nobody t r w);
    same_kind = λ t r k q w o kt kr. absurd (nobody t r w);
    named_below = λ t r n w c is. absurd (nobody t r w);
    of_kind = λ t r k w c own. absurd (nobody t r w);
  };
  orderly = rows_orderly (row_number head) (sound.last_moment (entries_of rs)) rs
      (sym (same_falls (row_number head) (entries_of rs)) ∙ rows_fall head rs (row_number head) good (last_below head rs good z))
      (falls_if_rises (sound.last_moment (entries_of rs)) (entries_of rs) (rows_moments head rs good) (omega arith));
}
  where
    nobody : (t r : ℕ) → waits_for (entries_of rs) t ≡ Some r → ⊥
    nobody t r w =
        let none = no_wait rs t in
        cc

-- of an opened daemon the past is that of the rows, the last first
opened_as : (s : Settings) (head : Row) (others : List Row) → opened s (head ∷ others) ≡ opened_by s head (reverse others)
opened_as s head others =
    ap (λ (es : List Entry). let d : Daemon = record { settings = s; next = row_number head; floor = row_moment head; past = es } in d) (map_reverse others)

good_others : (head : Row) (others : List Row) → first_bad head [] 1 others ≡ None → are_good head (reverse others) ≡ true
good_others head others h = ap (are_good head) (sym (append-nil (reverse others))) ∙ all_good head [] 1 others h refl

head_above : (head : Row) → is_good_head head ≡ true → 0 < row_number head
head_above head h =
    let above = second_holds (is_head head) (not (row_number head == 0)) h in
    grind (arith, nat_tests, above)

pub sound_at_first : (s : Settings) (rs : List Row) → s.primaries + s.backups ≤ 64 → length rs < 2 ^ 32 →
    (opened s rs).next ≤ 2 ^ 64 - 1 → bad_row rs ≡ None → IsSound (opened s rs)
sound_at_first s [] servers few fits h = record {
  servers = servers;
  numbers = refl;
  room = omega arith;
  texts = omega arith;
  rows = omega arith;
  wrongs = record { fewer = λ user. omega arith };
  closings = refl;
}
sound_at_first s (head ∷ others) servers few fits h =
    let good_head = good_row_by (is_good_head head) 0 (first_bad head [] 1 others) h in
    let good = good_others head others (good_on (is_good_head head) 0 (first_bad head [] 1 others) h) in
    let fewer : length (reverse others) < 2 ^ 32 - 1 = omega (arith, length-reverse others, few) in
    subst IsSound (sym (opened_as s head others))
    (sound_by s head (reverse others) servers fewer fits good (head_above head good_head))

-- the wrong guesses that count after each row
counted_by : (head : Row) (rs : List Row) → row_number head ≤ 2 ^ 64 - 1 → are_good head rs ≡ true → 0 < row_number head → HadCounts (entries_of rs)
counted_by head [] fits good z = record { fits = λ user. omega arith }
counted_by head (row ∷ rs) fits good z = (
  record { fits = λ user. omega (arith, few_wrongs head (row ∷ rs) user good, last_below head (row ∷ rs) good z, fits) },
  counted_by head rs fits (rest_good head row rs good) z,
)

pub counted_at_first : (s : Settings) (rs : List Row) → (opened s rs).next ≤ 2 ^ 64 - 1 → bad_row rs ≡ None → HadCounts (opened s rs).past
counted_at_first s [] fits h = record { fits = λ user. omega arith }
counted_at_first s (head ∷ others) fits h =
    let good_head = good_row_by (is_good_head head) 0 (first_bad head [] 1 others) h in
    let good = good_others head others (good_on (is_good_head head) 0 (first_bad head [] 1 others) h) in
    subst (λ (d : Daemon). HadCounts d.past) (sym (opened_as s head others))
    (counted_by head (reverse others) fits good (head_above head good_head))

pub kept_at_first : (s : Settings) (rs : List Row) → bad_row rs ≡ None → IsKept (opened s rs)
kept_at_first s [] h = record {
  numbers = refl;
  kinds = refl;
  asked = refl;
  outages = refl;
  names = refl;
  moments = refl;
  open_once = record { one = λ r q k fr fq kr kq. cc };
  tickets = record {
    has_key = λ t r w. let clash : ⊥ = cc in absurd clash;
    below = λ t r w. let clash : ⊥ = cc in absurd clash;
    no_attempt = λ t r w. refl;
    same_kind = λ t r k q w o kt kr. let clash : ⊥ = cc in absurd clash;
    named_below = λ t r n w c is. let clash : ⊥ = cc in absurd clash;
    of_kind = λ t r k w c own. refl;
  };
  orderly = orderly_first 1;
}
kept_at_first s (head ∷ others) h =
    let good_head = good_row_by (is_good_head head) 0 (first_bad head [] 1 others) h in
    let good = good_others head others (good_on (is_good_head head) 0 (first_bad head [] 1 others) h) in
    subst IsKept (sym (opened_as s head others)) (kept_by s head (reverse others) good (head_above head good_head))

-- the place of a bad row is within the rows
bad_by : (b : Bool) (i place : ℕ) (o : Option ℕ) (limit : ℕ) → (if b then o else Some place) ≡ Some i → place < limit → (o ≡ Some i → i < limit) → i < limit
bad_by true i place o limit h l f = f h
bad_by false i place o limit h l f =
    let same : place ≡ i = cc in
    omega (arith, same, l)

bad_within : (head : Row) (before : List Row) (place i : ℕ) (others : List Row) → first_bad head before place others ≡ Some i → i < place + length others
bad_within head before place i [] h = absurd (none_some i h)
  where
    none_some : (i : ℕ) → None ≡ Some i → ⊥
    none_some i e = cc
bad_within head before place i (row ∷ others) h =
    bad_by (is_good_row head before row) i place (first_bad head (row ∷ before) (place + 1) others) (place + length (row ∷ others)) h (omega arith)
    (λ f. omega (arith, bad_within head (row ∷ before) (place + 1) i others f))

pub bad_row_within : (rs : List Row) (i : ℕ) → bad_row rs ≡ Some i → i < length rs
bad_row_within [] i h = absurd (none_some i h)
  where
    none_some : (i : ℕ) → None ≡ Some i → ⊥
    none_some i e = cc
bad_row_within (head ∷ others) i h =
    bad_by (is_good_head head) i 0 (first_bad head [] 1 others) (length (head ∷ others)) h (omega arith)
    (λ f. omega (arith, bad_within head [] 1 i others f))
