-- What a link to a directory in memory tells keeps the laws of directory links.
use Rattle.std.proofs.Common.{◌≡◌, ℕ, ◌+◌, ◌^◌, ◌<◌, ◌≤◌, take, drop, Bool, true, false, ◌&&◌, List, [], ◌∷◌, ◌++◌, length, Option, Some, None, Result, Ok, Err, refl, sym, ap, subst, ◌∙◌}
use Rattle.std.proofs.lemmas.Bool.{and_from, and_parts, not-true, cond-true, false_from_ne_true, cond-false}
use Rattle.std.proofs.lemmas.List.{append-nil, drop-append-le, take-append-le, take-append-drop, drop-drop}
use Rattle.std.proofs.Math.Seq.{take-add}
use Rattle.std.specs.Io.KnownBytes.{append_known, prepend_known}
use Rattle.std.specs.Prelude.{IsSome, if◌then◌else◌}
use Rattle.std.specs.Cmp.Lexicographic.{bytes_decides}
use Rattle.sd_ber.specs.Reading.{start_of, element_at}
use Rattle.sd_ldap.specs.declared.entry.DirEntry.{DirEntry}
use Rattle.sd_ldap.specs.Values.{MessageValue}
use Rattle.sd_ldap.specs.Spelling.{message_bytes}
use Rattle.sd_ldap.specs.Sound.{IsSound}
use Rattle.sd_match.specs.Answering.{same_bytes}
use Rattle.sd_dial.specs.Asked.{with_message, IsNoMessage}
use Rattle.sd_dial.specs.Entries.{Behind, HaveOwnDns, answer_behind}
use Rattle.sd_dial.specs.Rooms.{are_short}
use Rattle.sd_stub.specs.declared.Mode.{Mode}
use Rattle.sd_stub.specs.declared.Mode.TheVariants as modes
use Rattle.sd_stub_link.specs.Sounding.{is_sound}
use Rattle.sd_stub_link.specs.Asking.{read_in, checked, message_of, with_found, messages_of}
use Rattle.sd_stub_link.specs.Distinct.{is_own_dn, have_own_dns}
use Rattle.sd_stub_link.specs.Modes.{answer_by, framing_of, has_ended}
use Rattle.sd_stub_link.specs.Standing.{Standing, coming_of, received_of, rest_of, answer_of, behind_in, behind_of, with_reply, with_received, Went}
use Rattle.sd_stub_link.specs.Sounds.{sound_told, sound_tested}
use Rattle.sd_stub_link.specs.Whole.{whole_again}

counts : (m : MessageValue) → IsSound m → length (message_bytes m) < 2 ^ 32 → message_of (message_bytes m) ≡ Some m
unfolding message_of
counts m sound small =
    let test = and_from (is_sound m) (same_bytes (message_bytes m) (message_bytes m)) (sound_tested m sound) ((bytes_decides (message_bytes m) (message_bytes m)).1 refl) in
    ap (checked (message_bytes m)) (whole_again m sound small) ∙ cond-true (is_sound m && same_bytes (message_bytes m) (message_bytes m)) (Some m) None test

none_checked : (piece : List ℕ) (read : Result MessageValue ℕ) → IsNoMessage piece → checked piece read ≡ None
none_checked piece (Ok m) none =
    let test : (is_sound m && same_bytes (message_bytes m) piece) ≡ false =
    false_from_ne_true _ (λ e. let p = and_parts (is_sound m) (same_bytes (message_bytes m) piece) e in none m (sound_told m p.0) (sym ((bytes_decides (message_bytes m) piece).0 p.1)))
    in
    cond-false (is_sound m && same_bytes (message_bytes m) piece) (Some m) None test
none_checked piece (Err at) none = refl

counts_not : (piece : List ℕ) → IsNoMessage piece → message_of piece ≡ None
unfolding message_of
counts_not piece none = none_checked piece (read_in (element_at (start_of piece))) none

-- one more piece
found_more : (found : Option MessageValue) (a b c : List MessageValue) → a ≡ b ++ c → with_found found a ≡ with_found found b ++ c
found_more (Some m) a b c e = ap (λ (list : List MessageValue). m ∷ list) e
found_more None a b c e = e

messages_more : (pieces : List (List ℕ)) (piece : List ℕ) → messages_of (pieces ++ piece ∷ []) ≡ messages_of pieces ++ with_found (message_of piece) []
unfolding messages_of
messages_more [] piece = refl
messages_more (first ∷ rest) piece = found_more (message_of first) (messages_of (rest ++ piece ∷ [])) (messages_of rest) (with_found (message_of piece) []) (messages_more rest piece)

abbrev told : List MessageValue → Option (List MessageValue)
told messages = Some messages

pub asks : (before after : Standing) (m : MessageValue) → IsSound m → Went before (Some (message_bytes m)) after → Some (messages_of after.pieces) ≡ with_message (Some (messages_of before.pieces)) m
asks before after m sound went =
    ap (λ (pieces : List (List ℕ)). told (messages_of pieces)) went.pieces.0
    ∙ ap told (messages_more before.pieces (message_bytes m))
    ∙ ap (λ (found : Option MessageValue). told (messages_of before.pieces ++ with_found found [])) (counts m sound went.pieces.1)

pub passes : (before after : Standing) (piece : List ℕ) → IsNoMessage piece → Went before (Some piece) after → Some (messages_of after.pieces) ≡ told (messages_of before.pieces)
passes before after piece none went =
    ap (λ (pieces : List (List ℕ)). told (messages_of pieces)) went.pieces.0
    ∙ ap told (messages_more before.pieces piece)
    ∙ ap (λ (found : Option MessageValue). told (messages_of before.pieces ++ with_found found [])) (counts_not piece none)
    ∙ ap told (append-nil (messages_of before.pieces))

pub waits : (before after : Standing) → Went before None after → Some (messages_of after.pieces) ≡ told (messages_of before.pieces)
waits before after went = ap (λ (pieces : List (List ℕ)). told (messages_of pieces)) went.pieces

pub keeps : (before after : Standing) (piece : Option (List ℕ)) → Went before piece after → behind_of after ≡ behind_of before
keeps before after piece went = rw (went.entries, went.mode) refl

-- entries that pass the test have DNs of their own
own_dns : (entries : List DirEntry) → have_own_dns entries ≡ true → HaveOwnDns entries
unfolding have_own_dns
own_dns [] e = tt
own_dns (first ∷ rest) e = let p = and_parts (is_own_dn first rest) (have_own_dns rest) e in (not-true _ p.0, own_dns rest p.1)

some_is : (a b : Behind) → Some a ≡ Some b → a ≡ b
some_is a b e = cc

-- what is told where a test holds
told_by : (own : Bool) (entries : List DirEntry) (mode : Mode) (known : Behind) → (if own then behind_in (framing_of mode) entries else None) ≡ Some known
    → (own ≡ true) × (behind_in (framing_of mode) entries ≡ Some known)
told_by true entries mode known e = (refl, e)
told_by false entries mode known e = absurd cc

-- what is told answers as the mode does
told_answers : (mode : Mode) (entries : List DirEntry) (put piece : List ℕ) (known : Behind) → behind_in (framing_of mode) entries ≡ Some known
    → (known.entries ≡ entries) × ((if has_ended mode put then [] else answer_by mode entries piece) ≡ answer_behind known piece)
told_answers modes.Up entries put piece known e = let is = some_is _ known e in (ap (λ (b : Behind). b.entries) (sym is), ap (λ (b : Behind). answer_behind b piece) is)
told_answers modes.Long entries put piece known e = let is = some_is _ known e in (ap (λ (b : Behind). b.entries) (sym is), ap (λ (b : Behind). answer_behind b piece) is)
told_answers modes.Cut entries put piece known e = absurd cc
told_answers modes.Indef entries put piece known e = absurd cc
told_answers (modes.Code code) entries put piece known e = absurd cc
told_answers modes.Down entries put piece known e = absurd cc

-- where a directory is told, its entries pass both tests, and it answers as the mode does
told_so : (link : Standing) (known : Behind) (put piece : List ℕ) → behind_of link ≡ Some known
    → (have_own_dns link.entries ≡ true) × ((are_short link.entries ≡ true) × ((known.entries ≡ link.entries) × ((if has_ended link.mode put then [] else answer_by link.mode link.entries piece) ≡ answer_behind known piece)))
told_so link known put piece e =
    let h = told_by (have_own_dns link.entries && are_short link.entries) link.entries link.mode known e in
    let p = and_parts (have_own_dns link.entries) (are_short link.entries) h.0 in
    (p.0, (p.1, told_answers link.mode link.entries put piece known h.1))

pub tells_coming : (link : Standing) (known : Behind) → behind_of link ≡ Some known → IsSome (coming_of link) × HaveOwnDns known.entries × (are_short known.entries ≡ true)
tells_coming link known e =
    let h = told_so link known [] [] e in
    (refl, subst HaveOwnDns (sym h.1.1.0) (own_dns link.entries h.0), ap are_short h.1.1.0 ∙ h.1.0)

pub answers : (link : Standing) (known : Behind) (piece : List ℕ) → behind_of link ≡ Some known → answer_of link piece ≡ answer_behind known piece
answers link known piece e = (told_so link known link.put piece e).1.1.1

-- ---- the bytes to come and those received

abbrev bytes_told : List ℕ → Option (List ℕ)
bytes_told bytes = Some bytes

pub coming_after : (old new : Standing) (piece reply : List ℕ) → new ≡ with_reply old piece reply → old.at ≤ length old.put → coming_of new ≡ append_known (coming_of old) reply
coming_after old new piece reply e h = ap (λ (s : Standing). coming_of s) e ∙ ap bytes_told (drop-append-le old.at old.put reply h)

pub received_after : (old new : Standing) (piece reply : List ℕ) → new ≡ with_reply old piece reply → old.at ≤ length old.put → bytes_told (received_of new) ≡ bytes_told (received_of old)
received_after old new piece reply e h = ap (λ (s : Standing). bytes_told (received_of s)) e ∙ ap bytes_told (take-append-le old.at old.put reply h)

coming_given : (at n : ℕ) (put front : List ℕ) → front ≡ take n (drop at put) → bytes_told (drop at put) ≡ prepend_known front (bytes_told (drop (at + n) put))
coming_given at n put front e = rw (e, ← drop-drop n at put) (ap bytes_told (sym (take-append-drop n (drop at put))))

pub front_given : (old new : Standing) (n : ℕ) (rest front : List ℕ) → rest ≡ rest_of old → front ≡ take n rest → new ≡ with_received old n → coming_of old ≡ prepend_known front (coming_of new)
front_given old new n rest front r f e =
    coming_given old.at n old.put front (f ∙ ap (λ (bytes : List ℕ). take n bytes) r) ∙ ap (λ (s : Standing). prepend_known front (coming_of s)) (sym e)

pub received_given : (old new : Standing) (n : ℕ) (rest front : List ℕ) → rest ≡ rest_of old → front ≡ take n rest → new ≡ with_received old n → bytes_told (received_of new) ≡ bytes_told (received_of old ++ front)
received_given old new n rest front r f e =
    ap (λ (s : Standing). bytes_told (received_of s)) e
    ∙ ap bytes_told (take-add old.at n old.put ∙ ap (λ (bytes : List ℕ). take old.at old.put ++ bytes) (sym (f ∙ ap (λ (bytes : List ℕ). take n bytes) r)))
