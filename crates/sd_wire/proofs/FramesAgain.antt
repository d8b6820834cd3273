-- The frame of a request is read as that request, whatever follows it.
use Rattle.std.proofs.Common.{◌≡◌, ℕ, ◌+◌, ◌^◌, ◌<◌, ◌≤◌, true, false, ltb, eqb, List, [], ◌++◌, length, Some, refl, sym, ap, ◌∙◌, arith, append_assoc}
use Rattle.std.specs.Int.{w16, w32, to_be_bytes, from_be_bytes}
use Rattle.std.proofs.lemmas.Bool.{le-ltb, leb-true, ne_eqb, and_parts}
use Rattle.std.proofs.lemmas.List.{append-nil, length-append, take_at, drop_at}
use Rattle.std.proofs.lemmas.Nat.{from_be_bytes-to_be_bytes_2, from_be_bytes-to_be_bytes_4}
use Rattle.sd_rules.specs.declared.keys.What.{What}
use Rattle.sd_rules.specs.declared.keys.What.TheVariants as whats
use Rattle.sd_wire.specs.declared.requests.Request.{Request}
use Rattle.sd_wire.specs.declared.requests.Request.TheVariants as requests
use Rattle.sd_wire.specs.declared.frames.Framed.TheVariants as framings
use Rattle.sd_wire.specs.Frames.{is_name, is_password, is_sound, is_sound_what, IsCarried, text_field, what_field, body_of, frame_of}
use Rattle.sd_wire.specs.Framing.{text_in, text_alone, name_alone, pair_alone, what_in, request_in, framed}

-- ---- lengths

pub name_small : (name : List ℕ) → is_name name ≡ true → length name ≤ 255
name_small name h = leb-true _ _ (and_parts _ _ h).1

password_small : (password : List ℕ) → is_password password ≡ true → length password ≤ 1024
password_small password h = leb-true _ _ h

text_length : (text : List ℕ) → length (text_field text) ≡ 2 + length text
text_length text = length-append (to_be_bytes w16 (length text)) text

-- a body has at least one byte and fits its length
in_range : ℕ → Type 0
in_range n = n ≤ 65535

what_small : (what : What) → is_sound_what what ≡ true → length (what_field what) ≤ 258
what_small whats.All h = omega arith
what_small whats.Users h = omega arith
what_small whats.Groups h = omega arith
what_small (whats.User name) h = omega (arith, text_length name, name_small name h)
what_small (whats.Group name) h = omega (arith, text_length name, name_small name h)

pair_small : (first second : List ℕ) → length first ≤ 255 → length second ≤ 1024 → length (text_field first ++ text_field second) ≤ 1283
pair_small first second f s = omega (arith, length-append (text_field first) (text_field second), text_length first, text_length second)

-- what is behind the command
fields_small : (request : Request) → is_sound request ≡ true → length (body_of request) ≤ 1284
fields_small (requests.User name) h = omega (arith, text_length name, name_small name h)
fields_small (requests.Uid uid) h = omega arith
fields_small (requests.Group name) h = omega (arith, text_length name, name_small name h)
fields_small (requests.Gid gid) h = omega arith
fields_small (requests.GroupsOf name) h = omega (arith, text_length name, name_small name h)
fields_small (requests.Login user password) h =
    let parts : (is_name user ≡ true) × (is_password password ≡ true) = and_parts _ _ h in
    omega (arith, pair_small user password (name_small user parts.0) (password_small password parts.1))
fields_small (requests.Access user service) h =
    let parts : (is_name user ≡ true) × (is_name service ≡ true) = and_parts _ _ h in
    let small : length service ≤ 1024 = omega (arith, name_small service parts.1) in
    omega (arith, pair_small user service (name_small user parts.0) small)
fields_small (requests.Void what) h = omega (arith, what_small what h)
fields_small requests.Offline h = omega arith
fields_small requests.Online h = omega arith
fields_small requests.Stop h = omega arith

some_body : (request : Request) → 1 ≤ length (body_of request)
some_body (requests.User name) = omega arith
some_body (requests.Uid uid) = omega arith
some_body (requests.Group name) = omega arith
some_body (requests.Gid gid) = omega arith
some_body (requests.GroupsOf name) = omega arith
some_body (requests.Login user password) = omega arith
some_body (requests.Access user service) = omega arith
some_body (requests.Void what) = omega arith
some_body requests.Offline = omega arith
some_body requests.Online = omega arith
some_body requests.Stop = omega arith

-- ---- fields

split_again : (octets text more : List ℕ) → length octets ≡ 2 → from_be_bytes w16 octets ≡ length text → text_in ((octets ++ text) ++ more) ≡ Some (text, more)
split_again octets text more two number =
    let there : ltb (length (octets ++ (text ++ more))) 2 ≡ false = le-ltb _ _ (omega (arith, length-append octets (text ++ more))) in
    let fits : ltb (length (text ++ more)) (length text) ≡ false = le-ltb _ _ (omega (arith, length-append text more)) in
    rw (append_assoc octets text more, there, take_at octets (text ++ more) 2 two, drop_at octets (text ++ more) 2 two, number, fits, take_at text more (length text) refl, drop_at text more (length text) refl) refl

-- a text in front is read again
text_again : (text more : List ℕ) → length text < 2 ^ 16 → text_in (text_field text ++ more) ≡ Some (text, more)
text_again text more small = split_again (to_be_bytes w16 (length text)) text more refl (from_be_bytes-to_be_bytes_2 (length text) small)

alone_again : (text : List ℕ) → length text < 2 ^ 16 → text_alone (text_field text) ≡ Some text
alone_again text small =
    let found : text_in (text_field text) ≡ Some (text, []) = ap text_in (sym (append-nil (text_field text))) ∙ text_again text [] small in
    rw found refl

name_again : (name : List ℕ) → is_name name ≡ true → name_alone (text_field name) ≡ Some name
name_again name h =
    let small : length name < 2 ^ 16 = omega (arith, name_small name h) in
    rw (alone_again name small, h) refl

pair_again : (first second : List ℕ) → length first < 2 ^ 16 → length second < 2 ^ 16 → pair_alone (text_field first ++ text_field second) ≡ Some (first, second)
pair_again first second f s = rw (text_again first (text_field second) f, alone_again second s) refl

what_again : (what : What) → is_sound_what what ≡ true → what_in (what_field what) ≡ Some what
what_again whats.All h = refl
what_again whats.Users h = refl
what_again whats.Groups h = refl
what_again (whats.User name) h = rw (name_again name h) refl
what_again (whats.Group name) h = rw (name_again name h) refl

-- ---- bodies and frames

body_again : (request : Request) → IsCarried request → request_in (body_of request) ≡ Some request
body_again (requests.User name) h = rw (name_again name h.sound) refl
body_again (requests.Uid uid) h = rw (from_be_bytes-to_be_bytes_4 uid h.small) refl
body_again (requests.Group name) h = rw (name_again name h.sound) refl
body_again (requests.Gid gid) h = rw (from_be_bytes-to_be_bytes_4 gid h.small) refl
body_again (requests.GroupsOf name) h = rw (name_again name h.sound) refl
body_again (requests.Login user password) h =
    let parts : (is_name user ≡ true) × (is_password password ≡ true) = and_parts _ _ h.sound in
    let found : pair_alone (text_field user ++ text_field password) ≡ Some (user, password) = pair_again user password (omega (arith, name_small user parts.0)) (omega (arith, password_small password parts.1)) in
    rw (found, h.sound) refl
body_again (requests.Access user service) h =
    let parts : (is_name user ≡ true) × (is_name service ≡ true) = and_parts _ _ h.sound in
    let found : pair_alone (text_field user ++ text_field service) ≡ Some (user, service) = pair_again user service (omega (arith, name_small user parts.0)) (omega (arith, name_small service parts.1)) in
    rw (found, h.sound) refl
body_again (requests.Void what) h = rw (what_again what h.sound) refl
body_again requests.Offline h = refl
body_again requests.Online h = refl
body_again requests.Stop h = refl

framed_again : (octets body more : List ℕ) (request : Request) → length octets ≡ 4 → from_be_bytes w32 octets ≡ length body → 1 ≤ length body → length body ≤ 65536 → request_in body ≡ Some request → framed ((octets ++ body) ++ more) ≡ framings.Frame request (length body + 4)
framed_again octets body more request four number some few found =
    let there : ltb (length (octets ++ (body ++ more))) 4 ≡ false = le-ltb _ _ (omega (arith, length-append octets (body ++ more))) in
    let not_none : eqb (length body) 0 ≡ false = ne_eqb _ _ (λ e. omega arith) in
    let not_long : ltb 65536 (length body) ≡ false = le-ltb _ _ few in
    let whole : ltb (length (body ++ more)) (length body) ≡ false = le-ltb _ _ (omega (arith, length-append body more)) in
    rw (append_assoc octets body more, there, take_at octets (body ++ more) 4 four, drop_at octets (body ++ more) 4 four, number, not_none, not_long, whole, take_at body more (length body) refl, found) refl

pub frame_length : (request : Request) → length (frame_of request) ≡ length (body_of request) + 4
frame_length request = omega (arith, length-append (to_be_bytes w32 (length (body_of request))) (body_of request))

-- a frame is read again, whatever follows it
pub frame_again : (request : Request) (more : List ℕ) → IsCarried request → framed (frame_of request ++ more) ≡ framings.Frame request (length (frame_of request))
frame_again request more h =
    let small : length (body_of request) ≤ 1284 = fields_small request h.sound in
    let number : from_be_bytes w32 (to_be_bytes w32 (length (body_of request))) ≡ length (body_of request) = from_be_bytes-to_be_bytes_4 _ (omega arith) in
    framed_again (to_be_bytes w32 (length (body_of request))) (body_of request) more request refl number (some_body request) (omega arith) (body_again request h)
    ∙ ap (λ (n : ℕ). framings.Frame request n) (sym (frame_length request))
