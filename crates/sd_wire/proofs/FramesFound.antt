-- What is read of bytes is what they begin with, and where nothing is read they begin with no frame.
use Rattle.std.proofs.Common.{◌≡◌, ℕ, ◌+◌, ◌^◌, ◌<◌, ◌≤◌, Bool, true, false, ◌&&◌, cond, ltb, eqb, List, [], ◌∷◌, ◌++◌, length, take, drop, get_or, Option, Some, None, refl, sym, ap, subst, ◌∙◌, arith, inl, inr, append_assoc, ◌⊎◌}
use Rattle.std.specs.Option.{option_map}
use Rattle.std.specs.Int.{w16, w32, to_be_bytes, from_be_bytes}
use Rattle.std.proofs.lemmas.Bool.{le-ltb, ltb-false, ltb-true, eqb-true, eqb-false, cases_lt}
use Rattle.std.proofs.lemmas.List.{append-nil, length-take-le, length-drop, take-append-drop, take_at, drop_at}
use Rattle.std.proofs.lemmas.Option.{none-some, same_Some}
use Rattle.std.proofs.lemmas.Nat.{be_bytes_2, be_bytes_4}
use Rattle.sd_rules.specs.declared.keys.What.{What}
use Rattle.sd_rules.specs.declared.keys.What.TheVariants as whats
use Rattle.sd_wire.specs.declared.requests.Request.{Request}
use Rattle.sd_wire.specs.declared.requests.Request.TheVariants as requests
use Rattle.sd_wire.specs.declared.frames.Framed.{Framed}
use Rattle.sd_wire.specs.declared.frames.Framed.TheVariants as framings
use Rattle.sd_wire.specs.Frames.{is_name, is_password, is_sound, is_sound_what, number_of, IsCarried, text_field, number_field, what_field, body_of, frame_of, BeginsWith, told_length, IsInRange, IsOutOfRange, IsCut, HasNoForm, IsBad, SaysOf}
use Rattle.sd_wire.specs.Framing.{cut_at, text_in, alone, text_alone, if_name, name_alone, with_first, then_alone, pair_alone, number_alone, as_login, as_access, bare, what_by, what_in, order_by, request_by, request_in, framed_as, framed_by, framed, Reads}
use Rattle.sd_base.proofs.Octets.{AreOctets, front_octets, back_octets}
use Rattle.sd_wire.proofs.FramesAgain.{frame_again, frame_length}

-- ---- choices

-- what a test lets through
passed : {T : Type 0} (b : Bool) (o : Option T) (x : T) → cond b o None ≡ Some x → (b ≡ true) × (o ≡ Some x)
passed true o x e = (refl, e)
passed false o x e = absurd (none-some x e)

-- what a refusal lets by
let_by : {T : Type 0} (b : Bool) (o : Option T) (x : T) → cond b None o ≡ Some x → (b ≡ false) × (o ≡ Some x)
let_by true o x e = absurd (none-some x e)
let_by false o x e = (refl, e)

mapped : {T U : Type 0} (f : T → U) (o : Option T) (y : U) → option_map f o ≡ Some y → (x : T) × (o ≡ Some x) × (f x ≡ y)
mapped f None y e = absurd (none-some y e)
mapped f (Some x) y e = (x, refl, same_Some (f x) y e)

-- ---- fields

two_back : (bytes : List ℕ) → AreOctets bytes → 2 ≤ length bytes → to_be_bytes w16 (from_be_bytes w16 (take 2 bytes)) ≡ take 2 bytes
two_back bytes h some = be_bytes_2 (take 2 bytes) _ (length-take-le 2 bytes some) (front_octets 2 bytes h).each refl

four_back : (bytes : List ℕ) → AreOctets bytes → length bytes ≡ 4 → to_be_bytes w32 (from_be_bytes w32 bytes) ≡ bytes
four_back bytes h four = be_bytes_4 bytes _ four h.each refl

-- the parts of bytes that a text field was cut from
joined : (size : ℕ) (octets rest : List ℕ) → to_be_bytes w16 size ≡ octets → size ≤ length rest → text_field (take size rest) ++ drop size rest ≡ octets ++ rest
joined size octets rest e fits =
    ap (λ (n : ℕ). (to_be_bytes w16 n ++ take size rest) ++ drop size rest) (length-take-le size rest fits)
    ∙ ap (λ (o : List ℕ). (o ++ take size rest) ++ drop size rest) e
    ∙ append_assoc octets (take size rest) (drop size rest)
    ∙ ap (λ (r : List ℕ). octets ++ r) (take-append-drop size rest)

abbrev some_pair : List ℕ → List ℕ → Option (List ℕ × List ℕ)
some_pair a b = Some (a, b)

parts_are : (p q : List ℕ × List ℕ) → p ≡ q → (p.0 ≡ q.0) × (p.1 ≡ q.1)
parts_are p q e = (ap (λ (r : List ℕ × List ℕ). r.0) e, ap (λ (r : List ℕ × List ℕ). r.1) e)

pair_is : (a b c d : List ℕ) → some_pair a b ≡ some_pair c d → (a ≡ c) × (b ≡ d)
pair_is a b c d e = parts_are (a, b) (c, d) (same_Some (a, b) (c, d) e)

text_found : (bytes text rest : List ℕ) → AreOctets bytes → text_in bytes ≡ some_pair text rest → bytes ≡ text_field text ++ rest
text_found bytes text rest h e =
    let size : ℕ = from_be_bytes w16 (take 2 bytes) in
    let two : (ltb (length bytes) 2 ≡ false) × (cut_at size (drop 2 bytes) ≡ some_pair text rest) = let_by (ltb (length bytes) 2) _ _ e in
    let whole : (ltb (length (drop 2 bytes)) size ≡ false) × (some_pair (take size (drop 2 bytes)) (drop size (drop 2 bytes)) ≡ some_pair text rest) = let_by (ltb (length (drop 2 bytes)) size) _ _ two.1 in
    let parts : (take size (drop 2 bytes) ≡ text) × (drop size (drop 2 bytes) ≡ rest) = pair_is _ _ _ _ whole.1 in
    let same : text_field (take size (drop 2 bytes)) ++ drop size (drop 2 bytes) ≡ take 2 bytes ++ drop 2 bytes = joined size (take 2 bytes) (drop 2 bytes) (two_back bytes h (ltb-false _ _ two.0)) (ltb-false _ _ whole.0) in
    let named : text_field (take size (drop 2 bytes)) ++ drop size (drop 2 bytes) ≡ text_field text ++ rest = ap (λ (t : List ℕ). text_field t ++ drop size (drop 2 bytes)) parts.0 ∙ ap (λ (r : List ℕ). text_field text ++ r) parts.1 in
    sym (sym named ∙ same ∙ take-append-drop 2 bytes)

no_length : (xs : List ℕ) → eqb (length xs) 0 ≡ true → xs ≡ []
no_length [] e = refl
no_length (x ∷ xs) e = absurd (let none : length (x ∷ xs) ≡ 0 = eqb-true _ _ e in omega arith)

alone_by : (bytes text : List ℕ) (found : Option (List ℕ × List ℕ)) → AreOctets bytes → text_in bytes ≡ found → alone found ≡ Some text → bytes ≡ text_field text
alone_by bytes text None h was e = absurd (none-some text e)
alone_by bytes text (Some found) h was e =
    let parts : (eqb (length found.1) 0 ≡ true) × (Some found.0 ≡ Some text) = passed _ _ _ e in
    text_found bytes found.0 found.1 h was ∙ ap (λ (rest : List ℕ). text_field found.0 ++ rest) (no_length found.1 parts.0) ∙ append-nil (text_field found.0) ∙ ap text_field (same_Some _ _ parts.1)

alone_found : (bytes text : List ℕ) → AreOctets bytes → text_alone bytes ≡ Some text → bytes ≡ text_field text
alone_found bytes text h e = alone_by bytes text (text_in bytes) h refl e

name_by : (bytes name : List ℕ) (found : Option (List ℕ)) → AreOctets bytes → text_alone bytes ≡ found → if_name found ≡ Some name → (is_name name ≡ true) × (bytes ≡ text_field name)
name_by bytes name None h was e = absurd (none-some name e)
name_by bytes name (Some text) h was e =
    let parts : (is_name text ≡ true) × (Some text ≡ Some name) = passed _ _ _ e in
    let same : text ≡ name = same_Some _ _ parts.1 in
    (sym (ap is_name same) ∙ parts.0, alone_found bytes text h was ∙ ap text_field same)

name_found : (bytes name : List ℕ) → AreOctets bytes → name_alone bytes ≡ Some name → (is_name name ≡ true) × (bytes ≡ text_field name)
name_found bytes name h e = name_by bytes name (text_alone bytes) h refl e

second_by : (bytes first rest second : List ℕ) (other : List ℕ × List ℕ) (found : Option (List ℕ)) → AreOctets rest → text_alone rest ≡ found → with_first first found ≡ Some other → (first ≡ other.0) × (rest ≡ text_field other.1)
second_by bytes first rest second other None h was e = absurd (none-some other e)
second_by bytes first rest second other (Some text) h was e =
    let same : (first, text) ≡ other = same_Some _ _ e in
    (ap (λ (p : List ℕ × List ℕ). p.0) same, alone_found rest text h was ∙ ap (λ (p : List ℕ × List ℕ). text_field p.1) same)

append_octets : (xs ys : List ℕ) → AreOctets (xs ++ ys) → AreOctets ys
append_octets xs ys h = subst AreOctets (drop_at xs ys (length xs) refl) (back_octets (length xs) (xs ++ ys) h)

pair_by : (bytes : List ℕ) (other : List ℕ × List ℕ) (found : Option (List ℕ × List ℕ)) → AreOctets bytes → text_in bytes ≡ found → then_alone found ≡ Some other → bytes ≡ text_field other.0 ++ text_field other.1
pair_by bytes other None h was e = absurd (none-some other e)
pair_by bytes other (Some found) h was e =
    let whole : bytes ≡ text_field found.0 ++ found.1 = text_found bytes found.0 found.1 h was in
    let rest : AreOctets found.1 = append_octets (text_field found.0) found.1 (subst AreOctets whole h) in
    let parts : (found.0 ≡ other.0) × (found.1 ≡ text_field other.1) = second_by bytes found.0 found.1 [] other (text_alone found.1) rest refl e in
    whole ∙ ap (λ (t : List ℕ). text_field t ++ found.1) parts.0 ∙ ap (λ (r : List ℕ). text_field other.0 ++ r) parts.1

pair_found : (bytes : List ℕ) (other : List ℕ × List ℕ) → AreOctets bytes → pair_alone bytes ≡ Some other → bytes ≡ text_field other.0 ++ text_field other.1
pair_found bytes other h e = pair_by bytes other (text_in bytes) h refl e

-- a number of four octets is small
number_found : (bytes : List ℕ) (n : ℕ) → AreOctets bytes → number_alone bytes ≡ Some n → (bytes ≡ number_field n) × (n < 2 ^ 32)
number_found bytes n h e =
    let parts : (eqb (length bytes) 4 ≡ true) × (Some (from_be_bytes w32 bytes) ≡ Some n) = passed _ _ _ e in
    let back : to_be_bytes w32 (from_be_bytes w32 bytes) ≡ bytes = four_back bytes h (eqb-true _ _ parts.0) in
    let same : from_be_bytes w32 bytes ≡ n = same_Some _ _ parts.1 in
    (sym back ∙ ap (λ (k : ℕ). to_be_bytes w32 k) same, omega (arith, same, h.each 0, h.each 1, h.each 2, h.each 3))

-- ---- bodies

choose : {P T : Type 0} (b : Bool) (x y : Option T) (r : T) → cond b x y ≡ Some r → (b ≡ true → x ≡ Some r → P) → (y ≡ Some r → P) → P
choose true x y r e f g = f refl e
choose false x y r e f g = g e

bare_found : {T : Type 0} (word found : T) (fields : List ℕ) → bare word fields ≡ Some found → (fields ≡ []) × (word ≡ found)
bare_found word found fields e =
    let parts : (eqb (length fields) 0 ≡ true) × (Some word ≡ Some found) = passed _ _ _ e in
    (no_length fields parts.0, same_Some _ _ parts.1)

-- a kind and its fields are those of a What
pub record AreThoseOf (kind : ℕ) (fields : List ℕ) (what : What) : Type 0 where
  pub sound : is_sound_what what ≡ true
  pub spelled : kind ∷ fields ≡ what_field what

what_as : (what made : What) (kind n : ℕ) (fields spelled : List ℕ) → kind ≡ n → fields ≡ spelled → made ≡ what → is_sound_what made ≡ true → what_field made ≡ n ∷ spelled → AreThoseOf kind fields what
what_as what made kind n fields spelled k f same sound is =
    let here : AreThoseOf kind fields made = record {
      sound = sound;
      spelled = ap (λ (j : ℕ). j ∷ fields) k ∙ ap (λ (r : List ℕ). n ∷ r) f ∙ sym is;
    } in
    subst (AreThoseOf kind fields) same here

bare_what : (what made : What) (kind n : ℕ) (fields : List ℕ) → eqb kind n ≡ true → bare made fields ≡ Some what → is_sound_what made ≡ true → what_field made ≡ n ∷ [] → AreThoseOf kind fields what
bare_what what made kind n fields k e sound is =
    let parts : (fields ≡ []) × (made ≡ what) = bare_found made what fields e in
    what_as what made kind n fields [] (eqb-true _ _ k) parts.0 parts.1 sound is

named_what : (make : List ℕ → What) (what : What) (kind n : ℕ) (fields : List ℕ) → AreOctets fields → eqb kind n ≡ true → option_map make (name_alone fields) ≡ Some what → ((name : List ℕ) → is_sound_what (make name) ≡ is_name name) → ((name : List ℕ) → what_field (make name) ≡ n ∷ text_field name) → AreThoseOf kind fields what
named_what make what kind n fields h k e sound is =
    let found : (name : List ℕ) × (name_alone fields ≡ Some name) × (make name ≡ what) = mapped make (name_alone fields) what e in
    let name : (is_name found.0 ≡ true) × (fields ≡ text_field found.0) = name_found fields found.0 h found.1 in
    what_as what (make found.0) kind n fields (text_field found.0) (eqb-true _ _ k) name.1 found.2 (sound found.0 ∙ name.0) (is found.0)

what_by_found : (kind : ℕ) (fields : List ℕ) (what : What) → AreOctets fields → what_by kind fields ≡ Some what → AreThoseOf kind fields what
what_by_found kind fields what h e =
    choose (eqb kind 0) _ _ what e (λ k x. bare_what what whats.All kind 0 fields k x refl refl)
    (λ e1. choose (eqb kind 1) _ _ what e1 (λ k x. named_what whats.User what kind 1 fields h k x (λ n. refl) (λ n. refl))
    (λ e2. choose (eqb kind 2) _ _ what e2 (λ k x. bare_what what whats.Users kind 2 fields k x refl refl)
    (λ e3. choose (eqb kind 3) _ _ what e3 (λ k x. named_what whats.Group what kind 3 fields h k x (λ n. refl) (λ n. refl))
    (λ e4. choose (eqb kind 4) _ _ what e4 (λ k x. bare_what what whats.Groups kind 4 fields k x refl refl)
    (λ e5. absurd (none-some what e5))))))

what_found : (fields : List ℕ) (what : What) → AreOctets fields → what_in fields ≡ Some what → (is_sound_what what ≡ true) × (fields ≡ what_field what)
what_found [] what h e = absurd (none-some what e)
what_found (kind ∷ fields) what h e =
    let those : AreThoseOf kind fields what = what_by_found kind fields what (back_octets 1 (kind ∷ fields) h) e in
    (those.sound, those.spelled)

-- a command and its fields are those of a request
pub record AreFieldsOf (command : ℕ) (fields : List ℕ) (request : Request) : Type 0 where
  pub carried : IsCarried request
  pub spelled : command ∷ fields ≡ body_of request

found_as : (request made : Request) (command n : ℕ) (fields spelled : List ℕ) → command ≡ n → fields ≡ spelled → made ≡ request → is_sound made ≡ true → number_of made < 2 ^ 32 → body_of made ≡ n ∷ spelled → AreFieldsOf command fields request
found_as request made command n fields spelled k f same sound small is =
    let here : AreFieldsOf command fields made = record {
      carried = record { sound = sound; small = small };
      spelled = ap (λ (j : ℕ). j ∷ fields) k ∙ ap (λ (r : List ℕ). n ∷ r) f ∙ sym is;
    } in
    subst (AreFieldsOf command fields) same here

no_number : 0 < 2 ^ 32
no_number = omega arith

bare_request : (request made : Request) (command n : ℕ) (fields : List ℕ) → eqb command n ≡ true → bare made fields ≡ Some request → is_sound made ≡ true → number_of made ≡ 0 → body_of made ≡ n ∷ [] → AreFieldsOf command fields request
bare_request request made command n fields k e sound zero_number is =
    let parts : (fields ≡ []) × (made ≡ request) = bare_found made request fields e in
    found_as request made command n fields [] (eqb-true _ _ k) parts.0 parts.1 sound (omega (arith, zero_number)) is

named_request : (make : List ℕ → Request) (request : Request) (command n : ℕ) (fields : List ℕ) → AreOctets fields → eqb command n ≡ true → option_map make (name_alone fields) ≡ Some request → ((name : List ℕ) → is_sound (make name) ≡ is_name name) → ((name : List ℕ) → number_of (make name) ≡ 0) → ((name : List ℕ) → body_of (make name) ≡ n ∷ text_field name) → AreFieldsOf command fields request
named_request make request command n fields h k e sound zero_number is =
    let found : (name : List ℕ) × (name_alone fields ≡ Some name) × (make name ≡ request) = mapped make (name_alone fields) request e in
    let name : (is_name found.0 ≡ true) × (fields ≡ text_field found.0) = name_found fields found.0 h found.1 in
    found_as request (make found.0) command n fields (text_field found.0) (eqb-true _ _ k) name.1 found.2 (sound found.0 ∙ name.0) (omega (arith, zero_number found.0)) (is found.0)

numbered_request : (make : ℕ → Request) (request : Request) (command n : ℕ) (fields : List ℕ) → AreOctets fields → eqb command n ≡ true → option_map make (number_alone fields) ≡ Some request → ((number : ℕ) → is_sound (make number) ≡ true) → ((number : ℕ) → number_of (make number) ≡ number) → ((number : ℕ) → body_of (make number) ≡ n ∷ number_field number) → AreFieldsOf command fields request
numbered_request make request command n fields h k e sound same is =
    let found : (number : ℕ) × (number_alone fields ≡ Some number) × (make number ≡ request) = mapped make (number_alone fields) request e in
    let number : (fields ≡ number_field found.0) × (found.0 < 2 ^ 32) = number_found fields found.0 h found.1 in
    found_as request (make found.0) command n fields (number_field found.0) (eqb-true _ _ k) number.0 found.2 (sound found.0) (omega (arith, same found.0, number.1)) (is found.0)

login_by : (request : Request) (command : ℕ) (fields : List ℕ) (found : Option (List ℕ × List ℕ)) → AreOctets fields → eqb command 16 ≡ true → pair_alone fields ≡ found → as_login found ≡ Some request → AreFieldsOf command fields request
login_by request command fields None h k was e = absurd (none-some request e)
login_by request command fields (Some found) h k was e =
    let parts : ((is_name found.0 && is_password found.1) ≡ true) × (Some (requests.Login found.0 found.1) ≡ Some request) = passed _ _ _ e in
    found_as request (requests.Login found.0 found.1) command 16 fields (text_field found.0 ++ text_field found.1) (eqb-true _ _ k) (pair_found fields found h was) (same_Some _ _ parts.1) parts.0 no_number refl

access_by : (request : Request) (command : ℕ) (fields : List ℕ) (found : Option (List ℕ × List ℕ)) → AreOctets fields → eqb command 17 ≡ true → pair_alone fields ≡ found → as_access found ≡ Some request → AreFieldsOf command fields request
access_by request command fields None h k was e = absurd (none-some request e)
access_by request command fields (Some found) h k was e =
    let parts : ((is_name found.0 && is_name found.1) ≡ true) × (Some (requests.Access found.0 found.1) ≡ Some request) = passed _ _ _ e in
    found_as request (requests.Access found.0 found.1) command 17 fields (text_field found.0 ++ text_field found.1) (eqb-true _ _ k) (pair_found fields found h was) (same_Some _ _ parts.1) parts.0 no_number refl

void_request : (request : Request) (command : ℕ) (fields : List ℕ) → AreOctets fields → eqb command 32 ≡ true → option_map requests.Void (what_in fields) ≡ Some request → AreFieldsOf command fields request
void_request request command fields h k e =
    let found : (what : What) × (what_in fields ≡ Some what) × (requests.Void what ≡ request) = mapped requests.Void (what_in fields) request e in
    let what : (is_sound_what found.0 ≡ true) × (fields ≡ what_field found.0) = what_found fields found.0 h found.1 in
    found_as request (requests.Void found.0) command 32 fields (what_field found.0) (eqb-true _ _ k) what.1 found.2 what.0 no_number refl

order_found : (command : ℕ) (fields : List ℕ) (request : Request) → AreOctets fields → order_by command fields ≡ Some request → AreFieldsOf command fields request
order_found command fields request h e =
    choose (eqb command 32) _ _ request e (λ k x. void_request request command fields h k x)
    (λ e1. choose (eqb command 33) _ _ request e1 (λ k x. bare_request request requests.Offline command 33 fields k x refl refl refl)
    (λ e2. choose (eqb command 34) _ _ request e2 (λ k x. bare_request request requests.Online command 34 fields k x refl refl refl)
    (λ e3. choose (eqb command 35) _ _ request e3 (λ k x. bare_request request requests.Stop command 35 fields k x refl refl refl)
    (λ e4. absurd (none-some request e4)))))

request_found : (command : ℕ) (fields : List ℕ) (request : Request) → AreOctets fields → request_by command fields ≡ Some request → AreFieldsOf command fields request
request_found command fields request h e =
    choose (eqb command 1) _ _ request e (λ k x. named_request requests.User request command 1 fields h k x (λ n. refl) (λ n. refl) (λ n. refl))
    (λ e1. choose (eqb command 2) _ _ request e1 (λ k x. numbered_request requests.Uid request command 2 fields h k x (λ n. refl) (λ n. refl) (λ n. refl))
    (λ e2. choose (eqb command 3) _ _ request e2 (λ k x. named_request requests.Group request command 3 fields h k x (λ n. refl) (λ n. refl) (λ n. refl))
    (λ e3. choose (eqb command 4) _ _ request e3 (λ k x. numbered_request requests.Gid request command 4 fields h k x (λ n. refl) (λ n. refl) (λ n. refl))
    (λ e4. choose (eqb command 5) _ _ request e4 (λ k x. named_request requests.GroupsOf request command 5 fields h k x (λ n. refl) (λ n. refl) (λ n. refl))
    (λ e5. choose (eqb command 16) _ _ request e5 (λ k x. login_by request command fields (pair_alone fields) h k refl x)
    (λ e6. choose (eqb command 17) _ _ request e6 (λ k x. access_by request command fields (pair_alone fields) h k refl x)
    (λ e7. order_found command fields request h e7)))))))

body_found : (body : List ℕ) (request : Request) → AreOctets body → request_in body ≡ Some request → IsCarried request × (body ≡ body_of request)
body_found [] request h e = absurd (none-some request e)
body_found (command ∷ fields) request h e =
    let those : AreFieldsOf command fields request = request_found command fields request (back_octets 1 (command ∷ fields) h) e in
    (those.carried, those.spelled)

-- ---- frames

-- the four kinds of bytes that a length tells apart
guarded : (b : Bool) (x y z : Framed) → cond b x y ≡ z → (z ≡ x → ⊥) → (b ≡ false) × (y ≡ z)
guarded true x y z e apart = absurd (apart (sym e))
guarded false x y z e apart = (refl, e)

frame_is_bad : (request : Request) (used : ℕ) → framings.Frame request used ≡ framings.Bad → ⊥
frame_is_bad request used e = cc

frame_is_more : (request : Request) (used : ℕ) → framings.Frame request used ≡ framings.More → ⊥
frame_is_more request used e = cc

more_is_bad : framings.More ≡ framings.Bad → ⊥
more_is_bad e = cc

bad_is_more : framings.Bad ≡ framings.More → ⊥
bad_is_more e = cc

same_frame : (request other : Request) (used n : ℕ) → framings.Frame request used ≡ framings.Frame other n → (request ≡ other) × (used ≡ n)
same_frame request other used n e = (cc, cc)

as_frame : (size used : ℕ) (found : Option Request) (request : Request) → framed_as size found ≡ framings.Frame request used → (found ≡ Some request) × (used ≡ size + 4)
as_frame size used None request e = absurd (frame_is_bad request used (sym e))
as_frame size used (Some other) request e =
    let same : (other ≡ request) × (size + 4 ≡ used) = same_frame other request (size + 4) used e in
    (ap (λ (r : Request). Some r) same.0, sym same.1)

-- bytes begin with what stands in front of them
begins : (bytes : List ℕ) (request : Request) → AreOctets bytes → 4 ≤ length bytes → told_length bytes ≤ length (drop 4 bytes) → take (told_length bytes) (drop 4 bytes) ≡ body_of request → frame_of request ++ drop (told_length bytes) (drop 4 bytes) ≡ bytes
begins bytes request h some whole is =
    let size : ℕ = told_length bytes in
    let count : length (body_of request) ≡ size = sym (ap (λ (b : List ℕ). length b) is) ∙ length-take-le size (drop 4 bytes) whole in
    let octets : to_be_bytes w32 size ≡ take 4 bytes = four_back (take 4 bytes) (front_octets 4 bytes h) (length-take-le 4 bytes some) in
    ap (λ (n : ℕ). (to_be_bytes w32 n ++ body_of request) ++ drop size (drop 4 bytes)) count
    ∙ ap (λ (o : List ℕ). (o ++ body_of request) ++ drop size (drop 4 bytes)) octets
    ∙ append_assoc (take 4 bytes) (body_of request) (drop size (drop 4 bytes))
    ∙ ap (λ (b : List ℕ). take 4 bytes ++ (b ++ drop size (drop 4 bytes))) (sym is)
    ∙ ap (λ (r : List ℕ). take 4 bytes ++ r) (take-append-drop size (drop 4 bytes))
    ∙ take-append-drop 4 bytes

begins_with : (bytes : List ℕ) (request : Request) (rest : List ℕ) → frame_of request ++ rest ≡ bytes → BeginsWith bytes request
begins_with bytes request rest e = subst (λ (b : List ℕ). take (length (frame_of request)) b ≡ frame_of request) e (take_at (frame_of request) rest (length (frame_of request)) refl)

frame_found : (bytes : List ℕ) (request : Request) (used : ℕ) → AreOctets bytes → framed bytes ≡ framings.Frame request used → SaysOf (framings.Frame request used) bytes
frame_found bytes request used h e =
    let size : ℕ = told_length bytes in
    let p0 : (ltb (length bytes) 4 ≡ false) × (framed_by size (drop 4 bytes) ≡ framings.Frame request used) = guarded _ _ _ _ e (frame_is_more request used) in
    let p1 : (eqb size 0 ≡ false) × (cond (ltb 65536 size) framings.Bad (cond (ltb (length (drop 4 bytes)) size) framings.More (framed_as size (request_in (take size (drop 4 bytes))))) ≡ framings.Frame request used) = guarded _ _ _ _ p0.1 (frame_is_bad request used) in
    let p2 : (ltb 65536 size ≡ false) × (cond (ltb (length (drop 4 bytes)) size) framings.More (framed_as size (request_in (take size (drop 4 bytes)))) ≡ framings.Frame request used) = guarded _ _ _ _ p1.1 (frame_is_bad request used) in
    let p3 : (ltb (length (drop 4 bytes)) size ≡ false) × (framed_as size (request_in (take size (drop 4 bytes))) ≡ framings.Frame request used) = guarded _ _ _ _ p2.1 (frame_is_more request used) in
    let found : (request_in (take size (drop 4 bytes)) ≡ Some request) × (used ≡ size + 4) = as_frame size used _ request p3.1 in
    let body : IsCarried request × (take size (drop 4 bytes) ≡ body_of request) = body_found (take size (drop 4 bytes)) request (front_octets size (drop 4 bytes) (back_octets 4 bytes h)) found.0 in
    let whole : size ≤ length (drop 4 bytes) = ltb-false _ _ p3.0 in
    let front : BeginsWith bytes request = begins_with bytes request (drop size (drop 4 bytes)) (begins bytes request h (ltb-false _ _ p0.0) whole body.1) in
    let count : length (body_of request) ≡ size = sym (ap (λ (b : List ℕ). length b) body.1) ∙ length-take-le size (drop 4 bytes) whole in
    (body.0, front, omega (arith, found.1, count, frame_length request))

as_is_no_more : (size : ℕ) (found : Option Request) → framed_as size found ≡ framings.More → ⊥
as_is_no_more size None e = bad_is_more e
as_is_no_more size (Some request) e = frame_is_more request (size + 4) e

cut_body : (bytes : List ℕ) (b : Bool) (found : Option Request) → 4 ≤ length bytes → ltb (length (drop 4 bytes)) (told_length bytes) ≡ b → cond b framings.More (framed_as (told_length bytes) found) ≡ framings.More → length bytes < told_length bytes + 4
cut_body bytes true found long was e = omega (arith, ltb-true _ _ was, length-drop 4 bytes)
cut_body bytes false found long was e = absurd (as_is_no_more (told_length bytes) found e)

more_by : (bytes : List ℕ) → 4 ≤ length bytes → framed bytes ≡ framings.More → IsInRange (told_length bytes) × (length bytes < told_length bytes + 4)
more_by bytes long e =
    let size : ℕ = told_length bytes in
    let found : Option Request = request_in (take size (drop 4 bytes)) in
    let p0 : framed_by size (drop 4 bytes) ≡ framings.More = sym (ap (λ (b : Bool). cond b framings.More (framed_by size (drop 4 bytes))) (le-ltb _ _ long)) ∙ e in
    let p1 : (eqb size 0 ≡ false) × (cond (ltb 65536 size) framings.Bad (cond (ltb (length (drop 4 bytes)) size) framings.More (framed_as size found)) ≡ framings.More) = guarded _ _ _ _ p0 more_is_bad in
    let p2 : (ltb 65536 size ≡ false) × (cond (ltb (length (drop 4 bytes)) size) framings.More (framed_as size found) ≡ framings.More) = guarded _ _ _ _ p1.1 more_is_bad in
    let none : size ≡ 0 → ⊥ = eqb-false _ _ p1.0 in
    let range : IsInRange size = (omega arith, ltb-false _ _ p2.0) in
    (range, cut_body bytes (ltb (length (drop 4 bytes)) size) found long refl p2.1)

more_found : (bytes : List ℕ) → framed bytes ≡ framings.More → IsCut bytes
more_found bytes e = elim (cases_lt (length bytes) 4) [
  | inl short ↦ inl short
  | inr long ↦ inr (more_by bytes long e)
]

-- bytes that begin with a frame are read as it
front_read : (bytes : List ℕ) (request : Request) → IsCarried request → BeginsWith bytes request → framed bytes ≡ framings.Frame request (length (frame_of request))
front_read bytes request carried front =
    let n : ℕ = length (frame_of request) in
    let parts : frame_of request ++ drop n bytes ≡ bytes = sym (ap (λ (f : List ℕ). f ++ drop n bytes) front) ∙ take-append-drop n bytes in
    sym (ap framed parts) ∙ frame_again request (drop n bytes) carried

no_form : (bytes : List ℕ) → framed bytes ≡ framings.Bad → (request : Request) → IsCarried request → BeginsWith bytes request → ⊥
no_form bytes e request carried front = frame_is_bad request _ (sym (front_read bytes request carried front) ∙ e)

bad_length : (bytes : List ℕ) (zero_length long_length : Bool) (rest : Framed) → framed bytes ≡ framings.Bad → 4 ≤ length bytes → eqb (told_length bytes) 0 ≡ zero_length → ltb 65536 (told_length bytes) ≡ long_length → (rest ≡ framings.Bad → told_length bytes ≤ length (drop 4 bytes)) → cond zero_length framings.Bad (cond long_length framings.Bad rest) ≡ framings.Bad → IsOutOfRange (told_length bytes) ⊎ HasNoForm bytes
bad_length bytes true long_length rest bad some z l whole e = inl (inl (eqb-true _ _ z))
bad_length bytes false true rest bad some z l whole e = inl (inr (ltb-true _ _ l))
bad_length bytes false false rest bad some z l whole e = inr (omega (arith, whole e, length-drop 4 bytes), no_form bytes bad)

bad_found : (bytes : List ℕ) → framed bytes ≡ framings.Bad → IsBad bytes
bad_found bytes e =
    let size : ℕ = told_length bytes in
    let found : Option Request = request_in (take size (drop 4 bytes)) in
    let p0 : (ltb (length bytes) 4 ≡ false) × (framed_by size (drop 4 bytes) ≡ framings.Bad) = guarded _ _ _ _ e bad_is_more in
    let long : 4 ≤ length bytes = ltb-false _ _ p0.0 in
    let rest : Framed = cond (ltb (length (drop 4 bytes)) size) framings.More (framed_as size found) in
    let whole : rest ≡ framings.Bad → size ≤ length (drop 4 bytes) = λ r. ltb-false _ _ (guarded (ltb (length (drop 4 bytes)) size) framings.More (framed_as size found) framings.Bad r bad_is_more).0 in
    (long, bad_length bytes (eqb size 0) (ltb 65536 size) rest e long refl refl whole p0.1)

-- what an answer says of the bytes follows from their reading
says_by : (result : Framed) (bytes : List ℕ) → AreOctets bytes → Reads result (framed bytes) → SaysOf result bytes
says_by (framings.Frame request used) bytes h e = frame_found bytes request used h e
says_by framings.More bytes h e = more_found bytes e
says_by framings.Bad bytes h e = bad_found bytes e
says_by framings.Memory bytes h e = tt

pub says_of : (result : Framed) (bytes : List ℕ) → ((i : ℕ) → get_or bytes i 0 < 256) → Reads result (framed bytes) → SaysOf result bytes
says_of result bytes h e = says_by result bytes (record { each = h }) e
