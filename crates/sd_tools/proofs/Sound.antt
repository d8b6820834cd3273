-- What words ask is within the limits of frames.
use Rattle.std.proofs.Common.{◌≡◌, ℕ, Bool, true, false, not, ◌&&◌, cond, eqb, List, [], ◌∷◌, ◌++◌, length, map, Option, Some, None, refl, sym, ap, subst, ◌∙◌}
use Rattle.std.specs.Prelude.{codes, is_some}
use Rattle.std.specs.Option.{option_map}
use Rattle.std.proofs.lemmas.Bool.{and_parts}
use Rattle.sd_rules.specs.Keys.{same_name}
use Rattle.sd_rules.specs.declared.keys.What.{What}
use Rattle.sd_rules.specs.declared.keys.What.TheVariants as whats
use Rattle.sd_wire.specs.Frames.{is_name, is_sound, is_sound_what}
use Rattle.sd_wire.specs.declared.requests.Request.{Request}
use Rattle.sd_wire.specs.declared.requests.Request.TheVariants as requests
use Rattle.sd_tools.specs.declared.queries.Query.{Query}
use Rattle.sd_tools.specs.declared.queries.Query.TheVariants as queries
use Rattle.sd_tools.specs.Queries.{id_of, name_of, order_of, lookup_of, check_of, query_of, is_sound_query}
use Rattle.sd_tools.specs.Options.{flag_of, is_option, is_option_name, named_option, named_of, with_item, items_of, place_of, at_place, voids_at, in_order, are_once, if_once, requests_of}
use Rattle.sd_tools.specs.Replies.{AreSound}

-- ---- choices

some_is : {T : Type 0} (x y : T) → Some x ≡ Some y → x ≡ y
some_is x y e = cc

none_is_some : {T : Type 0} (x : T) → None ≡ Some x → ⊥
none_is_some x e = cc

choose : {P T : Type 0} (b : Bool) (x y : Option T) (r : T) → cond b x y ≡ Some r → (x ≡ Some r → P) → (y ≡ Some r → P) → P
choose true x y r e f g = f e
choose false x y r e f g = g e

passed : {T : Type 0} (b : Bool) (o : Option T) (x : T) → cond b o None ≡ Some x → (b ≡ true) × (o ≡ Some x)
passed true o x e = (refl, e)
passed false o x e = absurd (none_is_some x e)

mapped : {T U : Type 0} (f : T → U) (o : Option T) (y : U) → option_map f o ≡ Some y → (x : T) × (o ≡ Some x) × (f x ≡ y)
mapped f None y e = absurd (none_is_some y e)
mapped f (Some x) y e = (x, refl, some_is (f x) y e)

-- ---- queries

abbrev Sound : Request → Type 0
Sound request = is_sound request ≡ true

name_sound : (word name : List ℕ) → name_of word ≡ Some name → is_name name ≡ true
name_sound word name e =
    let parts : (is_name word ≡ true) × (Some word ≡ Some name) = passed _ _ _ e in
    sym (ap is_name (some_is _ _ parts.1)) ∙ parts.0

named : (make : List ℕ → Request) (word : List ℕ) (request : Request) → ((name : List ℕ) → is_sound (make name) ≡ is_name name) → option_map make (name_of word) ≡ Some request → Sound request
named make word request sound e =
    let found : (name : List ℕ) × (name_of word ≡ Some name) × (make name ≡ request) = mapped make (name_of word) request e in
    subst Sound found.2 (sound found.0 ∙ name_sound word found.0 found.1)

numbered : (make : ℕ → Request) (word : List ℕ) (request : Request) → ((n : ℕ) → is_sound (make n) ≡ true) → option_map make (id_of word) ≡ Some request → Sound request
numbered make word request sound e =
    let found : (n : ℕ) × (id_of word ≡ Some n) × (make n ≡ request) = mapped make (id_of word) request e in
    subst Sound found.2 (sound found.0)

bare : (made request : Request) → Sound made → Some made ≡ Some request → Sound request
bare made request h e = subst Sound (some_is made request e) h

order_sound : (word : List ℕ) (request : Request) → order_of word ≡ Some request → Sound request
order_sound word request e =
    choose (same_name word (codes "offline")) _ _ request e (bare requests.Offline request refl)
    (λ e1. choose (same_name word (codes "online")) _ _ request e1 (bare requests.Online request refl)
    (λ e2. choose (same_name word (codes "stop")) _ _ request e2 (bare requests.Stop request refl)
    (λ e3. absurd (none_is_some request e3))))

lookup_sound : (word name : List ℕ) (request : Request) → lookup_of word name ≡ Some request → Sound request
lookup_sound word name request e =
    choose (same_name word (codes "user")) _ _ request e (named requests.User name request (λ n. refl))
    (λ e1. choose (same_name word (codes "uid")) _ _ request e1 (numbered requests.Uid name request (λ n. refl))
    (λ e2. choose (same_name word (codes "group")) _ _ request e2 (named requests.Group name request (λ n. refl))
    (λ e3. choose (same_name word (codes "gid")) _ _ request e3 (numbered requests.Gid name request (λ n. refl))
    (λ e4. choose (same_name word (codes "groups")) _ _ request e4 (named requests.GroupsOf name request (λ n. refl))
    (λ e5. absurd (none_is_some request e5))))))

check_sound : (word user service : List ℕ) (request : Request) → check_of word user service ≡ Some request → Sound request
check_sound word user service request e =
    let parts : ((same_name word (codes "access") && (is_name user && is_name service)) ≡ true) × (Some (requests.Access user service) ≡ Some request) = passed _ _ _ e in
    subst Sound (some_is _ _ parts.1) (and_parts _ _ parts.0).1

asked : (o : Option Request) (query : Query) → ((request : Request) → o ≡ Some request → Sound request) → option_map queries.Asked o ≡ Some query → is_sound_query query ≡ true
asked o query h e =
    let found : (request : Request) × (o ≡ Some request) × (queries.Asked request ≡ query) = mapped queries.Asked o query e in
    subst (λ (q : Query). is_sound_query q ≡ true) found.2 (h found.0 found.1)

login_sound : (name : List ℕ) (query : Query) → option_map queries.Login (name_of name) ≡ Some query → is_sound_query query ≡ true
login_sound name query e =
    let found : (user : List ℕ) × (name_of name ≡ Some user) × (queries.Login user ≡ query) = mapped queries.Login (name_of name) query e in
    subst (λ (q : Query). is_sound_query q ≡ true) found.2 (name_sound name found.0 found.1)

pub query_sound : (words : List (List ℕ)) (query : Query) → query_of words ≡ Some query → is_sound_query query ≡ true
query_sound [] query e = absurd (none_is_some query e)
query_sound (word ∷ []) query e = asked (order_of word) query (order_sound word) e
query_sound (word ∷ name ∷ []) query e =
    choose (same_name word (codes "login")) _ _ query e (login_sound name query) (λ e1. asked (lookup_of word name) query (lookup_sound word name) e1)
query_sound (word ∷ user ∷ service ∷ []) query e = asked (check_of word user service) query (check_sound word user service) e
query_sound (word ∷ user ∷ service ∷ more ∷ words) query e = absurd (none_is_some query e)

-- ---- options

abbrev SoundWhat : What → Type 0
SoundWhat what = is_sound_what what ≡ true

abbrev SoundWhats : List What → Type 0
SoundWhats [] = Unit {0}
SoundWhats (item ∷ items) = SoundWhat item × SoundWhats items

bare_what : (made what : What) → SoundWhat made → Some made ≡ Some what → SoundWhat what
bare_what made what h e = subst SoundWhat (some_is made what e) h

flag_sound : (word : List ℕ) (what : What) → flag_of word ≡ Some what → SoundWhat what
flag_sound word what e =
    choose (is_option (codes "-E") (codes "--everything") word) _ _ what e (bare_what whats.All what refl)
    (λ e1. choose (is_option (codes "-U") (codes "--users") word) _ _ what e1 (bare_what whats.Users what refl)
    (λ e2. choose (is_option (codes "-G") (codes "--groups") word) _ _ what e2 (bare_what whats.Groups what refl)
    (λ e3. absurd (none_is_some what e3))))

option_sound : (word name : List ℕ) (what : What) → is_name name ≡ true → named_option word name ≡ Some what → SoundWhat what
option_sound word name what h e =
    choose (is_option (codes "-u") (codes "--user") word) _ _ what e (bare_what (whats.User name) what h)
    (λ e1. choose (is_option (codes "-g") (codes "--group") word) _ _ what e1 (bare_what (whats.Group name) what h)
    (λ e2. absurd (none_is_some what e2)))

named_sound : (word name : List ℕ) (what : What) → named_of word name ≡ Some what → SoundWhat what
named_sound word name what e =
    let parts : (is_option_name name ≡ true) × (named_option word name ≡ Some what) = passed _ _ _ e in
    option_sound word name what (and_parts _ _ parts.0).0 parts.1

with_sound : (o : Option What) (os : Option (List What)) (items : List What) → ((what : What) → o ≡ Some what → SoundWhat what) → ((more : List What) → os ≡ Some more → SoundWhats more) → with_item o os ≡ Some items → SoundWhats items
with_sound None os items f g e = absurd (none_is_some items e)
with_sound (Some what) None items f g e = absurd (none_is_some items e)
with_sound (Some what) (Some more) items f g e = subst SoundWhats (some_is (what ∷ more) items e) (f what refl, g more refl)

empty_sound : (more : List What) → Some [] ≡ Some more → SoundWhats more
empty_sound more e = subst SoundWhats (some_is [] more e) tt

items_sound : (words : List (List ℕ)) (items : List What) → items_of words ≡ Some items → SoundWhats items
items_sound [] items e = empty_sound items e
items_sound (word ∷ []) items e = with_sound (flag_of word) (Some []) items (flag_sound word) empty_sound e
items_sound (word ∷ name ∷ words) items e =
    choose (is_some (flag_of word)) _ _ items e
    (with_sound (flag_of word) (items_of (name ∷ words)) items (flag_sound word) (items_sound (name ∷ words)))
    (with_sound (named_of word name) (items_of words) items (named_sound word name) (items_sound words))

kept : (b : Bool) (item : What) (items : List What) → SoundWhat item → AreSound (map requests.Void items) → AreSound (map requests.Void (cond b (item ∷ items) items))
kept true item items h hs = (h, hs)
kept false item items h hs = hs

place_sound : (place : ℕ) (items : List What) → SoundWhats items → AreSound (voids_at place items)
place_sound place [] h = tt
place_sound place (item ∷ items) h = kept (eqb (place_of item) place) item (at_place place items) h.0 (place_sound place items h.1)

append_sound : (xs ys : List Request) → AreSound xs → AreSound ys → AreSound (xs ++ ys)
append_sound [] ys hx hy = hy
append_sound (x ∷ xs) ys hx hy = (hx.0, append_sound xs ys hx.1 hy)

order_of_sound : (items : List What) → SoundWhats items → AreSound (in_order items)
order_of_sound items h =
    append_sound (voids_at 0 items) _ (place_sound 0 items h)
    (append_sound (voids_at 1 items) _ (place_sound 1 items h)
    (append_sound (voids_at 2 items) _ (place_sound 2 items h)
    (append_sound (voids_at 3 items) _ (place_sound 3 items h) (place_sound 4 items h))))

once_sound : (found : Option (List What)) (made : List Request) → ((items : List What) → found ≡ Some items → SoundWhats items) → if_once found ≡ Some made → AreSound made
once_sound None made h e = absurd (none_is_some made e)
once_sound (Some items) made h e =
    let parts : ((not (eqb (length items) 0) && are_once items) ≡ true) × (Some (in_order items) ≡ Some made) = passed _ _ _ e in
    subst AreSound (some_is _ _ parts.1) (order_of_sound items (h items refl))

pub requests_sound : (words : List (List ℕ)) (made : List Request) → requests_of words ≡ Some made → AreSound made
requests_sound words made e = once_sound (items_of words) made (items_sound words) e
