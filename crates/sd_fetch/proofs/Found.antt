-- What a lookup finds among what is sent is what it finds in the directory.
use Rattle.std.proofs.Common.{◌≡◌, ℕ, suc, ◌-◌, ◌^◌, Bool, true, false, ◌==◌, ◌&&◌, List, [], ◌∷◌, ◌++◌, length, map, Option, Some, None, Result, Ok, Err, refl, sym, ap, subst, ◌∙◌, cond}
use Rattle.std.specs.Prelude.{filter, min, codes}
use Rattle.std.specs.List.{list_any, list_all, flat_map}
use Rattle.std.specs.Result.{result_ok, is_ok}
use Rattle.std.proofs.lemmas.Bool.{and_from, and_parts}
use Rattle.sd_dn.specs.declared.Pair.{Pair}
use Rattle.sd_dn.specs.Comparing.{ends_with}
use Rattle.sd_dn.specs.Reading.{Start, run, is_dn}
use Rattle.sd_dn.specs.Texts.{spelled, both_meet, same_dn_text}
use Rattle.sd_ldap.specs.declared.entry.Attribute.{Attribute}
use Rattle.sd_ldap.specs.declared.entry.DirEntry.{DirEntry}
use Rattle.sd_ldap.specs.Values.{SearchValue}
use Rattle.sd_match.specs.Matching.{matches, has_value}
use Rattle.sd_match.specs.Answering.{in_scope, is_at_or_under, is_found, found, sent, sent_attributes}
use Rattle.sd_rules.specs.declared.keys.Key.{Key}
use Rattle.sd_rules.specs.declared.keys.Key.TheVariants as keys
use Rattle.sd_rules.specs.declared.records.Record.TheVariants as records
use Rattle.sd_rules.specs.declared.tasks.Fetched.{Fetched}
use Rattle.sd_rules.specs.declared.tasks.Fetched.TheVariants as fetches
use Rattle.sd_conf.specs.declared.config.Config.{Config}
use Rattle.sd_entry.specs.Values.{has_class}
use Rattle.sd_nested.specs.Named.{is_group, member_values, group_values, user_names}
use Rattle.sd_nested.specs.Order.{in_order}
use Rattle.sd_nested.specs.Paths.{holds, members_in, reached, placed_in, members_of}
use Rattle.sd_nested.specs.Searches.{read_search}
use Rattle.sd_nested.specs.Rounds.{Rounds, rounds, beginning, member_way, dns_of, new_among, member_reads}
use Rattle.sd_fetch.specs.Searches.{group_attributes, first_search, is_of_one}
use Rattle.sd_fetch.specs.Lookup.{fits, found_as, fitting, one_of, looked_up, members_under}
use Rattle.sd_fetch.specs.Lookup as lookup
use Rattle.sd_fetch.specs.Told.{where_one, further_searches, reads_under, reads_of}
use Rattle.sd_fetch.specs.Further.{further_of, have_dns}
use Rattle.sd_match.proofs.Sent.{says_sent, value_sent}
use Rattle.sd_fetch.proofs.Sent.{members_sent}
use Rattle.sd_fetch.proofs.Fits.{fits_matched}
use Rattle.sd_fetch.proofs.Alike.{group_keeps_class, group_keeps_member, fits_sent, is_user_search, user_of_sent, group_of_sent, host_of_sent}

-- ---- the entries that fit

kept_step : {X : Type 0} (f : X → X) (x : X) (later : List X) (fitting : X → Bool) (near matched fit : Bool) → fitting (f x) ≡ fit → (fit ≡ true → matched ≡ true) → (kept : List X) → filter fitting kept ≡ later
    → filter fitting (cond (near && matched) (f x ∷ kept) kept) ≡ cond near (cond fit (f x ∷ later) later) later
kept_step {X} f x later fitting true true fit e m kept h = ap (λ (b : Bool). cond b (f x ∷ filter fitting kept) (filter fitting kept)) e ∙ ap (λ (ys : List X). cond fit (f x ∷ ys) ys) h
kept_step {X} f x later fitting true false true e m kept h = let k = m refl in absurd cc
kept_step {X} f x later fitting true false false e m kept h = h
kept_step {X} f x later fitting false matched fit e m kept h = h

cond_near : {X : Type 0} (f : X → X) (x : X) (xs : List X) (fitting : X → Bool) (near : Bool) → map f (filter fitting (cond near (x ∷ xs) xs)) ≡ cond near (cond (fitting x) (f x ∷ map f (filter fitting xs)) (map f (filter fitting xs))) (map f (filter fitting xs))
cond_near f x xs fitting true = within (fitting x)
  where
    within : (b : Bool) → map f (cond b (x ∷ filter fitting xs) (filter fitting xs)) ≡ cond b (f x ∷ map f (filter fitting xs)) (map f (filter fitting xs))
    within true = refl
    within false = refl
cond_near f x xs fitting false = refl

map_cond : {X : Type 0} (f : X → X) (x : X) (xs : List X) (b : Bool) → map f (cond b (x ∷ xs) xs) ≡ cond b (f x ∷ map f xs) (map f xs)
map_cond f x xs true = refl
map_cond f x xs false = refl

pub kept_found : {X : Type 0} (f : X → X) (near matched fitting : X → Bool) → ((x : X) → fitting (f x) ≡ fitting x) → ((x : X) → fitting x ≡ true → matched x ≡ true) → (xs : List X)
    → filter fitting (map f (filter (λ (x : X). near x && matched x) xs)) ≡ map f (filter fitting (filter near xs))
kept_found f near matched fitting same meets [] = refl
kept_found {X} f near matched fitting same meets (x ∷ xs) =
    ap (filter fitting) (map_cond f x (filter (λ (y : X). near y && matched y) xs) (near x && matched x))
    ∙ (kept_step f x (map f (filter fitting (filter near xs))) fitting (near x) (matched x) (fitting x) (same x) (meets x) (map f (filter (λ (y : X). near y && matched y) xs)) (kept_found f near matched fitting same meets xs)
    ∙ sym (cond_near f x (filter near xs) fitting (near x)))

pub whole_scope : (a b : Option (List (List Pair))) → both_meet (in_scope 2) a b ≡ both_meet ends_with a b
whole_scope (Some dn) (Some base) = refl
whole_scope (Some dn) None = refl
whole_scope None b = refl

found_near : (config : Config) (s : SearchValue) (told : List DirEntry) → s.scope ≡ 2 → s.base ≡ config.base → found told s ≡ filter (λ (e : DirEntry). is_at_or_under config.base e && matches s.filter e.attributes) told
found_near config s [] scope base = refl
found_near config s (e ∷ es) scope base =
    let same : is_found s e ≡ (is_at_or_under config.base e && matches s.filter e.attributes) =
    ap (λ (b : Bool). b && matches s.filter e.attributes)
    (ap (λ (n : ℕ). both_meet (in_scope n) (spelled e.dn) (spelled s.base)) scope ∙ (ap (λ (p : List ℕ). both_meet (in_scope 2) (spelled e.dn) (spelled p)) base ∙ whole_scope (spelled e.dn) (spelled config.base))) in
    ap (λ (b : Bool). cond b (e ∷ found es s) (found es s)) same
    ∙ ap (λ (ys : List DirEntry). cond (is_at_or_under config.base e && matches s.filter e.attributes) (e ∷ ys) ys) (found_near config s es scope base)

one_scope : (config : Config) (key : Key) → (first_search config key).scope ≡ 2
one_scope config (keys.User name) = refl
one_scope config (keys.Uid uid) = refl
one_scope config (keys.Group name) = refl
one_scope config (keys.Gid gid) = refl
one_scope config (keys.GroupsOf name) = refl
one_scope config keys.Host = refl
one_scope config keys.Rules = refl

one_base : (config : Config) (key : Key) → is_of_one key ≡ true → (first_search config key).base ≡ config.base
one_base config (keys.User name) h = refl
one_base config (keys.Uid uid) h = refl
one_base config (keys.Group name) h = refl
one_base config (keys.Gid gid) h = refl
one_base config (keys.GroupsOf name) h = refl
one_base config keys.Host h = refl
one_base config keys.Rules h = absurd cc

-- the entries that fit among those sent are those that fit, as they are sent
pub fitting_sent : (config : Config) (key : Key) (told : List DirEntry) → is_of_one key ≡ true
    → filter (λ (e : DirEntry). fits config key e) (map (sent (first_search config key)) (found told (first_search config key))) ≡ map (sent (first_search config key)) (fitting config key told)
fitting_sent config key told one =
    ap (λ (es : List DirEntry). filter (λ (e : DirEntry). fits config key e) (map (sent (first_search config key)) es)) (found_near config (first_search config key) told (one_scope config key) (one_base config key one))
    ∙ kept_found (sent (first_search config key)) (λ (e : DirEntry). is_at_or_under config.base e) (λ (e : DirEntry). matches (first_search config key).filter e.attributes) (λ (e : DirEntry). fits config key e) (fits_sent config key) (fits_matched config key) told

-- ---- what they are found as

holds_sent : (e : DirEntry) (dn : List ℕ) (s : SearchValue) → s.types_only ≡ false → s.attributes ≡ group_attributes → holds (sent s e) dn ≡ holds e dn
holds_sent e dn s t a =
    let same : sent_attributes s.types_only s.attributes e.attributes ≡ sent_attributes false group_attributes e.attributes =
    ap (λ (b : Bool). sent_attributes b s.attributes e.attributes) t ∙ ap (λ (ns : List (List ℕ)). sent_attributes false ns e.attributes) a in
    ap (λ (xs : List Attribute). is_group xs && has_value (codes "member") (λ value. same_dn_text value dn) xs) same
    ∙ rw (says_sent group_attributes (codes "objectClass") (codes "posixGroup") group_keeps_class e.attributes, says_sent group_attributes (codes "objectClass") (codes "groupOfNames") group_keeps_class e.attributes, value_sent group_attributes (codes "member") (λ value. same_dn_text value dn) group_keeps_member e.attributes) refl

filter_same : {X : Type 0} (p q : X → Bool) → ((x : X) → p x ≡ q x) → (xs : List X) → filter p xs ≡ filter q xs
filter_same p q e [] = refl
filter_same {X} p q e (x ∷ xs) = ap (λ (b : Bool). cond b (x ∷ filter p xs) (filter p xs)) (e x) ∙ ap (λ (ys : List X). cond (q x) (x ∷ ys) ys) (filter_same p q e xs)

reached_sent : (entries : List DirEntry) (n : ℕ) (e : DirEntry) (s : SearchValue) → s.types_only ≡ false → s.attributes ≡ group_attributes → reached entries (suc n) (sent s e) ≡ reached entries (suc n) e
reached_sent entries n e s t a =
    ap (flat_map (λ (x : DirEntry). x ∷ reached entries n x)) (filter_same (λ (x : DirEntry). holds (sent s e) x.dn) (λ (x : DirEntry). holds e x.dn) (λ x. holds_sent e x.dn s t a) entries)

members_same : (base : Option (List (List Pair))) (told : List DirEntry) (level : ℕ) (e : DirEntry) (s : SearchValue) → s.types_only ≡ false → s.attributes ≡ group_attributes → members_under base told level (sent s e) ≡ members_under base told level e
members_same None told level e s t a = refl
members_same (Some base) told level e s t a = ap (λ (xs : List DirEntry). in_order (user_names xs)) (reached_sent (placed_in base told) level e s t a)

values_by : (xs ys : List Attribute) → is_group xs ≡ is_group ys → member_values xs ≡ member_values ys → cond (is_group xs) (member_values xs) [] ≡ cond (is_group ys) (member_values ys) []
values_by xs ys g m = ap (λ (b : Bool). cond b (member_values xs) []) g ∙ ap (λ (vs : List (List ℕ)). cond (is_group ys) vs []) m

values_sent : (e : DirEntry) (s : SearchValue) → s.types_only ≡ false → s.attributes ≡ group_attributes → group_values (sent s e) ≡ group_values e
values_sent e s t a =
    let same : sent_attributes s.types_only s.attributes e.attributes ≡ sent_attributes false group_attributes e.attributes =
    ap (λ (b : Bool). sent_attributes b s.attributes e.attributes) t ∙ ap (λ (ns : List (List ℕ)). sent_attributes false ns e.attributes) a in
    ap (λ (xs : List Attribute). cond (is_group xs) (member_values xs) []) same
    ∙ values_by (sent_attributes false group_attributes e.attributes) e.attributes
    (rw (says_sent group_attributes (codes "objectClass") (codes "posixGroup") group_keeps_class e.attributes, says_sent group_attributes (codes "objectClass") (codes "groupOfNames") group_keeps_class e.attributes) refl)
    (members_sent group_attributes group_keeps_member e.attributes)

reads_same : (base : Option (List (List Pair))) (told : List DirEntry) (level : ℕ) (e : DirEntry) (s : SearchValue) → s.types_only ≡ false → s.attributes ≡ group_attributes → reads_under base told level (sent s e) ≡ reads_under base told level e
reads_same None told level e s t a = refl
reads_same (Some base) told level e s t a = ap (λ (vs : List (List ℕ)). (rounds (member_way told base) (start_by base vs) (suc level)).asked) (values_sent e s t a)
  where
    start_by : List (List Pair) → List (List ℕ) → Rounds
    start_by base vs = beginning (dns_of (new_among (λ dn. ends_with dn base) [] vs)) (new_among (λ dn. ends_with dn base) [] vs)

-- what an entry is found as, as it is sent
pub found_sent : (config : Config) (key : Key) (told : List DirEntry) (e : DirEntry) → found_as config key told (sent (first_search config key) e) ≡ found_as config key told e
found_sent config (keys.User name) told e = ap (lookup.found_from records.User) (user_of_sent config (keys.User name) e refl)
found_sent config (keys.Uid uid) told e = ap (lookup.found_from records.User) (user_of_sent config (keys.Uid uid) e refl)
found_sent config (keys.Group name) told e =
    ap (λ (members : List (List ℕ)). lookup.found_from (lookup.with_members members) (lookup.group_of config (keys.Group name) (sent (first_search config (keys.Group name)) e))) (members_same (spelled config.base) told config.level e (first_search config (keys.Group name)) refl refl)
    ∙ ap (lookup.found_from (lookup.with_members (lookup.members_in config told e))) (group_of_sent config (keys.Group name) e refl)
found_sent config (keys.Gid gid) told e =
    ap (λ (members : List (List ℕ)). lookup.found_from (lookup.with_members members) (lookup.group_of config (keys.Gid gid) (sent (first_search config (keys.Gid gid)) e))) (members_same (spelled config.base) told config.level e (first_search config (keys.Gid gid)) refl refl)
    ∙ ap (lookup.found_from (lookup.with_members (lookup.members_in config told e))) (group_of_sent config (keys.Gid gid) e refl)
found_sent config (keys.GroupsOf name) told e = ap (lookup.found_from (lookup.with_groups (lookup.groups_in config told e))) (user_of_sent config (keys.GroupsOf name) e refl)
found_sent config keys.Host told e = ap (lookup.found_from records.Host) (host_of_sent config e)
found_sent config keys.Rules told e = refl

as_many : (h : DirEntry → DirEntry) (es : List DirEntry) → length (map h es) ≡ length es
as_many h [] = refl
as_many h (e ∷ es) = ap suc (as_many h es)

one_map : (f : DirEntry → Fetched) (h : DirEntry → DirEntry) → ((e : DirEntry) → f (h e) ≡ f e) → (es : List DirEntry) → one_of f (map h es) ≡ one_of f es
one_map f h same [] = refl
one_map f h same (e ∷ []) = same e
one_map f h same (e ∷ o ∷ os) = ap (λ (n : ℕ). fetches.Many (min (suc (suc n)) (2 ^ 32 - 1))) (as_many h os)

one_looked : (config : Config) (key : Key) (told : List DirEntry) → is_of_one key ≡ true → looked_up config told key ≡ one_of (λ e. found_as config key told e) (fitting config key told)
unfolding looked_up
one_looked config (keys.User name) told h = refl
one_looked config (keys.Uid uid) told h = refl
one_looked config (keys.Group name) told h = refl
one_looked config (keys.Gid gid) told h = refl
one_looked config (keys.GroupsOf name) told h = refl
one_looked config keys.Host told h = refl
one_looked config keys.Rules told h = absurd cc

-- the answer by what is sent is the lookup
pub looked_sent : (config : Config) (key : Key) (told given : List DirEntry) → is_of_one key ≡ true → given ≡ map (sent (first_search config key)) (found told (first_search config key))
    → one_of (λ e. found_as config key told e) (filter (λ (e : DirEntry). fits config key e) given) ≡ looked_up config told key
looked_sent config key told given one is =
    ap (λ (es : List DirEntry). one_of (λ e. found_as config key told e) (filter (λ (e : DirEntry). fits config key e) es)) is
    ∙ (ap (one_of (λ e. found_as config key told e)) (fitting_sent config key told one)
    ∙ (one_map (λ e. found_as config key told e) (sent (first_search config key)) (found_sent config key told) (fitting config key told)
    ∙ sym (one_looked config key told one)))

-- ---- further searches

where_map : (f g : DirEntry → List SearchValue) (h : DirEntry → DirEntry) → ((e : DirEntry) → f (h e) ≡ g e) → (es : List DirEntry) → where_one f (map h es) ≡ where_one g es
where_map f g h same [] = refl
where_map f g h same (e ∷ []) = same e
where_map f g h same (e ∷ o ∷ os) = refl

where_none : (es : List DirEntry) → where_one (λ e. []) es ≡ []
where_none [] = refl
where_none (e ∷ []) = refl
where_none (e ∷ o ∷ os) = refl

further_sent : (config : Config) (key : Key) (told : List DirEntry) (e : DirEntry) → further_of config key (sent (first_search config key) e) told ≡ further_of config key e told
further_sent config (keys.User name) told e = refl
further_sent config (keys.Uid uid) told e = refl
further_sent config (keys.Group name) told e = ap (map read_search) (reads_same (spelled config.base) told config.level e (first_search config (keys.Group name)) refl refl)
further_sent config (keys.Gid gid) told e = ap (map read_search) (reads_same (spelled config.base) told config.level e (first_search config (keys.Gid gid)) refl refl)
further_sent config (keys.GroupsOf name) told e = refl
further_sent config keys.Host told e = refl
further_sent config keys.Rules told e = refl

further_fitting : (config : Config) (key : Key) (told : List DirEntry) → is_of_one key ≡ true → where_one (λ e. further_of config key e told) (fitting config key told) ≡ further_searches config told key
further_fitting config (keys.User name) told h = where_none (fitting config (keys.User name) told)
further_fitting config (keys.Uid uid) told h = where_none (fitting config (keys.Uid uid) told)
further_fitting config (keys.Group name) told h = refl
further_fitting config (keys.Gid gid) told h = refl
further_fitting config (keys.GroupsOf name) told h = refl
further_fitting config keys.Host told h = where_none (fitting config keys.Host told)
further_fitting config keys.Rules told h = absurd cc

pub further_given : (config : Config) (key : Key) (told given : List DirEntry) → is_of_one key ≡ true → given ≡ map (sent (first_search config key)) (found told (first_search config key))
    → where_one (λ e. further_of config key e told) (filter (λ (e : DirEntry). fits config key e) given) ≡ further_searches config told key
further_given config key told given one is =
    ap (λ (es : List DirEntry). where_one (λ e. further_of config key e told) (filter (λ (e : DirEntry). fits config key e) es)) is
    ∙ (ap (where_one (λ e. further_of config key e told)) (fitting_sent config key told one)
    ∙ (where_map (λ e. further_of config key e told) (λ e. further_of config key e told) (sent (first_search config key)) (further_sent config key told) (fitting config key told)
    ∙ further_fitting config key told one))

-- ---- all that is found has a DN

spelled_dn : (r : Result (List (List Pair)) ℕ) (test : List (List Pair) → List (List Pair) → Bool) (base : Option (List (List Pair))) → both_meet test (result_ok r) base ≡ true → is_ok r ≡ true
spelled_dn (Ok dn) test base h = refl
spelled_dn (Err at) test base h = absurd cc

dn_step : (s : SearchValue) (e : DirEntry) (rest : List DirEntry) (b : Bool) → (b ≡ true → is_dn e.dn ≡ true) → have_dns (map (sent s) rest) ≡ true → have_dns (map (sent s) (cond b (e ∷ rest) rest)) ≡ true
dn_step s e rest true f h = and_from (is_dn e.dn) (have_dns (map (sent s) rest)) (f refl) h
dn_step s e rest false f h = h

pub found_dns : (s : SearchValue) (told : List DirEntry) → have_dns (map (sent s) (found told s)) ≡ true
found_dns s [] = refl
found_dns s (e ∷ es) =
    dn_step s e (found es s) (is_found s e)
    (λ h. spelled_dn (run (Start [] []) e.dn) (in_scope s.scope) (spelled s.base) (and_parts (both_meet (in_scope s.scope) (spelled e.dn) (spelled s.base)) (matches s.filter e.attributes) h).0)
    (found_dns s es)

kept_dn : (keeps : DirEntry → Bool) (entries : List DirEntry) (e : DirEntry) (b : Bool) (first : DirEntry) (rest : List DirEntry) → is_dn first.dn ≡ true → (rest ≡ e ∷ [] → is_dn e.dn ≡ true) → cond b (first ∷ rest) rest ≡ e ∷ [] → is_dn e.dn ≡ true
kept_dn keeps entries e true first rest d f h = subst (λ (x : DirEntry). is_dn x.dn ≡ true) (let same : first ≡ e = cc in same) d
kept_dn keeps entries e false first rest d f h = f h

-- the one that fits has a DN
pub one_dn : (keeps : DirEntry → Bool) (entries : List DirEntry) (e : DirEntry) → have_dns entries ≡ true → filter keeps entries ≡ e ∷ [] → is_dn e.dn ≡ true
one_dn keeps [] e d h = absurd cc
one_dn keeps (first ∷ rest) e d h =
    let p = and_parts (is_dn first.dn) (have_dns rest) d in
    kept_dn keeps rest e (keeps first) first (filter keeps rest) p.0 (λ k. one_dn keeps rest e p.1 k) h
