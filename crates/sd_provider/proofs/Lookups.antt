-- What a lookup comes to over a link to a server, by its mode.
use Rattle.std.proofs.Common.{◌≡◌, ℕ, ◌^◌, ◌<◌, Bool, true, false, cond, eqb, List, [], ◌∷◌, ◌++◌, ◌⊎◌, length, Option, Some, None, refl, sym, ap, subst, ◌∙◌, arith, inl, inr}
use Rattle.std.specs.Prelude.{◌&&◌, filter}
use Rattle.std.proofs.lemmas.Bool.{cases_Bool, and_parts, eq-eqb, eqb-true, ne_eqb}
use Rattle.sd_base.specs.declared.Why.{Why}
use Rattle.sd_base.specs.declared.Why.TheVariants as whys
use Rattle.sd_rules.specs.declared.keys.Key.{Key}
use Rattle.sd_rules.specs.declared.keys.Key.TheVariants as keys
use Rattle.sd_rules.specs.declared.records.Rule.{Rule}
use Rattle.sd_rules.specs.declared.records.Service.{Service}
use Rattle.sd_rules.specs.declared.records.Record.TheVariants as records
use Rattle.sd_rules.specs.declared.tasks.Fetched.{Fetched}
use Rattle.sd_rules.specs.declared.tasks.Fetched.TheVariants as fetches
use Rattle.sd_rules.specs.Scripts.{is_out_of_memory}
use Rattle.sd_conf.specs.declared.config.Config.{Config}
use Rattle.sd_ldap.specs.declared.entry.DirEntry.{DirEntry}
use Rattle.sd_ldap.specs.Values.{SearchValue}
use Rattle.sd_dial.specs.Entries.{Behind, shortest, four_octets}
use Rattle.sd_dial.specs.Rooms.{are_short}
use Rattle.sd_dial.specs.declared.searched.Searched.{Searched}
use Rattle.sd_dial.specs.declared.searched.Searched.TheVariants as searches
use Rattle.sd_client.specs.Talk.{Talk, search_message, failure_by_search}
use Rattle.sd_asking.specs.Laws.{CutDecides, IndefiniteDecides, CodeDecides}
use Rattle.sd_asking.specs.Sizes.{content_size, is_too_long}
use Rattle.sd_asking.specs.Settled.{IsSettled}
use Rattle.sd_stub.specs.declared.Mode.{Mode}
use Rattle.sd_stub.specs.declared.Mode.TheVariants as modes
use Rattle.sd_stub_link.specs.Distinct.{have_own_dns}
use Rattle.sd_stub_link.specs.Modes.{is_down}
use Rattle.sd_stub_link.specs.Standing.{Standing, made, rest_of, coming_of, behind_of}
use Rattle.sd_fetch.specs.Exchanging.{Exchange, Went, Goes, Gave, AllGave, IsLast, IsOfServer, IsRefusal, FailedBy, EndsBy}
use Rattle.sd_fetch.specs.Searches.{first_search}
use Rattle.sd_fetch.specs.Lookup.{looked_up, fits, rules_among, services_among}
use Rattle.sd_fetch.specs.Told.{searches_of, first_failure, IsToldLookup}
use Rattle.sd_fetch.specs.Looked.{given_of, IsOneOf, AreRules, IsAnswerOf, Answers, BeginsBy, Looked}
use Rattle.sd_provider.specs.Servers.{behind_in, HasCode, fetched_told, fetched_behind, is_empty_code, is_server_code, fetched_coded, is_empty_mode, has_nothing, gives_nothing, fetched_in}
use Rattle.sd_provider.proofs.OwnDns.{neither}
use Rattle.sd_provider.proofs.Binds.{fresh, fresh_settled}
use Rattle.sd_provider.proofs.Searches.{telling, Finds, decision, by_decision, searched_is, where_read, by_code, in_cut, in_indefinite, in_code}
use Rattle.sd_provider.proofs.Sounds.{sound_first}

-- memory was wanting
abbrev pub IsWanting : Fetched → Talk Standing → Type 0
IsWanting result new = (is_out_of_memory result ≡ true) ⊎ ((new.failed ≡ Some whys.Link) × (new.link.starved ≡ true))

-- memory was wanting, or this is the answer
abbrev pub Comes : Fetched → Talk Standing → Fetched → Type 0
Comes result new answer = (is_out_of_memory result ≡ true) ⊎ (((new.failed ≡ Some whys.Link) × (new.link.starved ≡ true)) ⊎ (result ≡ answer))

-- what a call of fetch says of a client
pub record IsLookup (config : Config) (key : Key) (result : Fetched) (old new : Talk Standing) : Type 0 where
  pub looked : Looked telling config key old result new
  pub told : (b : Behind) → behind_of old.link ≡ Some b → IsSettled old (coming_of old.link) → IsToldLookup result (first_failure b (length old.received) old.next (searches_of config b.entries key)) (looked_up config b.entries key) (new.link.starved ≡ true) (rest_of new.link ≡ []) (coming_of new.link)

-- ---- a failure of the last search is the client's

gave_well : (s : Searched) → Gave s → failure_by_search s ≡ None
gave_well (searches.Entries given) g = refl
gave_well (searches.Code code) g = refl
gave_well (searches.Failed why) g = absurd g
gave_well searches.Memory g = absurd g

last_fails : (before : List Exchange) (x : Exchange) (old new : Talk Standing) → Goes telling old (before ++ x ∷ []) new → AllGave before → old.failed ≡ None → new.failed ≡ failure_by_search x.searched
last_fails [] x old new g gave well = ap (λ (talk : Talk Standing). talk.failed) (sym g.2) ∙ g.1.fails well
last_fails (y ∷ before) x old new g gave well = last_fails before x g.0 new g.2 gave.1 (g.1.fails well ∙ gave_well y.searched gave.0)

pub last_failed : (s : Searched) (exchanges : List Exchange) (old new : Talk Standing) → Goes telling old exchanges new → IsLast s exchanges → old.failed ≡ None → new.failed ≡ failure_by_search s
last_failed s exchanges old new g last well = last_fails last.before (record { search = last.search; searched = s }) old new (subst (λ (xs : List Exchange). Goes telling old xs new) last.are g) last.gave well

link_failed : (exchanges : List Exchange) (old new : Talk Standing) → Goes telling old exchanges new → FailedBy whys.Link exchanges → old.failed ≡ None → new.failed ≡ Some whys.Link
link_failed exchanges old new g by well =
    elim by [
      | inl last ↦ last_failed (searches.Failed whys.Link) exchanges old new g last well
      | inr coded ↦ let e = coded.1 in absurd cc
    ]

-- ---- the result by the directory told

by_told : (result : Fetched) (failure : Option Why) (lookup : Fetched) (new : Talk Standing) → IsToldLookup result failure lookup (new.link.starved ≡ true) (rest_of new.link ≡ []) (coming_of new.link)
    → (result ≡ fetches.Failed whys.Link → new.failed ≡ Some whys.Link) → Comes result new (fetched_told failure lookup)
by_told (fetches.Found found) failure lookup new h fails = inr (inr (h.answer ∙ sym (ap (λ (o : Option Why). fetched_told o lookup) h.within)))
by_told fetches.Absent failure lookup new h fails = inr (inr (h.answer ∙ sym (ap (λ (o : Option Why). fetched_told o lookup) h.within)))
by_told (fetches.Many count) failure lookup new h fails = inr (inr (h.answer ∙ sym (ap (λ (o : Option Why). fetched_told o lookup) h.within)))
by_told (fetches.Refused code) failure lookup new h fails = absurd h
by_told (fetches.Failed whys.Link) failure lookup new h fails =
    elim h [
      | inl starved ↦ inr (inl (fails refl, starved))
      | inr ends ↦ inr (inr (sym (ap (λ (o : Option Why). fetched_told o lookup) (ends.1 (ap (λ (rest : List ℕ). Some rest) ends.0)))))
    ]
by_told (fetches.Failed (whys.Bytes at)) failure lookup new h fails = inr (inr (sym (ap (λ (o : Option Why). fetched_told o lookup) h)))
by_told (fetches.Failed (whys.Message tag)) failure lookup new h fails = inr (inr (sym (ap (λ (o : Option Why). fetched_told o lookup) h)))
by_told (fetches.Failed (whys.Flood count)) failure lookup new h fails = inr (inr (sym (ap (λ (o : Option Why). fetched_told o lookup) h)))
by_told (fetches.Failed (whys.Code code)) failure lookup new h fails = absurd h
by_told fetches.Memory failure lookup new h fails = inl refl

ends_failed : (result : Fetched) (exchanges : List Exchange) → EndsBy result exchanges → result ≡ fetches.Failed whys.Link → FailedBy whys.Link exchanges
ends_failed result exchanges ends e = subst (λ (r : Fetched). EndsBy r exchanges) e ends

by_behind : (config : Config) (key : Key) (entries : List DirEntry) (mode : Mode) (result : Fetched) (new : Talk Standing) (b : Behind) → IsLookup config key result (fresh entries mode) new
    → behind_of (made entries mode [] 0) ≡ Some b → Comes result new (fetched_behind b config key)
by_behind config key entries mode result new b is known =
    by_told result (first_failure b 0 1 (searches_of config b.entries key)) (looked_up config b.entries key) new (is.told b known (fresh_settled entries mode))
    (λ e. link_failed is.looked.exchanges (fresh entries mode) new is.looked.in_order (ends_failed result is.looked.exchanges is.looked.ends e) refl)

-- ---- a first search that ends the lookup

first_in : (before : List Exchange) (last x : Exchange) (xs : List Exchange) → x ∷ xs ≡ before ++ last ∷ [] → AllGave before → (Gave x.searched → ⊥) → (x ≡ last) × (xs ≡ [])
first_in [] last x xs e gave stop = (cc, cc)
first_in (y ∷ ys) last x xs e gave stop = let same : x ≡ y = cc in absurd (stop (subst (λ (z : Exchange). Gave z.searched) (sym same) gave.0))

first_last : (s : Searched) (x : Exchange) (xs : List Exchange) → IsLast s (x ∷ xs) → (Gave x.searched → ⊥) → (x.searched ≡ s) × (xs ≡ [])
first_last s x xs last stop = let f = first_in last.before (record { search = last.search; searched = s }) x xs last.are last.gave stop in (ap (λ (z : Exchange). z.searched) f.0, f.1)

-- what a lookup comes to by a search that ends it
abbrev pub ends_as : Searched → Fetched
ends_as (searches.Entries given) = fetches.Absent
ends_as (searches.Code code) = cond (is_server_code code) (fetches.Failed (whys.Code code)) (fetches.Refused code)
ends_as (searches.Failed why) = fetches.Failed why
ends_as searches.Memory = fetches.Memory

server_ends : (code : ℕ) → IsOfServer code → ends_as (searches.Code code) ≡ fetches.Failed (whys.Code code)
server_ends code (inl e) = subst (λ (n : ℕ). ends_as (searches.Code n) ≡ fetches.Failed (whys.Code n)) (sym e) refl
server_ends code (inr e) = subst (λ (n : ℕ). ends_as (searches.Code n) ≡ fetches.Failed (whys.Code n)) (sym e) refl

refusal_ends : (code : ℕ) → IsRefusal code → ends_as (searches.Code code) ≡ fetches.Refused code
refusal_ends code is = rw (ne_eqb code 51 is.ready, ne_eqb code 52 is.there) refl

abbrev Stops : Fetched → Exchange → List Exchange → Type 0
Stops result x xs = (result ≡ fetches.Memory) ⊎ ((result ≡ ends_as x.searched) × (xs ≡ []))

failed_stops : (why : Why) (x : Exchange) (xs : List Exchange) → FailedBy why (x ∷ xs) → (Gave x.searched → ⊥) → Stops (fetches.Failed why) x xs
failed_stops why x xs (inl last) stop = let f = first_last (searches.Failed why) x xs last stop in inr (sym (ap ends_as f.0), f.1)
failed_stops why x xs (inr coded) stop =
    let code = coded.0 in
    let f = first_last (searches.Code code) x xs coded.3 stop in
    inr (ap fetches.Failed coded.1 ∙ sym (ap ends_as f.0 ∙ server_ends code coded.2), f.1)

stopped : (result : Fetched) (x : Exchange) (xs : List Exchange) → EndsBy result (x ∷ xs) → (Gave x.searched → ⊥) → Stops result x xs
stopped (fetches.Found found) x xs e stop = absurd (stop e.0)
stopped fetches.Absent x xs e stop = absurd (stop e.0)
stopped (fetches.Many count) x xs e stop = absurd (stop e.0)
stopped (fetches.Refused code) x xs e stop = let f = first_last (searches.Code code) x xs e.1 stop in inr (sym (ap ends_as f.0 ∙ refusal_ends code e.0), f.1)
stopped (fetches.Failed why) x xs e stop = failed_stops why x xs e stop
stopped fetches.Memory x xs e stop = inl refl

not_gave : (s t : Searched) → s ≡ t → (Gave t → ⊥) → Gave s → ⊥
not_gave s t e stop g = stop (subst Gave e g)

module _ (result : Fetched) (x : Exchange) (xs : List Exchange) (old between new : Talk Standing) (well : old.failed ≡ None) (went : Went telling old x between) (goes : Goes telling between xs new) (ends : EndsBy result (x ∷ xs)) where
  by_memory : x.searched ≡ searches.Memory → IsWanting result new
  by_memory e =
      elim (stopped result x xs ends (not_gave x.searched searches.Memory e (λ g. g))) [
        | inl none ↦ inl (ap is_out_of_memory none)
        | inr as_first ↦ inl (ap is_out_of_memory (as_first.0 ∙ ap ends_as e))
      ]

  by_starved : x.searched ≡ searches.Failed whys.Link → between.link.starved ≡ true → IsWanting result new
  by_starved e starved =
      elim (stopped result x xs ends (not_gave x.searched (searches.Failed whys.Link) e (λ g. g))) [
        | inl none ↦ inl (ap is_out_of_memory none)
        | inr as_first ↦
            let same : between ≡ new = subst (λ (list : List Exchange). Goes telling between list new) as_first.1 goes in
            inr (ap (λ (talk : Talk Standing). talk.failed) (sym same) ∙ (went.fails well ∙ ap failure_by_search e), ap (λ (talk : Talk Standing). talk.link.starved) (sym same) ∙ starved)
      ]

  by_end : (answer : Searched) → x.searched ≡ answer → (Gave answer → ⊥) → Comes result new (ends_as answer)
  by_end answer e stop =
      elim (stopped result x xs ends (not_gave x.searched answer e stop)) [
        | inl none ↦ inl (ap is_out_of_memory none)
        | inr as_first ↦ inr (inr (as_first.0 ∙ ap ends_as e))
      ]

  wanting : (answer : Fetched) → IsWanting result new → Comes result new answer
  wanting answer (inl memory) = inl memory
  wanting answer (inr starved) = inr (inl starved)

  by_stop : (answer : Searched) → Finds x.searched between answer → (Gave answer → ⊥) → Comes result new (ends_as answer)
  by_stop answer finds stop =
      elim finds [
        | inl memory ↦ wanting (ends_as answer) (by_memory memory)
        | inr (inl starved) ↦ wanting (ends_as answer) (by_starved starved.0 starved.1)
        | inr (inr is) ↦ by_end answer is stop
      ]

-- ---- a first search that gives no entries

empty_list : {A : Type 0} (xs : List A) → eqb (length xs) 0 ≡ true → xs ≡ []
empty_list [] e = refl
empty_list (x ∷ xs) e = absurd (omega (arith, eqb-true (length (x ∷ xs)) 0 e))

nothing_rules : (config : Config) (rules : List Rule) (services : List Service) → (eqb (length rules) 0 && eqb (length services) 0) ≡ true → fetches.Found (records.Rules (record { rules = rules; services = services })) ≡ looked_up config [] keys.Rules
unfolding looked_up
nothing_rules config rules services e =
    let p = and_parts (eqb (length rules) 0) (eqb (length services) 0) e in
    ap (λ (list : List Rule). fetches.Found (records.Rules (record { rules = list; services = services }))) (empty_list rules p.0)
    ∙ ap (λ (list : List Service). fetches.Found (records.Rules (record { rules = []; services = list }))) (empty_list services p.1)

rules_are : (config : Config) (x : Exchange) (xs : List Exchange) (result : Fetched) → AreRules config (x ∷ xs) result → gives_nothing result ≡ true → result ≡ looked_up config [] keys.Rules
rules_are config x [] result answer nothing = absurd answer
rules_are config x (y ∷ []) result answer nothing =
    let rules = rules_among config (given_of x.searched) in
    let services = services_among config (given_of y.searched) in
    answer.1 ∙ nothing_rules config rules services (sym (ap gives_nothing answer.1) ∙ nothing)
rules_are config x (y ∷ z ∷ zs) result answer nothing = absurd answer

-- where no entries are given, the answer is that of no entries
nothing_of : (config : Config) (key : Key) (x : Exchange) (xs : List Exchange) (result : Fetched) → given_of x.searched ≡ [] → IsAnswerOf config key (x ∷ xs) result → gives_nothing result ≡ true → result ≡ looked_up config [] key
unfolding looked_up
nothing_of config (keys.User name) x xs result none answer nothing = subst (λ (given : List DirEntry). IsOneOf config (keys.User name) (filter (λ (e : DirEntry). fits config (keys.User name) e) given) result) none answer
nothing_of config (keys.Uid uid) x xs result none answer nothing = subst (λ (given : List DirEntry). IsOneOf config (keys.Uid uid) (filter (λ (e : DirEntry). fits config (keys.Uid uid) e) given) result) none answer
nothing_of config (keys.Group name) x xs result none answer nothing = subst (λ (given : List DirEntry). IsOneOf config (keys.Group name) (filter (λ (e : DirEntry). fits config (keys.Group name) e) given) result) none answer
nothing_of config (keys.Gid gid) x xs result none answer nothing = subst (λ (given : List DirEntry). IsOneOf config (keys.Gid gid) (filter (λ (e : DirEntry). fits config (keys.Gid gid) e) given) result) none answer
nothing_of config (keys.GroupsOf name) x xs result none answer nothing = subst (λ (given : List DirEntry). IsOneOf config (keys.GroupsOf name) (filter (λ (e : DirEntry). fits config (keys.GroupsOf name) e) given) result) none answer
nothing_of config keys.Host x xs result none answer nothing = subst (λ (given : List DirEntry). IsOneOf config keys.Host (filter (λ (e : DirEntry). fits config keys.Host e) given) result) none answer
nothing_of config keys.Rules x xs result none answer nothing = rules_are config x xs result answer nothing

empty_comes : (config : Config) (key : Key) (x : Exchange) (xs : List Exchange) (result : Fetched) (new : Talk Standing) → given_of x.searched ≡ [] → Answers config key (x ∷ xs) result → (gives_nothing result ≡ false) ⊎ Comes result new (looked_up config [] key)
empty_comes config key x xs (fetches.Found found) new none answers =
    elim (cases_Bool (has_nothing found)) [
      | inl nothing ↦ inr (inr (inr (nothing_of config key x xs (fetches.Found found) none answers nothing)))
      | inr some ↦ inl some
    ]
empty_comes config key x xs fetches.Absent new none answers = inr (inr (inr (nothing_of config key x xs fetches.Absent none answers refl)))
empty_comes config key x xs (fetches.Many count) new none answers = inl refl
empty_comes config key x xs (fetches.Refused code) new none answers = inl refl
empty_comes config key x xs (fetches.Failed why) new none answers = inl refl
empty_comes config key x xs fetches.Memory new none answers = inl refl

no_entries : (code : ℕ) → given_of (by_code code) ≡ []
no_entries code =
    elim (cases_Bool (eqb code 0)) [
      | inl success ↦ rw success refl
      | inr other ↦ rw other refl
    ]

-- ---- together

cond_stops : (test : Bool) (a b : Searched) → (Gave a → ⊥) → (Gave b → ⊥) → Gave (cond test a b) → ⊥
cond_stops true a b f g h = f h
cond_stops false a b f g h = g h

cond_ends : (test : Bool) (a b : Searched) → ends_as (cond test a b) ≡ cond test (ends_as a) (ends_as b)
cond_ends true a b = refl
cond_ends false a b = refl

module _ (entries : List DirEntry) (mode : Mode) (config : Config) (key : Key) (result : Fetched) (new : Talk Standing) where
  first_finds : (x : Exchange) (between : Talk Standing) (answer : Searched) → Went telling (fresh entries mode) x between → x.search ≡ first_search config key → by_decision (decision (fresh entries mode) (first_search config key)) ≡ answer → Finds x.searched between answer
  first_finds x between answer went begins e =
      subst (Finds x.searched between) (ap (λ (s : SearchValue). by_decision (decision (fresh entries mode) s)) begins ∙ e) (searched_is (fresh entries mode) between x went (fresh_settled entries mode))

  first_comes : (exchanges : List Exchange) (answer : Searched) → Goes telling (fresh entries mode) exchanges new → BeginsBy config key exchanges result → EndsBy result exchanges → by_decision (decision (fresh entries mode) (first_search config key)) ≡ answer → (Gave answer → ⊥) → Comes result new (ends_as answer)
  first_comes [] answer g begins ends e stop = inl (ap is_out_of_memory begins)
  first_comes (x ∷ xs) answer g begins ends e stop = by_stop result x xs (fresh entries mode) g.0 new refl g.1 g.2 ends answer (first_finds x g.0 answer g.1 begins e) stop

  empty_first : (exchanges : List Exchange) (code : ℕ) → Goes telling (fresh entries mode) exchanges new → BeginsBy config key exchanges result → EndsBy result exchanges → Answers config key exchanges result
      → by_decision (decision (fresh entries mode) (first_search config key)) ≡ by_code code → (gives_nothing result ≡ false) ⊎ Comes result new (looked_up config [] key)
  empty_first [] code g begins ends answers e = inr (inl (ap is_out_of_memory begins))
  empty_first (x ∷ xs) code g begins ends answers e =
      let old = fresh entries mode in
      elim (first_finds x g.0 (by_code code) g.1 begins e) [
        | inl memory ↦ inr (wanting result x xs old g.0 new refl g.1 g.2 ends (looked_up config [] key) (by_memory result x xs old g.0 new refl g.1 g.2 ends memory))
        | inr (inl starved) ↦ inr (wanting result x xs old g.0 new refl g.1 g.2 ends (looked_up config [] key) (by_starved result x xs old g.0 new refl g.1 g.2 ends starved.0 starved.1))
        | inr (inr is) ↦ empty_comes config key x xs result new (ap given_of is ∙ no_entries code) answers
      ]

some_code : (code : ℕ) → is_empty_code code ≡ false → by_code code ≡ searches.Code code
some_code code e = let n = neither (eqb code 0) (eqb code 32) e in rw n.0 refl

code_stops : (code : ℕ) → is_empty_code code ≡ false → Gave (by_code code) → ⊥
code_stops code e g =
    let n = neither (eqb code 0) (eqb code 32) e in
    let is : code ≡ 32 = subst Gave (some_code code e) g in
    let clash : true ≡ false = sym (eq-eqb code 32 is) ∙ n.1 in
    cc

code_ends : (config : Config) (key : Key) (code : ℕ) → is_empty_code code ≡ false → ends_as (by_code code) ≡ fetched_coded config key code
code_ends config key code e = ap ends_as (some_code code e) ∙ sym (ap (λ (t : Bool). cond t (looked_up config [] key) (ends_as (searches.Code code))) e)

-- late where a server that gives no entries gave something else
abbrev pub IsLate : Mode → Fetched → Type 0
IsLate mode result = (is_empty_mode mode ≡ true) × (gives_nothing result ≡ false)

abbrev too_long : Config → Key → Bool
too_long config key = is_too_long (content_size (search_message 1 (first_search config key)))

in_some_code : CodeDecides → (entries : List DirEntry) (code : ℕ) (config : Config) (key : Key) (result : Fetched) (new : Talk Standing) → code < 2 ^ 32 → is_empty_code code ≡ false → IsLookup config key result (fresh entries (modes.Code code)) new
    → Comes result new (cond (too_long config key) (fetches.Failed whys.Link) (fetched_coded config key code))
in_some_code law entries code config key result new few some is =
    let s = first_search config key in
    let l = is.looked in
    let answer = where_read 1 s (by_code code) in
    subst (Comes result new) (cond_ends (too_long config key) (searches.Failed whys.Link) (by_code code) ∙ ap (λ (f : Fetched). cond (too_long config key) (fetches.Failed whys.Link) f) (code_ends config key code some))
    (first_comes entries (modes.Code code) config key result new l.exchanges answer l.in_order l.begins l.ends (in_code law code few entries s (sound_first config key)) (cond_stops (too_long config key) (searches.Failed whys.Link) (by_code code) (λ g. g) (code_stops code some)))

in_empty_code : CodeDecides → (entries : List DirEntry) (code : ℕ) (config : Config) (key : Key) (result : Fetched) (new : Talk Standing) → code < 2 ^ 32 → is_empty_code code ≡ true → IsLookup config key result (fresh entries (modes.Code code)) new
    → (gives_nothing result ≡ false) ⊎ Comes result new (cond (too_long config key) (fetches.Failed whys.Link) (fetched_coded config key code))
in_empty_code law entries code config key result new few empty is =
    let s = first_search config key in
    let l = is.looked in
    let by = in_code law code few entries s (sound_first config key) in
    let coded : fetched_coded config key code ≡ looked_up config [] key = ap (λ (t : Bool). cond t (looked_up config [] key) (ends_as (searches.Code code))) empty in
    let target = cond (too_long config key) (fetches.Failed whys.Link) (fetched_coded config key code) in
    elim (cases_Bool (too_long config key)) [
      | inl long ↦
          let is_target : fetches.Failed whys.Link ≡ target = sym (ap (λ (t : Bool). cond t (fetches.Failed whys.Link) (fetched_coded config key code)) long) in
          inr (subst (Comes result new) is_target
          (first_comes entries (modes.Code code) config key result new l.exchanges (searches.Failed whys.Link) l.in_order l.begins l.ends (by ∙ ap (λ (t : Bool). cond t (searches.Failed whys.Link) (by_code code)) long) (λ g. g)))
      | inr fits_in ↦
          let is_target : looked_up config [] key ≡ target = sym (ap (λ (t : Bool). cond t (fetches.Failed whys.Link) (fetched_coded config key code)) fits_in ∙ coded) in
          elim (empty_first entries (modes.Code code) config key result new l.exchanges code l.in_order l.begins l.ends l.answers (by ∙ ap (λ (t : Bool). cond t (searches.Failed whys.Link) (by_code code)) fits_in)) [
            | inl late ↦ inl late
            | inr comes ↦ inr (subst (Comes result new) is_target comes)
          ]
    ]

in_any_code : CodeDecides → (entries : List DirEntry) (code : ℕ) (config : Config) (key : Key) (result : Fetched) (new : Talk Standing) → code < 2 ^ 32 → IsLookup config key result (fresh entries (modes.Code code)) new
    → IsLate (modes.Code code) result ⊎ Comes result new (cond (too_long config key) (fetches.Failed whys.Link) (fetched_coded config key code))
in_any_code law entries code config key result new few is =
    elim (cases_Bool (is_empty_code code)) [
      | inl empty ↦
          elim (in_empty_code law entries code config key result new few empty is) [
            | inl late ↦ inl (empty, late)
            | inr comes ↦ inr comes
          ]
      | inr some ↦ inr (in_some_code law entries code config key result new few some is)
    ]

in_indefinite_mode : IndefiniteDecides → (entries : List DirEntry) (config : Config) (key : Key) (result : Fetched) (new : Talk Standing) → IsLookup config key result (fresh entries modes.Indef) new
    → Comes result new (cond (too_long config key) (fetches.Failed whys.Link) (fetches.Failed (whys.Bytes 1)))
in_indefinite_mode law entries config key result new is =
    let s = first_search config key in
    let l = is.looked in
    subst (Comes result new) (cond_ends (too_long config key) (searches.Failed whys.Link) (searches.Failed (whys.Bytes 1)))
    (first_comes entries modes.Indef config key result new l.exchanges (where_read 1 s (searches.Failed (whys.Bytes 1))) l.in_order l.begins l.ends (in_indefinite law entries s (sound_first config key)) (cond_stops (too_long config key) (searches.Failed whys.Link) (searches.Failed (whys.Bytes 1)) (λ g. g) (λ g. g)))

in_cut_mode : CutDecides → (entries : List DirEntry) (config : Config) (key : Key) (result : Fetched) (new : Talk Standing) → IsLookup config key result (fresh entries modes.Cut) new → Comes result new (fetches.Failed whys.Link)
in_cut_mode law entries config key result new is =
    let l = is.looked in
    first_comes entries modes.Cut config key result new l.exchanges (searches.Failed whys.Link) l.in_order l.begins l.ends (in_cut law entries (first_search config key) (sound_first config key)) (λ g. g)

pub fetched_by_mode : CutDecides → IndefiniteDecides → CodeDecides → (entries : List DirEntry) (mode : Mode) (config : Config) (key : Key) (result : Fetched) (new : Talk Standing) → is_down mode ≡ false → HasCode mode → have_own_dns entries ≡ true → are_short entries ≡ true
    → IsLookup config key result (fresh entries mode) new → IsLate mode result ⊎ Comes result new (fetched_in mode config entries key)
unfolding fetched_in
fetched_by_mode cut indefinite coded entries modes.Up config key result new takes has own short is = inr (by_behind config key entries modes.Up result new (behind_in shortest entries) is (rw (own, short) refl))
fetched_by_mode cut indefinite coded entries modes.Long config key result new takes has own short is = inr (by_behind config key entries modes.Long result new (behind_in four_octets entries) is (rw (own, short) refl))
fetched_by_mode cut indefinite coded entries modes.Down config key result new takes has own short is = absurd cc
fetched_by_mode cut indefinite coded entries modes.Cut config key result new takes has own short is = inr (in_cut_mode cut entries config key result new is)
fetched_by_mode cut indefinite coded entries modes.Indef config key result new takes has own short is = inr (in_indefinite_mode indefinite entries config key result new is)
fetched_by_mode cut indefinite coded entries (modes.Code code) config key result new takes has own short is = in_any_code coded entries code config key result new has is
