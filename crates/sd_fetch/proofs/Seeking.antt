-- A lookup by its first search and what follows it.
use Rattle.std.proofs.Common.{◌≡◌, ◌≢◌, ℕ, ◌+◌, Bool, true, false, List, [], ◌∷◌, ◌++◌, length, map, Option, Some, None, Result, Ok, Err, refl, sym, ap, subst, ◌∙◌, inl, inr, ◌⊎◌}
use Rattle.std.proofs.lemmas.List.{append-nil}
use Rattle.std.specs.Prelude.{filter, IfOk}
use Rattle.sd_base.specs.declared.Why.{Why}
use Rattle.sd_base.specs.declared.Why.TheVariants as whys
use Rattle.sd_rules.specs.declared.keys.Key.{Key}
use Rattle.sd_rules.specs.declared.keys.Key.TheVariants as keys
use Rattle.sd_rules.specs.declared.tasks.Fetched.{Fetched}
use Rattle.sd_rules.specs.declared.tasks.Fetched.TheVariants as fetches
use Rattle.sd_conf.specs.declared.config.Config.{Config}
use Rattle.sd_ldap.specs.declared.entry.DirEntry.{DirEntry}
use Rattle.sd_ldap.specs.Values.{SearchValue}
use Rattle.sd_match.specs.Answering.{found, sent}
use Rattle.sd_dial.specs.Entries.{Behind}
use Rattle.sd_dial.specs.declared.searched.Searched.{Searched}
use Rattle.sd_dial.specs.declared.searched.Searched.TheVariants as searches
use Rattle.sd_client.specs.Talk.{Talk}
use Rattle.sd_nested.specs.Searches.{IsAnswer, read_search, holder_search}
use Rattle.sd_fetch.specs.declared.finding.Early.{Early}
use Rattle.sd_fetch.specs.declared.finding.Early.TheVariants as earlies
use Rattle.sd_fetch.specs.Searches.{first_search, rules_search, services_search, is_of_one}
use Rattle.sd_fetch.specs.Lookup.{fits, fitting, found_as, one_of, looked_up}
use Rattle.sd_fetch.specs.Exchanging.{Telling, Exchange, Went, Goes, Gave, AllGave, IsLast, IsOfServer, IsRefusal, FailedBy, IsQuiet}
use Rattle.sd_fetch.specs.Early.{FailsBy, EndsEarly, Finds, Asked, Tried}
use Rattle.sd_fetch.specs.Rounding.{EndsIn, SearchedOf, searches_in, early_of}
use Rattle.sd_fetch.specs.Further.{Further, further_of, have_dns}
use Rattle.sd_fetch.specs.Told.{where_one, reads_of, holders_of, further_searches, searches_of, first_failure, IsLimit}
use Rattle.sd_fetch.specs.Looked.{given_of, IsAnswerOf, IsOneOf}
use Rattle.sd_fetch.specs.Sought.{IsToldSought, Sought}
use Rattle.sd_fetch.proofs.Answers.{IsPlain, answered}
use Rattle.sd_fetch.proofs.Walk.{Stands, ArePlain, stands_on, past_first, walked, walk_failed, walk_code}
use Rattle.sd_fetch.proofs.Found.{further_given, found_dns, looked_sent}

-- ---- what was found

pub gave : (given : List DirEntry) (searched : Searched) → Finds (Ok given) searched → Gave searched
gave given (searches.Entries entries) f = tt
gave given (searches.Code code) f = f.0
gave given (searches.Failed why) f = absurd f
gave given searches.Memory f = absurd f

pub is_given : (given : List DirEntry) (searched : Searched) → Finds (Ok given) searched → given ≡ given_of searched
is_given given (searches.Entries entries) f = f
is_given given (searches.Code code) f = f.1
is_given given (searches.Failed why) f = absurd f
is_given given searches.Memory f = absurd f

pub sent_given : (all given : List DirEntry) (s : SearchValue) (searched : Searched) → Finds (Ok given) searched → IsAnswer all s searched → given ≡ map (sent s) (found all s)
sent_given all given s (searches.Entries entries) f h = f ∙ h
sent_given all given s (searches.Code code) f h = f.1 ∙ ap (map (sent s)) (sym h.1)
sent_given all given s (searches.Failed why) f h = absurd f
sent_given all given s searches.Memory f h = absurd f

pub first_plain : (config : Config) (key : Key) → IsPlain (first_search config key)
first_plain config (keys.User name) = record { unlimited = refl; supported = refl }
first_plain config (keys.Uid uid) = record { unlimited = refl; supported = refl }
first_plain config (keys.Group name) = record { unlimited = refl; supported = refl }
first_plain config (keys.Gid gid) = record { unlimited = refl; supported = refl }
first_plain config (keys.GroupsOf name) = record { unlimited = refl; supported = refl }
first_plain config keys.Host = record { unlimited = refl; supported = refl }
first_plain config keys.Rules = record { unlimited = refl; supported = refl }

pub given_sent : {L : Type 0} (t : Telling L) (config : Config) (key : Key) (old mid : Talk L) (given : List DirEntry) (b : Behind) → Asked t old (first_search config key) (Ok given) mid → Stands t old b
    → given ≡ map (sent (first_search config key)) (found b.entries (first_search config key))
given_sent t config key old mid given b a s =
    sent_given b.entries given (first_search config key) a.searched a.finds
    (answered b (length old.received) old.next (first_search config key) a.searched (first_plain config key) (a.went.by_directory b s.is s.quiet))

-- ---- plain searches

plain_map : (f : List ℕ → SearchValue) → ((dn : List ℕ) → IsPlain (f dn)) → (dns : List (List ℕ)) → ArePlain (map f dns)
plain_map f p [] = tt
plain_map f p (dn ∷ dns) = (p dn, plain_map f p dns)

plain_reads : (config : Config) (told : List DirEntry) (e : DirEntry) → ArePlain (reads_of config told e)
plain_reads config told e = plain_map read_search (λ dn. record { unlimited = refl; supported = refl }) _

plain_holders : (config : Config) (told : List DirEntry) (e : DirEntry) → ArePlain (holders_of config told e)
plain_holders config told e = plain_map (holder_search config.base) (λ dn. record { unlimited = refl; supported = refl }) _

plain_where : (f : DirEntry → List SearchValue) → ((e : DirEntry) → ArePlain (f e)) → (es : List DirEntry) → ArePlain (where_one f es)
plain_where f p [] = tt
plain_where f p (e ∷ []) = p e
plain_where f p (e ∷ o ∷ os) = tt

pub plain_further : (config : Config) (told : List DirEntry) (key : Key) → ArePlain (further_searches config told key)
plain_further config told (keys.User name) = tt
plain_further config told (keys.Uid uid) = tt
plain_further config told (keys.Group name) = plain_where (reads_of config told) (plain_reads config told) (fitting config (keys.Group name) told)
plain_further config told (keys.Gid gid) = plain_where (reads_of config told) (plain_reads config told) (fitting config (keys.Gid gid) told)
plain_further config told (keys.GroupsOf name) = plain_where (holders_of config told) (plain_holders config told) (fitting config (keys.GroupsOf name) told)
plain_further config told keys.Host = tt
plain_further config told keys.Rules = (record { unlimited = refl; supported = refl }, tt)

plain_front : (ss rest : List SearchValue) → ArePlain (ss ++ rest) → ArePlain ss
plain_front [] rest h = tt
plain_front (s ∷ ss) rest h = (h.0, plain_front ss rest h.1)

-- ---- over any link

last_more : (searched : Searched) (x : Exchange) (xs : List Exchange) → Gave x.searched → IsLast searched xs → IsLast searched (x ∷ xs)
last_more searched x xs g last = record { before = x ∷ last.before; search = last.search; are = ap (λ (zs : List Exchange). x ∷ zs) last.are; gave = (g, last.gave) }

pub ends_more : (early : Option Early) (x : Exchange) (xs : List Exchange) → Gave x.searched → EndsIn early xs → EndsIn early (x ∷ xs)
ends_more None x xs g h = (g, h)
ends_more (Some (earlies.Refused code)) x xs g h = (h.0, last_more (searches.Code code) x xs g h.1)
ends_more (Some (earlies.Failed why)) x xs g h = elim h [ inl last ↦ inl (last_more (searches.Failed why) x xs g last) | inr k ↦ inr (k.0, k.1, k.2, last_more (searches.Code k.0) x xs g k.3) ]
ends_more (Some earlies.Memory) x xs g h = tt

only_last : (search : SearchValue) (searched last : Searched) → searched ≡ last → IsLast last (record { search = search; searched = searched } ∷ [])
only_last search searched last e = record { before = []; search = search; are = ap (λ (s : Searched). record { search = search; searched = s } ∷ []) e; gave = tt }

pub ends_only : (early : Early) (search : SearchValue) (searched : Searched) → EndsEarly early searched → EndsIn (Some early) (record { search = search; searched = searched } ∷ [])
ends_only (earlies.Refused code) search searched h = (h.0, only_last search searched (searches.Code code) h.1)
ends_only (earlies.Failed why) search searched h = elim h [
  | inl e ↦ inl (only_last search searched (searches.Failed why) e)
  | inr k ↦ inr (k.0, k.1, k.2, only_last search searched (searches.Code k.0) k.3)
]
ends_only earlies.Memory search searched h = tt

answer_one : (config : Config) (key : Key) (x : Exchange) (xs : List Exchange) (result : Fetched) → is_of_one key ≡ true → IsOneOf config key (filter (λ (e : DirEntry). fits config key e) (given_of x.searched)) result → IsAnswerOf config key (x ∷ xs) result
answer_one config (keys.User name) x xs result one h = h
answer_one config (keys.Uid uid) x xs result one h = h
answer_one config (keys.Group name) x xs result one h = h
answer_one config (keys.Gid gid) x xs result one h = h
answer_one config (keys.GroupsOf name) x xs result one h = h
answer_one config keys.Host x xs result one h = h
answer_one config keys.Rules x xs result one h = absurd cc

answers_one : (config : Config) (key : Key) (x : Exchange) (xs : List Exchange) (given : List DirEntry) (result : Result Fetched Early) → is_of_one key ≡ true → given ≡ given_of x.searched
    → IfOk result (λ fetched. IsOneOf config key (filter (λ (e : DirEntry). fits config key e) given) fetched) → IfOk result (λ fetched. IsAnswerOf config key (x ∷ xs) fetched)
answers_one config key x xs given (Ok fetched) one e h =
    answer_one config key x xs fetched one (subst (λ (es : List DirEntry). IsOneOf config key (filter (λ (d : DirEntry). fits config key d) es) fetched) e h)
answers_one config key x xs given (Err early) one e h = tt

pub sought_one : {L : Type 0} (t : Telling L) (config : Config) (key : Key) (old mid new : Talk L) (given : List DirEntry) (result : Result Fetched Early) (due : List DirEntry → List SearchValue) → is_of_one key ≡ true
    → Asked t old (first_search config key) (Ok given) mid → Further t mid new (early_of result) due
    → IfOk result (λ fetched. IsOneOf config key (filter (λ (e : DirEntry). fits config key e) given) fetched) → Sought t config key old result new
sought_one t config key old mid new given result due one a f o =
    let x : Exchange = record { search = first_search config key; searched = a.searched } in
    record {
      exchanges = x ∷ f.exchanges;
      in_order = (mid, a.went, f.in_order);
      begins = refl;
      ends = ends_more (early_of result) x f.exchanges (gave given a.searched a.finds) f.ends;
      answers = answers_one config key x f.exchanges given result one (is_given given a.searched a.finds) o;
    }

pub sought_early : {L : Type 0} (t : Telling L) (config : Config) (key : Key) (old new : Talk L) (early : Early) → Tried t old (first_search config key) (Err early) new → Sought t config key old (Err early) new
sought_early {L} t config key old new early h = elim h [
  | inl a ↦ record {
    exchanges = record { search = first_search config key; searched = a.searched } ∷ [];
    in_order = (new, a.went, refl);
    begins = refl;
    ends = ends_only early (first_search config key) a.searched a.finds;
    answers = tt;
  }
  | inr n ↦ subst (λ (e : Early). Sought t config key old (Err e) new) (let same : earlies.Memory ≡ early = cc in same)
      (record { exchanges = []; in_order = sym n.1; begins = refl; ends = tt; answers = tt })
]

-- memory was wanting after searches that came to entries
pub sought_starved : {L : Type 0} (t : Telling L) (config : Config) (key : Key) (old new : Talk L) (given : List DirEntry) → Asked t old (first_search config key) (Ok given) new → Sought t config key old (Err earlies.Memory) new
sought_starved t config key old new given a = record {
  exchanges = record { search = first_search config key; searched = a.searched } ∷ [];
  in_order = (new, a.went, refl);
  begins = refl;
  ends = tt;
  answers = tt;
}

-- ---- over a link that tells the directory behind it

not_refusal : (code : ℕ) → IsRefusal code → code ≡ 32 → ⊥
not_refusal code r e = r.present e

not_server : (code : ℕ) → IsOfServer code → code ≡ 32 → ⊥
not_server code h e = elim h [ inl f ↦ (let k : 51 ≡ 32 = sym f ∙ e in absurd cc) | inr f ↦ (let k : 52 ≡ 32 = sym f ∙ e in absurd cc) ]

-- searches that ended early, where more were due
pub told_early : {L : Type 0} (t : Telling L) (old new : Talk L) (b : Behind) (early : Early) (xs : List Exchange) (rest : List SearchValue) (lookup : Fetched) → Goes t old xs new → Stands t old b → ArePlain (searches_in xs) → EndsIn (Some early) xs
    → IsToldSought (Err early) (first_failure b (length old.received) old.next (searches_in xs ++ rest)) lookup (t.refuses new.link) (t.ends new.link) (t.coming new.link)
told_early t old new b (earlies.Refused code) xs rest lookup g s plain h = not_refusal code h.0 (walk_code t old xs new b code g s plain h.1)
told_early t old new b (earlies.Failed why) xs rest lookup g s plain h = elim h [
  | inl last ↦ walk_failed t old xs new b rest why g s last
  | inr k ↦ absurd (not_server k.0 k.2 (walk_code t old xs new b k.0 g s plain k.3))
]
told_early t old new b earlies.Memory xs rest lookup g s plain h = tt

-- what follows the first search
told_further : {L : Type 0} (t : Telling L) (mid new : Talk L) (b : Behind) (early : Option Early) (xs : List Exchange) (due : List SearchValue) (result : Result Fetched Early) (lookup : Fetched) → early ≡ early_of result → Goes t mid xs new → Stands t mid b → ArePlain due
    → EndsIn early xs → SearchedOf early (searches_in xs) due → IfOk result (λ fetched. fetched ≡ lookup)
    → IsToldSought result (first_failure b (length mid.received) mid.next due) lookup (t.refuses new.link) (t.ends new.link) (t.coming new.link)
told_further t mid new b early xs due (Ok fetched) lookup e g s plain ends searched found =
    let all : AllGave xs = subst (λ (o : Option Early). EndsIn o xs) e ends in
    let same : searches_in xs ≡ due = subst (λ (o : Option Early). SearchedOf o (searches_in xs) due) e searched in
    (ap (λ (ss : List SearchValue). first_failure b (length mid.received) mid.next ss) (sym (append-nil (searches_in xs) ∙ same)) ∙ (walked t mid xs new b [] g all s).same, found)
told_further t mid new b early xs due (Err (earlies.Refused code)) lookup e g s plain ends searched found =
    let h = subst (λ (o : Option Early). EndsIn o xs) e ends in
    let k = subst (λ (o : Option Early). SearchedOf o (searches_in xs) due) e searched in
    not_refusal code h.0 (walk_code t mid xs new b code g s (plain_front (searches_in xs) k.0 (subst ArePlain (sym k.1) plain)) h.1)
told_further {L} t mid new b early xs due (Err (earlies.Failed why)) lookup e g s plain ends searched found =
    let h : EndsIn (Some (earlies.Failed why)) xs = subst (λ (o : Option Early). EndsIn o xs) e ends in
    let k = subst (λ (o : Option Early). SearchedOf o (searches_in xs) due) e searched in
    subst (λ (ss : List SearchValue). IsToldSought (Err (earlies.Failed why)) (first_failure b (length mid.received) mid.next ss) lookup (t.refuses new.link) (t.ends new.link) (t.coming new.link)) k.1
    (told_early t mid new b (earlies.Failed why) xs k.0 lookup g s (plain_front (searches_in xs) k.0 (subst ArePlain (sym k.1) plain)) h)
told_further t mid new b early xs due (Err earlies.Memory) lookup e g s plain ends searched found = tt

pub told_one : {L : Type 0} (t : Telling L) (config : Config) (key : Key) (old mid new : Talk L) (given : List DirEntry) (result : Result Fetched Early) (b : Behind) → is_of_one key ≡ true
    → Asked t old (first_search config key) (Ok given) mid
    → Further t mid new (early_of result) (λ told. where_one (λ e. further_of config key e told) (filter (λ (e : DirEntry). fits config key e) given))
    → IfOk result (λ fetched. fetched ≡ looked_up config b.entries key) → Stands t old b
    → IsToldSought result (first_failure b (length old.received) old.next (searches_of config b.entries key)) (looked_up config b.entries key) (t.refuses new.link) (t.ends new.link) (t.coming new.link)
told_one t config key old mid new given result b one a f found s =
    let x : Exchange = record { search = first_search config key; searched = a.searched } in
    let g : Gave a.searched = gave given a.searched a.finds in
    let on : Stands t mid b = stands_on t old x mid b a.went s g in
    let due : where_one (λ e. further_of config key e b.entries) (filter (λ (e : DirEntry). fits config key e) given) ≡ further_searches config b.entries key =
    further_given config key b.entries given one (given_sent t config key old mid given b a s) in
    subst (λ (o : Option Why). IsToldSought result o (looked_up config b.entries key) (t.refuses new.link) (t.ends new.link) (t.coming new.link))
    (sym (past_first t old x mid b (further_searches config b.entries key) a.went s g))
    (told_further t mid new b (early_of result) f.exchanges (further_searches config b.entries key) result (looked_up config b.entries key) refl f.in_order on (plain_further config b.entries key)
    f.ends (subst (λ (ss : List SearchValue). SearchedOf (early_of result) (searches_in f.exchanges) ss) due (f.searched b on.is on.quiet)) found)

pub told_first : {L : Type 0} (t : Telling L) (config : Config) (key : Key) (old new : Talk L) (early : Early) (b : Behind) → Tried t old (first_search config key) (Err early) new → Stands t old b
    → IsToldSought (Err early) (first_failure b (length old.received) old.next (searches_of config b.entries key)) (looked_up config b.entries key) (t.refuses new.link) (t.ends new.link) (t.coming new.link)
told_first t config key old new early b h s = elim h [
  | inl a ↦ told_early t old new b early (record { search = first_search config key; searched = a.searched } ∷ []) (further_searches config b.entries key) (looked_up config b.entries key) (new, a.went, refl) s (first_plain config key, tt)
      (ends_only early (first_search config key) a.searched a.finds)
  | inr n ↦ subst (λ (e : Early). IsToldSought (Err e) (first_failure b (length old.received) old.next (searches_of config b.entries key)) (looked_up config b.entries key) (t.refuses new.link) (t.ends new.link) (t.coming new.link))
      (let same : earlies.Memory ≡ early = cc in same) tt
]

pub asked_ok : {L : Type 0} (t : Telling L) (old : Talk L) (s : SearchValue) (given : List DirEntry) (new : Talk L) → Tried t old s (Ok given) new → Asked t old s (Ok given) new
asked_ok t old s given new h = elim h [ inl a ↦ a | inr n ↦ absurd cc ]

looked_ok : (result : Result Fetched Early) (chosen lookup : Fetched) → chosen ≡ lookup → IfOk result (λ fetched. fetched ≡ chosen) → IfOk result (λ fetched. fetched ≡ lookup)
looked_ok (Ok fetched) chosen lookup e h = h ∙ e
looked_ok (Err early) chosen lookup e h = tt

-- what was chosen among the entries of the first search
pub told_chosen : {L : Type 0} (t : Telling L) (config : Config) (key : Key) (old mid new : Talk L) (given : List DirEntry) (result : Result Fetched Early) (b : Behind) → is_of_one key ≡ true
    → Asked t old (first_search config key) (Ok given) mid
    → Further t mid new (early_of result) (λ told. where_one (λ e. further_of config key e told) (filter (λ (e : DirEntry). fits config key e) given))
    → (Stands t mid b → have_dns given ≡ true → IfOk result (λ fetched. fetched ≡ one_of (λ e. found_as config key b.entries e) (filter (λ (e : DirEntry). fits config key e) given)))
    → Stands t old b
    → IsToldSought result (first_failure b (length old.received) old.next (searches_of config b.entries key)) (looked_up config b.entries key) (t.refuses new.link) (t.ends new.link) (t.coming new.link)
told_chosen t config key old mid new given result b one a f chosen s =
    let x : Exchange = record { search = first_search config key; searched = a.searched } in
    let on : Stands t mid b = stands_on t old x mid b a.went s (gave given a.searched a.finds) in
    let is = given_sent t config key old mid given b a s in
    let dns : have_dns given ≡ true = ap have_dns is ∙ found_dns (first_search config key) b.entries in
    told_one t config key old mid new given result b one a f (looked_ok result _ _ (looked_sent config key b.entries given one is) (chosen on dns)) s
