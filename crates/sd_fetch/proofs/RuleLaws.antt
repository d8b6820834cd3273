-- Access rules and services among what is sent are those of the directory.
use Rattle.std.proofs.Common.{◌≡◌, ℕ, Bool, true, false, ◌&&◌, List, [], ◌∷◌, ◌++◌, length, map, Option, Some, None, Result, Ok, Err, refl, sym, ap, subst, ◌∙◌, cond, inl, inr}
use Rattle.std.proofs.lemmas.List.{append-nil}
use Rattle.std.specs.Prelude.{filter, nat_lt, codes, IfOk}
use Rattle.std.specs.List.{flat_map}
use Rattle.std.proofs.lemmas.Bool.{and_from, and_parts}
use Rattle.sd_base.specs.declared.Why.{Why}
use Rattle.sd_dn.specs.declared.Pair.{Pair}
use Rattle.sd_dn.specs.Comparing.{ends_with, is_below}
use Rattle.sd_dn.specs.Texts.{spelled, both_meet}
use Rattle.sd_ldap.specs.declared.entry.DirEntry.{DirEntry}
use Rattle.sd_ldap.specs.Values.{SearchValue}
use Rattle.sd_match.specs.Matching.{matches}
use Rattle.sd_match.specs.Answering.{in_scope, is_at_or_under, is_found, found, sent}
use Rattle.sd_rules.specs.declared.keys.Key.{Key}
use Rattle.sd_rules.specs.declared.keys.Key.TheVariants as keys
use Rattle.sd_rules.specs.declared.records.Record.TheVariants as records
use Rattle.sd_rules.specs.declared.records.Rule.{Rule}
use Rattle.sd_rules.specs.declared.records.Service.{Service}
use Rattle.sd_rules.specs.declared.tasks.Fetched.{Fetched}
use Rattle.sd_rules.specs.declared.tasks.Fetched.TheVariants as fetches
use Rattle.sd_conf.specs.declared.config.Config.{Config}
use Rattle.sd_dial.specs.Entries.{Behind}
use Rattle.sd_dial.specs.declared.searched.Searched.{Searched}
use Rattle.sd_dial.specs.declared.searched.Searched.TheVariants as searches
use Rattle.sd_client.specs.Talk.{Talk}
use Rattle.sd_schema.specs.Values.{of_class}
use Rattle.sd_fetch.specs.declared.finding.Early.{Early}
use Rattle.sd_fetch.specs.declared.finding.Early.TheVariants as earlies
use Rattle.sd_fetch.specs.Searches.{rules_place, services_place, rules_search, services_search, first_search}
use Rattle.sd_fetch.specs.Lookup.{is_fit, listed, rule_of, service_of, is_strictly_under, under_place, rules_among, services_among, looked_up}
use Rattle.sd_fetch.specs.Exchanging.{Telling, Exchange, Goes, Gave}
use Rattle.sd_fetch.specs.Early.{Finds, Asked, Tried}
use Rattle.sd_fetch.specs.Rounding.{EndsIn}
use Rattle.sd_fetch.specs.Told.{searches_of, first_failure}
use Rattle.sd_fetch.specs.Looked.{given_of}
use Rattle.sd_fetch.specs.Sought.{IsToldSought, Sought}
use Rattle.sd_fetch.proofs.Fits.{class_fits}
use Rattle.sd_fetch.proofs.Alike.{rule_of_sent, service_of_sent}
use Rattle.sd_fetch.proofs.Answers.{IsPlain, answered}
use Rattle.sd_fetch.proofs.Walk.{Stands, ArePlain, stands_on, past_first}
use Rattle.sd_fetch.proofs.Found.{whole_scope}
use Rattle.sd_fetch.proofs.Seeking.{gave, is_given, sent_given, first_plain, given_sent, ends_more, ends_only, told_early}

-- ---- lists

map_cond : {X : Type 0} (f : X → X) (x : X) (xs : List X) (b : Bool) → map f (cond b (x ∷ xs) xs) ≡ cond b (f x ∷ map f xs) (map f xs)
map_cond f x xs true = refl
map_cond f x xs false = refl

among_step : {X Y : Type 0} (g : X → List Y) (under : X → Bool) (f : X → X) (x : X) (near matched is : Bool) (kept rest : List X) → under (f x) ≡ is → g (f x) ≡ g x → (is ≡ true → near ≡ true) → (matched ≡ false → g x ≡ [])
    → flat_map g (filter under kept) ≡ flat_map g rest → flat_map g (filter under (cond (near && matched) (f x ∷ kept) kept)) ≡ flat_map g (cond is (x ∷ rest) rest)
among_step {X} {Y} g under f x true true is kept rest u e n m h = ap (λ (b : Bool). flat_map g (cond b (f x ∷ filter under kept) (filter under kept))) u ∙ within is
  where
    within : (b : Bool) → flat_map g (cond b (f x ∷ filter under kept) (filter under kept)) ≡ flat_map g (cond b (x ∷ rest) rest)
    within true = ap (λ (ys : List Y). ys ++ flat_map g (filter under kept)) e ∙ ap (λ (ys : List Y). g x ++ ys) h
    within false = h
among_step {X} {Y} g under f x true false true kept rest u e n m h = h ∙ ap (λ (ys : List Y). ys ++ flat_map g rest) (sym (m refl))
among_step g under f x true false false kept rest u e n m h = h
among_step g under f x false matched true kept rest u e n m h = let k = n refl in absurd cc
among_step g under f x false matched false kept rest u e n m h = h

among : {X Y : Type 0} (g : X → List Y) (under near matched : X → Bool) (f : X → X) → ((x : X) → under (f x) ≡ under x) → ((x : X) → g (f x) ≡ g x) → ((x : X) → under x ≡ true → near x ≡ true) → ((x : X) → matched x ≡ false → g x ≡ [])
    → (xs : List X) → flat_map g (filter under (map f (filter (λ (x : X). near x && matched x) xs))) ≡ flat_map g (filter under xs)
among g under near matched f u e n m [] = refl
among {X} g under near matched f u e n m (x ∷ xs) =
    ap (λ (ys : List X). flat_map g (filter under ys)) (map_cond f x (filter (λ (y : X). near y && matched y) xs) (near x && matched x))
    ∙ among_step g under f x (near x) (matched x) (under x) (map f (filter (λ (y : X). near y && matched y) xs)) (filter under xs) (u x) (e x) (n x) (m x) (among g under near matched f u e n m xs)

-- ---- places

below_near : (a b : Option (List (List Pair))) → both_meet is_below a b ≡ true → both_meet ends_with a b ≡ true
below_near (Some dn) (Some place) h = (and_parts (nat_lt (length place) (length dn)) (ends_with dn place) h).1
below_near (Some dn) None h = absurd cc
below_near None b h = absurd cc

found_by : (s : SearchValue) (told : List DirEntry) → s.scope ≡ 2 → found told s ≡ filter (λ (e : DirEntry). is_at_or_under s.base e && matches s.filter e.attributes) told
found_by s [] scope = refl
found_by s (e ∷ es) scope =
    let same : is_found s e ≡ (is_at_or_under s.base e && matches s.filter e.attributes) =
    ap (λ (b : Bool). b && matches s.filter e.attributes) (ap (λ (n : ℕ). both_meet (in_scope n) (spelled e.dn) (spelled s.base)) scope ∙ whole_scope (spelled e.dn) (spelled s.base)) in
    ap (λ (b : Bool). cond b (e ∷ found es s) (found es s)) same
    ∙ ap (λ (ys : List DirEntry). cond (is_at_or_under s.base e && matches s.filter e.attributes) (e ∷ ys) ys) (found_by s es scope)

-- ---- rules

unlisted : {A : Type 0} (r : Result A (List ℕ)) → (is_fit r ≡ true → ⊥) → listed r ≡ []
unlisted (Ok found) h = absurd (h refl)
unlisted (Err name) h = refl

not_both : (b : Bool) → b ≡ false → b ≡ true → ⊥
not_both b e f = absurd cc

no_rule : (config : Config) (e : DirEntry) → matches (rules_search config.base).filter e.attributes ≡ false → listed (rule_of config e) ≡ []
no_rule config e h = unlisted (rule_of config e) (λ fit. not_both _ h (class_fits _ (codes "objectClass") _ fit).0)

no_service : (config : Config) (e : DirEntry) → matches (services_search config.base).filter e.attributes ≡ false → listed (service_of config e) ≡ []
no_service config e h = unlisted (service_of config e) (λ fit. not_both _ h (class_fits _ (codes "objectClass") _ fit).0)

rules_sent : (config : Config) (told given : List DirEntry) → given ≡ map (sent (rules_search config.base)) (found told (rules_search config.base)) → rules_among config given ≡ rules_among config told
rules_sent config told given is =
    ap (rules_among config) (is ∙ ap (map (sent (rules_search config.base))) (found_by (rules_search config.base) told refl))
    ∙ among (λ (e : DirEntry). listed (rule_of config e)) (is_strictly_under (rules_place config.base)) (λ (e : DirEntry). is_at_or_under (rules_place config.base) e) (λ (e : DirEntry). matches (rules_search config.base).filter e.attributes) (sent (rules_search config.base))
    (λ e. refl) (λ e. ap listed (rule_of_sent config e)) (λ e h. below_near (spelled e.dn) (spelled (rules_place config.base)) h) (no_rule config) told

services_sent : (config : Config) (told given : List DirEntry) → given ≡ map (sent (services_search config.base)) (found told (services_search config.base)) → services_among config given ≡ services_among config told
services_sent config told given is =
    ap (services_among config) (is ∙ ap (map (sent (services_search config.base))) (found_by (services_search config.base) told refl))
    ∙ among (λ (e : DirEntry). listed (service_of config e)) (is_strictly_under (services_place config.base)) (λ (e : DirEntry). is_at_or_under (services_place config.base) e) (λ (e : DirEntry). matches (services_search config.base).filter e.attributes) (sent (services_search config.base))
    (λ e. refl) (λ e. ap listed (service_of_sent config e)) (λ e h. below_near (spelled e.dn) (spelled (services_place config.base)) h) (no_service config) told

rules_looked : (config : Config) (told : List DirEntry) → looked_up config told keys.Rules ≡ fetches.Found (records.Rules (record { rules = rules_among config told; services = services_among config told }))
unfolding looked_up
rules_looked config told = refl

abbrev book_of : List Rule → List Service → Fetched
book_of rules services = fetches.Found (records.Rules (record { rules = rules; services = services }))

-- ---- two searches

abbrev first_of_rules : {L : Type 0} (t : Telling L) (config : Config) (old mid : Talk L) (given : List DirEntry) → Asked t old (first_search config keys.Rules) (Ok given) mid → Exchange
first_of_rules t config old mid given a = record { search = first_search config keys.Rules; searched = a.searched }

services_plain : (config : Config) → IsPlain (services_search config.base)
services_plain config = record { unlimited = refl; supported = refl }

pub sought_second : {L : Type 0} (t : Telling L) (config : Config) (old mid new : Talk L) (given : List DirEntry) (early : Early) → Asked t old (first_search config keys.Rules) (Ok given) mid → Tried t mid (services_search config.base) (Err early) new
    → Sought t config keys.Rules old (Err early) new
sought_second t config old mid new given early a h =
    let x : Exchange = first_of_rules t config old mid given a in
    elim h [
      | inl second ↦ record {
        exchanges = x ∷ record { search = services_search config.base; searched = second.searched } ∷ [];
        in_order = (mid, a.went, (new, second.went, refl));
        begins = refl;
        ends = ends_more (Some early) x (record { search = services_search config.base; searched = second.searched } ∷ []) (gave given a.searched a.finds) (ends_only early (services_search config.base) second.searched second.finds);
        answers = tt;
      }
      | inr none ↦ subst (λ (e : Early). Sought t config keys.Rules old (Err e) new) (let same : earlies.Memory ≡ early = cc in same)
          (record { exchanges = x ∷ []; in_order = (mid, a.went, sym none.1); begins = refl; ends = tt; answers = tt })
    ]

pub sought_rules : {L : Type 0} (t : Telling L) (config : Config) (old mid new : Talk L) (given others : List DirEntry) (rules : List Rule) (services : List Service) → Asked t old (first_search config keys.Rules) (Ok given) mid → Asked t mid (services_search config.base) (Ok others) new
    → rules ≡ rules_among config given → services ≡ services_among config others → Sought t config keys.Rules old (Ok (book_of rules services)) new
sought_rules t config old mid new given others rules services a second r v =
    let x : Exchange = first_of_rules t config old mid given a in
    let y : Exchange = record { search = services_search config.base; searched = second.searched } in
    record {
      exchanges = x ∷ y ∷ [];
      in_order = (mid, a.went, (new, second.went, refl));
      begins = refl;
      ends = (gave given a.searched a.finds, (gave others second.searched second.finds, tt));
      answers = (refl, ap (λ (rs : List Rule). book_of rs services) (r ∙ ap (rules_among config) (is_given given a.searched a.finds)) ∙ ap (book_of (rules_among config (given_of a.searched))) (v ∙ ap (services_among config) (is_given others second.searched second.finds)));
    }

pub sought_unread : {L : Type 0} (t : Telling L) (config : Config) (old mid new : Talk L) (given others : List DirEntry) → Asked t old (first_search config keys.Rules) (Ok given) mid → Asked t mid (services_search config.base) (Ok others) new
    → Sought t config keys.Rules old (Err earlies.Memory) new
sought_unread t config old mid new given others a second = record {
  exchanges = first_of_rules t config old mid given a ∷ record { search = services_search config.base; searched = second.searched } ∷ [];
  in_order = (mid, a.went, (new, second.went, refl));
  begins = refl;
  ends = tt;
  answers = tt;
}

pub told_second : {L : Type 0} (t : Telling L) (config : Config) (old mid new : Talk L) (given : List DirEntry) (early : Early) (b : Behind) → Asked t old (first_search config keys.Rules) (Ok given) mid → Tried t mid (services_search config.base) (Err early) new → Stands t old b
    → IsToldSought (Err early) (first_failure b (length old.received) old.next (searches_of config b.entries keys.Rules)) (looked_up config b.entries keys.Rules) (t.refuses new.link) (t.ends new.link) (t.coming new.link)
told_second t config old mid new given early b a h s =
    let x : Exchange = first_of_rules t config old mid given a in
    elim h [
      | inl second ↦ told_early t old new b early (x ∷ record { search = services_search config.base; searched = second.searched } ∷ []) [] (looked_up config b.entries keys.Rules) (mid, a.went, (new, second.went, refl)) s
          (first_plain config keys.Rules, (services_plain config, tt))
          (ends_more (Some early) x (record { search = services_search config.base; searched = second.searched } ∷ []) (gave given a.searched a.finds) (ends_only early (services_search config.base) second.searched second.finds))
      | inr none ↦ subst (λ (e : Early). IsToldSought (Err e) (first_failure b (length old.received) old.next (searches_of config b.entries keys.Rules)) (looked_up config b.entries keys.Rules) (t.refuses new.link) (t.ends new.link) (t.coming new.link))
          (let same : earlies.Memory ≡ early = cc in same) tt
    ]

pub told_rules : {L : Type 0} (t : Telling L) (config : Config) (old mid new : Talk L) (given others : List DirEntry) (rules : List Rule) (services : List Service) (b : Behind) → Asked t old (first_search config keys.Rules) (Ok given) mid → Asked t mid (services_search config.base) (Ok others) new
    → rules ≡ rules_among config given → services ≡ services_among config others → Stands t old b
    → IsToldSought (Ok (book_of rules services)) (first_failure b (length old.received) old.next (searches_of config b.entries keys.Rules)) (looked_up config b.entries keys.Rules) (t.refuses new.link) (t.ends new.link) (t.coming new.link)
told_rules t config old mid new given others rules services b a second r v s =
    let x : Exchange = first_of_rules t config old mid given a in
    let y : Exchange = record { search = services_search config.base; searched = second.searched } in
    let on : Stands t mid b = stands_on t old x mid b a.went s (gave given a.searched a.finds) in
    let first_given = given_sent t config keys.Rules old mid given b a s in
    let others_given = sent_given b.entries others (services_search config.base) second.searched second.finds
    (answered b (length mid.received) mid.next (services_search config.base) second.searched (services_plain config) (second.went.by_directory b on.is on.quiet)) in (
      past_first t old x mid b (services_search config.base ∷ []) a.went s (gave given a.searched a.finds) ∙ past_first t mid y new b [] second.went on (gave others second.searched second.finds),
      ap (λ (rs : List Rule). book_of rs services) (r ∙ rules_sent config b.entries given first_given)
          ∙ (ap (book_of (rules_among config b.entries)) (v ∙ services_sent config b.entries others others_given) ∙ sym (rules_looked config b.entries)),
    )
