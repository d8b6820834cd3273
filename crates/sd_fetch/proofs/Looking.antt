-- What a lookup has come to, as it is answered.
use Rattle.std.proofs.Common.{◌≡◌, ℕ, Bool, true, List, [], ◌∷◌, Option, Some, None, Result, Ok, Err, refl, sym, ap, subst, ◌∙◌}
use Rattle.std.specs.Prelude.{filter, IfOk}
use Rattle.sd_base.specs.declared.Why.{Why}
use Rattle.sd_rules.specs.declared.keys.Key.{Key}
use Rattle.sd_rules.specs.declared.keys.Key.TheVariants as keys
use Rattle.sd_rules.specs.declared.records.Record.{Record}
use Rattle.sd_rules.specs.declared.tasks.Fetched.{Fetched}
use Rattle.sd_rules.specs.declared.tasks.Fetched.TheVariants as fetches
use Rattle.sd_rules.specs.Keys.{is_of_kind}
use Rattle.sd_rules.specs.Lookups.{is_fetched_of_kind}
use Rattle.sd_conf.specs.declared.config.Config.{Config}
use Rattle.sd_ldap.specs.declared.entry.DirEntry.{DirEntry}
use Rattle.sd_client.specs.Talk.{Talk}
use Rattle.sd_fetch.specs.declared.finding.Early.{Early}
use Rattle.sd_fetch.specs.declared.finding.Early.TheVariants as earlies
use Rattle.sd_fetch.specs.Exchanging.{Telling, Exchange, AllGave, EndsBy}
use Rattle.sd_fetch.specs.Rounding.{EndsIn, early_of}
use Rattle.sd_fetch.specs.Told.{IsLimit, IsToldLookup}
use Rattle.sd_fetch.specs.Lookup.{found_from, fits}
use Rattle.sd_fetch.specs.Looked.{IsFoundAs, IsOneOf, AreRules, IsAnswerOf, Answers, BeginsBy, Looked, given_of}
use Rattle.sd_fetch.specs.Sought.{BeginsSo, Sought, IsToldSought}

-- ---- answers are found records, absence, or many

abbrev IsAnswer : Fetched → Type 0
IsAnswer (fetches.Found found) = Unit {0}
IsAnswer fetches.Absent = Unit {0}
IsAnswer (fetches.Many count) = Unit {0}
IsAnswer (fetches.Refused code) = ⊥
IsAnswer (fetches.Failed why) = ⊥
IsAnswer fetches.Memory = ⊥

-- an answer of the kind of a key
abbrev Fine : Key → Fetched → Type 0
Fine key fetched = IsAnswer fetched × (is_fetched_of_kind key fetched ≡ true)

found_fine : {A : Type 0} (key : Key) (made : A → Record) (r : Result A (List ℕ)) → ((x : A) → is_of_kind (made x) key ≡ true) → Fine key (found_from made r)
found_fine key made (Ok x) h = (tt, h x)
found_fine key made (Err name) h = (tt, refl)

fine_by : (key : Key) (a b : Fetched) → a ≡ b → Fine key b → Fine key a
fine_by key a b e h = subst (Fine key) (sym e) h

as_fine : (config : Config) (key : Key) (e : DirEntry) (fetched : Fetched) → IsFoundAs config key e fetched → Fine key fetched
as_fine config (keys.User name) e fetched h = fine_by (keys.User name) fetched _ h (found_fine (keys.User name) _ _ (λ x. refl))
as_fine config (keys.Uid uid) e fetched h = fine_by (keys.Uid uid) fetched _ h (found_fine (keys.Uid uid) _ _ (λ x. refl))
as_fine config (keys.Group name) e fetched h = fine_by (keys.Group name) fetched _ h.1 (found_fine (keys.Group name) _ _ (λ x. refl))
as_fine config (keys.Gid gid) e fetched h = fine_by (keys.Gid gid) fetched _ h.1 (found_fine (keys.Gid gid) _ _ (λ x. refl))
as_fine config (keys.GroupsOf name) e fetched h = fine_by (keys.GroupsOf name) fetched _ h.1 (found_fine (keys.GroupsOf name) _ _ (λ x. refl))
as_fine config keys.Host e fetched h = fine_by keys.Host fetched _ h (found_fine keys.Host _ _ (λ x. refl))
as_fine config keys.Rules e fetched h = fine_by keys.Rules fetched _ h (tt, refl)

one_fine : (config : Config) (key : Key) (those : List DirEntry) (fetched : Fetched) → IsOneOf config key those fetched → Fine key fetched
one_fine config key [] fetched h = fine_by key fetched _ h (tt, refl)
one_fine config key (e ∷ []) fetched h = as_fine config key e fetched h
one_fine config key (e ∷ o ∷ os) fetched h = fine_by key fetched _ h (tt, refl)

rules_fine : (config : Config) (xs : List Exchange) (fetched : Fetched) → AreRules config xs fetched → Fine keys.Rules fetched
rules_fine config [] fetched h = absurd h
rules_fine config (x ∷ []) fetched h = absurd h
rules_fine config (x ∷ y ∷ []) fetched h = fine_by keys.Rules fetched _ h.1 (tt, refl)
rules_fine config (x ∷ y ∷ z ∷ zs) fetched h = absurd h

answer_fine : (config : Config) (key : Key) (xs : List Exchange) (fetched : Fetched) → IsAnswerOf config key xs fetched → Fine key fetched
answer_fine config keys.Rules xs fetched h = rules_fine config xs fetched h
answer_fine config (keys.User name) [] fetched h = absurd h
answer_fine config (keys.User name) (x ∷ xs) fetched h = one_fine config (keys.User name) (filter (λ (e : DirEntry). fits config (keys.User name) e) (given_of x.searched)) fetched h
answer_fine config (keys.Uid uid) [] fetched h = absurd h
answer_fine config (keys.Uid uid) (x ∷ xs) fetched h = one_fine config (keys.Uid uid) (filter (λ (e : DirEntry). fits config (keys.Uid uid) e) (given_of x.searched)) fetched h
answer_fine config (keys.Group name) [] fetched h = absurd h
answer_fine config (keys.Group name) (x ∷ xs) fetched h = one_fine config (keys.Group name) (filter (λ (e : DirEntry). fits config (keys.Group name) e) (given_of x.searched)) fetched h
answer_fine config (keys.Gid gid) [] fetched h = absurd h
answer_fine config (keys.Gid gid) (x ∷ xs) fetched h = one_fine config (keys.Gid gid) (filter (λ (e : DirEntry). fits config (keys.Gid gid) e) (given_of x.searched)) fetched h
answer_fine config (keys.GroupsOf name) [] fetched h = absurd h
answer_fine config (keys.GroupsOf name) (x ∷ xs) fetched h = one_fine config (keys.GroupsOf name) (filter (λ (e : DirEntry). fits config (keys.GroupsOf name) e) (given_of x.searched)) fetched h
answer_fine config keys.Host [] fetched h = absurd h
answer_fine config keys.Host (x ∷ xs) fetched h = one_fine config keys.Host (filter (λ (e : DirEntry). fits config keys.Host e) (given_of x.searched)) fetched h

-- ---- results as they are answered

ends_ok : (fetched : Fetched) (xs : List Exchange) → IsAnswer fetched → AllGave xs → EndsBy fetched xs
ends_ok (fetches.Found found) xs a g = g
ends_ok fetches.Absent xs a g = g
ends_ok (fetches.Many count) xs a g = g
ends_ok (fetches.Refused code) xs a g = absurd a
ends_ok (fetches.Failed why) xs a g = absurd a
ends_ok fetches.Memory xs a g = absurd a

answers_ok : (config : Config) (key : Key) (xs : List Exchange) (fetched : Fetched) → IsAnswerOf config key xs fetched → Answers config key xs fetched
answers_ok config key xs (fetches.Found found) h = h
answers_ok config key xs fetches.Absent h = h
answers_ok config key xs (fetches.Many count) h = h
answers_ok config key xs (fetches.Refused code) h = tt
answers_ok config key xs (fetches.Failed why) h = tt
answers_ok config key xs fetches.Memory h = tt

begins_ok : (config : Config) (key : Key) (xs : List Exchange) (fetched : Fetched) → BeginsSo config key xs (Ok fetched) → BeginsBy config key xs fetched
begins_ok config key [] fetched h = absurd cc
begins_ok config key (x ∷ xs) fetched h = h

pub kind_ok : {L : Type 0} (t : Telling L) (config : Config) (key : Key) (old new : Talk L) (fetched : Fetched) → Sought t config key old (Ok fetched) new → is_fetched_of_kind key fetched ≡ true
kind_ok t config key old new fetched s = (answer_fine config key s.exchanges fetched s.answers).1

pub looked_ok : {L : Type 0} (t : Telling L) (config : Config) (key : Key) (old new : Talk L) (fetched : Fetched) → Sought t config key old (Ok fetched) new → Looked t config key old fetched new
looked_ok t config key old new fetched s = record {
  exchanges = s.exchanges;
  in_order = s.in_order;
  begins = begins_ok config key s.exchanges fetched s.begins;
  ends = ends_ok fetched s.exchanges (answer_fine config key s.exchanges fetched s.answers).0 s.ends;
  answers = answers_ok config key s.exchanges fetched s.answers;
}

begins_refused : (config : Config) (key : Key) (xs : List Exchange) (code : ℕ) → BeginsSo config key xs (Err (earlies.Refused code)) → BeginsBy config key xs (fetches.Refused code)
begins_refused config key [] code h = absurd cc
begins_refused config key (x ∷ xs) code h = h

pub looked_refused : {L : Type 0} (t : Telling L) (config : Config) (key : Key) (old new : Talk L) (code : ℕ) → Sought t config key old (Err (earlies.Refused code)) new → Looked t config key old (fetches.Refused code) new
looked_refused t config key old new code s = record { exchanges = s.exchanges; in_order = s.in_order; begins = begins_refused config key s.exchanges code s.begins; ends = s.ends; answers = tt }

begins_failed : (config : Config) (key : Key) (xs : List Exchange) (why : Why) → BeginsSo config key xs (Err (earlies.Failed why)) → BeginsBy config key xs (fetches.Failed why)
begins_failed config key [] why h = absurd cc
begins_failed config key (x ∷ xs) why h = h

pub looked_failed : {L : Type 0} (t : Telling L) (config : Config) (key : Key) (old new : Talk L) (why : Why) → Sought t config key old (Err (earlies.Failed why)) new → Looked t config key old (fetches.Failed why) new
looked_failed t config key old new why s = record { exchanges = s.exchanges; in_order = s.in_order; begins = begins_failed config key s.exchanges why s.begins; ends = s.ends; answers = tt }

begins_starved : (config : Config) (key : Key) (xs : List Exchange) → BeginsSo config key xs (Err earlies.Memory) → BeginsBy config key xs fetches.Memory
begins_starved config key [] h = refl
begins_starved config key (x ∷ xs) h = h

pub looked_starved : {L : Type 0} (t : Telling L) (config : Config) (key : Key) (old new : Talk L) → Sought t config key old (Err earlies.Memory) new → Looked t config key old fetches.Memory new
looked_starved t config key old new s = record { exchanges = s.exchanges; in_order = s.in_order; begins = begins_starved config key s.exchanges s.begins; ends = tt; answers = tt }

told_by : (fetched lookup : Fetched) (failure : Option Why) (refuses ends : Type 0) (coming : Option (List ℕ)) → IsAnswer fetched → (failure ≡ None) × (fetched ≡ lookup) → IsToldLookup fetched failure lookup refuses ends coming
told_by (fetches.Found found) lookup failure refuses ends coming a h = record { within = h.0; answer = h.1 }
told_by fetches.Absent lookup failure refuses ends coming a h = record { within = h.0; answer = h.1 }
told_by (fetches.Many count) lookup failure refuses ends coming a h = record { within = h.0; answer = h.1 }
told_by (fetches.Refused code) lookup failure refuses ends coming a h = absurd a
told_by (fetches.Failed why) lookup failure refuses ends coming a h = absurd a
told_by fetches.Memory lookup failure refuses ends coming a h = absurd a

pub told_ok : {L : Type 0} (t : Telling L) (config : Config) (key : Key) (old new : Talk L) (fetched lookup : Fetched) (failure : Option Why) (refuses ends : Type 0) (coming : Option (List ℕ)) → Sought t config key old (Ok fetched) new
    → IsToldSought (Ok fetched) failure lookup refuses ends coming → IsToldLookup fetched failure lookup refuses ends coming
told_ok t config key old new fetched lookup failure refuses ends coming s h = told_by fetched lookup failure refuses ends coming (answer_fine config key s.exchanges fetched s.answers).0 h

-- a told directory never refuses
pub never_refused : (early : Early) (code : ℕ) (failure : Option Why) (lookup : Fetched) (refuses ends : Type 0) (coming : Option (List ℕ)) → early ≡ earlies.Refused code → IsToldSought (Err early) failure lookup refuses ends coming → ⊥
never_refused early code failure lookup refuses ends coming e h = subst (λ (x : Early). IsToldSought (Err x) failure lookup refuses ends coming) e h
