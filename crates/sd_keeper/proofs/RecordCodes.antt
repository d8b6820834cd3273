-- The codes of keys and of the directory's records.
use Rattle.std.proofs.Common.{◌≡◌, ℕ, eqb, List, [], ◌∷◌, ◌++◌, Some, refl}
use Rattle.std.proofs.lemmas.Option.{none-some}
use Rattle.sd_rules.specs.declared.keys.Key.{Key}
use Rattle.sd_rules.specs.declared.keys.Key.TheVariants as keys
use Rattle.sd_rules.specs.declared.records.Answered.{Answered}
use Rattle.sd_rules.specs.declared.records.Answered.TheVariants.{Found, Absent}
use Rattle.sd_rules.specs.declared.records.Record.{Record}
use Rattle.sd_rules.specs.declared.records.Record.TheVariants as records
use Rattle.sd_keeper.specs.Spelling.{number, text, list, user, group, group_ref, groups, host, element, rule, service, book, found, answer, key}
use Rattle.sd_keeper.specs.Fitting.{IsNumber, IsText, IsList, IsUser, IsGroup, IsGroupRef, AreGroups, IsHost, IsElement, IsRule, IsService, IsBook, IsRecord, IsAnswer, IsKey}
use Rattle.sd_keeper.specs.Reading.{number_at, text_at, list_at, user_of, user_at, group_of, group_at, group_ref_of, group_ref_at, groups_of, groups_at, host_of, host_at, element_of, element_at, rule_of, rule_at, service_of, service_at, book_of, book_at, record_at, answer_at, key_at}
use Rattle.sd_base.proofs.Octets.{AreOctets, rest_octets}
use Rattle.sd_keeper.proofs.Codes.{Takes, IsCode, pair_code, made_code, number_code, text_code, list_code, flag_code, optional_code, choose, bare_takes, kind_takes}

-- lists of texts
texts_code : IsCode (list_at text_at) (list text) (IsList IsText)
texts_code = list_code text_at text IsText text_code

pub user_code : IsCode user_at user IsUser
unfolding user_at
user_code =
    made_code _ _ _ user IsUser user_of (λ u. (u.dn, (u.name, (u.uid, (u.gid, (u.gecos, (u.home, u.shell)))))))
    (pair_code _ _ _ _ _ _ text_code (pair_code _ _ _ _ _ _ text_code (pair_code _ _ _ _ _ _ number_code (pair_code _ _ _ _ _ _ number_code (pair_code _ _ _ _ _ _ text_code (pair_code _ _ _ _ _ _ text_code text_code))))))
    (λ x. refl) (λ x h. h) (λ y. refl) (λ y. refl) (λ y h. h)

pub group_code : IsCode group_at group IsGroup
unfolding group_at
group_code =
    made_code _ _ _ group IsGroup group_of (λ g. (g.dn, (g.name, (g.gid, g.members))))
    (pair_code _ _ _ _ _ _ text_code (pair_code _ _ _ _ _ _ text_code (pair_code _ _ _ _ _ _ number_code texts_code)))
    (λ x. refl) (λ x h. h) (λ y. refl) (λ y. refl) (λ y h. h)

group_ref_code : IsCode group_ref_at group_ref IsGroupRef
unfolding group_ref_at
group_ref_code =
    made_code _ _ _ group_ref IsGroupRef group_ref_of (λ r. (r.name, r.gid)) (pair_code _ _ _ _ _ _ text_code optional_code)
    (λ x. refl) (λ x h. h) (λ y. refl) (λ y. refl) (λ y h. h)

pub groups_code : IsCode groups_at groups AreGroups
unfolding groups_at
groups_code =
    made_code _ _ _ groups AreGroups groups_of (λ g. (g.user, g.groups))
    (pair_code _ _ _ _ _ _ text_code (list_code group_ref_at group_ref IsGroupRef group_ref_code))
    (λ x. refl) (λ x h. h) (λ y. refl) (λ y. refl) (λ y h. h)

pub host_code : IsCode host_at host IsHost
unfolding host_at
host_code =
    made_code _ _ _ host IsHost host_of (λ h. (h.name, h.groups)) (pair_code _ _ _ _ _ _ text_code texts_code)
    (λ x. refl) (λ x h. h) (λ y. refl) (λ y. refl) (λ y h. h)

element_code : IsCode element_at element IsElement
unfolding element_at
element_code =
    made_code _ _ _ element IsElement element_of (λ e. (e.all, (e.names, e.groups)))
    (pair_code _ _ _ _ _ _ flag_code (pair_code _ _ _ _ _ _ texts_code texts_code))
    (λ x. refl) (λ x h. h) (λ y. refl) (λ y. refl) (λ y h. h)

rule_code : IsCode rule_at rule IsRule
unfolding rule_at
rule_code =
    made_code _ _ _ rule IsRule rule_of (λ r. (r.name, (r.enabled, (r.users, (r.hosts, r.services)))))
    (pair_code _ _ _ _ _ _ text_code (pair_code _ _ _ _ _ _ flag_code (pair_code _ _ _ _ _ _ element_code (pair_code _ _ _ _ _ _ element_code element_code))))
    (λ x. refl) (λ x h. h) (λ y. refl) (λ y. refl) (λ y h. h)

service_code : IsCode service_at service IsService
unfolding service_at
service_code =
    made_code _ _ _ service IsService service_of (λ s. (s.name, s.groups)) (pair_code _ _ _ _ _ _ text_code texts_code)
    (λ x. refl) (λ x h. h) (λ y. refl) (λ y. refl) (λ y h. h)

pub book_code : IsCode book_at book IsBook
unfolding book_at
book_code =
    made_code _ _ _ book IsBook book_of (λ b. (b.rules, b.services))
    (pair_code _ _ _ _ _ _ (list_code rule_at rule IsRule rule_code) (list_code service_at service IsService service_code))
    (λ x. refl) (λ x h. h) (λ y. refl) (λ y. refl) (λ y h. h)

record_takes : (bytes : List ℕ) (y : Record × List ℕ) → AreOctets bytes → record_at bytes ≡ Some y → Takes bytes (found y.0) y.1 × IsRecord y.0
unfolding record_at
record_takes [] y octets e = absurd (none-some y e)
record_takes (kind ∷ rest) y octets e =
    let behind = rest_octets kind rest octets in
    choose (eqb kind 0) _ _ y e (λ k x. kind_takes user_at user IsUser user_code found IsRecord (λ u. records.User u) 0 kind rest y behind k x (λ u. refl) (λ u h. h))
    (λ e1. choose (eqb kind 1) _ _ y e1 (λ k x. kind_takes group_at group IsGroup group_code found IsRecord (λ g. records.Group g) 1 kind rest y behind k x (λ g. refl) (λ g h. h))
    (λ e2. choose (eqb kind 2) _ _ y e2 (λ k x. kind_takes groups_at groups AreGroups groups_code found IsRecord (λ g. records.Groups g) 2 kind rest y behind k x (λ g. refl) (λ g h. h))
    (λ e3. choose (eqb kind 3) _ _ y e3 (λ k x. kind_takes host_at host IsHost host_code found IsRecord (λ g. records.Host g) 3 kind rest y behind k x (λ g. refl) (λ g h. h))
    (λ e4. choose (eqb kind 4) _ _ y e4 (λ k x. kind_takes book_at book IsBook book_code found IsRecord (λ b. records.Rules b) 4 kind rest y behind k x (λ b. refl) (λ b h. h))
    (λ e5. absurd (none-some y e5))))))

record_again : (r : Record) (rest : List ℕ) → IsRecord r → record_at (found r ++ rest) ≡ Some (r, rest)
unfolding record_at
record_again (records.User u) rest fits = rw (user_code.again u rest fits) refl
record_again (records.Group g) rest fits = rw (group_code.again g rest fits) refl
record_again (records.Groups g) rest fits = rw (groups_code.again g rest fits) refl
record_again (records.Host h) rest fits = rw (host_code.again h rest fits) refl
record_again (records.Rules b) rest fits = rw (book_code.again b rest fits) refl

record_code : IsCode record_at found IsRecord
record_code = record { takes = record_takes; again = record_again }

answer_takes : (bytes : List ℕ) (y : Answered × List ℕ) → AreOctets bytes → answer_at bytes ≡ Some y → Takes bytes (answer y.0) y.1 × IsAnswer y.0
unfolding answer_at
answer_takes [] y octets e = absurd (none-some y e)
answer_takes (kind ∷ rest) y octets e =
    let behind = rest_octets kind rest octets in
    choose (eqb kind 0) _ _ y e (λ k x. kind_takes record_at found IsRecord record_code answer IsAnswer (λ r. Found r) 0 kind rest y behind k x (λ r. refl) (λ r h. h))
    (λ e1. choose (eqb kind 1) _ _ y e1 (λ k x. bare_takes answer IsAnswer Absent 1 kind rest y behind k x refl tt)
    (λ e2. absurd (none-some y e2)))

answer_again : (a : Answered) (rest : List ℕ) → IsAnswer a → answer_at (answer a ++ rest) ≡ Some (a, rest)
unfolding answer_at
answer_again (Found r) rest fits = rw (record_again r rest fits) refl
answer_again Absent rest fits = refl

pub answer_code : IsCode answer_at answer IsAnswer
answer_code = record { takes = answer_takes; again = answer_again }

key_takes : (bytes : List ℕ) (y : Key × List ℕ) → AreOctets bytes → key_at bytes ≡ Some y → Takes bytes (key y.0) y.1 × IsKey y.0
unfolding key_at
key_takes [] y octets e = absurd (none-some y e)
key_takes (kind ∷ rest) y octets e =
    let behind = rest_octets kind rest octets in
    choose (eqb kind 0) _ _ y e (λ k x. kind_takes text_at text IsText text_code key IsKey (λ n. keys.User n) 0 kind rest y behind k x (λ n. refl) (λ n h. h))
    (λ e1. choose (eqb kind 1) _ _ y e1 (λ k x. kind_takes number_at number IsNumber number_code key IsKey (λ n. keys.Uid n) 1 kind rest y behind k x (λ n. refl) (λ n h. h))
    (λ e2. choose (eqb kind 2) _ _ y e2 (λ k x. kind_takes text_at text IsText text_code key IsKey (λ n. keys.Group n) 2 kind rest y behind k x (λ n. refl) (λ n h. h))
    (λ e3. choose (eqb kind 3) _ _ y e3 (λ k x. kind_takes number_at number IsNumber number_code key IsKey (λ n. keys.Gid n) 3 kind rest y behind k x (λ n. refl) (λ n h. h))
    (λ e4. choose (eqb kind 4) _ _ y e4 (λ k x. kind_takes text_at text IsText text_code key IsKey (λ n. keys.GroupsOf n) 4 kind rest y behind k x (λ n. refl) (λ n h. h))
    (λ e5. choose (eqb kind 5) _ _ y e5 (λ k x. bare_takes key IsKey keys.Host 5 kind rest y behind k x refl tt)
    (λ e6. choose (eqb kind 6) _ _ y e6 (λ k x. bare_takes key IsKey keys.Rules 6 kind rest y behind k x refl tt)
    (λ e7. absurd (none-some y e7))))))))

key_again : (k : Key) (rest : List ℕ) → IsKey k → key_at (key k ++ rest) ≡ Some (k, rest)
unfolding key_at
key_again (keys.User n) rest fits = rw (text_code.again n rest fits) refl
key_again (keys.Uid n) rest fits = rw (number_code.again n rest fits) refl
key_again (keys.Group n) rest fits = rw (text_code.again n rest fits) refl
key_again (keys.Gid n) rest fits = rw (number_code.again n rest fits) refl
key_again (keys.GroupsOf n) rest fits = rw (text_code.again n rest fits) refl
key_again keys.Host rest fits = refl
key_again keys.Rules rest fits = refl

pub key_code : IsCode key_at key IsKey
key_code = record { takes = key_takes; again = key_again }
