-- What words are that ask for something.
use Rattle.std.proofs.Common.{◌≡◌, ◌≢◌, ℕ, Bool, true, false, cond, List, [], ◌∷◌, Option, Some, None, refl, subst}
use Rattle.std.specs.Prelude.{codes, is_some}
use Rattle.sd_ldap_server.specs.Addresses.{is_address}
use Rattle.sd_storm.specs.Words.{requests_of}
use Rattle.sd_netgroup.specs.Words.{question_of}
use Rattle.sd_rules.specs.Keys.{same_name}
use Rattle.sd_idmap.specs.Endings.{is_idmap}
use Rattle.sd_scenario.specs.Endings.{is_scenario}
use Rattle.sd_serve.specs.Words.{kind_of, kind_by_load, kind_by_rest, operand_of}
use Rattle.sd_serve.specs.declared.words.Kind.{Kind}
use Rattle.sd_serve.specs.declared.words.Kind.TheVariants as kinds
use Rattle.sd_sudo.specs.Words.{user_asked}

-- what two words and more are, by what they ask for
abbrev Says : Kind → List ℕ → List ℕ → List (List ℕ) → Type 0
Says kinds.Scenario tool operand rest = ⊥
Says kinds.Idmap tool operand rest = ⊥
Says kinds.Help tool operand rest = ⊥
Says kinds.Version tool operand rest = ⊥
Says kinds.Netgroup tool operand rest = question_of (tool ∷ operand ∷ rest) ≢ None
Says kinds.Sudo tool operand rest = user_asked (tool ∷ operand ∷ rest) ≢ None
Says kinds.Storm tool operand rest = is_some (requests_of operand) ≡ true
Says kinds.Query tool operand rest = Unit {0}
Says kinds.Cache tool operand rest = Unit {0}
Says kinds.Serve tool operand rest = Unit {0}
Says kinds.Directory tool operand rest = Unit {0}
Says kinds.Unknown tool operand rest = Unit {0}

by_two : (a : Bool) (n : Option ℕ) (P : Kind → Type 0) → (is_some n ≡ true → P kinds.Storm) → P kinds.Unknown → P (cond a (kind_by_load n) kinds.Unknown)
by_two true (Some n) P s u = s refl
by_two true None P s u = u
by_two false n P s u = u

by_three : (a b c : Bool) (P : Kind → Type 0) → P kinds.Serve → P kinds.Directory → P kinds.Unknown
    → P (cond a kinds.Serve (cond b (cond c kinds.Directory kinds.Unknown) kinds.Unknown))
by_three true b c P s d u = s
by_three false true true P s d u = d
by_three false true false P s d u = u
by_three false false c P s d u = u

by_four : (a b c : Bool) (P : Kind → Type 0) → P kinds.Serve → (b ≡ true → P kinds.Netgroup) → (c ≡ true → P kinds.Sudo) → P kinds.Unknown
    → P (cond a kinds.Serve (cond b kinds.Netgroup (cond c kinds.Sudo kinds.Unknown)))
by_four true b c P s n r u = s
by_four false true c P s n r u = n refl
by_four false false true P s n r u = r refl
by_four false false false P s n r u = u

by_seven : (a : Bool) (P : Kind → Type 0) → (a ≡ true → P kinds.Netgroup) → P kinds.Unknown → P (cond a kinds.Netgroup kinds.Unknown)
by_seven true P n u = n refl
by_seven false P n u = u

by_tool : (a b : Bool) (k : Kind) (P : Kind → Type 0) → P kinds.Query → P kinds.Cache → P k → P (cond a kinds.Query (cond b kinds.Cache k))
by_tool true b k P q c p = q
by_tool false true k P q c p = c
by_tool false false k P q c p = p

asked_where : {T : Type 0} (a : Bool) (x : T) → a ≡ true → cond a (Some x) None ≢ None
asked_where true x e none = cc
asked_where false x e none = cc

by_rest : (tool operand : List ℕ) (rest : List (List ℕ)) → Says (kind_by_rest tool operand rest) tool operand rest
by_rest tool operand [] = by_two (same_name tool (codes "storm")) (requests_of operand) (λ k. Says k tool operand []) (λ e. e) tt
by_rest tool operand (third ∷ []) =
    by_three (same_name tool (codes "serve")) (same_name tool (codes "directory")) (is_address third) (λ k. Says k tool operand (third ∷ [])) tt tt tt
by_rest tool operand (third ∷ fourth ∷ []) =
    by_four (same_name tool (codes "serve")) (same_name tool (codes "netgroup")) (same_name tool (codes "sudo")) (λ k. Says k tool operand (third ∷ fourth ∷ [])) tt
    (asked_where (same_name tool (codes "netgroup")) _) (asked_where (same_name tool (codes "sudo")) _) tt
by_rest tool operand (third ∷ fourth ∷ fifth ∷ []) = tt
by_rest tool operand (third ∷ fourth ∷ fifth ∷ sixth ∷ []) = tt
by_rest tool operand (third ∷ fourth ∷ fifth ∷ sixth ∷ seventh ∷ []) =
    by_seven (same_name tool (codes "innetgr")) (λ k. Says k tool operand (third ∷ fourth ∷ fifth ∷ sixth ∷ seventh ∷ []))
    (asked_where (same_name tool (codes "innetgr")) _) tt
by_rest tool operand (third ∷ fourth ∷ fifth ∷ sixth ∷ seventh ∷ eighth ∷ rest) = tt

says : (tool operand : List ℕ) (rest : List (List ℕ)) → Says (kind_of (tool ∷ operand ∷ rest)) tool operand rest
says tool operand rest = by_tool (same_name tool (codes "query")) (same_name tool (codes "cache")) (kind_by_rest tool operand rest)
    (λ k. Says k tool operand rest) tt tt (by_rest tool operand rest)

by_kind : (k : Kind) (tool operand : List ℕ) (rest : List (List ℕ)) → kind_of (tool ∷ operand ∷ rest) ≡ k → Says k tool operand rest
by_kind k tool operand rest e = subst (λ (x : Kind). Says x tool operand rest) e (says tool operand rest)

-- what one word is, by what it asks for
abbrev SaysAlone : Kind → List ℕ → Type 0
SaysAlone kinds.Scenario word = is_scenario (word ∷ []) ≡ true
SaysAlone kinds.Idmap word = is_idmap (word ∷ []) ≡ true
SaysAlone kinds.Netgroup word = ⊥
SaysAlone kinds.Sudo word = ⊥
SaysAlone kinds.Storm word = ⊥
SaysAlone _ word = Unit {0}

by_word : (a b c d : Bool) (P : Kind → Type 0) → (a ≡ true → P kinds.Scenario) → (b ≡ true → P kinds.Idmap) → P kinds.Help → P kinds.Version → P kinds.Unknown
    → P (cond a kinds.Scenario (cond b kinds.Idmap (cond c kinds.Help (cond d kinds.Version kinds.Unknown))))
by_word true b c d P s i h v u = s refl
by_word false true c d P s i h v u = i refl
by_word false false true d P s i h v u = h
by_word false false false true P s i h v u = v
by_word false false false false P s i h v u = u

alone : (word : List ℕ) → SaysAlone (kind_of (word ∷ [])) word
alone word = by_word (same_name word (codes "scenario")) (same_name word (codes "idmap")) (same_name word (codes "--help")) (same_name word (codes "--version"))
    (λ k. SaysAlone k word) (λ e. e) (λ e. e) tt tt tt

by_kind_alone : (k : Kind) (word : List ℕ) → kind_of (word ∷ []) ≡ k → SaysAlone k word
by_kind_alone k word e = subst (λ (x : Kind). SaysAlone x word) e (alone word)

-- the words of a scenario are the one word `scenario`
pub is_the_word : (words : List (List ℕ)) → kind_of words ≡ kinds.Scenario → is_scenario words ≡ true
is_the_word [] e = cc
is_the_word (word ∷ []) e = by_kind_alone kinds.Scenario word e
is_the_word (tool ∷ operand ∷ rest) e = absurd (by_kind kinds.Scenario tool operand rest e)

-- those of SIDs are the one word `idmap`
pub is_the_word_of_ids : (words : List (List ℕ)) → kind_of words ≡ kinds.Idmap → is_idmap words ≡ true
is_the_word_of_ids [] e = cc
is_the_word_of_ids (word ∷ []) e = by_kind_alone kinds.Idmap word e
is_the_word_of_ids (tool ∷ operand ∷ rest) e = absurd (by_kind kinds.Idmap tool operand rest e)

-- words that ask of a netgroup have a form
pub has_question : (words : List (List ℕ)) → kind_of words ≡ kinds.Netgroup → question_of words ≢ None
has_question [] e = cc
has_question (word ∷ []) e = absurd (by_kind_alone kinds.Netgroup word e)
has_question (tool ∷ operand ∷ rest) e = by_kind kinds.Netgroup tool operand rest e

-- so have those that ask for sudo rules
pub has_user : (words : List (List ℕ)) → kind_of words ≡ kinds.Sudo → user_asked words ≢ None
has_user [] e = cc
has_user (word ∷ []) e = absurd (by_kind_alone kinds.Sudo word e)
has_user (tool ∷ operand ∷ rest) e = by_kind kinds.Sudo tool operand rest e

-- a load has a number of requests
pub has_number : (words : List (List ℕ)) → kind_of words ≡ kinds.Storm → is_some (requests_of (operand_of words)) ≡ true
has_number [] e = cc
has_number (word ∷ []) e = absurd (by_kind_alone kinds.Storm word e)
has_number (tool ∷ operand ∷ rest) e = by_kind kinds.Storm tool operand rest e

-- none is not some
pub none_is_not : (n : Option ℕ) → n ≡ None → is_some n ≡ true → ⊥
none_is_not None is some = cc
none_is_not (Some x) is some = cc
