-- What is sent of an entry, where an attribute is asked for, says of it what the entry says: what a fetch reads besides.
use Rattle.std.proofs.Common.{◌≡◌, ℕ, Bool, true, false, ◌&&◌, List, [], ◌∷◌, ◌++◌, None, refl, ap, ◌∙◌, cond}
use Rattle.std.specs.Prelude.{filter, codes}
use Rattle.std.specs.List.{list_any}
use Rattle.sd_dn.specs.Comparing.{same_text}
use Rattle.sd_dn.specs.declared.Pair.{Pair}
use Rattle.sd_ldap.specs.declared.entry.Attribute.{Attribute}
use Rattle.sd_match.specs.Answering.{is_sent, sent_attributes}
use Rattle.sd_match.proofs.Sent.{IsKept, unnamed, sent_are, any_sent, values_sent, chosen_sent}
use Rattle.sd_schema.specs.Values.{own_holds, holds, own_like, first_like}
use Rattle.sd_schema.specs.Places.{own_names, names_under}
use Rattle.sd_rules.specs.Keys.{same_name}
use Rattle.sd_nested.specs.Named.{member_values}

under_step : (container : List (List Pair)) (naming name : List ℕ) (x : Attribute) (xs kept : List Attribute) (b : Bool)
    → (b ≡ false → own_names container naming name x ≡ []) → names_under container naming name kept ≡ names_under container naming name xs
    → names_under container naming name (cond b (x ∷ kept) kept) ≡ own_names container naming name x ++ names_under container naming name xs
under_step container naming name x xs kept true f e = ap (λ (y : List (List ℕ)). own_names container naming name x ++ y) e
under_step container naming name x xs kept false f e = rw (f refl) e

under_kept : (container : List (List Pair)) (naming name : List ℕ) (p : Attribute → Bool) → ((x : Attribute) → p x ≡ false → own_names container naming name x ≡ [])
    → (xs : List Attribute) → names_under container naming name (filter p xs) ≡ names_under container naming name xs
under_kept container naming name p f [] = refl
under_kept container naming name p f (x ∷ xs) = under_step container naming name x xs (filter p xs) (p x) (f x) (under_kept container naming name p f xs)

and_no : (a b : Bool) → a ≡ false → (a && b) ≡ false
and_no a b e = rw e refl

pub holds_sent : (asked : List (List ℕ)) (name text : List ℕ) → IsKept asked name → (xs : List Attribute) → holds name text (sent_attributes false asked xs) ≡ holds name text xs
holds_sent asked name text k xs =
    any_sent asked name k (λ (a : Attribute). own_holds name text a) (λ a h. and_no (same_text a.name name) (list_any (λ value. same_name value text) a.values) h) xs

own_like_no : (name text : List ℕ) (a : Attribute) → same_text a.name name ≡ false → own_like name text a ≡ None
own_like_no name text a e = rw e refl

pub like_sent : (asked : List (List ℕ)) (name text : List ℕ) → IsKept asked name → (xs : List Attribute) → first_like name text (sent_attributes false asked xs) ≡ first_like name text xs
like_sent asked name text k xs = chosen_sent asked name k (own_like name text) (first_like name text) (own_like_no name text) (λ a ys. refl) xs

own_names_no : (container : List (List Pair)) (naming name : List ℕ) (a : Attribute) → same_text a.name name ≡ false → own_names container naming name a ≡ []
own_names_no container naming name a e = rw e refl

pub under_sent : (asked : List (List ℕ)) (container : List (List Pair)) (naming name : List ℕ) → IsKept asked name → (xs : List Attribute) → names_under container naming name (sent_attributes false asked xs) ≡ names_under container naming name xs
under_sent asked container naming name k xs =
    ap (names_under container naming name) (sent_are asked xs)
    ∙ under_kept container naming name (λ (a : Attribute). is_sent asked a) (λ a h. own_names_no container naming name a (unnamed asked name k a h)) xs

pub members_sent : (asked : List (List ℕ)) → IsKept asked (codes "member") → (xs : List Attribute) → member_values (sent_attributes false asked xs) ≡ member_values xs
members_sent asked k xs = values_sent asked (codes "member") k xs
