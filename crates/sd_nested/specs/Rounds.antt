-- The rounds: which DNs are asked, in which order.
use Rattle.std.specs.Prelude.{ℕ, zero, suc, Bool, true, false, not, ◌&&◌, if◌then◌else◌, List, [], ◌∷◌, ◌++◌, map, Option, Some, None}
use Rattle.std.specs.List.{list_any, flat_map}
use Rattle.sd_dn.specs.declared.Pair.{Pair}
use Rattle.sd_dn.specs.Comparing.{same_dn, ends_with}
use Rattle.sd_dn.specs.Texts.{spelled}
use Rattle.sd_ldap.specs.declared.entry.DirEntry.{DirEntry}
use Rattle.sd_match.specs.Answering.{found}
use Rattle.sd_nested.specs.Searches.{Question, entry_at, holders_of, read_search, holder_search}
use Rattle.sd_nested.specs.Named.{group_values}

-- a DN that is admitted, and equals none that was met before
abbrev pub is_new : (List (List Pair) → Bool) → List (List (List Pair)) → Option (List (List Pair)) → Bool
is_new admits seen None = false
is_new admits seen (Some dn) = admits dn && not (list_any (same_dn dn) seen)

abbrev pub listed_dn : Option (List (List Pair)) → List (List (List Pair))
listed_dn None = []
listed_dn (Some dn) = dn ∷ []

-- the DNs that texts spell
abbrev pub dns_of : List (List ℕ) → List (List (List Pair))
dns_of texts = flat_map (λ text. listed_dn (spelled text)) texts

-- the texts that spell new DNs, in order, each DN once
abbrev pub new_among : (List (List Pair) → Bool) → List (List (List Pair)) → List (List ℕ) → List (List ℕ)
new_among admits seen [] = []
new_among admits seen (text ∷ texts) =
    if is_new admits seen (spelled text) then text ∷ new_among admits (seen ++ listed_dn (spelled text)) texts
    else new_among admits seen texts

-- how rounds go on: what is found for a DN, which texts an entry found leads on to, and which DNs are admitted
pub record Way : Type 0 where
  pub answers : List ℕ → List DirEntry
  pub leads : DirEntry → List (List ℕ)
  pub admits : List (List Pair) → Bool

-- How far rounds have come: the DNs met so far, what was asked and what was found in the rounds that are over,
-- in order, and what the next round asks.
pub record Rounds : Type 0 where
  pub seen : List (List (List Pair))
  pub asked : List (List ℕ)
  pub found : List DirEntry
  pub due : List (List ℕ)

abbrev pub going_on : Rounds → List DirEntry → List (List ℕ) → Rounds
going_on r given due = record { seen = r.seen ++ dns_of due; asked = r.asked ++ r.due; found = r.found ++ given; due = due }

-- a round in which these entries were found
abbrev pub round_by : Way → Rounds → List DirEntry → Rounds
round_by way r given = going_on r given (new_among way.admits r.seen (flat_map way.leads given))

abbrev pub next_round : Way → Rounds → Rounds
next_round way r = round_by way r (flat_map way.answers r.due)

-- so many rounds
abbrev pub rounds : Way → Rounds → ℕ → Rounds
rounds way start zero = start
rounds way start (suc n) = next_round way (rounds way start n)

-- before the first round, which asks these
abbrev pub beginning : List (List (List Pair)) → List (List ℕ) → Rounds
beginning seen due = record { seen = seen; asked = []; found = []; due = due }

-- Member rounds: a DN is read, and the member values of the groups found are read next, where they are DNs at
-- or under the base.
abbrev pub member_way : List DirEntry → List (List Pair) → Way
member_way entries base = record {
  answers = λ dn. found entries (read_search dn);
  leads = group_values;
  admits = λ dn. ends_with dn base;
}

-- the first round reads the member values of the group, which itself counts as unread
abbrev pub first_values : List (List Pair) → DirEntry → List (List ℕ)
first_values base group = new_among (λ dn. ends_with dn base) [] (group_values group)

abbrev pub member_start : List (List Pair) → DirEntry → Rounds
member_start base group = beginning (dns_of (first_values base group)) (first_values base group)

-- the values read in level + 1 member rounds
abbrev pub member_reads : List DirEntry → List (List Pair) → ℕ → DirEntry → List (List ℕ)
member_reads entries base level group = (rounds (member_way entries base) (member_start base group) (suc level)).asked

-- what is asked in the member rounds from a group
abbrev pub member_questions : List DirEntry → List (List Pair) → ℕ → DirEntry → List Question
member_questions entries base level group = map entry_at (member_reads entries base level group)

-- Holder rounds: the groups that hold a DN are asked for, and the DNs of the groups found are asked next.
abbrev pub holder_way : List DirEntry → List ℕ → Way
holder_way entries base = record {
  answers = λ dn. found entries (holder_search base dn);
  leads = λ e. e.dn ∷ [];
  admits = λ dn. true;
}

-- the DNs asked in level + 1 holder rounds
abbrev pub holder_asks : List DirEntry → List ℕ → ℕ → List ℕ → List (List ℕ)
holder_asks entries base level dn = (rounds (holder_way entries base) (beginning [] (dn ∷ [])) (suc level)).asked

-- what is asked in the holder rounds from a DN
abbrev pub holder_questions : List DirEntry → List ℕ → ℕ → List ℕ → List Question
holder_questions entries base level dn = map holders_of (holder_asks entries base level dn)
