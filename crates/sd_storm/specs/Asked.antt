-- The users that a load asks for, and what the answers come to.
use Rattle.std.specs.Prelude.{ℕ, zero, suc, ◌+◌, ◌*◌, ◌/◌, ◌%◌, Bool, not, ◌==◌, nat_lt, List, [], ◌∷◌, count_by}
use Rattle.std.specs.List.{list_any, range_with_len}
use Rattle.sd_storm.specs.declared.account.Account.{Account}

-- the state behind a state, of a linear congruential generator
abbrev pub next_state : ℕ → ℕ
next_state state = (state * 1103515245 + 12345) % 2147483648

-- the number of the user that is asked for in a state
abbrev pub user_in : ℕ → ℕ
user_in state = (state / 65536) % 200

-- the users that so many requests ask for behind a state
abbrev pub asked_behind : ℕ → ℕ → List ℕ
asked_behind state zero = []
asked_behind state (suc n) = user_in (next_state state) ∷ asked_behind (next_state state) n

-- the first state is 1
abbrev pub users_asked : ℕ → List ℕ
users_asked requests = asked_behind 1 requests

-- the directory has the users of the numbers below 150
abbrev pub is_known : ℕ → Bool
is_known user = nat_lt user 150

abbrev pub is_asked : ℕ → List ℕ → Bool
is_asked user users = list_any (λ other. other == user) users

-- of the requests so many find their user, and so many none; the directory is asked once for each of the users that are asked for
abbrev pub account_of : List ℕ → Account
account_of users = record {
  found = count_by is_known users;
  none = count_by (λ user. not (is_known user)) users;
  leads = count_by (λ user. is_asked user users) (range_with_len 0 200);
}
