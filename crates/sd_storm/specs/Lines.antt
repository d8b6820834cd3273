-- What is printed of a load.
use Rattle.std.specs.Prelude.{ℕ, ◌++◌, List, codes}
use Rattle.sd_storm.specs.Asked.{users_asked, account_of}
use Rattle.sd_storm.specs.declared.account.Account.{Account}
use Rattle.sd_wire.specs.Forms.{numbered}

-- a word, with the space behind it, a number, and the end of the line
abbrev pub line : List ℕ → ℕ → List ℕ
line word number = numbered word number ++ codes "\n"

abbrev pub lines_of : ℕ → Account → List ℕ
lines_of requests account =
    line (codes "requests ") requests ++ (line (codes "found ") account.found ++ (line (codes "none ") account.none ++ line (codes "leads ") account.leads))

-- what so many requests come to
unfoldable pub storm_lines : ℕ → List ℕ
storm_lines requests = lines_of requests (account_of (users_asked requests))
