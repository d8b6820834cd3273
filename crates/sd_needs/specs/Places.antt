-- Entries of a journal by their places. A journal is the list of its entries, the oldest first.
use Rattle.std.specs.Prelude.{ℕ, Bool, false, List, Option, Some, None, reverse, slice_get, take}
use Rattle.sd_rules.specs.declared.replies.Entry.{Entry}
use Rattle.sd_rules.specs.Needed.{is_needed}
use Rattle.sd_rules.specs.declared.keys.Key.{Key}
use Rattle.sd_rules.specs.declared.keys.Key.TheVariants as keys
use Rattle.sd_needs.specs.declared.answers.Named.{Named}
use Rattle.sd_needs.specs.declared.answers.Named.TheVariants as names

-- the key of a user or a group that is named
abbrev pub key_named : Named → Key
key_named (names.User name) = keys.User name.now
key_named (names.Group name) = keys.Group name.now

-- an entry that stands at a place, where one does, is needed
abbrev pub is_entry_needed : List Entry → ℕ → Option Entry → Bool
is_entry_needed entries place None = false
is_entry_needed entries place (Some e) = is_needed (reverse entries) (reverse (take place entries)) e

-- the entry at a place, counted from the oldest, is needed; where there is no entry, none is
abbrev pub is_needed_at : List Entry → ℕ → Bool
is_needed_at entries place = is_entry_needed entries place (slice_get entries place)
