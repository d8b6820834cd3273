-- What a session leads, and the ticket that it waits with.
use Rattle.std.specs.Prelude.{ℕ, Bool, true, false, List, Option, if◌then◌else◌}
use Rattle.sd_rules.specs.declared.replies.Reply.{Reply}
use Rattle.sd_rules.specs.declared.replies.Reply.TheVariants.{Closed, Shut, Tried, NoRequest}
use Rattle.sd_rules.specs.declared.replies.Verdict.TheVariants.{Accepted}
pub use Rattle.sd_rules.specs.Leading.{about, opened, place_in, without_place, without, with_one, ticket_after}

-- a reply that closes the request or attempt of its event, or says that it is not open
abbrev pub is_closing : Reply → Bool
is_closing Closed = true
is_closing (Shut outcome) = true
is_closing (Tried Accepted) = true
is_closing NoRequest = true
is_closing _ = false

-- what is led after a reply to its event about the number n
abbrev pub leads_after : List ℕ → Option ℕ → Reply → List ℕ
leads_after leads n reply = if is_closing reply then without leads n else with_one leads (opened reply)
