-- The clients of a scenario: a task of each, and what its entries left open.
use Rattle.std.specs.Prelude.{ℕ, Bool, true, false, ◌||◌, List, [], Option, None, if◌then◌else◌}
use Rattle.sd_rules.specs.declared.replies.Given.{Given}
use Rattle.sd_rules.specs.declared.replies.Reply.{Reply}
use Rattle.sd_rules.specs.declared.replies.Reply.TheVariants.{Closed, Shut, Tried}
use Rattle.sd_rules.specs.declared.replies.Verdict.TheVariants.{Accepted}
use Rattle.sd_rules.specs.declared.tasks.Bound.{Bound}
use Rattle.sd_rules.specs.declared.tasks.Fetched.{Fetched}
use Rattle.sd_rules.specs.declared.tasks.Need.{Need}
use Rattle.sd_rules.specs.declared.tasks.Need.TheVariants as needs
pub use Rattle.sd_rules.specs.Leading.{about, opened, place_in, without_place, without, with_one, ticket_after}
use Rattle.sd_rules.specs.Scripts.{need_at, awaits_reply, is_saying}
use Rattle.sd_world.specs.Courses.{Course, script_of}
use Rattle.sd_world.specs.Courses as courses

-- A client: its task as far as it has come; the requests and attempts that it leads, in the order in which they were led; the
-- ticket that it waits with; whether its answer was printed; whether it has ended.
pub record Client : Type 0 where
  pub task : Course
  pub leads : List ℕ
  pub ticket : Option ℕ
  pub is_told : Bool
  pub is_over : Bool

-- a client of a task
abbrev pub begun : Course → Client
begun task = record { task = task; leads = []; ticket = None; is_told = false; is_over = false }

-- what it needs next
abbrev pub need_of : Client → Need
need_of c = need_at (script_of c.task)

-- a reply that closes the request or attempt of its event
abbrev pub is_closing : Reply → Bool
is_closing Closed = true
is_closing (Shut outcome) = true
is_closing (Tried Accepted) = true
is_closing _ = false

-- what a client leads after a reply to its event about the number n
abbrev pub leads_after : List ℕ → Option ℕ → Reply → List ℕ
leads_after leads n reply = if is_closing reply then without leads n else with_one leads (opened reply)

-- a client after the reply to its event about the number n
abbrev pub replied : Client → Option ℕ → Given → Client
replied c n given = record {
  task = courses.replied c.task given;
  leads = leads_after c.leads n given.reply;
  ticket = ticket_after c.ticket given.reply;
  is_told = c.is_told;
  is_over = c.is_over;
}

-- a client after its search at a server, and after its bind at a server
abbrev pub fetched : Client → Fetched → Client
fetched c answer = record c { task = courses.fetched c.task answer }

abbrev pub bound : Client → Bound → Client
bound c answer = record c { task = courses.bound c.task answer }

abbrev pub is_end : Need → Bool
is_end needs.End = true
is_end _ = false

-- a client whose need was asked: what was to be told is told, and it has ended where nothing is needed
abbrev pub asked : Client → Client
asked c = record {
  task = courses.told c.task;
  leads = c.leads;
  ticket = c.ticket;
  is_told = c.is_told || is_saying (need_of c);
  is_over = c.is_over || is_end (need_of c);
}

-- a client between two moves: it has ended, or its task needs an event
abbrev pub is_settled : Client → Bool
is_settled c = c.is_over || awaits_reply (need_of c)

-- a client that has left: it leads nothing and waits for nothing
abbrev pub gone : Client → Client
gone c = record { task = c.task; leads = []; ticket = None; is_told = c.is_told; is_over = true }
