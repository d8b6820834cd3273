-- What is kept beside a journal's list, and that it says what the journal says.
use Rattle.std.specs.Prelude.{◌≡◌, ℕ, Bool, true, ◌&&◌, not, reverse, is_none, List, Option, if◌then◌else◌}
use Rattle.sd_rules.specs.declared.keys.Key.{Key}
use Rattle.sd_rules.specs.declared.replies.Entry.{Entry}
use Rattle.sd_rules.specs.declared.replies.Reply.{Reply}
use Rattle.sd_rules.specs.declared.replies.Reply.TheVariants.{Filtered}
use Rattle.sd_rules.specs.declared.settings.Settings.{Settings}
use Rattle.sd_rules.specs.Answers.{is_filtered}
use Rattle.sd_cache.specs.declared.kept.Newest.{Newest}
use Rattle.sd_cache.specs.Cache.{newest_in, HoldsNewest}
use Rattle.sd_index.specs.declared.outages.Outage.{Outage}
use Rattle.sd_index.specs.declared.places.Place.{Place}
use Rattle.sd_index.specs.Asked.{bound_for, reply_by_newest}
use Rattle.sd_voids.specs.Bounds.{Bounds}
use Rattle.sd_voids.specs.Entries.{falls}
use Rattle.sd_index.specs.Filed.{is_filed}
use Rattle.sd_index.specs.Outages.{standing_at, HoldsOutage}
use Rattle.sd_index.specs.Places.{place_of, reserved, running_in}
use Rattle.sd_index.specs.Signals.{tells_of_servers, signals}
use Rattle.sd_voids.specs.Voids.{HoldsVoids}

-- the newest answers by keys, the last invalidations, the outage that nothing has ended, the places reserved, the entries that tell
-- of servers (the newest first)
pub record Table : Type 0 where
  pub answers : List (Key × Newest)
  pub bounds : Bounds
  pub outage : Option Outage
  pub places : List Place
  pub signals : List Entry

-- Each of them says what the journal says.
pub record Indexes (past : List Entry) (t : Table) : Type 0 where
  pub numbers : falls past ≡ true
  pub answers : HoldsNewest past t.answers
  pub bounds : HoldsVoids past t.bounds
  pub outage : HoldsOutage past t.outage
  pub places : t.places ≡ reserved past
  pub signals : t.signals ≡ signals past

-- the reply to a question
abbrev pub reply_in : Table → Settings → ℕ → ℕ → Key → Reply
reply_in t s number moment k =
    if is_filtered s k then Filtered
    else reply_by_newest s number moment (newest_in t.answers k) (bound_for t.bounds (newest_in t.answers k)) (standing_at t.outage s.offline_timeout moment)
    (running_in (reverse t.places) k)

-- an entry for which nothing is kept takes no memory
abbrev pub takes_none : Entry → Bool
takes_none e = not (is_filed e.event) && (not (tells_of_servers e) && is_none (place_of e))

-- what is made anew when entries are forgotten
pub record Remake : Type 0 where
  pub bounds : Bounds
  pub signals : List Entry

-- it says what the entries say that are kept
pub record Remakes (kept : List Entry) (r : Remake) : Type 0 where
  pub numbers : falls kept ≡ true
  pub bounds : HoldsVoids kept r.bounds
  pub signals : r.signals ≡ signals kept
