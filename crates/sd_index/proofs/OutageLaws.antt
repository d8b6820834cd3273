-- The outage that nothing has ended stays that of the journal.
use Rattle.std.proofs.Common.{◌≡◌, ℕ, ◌+◌, nat_lt, Bool, true, false, cond, List, [], ◌∷◌, Option, None, Some, refl}
use Rattle.sd_rules.specs.declared.replies.Entry.{Entry}
use Rattle.sd_rules.specs.Past.{records_outage, ends_outage, outage_at}
use Rattle.sd_index.specs.declared.outages.Outage.{Outage}
use Rattle.sd_index.specs.Outages.{outage_after, standing_at, HoldsOutage}

standing_after : (r n : Bool) (e : Entry) (o : Option Outage) (x : Option ℕ) (timeout t : ℕ) → standing_at o timeout t ≡ x
    → standing_at (cond r (Some (record { number = e.number; moment = e.moment })) (cond n None o)) timeout t
    ≡ cond r (cond (nat_lt t (e.moment + timeout)) (Some e.number) None) (cond n None x)
standing_after true n e o x timeout t h = refl
standing_after false true e o x timeout t h = refl
standing_after false false e o x timeout t h = h

pub holds_outage_after : (past : List Entry) (e : Entry) (o : Option Outage) → HoldsOutage past o → HoldsOutage (e ∷ past) (outage_after o e)
holds_outage_after past e o holds = record {
  each = λ timeout t.
      standing_after (records_outage e.event e.reply) (ends_outage e.event e.reply) e o (outage_at timeout past t) timeout t (holds.each timeout t);
}

pub holds_no_outage : HoldsOutage [] None
holds_no_outage = record { each = λ timeout t. refl }
