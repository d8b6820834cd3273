use Rattle.std.proofs.Common.{◌≡◌, Bool, true, false, ◌&&◌, reverse}
use Rattle.sd_rules.specs.Needed as needed
use Rattle.sd_needs.proofs.needs.reads.Goals as goal

not_both : (a r b : Bool) → r ≡ false → r ≡ b → r ≡ (a && b)
not_both true r b h e = e
not_both false r b h e = h

-- an entry that is not read for another is not read with it, whether or not the other is looked at
pub returns-else-is_read_for : goal.returns-else-is_read_for
returns-else-is_read_for c =
    not_both (needed.is_looked_at (reverse c.args.all.now) (reverse c.args.before.now) c.args.other.now) c.is_read_for.result
    (needed.is_read_for (reverse c.args.all.now) c.args.entry.now c.args.other.now.event (needed.read_with c.args.other.now.event c.args.other.now.reply))
    c.if-is_read_for.false c.is_read_for.ensures
