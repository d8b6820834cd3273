use Rattle.sd_world.proofs.KnownLaws.{all_known_on, forget_keeps}
use Rattle.sd_world.proofs.world.World.forget.Goals as goal

pub invariant_of-self-2 : goal.invariant_of-self-2
invariant_of-self-2 c =
    all_known_on c.self.inside.core c.forget.new.self c.self.inside.clients.items (forget_keeps c.self.inside.core c.forget.new.self c.in_ok-forget.ensures.shown) c.self.invariant
