-- A session at its beginning.
use Rattle.std.proofs.Common.{◌≡◌, ℕ, true, false, List, [], Option, Some, None, refl, sym, subst, append-nil, arith}
use Rattle.std.specs.Prelude.{IfSome}
use Rattle.std.proofs.KnownBytes.{Appends-nil, Consumes-nil}
use Rattle.sd_rules.specs.Steps.{Daemon}
use Rattle.sd_engine.specs.Courses.{Client}
use Rattle.sd_session.specs.Spoken.{IsSpoken}
use Rattle.sd_session.specs.Sessions.{Company}
use Rattle.sd_core.specs.Growth.{IsGrown}
use Rattle.sd_conf.specs.declared.config.Config.{Config}
use Rattle.sd_engine.specs.Engines.{Engine}
use Rattle.sd_engine.specs.Engines as engines
use Rattle.sd_session.specs.Running.{Outside, IsInHand, Stands}
use Rattle.sd_session.proofs.GivingUp.{reads_none}
use Rattle.sd_session.proofs.Ending.{same_lines}
use Rattle.sd_session.proofs.Turning.{nothing_more}

not_yet : {P : Type 0} → false ≡ true → P
not_yet e = cc

none_yet : {P : Type 0} {n : ℕ} → None ≡ Some n → P
none_yet e = let clash : ⊥ = cc in absurd clash

stands_at_first : (w : Company) (seed : List ℕ) (config : Config) (d : Daemon) (o : Outside) → Stands w seed config d o engines.begun d o
stands_at_first w seed config d o = record {
  moves = [];
  may = tt;
  hand = record { same = refl; client = refl; in_hand = tt; going = λ none. refl; picked = λ server asks. none_yet asks };
  heard = record { consumed = Consumes-nil o.left; place = refl; stops = refl; reads = omega arith };
  written = record { written = Appends-nil o.held; broken = refl; told = tt; failed = λ b. not_yet b; writes = omega arith };
  trace = (reads_none o.trace.readings, sym (append-nil o.trace.entries));
  asked = record { operations = nothing_more o.dialling.operations; received = same_lines o.dialling.received; behind = λ i. refl; falls = omega arith; later = omega arith };
  account = record { led = tt; held = tt; sorted = record { renews = refl; requests = λ n h. not_yet h; attempts = λ n h. none_yet h }; are_own = record { leads_own = λ n h. not_yet h; once = tt; ticket_own = λ n h. none_yet h } };
}

pub stands_begun : (w : Company) (seed : List ℕ) (config : Config) (d : Daemon) (o : Outside) (e : Engine) → e ≡ engines.begun → Stands w seed config d o e d o
stands_begun w seed config d o e is = subst (λ (x : Engine). Stands w seed config d o x d o) (sym is) (stands_at_first w seed config d o)

-- the journal knows the request in hand
pub known_in_hand : (seed : List ℕ) (daemon : Daemon) (o : Option Client) → IfSome o (IsInHand seed daemon) → (c : Client) → o ≡ Some c → IsSpoken daemon c.course
known_in_hand seed daemon o h c is = (subst (λ (x : Option Client). IfSome x (IsInHand seed daemon)) is h).known

-- a daemon grew from itself by no entry
pub grown_itself : (d : Daemon) → IsGrown d d
grown_itself d = record { since = []; settings = refl; floor = refl; past = refl; next = refl; legal = tt }
