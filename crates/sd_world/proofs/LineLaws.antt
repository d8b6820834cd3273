-- What lines do: tasks that run come to rest, a step makes its events, and no scenario is ended by the bound on the moves.
use Rattle.std.proofs.Common.{◌≡◌, ◌∙◌, ℕ, Bool, true, false, ◌-◌, cond, not, slice_get, length, List, [], ◌∷◌, Result, Ok, Err, refl, ap, sym, subst, arith}
use Rattle.std.specs.Prelude.{OnOk, MatchResult}
use Rattle.sd_rules.specs.declared.keys.Key.TheVariants as keys
use Rattle.sd_rules.specs.declared.events.Event.TheVariants as events
use Rattle.sd_rules.specs.LoginScript.{login_begun}
use Rattle.sd_conf.specs.declared.config.Config.{Config}
use Rattle.sd_lines.specs.declared.lines.Line.{Line}
use Rattle.sd_lines.specs.declared.lines.Line.TheVariants as lines
use Rattle.sd_layout.specs.declared.blocks.Statement.{Statement}
use Rattle.sd_layout.specs.Blocks.{statements_of}
use Rattle.sd_layout.specs.Faults.{config_of}
use Rattle.sd_layout.specs.Head.{head_of}
use Rattle.sd_world.specs.declared.stop.Stop.{Stop}
use Rattle.sd_world.specs.Clients.{begun}
use Rattle.sd_world.specs.Courses.{Course, LoginWords, LoggingIn, lookup, login, check}
use Rattle.sd_world.specs.Stops.{Halts}
use Rattle.sd_world.specs.Tasks.{World, Halt, Full, Endless, MakesEvents, NoneIsReady, is_bounded, is_settled_at, most_moves, moves_at, run_from}
use Rattle.sd_world.specs.Transcript.{Transcript, StepsAs, check_words, client_added, hold, lets_run, line_done, login_words, start, task_made, transcript, transcript_after, transcript_by, transcript_on}
use Rattle.sd_world.proofs.BoundLaws.{IsBounded, is_poised, event_bounded, forgot_bounded, left_bounded, moves_bounded, poised_more, runs_bounded}
use Rattle.sd_world.proofs.MoveLaws.{Bounded, moves_made}
use Rattle.sd_world.proofs.RestLaws.{Whole, run_rested, whole_is}

-- ---- lines that let tasks run

task_rests_by : (w : World) (task : Course) (b : Bool) → not b ≡ true → Whole (cond b (Ok (client_added w task)) (run_from (client_added w task) (length w.clients))) NoneIsReady
task_rests_by w task true h = let clash : ⊥ = cc in absurd clash
task_rests_by w task false h = run_rested (most_moves (client_added w task)) (client_added w task) (length w.clients)

task_rests : (w : World) (task : Course) → not w.is_held ≡ true → Whole (task_made w task) NoneIsReady
task_rests w task h = task_rests_by w task w.is_held h

pub line_rests : (w : World) (line : Line) → lets_run w line ≡ true → Whole (line_done w line) NoneIsReady
line_rests w lines.Go h = run_rested (most_moves (hold w false)) (hold w false) 0
line_rests w (lines.GetUser name) h = task_rests w (lookup (keys.User name)) h
line_rests w (lines.GetUid uid) h = task_rests w (lookup (keys.Uid uid)) h
line_rests w (lines.GetGroup name) h = task_rests w (lookup (keys.Group name)) h
line_rests w (lines.GetGid gid) h = task_rests w (lookup (keys.Gid gid)) h
line_rests w (lines.GroupsOf name) h = task_rests w (lookup (keys.GroupsOf name)) h
line_rests w (lines.Login user password) h = task_rests w (login (login_words w user password)) h
line_rests w (lines.Access user service) h = task_rests w (check (check_words w user service)) h
line_rests w _ h = let clash : ⊥ = cc in absurd clash

-- ---- steps

whole_under : (S : Type 0) (P : World → Type 0) (r : Result World Halt) → (S → Whole r P) → Whole r (λ v. S → P v)
whole_under S P (Ok x) h = h
whole_under S P (Err e) h = tt

whole_all : (P : World → Type 0) (r : Result World Halt) → ((v : World) → P v) → Whole r P
whole_all P (Ok x) h = h x
whole_all P (Err e) h = tt

pub line_steps : (w : World) (line : Line) → Whole (line_done w line) (StepsAs w line)
line_steps w (lines.Step task count) =
    whole_under (is_settled_at (slice_get w.clients (task - 1)) ≡ true) (MakesEvents count (task - 1) w) (moves_at count w (task - 1)) (moves_made count (task - 1) w)
line_steps w line = whole_all (StepsAs w line) (line_done w line) (λ v. tt)

-- the same of a line that may have ended the scenario
whole_or : (P : World → Type 0) (r : Result (Unit {0}) Stop) (done : Result World Halt) (v : World) → Whole done P → MatchResult r (λ _. done ≡ Ok v) (λ stop. Halts stop done v.printed) → OnOk r (P v)
whole_or P (Ok x) done v h is = whole_is done P v h is
whole_or P (Err stop) done v h is = tt

pub rests_if : (w v : World) (line : Line) (r : Result (Unit {0}) Stop) → MatchResult r (λ _. line_done w line ≡ Ok v) (λ stop. Halts stop (line_done w line) v.printed)
    → lets_run w line ≡ true → OnOk r (NoneIsReady v)
rests_if w v line r is h = whole_or NoneIsReady r (line_done w line) v (line_rests w line h) is

pub steps_if : (w v : World) (line : Line) (r : Result (Unit {0}) Stop) → MatchResult r (λ _. line_done w line ≡ Ok v) (λ stop. Halts stop (line_done w line) v.printed)
    → OnOk r (StepsAs w line v)
steps_if w v line r is = whole_or (StepsAs w line) r (line_done w line) v (line_steps w line) is

-- ---- the bound is never used up

begins_bounded : (w : World) (task : Course) → is_poised (begun task) ≡ true → IsBounded w → IsBounded (client_added w task)
begins_bounded w task poised bounded = record {
  limit = bounded.limit;
  numbered = bounded.numbered;
  poised = poised_more w.clients (begun task) bounded.poised poised;
}

task_bounded_by : (w : World) (task : Course) (b : Bool) → IsBounded (client_added w task) → Bounded (cond b (Ok (client_added w task)) (run_from (client_added w task) (length w.clients))) IsBounded
task_bounded_by w task true bounded = bounded
task_bounded_by w task false bounded = runs_bounded (client_added w task) (length w.clients) bounded

task_bounded : (w : World) (task : Course) → is_poised (begun task) ≡ true → IsBounded w → Bounded (task_made w task) IsBounded
task_bounded w task poised bounded = task_bounded_by w task w.is_held (begins_bounded w task poised bounded)

login_poised : (words : LoginWords) (password : List ℕ) → is_poised (begun (LoggingIn words (login_begun password))) ≡ true
login_poised words [] = refl
login_poised words (byte ∷ password) = refl

line_bounded : (w : World) (line : Line) → IsBounded w → Bounded (line_done w line) IsBounded
line_bounded w (lines.Void what) h = event_bounded w (events.Void what) h
line_bounded w lines.Offline h = event_bounded w events.Offline h
line_bounded w lines.Online h = event_bounded w events.Online h
line_bounded w lines.Forget h = forgot_bounded w h
line_bounded w (lines.GetUser name) h = task_bounded w (lookup (keys.User name)) refl h
line_bounded w (lines.GetUid uid) h = task_bounded w (lookup (keys.Uid uid)) refl h
line_bounded w (lines.GetGroup name) h = task_bounded w (lookup (keys.Group name)) refl h
line_bounded w (lines.GetGid gid) h = task_bounded w (lookup (keys.Gid gid)) refl h
line_bounded w (lines.GroupsOf name) h = task_bounded w (lookup (keys.GroupsOf name)) refl h
line_bounded w (lines.Login user password) h = task_bounded w (login (login_words w user password)) (login_poised (login_words w user password) password) h
line_bounded w (lines.Access user service) h = task_bounded w (check (check_words w user service)) refl h
line_bounded w lines.Go h = runs_bounded (hold w false) 0 (record { limit = h.limit; numbered = h.numbered; poised = h.poised })
line_bounded w (lines.Step task count) h = moves_bounded count w (task - 1) h
line_bounded w (lines.Abandon task) h = left_bounded w (task - 1) h
line_bounded w _ h = record { limit = h.limit; numbered = h.numbered; poised = h.poised }

start_bounded : (c : Config) → IsBounded (start c)
start_bounded c = record { limit = refl; numbered = refl; poised = tt }

after_bounded : (r : Result World Halt) (f : World → Transcript) → Bounded r IsBounded → ((v : World) → IsBounded v → (f v).is_endless ≡ false) → (transcript_after r f).is_endless ≡ false
after_bounded (Ok v) f h g = g v h
after_bounded (Err (Full n printed)) f h g = refl
after_bounded (Err (Endless printed)) f h g = absurd h

on_bounded : (w : World) (body : List Statement) → IsBounded w → (transcript_on w body).is_endless ≡ false
on_bounded w [] h = refl
on_bounded w (s ∷ rest) h = after_bounded (line_done w s.line) (λ v. transcript_on v rest) (line_bounded w s.line h) (λ v k. on_bounded v rest k)

-- a scenario from its beginning
pub starts_bounded : (w : World) (c : Config) (body : List Statement) → w ≡ start c → (transcript_on w body).is_endless ≡ false
starts_bounded w c body is = subst (λ (v : World). (transcript_on v body).is_endless ≡ false) (sym is) (on_bounded (start c) body (start_bounded c))

pub begun_bounded : (c : Config) (body : List Statement) → (transcript_on (start c) body).is_endless ≡ false
begun_bounded c body = on_bounded (start c) body (start_bounded c)

by_config : (r : Result Config ℕ) (body : List Statement) → (transcript_by r body).is_endless ≡ false
by_config (Ok c) body = on_bounded (start c) body (start_bounded c)
by_config (Err n) body = refl

pub transcript_bounded : (text : List ℕ) → (transcript text).is_endless ≡ false
unfolding transcript
transcript_bounded text = by_config (config_of (head_of text)) (statements_of (head_of text).number (head_of text).body)

-- a line of a scenario that does not come to the bound
line_by : (r : Result World Halt) (f : World → Transcript) → (transcript_after r f).is_endless ≡ false → is_bounded r ≡ true
line_by (Ok v) f h = refl
line_by (Err (Full n printed)) f h = refl
line_by (Err (Endless printed)) f h = cc

pub line_of_bounded : (w v : World) (s : Statement) (rest left all : List Statement) → left ≡ s ∷ rest → transcript_on w left ≡ transcript_on v all
    → (transcript_on v all).is_endless ≡ false → is_bounded (line_done w s.line) ≡ true
line_of_bounded w v s rest left all begins told h =
    let now : (transcript_on w left).is_endless ≡ false = ap (λ (t : Transcript). t.is_endless) told ∙ h in
    let first : (transcript_on w (s ∷ rest)).is_endless ≡ false = subst (λ (ls : List Statement). (transcript_on w ls).is_endless ≡ false) begins now in
    line_by (line_done w s.line) (λ u. transcript_on u rest) first
