-- A task of the code goes on as its script does.
use Rattle.std.proofs.Common.{◌≡◌, ◌∙◌, Bool, true, false, Result, Ok, Err, refl, ap, sym, subst}
use Rattle.std.specs.Prelude.{IfOk, OnOk, OnErr}
use Rattle.sd_base.specs.declared.Memory.{Memory}
use Rattle.sd_rules.specs.declared.keys.Key.TheVariants as keys
use Rattle.sd_rules.specs.declared.replies.Given.{Given}
use Rattle.sd_rules.specs.declared.tasks.Bound.{Bound}
use Rattle.sd_rules.specs.declared.tasks.Fetched.{Fetched}
use Rattle.sd_rules.specs.declared.tasks.Need.{Need}
use Rattle.sd_rules.specs.declared.tasks.Need.TheVariants as needs
use Rattle.sd_rules.specs.Scripts.{Script, Lookup, Login, Access, Admin, need_at, told_at, replied_at, fetched_at, bound_at, awaits_reply, answers_search, is_saying, key_at, is_need_of_kind}
use Rattle.sd_world.specs.declared.task.ClientTask.{ClientTask}
use Rattle.sd_world.specs.declared.task.ClientTask.TheVariants.{LookUp, LogIn, Check}
use Rattle.sd_world.specs.Courses.{Course, LookingUp, LoggingIn, Checking, script, seen, script_of, lookup, told, replied, fetched, bound}

abbrev erase : Script → Course
erase (Lookup key course) = LookingUp key course
erase (Login words course) = LoggingIn (record { user = words.user; password = words.password; stores = words.stores }) course
erase (Access words course) = Checking words course
erase (Admin course) = lookup keys.Host

erase_script : (c : Course) → erase (script_of c) ≡ c
erase_script (LookingUp key course) = refl
erase_script (LoggingIn words course) = refl
erase_script (Checking words course) = refl

erase_seen : (k : ClientTask) → erase (script k) ≡ seen k
erase_seen (LookUp task) = refl
erase_seen (LogIn task) = refl
erase_seen (Check task) = refl

-- a task whose script is that of a course is seen as that course
pub seen_by : (k : ClientTask) (c : Course) → script k ≡ script_of c → seen k ≡ c
seen_by k c h = sym (erase_seen k) ∙ (ap erase h ∙ erase_script c)

pub tied_by : (k : ClientTask) (c : Course) → script k ≡ script_of c → script k ≡ script_of (seen k)
tied_by k c h = h ∙ ap script_of (sym (seen_by k c h))

told_script : (c : Course) → told_at (script_of c) ≡ script_of (told c)
told_script (LookingUp key course) = refl
told_script (LoggingIn words course) = refl
told_script (Checking words course) = refl

replied_script : (c : Course) (given : Given) → replied_at (script_of c) given ≡ script_of (replied c given)
replied_script (LookingUp key course) given = refl
replied_script (LoggingIn words course) given = refl
replied_script (Checking words course) given = refl

fetched_script : (c : Course) (answer : Fetched) → fetched_at (script_of c) answer ≡ script_of (fetched c answer)
fetched_script (LookingUp key course) answer = refl
fetched_script (LoggingIn words course) answer = refl
fetched_script (Checking words course) answer = refl

bound_script : (c : Course) (answer : Bound) → bound_at (script_of c) answer ≡ script_of (bound c answer)
bound_script (LookingUp key course) answer = refl
bound_script (LoggingIn words course) answer = refl
bound_script (Checking words course) answer = refl

-- ---- from one task to the next

told_next : (k m : ClientTask) → script k ≡ script_of (seen k) → script m ≡ told_at (script k) → script m ≡ script_of (told (seen k))
told_next k m tied h = h ∙ (ap told_at tied ∙ told_script (seen k))

pub told_seen : (k m : ClientTask) → script k ≡ script_of (seen k) → script m ≡ told_at (script k) → seen m ≡ told (seen k)
told_seen k m tied h = seen_by m (told (seen k)) (told_next k m tied h)

pub told_tied : (k m : ClientTask) → script k ≡ script_of (seen k) → script m ≡ told_at (script k) → script m ≡ script_of (seen m)
told_tied k m tied h = tied_by m (told (seen k)) (told_next k m tied h)

replied_next : (k m : ClientTask) (given : Given) → script k ≡ script_of (seen k) → script m ≡ replied_at (script k) given → script m ≡ script_of (replied (seen k) given)
replied_next k m given tied h = h ∙ (ap (λ s. replied_at s given) tied ∙ replied_script (seen k) given)

pub replied_seen : (k m : ClientTask) (given : Given) → script k ≡ script_of (seen k) → script m ≡ replied_at (script k) given → seen m ≡ replied (seen k) given
replied_seen k m given tied h = seen_by m (replied (seen k) given) (replied_next k m given tied h)

pub replied_tied : (k m : ClientTask) (given : Given) → script k ≡ script_of (seen k) → script m ≡ replied_at (script k) given → script m ≡ script_of (seen m)
replied_tied k m given tied h = tied_by m (replied (seen k) given) (replied_next k m given tied h)

fetched_next : (k m : ClientTask) (answer : Fetched) → script k ≡ script_of (seen k) → script m ≡ fetched_at (script k) answer → script m ≡ script_of (fetched (seen k) answer)
fetched_next k m answer tied h = h ∙ (ap (λ s. fetched_at s answer) tied ∙ fetched_script (seen k) answer)

pub fetched_seen : (k m : ClientTask) (answer : Fetched) → script k ≡ script_of (seen k) → script m ≡ fetched_at (script k) answer → seen m ≡ fetched (seen k) answer
fetched_seen k m answer tied h = seen_by m (fetched (seen k) answer) (fetched_next k m answer tied h)

pub fetched_tied : (k m : ClientTask) (answer : Fetched) → script k ≡ script_of (seen k) → script m ≡ fetched_at (script k) answer → script m ≡ script_of (seen m)
fetched_tied k m answer tied h = tied_by m (fetched (seen k) answer) (fetched_next k m answer tied h)

bound_next : (k m : ClientTask) (answer : Bound) → script k ≡ script_of (seen k) → script m ≡ bound_at (script k) answer → script m ≡ script_of (bound (seen k) answer)
bound_next k m answer tied h = h ∙ (ap (λ s. bound_at s answer) tied ∙ bound_script (seen k) answer)

pub bound_seen : (k m : ClientTask) (answer : Bound) → script k ≡ script_of (seen k) → script m ≡ bound_at (script k) answer → seen m ≡ bound (seen k) answer
bound_seen k m answer tied h = seen_by m (bound (seen k) answer) (bound_next k m answer tied h)

pub bound_tied : (k m : ClientTask) (answer : Bound) → script k ≡ script_of (seen k) → script m ≡ bound_at (script k) answer → script m ≡ script_of (seen m)
bound_tied k m answer tied h = tied_by m (bound (seen k) answer) (bound_next k m answer tied h)

-- a script that is the same again is that of the same task
pub same_seen : (k m : ClientTask) → script k ≡ script_of (seen k) → script m ≡ script k → seen m ≡ seen k
same_seen k m tied h = seen_by m (seen k) (h ∙ tied)

pub same_tied : (k m : ClientTask) → script k ≡ script_of (seen k) → script m ≡ script k → script m ≡ script_of (seen m)
same_tied k m tied h = tied_by m (seen k) (h ∙ tied)

-- ---- the same of a call that may want memory

pub need_if : (k : ClientTask) (r : Result Need Memory) → script k ≡ script_of (seen k) → IfOk r (λ (n : Need). n ≡ need_at (script k)) → IfOk r (λ (n : Need). n ≡ need_at (script_of (seen k)))
need_if k (Ok n) tied h = h ∙ ap need_at tied
need_if k (Err e) tied h = tt

pub told_if : (k m : ClientTask) (r : Result Need Memory) → script k ≡ script_of (seen k) → OnOk r (script m ≡ told_at (script k)) → OnOk r (seen m ≡ told (seen k))
told_if k m (Ok n) tied h = told_seen k m tied h
told_if k m (Err e) tied h = tt

pub told_tied_if : (k m : ClientTask) (r : Result Need Memory) → script k ≡ script_of (seen k) → OnOk r (script m ≡ told_at (script k)) → OnErr r (script m ≡ script k) → script m ≡ script_of (seen m)
told_tied_if k m (Ok n) tied h e = told_tied k m tied h
told_tied_if k m (Err e) tied h same = same_tied k m tied same

pub stays_if : (k m : ClientTask) (r : Result Need Memory) → script k ≡ script_of (seen k) → IfOk r (λ (n : Need). n ≡ need_at (script k))
    → IfOk r (λ (n : Need). is_saying n ≡ false → script m ≡ script k) → IfOk r (λ (n : Need). is_saying n ≡ false → need_at (script_of (seen m)) ≡ n)
stays_if k m (Ok n) tied is stays = λ quiet.
    ap need_at (sym (same_tied k m tied (stays quiet)) ∙ stays quiet) ∙ sym is
stays_if k m (Err e) tied is stays = tt

pub kind_if : (k m : ClientTask) (r : Result Need Memory) → script k ≡ script_of (seen k) → IfOk r (λ (n : Need). is_saying n ≡ false → script m ≡ script k)
    → IfOk r (λ (n : Need). is_need_of_kind (key_at (script k)) n ≡ true) → IfOk r (λ (n : Need). is_saying n ≡ false → is_need_of_kind (key_at (script_of (seen m))) n ≡ true)
kind_if k m (Ok n) tied stays kind = λ quiet.
    subst (λ (s : Script). is_need_of_kind (key_at s) n ≡ true) (sym (stays quiet) ∙ same_tied k m tied (stays quiet)) kind
kind_if k m (Err e) tied stays kind = tt

pub same_if : {X : Type 0} (k m : ClientTask) (r : Result X Memory) → script k ≡ script_of (seen k) → OnErr r (script m ≡ script k) → OnErr r (seen m ≡ seen k)
same_if k m (Ok n) tied h = tt
same_if k m (Err e) tied h = same_seen k m tied h

pub replied_if : {X : Type 0} (k m : ClientTask) (given : Given) (r : Result X Memory) → script k ≡ script_of (seen k) → OnOk r (script m ≡ replied_at (script k) given)
    → OnOk r (seen m ≡ replied (seen k) given)
replied_if k m given (Ok n) tied h = replied_seen k m given tied h
replied_if k m given (Err e) tied h = tt

pub replied_tied_if : {X : Type 0} (k m : ClientTask) (given : Given) (r : Result X Memory) → script k ≡ script_of (seen k) → OnOk r (script m ≡ replied_at (script k) given)
    → OnErr r (script m ≡ script k) → script m ≡ script_of (seen m)
replied_tied_if k m given (Ok n) tied h same = replied_tied k m given tied h
replied_tied_if k m given (Err e) tied h same = same_tied k m tied same
