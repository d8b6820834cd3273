-- A task of the code goes on as its script does.
use Rattle.std.proofs.Common.{◌≡◌, ℕ, List, ◌∙◌, Bool, true, false, Result, Ok, Err, refl, ap, sym, subst}
use Rattle.std.specs.Prelude.{IfOk, OnOk, OnErr}
use Rattle.sd_base.specs.declared.Memory.{Memory}
use Rattle.sd_rules.specs.declared.replies.Given.{Given}
use Rattle.sd_rules.specs.declared.tasks.Bound.{Bound}
use Rattle.sd_rules.specs.declared.tasks.Fetched.{Fetched}
use Rattle.sd_rules.specs.declared.tasks.Need.{Need}
use Rattle.sd_rules.specs.declared.tasks.Need.TheVariants as needs
use Rattle.sd_rules.specs.Scripts.{Script, Lookup, Login, Access, Admin, need_at, told_at, replied_at, fetched_at, bound_at, awaits_reply, answers_search, is_saying, key_at, is_need_of_kind}
use Rattle.sd_nss.specs.declared.admin.AdminTask.TheVariants as order_tasks
use Rattle.sd_engine.specs.declared.task.ClientTask.{ClientTask}
use Rattle.sd_engine.specs.declared.task.ClientTask.TheVariants.{LookUp, LogIn, Check, Administer}
use Rattle.sd_engine.specs.Courses.{Course, LookingUp, LoggingIn, Checking, Ordering, script, seen, script_of, told, replied, fetched, bound}

abbrev erase : Script → Course
erase (Lookup key course) = LookingUp key course
erase (Login words course) = LoggingIn (record { user = words.user; password = words.password; stores = words.stores }) course
erase (Access words course) = Checking words course
erase (Admin course) = Ordering course

erase_script : (seed : List ℕ) (c : Course) → erase (script_of seed c) ≡ c
erase_script seed (LookingUp key course) = refl
erase_script seed (LoggingIn words course) = refl
erase_script seed (Checking words course) = refl
erase_script seed (Ordering course) = refl

erase_seen : (k : ClientTask) → erase (script k) ≡ seen k
erase_seen (LookUp task) = refl
erase_seen (LogIn task) = refl
erase_seen (Check task) = refl
erase_seen (Administer order_tasks.Over) = refl
erase_seen (Administer (order_tasks.Stepping event)) = refl
erase_seen (Administer (order_tasks.Telling number)) = refl

-- a task whose script is that of a course is seen as that course
pub seen_by : (seed : List ℕ) (k : ClientTask) (c : Course) → script k ≡ script_of seed c → seen k ≡ c
seen_by seed k c h = sym (erase_seen k) ∙ (ap erase h ∙ erase_script seed c)

pub tied_by : (seed : List ℕ) (k : ClientTask) (c : Course) → script k ≡ script_of seed c → script k ≡ script_of seed (seen k)
tied_by seed k c h = h ∙ ap (λ (x : Course). script_of seed x) (sym (seen_by seed k c h))

told_script : (seed : List ℕ) (c : Course) → told_at (script_of seed c) ≡ script_of seed (told c)
told_script seed (LookingUp key course) = refl
told_script seed (LoggingIn words course) = refl
told_script seed (Checking words course) = refl
told_script seed (Ordering course) = refl

replied_script : (seed : List ℕ) (c : Course) (given : Given) → replied_at (script_of seed c) given ≡ script_of seed (replied seed c given)
replied_script seed (LookingUp key course) given = refl
replied_script seed (LoggingIn words course) given = refl
replied_script seed (Checking words course) given = refl
replied_script seed (Ordering course) given = refl

fetched_script : (seed : List ℕ) (c : Course) (answer : Fetched) → fetched_at (script_of seed c) answer ≡ script_of seed (fetched c answer)
fetched_script seed (LookingUp key course) answer = refl
fetched_script seed (LoggingIn words course) answer = refl
fetched_script seed (Checking words course) answer = refl
fetched_script seed (Ordering course) answer = refl

bound_script : (seed : List ℕ) (c : Course) (answer : Bound) → bound_at (script_of seed c) answer ≡ script_of seed (bound seed c answer)
bound_script seed (LookingUp key course) answer = refl
bound_script seed (LoggingIn words course) answer = refl
bound_script seed (Checking words course) answer = refl
bound_script seed (Ordering course) answer = refl

-- ---- from one task to the next

told_next : (seed : List ℕ) (k m : ClientTask) → script k ≡ script_of seed (seen k) → script m ≡ told_at (script k) → script m ≡ script_of seed (told (seen k))
told_next seed k m tied h = h ∙ (ap told_at tied ∙ told_script seed (seen k))

pub told_seen : (seed : List ℕ) (k m : ClientTask) → script k ≡ script_of seed (seen k) → script m ≡ told_at (script k) → seen m ≡ told (seen k)
told_seen seed k m tied h = seen_by seed m (told (seen k)) (told_next seed k m tied h)

pub told_tied : (seed : List ℕ) (k m : ClientTask) → script k ≡ script_of seed (seen k) → script m ≡ told_at (script k) → script m ≡ script_of seed (seen m)
told_tied seed k m tied h = tied_by seed m (told (seen k)) (told_next seed k m tied h)

replied_next : (seed : List ℕ) (k m : ClientTask) (given : Given) → script k ≡ script_of seed (seen k) → script m ≡ replied_at (script k) given → script m ≡ script_of seed (replied seed (seen k) given)
replied_next seed k m given tied h = h ∙ (ap (λ s. replied_at s given) tied ∙ replied_script seed (seen k) given)

pub replied_seen : (seed : List ℕ) (k m : ClientTask) (given : Given) → script k ≡ script_of seed (seen k) → script m ≡ replied_at (script k) given → seen m ≡ replied seed (seen k) given
replied_seen seed k m given tied h = seen_by seed m (replied seed (seen k) given) (replied_next seed k m given tied h)

pub replied_tied : (seed : List ℕ) (k m : ClientTask) (given : Given) → script k ≡ script_of seed (seen k) → script m ≡ replied_at (script k) given → script m ≡ script_of seed (seen m)
replied_tied seed k m given tied h = tied_by seed m (replied seed (seen k) given) (replied_next seed k m given tied h)

fetched_next : (seed : List ℕ) (k m : ClientTask) (answer : Fetched) → script k ≡ script_of seed (seen k) → script m ≡ fetched_at (script k) answer → script m ≡ script_of seed (fetched (seen k) answer)
fetched_next seed k m answer tied h = h ∙ (ap (λ s. fetched_at s answer) tied ∙ fetched_script seed (seen k) answer)

pub fetched_seen : (seed : List ℕ) (k m : ClientTask) (answer : Fetched) → script k ≡ script_of seed (seen k) → script m ≡ fetched_at (script k) answer → seen m ≡ fetched (seen k) answer
fetched_seen seed k m answer tied h = seen_by seed m (fetched (seen k) answer) (fetched_next seed k m answer tied h)

pub fetched_tied : (seed : List ℕ) (k m : ClientTask) (answer : Fetched) → script k ≡ script_of seed (seen k) → script m ≡ fetched_at (script k) answer → script m ≡ script_of seed (seen m)
fetched_tied seed k m answer tied h = tied_by seed m (fetched (seen k) answer) (fetched_next seed k m answer tied h)

bound_next : (seed : List ℕ) (k m : ClientTask) (answer : Bound) → script k ≡ script_of seed (seen k) → script m ≡ bound_at (script k) answer → script m ≡ script_of seed (bound seed (seen k) answer)
bound_next seed k m answer tied h = h ∙ (ap (λ s. bound_at s answer) tied ∙ bound_script seed (seen k) answer)

pub bound_seen : (seed : List ℕ) (k m : ClientTask) (answer : Bound) → script k ≡ script_of seed (seen k) → script m ≡ bound_at (script k) answer → seen m ≡ bound seed (seen k) answer
bound_seen seed k m answer tied h = seen_by seed m (bound seed (seen k) answer) (bound_next seed k m answer tied h)

pub bound_tied : (seed : List ℕ) (k m : ClientTask) (answer : Bound) → script k ≡ script_of seed (seen k) → script m ≡ bound_at (script k) answer → script m ≡ script_of seed (seen m)
bound_tied seed k m answer tied h = tied_by seed m (bound seed (seen k) answer) (bound_next seed k m answer tied h)

-- a script that is the same again is that of the same task
pub same_seen : (seed : List ℕ) (k m : ClientTask) → script k ≡ script_of seed (seen k) → script m ≡ script k → seen m ≡ seen k
same_seen seed k m tied h = seen_by seed m (seen k) (h ∙ tied)

pub same_tied : (seed : List ℕ) (k m : ClientTask) → script k ≡ script_of seed (seen k) → script m ≡ script k → script m ≡ script_of seed (seen m)
same_tied seed k m tied h = tied_by seed m (seen k) (h ∙ tied)

-- ---- the same of a call that may want memory

pub need_if : (seed : List ℕ) (k : ClientTask) (r : Result Need Memory) → script k ≡ script_of seed (seen k) → IfOk r (λ (n : Need). n ≡ need_at (script k)) → IfOk r (λ (n : Need). n ≡ need_at (script_of seed (seen k)))
need_if seed k (Ok n) tied h = h ∙ ap need_at tied
need_if seed k (Err e) tied h = tt

pub told_if : (seed : List ℕ) (k m : ClientTask) (r : Result Need Memory) → script k ≡ script_of seed (seen k) → OnOk r (script m ≡ told_at (script k)) → OnOk r (seen m ≡ told (seen k))
told_if seed k m (Ok n) tied h = told_seen seed k m tied h
told_if seed k m (Err e) tied h = tt

pub told_tied_if : (seed : List ℕ) (k m : ClientTask) (r : Result Need Memory) → script k ≡ script_of seed (seen k) → OnOk r (script m ≡ told_at (script k)) → OnErr r (script m ≡ script k) → script m ≡ script_of seed (seen m)
told_tied_if seed k m (Ok n) tied h e = told_tied seed k m tied h
told_tied_if seed k m (Err e) tied h same = same_tied seed k m tied same

pub stays_if : (seed : List ℕ) (k m : ClientTask) (r : Result Need Memory) → script k ≡ script_of seed (seen k) → IfOk r (λ (n : Need). n ≡ need_at (script k))
    → IfOk r (λ (n : Need). is_saying n ≡ false → script m ≡ script k) → IfOk r (λ (n : Need). is_saying n ≡ false → need_at (script_of seed (seen m)) ≡ n)
stays_if seed k m (Ok n) tied is stays = λ quiet.
    ap need_at (sym (same_tied seed k m tied (stays quiet)) ∙ stays quiet) ∙ sym is
stays_if seed k m (Err e) tied is stays = tt

pub kind_if : (seed : List ℕ) (k m : ClientTask) (r : Result Need Memory) → script k ≡ script_of seed (seen k) → IfOk r (λ (n : Need). is_saying n ≡ false → script m ≡ script k)
    → IfOk r (λ (n : Need). is_need_of_kind (key_at (script k)) n ≡ true) → IfOk r (λ (n : Need). is_saying n ≡ false → is_need_of_kind (key_at (script_of seed (seen m))) n ≡ true)
kind_if seed k m (Ok n) tied stays kind = λ quiet.
    subst (λ (s : Script). is_need_of_kind (key_at s) n ≡ true) (sym (stays quiet) ∙ same_tied seed k m tied (stays quiet)) kind
kind_if seed k m (Err e) tied stays kind = tt

pub same_if : {X : Type 0} (seed : List ℕ) (k m : ClientTask) (r : Result X Memory) → script k ≡ script_of seed (seen k) → OnErr r (script m ≡ script k) → OnErr r (seen m ≡ seen k)
same_if seed k m (Ok n) tied h = tt
same_if seed k m (Err e) tied h = same_seen seed k m tied h

pub replied_if : {X : Type 0} (seed : List ℕ) (k m : ClientTask) (given : Given) (r : Result X Memory) → script k ≡ script_of seed (seen k) → OnOk r (script m ≡ replied_at (script k) given)
    → OnOk r (seen m ≡ replied seed (seen k) given)
replied_if seed k m given (Ok n) tied h = replied_seen seed k m given tied h
replied_if seed k m given (Err e) tied h = tt

pub replied_tied_if : {X : Type 0} (seed : List ℕ) (k m : ClientTask) (given : Given) (r : Result X Memory) → script k ≡ script_of seed (seen k) → OnOk r (script m ≡ replied_at (script k) given)
    → OnErr r (script m ≡ script k) → script m ≡ script_of seed (seen m)
replied_tied_if seed k m given (Ok n) tied h same = replied_tied seed k m given tied h
replied_tied_if seed k m given (Err e) tied h same = same_tied seed k m tied same

-- a need that is nothing to tell leaves a task as it was
pub quiet_if : (seed : List ℕ) (k m : ClientTask) (r : Result Need Memory) → script k ≡ script_of seed (seen k) → IfOk r (λ (n : Need). is_saying n ≡ false → script m ≡ script k)
    → IfOk r (λ (n : Need). is_saying n ≡ false → seen m ≡ seen k)
quiet_if seed k m (Ok n) tied stays = λ quiet. same_seen seed k m tied (stays quiet)
quiet_if seed k m (Err e) tied stays = tt
