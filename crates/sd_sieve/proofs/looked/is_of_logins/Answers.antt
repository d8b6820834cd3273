use Rattle.std.proofs.Common.{◌≡◌, ℕ, Bool, true, false, ◌||◌, List, Option, reverse, take, sym, ◌∙◌, ap}
use Rattle.sd_rules.specs.declared.replies.Entry.{Entry}
use Rattle.sd_rules.specs.Needed.{is_login_needed, is_wrong_needed, user_logged_in, user_guessed}
use Rattle.sd_needs.specs.Looks.{is_of_end}
use Rattle.sd_findings.proofs.SinceLaws.{stands_at}
use Rattle.sd_sieve.proofs.looked.is_of_logins.Goals as goal

second_of : (l w e q : Bool) → l ≡ false → q ≡ w → q ≡ true → q ≡ (l || (w || e))
second_of true w e q none same some = cc
second_of false true e q none same some = some
second_of false false e q none same some = cc

third_of : (l w e q : Bool) → l ≡ false → w ≡ false → q ≡ e → q ≡ (l || (w || e))
third_of true w e q none nor same = cc
third_of false true e q none nor same = cc
third_of false false e q none nor same = same

pub returns-then-is_wrong_needed : goal.returns-then-is_wrong_needed
returns-then-is_wrong_needed c =
    let past : List Entry = reverse c.args.whole.entries.now in
    let before : List Entry = reverse (take c.args.place c.args.whole.entries.now) in
    let e : Entry = c.args.entry.now in
    let stands = stands_at c.args.whole.entries.now c.args.place e c.requires.within c.requires.at in
    second_of (is_login_needed past e.number (user_logged_in before e.event e.reply)) (is_wrong_needed past e (user_guessed e.event)) (is_of_end past e) c.is_wrong_needed.result
    (sym (c.is_login_needed.ensures past c.requires.found.users ∙ ap (λ (o : Option (List ℕ)). is_login_needed past e.number o) c.user_logged_in-user.ensures) ∙ c.if-is_login_needed.false)
    (c.is_wrong_needed.ensures past c.requires.found.users c.requires.index.numbers stands ∙ ap (λ (o : Option (List ℕ)). is_wrong_needed past e o) c.user_guessed.ensures)
    c.if-is_wrong_needed.true

pub returns-else-is_wrong_needed : goal.returns-else-is_wrong_needed
returns-else-is_wrong_needed c =
    let past : List Entry = reverse c.args.whole.entries.now in
    let before : List Entry = reverse (take c.args.place c.args.whole.entries.now) in
    let e : Entry = c.args.entry.now in
    let stands = stands_at c.args.whole.entries.now c.args.place e c.requires.within c.requires.at in
    third_of (is_login_needed past e.number (user_logged_in before e.event e.reply)) (is_wrong_needed past e (user_guessed e.event)) (is_of_end past e) c.is_of_end.result
    (sym (c.is_login_needed.ensures past c.requires.found.users ∙ ap (λ (o : Option (List ℕ)). is_login_needed past e.number o) c.user_logged_in-user.ensures) ∙ c.if-is_login_needed.false)
    (sym (c.is_wrong_needed.ensures past c.requires.found.users c.requires.index.numbers stands ∙ ap (λ (o : Option (List ℕ)). is_wrong_needed past e o) c.user_guessed.ensures) ∙ c.if-is_wrong_needed.false)
    c.is_of_end.ensures
