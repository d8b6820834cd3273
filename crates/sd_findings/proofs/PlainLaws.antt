-- A plain entry says nothing of answers, users, servers or invalidations.
use Rattle.std.proofs.Common.{◌≡◌, ℕ, Bool, true, false, cond, List, [], ◌∷◌, ◌++◌, reverse, Option, None, Some, refl, sym, ◌∙◌, ap}
use Rattle.std.proofs.lemmas.List.{reverse-append}
use Rattle.sd_rules.specs.declared.events.Event.{Event}
use Rattle.sd_rules.specs.declared.events.Event.TheVariants.{Answer, Fall, Void, Online, Stop, LoginOnline, LoginGuess, LoginTry, Kept}
use Rattle.sd_rules.specs.declared.keys.What.{What}
use Rattle.sd_rules.specs.declared.replies.Entry.{Entry}
use Rattle.sd_rules.specs.declared.replies.Reply.{Reply}
use Rattle.sd_rules.specs.Needed.{is_newest_answer, is_newest_of_some, is_stop, is_void_of, last_where, user_logged_in}
use Rattle.sd_rules.specs.Past.{Standing, answer_by}
use Rattle.sd_rules.specs.Servers.{is_online}
use Rattle.sd_findings.specs.Briefs.{is_plain}
use Rattle.sd_findings.specs.Covers.{HoldVoids}
use Rattle.sd_findings.specs.Falls.{server_fallen, HoldFalls}
use Rattle.sd_findings.specs.Marks.{marks}
use Rattle.sd_findings.specs.Users.{user_hashed, user_accepted, HoldUsers}
use Rattle.sd_findings.specs.declared.covers.ByWhat.{ByWhat}
use Rattle.sd_findings.specs.declared.users.Users.{Users}
use Rattle.sd_findings.proofs.CoverLaws.{voids_other}
use Rattle.sd_findings.proofs.ServerLaws.{falls_after}
use Rattle.sd_findings.proofs.UserLaws.{logins_after, hashes_after, accepts_after}

no_answer : (past : List Entry) (e : Entry) (event : Event) → is_plain event ≡ true → answer_by past e event ≡ None
no_answer past e (Answer request answered) h = cc
no_answer past e (Kept row) h = cc
no_answer past e _ h = refl

no_login : (past : List Entry) (event : Event) (reply : Reply) → is_plain event ≡ true → None ≡ user_logged_in past event reply
no_login past (LoginOnline attempt outcome) reply h = cc
no_login past (Kept row) reply h = cc
no_login past _ reply h = refl

no_hash : (past : List Entry) (event : Event) (reply : Reply) → is_plain event ≡ true → None ≡ user_hashed past event reply
no_hash past (LoginOnline attempt outcome) reply h = cc
no_hash past (Kept row) reply h = cc
no_hash past _ reply h = refl

no_accepting : (past : List Entry) (event : Event) (reply : Reply) → is_plain event ≡ true → None ≡ user_accepted past event reply
no_accepting past (LoginOnline attempt outcome) reply h = cc
no_accepting past (LoginGuess user named right) reply h = cc
no_accepting past (LoginTry attempt named right) reply h = cc
no_accepting past _ reply h = refl

no_fall : (event : Event) (reply : Reply) → is_plain event ≡ true → None ≡ server_fallen event reply
no_fall (Fall request server why) reply h = cc
no_fall (Kept row) reply h = cc
no_fall _ reply h = refl

not_online : (event : Event) → is_plain event ≡ true → is_online event ≡ false
not_online Online h = cc
not_online _ h = refl

not_stop : (event : Event) → is_plain event ≡ true → is_stop event ≡ false
not_stop Stop h = cc
not_stop _ h = refl

no_void : (what : What) (event : Event) → is_plain event ≡ true → is_void_of what event ≡ false
no_void what (Void other) h = cc
no_void what _ h = refl

pub newest_plain : (all part : List Entry) (e : Entry) (old new : List Bool) → is_plain e.event ≡ true → new ≡ old ++ false ∷ []
    → reverse old ≡ marks (is_newest_answer all) part → reverse new ≡ marks (is_newest_answer all) (e ∷ part)
newest_plain all part e old new plain put are =
    ap reverse put
    ∙ reverse-append old (false ∷ [])
    ∙ ap (λ (ms : List Bool). false ∷ ms) are
    ∙ ap (λ (o : Option Standing). is_newest_of_some all o ∷ marks (is_newest_answer all) part) (sym (no_answer part e e.event plain))

pub users_plain : (past : List Entry) (e : Entry) (u : Users) → is_plain e.event ≡ true → HoldUsers past u → HoldUsers (e ∷ past) u
users_plain past e u plain holds = record {
  logins = logins_after past e u.logins.entries u.logins.entries None (no_login past e.event e.reply plain) (λ n. refl) holds.logins;
  hashes = hashes_after past e u.hashes.entries u.hashes.entries None (no_hash past e.event e.reply plain) (λ n. refl) holds.hashes;
  accepts = accepts_after past e u.accepts.entries u.accepts.entries None (no_accepting past e.event e.reply plain) (λ n. refl) holds.accepts;
}

pub falls_plain : (past : List Entry) (e : Entry) (falls : List (ℕ × ℕ)) → is_plain e.event ≡ true → HoldFalls past falls → HoldFalls (e ∷ past) falls
falls_plain past e falls plain holds =
    falls_after past e falls falls None (no_fall e.event e.reply plain) (not_online e.event plain) (λ s. refl) holds

pub voids_plain : (past : List Entry) (e : Entry) (lasts : ByWhat) → is_plain e.event ≡ true → HoldVoids past lasts → HoldVoids (e ∷ past) lasts
voids_plain past e lasts plain holds = voids_other past e lasts (λ what. no_void what e.event plain) holds

last_stays : (b : Bool) (n : ℕ) (last : Option ℕ) → b ≡ false → last ≡ cond b (Some n) last
last_stays true n last h = cc
last_stays false n last h = refl

pub online_plain : (past : List Entry) (e : Entry) → is_plain e.event ≡ true
    → last_where (λ (x : Entry). is_online x.event) past ≡ last_where (λ (x : Entry). is_online x.event) (e ∷ past)
online_plain past e plain = last_stays (is_online e.event) e.number (last_where (λ (x : Entry). is_online x.event) past) (not_online e.event plain)

pub stop_plain : (past : List Entry) (e : Entry) → is_plain e.event ≡ true
    → last_where (λ (x : Entry). is_stop x.event) past ≡ last_where (λ (x : Entry). is_stop x.event) (e ∷ past)
stop_plain past e plain = last_stays (is_stop e.event) e.number (last_where (λ (x : Entry). is_stop x.event) past) (not_stop e.event plain)
