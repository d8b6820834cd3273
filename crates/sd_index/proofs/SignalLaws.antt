-- The entries that tell of servers are all at which a pick looks.
use Rattle.std.proofs.Common.{◌≡◌, ℕ, ◌+◌, Bool, true, false, cond, not, ◌&&◌, ◌||◌, ◌==◌, nat_lt, find, List, [], ◌∷◌, Option, Some, refl, sym, ◌∙◌, ap}
use Rattle.std.specs.List.{range_with_len}
use Rattle.sd_rules.specs.declared.settings.Settings.{Settings}
use Rattle.sd_rules.specs.declared.events.Event.{Event}
use Rattle.sd_rules.specs.declared.events.Event.TheVariants.{Fall, Online, Kept}
use Rattle.sd_rules.specs.declared.events.Row.{Row}
use Rattle.sd_rules.specs.declared.events.Row.TheVariants as rows
use Rattle.sd_rules.specs.declared.replies.Entry.{Entry}
use Rattle.sd_rules.specs.declared.replies.Reply.{Reply}
use Rattle.sd_rules.specs.Servers.{falls_under, has_fallen_under, is_fall_of, is_online, has_fallen_lately, is_down, picked_server}
use Rattle.sd_index.specs.Signals.{is_signal, tells_of_servers, signals}
use Rattle.sd_index.proofs.PlaceLaws.{and_false}

-- what is no signal tells of no fall
no_fall_under : (event : Event) (reply : Reply) (request server : ℕ) → is_signal event reply ≡ false → falls_under event reply request server ≡ false
no_fall_under (Fall r i why) reply request server h =
    ap (λ (b : Bool). (r == request) && ((i == server) && b)) h
    ∙ ap (λ (b : Bool). (r == request) && b) (and_false (i == server))
    ∙ and_false (r == request)
no_fall_under _ reply request server h = refl

no_kept_fall : (row : Row) (reply : Reply) (server : ℕ) → is_signal (Kept row) reply ≡ false → is_fall_of (Kept row) reply server ≡ false
no_kept_fall (rows.Fall n m i) reply server h = cc
no_kept_fall _ reply server h = refl

no_fall : (event : Event) (reply : Reply) (server : ℕ) → is_signal event reply ≡ false → is_fall_of event reply server ≡ false
no_fall (Fall r i why) reply server h = ap (λ (b : Bool). (i == server) && b) h ∙ and_false (i == server)
no_fall (Kept row) reply server h = no_kept_fall row reply server h
no_fall _ reply server h = refl

no_online : (event : Event) (reply : Reply) → is_signal event reply ≡ false → is_online event ≡ false
no_online Online reply h = h
no_online _ reply h = refl

-- one entry more, a signal or none
under_more : (e : Entry) (xs ys : List Entry) (request server : ℕ) (s : Bool) → (s ≡ false → falls_under e.event e.reply request server ≡ false)
    → has_fallen_under xs request server ≡ has_fallen_under ys request server
    → has_fallen_under (cond s (e ∷ xs) xs) request server ≡ has_fallen_under (e ∷ ys) request server
under_more e xs ys request server true none same = ap (λ (b : Bool). falls_under e.event e.reply request server || b) same
under_more e xs ys request server false none same = same ∙ ap (λ (b : Bool). b || has_fallen_under ys request server) (sym (none refl))

lately_more : (e : Entry) (xs ys : List Entry) (t server : ℕ) (s : Bool) → (s ≡ false → is_online e.event ≡ false)
    → (s ≡ false → is_fall_of e.event e.reply server ≡ false) → has_fallen_lately xs t server ≡ has_fallen_lately ys t server
    → has_fallen_lately (cond s (e ∷ xs) xs) t server ≡ has_fallen_lately (e ∷ ys) t server
lately_more e xs ys t server true none nor same =
    ap (λ (b : Bool). cond (is_online e.event) false ((is_fall_of e.event e.reply server && nat_lt t (e.moment + 30)) || b)) same
lately_more e xs ys t server false none nor same =
    same
    ∙ ap (λ (b : Bool). (b && nat_lt t (e.moment + 30)) || has_fallen_lately ys t server) (sym (nor refl))
    ∙ ap (λ (b : Bool). cond b false ((is_fall_of e.event e.reply server && nat_lt t (e.moment + 30)) || has_fallen_lately ys t server)) (sym (none refl))

signals_fall_under : (past : List Entry) (request server : ℕ) → has_fallen_under (signals past) request server ≡ has_fallen_under past request server
signals_fall_under [] request server = refl
signals_fall_under (e ∷ past) request server =
    under_more e (signals past) past request server (tells_of_servers e) (no_fall_under e.event e.reply request server) (signals_fall_under past request server)

signals_fall_lately : (past : List Entry) (t server : ℕ) → has_fallen_lately (signals past) t server ≡ has_fallen_lately past t server
signals_fall_lately [] t server = refl
signals_fall_lately (e ∷ past) t server =
    lately_more e (signals past) past t server (tells_of_servers e) (no_online e.event e.reply) (no_fall e.event e.reply server) (signals_fall_lately past t server)

either_same : (a b c d : Bool) → a ≡ b → c ≡ d → not (a || c) ≡ not (b || d)
either_same a b c d h k = ap (λ (x : Bool). not (x || c)) h ∙ ap (λ (x : Bool). not (b || x)) k

found_same : (f g : ℕ → Bool) → ((x : ℕ) → f x ≡ g x) → (xs : List ℕ) → find f xs ≡ find g xs
found_same f g same [] = refl
found_same f g same (x ∷ xs) =
    ap (λ (b : Bool). cond b (Some x) (find f xs)) (same x) ∙ ap (λ (o : Option ℕ). cond (g x) (Some x) o) (found_same f g same xs)

-- so a pick is the same by them
pub signals_pick : (s : Settings) (past : List Entry) (request t : ℕ) → picked_server s (signals past) request t ≡ picked_server s past request t
signals_pick s past request t =
    found_same (λ server. not (is_down (signals past) request t server)) (λ server. not (is_down past request t server))
    (λ server.
    either_same (has_fallen_under (signals past) request server) (has_fallen_under past request server) (has_fallen_lately (signals past) t server)
    (has_fallen_lately past t server) (signals_fall_under past request server) (signals_fall_lately past t server))
    (range_with_len 0 (s.primaries + s.backups))
