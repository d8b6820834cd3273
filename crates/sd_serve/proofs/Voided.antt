-- Options ask for one request at least, so that a link that is not made leaves one unanswered.
use Rattle.std.proofs.Common.{◌≡◌, ◌≢◌, ◌⊎◌, inl, inr, ℕ, ◌<◌, Bool, true, false, cond, List, [], ◌∷◌, length, Option, Some, None, refl, subst, arith, length-append}
use Rattle.std.specs.Io.KnownBytes.{Appends}
use Rattle.sd_rules.specs.declared.keys.What.{What}
use Rattle.sd_rules.specs.declared.keys.What.TheVariants as whats
use Rattle.sd_serve.specs.Promises.{Voids}
use Rattle.sd_serve.proofs.Told.{unsent, of_options}
use Rattle.sd_tools.specs.Endings.{OfOptions, IsTalkStatus, no_daemon}
use Rattle.sd_tools.specs.Options.{requests_of, items_of, if_once, in_order}
use Rattle.sd_tools.specs.Replies.{FindsNoDaemon, Told}
use Rattle.sd_tools.specs.declared.endings.TheConstants.{WRITE_FAULT, NO_DAEMON}
use Rattle.sd_wire.specs.declared.requests.Request.{Request}

some_at : (item : What) (items : List What) → 0 < length (in_order (item ∷ items))
some_at whats.All items = grind (arith, length-append {A = Request})
some_at (whats.User name) items = grind (arith, length-append {A = Request})
some_at whats.Users items = grind (arith, length-append {A = Request})
some_at (whats.Group name) items = grind (arith, length-append {A = Request})
some_at whats.Groups items = grind (arith, length-append {A = Request})

by_test : (b : Bool) (xs rs : List Request) → 0 < length xs → cond b (Some xs) None ≡ Some rs → 0 < length rs
by_test true xs rs h e = let same : xs ≡ rs = cc in subst (λ (l : List Request). 0 < length l) same h
by_test false xs rs h e = cc

by_items : (items : Option (List What)) (rs : List Request) → if_once items ≡ Some rs → 0 < length rs
by_items None rs e = cc
by_items (Some []) rs e = cc
by_items (Some (item ∷ items)) rs e = by_test _ (in_order (item ∷ items)) rs (some_at item items) e

refused_by : (found : Option (List Request)) (held held' : Option (List ℕ)) → ((rs : List Request) → found ≡ Some rs → 0 < length rs)
    → Appends held held' no_daemon → OfOptions found (λ rs. FindsNoDaemon rs held held')
refused_by None held held' f h = tt
refused_by (Some rs) held held' f h = record { texts = []; fewer = f rs refl; printed = h }

-- no link was made, and that was written
pub refused : (words : List (List ℕ)) (held held' : Option (List ℕ)) → Appends held held' no_daemon
    → OfOptions (requests_of words) (λ rs. FindsNoDaemon rs held held')
refused words held held' h = refused_by (requests_of words) held held' (by_items (items_of words)) h

is_status : (status : ℕ) → (status ≡ NO_DAEMON) ⊎ (status ≡ WRITE_FAULT) → IsTalkStatus status
is_status status (inl e) = inr (inr (inr (inl e)))
is_status status (inr e) = inr (inl e)

apart : (status other : ℕ) → (status ≡ NO_DAEMON) ⊎ (status ≡ WRITE_FAULT) → other ≢ NO_DAEMON → other ≢ WRITE_FAULT → status ≢ other
apart status other (inl e) n w same = n (omega arith)
apart status other (inr e) n w same = w (omega arith)

pub unlinked : (rest : List (List ℕ)) (before now : Told) (held held' : Option (List ℕ)) (status : ℕ)
    → (status ≡ NO_DAEMON) ⊎ (status ≡ WRITE_FAULT) → (status ≢ WRITE_FAULT → Appends held held' no_daemon) → now ≡ before
    → Voids rest before now held held' status
unlinked rest before now held held' status h written kept = record {
  status_is = is_status status h;
  done = λ e. absurd (apart status 0 h (omega arith) (omega arith) e);
  sent = of_options (requests_of rest) _ (λ rs. unsent rs before now kept);
  no_daemon = λ e. refused rest held held' (written (omega (arith, e)));
  bad_reply = λ e. absurd (apart status 14 h (omega arith) (omega arith) e);
}
