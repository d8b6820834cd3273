-- A query whose link is not made: no daemon answers, or that could not be written.
use Rattle.std.proofs.Common.{◌≡◌, ◌≢◌, ◌⊎◌, inl, inr, ℕ, List, [], ◌∷◌, Option, Some, None, arith}
use Rattle.std.specs.Prelude.{IfSome}
use Rattle.std.specs.Io.KnownBytes.{Appends}
use Rattle.sd_serve.specs.Promises.{Asks, IsWithin}
use Rattle.sd_serve.proofs.Told.{unsent, of_words}
use Rattle.sd_tools.specs.Endings as endings
use Rattle.sd_tools.specs.Queries.{query_of}
use Rattle.sd_tools.specs.Replies.{Told}
use Rattle.sd_tools.specs.declared.endings.TheConstants.{WRITE_FAULT, NO_DAEMON}
use Rattle.sd_tools.specs.declared.queries.Query.{Query}

for_some : (query : Option Query) (P : Query → Type 0) → ((q : Query) → P q) → IfSome query P
for_some None P f = tt
for_some (Some q) P f = f q

is_status : (status : ℕ) → (status ≡ NO_DAEMON) ⊎ (status ≡ WRITE_FAULT) → endings.IsAskStatus status
is_status status (inl e) = inr (inr (inr (inr (inr (inl e)))))
is_status status (inr e) = inr (inr (inr (inl e)))

apart : (status other : ℕ) → (status ≡ NO_DAEMON) ⊎ (status ≡ WRITE_FAULT) → other ≢ NO_DAEMON → other ≢ WRITE_FAULT → status ≢ other
apart status other (inl e) n w same = n (omega arith)
apart status other (inr e) n w same = w (omega arith)

pub unlinked : {S : Type 0} (left : S → Option (List ℕ)) (rest : List (List ℕ)) (source source' : S) (before now : Told) (held held' : Option (List ℕ)) (status : ℕ)
    → (status ≡ NO_DAEMON) ⊎ (status ≡ WRITE_FAULT) → (status ≢ WRITE_FAULT → Appends held held' endings.no_daemon) → source' ≡ source → now ≡ before
    → Asks left rest source source' before now held held' status
unlinked left rest source source' before now held held' status h written same kept = record {
  status_is = is_status status h;
  done = λ e. absurd (apart status 0 h (omega arith) (omega arith) e);
  sent = of_words (query_of rest) (left source) _ (λ r. unsent (r ∷ []) before now kept);
  unread = for_some (query_of rest) _ (λ q u. same);
  read_fault = λ e. kept;
  too_long = λ e. absurd (apart status 8 h (omega arith) (omega arith) e);
  no_daemon = λ e. written (omega (arith, e));
  bad_reply = λ e. absurd (apart status 14 h (omega arith) (omega arith) e);
}

by_status : (status : ℕ) (IsLinked Goal : Type 0) → (status ≡ NO_DAEMON) ⊎ (status ≡ WRITE_FAULT) → ¬ IsLinked → (status ≡ NO_DAEMON → IsLinked) → status ≢ WRITE_FAULT → Goal
by_status status IsLinked Goal (inl e) n l w = absurd (n (l e))
by_status status IsLinked Goal (inr e) n l w = absurd (w e)

pub within_unlinked : (rest : List (List ℕ)) (input : Option (List ℕ)) (IsLinked : Type 0) (status : ℕ) → (status ≡ NO_DAEMON) ⊎ (status ≡ WRITE_FAULT) → ¬ IsLinked
    → IsWithin rest input IsLinked status
within_unlinked rest input IsLinked status h n = λ t l. of_words (query_of rest) input _ (λ r w m. by_status status IsLinked _ h n l w)
