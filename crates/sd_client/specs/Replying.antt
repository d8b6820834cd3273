-- What a request came to, by what the bytes decide.
use Rattle.std.specs.Prelude.{◌≡◌, ◌≢◌, ℕ, List, [], Result, Ok, Err, Some, None}
use Rattle.std.specs.declared.option.Option.{Option}
use Rattle.std.specs.Io.KnownBytes.{append_known}
use Rattle.sd_base.specs.declared.Memory.{Memory}
use Rattle.sd_base.specs.declared.Why.{Why}
use Rattle.sd_base.specs.declared.Why.TheVariants as whys
use Rattle.sd_ldap.specs.Values.{OperationValue, MessageValue}
use Rattle.sd_ldap.specs.Spelling.{message_bytes}
use Rattle.sd_link.specs.Told.{with_piece}
use Rattle.sd_dial.specs.Asked.{with_message}
use Rattle.sd_client.specs.declared.exchange.Reply.{Reply}
use Rattle.sd_client.specs.declared.exchange.Reply.TheVariants as replies
use Rattle.sd_client.specs.Coming.{Comes}
use Rattle.sd_client.specs.Deciding.{Decision, undecided, ended, failed}

abbrev pub request_message : ℕ → OperationValue → MessageValue
request_message id operation = record { id = id; operation = operation }

-- The link's failure comes only where its count rose, and where the bytes decide nothing; every other is by
-- the bytes.
abbrev pub IsFailure : Why → Decision → Type 0 → Type 0
IsFailure whys.Link decision rose = rose × (decision ≡ undecided)
IsFailure (whys.Bytes at) decision rose = decision ≡ failed (whys.Bytes at)
IsFailure (whys.Message tag) decision rose = decision ≡ failed (whys.Message tag)
IsFailure (whys.Flood count) decision rose = decision ≡ failed (whys.Flood count)
IsFailure (whys.Code code) decision rose = ⊥

-- a reply that ended is what the bytes decide, read up to the place; a failure is by its cause
abbrev pub IsReply : Result Reply Memory → Decision → ℕ → Type 0 → Type 0
IsReply (Ok (replies.Ended found code)) decision at rose = decision ≡ ended found code at
IsReply (Ok (replies.Failed why)) decision at rose = IsFailure why decision rose
IsReply (Err memory) decision at rose = Unit {0}

-- a message that was not sent: the link failed, or memory was wanting
abbrev pub IsNoReply : Result Reply Memory → Type 0 → Type 0
IsNoReply (Ok (replies.Ended found code)) rose = ⊥
IsNoReply (Ok (replies.Failed why)) rose = (why ≡ whys.Link) × rose
IsNoReply (Err memory) rose = Unit {0}

-- why a client fails by what a request came to
abbrev pub failure_of : Result Reply Memory → Option Why
failure_of (Ok (replies.Ended found code)) = None
failure_of (Ok (replies.Failed why)) = Some why
failure_of (Err memory) = None

-- reading goes on where it was, unless a reply ended
abbrev pub IsPlaced : Result Reply Memory → ℕ → ℕ → Type 0
IsPlaced (Ok (replies.Ended found code)) old new = Unit {0}
IsPlaced (Ok (replies.Failed why)) old new = new ≡ old
IsPlaced (Err memory) old new = new ≡ old

-- nothing was sent, asked or received
pub record IsUnsent (s s' : Option (List (List ℕ))) (a a' : Option (List MessageValue)) (r r' c c' : Option (List ℕ)) (old new : List ℕ) : Type 0 where
  pub sent : s' ≡ s
  pub asked : a' ≡ a
  pub received : r' ≡ r
  pub coming : c' ≡ c
  pub held : new ≡ old

-- a message was sent as one piece, and bytes came, in front of those to come with the link's answer behind them
pub record IsSent (m : MessageValue) (answer : List ℕ) (s s' : Option (List (List ℕ))) (a a' : Option (List MessageValue)) (r r' c c' : Option (List ℕ)) (old new : List ℕ) : Type 0 where
  pub sent : s' ≡ with_piece s (message_bytes m)
  pub asked : a' ≡ with_message a m
  pub came : Comes r r' (append_known c answer) c' old new
