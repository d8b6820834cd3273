-- What requests are answered over a link, and what is printed of it.
use Rattle.std.specs.Prelude.{◌≡◌, ℕ, ◌<◌, ◌≤◌, ◌++◌, codes, List, [], ◌∷◌, length, take, map, true}
use Rattle.std.specs.declared.option.Option.{Option}
use Rattle.std.specs.Option.{option_map}
use Rattle.std.specs.Int.{w32, from_be_bytes}
use Rattle.std.specs.Io.KnownBytes.{Appends, append_known}
use Rattle.sd_base.specs.declared.io.Sink as sinks
use Rattle.sd_link.specs.declared.link.Link as links
use Rattle.sd_wire.specs.Frames.{frame_of, reply_of, is_sound}
use Rattle.sd_wire.specs.declared.requests.Request.{Request}
use Rattle.sd_tools.specs.declared.links.TheConstants.{LONGEST_REPLY}

-- the frames of replies with these texts, one after another
abbrev pub replies_of : List (List ℕ) → List ℕ
replies_of [] = []
replies_of (text ∷ texts) = reply_of text ++ replies_of texts

-- the texts, each with the end of a line
abbrev pub lines_of : List (List ℕ) → List ℕ
lines_of [] = []
lines_of (text ∷ texts) = text ++ (codes "\n" ++ lines_of texts)

-- no text is too long for a reply
abbrev pub AreShort : List (List ℕ) → Type 0
AreShort [] = Unit {0}
AreShort (text ∷ texts) = (length text ≤ LONGEST_REPLY) × AreShort texts

-- the texts of all requests are within their limits
abbrev pub AreSound : List Request → Type 0
AreSound [] = Unit {0}
AreSound (request ∷ requests) = (is_sound request ≡ true) × AreSound requests

-- the frames of requests, in their order
abbrev pub frames_of : List Request → List (List ℕ)
frames_of requests = map frame_of requests

-- the pieces told, and then these
abbrev pub with_pieces : Option (List (List ℕ)) → List (List ℕ) → Option (List (List ℕ))
with_pieces known pieces = option_map (λ told. told ++ pieces) known

-- four octets that begin no reply: the length that they spell is too long
pub record BeginsNoReply (octets : List ℕ) : Type 0 where
  pub four : length octets ≡ 4
  pub long : LONGEST_REPLY < from_be_bytes w32 octets

-- what a link tells: the pieces sent and the bytes received
pub record Told : Type 0 where
  pub sent : Option (List (List ℕ))
  pub received : Option (List ℕ)

abbrev pub told : Option (List (List ℕ)) → Option (List ℕ) → Told
told sent received = record { sent = sent; received = received }

-- Between two moments each of the requests was sent, as one piece, and answered by the reply with its text.
pub record AreAnswered (requests : List Request) (texts : List (List ℕ)) (before now : Told) : Type 0 where
  pub each : length texts ≡ length requests
  pub short : AreShort texts
  pub sent : now.sent ≡ with_pieces before.sent (frames_of requests)
  pub received : now.received ≡ append_known before.received (replies_of texts)

-- Some of the requests were sent, the first before the others, and no other piece.
abbrev pub IsFrontSent : List Request → Told → Told → Type 0
IsFrontSent requests before now = (n : ℕ) × (n ≤ length requests) × (now.sent ≡ with_pieces before.sent (frames_of (take n requests)))

-- Fewer requests than there are were answered by replies with these texts, and then came four octets that begin no reply.
pub record EndsInNoReply (requests : List Request) (texts : List (List ℕ)) (before now : Told) : Type 0 where
  pub fewer : length texts < length requests
  pub short : AreShort texts
  pub octets : List ℕ
  pub no_reply : BeginsNoReply octets
  pub received : now.received ≡ append_known before.received (replies_of texts ++ octets)

-- Each request was answered, and the texts of the replies were printed, one for each.
pub record IsDone (requests : List Request) (before now : Told) (held held_now : Option (List ℕ)) : Type 0 where
  pub texts : List (List ℕ)
  pub answered : AreAnswered requests texts before now
  pub printed : Appends held held_now (lines_of texts)

-- The replies so far were printed, fewer than the requests, and then that no daemon answers.
pub record FindsNoDaemon (requests : List Request) (held held_now : Option (List ℕ)) : Type 0 where
  pub texts : List (List ℕ)
  pub fewer : length texts < length requests
  pub printed : Appends held held_now (lines_of texts ++ codes "no daemon\n")

-- The replies so far were printed, and then that what came next begins no reply.
pub record FindsBadReply (requests : List Request) (before now : Told) (held held_now : Option (List ℕ)) : Type 0 where
  pub texts : List (List ℕ)
  pub ends : EndsInNoReply requests texts before now
  pub printed : Appends held held_now (lines_of texts ++ codes "bad reply\n")

-- ---- the same over links and sinks, which tell t and w

-- what a link tells
abbrev pub told_by : {L : Type 0} → links.Ghosts L → L → Told
told_by t link = told (t.sent link) (t.received link)

-- each of the requests was sent over the link, and answered by the reply with its text
abbrev pub AreAnsweredOver : {L : Type 0} → links.Ghosts L → List Request → List (List ℕ) → L → L → Type 0
AreAnsweredOver t requests texts before now = AreAnswered requests texts (told_by t before) (told_by t now)

-- some of the requests were sent over the link, the first before the others, and no other piece
abbrev pub IsFrontSentOver : {L : Type 0} → links.Ghosts L → List Request → L → L → Type 0
IsFrontSentOver t requests before now = IsFrontSent requests (told_by t before) (told_by t now)

-- fewer requests than there are were answered over the link by replies with these texts, and then came what begins no reply
abbrev pub EndsInNoReplyOver : {L : Type 0} → links.Ghosts L → List Request → List (List ℕ) → L → L → Type 0
EndsInNoReplyOver t requests texts before now = EndsInNoReply requests texts (told_by t before) (told_by t now)

-- each request was answered over the link, and the texts of the replies were printed to the sink
abbrev pub IsDoneOver : {L W : Type 0} → links.Ghosts L → sinks.Ghosts W → List Request → L → L → W → W → Type 0
IsDoneOver t w requests before now sink sink_now = IsDone requests (told_by t before) (told_by t now) (w.held sink) (w.held sink_now)

-- the replies so far were printed to the sink, and then that what came next over the link begins no reply
abbrev pub FindsBadReplyOver : {L W : Type 0} → links.Ghosts L → sinks.Ghosts W → List Request → L → L → W → W → Type 0
FindsBadReplyOver t w requests before now sink sink_now = FindsBadReply requests (told_by t before) (told_by t now) (w.held sink) (w.held sink_now)
