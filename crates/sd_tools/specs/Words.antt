-- What the words of the tools come to over links and sinks, which tell t and w.
use Rattle.std.specs.Prelude.{ℕ, List, [], ◌∷◌, Option}
use Rattle.sd_base.specs.declared.io.Sink as sinks
use Rattle.sd_link.specs.declared.link.Link as links
use Rattle.sd_tools.specs.Endings.{OfOptions, OfWords}
use Rattle.sd_tools.specs.Options.{requests_of}
use Rattle.sd_tools.specs.Queries.{query_of}
use Rattle.sd_tools.specs.Replies.{FindsBadReplyOver, FindsNoDaemon, IsDoneOver, IsFrontSentOver}

-- the request that the words behind `query SOCKET` ask for was answered, and the text of the reply was printed
abbrev pub IsQueryDone : {L W : Type 0} → links.Ghosts L → sinks.Ghosts W → List (List ℕ) → Option (List ℕ) → L → L → W → W → Type 0
IsQueryDone t w words input before now sink sink_now = OfWords (query_of words) input (λ request. IsDoneOver t w (request ∷ []) before now sink sink_now)

-- nothing but the frame of that request was sent
abbrev pub IsQuerySent : {L : Type 0} → links.Ghosts L → List (List ℕ) → Option (List ℕ) → L → L → Type 0
IsQuerySent t words input before now = OfWords (query_of words) input (λ request. IsFrontSentOver t (request ∷ []) before now)

-- what came begins no reply to that request, which was printed
abbrev pub QueryFindsBadReply : {L W : Type 0} → links.Ghosts L → sinks.Ghosts W → List (List ℕ) → Option (List ℕ) → L → L → W → W → Type 0
QueryFindsBadReply t w words input before now sink sink_now = OfWords (query_of words) input (λ request. FindsBadReplyOver t w (request ∷ []) before now sink sink_now)

-- each of the requests that the words behind `cache SOCKET` ask for was answered, and the texts of the replies were printed
abbrev pub IsCacheDone : {L W : Type 0} → links.Ghosts L → sinks.Ghosts W → List (List ℕ) → L → L → W → W → Type 0
IsCacheDone t w words before now sink sink_now = OfOptions (requests_of words) (λ requests. IsDoneOver t w requests before now sink sink_now)

-- some of the frames of those requests were sent, the first before the others, and nothing else
abbrev pub IsCacheSent : {L : Type 0} → links.Ghosts L → List (List ℕ) → L → L → Type 0
IsCacheSent t words before now = OfOptions (requests_of words) (λ requests. IsFrontSentOver t requests before now)

-- fewer replies came than there are requests, and were printed, and then that no daemon answers
abbrev pub CacheFindsNoDaemon : {W : Type 0} → sinks.Ghosts W → List (List ℕ) → W → W → Type 0
CacheFindsNoDaemon w words sink sink_now = OfOptions (requests_of words) (λ requests. FindsNoDaemon requests (w.held sink) (w.held sink_now))

-- the replies so far were printed, and then that what came next begins no reply
abbrev pub CacheFindsBadReply : {L W : Type 0} → links.Ghosts L → sinks.Ghosts W → List (List ℕ) → L → L → W → W → Type 0
CacheFindsBadReply t w words before now sink sink_now = OfOptions (requests_of words) (λ requests. FindsBadReplyOver t w requests before now sink sink_now)
