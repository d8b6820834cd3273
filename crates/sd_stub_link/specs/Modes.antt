-- The bytes that answer a piece, by the mode of a server.
use Rattle.std.specs.Prelude.{ℕ, ◌==◌, Bool, true, false, not, if◌then◌else◌, List, [], ◌∷◌, ◌++◌, length, take, Option, Some, None}
use Rattle.std.specs.List.{flat_map}
use Rattle.std.specs.Int.{w32, to_be_bytes}
use Rattle.sd_ldap.specs.declared.entry.DirEntry.{DirEntry}
use Rattle.sd_ldap.specs.Values.{OperationValue, MessageValue, bind_request, bind_response, unbind, search, entry, done, reference, other}
use Rattle.sd_ldap.specs.MessageReading.{DecodedValue, whole, unfinished, wrong, decode_of}
use Rattle.sd_ldap.specs.Spelling.{content_bytes, message_bytes}
use Rattle.sd_match.specs.Answering.{told, reply, replies_by, replies_to, answer_to}
use Rattle.sd_dial.specs.Entries.{Framing, shortest, four_octets, answer_in}
use Rattle.sd_stub.specs.declared.Mode.{Mode}
use Rattle.sd_stub.specs.declared.Mode.TheVariants as modes
use Rattle.sd_stub_link.specs.declared.framing.Outer.{Outer}
use Rattle.sd_stub_link.specs.declared.framing.Outer.TheVariants as outers

-- contents behind an outer length of four octets, or of no length, where two zeros end them
abbrev pub framed_in : Outer → List ℕ → List ℕ
framed_in outers.FourOctets contents = 48 ∷ (132 ∷ (to_be_bytes w32 (length contents) ++ contents))
framed_in outers.Indefinite contents = 48 ∷ (128 ∷ (contents ++ 0 ∷ (0 ∷ [])))

abbrev pub framed_bytes : Outer → MessageValue → List ℕ
framed_bytes outer m = framed_in outer (content_bytes m)

-- binds and searches are answered by a code, other messages as ever
abbrev pub coded_by : ℕ → List DirEntry → ℕ → OperationValue → List MessageValue
coded_by code entries id (bind_request version name password) = reply id (bind_response (told code)) ∷ []
coded_by code entries id (search request) = reply id (done (told code)) ∷ []
coded_by code entries id unbind = replies_by entries id unbind
coded_by code entries id (bind_response result) = replies_by entries id (bind_response result)
coded_by code entries id (entry found) = replies_by entries id (entry found)
coded_by code entries id (done result) = replies_by entries id (done result)
coded_by code entries id reference = replies_by entries id reference
coded_by code entries id (other tag) = replies_by entries id (other tag)

abbrev pub coded_replies : ℕ → List DirEntry → MessageValue → List MessageValue
coded_replies code entries m = coded_by code entries m.id m.operation

-- what answers a piece: where it is exactly one message, what answers that message, else nothing
abbrev pub answer_where_whole : (MessageValue → List ℕ) → ℕ → DecodedValue → List ℕ
answer_where_whole answer len (whole message used) = if used == len then answer message else []
answer_where_whole answer len unfinished = []
answer_where_whole answer len (wrong at) = []

-- The bytes that answer a piece. Up and long answer as a directory told with its framing does; cut gives
-- the first byte of a reply; the outer lengths of indef are indefinite; code answers each bind and search.
abbrev pub answer_by : Mode → List DirEntry → List ℕ → List ℕ
answer_by modes.Up entries piece = answer_in shortest entries piece
answer_by modes.Long entries piece = answer_in four_octets entries piece
answer_by modes.Cut entries piece = take 1 (answer_to entries piece)
answer_by modes.Indef entries piece = answer_where_whole (λ m. flat_map (framed_bytes outers.Indefinite) (replies_to entries m)) (length piece) (decode_of piece)
answer_by (modes.Code code) entries piece = answer_where_whole (λ m. flat_map message_bytes (coded_replies code entries m)) (length piece) (decode_of piece)
answer_by modes.Down entries piece = []

-- the framing of the modes in which a link tells the directory behind it
abbrev pub framing_of : Mode → Option Framing
framing_of modes.Up = Some shortest
framing_of modes.Long = Some four_octets
framing_of modes.Cut = None
framing_of modes.Indef = None
framing_of (modes.Code code) = None
framing_of modes.Down = None

abbrev pub is_down : Mode → Bool
is_down modes.Up = false
is_down modes.Long = false
is_down modes.Cut = false
is_down modes.Indef = false
is_down (modes.Code code) = false
is_down modes.Down = true

-- a cut link ends once a byte has come over it: put are the bytes that replies have put
abbrev pub has_ended : Mode → List ℕ → Bool
has_ended modes.Up put = false
has_ended modes.Long put = false
has_ended modes.Cut put = not (length put == 0)
has_ended modes.Indef put = false
has_ended (modes.Code code) put = false
has_ended modes.Down put = false
