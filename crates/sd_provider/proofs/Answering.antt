-- What a server answers to a request, in the modes that tell no directory.
use Rattle.std.proofs.Common.{◌≡◌, ℕ, ◌<◌, ◌≤◌, eqb, List, [], ◌∷◌, ◌++◌, length, take, map, refl, sym, ap, ◌∙◌, append-nil, inl, inr}
use Rattle.std.specs.List.{flat_map, list_any}
use Rattle.std.proofs.lemmas.Bool.{cases_Bool, eq-eqb}
use Rattle.sd_ldap.specs.declared.entry.DirEntry.{DirEntry}
use Rattle.sd_ldap.specs.Values.{SearchValue, OperationValue, MessageValue, bind_request, bind_response, unbind, search, entry, done, reference, other}
use Rattle.sd_ldap.specs.Spelling.{content_bytes, message_bytes, inside}
use Rattle.sd_ldap.specs.Sound.{IsSound}
use Rattle.sd_ldap.specs.MessageReading.{DecodedValue, whole, unfinished, wrong, decode_of}
use Rattle.sd_ldap.proofs.MessageAgain.{decoded_again}
use Rattle.sd_match.specs.Matching.{has_unsupported}
use Rattle.sd_match.specs.Answering.{told, reply, is_at_or_under, found, sent, limited, search_code, search_replies, replies_by, replies_to, answer_decoded}
use Rattle.sd_dial.specs.Entries.{shortest}
use Rattle.sd_asking.specs.Sizes.{content_size}
use Rattle.sd_asking.proofs.Requests.{answered, unanswered}
use Rattle.sd_stub_link.specs.declared.framing.Outer.TheVariants as outers
use Rattle.sd_stub_link.specs.Modes.{framed_bytes, coded_by, coded_replies, answer_where_whole, answer_by}
use Rattle.sd_stub.specs.declared.Mode.TheVariants as modes
use Rattle.sd_provider.specs.Servers.{behind_in}

-- ---- a request of at most 16 MiB, and one beyond

whole_read : (m : MessageValue) → IsSound m → content_size m ≤ 16777216 → decode_of (message_bytes m) ≡ whole m (length (message_bytes m))
whole_read m sound fits = ap decode_of (sym (append-nil (message_bytes m))) ∙ decoded_again m [] sound fits

by_whole : (answer : MessageValue → List ℕ) (m : MessageValue) → IsSound m → content_size m ≤ 16777216 → answer_where_whole answer (length (message_bytes m)) (decode_of (message_bytes m)) ≡ answer m
by_whole answer m sound fits = ap (answer_where_whole answer (length (message_bytes m))) (whole_read m sound fits) ∙ rw (eq-eqb (length (message_bytes m)) (length (message_bytes m)) refl) refl

-- a request beyond that has no reply, so whatever else it is read as has none

no_messages : (messages : List MessageValue) → flat_map message_bytes messages ≡ [] → messages ≡ []
unfolding inside
no_messages [] e = refl
no_messages (m ∷ messages) e = absurd cc

none_indefinite : (entries : List DirEntry) (len : ℕ) (d : DecodedValue) → answer_decoded entries len d ≡ [] → answer_where_whole (λ (x : MessageValue). flat_map (framed_bytes outers.Indefinite) (replies_to entries x)) len d ≡ []
none_indefinite entries len (whole m used) e =
    elim (cases_Bool (eqb used len)) [
      | inl all ↦ let none = no_messages (replies_to entries m) (rw all at e) in rw all (ap (λ (list : List MessageValue). flat_map (framed_bytes outers.Indefinite) list) none)
      | inr part ↦ rw part refl
    ]
none_indefinite entries len unfinished e = refl
none_indefinite entries len (wrong at) e = refl

-- a list that has a first message
pub record HasFirst (messages : List MessageValue) : Type 0 where
  pub first : MessageValue
  pub rest : List MessageValue
  pub are : messages ≡ first ∷ rest

found_first : (f : DirEntry → MessageValue) (entries : List DirEntry) (last : MessageValue) → HasFirst (map f entries ++ last ∷ [])
found_first f [] last = record { first = last; rest = []; are = refl }
found_first f (e ∷ entries) last = record { first = f e; rest = map f entries ++ last ∷ []; are = refl }

pub search_first : (entries : List DirEntry) (id : ℕ) (s : SearchValue) → HasFirst (search_replies entries id s)
search_first entries id s =
    elim (cases_Bool (has_unsupported s.filter)) [
      | inl not_supported ↦ record { first = reply id (done (told 53)); rest = []; are = rw not_supported refl }
      | inr supported ↦
          elim (cases_Bool (list_any (λ (e : DirEntry). is_at_or_under s.base e) entries)) [
            | inl there ↦
                let all = found entries s in
                let has = found_first (λ (e : DirEntry). reply id (entry (sent s e))) (limited s.size all) (reply id (done (told (search_code s.size all)))) in
                record { first = has.first; rest = has.rest; are = rw (supported, there) has.are }
            | inr none ↦ record { first = reply id (done (told 32)); rest = []; are = rw (supported, none) refl }
          ]
    ]

coded_none : (code : ℕ) (entries : List DirEntry) (id : ℕ) (op : OperationValue) → replies_by entries id op ≡ [] → coded_by code entries id op ≡ []
coded_none code entries id (bind_request version name password) e = absurd cc
coded_none code entries id (search request) e = let h = search_first entries id request in let clash : h.first ∷ h.rest ≡ [] = sym h.are ∙ e in absurd cc
coded_none code entries id unbind e = e
coded_none code entries id (bind_response result) e = e
coded_none code entries id (entry found) e = e
coded_none code entries id (done result) e = e
coded_none code entries id reference e = e
coded_none code entries id (other tag) e = e

none_coded : (code : ℕ) (entries : List DirEntry) (len : ℕ) (d : DecodedValue) → answer_decoded entries len d ≡ [] → answer_where_whole (λ (x : MessageValue). flat_map message_bytes (coded_replies code entries x)) len d ≡ []
none_coded code entries len (whole m used) e =
    elim (cases_Bool (eqb used len)) [
      | inl all ↦
          let none = coded_none code entries m.id m.operation (no_messages (replies_to entries m) (rw all at e)) in
          rw all (ap (λ (list : List MessageValue). flat_map message_bytes list) none)
      | inr part ↦ rw part refl
    ]
none_coded code entries len unfinished e = refl
none_coded code entries len (wrong at) e = refl

-- ---- by the mode

pub cut_few : (entries : List DirEntry) (m first : MessageValue) (rest : List MessageValue) → IsSound m → content_size m ≤ 16777216 → replies_to entries m ≡ first ∷ rest → answer_by modes.Cut entries (message_bytes m) ≡ 48 ∷ []
unfolding inside
cut_few entries m first rest sound fits are =
    ap (take 1) (answered (behind_in shortest entries) m sound fits ∙ ap (λ (list : List MessageValue). flat_map message_bytes list) are)

pub cut_long : (entries : List DirEntry) (m : MessageValue) → 16777216 < content_size m → answer_by modes.Cut entries (message_bytes m) ≡ []
cut_long entries m long = ap (take 1) (unanswered (behind_in shortest entries) m long)

-- what stands behind the tag and the octet of an outer length that is indefinite
abbrev pub indefinite_rest : MessageValue → List MessageValue → List ℕ
indefinite_rest first rest = (content_bytes first ++ 0 ∷ (0 ∷ [])) ++ flat_map (framed_bytes outers.Indefinite) rest

pub indefinite_few : (entries : List DirEntry) (m first : MessageValue) (rest : List MessageValue) → IsSound m → content_size m ≤ 16777216 → replies_to entries m ≡ first ∷ rest
    → answer_by modes.Indef entries (message_bytes m) ≡ 48 ∷ 128 ∷ indefinite_rest first rest
indefinite_few entries m first rest sound fits are =
    by_whole (λ (x : MessageValue). flat_map (framed_bytes outers.Indefinite) (replies_to entries x)) m sound fits ∙ ap (λ (list : List MessageValue). flat_map (framed_bytes outers.Indefinite) list) are

pub indefinite_long : (entries : List DirEntry) (m : MessageValue) → 16777216 < content_size m → answer_by modes.Indef entries (message_bytes m) ≡ []
indefinite_long entries m long = none_indefinite entries (length (message_bytes m)) (decode_of (message_bytes m)) (unanswered (behind_in shortest entries) m long)

pub coded_few : (code : ℕ) (entries : List DirEntry) (m first : MessageValue) → IsSound m → content_size m ≤ 16777216 → coded_replies code entries m ≡ first ∷ [] → answer_by (modes.Code code) entries (message_bytes m) ≡ message_bytes first
coded_few code entries m first sound fits are =
    by_whole (λ (x : MessageValue). flat_map message_bytes (coded_replies code entries x)) m sound fits ∙ (ap (λ (list : List MessageValue). flat_map message_bytes list) are ∙ append-nil (message_bytes first))

pub coded_long : (code : ℕ) (entries : List DirEntry) (m : MessageValue) → 16777216 < content_size m → answer_by (modes.Code code) entries (message_bytes m) ≡ []
coded_long code entries m long = none_coded code entries (length (message_bytes m)) (decode_of (message_bytes m)) (unanswered (behind_in shortest entries) m long)
