-- Replies, one message after another.
use Rattle.std.proofs.Common.{zero, suc, ◌+◌, ◌-◌, ◌<◌, drop, get_or, Option, Some, None}
use Rattle.std.specs.List.{list_any}
use Rattle.std.proofs.lemmas.List.{drop_more}
use Rattle.sd_dn.specs.declared.Pair.{Pair}
use Rattle.sd_dn.specs.Comparing.{ends_with}
use Rattle.sd_dn.specs.Texts.{spelled, both_meet}
use Rattle.sd_match.specs.Matching.{has_unsupported}
use Rattle.std.proofs.Common.{◌≡◌, ℕ, ◌≤◌, Bool, true, false, List, [], ◌∷◌, ◌++◌, length, take, map, refl, sym, ap, ◌∙◌, append_assoc, append-nil, arith, take_all}
use Rattle.std.specs.Prelude.{◌&&◌, nat_lt, if◌then◌else◌, flat_map}
use Rattle.sd_ldap.specs.declared.entry.DirEntry.{DirEntry}
use Rattle.sd_ldap.specs.Values.{SearchValue, MessageValue, entry, done}
use Rattle.sd_ldap.specs.Spelling.{message_bytes}
use Rattle.sd_match.specs.Answering.{told, reply, sent, is_past_limit, limited, search_code, is_found, found, found_replies, is_at_or_under}
use Rattle.sd_places.specs.Covers.{AreEnough, picked, present, at_slot, with_some}
use Rattle.sd_stub.specs.Replying.{bytes_at, left_at, entry_reply, entries_bytes, done_bytes, alone_bytes, next_bytes, next_left, supported_bytes, search_bytes}

entries_then : (id : ℕ) (s : SearchValue) (entries : List DirEntry) (last : MessageValue)
    → flat_map message_bytes (map (λ (e : DirEntry). reply id (entry (sent s e))) entries ++ last ∷ []) ≡ entries_bytes id s entries ++ message_bytes last
entries_then id s [] last = append-nil (message_bytes last)
entries_then id s (e ∷ rest) last =
    ap (λ (bs : List ℕ). entry_reply id s e ++ bs) (entries_then id s rest last) ∙ sym (append_assoc (entry_reply id s e) (entries_bytes id s rest) (message_bytes last))

limited_by : (t : Bool) (size : ℕ) (entries : List DirEntry) → (if t then take size entries else entries) ≡ take (if t then size else length entries) entries
limited_by true size entries = refl
limited_by false size entries = let le : length entries ≤ length entries = omega arith in sym (take_all (length entries) entries le)

pub found_bytes_are : (id : ℕ) (s : SearchValue) (entries : List DirEntry) (count limit code : ℕ) → count ≡ length entries
    → limit ≡ (if nat_lt 0 s.size && nat_lt s.size count then s.size else count) → code ≡ (if nat_lt 0 s.size && nat_lt s.size count then 4 else 0)
    → entries_bytes id s (take limit entries) ++ done_bytes id code ≡ flat_map message_bytes (found_replies id s entries)
found_bytes_are id s entries count limit code n l c =
    let t : Bool = is_past_limit s.size entries in
    let lim : limit ≡ (if t then s.size else length entries) = l ∙ ap (λ (k : ℕ). if nat_lt 0 s.size && nat_lt s.size k then s.size else k) n in
    let cod : code ≡ search_code s.size entries = c ∙ ap (λ (k : ℕ). if nat_lt 0 s.size && nat_lt s.size k then 4 else 0) n in
    ap (λ (k : ℕ). entries_bytes id s (take k entries) ++ done_bytes id code) lim
    ∙ (ap (λ (xs : List DirEntry). entries_bytes id s xs ++ done_bytes id code) (sym (limited_by t s.size entries))
    ∙ (ap (λ (k : ℕ). entries_bytes id s (limited s.size entries) ++ done_bytes id k) cod
    ∙ sym (entries_then id s (limited s.size entries) (reply id (done (told (search_code s.size entries)))))))

pub found_whole : (id : ℕ) (s : SearchValue) (entries : List DirEntry) (count limit code : ℕ) (o0 o1 o2 : List ℕ) → o0 ≡ [] → o1 ≡ o0 ++ entries_bytes id s (take limit entries) → o2 ≡ o1 ++ done_bytes id code
    → count ≡ length entries → limit ≡ (if nat_lt 0 s.size && nat_lt s.size count then s.size else count) → code ≡ (if nat_lt 0 s.size && nat_lt s.size count then 4 else 0)
    → o2 ≡ flat_map message_bytes (found_replies id s entries)
found_whole id s entries count limit code o0 o1 o2 e0 e1 e2 n l c =
    e2
    ∙ (ap (λ (bs : List ℕ). bs ++ done_bytes id code) (e1 ∙ ap (λ (bs : List ℕ). bs ++ entries_bytes id s (take limit entries)) e0)
    ∙ found_bytes_are id s entries count limit code n l c)

pub alone : (m : MessageValue) (bytes : List ℕ) → bytes ≡ message_bytes m → bytes ≡ flat_map message_bytes (m ∷ [])
alone m bytes e = e ∙ sym (append-nil (message_bytes m))

-- ---- entries, one after another

at_place : (es : List DirEntry) (i : ℕ) (k : DirEntry) → i < length es → k ≡ get_or es i k → drop i es ≡ k ∷ drop (i + 1) es
at_place es i k lt is = drop_more es i k lt ∙ ap (λ (x : DirEntry). x ∷ drop (i + 1) es) (sym is)

-- the bytes of one entry and of those behind it
front_bytes : (t : Bool) (id : ℕ) (s : SearchValue) (e : DirEntry) (rest : List DirEntry) (left : ℕ) → (left ≡ 0 → ⊥)
    → next_bytes t id s e ++ entries_bytes id s (take (next_left t left) rest) ≡ entries_bytes id s (take left (if t then e ∷ rest else rest))
front_bytes false id s e rest left some = refl
front_bytes true id s e rest zero some = absurd (some refl)
front_bytes true id s e rest (suc left) some = let less : suc left - 1 ≡ left = omega arith in ap (λ (n : ℕ). entry_reply id s e ++ entries_bytes id s (take n rest)) less

-- the bytes of what is at a place and of what is behind it
front_at : (o : Option DirEntry) (id : ℕ) (s : SearchValue) (rest : List DirEntry) (left : ℕ) → (left ≡ 0 → ⊥)
    → bytes_at o id s ++ entries_bytes id s (take (left_at o s left) (found rest s)) ≡ entries_bytes id s (take left (found (with_some o rest) s))
front_at (Some e) id s rest left some = front_bytes (is_found s e) id s e (found rest s) left some
front_at None id s rest left some = refl

pub one_more : (id : ℕ) (s : SearchValue) (slots : List (Option DirEntry)) (ps : List ℕ) (i p left after : ℕ) (out new v : List ℕ) → drop i ps ≡ p ∷ drop (i + 1) ps → (left ≡ 0 → ⊥)
    → new ≡ out ++ bytes_at (at_slot slots p) id s → after ≡ left_at (at_slot slots p) s left
    → out ++ entries_bytes id s (take left (found (picked slots (drop i ps)) s)) ≡ v
    → new ++ entries_bytes id s (take after (found (picked slots (drop (i + 1) ps)) s)) ≡ v
one_more id s slots ps i p left after out new v at some made less so_far =
    let o : Option DirEntry = at_slot slots p in
    let behind : List DirEntry = picked slots (drop (i + 1) ps) in
    let rest : List DirEntry = found behind s in
    ap (λ (bs : List ℕ). bs ++ entries_bytes id s (take after rest)) made
    ∙ (ap (λ (n : ℕ). (out ++ bytes_at o id s) ++ entries_bytes id s (take n rest)) less
    ∙ (append_assoc out (bytes_at o id s) (entries_bytes id s (take (left_at o s left) rest))
    ∙ (ap (λ (bs : List ℕ). out ++ bs) (front_at o id s behind left some)
    ∙ (ap (λ (xs : List ℕ). out ++ entries_bytes id s (take left (found (picked slots xs) s))) (sym at)
    ∙ so_far))))

pub nothing_put : (out : List ℕ) → out ≡ out ++ []
nothing_put out = sym (append-nil out)

-- what is found where places are enough
pub found_enough : (id : ℕ) (s : SearchValue) (slots : List (Option DirEntry)) (places : List ℕ) (v : List ℕ) → AreEnough (λ (e : DirEntry). is_found s e) slots places
    → v ≡ flat_map message_bytes (found_replies id s (found (picked slots places) s)) → v ≡ flat_map message_bytes (found_replies id s (found (present slots) s))
found_enough id s slots places v enough made = made ∙ ap (λ (es : List DirEntry). flat_map message_bytes (found_replies id s es)) enough

-- ---- searches

chosen : (t : Bool) (x y : List MessageValue) → (if t then flat_map message_bytes x else flat_map message_bytes y) ≡ flat_map message_bytes (if t then x else y)
chosen true x y = refl
chosen false x y = refl

pub no_support : (entries : List DirEntry) (id : ℕ) (s : SearchValue) (bytes : List ℕ) → has_unsupported s.filter ≡ true → bytes ≡ alone_bytes id 53 → bytes ≡ search_bytes entries id s
no_support entries id s bytes h e = rw h e

pub with_support : (entries : List DirEntry) (id : ℕ) (s : SearchValue) (bytes : List ℕ) → has_unsupported s.filter ≡ false → bytes ≡ supported_bytes entries id s → bytes ≡ search_bytes entries id s
with_support entries id s bytes h e = rw h (e ∙ chosen (list_any (λ (x : DirEntry). is_at_or_under s.base x) entries) (found_replies id s (found entries s)) (reply id (done (told 32)) ∷ []))

pub no_base : (entries : List DirEntry) (id : ℕ) (s : SearchValue) (base : Option (List (List Pair))) (bytes : List ℕ) → base ≡ spelled s.base
    → list_any (λ (e : DirEntry). both_meet ends_with (spelled e.dn) base) entries ≡ false → bytes ≡ alone_bytes id 32 → bytes ≡ supported_bytes entries id s
no_base entries id s base bytes b h e =
    let none : list_any (λ (x : DirEntry). is_at_or_under s.base x) entries ≡ false = ap (λ (o : Option (List (List Pair))). list_any (λ (x : DirEntry). both_meet ends_with (spelled x.dn) o) entries) (sym b) ∙ h in
    e ∙ sym (ap (λ (t : Bool). if t then flat_map message_bytes (found_replies id s (found entries s)) else alone_bytes id 32) none)

pub with_base : (entries : List DirEntry) (id : ℕ) (s : SearchValue) (base : Option (List (List Pair))) (bytes : List ℕ) → base ≡ spelled s.base
    → list_any (λ (e : DirEntry). both_meet ends_with (spelled e.dn) base) entries ≡ true → bytes ≡ flat_map message_bytes (found_replies id s (found entries s)) → bytes ≡ supported_bytes entries id s
with_base entries id s base bytes b h e =
    let some : list_any (λ (x : DirEntry). is_at_or_under s.base x) entries ≡ true = ap (λ (o : Option (List (List Pair))). list_any (λ (x : DirEntry). both_meet ends_with (spelled x.dn) o) entries) (sym b) ∙ h in
    e ∙ sym (ap (λ (t : Bool). if t then flat_map message_bytes (found_replies id s (found entries s)) else alone_bytes id 32) some)
