-- Exchanges put together.
use Rattle.std.proofs.Common.{◌≡◌, ℕ, ◌+◌, ◌<◌, List, [], ◌∷◌, ◌++◌, length, take, drop, get_or, map, Option, Some, None, Result, Ok, Err, refl, sym, ap, ◌∙◌, subst, append_assoc, append-nil}
use Rattle.std.proofs.lemmas.List.{map-append, take_more, drop_more, take-append-drop}
use Rattle.std.specs.Prelude.{IfSome}
use Rattle.std.specs.Option.{option_map}
use Rattle.sd_ldap.specs.declared.entry.DirEntry.{DirEntry}
use Rattle.sd_dial.specs.declared.searched.Searched.{Searched}
use Rattle.sd_dial.specs.declared.searched.Searched.TheVariants as searches
use Rattle.sd_nested.specs.declared.searcher.Stop.{Stop}
use Rattle.sd_nested.specs.declared.searcher.Stop.TheVariants as stops
use Rattle.sd_nested.specs.Searches.{Question, Exchange}
use Rattle.sd_nested.specs.Directions.{HandsOn}
use Rattle.sd_nested.specs.Asking.{stop_of, Goes, AllGave, IsLast, EndsBy, AskedOf, Exchanged, questions}

pub goes_more : {S : Type 0} (went : S → Exchange → S → Type 0) (a b c : S) (xs ys : List Exchange) → Goes went a xs b → Goes went b ys c → Goes went a (xs ++ ys) c
goes_more {S} went a b c [] ys g h = subst (λ (s : S). Goes went s ys c) (sym g) h
goes_more went a b c (x ∷ xs) ys g h = (g.0, g.1, goes_more went g.0 b c xs ys g.2 h)

gave_more : (xs ys : List Exchange) → AllGave xs → AllGave ys → AllGave (xs ++ ys)
gave_more [] ys g h = h
gave_more (x ∷ xs) ys g h = (g.0, gave_more xs ys g.1 h)

last_more : (searched : Searched) (xs ys : List Exchange) → AllGave xs → IsLast searched ys → IsLast searched (xs ++ ys)
last_more searched xs ys g h = record {
  before = xs ++ h.before;
  question = h.question;
  are = ap (λ (zs : List Exchange). xs ++ zs) h.are ∙ sym (append_assoc xs h.before (record { question = h.question; searched = searched } ∷ []));
  gave = gave_more xs h.before g h.gave;
}

pub ends_more : (stop : Option Stop) (xs ys : List Exchange) → AllGave xs → EndsBy stop ys → EndsBy stop (xs ++ ys)
ends_more None xs ys g h = gave_more xs ys g h
ends_more (Some (stops.Code code)) xs ys g h = (h.0, h.1, last_more (searches.Code code) xs ys g h.2)
ends_more (Some (stops.Failed why)) xs ys g h = last_more (searches.Failed why) xs ys g h
ends_more (Some stops.Memory) xs ys g h = tt

asked_more : (stop : Option Stop) (qs bs xs ys : List Question) → qs ≡ xs → AskedOf stop bs ys → AskedOf stop (qs ++ bs) (xs ++ ys)
asked_more None qs bs xs ys e h = ap (λ (zs : List Question). zs ++ bs) e ∙ ap (λ (zs : List Question). xs ++ zs) h
asked_more (Some stop) qs bs xs ys e h = (h.0, append_assoc qs bs h.0 ∙ (ap (λ (zs : List Question). zs ++ (bs ++ h.0)) e ∙ ap (λ (zs : List Question). xs ++ zs) h.1))

known_more : (stop : Option Stop) (qs bs ys : List Question) (due : Option (List Question)) → IfSome due (λ all. qs ≡ all) → AskedOf stop bs ys → IfSome (option_map (λ xs. xs ++ ys) due) (λ all. AskedOf stop (qs ++ bs) all)
known_more stop qs bs ys None g h = tt
known_more stop qs bs ys (Some xs) g h = asked_more stop qs bs xs ys g h

split_questions : (stop : Option Stop) (xs ys : List Exchange) (due : Option (List Question)) → IfSome due (λ all. AskedOf stop (questions xs ++ questions ys) all) → IfSome due (λ all. AskedOf stop (questions (xs ++ ys)) all)
split_questions stop xs ys due h = subst (λ (qs : List Question). IfSome due (λ all. AskedOf stop qs all)) (sym (map-append (λ (x : Exchange). x.question) xs ys)) h

-- what was asked by one call after another
pub asked_both : (stop : Option Stop) (xs ys : List Exchange) (qs bs : List Question) → questions xs ≡ qs → AskedOf stop (questions ys) bs → AskedOf stop (questions (xs ++ ys)) (qs ++ bs)
asked_both stop xs ys qs bs e h =
    subst (λ (zs : List Question). AskedOf stop zs (qs ++ bs)) (sym (map-append (λ (x : Exchange). x.question) xs ys)) (asked_more stop (questions xs) (questions ys) qs bs e h)

-- one call after another
pub then_more : {S : Type 0} (went : S → Exchange → S → Type 0) (a b c : S) (stop : Option Stop) (due : Option (List Question)) (ys : List Question)
    → Exchanged went a b None due → Exchanged went b c stop (Some ys) → Exchanged went a c stop (option_map (λ xs. xs ++ ys) due)
then_more went a b c stop due ys g h = record {
  exchanges = g.exchanges ++ h.exchanges;
  in_order = goes_more went a b c g.exchanges h.exchanges g.in_order h.in_order;
  ends = ends_more stop g.exchanges h.exchanges g.ends h.ends;
  asked = split_questions stop g.exchanges h.exchanges (option_map (λ xs. xs ++ ys) due) (known_more stop (questions g.exchanges) (questions h.exchanges) ys due g.asked h.asked);
}

-- a front of what was due, and more was due
longer : (stop : Stop) (asked xs rest : List Question) → AskedOf (Some stop) asked xs → AskedOf (Some stop) asked (xs ++ rest)
longer stop asked xs rest h = (h.0 ++ rest, sym (append_assoc asked h.0 rest) ∙ ap (λ (zs : List Question). zs ++ rest) h.1)

pub with_rest : {S : Type 0} (went : S → Exchange → S → Type 0) (a b : S) (stop : Stop) (xs rest : List Question)
    → Exchanged went a b (Some stop) (Some xs) → Exchanged went a b (Some stop) (Some (xs ++ rest))
with_rest went a b stop xs rest h = record { exchanges = h.exchanges; in_order = h.in_order; ends = h.ends; asked = longer stop (questions h.exchanges) xs rest h.asked }

-- memory was wanting then
pub by_memory : {S : Type 0} (went : S → Exchange → S → Type 0) (a b : S) (xs : List Question)
    → Exchanged went a b None (Some xs) → Exchanged went a b (Some stops.Memory) (Some xs)
by_memory went a b xs h = record { exchanges = h.exchanges; in_order = h.in_order; ends = tt; asked = ([], append-nil (questions h.exchanges) ∙ h.asked) }

nothing_due : (due : Option (List Question)) → IfSome due (λ all. all ≡ []) → IfSome due (λ all. [] ≡ all)
nothing_due None h = tt
nothing_due (Some all) h = sym h

-- nothing was asked
pub nothing_asked : {S : Type 0} (went : S → Exchange → S → Type 0) (a : S) (due : Option (List Question))
    → IfSome due (λ all. all ≡ []) → Exchanged went a a None due
nothing_asked went a due h = record { exchanges = []; in_order = refl; ends = tt; asked = nothing_due due h }

-- the due list in parts: those before a place, the one there, and the rest
parts : {X : Type 0} (q : X → Question) (due : List X) (i : ℕ) (x : X) → i < length due → x ≡ get_or due i x → (map q (take i due) ++ q x ∷ []) ++ map q (drop (i + 1) due) ≡ map q due
parts {X} q due i x lt is =
    append_assoc (map q (take i due)) (q x ∷ []) (map q (drop (i + 1) due))
    ∙ (ap (λ (zs : List Question). map q (take i due) ++ zs) (ap (λ (y : X). q y ∷ map q (drop (i + 1) due)) is ∙ ap (map q) (sym (drop_more due i x lt)))
    ∙ (sym (map-append q (take i due) (drop i due)) ∙ ap (map q) (take-append-drop i due)))

-- at a place of the list, after those before it
pub stopped_at : {S X : Type 0} (went : S → Exchange → S → Type 0) (a b c : S) (stop : Stop) (q : X → Question) (due : List X) (i : ℕ) (x : X) → i < length due → x ≡ get_or due i x
    → Exchanged went a b None (Some (map q (take i due))) → Exchanged went b c (Some stop) (Some (q x ∷ [])) → Exchanged went a c (Some stop) (Some (map q due))
stopped_at went a b c stop q due i x lt is g h =
    subst (λ (qs : List Question). Exchanged went a c (Some stop) (Some qs)) (parts q due i x lt is)
    (with_rest went a c stop (map q (take i due) ++ q x ∷ []) (map q (drop (i + 1) due)) (then_more went a b c (Some stop) (Some (map q (take i due))) (q x ∷ []) g h))

pub gone_on : {S X : Type 0} (went : S → Exchange → S → Type 0) (a b c : S) (q : X → Question) (due : List X) (i : ℕ) (x : X) → i < length due → x ≡ get_or due i x
    → Exchanged went a b None (Some (map q (take i due))) → Exchanged went b c None (Some (q x ∷ [])) → Exchanged went a c None (Some (map q (take (i + 1) due)))
gone_on {S} {X} went a b c q due i x lt is g h =
    subst (λ (qs : List Question). Exchanged went a c None (Some qs))
    (sym (ap (map q) (take_more due i x lt ∙ ap (λ (y : X). take i due ++ y ∷ []) (sym is)) ∙ map-append q (take i due) (x ∷ [])))
    (then_more went a b c None (Some (map q (take i due))) (q x ∷ []) g h)

pub starved_at : {S X : Type 0} (went : S → Exchange → S → Type 0) (a b c : S) (q : X → Question) (due : List X) (i : ℕ) (x : X) → i < length due → x ≡ get_or due i x
    → Exchanged went a b None (Some (map q (take i due))) → Exchanged went b c None (Some (q x ∷ [])) → Exchanged went a c (Some stops.Memory) (Some (map q due))
starved_at went a b c q due i x lt is g h =
    subst (λ (qs : List Question). Exchanged went a c (Some stops.Memory) (Some qs)) (parts q due i x lt is)
    (with_rest went a c stops.Memory (map q (take i due) ++ q x ∷ []) (map q (drop (i + 1) due)) (by_memory went a c (map q (take i due) ++ q x ∷ []) (then_more went a b c None (Some (map q (take i due))) (q x ∷ []) g h)))

-- one exchange, whose answer is handed on
only : (question : Question) (searched wanted : Searched) → searched ≡ wanted → IsLast wanted (record { question = question; searched = searched } ∷ [])
only question searched wanted e = record {
  before = [];
  question = question;
  are = ap (λ (s : Searched). record { question = question; searched = s } ∷ []) e;
  gave = tt;
}

ends_once : (result : Result (List DirEntry) Stop) (question : Question) (searched : Searched) → HandsOn result searched → (searched ≡ searches.Code 0 → ⊥) → EndsBy (stop_of result) (record { question = question; searched = searched } ∷ [])
ends_once (Ok given) question (searches.Entries entries) h not_zero = (tt, tt)
ends_once (Ok given) question (searches.Code code) h not_zero = (h.0, tt)
ends_once (Ok given) question (searches.Failed why) h not_zero = absurd h
ends_once (Ok given) question searches.Memory h not_zero = absurd h
ends_once (Err (stops.Code code)) question searched h not_zero = (λ e. not_zero (h.0 ∙ ap searches.Code e), h.1, only question searched (searches.Code code) h.0)
ends_once (Err (stops.Failed why)) question searched h not_zero = only question searched (searches.Failed why) h
ends_once (Err stops.Memory) question searched h not_zero = tt

asked_so : (stop : Option Stop) (qs : List Question) → AskedOf stop qs qs
asked_so None qs = refl
asked_so (Some stop) qs = ([], append-nil qs)

pub asked_once : {S : Type 0} (went : S → Exchange → S → Type 0) (a b : S) (result : Result (List DirEntry) Stop) (question : Question) (searched : Searched)
    → went a (record { question = question; searched = searched }) b → HandsOn result searched → (searched ≡ searches.Code 0 → ⊥) → Exchanged went a b (stop_of result) (Some (question ∷ []))
asked_once went a b result question searched w h not_zero = record {
  exchanges = record { question = question; searched = searched } ∷ [];
  in_order = (b, w, refl);
  ends = ends_once result question searched h not_zero;
  asked = asked_so (stop_of result) (question ∷ []);
}
