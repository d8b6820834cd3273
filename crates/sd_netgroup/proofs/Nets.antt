-- A netgroup over a link that tells the directory behind it.
use Rattle.std.proofs.Common.{◌≡◌, ℕ, ◌≤◌, true, false, List, [], ◌∷◌, length, Option, Some, None, Ok, Err, refl, sym, ap, ◌∙◌, subst, inl, inr, ◌⊎◌, append-nil}
use Rattle.std.specs.List.{flat_map}
use Rattle.std.specs.List.Sorted.{IsStrictlySortedBy}
use Rattle.sd_base.specs.declared.Why.{Why}
use Rattle.sd_base.specs.declared.Why.TheVariants as whys
use Rattle.sd_ldap.specs.declared.entry.DirEntry.{DirEntry}
use Rattle.sd_ldap.specs.Values.{SearchValue}
use Rattle.sd_dial.specs.Entries.{Behind}
use Rattle.sd_dial.specs.declared.searched.Searched.TheVariants as searches
use Rattle.sd_client.specs.Talk.{Talk}
use Rattle.sd_fetch.specs.Exchanging.{Telling, Exchange, Goes, AllGave, IsLast}
use Rattle.sd_fetch.specs.Rounding as rounding
use Rattle.sd_fetch.specs.Told.{first_failure, IsLimit}
use Rattle.sd_fetch.proofs.Walk.{Stands, walked, walk_failed, walk_code}
use Rattle.sd_triples.specs.declared.triples.Triple.{Triple}
use Rattle.sd_triples.specs.Reading.{triple_in}
use Rattle.sd_triples.specs.Order.{triple_cmp}
use Rattle.sd_triples.proofs.Spelled.{spelled_in, in_spelled}
use Rattle.sd_netgroup.specs.declared.finds.Finds.{Finds}
use Rattle.sd_netgroup.specs.declared.asking.Netted.{Netted}
use Rattle.sd_netgroup.specs.declared.asking.Netted.TheVariants as nets
use Rattle.sd_nested.specs.declared.searcher.Stop.{Stop}
use Rattle.sd_nested.specs.declared.searcher.Stop.TheVariants as stops
use Rattle.sd_nested.proofs.In.{in_flat, in_from}
use Rattle.sd_netgroup.specs.Named.{named_in, texts_of, listed, spelled_by}
use Rattle.sd_netgroup.specs.Order.{with_triples}
use Rattle.sd_netgroup.specs.Paths.{In, AreTriplesOf}
use Rattle.sd_netgroup.specs.Rounds.{Course, beginning, is_some, course_in, searches_in}
use Rattle.sd_netgroup.specs.Asking.{Query, exchanges_of, course_by, AreDue, EndsBy, stop_of, AreSpelled, IsWhole, Gives, Asked}
use Rattle.sd_netgroup.specs.Stepping.{Shows, Gathered, NettedBy, netted_of}
use Rattle.sd_netgroup.specs.Told.{AreWithin, MeetLimit, IsToldFailure, IsToldNetting}
use Rattle.sd_netgroup.proofs.Ordered.{put_ordered, from_ordered}
use Rattle.sd_netgroup.proofs.Ends.{found_end, end_found}
use Rattle.sd_netgroup.proofs.Answered.{all_plain, all_say, first_say, first_of_all, Alike, course_alike, searches_made}

-- ---- triples of texts

listed_in : (t : Triple) (o : Option Triple) → In t (listed o) → o ≡ Some t
listed_in t None h = absurd h
listed_in t (Some s) (inl e) = ap (λ (x : Triple). Some x) e
listed_in t (Some s) (inr h) = absurd h

in_listed : (t : Triple) (o : Option Triple) → o ≡ Some t → In t (listed o)
in_listed t None e = absurd cc
in_listed t (Some s) e = inl (let f : s ≡ t = cc in f)

not_before : (t : Triple) (texts : List (List ℕ)) → In t [] ⊎ In t (spelled_by texts) → In t (spelled_by texts)
not_before t texts (inl h) = absurd h
not_before t texts (inr h) = h

pub are_spelled : (texts : List (List ℕ)) (triples : List Triple) → triples ≡ with_triples [] (spelled_by texts) → IsStrictlySortedBy triple_cmp triples → AreSpelled texts triples
are_spelled texts triples e ordered = record {
  ordered = ordered;
  sound = λ t h.
      let f = in_from (λ text. listed (triple_in text)) t texts (not_before t texts (from_ordered t [] (spelled_by texts) (subst (λ (ts : List Triple). In t ts) e h))) in
      (f.source, f.among, in_spelled f.source t (listed_in t (triple_in f.source) f.gives));
  complete = λ text t h s.
      subst (λ (ts : List Triple). In t ts) (sym e)
      (put_ordered t [] (spelled_by texts) (in_flat (λ text. listed (triple_in text)) text t texts h (in_listed t (triple_in text) (spelled_in text t s))));
}

-- ---- over any link

gives_by : (finds : Finds) (c : Course) (asked : ℕ) (result : Netted) → Shows finds c → IsWhole c asked → NettedBy finds result → Gives c asked result
gives_by finds c asked (nets.Found triples) s w n = (w, sym s.some ∙ n.0, are_spelled (flat_map texts_of c.found) triples (n.1 ∙ s.triples) n.2)
gives_by finds c asked nets.Absent s w n = (w, sym s.some ∙ n)
gives_by finds c asked (nets.Code code) s w n = absurd n
gives_by finds c asked (nets.Failed why) s w n = absurd n
gives_by finds c asked nets.Memory s w n = tt

ends_by : (finds : Finds) (result : Netted) (exchanges : List Exchange) → NettedBy finds result → AllGave exchanges → EndsBy (stop_of result) exchanges
ends_by finds (nets.Found triples) exchanges n g = g
ends_by finds nets.Absent exchanges n g = g
ends_by finds (nets.Code code) exchanges n g = absurd n
ends_by finds (nets.Failed why) exchanges n g = absurd n
ends_by finds nets.Memory exchanges n g = tt

pub asked_all : {L : Type 0} (t : Telling L) (base name : List ℕ) (old : Talk L) (finds : Finds) (result : Netted) (new : Talk L) → Gathered t base name old (Ok finds) new → NettedBy finds result → Asked t base name old result new
asked_all t base name old finds result new g n = record {
  queries = g.queries;
  in_order = g.in_order;
  due = g.due;
  ends = ends_by finds result (exchanges_of base g.queries) n g.ends;
  gives = gives_by finds (course_by (beginning name) g.queries) (length g.queries) result g.shows.0 g.shows.1 n;
}

pub asked_stopped : {L : Type 0} (t : Telling L) (base name : List ℕ) (old : Talk L) (stop : Stop) (new : Talk L) → Gathered t base name old (Err stop) new → Asked t base name old (netted_of stop) new
asked_stopped t base name old (stops.Code code) new g = record { queries = g.queries; in_order = g.in_order; due = g.due; ends = g.ends; gives = tt }
asked_stopped t base name old (stops.Failed why) new g = record { queries = g.queries; in_order = g.in_order; due = g.due; ends = g.ends; gives = tt }
asked_stopped t base name old stops.Memory new g = record { queries = g.queries; in_order = g.in_order; due = g.due; ends = tt; gives = tt }

-- ---- whether any was found

none_some : (es : List DirEntry) → ((e : DirEntry) → In e es → ⊥) → is_some es ≡ false
none_some [] f = refl
none_some (e ∷ es) f = absurd (f e (inl refl))

one_some : (es : List DirEntry) (e : DirEntry) → In e es → is_some es ≡ true
one_some [] e h = absurd h
one_some (d ∷ ds) e h = refl

some_one : (es : List DirEntry) → is_some es ≡ true → (e : DirEntry) × In e es
some_one [] h = absurd (let e : false ≡ true = h in cc)
some_one (e ∷ es) h = (e, inl refl)

none_in : (es : List DirEntry) (e : DirEntry) → is_some es ≡ false → In e es → ⊥
none_in [] e h k = k
none_in (d ∷ ds) e h k = let f : true ≡ false = h in absurd cc

module _ (entries : List DirEntry) (base name : List ℕ) (n : ℕ) (whole : length (course_in entries base name n).names ≤ n) where
  named_none : is_some (course_in entries base name n).found ≡ false → is_some (named_in entries base name) ≡ false
  named_none h = none_some (named_in entries base name) (λ e k. none_in (course_in entries base name n).found e h (end_found entries base name n whole e (0, e, k, refl)))

  named_some : is_some (course_in entries base name n).found ≡ true → is_some (named_in entries base name) ≡ true
  named_some h =
      let one = some_one (course_in entries base name n).found h in
      let end = found_end entries base name n one.0 one.1 in
      one_some (named_in entries base name) end.1 end.2

  triples_of : (triples : List Triple) → AreSpelled (flat_map texts_of (course_in entries base name n).found) triples → AreTriplesOf entries base name triples
  triples_of triples s = record {
    ordered = s.ordered;
    sound = λ t h.
        let one = s.sound t h in
        let f = in_from texts_of one.0 (course_in entries base name n).found one.1 in
        (f.source, found_end entries base name n f.source f.among, (one.0, f.gives, one.2));
    complete = λ e t end has.
        s.complete has.0 t (in_flat texts_of e has.0 (course_in entries base name n).found (end_found entries base name n whole e end) has.1) has.2;
  }

-- ---- over a link that tells the directory behind it

module _ {L : Type 0} (t : Telling L) (base name : List ℕ) (old new : Talk L) (b : Behind) (s : Stands t old b) (queries : List Query) (in_order : Goes t old (exchanges_of base queries) new) (due : AreDue (beginning name) 0 queries) where
  alike : AllGave (exchanges_of base queries) → Alike (course_by (beginning name) queries) (course_in b.entries base name (length queries))
  alike gave =
      course_alike b.entries base (beginning name) (beginning name) 0 queries (record { names = refl; texts = refl; some = refl }) due (all_say t base old queries new b in_order gave s)

  within_all : AllGave (exchanges_of base queries) → first_failure b (length old.received) old.next (searches_in b.entries base name (length queries)) ≡ None
  within_all gave =
      ap (first_failure b (length old.received) old.next)
      (sym (append-nil (rounding.searches_in (exchanges_of base queries)) ∙ searches_made b.entries base name queries due (first_of_all b.entries base queries (all_say t base old queries new b in_order gave s))))
      ∙ (walked t old (exchanges_of base queries) new b [] in_order gave s).same

  whole_in : AllGave (exchanges_of base queries) → IsWhole (course_by (beginning name) queries) (length queries) → length (course_in b.entries base name (length queries)).names ≤ length queries
  whole_in gave w = subst (λ (names : List (List ℕ)). length names ≤ length queries) (alike gave).names w

  within : AllGave (exchanges_of base queries) → IsWhole (course_by (beginning name) queries) (length queries) → AreWithin b (length old.received) old.next base name
  within gave w = record { asked = length queries; whole = whole_in gave w; within = within_all gave }

  limit : (why : Why) → IsLast (searches.Failed why) (exchanges_of base queries) → IsLimit why (first_failure b (length old.received) old.next (searches_in b.entries base name (length queries))) (t.refuses new.link) (t.ends new.link) (t.coming new.link)
  limit why last =
      subst (λ (ss : List SearchValue). IsLimit why (first_failure b (length old.received) old.next ss) (t.refuses new.link) (t.ends new.link) (t.coming new.link))
      (append-nil (rounding.searches_in (exchanges_of base queries)) ∙ searches_made b.entries base name queries due
      (first_say t base old queries new b last.before (record { search = last.search; searched = searches.Failed why }) in_order last.are last.gave s))
      (walk_failed t old (exchanges_of base queries) new b [] why in_order s last)

  told_by : (why : Why) → IsLimit why (first_failure b (length old.received) old.next (searches_in b.entries base name (length queries))) (t.refuses new.link) (t.ends new.link) (t.coming new.link)
      → IsToldFailure why (MeetLimit b (length old.received) old.next base name) (t.refuses new.link) (t.ends new.link) (t.coming new.link)
  told_by whys.Link h = elim h [ inl refuses ↦ inl refuses | inr ends ↦ inr (ends.0, λ quiet. record { asked = length queries; met = ends.1 quiet }) ]
  told_by (whys.Bytes at) h = record { asked = length queries; met = h }
  told_by (whys.Code code) h = h
  told_by (whys.Message tag) h = record { asked = length queries; met = h }
  told_by (whys.Flood count) h = record { asked = length queries; met = h }

  told_so : (result : Netted) → EndsBy (stop_of result) (exchanges_of base queries) → Gives (course_by (beginning name) queries) (length queries) result
      → IsToldNetting b (length old.received) old.next base name result (t.refuses new.link) (t.ends new.link) (t.coming new.link)
  told_so (nets.Found triples) ends g =
      let a = alike ends in (
        within ends g.0,
        named_some b.entries base name (length queries) (whole_in ends g.0) (sym a.some ∙ g.1),
        triples_of b.entries base name (length queries) (whole_in ends g.0) triples (subst (λ (texts : List (List ℕ)). AreSpelled texts triples) a.texts g.2),
      )
  told_so nets.Absent ends g = (within ends g.0, named_none b.entries base name (length queries) (whole_in ends g.0) (sym (alike ends).some ∙ g.1))
  told_so (nets.Code code) ends g = ends.1 (walk_code t old (exchanges_of base queries) new b code in_order s (all_plain base queries) ends.2)
  told_so (nets.Failed why) ends g = told_by why (limit why ends)
  told_so nets.Memory ends g = tt

pub told : {L : Type 0} (t : Telling L) (base name : List ℕ) (old : Talk L) (result : Netted) (new : Talk L) (b : Behind) → Asked t base name old result new → Stands t old b
    → IsToldNetting b (length old.received) old.next base name result (t.refuses new.link) (t.ends new.link) (t.coming new.link)
told t base name old result new b a s = told_so t base name old new b s a.queries a.in_order a.due result a.ends a.gives
