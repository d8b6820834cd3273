-- The exchanges of rounds, as searches over a client.
use Rattle.std.proofs.Common.{◌≡◌, ◌≢◌, ℕ, Bool, true, false, not, ◌==◌, List, [], ◌∷◌, ◌++◌, map, Option, Some, None, refl, sym, ap, subst, ◌∙◌, inl, inr, ◌⊎◌}
use Rattle.std.proofs.lemmas.List.{map-append}
use Rattle.std.proofs.lemmas.Bool.{ne_eqb}
use Rattle.sd_base.specs.declared.Why.{Why}
use Rattle.sd_base.specs.declared.Why.TheVariants as whys
use Rattle.sd_ldap.specs.declared.entry.DirEntry.{DirEntry}
use Rattle.sd_ldap.specs.Values.{SearchValue}
use Rattle.sd_dial.specs.Entries.{Behind}
use Rattle.sd_dial.specs.declared.searched.Searched.{Searched}
use Rattle.sd_dial.specs.declared.searched.Searched.TheVariants as searches
use Rattle.sd_client.specs.Talk.{Talk}
use Rattle.sd_nested.specs.declared.searcher.Stop.{Stop}
use Rattle.sd_nested.specs.declared.searcher.Stop.TheVariants as stops
use Rattle.sd_nested.specs.Searches.{Question}
use Rattle.sd_nested.specs.Searches as nested
use Rattle.sd_nested.specs.Asking as asking
use Rattle.sd_fetch.specs.declared.finding.Early.{Early}
use Rattle.sd_fetch.specs.declared.finding.Early.TheVariants as earlies
use Rattle.sd_fetch.specs.Exchanging.{Telling, Exchange, Went, Goes, Gave, AllGave, IsLast, IsRefusal, IsOfServer, FailedBy, IsQuiet, is_stop}
use Rattle.sd_fetch.specs.Rounding.{search_for, exchange_of, exchanges_of, IsUnasked, IsAsked, WentOn, EndsIn, SearchedOf, searches_in, AreQuestions, Rounded, IsEarly}

gave_on : (s : Searched) → asking.GaveEntries s → (is_stop s ≡ false) × Gave s
gave_on (searches.Entries given) g = (refl, tt)
gave_on (searches.Code code) g = (ap (λ (n : ℕ). not (n == 32)) g, g)
gave_on (searches.Failed why) g = absurd g
gave_on searches.Memory g = absurd g

not_memory : (s : Searched) → asking.GaveEntries s → s ≡ searches.Memory → ⊥
not_memory s g e = subst (λ (x : Searched). asking.GaveEntries x) e g

-- What states of a searcher show: a name, a base, a client, and whether it has stopped.
pub record Shows {S N L : Type 0} (t : Telling L) (W : S → nested.Exchange → S → Type 0) (name : S → N) (base : S → List ℕ) (client : S → Talk L) (stopped : S → Bool) : Type 0 where
  pub goes : (a : S) (x : nested.Exchange) (b : S) → W a x b → (name b ≡ name a) × (base b ≡ base a) × WentOn t (base a) (client a) (stopped a) x (client b) (stopped b)

module _ {S N L : Type 0} (t : Telling L) (W : S → nested.Exchange → S → Type 0) (name : S → N) (base : S → List ℕ) (client : S → Talk L) (stopped : S → Bool) (shows : Shows t W name base client stopped) where
  pub same_name : (a : S) (xs : List nested.Exchange) (b : S) → asking.Goes W a xs b → name b ≡ name a
  same_name a [] b g = ap name (sym g)
  same_name a (x ∷ xs) b g = same_name g.0 xs b g.2 ∙ (shows.goes a x g.0 g.1).0

  -- exchanges that all came to entries were searches
  record AllWent (a : S) (xs : List nested.Exchange) (b : S) : Type 0 where
    in_order : Goes t (client a) (exchanges_of (base a) xs) (client b)
    gave : AllGave (exchanges_of (base a) xs)
    going : stopped b ≡ false
    same : base b ≡ base a

  went_first : (a : S) (x : nested.Exchange) (b : S) → asking.GaveEntries x.searched → W a x b → Went t (client a) (exchange_of (base a) x) (client b) × (stopped b ≡ false)
  went_first a x b g w = elim (shows.goes a x b w).2 [
    | inl none ↦ absurd (not_memory x.searched g none.memory)
    | inr asked ↦ (asked.went, asked.stops ∙ (gave_on x.searched g).0)
  ]

  all_went : (a : S) (xs : List nested.Exchange) (b : S) → stopped a ≡ false → asking.AllGave xs → asking.Goes W a xs b → AllWent a xs b
  all_went a [] b going gave g = record { in_order = ap client g; gave = tt; going = ap stopped (sym g) ∙ going; same = ap base (sym g) }
  all_went a (x ∷ xs) b going gave g =
      let first = went_first a x g.0 gave.0 g.1 in
      let later = all_went g.0 xs b first.1 gave.1 g.2 in
      let same : base g.0 ≡ base a = (shows.goes a x g.0 g.1).1 in
      record {
        in_order = (client g.0, first.0, subst (λ (p : List ℕ). Goes t (client g.0) (exchanges_of p xs) (client b)) same later.in_order);
        gave = ((gave_on x.searched gave.0).1, subst (λ (p : List ℕ). AllGave (exchanges_of p xs)) same later.gave);
        going = later.going;
        same = later.same ∙ same;
      }

  -- some searches were made, whatever they came to
  record SomeWent (a b : S) : Type 0 where
    exchanges : List Exchange
    in_order : Goes t (client a) exchanges (client b)
    asked : AreQuestions (base a) exchanges

  some_went : (a : S) (xs : List nested.Exchange) (b : S) → asking.Goes W a xs b → SomeWent a b
  some_went a [] b g = record { exchanges = []; in_order = ap client g; asked = tt }
  some_went a (x ∷ xs) b g =
      let later = some_went g.0 xs b g.2 in
      let shown = shows.goes a x g.0 g.1 in
      let asked : AreQuestions (base a) later.exchanges = subst (λ (p : List ℕ). AreQuestions p later.exchanges) shown.1 later.asked in
      elim shown.2 [
        | inl none ↦ record { exchanges = later.exchanges; in_order = subst (λ (c : Talk L). Goes t c later.exchanges (client b)) none.same later.in_order; asked = asked }
        | inr one ↦ record { exchanges = exchange_of (base a) x ∷ later.exchanges; in_order = (client g.0, one.went, later.in_order); asked = ((x.question, refl), asked) }
      ]

  -- the last exchange was a search too, as it came to something else than want of memory
  last_went : (a : S) (before : List nested.Exchange) (x : nested.Exchange) (b : S) → stopped a ≡ false → asking.AllGave before → (x.searched ≡ searches.Memory → ⊥) → asking.Goes W a (before ++ x ∷ []) b
      → Goes t (client a) (exchanges_of (base a) before ++ exchange_of (base a) x ∷ []) (client b)
  last_went a [] x b going gave some g =
      elim (shows.goes a x g.0 g.1).2 [
        | inl none ↦ absurd (some none.memory)
        | inr one ↦ (client g.0, one.went, ap client g.2)
      ]
  last_went a (y ∷ ys) x b going gave some g =
      let first = went_first a y g.0 gave.0 g.1 in
      let same : base g.0 ≡ base a = (shows.goes a y g.0 g.1).1 in
      (client g.0, first.0, subst (λ (p : List ℕ). Goes t (client g.0) (exchanges_of p ys ++ exchange_of p x ∷ []) (client b)) same (last_went g.0 ys x b first.1 gave.1 some g.2))

gave_all : (p : List ℕ) (xs : List nested.Exchange) → asking.AllGave xs → AllGave (exchanges_of p xs)
gave_all p [] g = tt
gave_all p (x ∷ xs) g = ((gave_on x.searched g.0).1, gave_all p xs g.1)

are_questions : (p : List ℕ) (xs : List nested.Exchange) → AreQuestions p (exchanges_of p xs)
are_questions p [] = tt
are_questions p (x ∷ xs) = ((x.question, refl), are_questions p xs)

searches_are : (p : List ℕ) (xs : List nested.Exchange) → searches_in (exchanges_of p xs) ≡ map (search_for p) (asking.questions xs)
searches_are p [] = refl
searches_are p (x ∷ xs) = ap (λ (ss : List SearchValue). search_for p x.question ∷ ss) (searches_are p xs)

last_are : (p : List ℕ) (xs before : List nested.Exchange) (x : nested.Exchange) → xs ≡ before ++ x ∷ [] → exchanges_of p xs ≡ exchanges_of p before ++ exchange_of p x ∷ []
last_are p xs before x e = ap (exchanges_of p) e ∙ map-append (exchange_of p) before (x ∷ [])

front_searched : (p : List ℕ) (xs : List nested.Exchange) (due rest : List Question) → asking.questions xs ++ rest ≡ due → searches_in (exchanges_of p xs) ++ map (search_for p) rest ≡ map (search_for p) due
front_searched p xs due rest e =
    ap (λ (ss : List SearchValue). ss ++ map (search_for p) rest) (searches_are p xs) ∙ (sym (map-append (search_for p) (asking.questions xs) rest) ∙ ap (map (search_for p)) e)

abbrev no_code : (code : ℕ) → searches.Code code ≡ searches.Memory → ⊥
no_code code e = absurd cc

abbrev no_failure : (why : Why) → searches.Failed why ≡ searches.Memory → ⊥
no_failure why e = absurd cc

searched_of : (early : Early) (searched due rest : List SearchValue) → searched ++ rest ≡ due → SearchedOf (Some early) searched due
searched_of (earlies.Refused code) searched due rest e = (rest, e)
searched_of (earlies.Failed why) searched due rest e = (rest, e)
searched_of earlies.Memory searched due rest e = tt

-- a lookup is ended by what a stop came to
pub ended_by : (early : Early) (code : ℕ) → code ≢ 0 → code ≢ 32 → IsEarly (stops.Code code) early → (exchanges : List Exchange) → IsLast (searches.Code code) exchanges → EndsIn (Some early) exchanges
ended_by (earlies.Refused refused) code some present h exchanges last = (
  record {
    some = λ e. some (sym h.0 ∙ e);
    present = λ e. present (sym h.0 ∙ e);
    ready = λ e. h.1 (sym h.0 ∙ e);
    there = λ e. h.2 (sym h.0 ∙ e);
  },
  subst (λ (n : ℕ). IsLast (searches.Code n) exchanges) (sym h.0) last,
)
ended_by (earlies.Failed why) code some present h exchanges last = inr (code, h.0, h.1, last)
ended_by earlies.Memory code some present h exchanges last = absurd h

module _ {S N L : Type 0} (t : Telling L) (W : S → nested.Exchange → S → Type 0) (name : S → N) (base : S → List ℕ) (client : S → Talk L) (stopped : S → Bool) (shows : Shows t W name base client stopped) where
  -- a last exchange with what it came to
  last_of : (a b : S) (xs : List nested.Exchange) (searched : Searched) → stopped a ≡ false → (searched ≡ searches.Memory → ⊥) → asking.IsLast searched xs → asking.Goes W a xs b
      → Goes t (client a) (exchanges_of (base a) xs) (client b) × IsLast searched (exchanges_of (base a) xs)
  last_of a b xs searched going some last g =
      let x : nested.Exchange = record { question = last.question; searched = searched } in
      let are : exchanges_of (base a) xs ≡ exchanges_of (base a) last.before ++ exchange_of (base a) x ∷ [] = last_are (base a) xs last.before x last.are in (
        subst (λ (zs : List Exchange). Goes t (client a) zs (client b)) (sym are)
            (last_went t W name base client stopped shows a last.before x b going last.gave some (subst (λ (zs : List nested.Exchange). asking.Goes W a zs b) last.are g)),
        record { before = exchanges_of (base a) last.before; search = search_for (base a) last.question; are = are; gave = gave_all (base a) last.before last.gave },
      )

  -- rounds that went to their end
  pub rounded_all : (a b : S) (tells : List DirEntry → Type 0) (due : List DirEntry → List Question) → stopped a ≡ false → asking.ExchangedOver W a b None tells due
      → ((bd : Behind) → t.behind (client a).link ≡ Some bd → IsQuiet t (client a) → tells bd.entries) → Rounded t (base a) (client a) (client b) None due
  rounded_all a b tells due going g told =
      let all = all_went t W name base client stopped shows a g.exchanges b going g.ends g.in_order in
      record {
        exchanges = exchanges_of (base a) g.exchanges;
        in_order = all.in_order;
        ends = all.gave;
        asked = are_questions (base a) g.exchanges;
        searched = λ bd is quiet. searches_are (base a) g.exchanges ∙ ap (map (search_for (base a))) (g.asked bd.entries (told bd is quiet));
      }

  -- rounds that stopped
  pub rounded_stop : (a b : S) (stop : Stop) (early : Early) (tells : List DirEntry → Type 0) (due : List DirEntry → List Question) → stopped a ≡ false → IsEarly stop early → asking.ExchangedOver W a b (Some stop) tells due
      → ((bd : Behind) → t.behind (client a).link ≡ Some bd → IsQuiet t (client a) → tells bd.entries) → Rounded t (base a) (client a) (client b) (Some early) due
  rounded_stop a b (stops.Code code) early tells due going h g told =
      let last = last_of a b g.exchanges (searches.Code code) going (no_code code) g.ends.2 g.in_order in
      record {
        exchanges = exchanges_of (base a) g.exchanges;
        in_order = last.0;
        ends = ended_by early code g.ends.0 g.ends.1 h (exchanges_of (base a) g.exchanges) last.1;
        asked = are_questions (base a) g.exchanges;
        searched = λ bd is quiet.
            let due_so = g.asked bd.entries (told bd is quiet) in
            searched_of early (searches_in (exchanges_of (base a) g.exchanges)) (map (search_for (base a)) (due bd.entries)) (map (search_for (base a)) due_so.0) (front_searched (base a) g.exchanges (due bd.entries) due_so.0 due_so.1);
      }
  rounded_stop a b (stops.Failed why) early tells due going h g told =
      let last = last_of a b g.exchanges (searches.Failed why) going (no_failure why) g.ends g.in_order in
      subst (λ (e : Early). Rounded t (base a) (client a) (client b) (Some e) due) (sym h)
      (record {
        exchanges = exchanges_of (base a) g.exchanges;
        in_order = last.0;
        ends = inl last.1;
        asked = are_questions (base a) g.exchanges;
        searched = λ bd is quiet.
            let due_so = g.asked bd.entries (told bd is quiet) in
            (map (search_for (base a)) due_so.0, front_searched (base a) g.exchanges (due bd.entries) due_so.0 due_so.1);
      })
  rounded_stop a b stops.Memory early tells due going h g told =
      let some = some_went t W name base client stopped shows a g.exchanges b g.in_order in
      subst (λ (e : Early). Rounded t (base a) (client a) (client b) (Some e) due) (sym h)
      (record { exchanges = some.exchanges; in_order = some.in_order; ends = tt; asked = some.asked; searched = λ bd is quiet. tt })
