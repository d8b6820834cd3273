-- The rounds find the ends of all paths.
use Rattle.std.proofs.Common.{◌≡◌, ℕ, zero, suc, ◌+◌, ◌≤◌, List, [], ◌∷◌, ◌++◌, length, take, slice_get, Option, Some, None, refl, sym, subst, inl, inr, ◌⊎◌, arith}
use Rattle.std.specs.List.{flat_map}
use Rattle.sd_ldap.specs.declared.entry.DirEntry.{DirEntry}
use Rattle.sd_netgroup.specs.Named.{members_of, named_in}
use Rattle.sd_netgroup.specs.Paths.{In, StepsTo, LeadsTo, IsEnd}
use Rattle.sd_netgroup.specs.Rounds.{with_names, Course, beginning, further, step_in, go_on_in, course_in}
use Rattle.sd_nested.proofs.In.{in_left, in_right, in_either, in_flat, in_from}
use Rattle.sd_netgroup.proofs.Names.{Grows, names_grow, still_in, put_in, names_from, got_in, taken, taken_all, all_taken}

module _ (entries : List DirEntry) (base first : List ℕ) where
  -- the name itself, or a member of the end of a path
  abbrev IsMet : List ℕ → Type 0
  IsMet name = (first ≡ name) ⊎ ((e : DirEntry) × IsEnd entries base first e × In name (members_of e))

  one_more : (n : ℕ) (e f g : DirEntry) → LeadsTo entries base n e f → StepsTo entries base f g → LeadsTo entries base (suc n) e g
  one_more zero e f g h s = (g, subst (λ (d : DirEntry). StepsTo entries base d g) (sym h) s, refl)
  one_more (suc n) e f g h s = (h.0, h.1, one_more n h.0 f g h.2 s)

  -- an entry of a name that was met is the end of a path
  met_end : (name : List ℕ) (e : DirEntry) → IsMet name → In e (named_in entries base name) → IsEnd entries base first e
  met_end name e (inl same) h = (zero, e, subst (λ (n : List ℕ). In e (named_in entries base n)) (sym same) h, refl)
  met_end name e (inr m) h = (suc m.1.0, m.1.1, m.1.2, one_more m.1.0 m.1.1 m.0 e m.1.3 (name, m.2, h))

  -- what was found is at the ends of paths, and of the names before a place all was found
  record Holds (c : Course) (place : ℕ) : Type 0 where
    begins : In first c.names
    met : (name : List ℕ) → In name c.names → IsMet name
    ends : (e : DirEntry) → In e c.found → IsEnd entries base first e
    found : (name : List ℕ) (e : DirEntry) → In name (take place c.names) → In e (named_in entries base name) → In e c.found
    leads : (name : List ℕ) (e : DirEntry) (member : List ℕ) → In name (take place c.names) → In e (named_in entries base name) → In member (members_of e) → In member c.names

  at_first : Holds (beginning first) 0
  at_first = record {
    begins = inl refl;
    met = λ name h. first_met name h;
    ends = λ e h. absurd h;
    found = λ name e h k. absurd h;
    leads = λ name e member h k m. absurd h;
  }
    where
      first_met : (name : List ℕ) → In name (first ∷ []) → IsMet name
      first_met name (inl e) = inl e
      first_met name (inr h) = absurd h

  module _ (c : Course) (place : ℕ) (name : List ℕ) (got : slice_get c.names place ≡ Some name) (h : Holds c place) where
    here : List DirEntry
    here = named_in entries base name

    more : List (List ℕ)
    more = flat_map members_of (named_in entries base name)

    grows : Grows c.names (with_names c.names (flat_map members_of (named_in entries base name)))
    grows = names_grow c.names (flat_map members_of (named_in entries base name))

    here_end : (e : DirEntry) → In e (named_in entries base name) → IsEnd entries base first e
    here_end e k = met_end name e (h.met name (got_in c.names place name got)) k

    met_more : (x : List ℕ) → In x c.names ⊎ In x (flat_map members_of (named_in entries base name)) → IsMet x
    met_more x (inl k) = h.met x k
    met_more x (inr k) = let f = in_from members_of x (named_in entries base name) k in inr (f.source, here_end f.source f.among, f.gives)

    end_more : (e : DirEntry) → In e c.found ⊎ In e (named_in entries base name) → IsEnd entries base first e
    end_more e (inl k) = h.ends e k
    end_more e (inr k) = here_end e k

    found_more : (x : List ℕ) (e : DirEntry) → In x (take place c.names) ⊎ (name ≡ x) → In e (named_in entries base x) → In e (c.found ++ named_in entries base name)
    found_more x e (inl k) m = in_left e c.found (named_in entries base name) (h.found x e k m)
    found_more x e (inr same) m = in_right e c.found (named_in entries base name) (subst (λ (n : List ℕ). In e (named_in entries base n)) (sym same) m)

    leads_more : (x : List ℕ) (e : DirEntry) (member : List ℕ) → In x (take place c.names) ⊎ (name ≡ x) → In e (named_in entries base x) → In member (members_of e) → In member (with_names c.names (flat_map members_of (named_in entries base name)))
    leads_more x e member (inl k) m v = still_in member c.names (with_names c.names (flat_map members_of (named_in entries base name))) grows (h.leads x e member k m v)
    leads_more x e member (inr same) m v =
        put_in member c.names (flat_map members_of (named_in entries base name))
        (in_flat members_of e member (named_in entries base name) (subst (λ (n : List ℕ). In e (named_in entries base n)) (sym same) m) v)

    before : (x : List ℕ) → In x (take (suc place) (with_names c.names (flat_map members_of (named_in entries base name)))) → In x (take place c.names) ⊎ (name ≡ x)
    before x k = taken x c.names grows.more place name got (subst (λ (xs : List (List ℕ)). In x (take (suc place) xs)) grows.are k)

    one_further : Holds (further c (named_in entries base name)) (suc place)
    one_further = record {
      begins = still_in first c.names (with_names c.names (flat_map members_of (named_in entries base name))) grows h.begins;
      met = λ x k. met_more x (names_from x c.names (flat_map members_of (named_in entries base name)) k);
      ends = λ e k. end_more e (in_either e c.found (named_in entries base name) k);
      found = λ x e k m. found_more x e (before x k) m;
      leads = λ x e member k m v. leads_more x e member (before x k) m v;
    }

  none_left : (c : Course) (place : ℕ) → slice_get c.names place ≡ None → Holds c place → Holds c (suc place)
  none_left c place got h = record {
    begins = h.begins;
    met = h.met;
    ends = h.ends;
    found = λ x e k m. h.found x e (taken_all x c.names place got k) m;
    leads = λ x e member k m v. h.leads x e member (taken_all x c.names place got k) m v;
  }

  one_step : (c : Course) (place : ℕ) (o : Option (List ℕ)) → slice_get c.names place ≡ o → Holds c place → Holds (step_in entries base c o) (suc place)
  one_step c place None got h = none_left c place got h
  one_step c place (Some name) got h = one_further c place name got h

  goes_on : (n : ℕ) (c : Course) (place : ℕ) → Holds c place → Holds (go_on_in entries base c place n) (place + n)
  goes_on zero c place h = subst (λ (k : ℕ). Holds c k) (let e : place ≡ place + 0 = omega arith in e) h
  goes_on (suc n) c place h =
      subst (λ (k : ℕ). Holds (go_on_in entries base (step_in entries base c (slice_get c.names place)) (suc place) n) k) (let e : suc place + n ≡ place + suc n = omega arith in e)
      (goes_on n (step_in entries base c (slice_get c.names place)) (suc place) (one_step c place (slice_get c.names place) refl h))

  holds : (n : ℕ) → Holds (course_in entries base first n) n
  holds n = subst (λ (k : ℕ). Holds (course_in entries base first n) k) (let e : 0 + n ≡ n = omega arith in e) (goes_on n (beginning first) 0 at_first)

  -- all that was found is at the ends of paths
  pub found_end : (n : ℕ) (e : DirEntry) → In e (course_in entries base first n).found → IsEnd entries base first e
  found_end n e h = (holds n).ends e h

  along : (n : ℕ) → length (course_in entries base first n).names ≤ n → (steps : ℕ) (name : List ℕ) (e g : DirEntry) → In name (course_in entries base first n).names → In e (named_in entries base name) → LeadsTo entries base steps e g
      → In g (course_in entries base first n).found
  along n whole zero name e g k m path =
      subst (λ (d : DirEntry). In d (course_in entries base first n).found) path
      ((holds n).found name e (all_taken name (course_in entries base first n).names n whole k) m)
  along n whole (suc steps) name e g k m path =
      along n whole steps path.1.0 path.0 g
      ((holds n).leads name e path.1.0 (all_taken name (course_in entries base first n).names n whole k) m path.1.1)
      path.1.2 path.2

  -- where no name is left, the ends of all paths were found
  pub end_found : (n : ℕ) → length (course_in entries base first n).names ≤ n → (e : DirEntry) → IsEnd entries base first e → In e (course_in entries base first n).found
  end_found n whole e h = along n whole h.0 first h.1 e (holds n).begins h.2 h.3
