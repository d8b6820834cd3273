-- Messages in front, one after the other.
use Rattle.std.proofs.Common.{◌≡◌, ℕ, ◌+◌, ◌<◌, false, List, [], ◌∷◌, ◌++◌, length, drop, refl, sym, ap, ◌∙◌, append_assoc, append-nil, subst, arith}
use Rattle.std.specs.declared.option.Option.{Option}
use Rattle.std.specs.Io.KnownBytes.{Appends}
use Rattle.std.proofs.KnownBytes.{Appends-nil, Appends-trans}
use Rattle.std.proofs.lemmas.Grind.{flat_map-append}
use Rattle.std.proofs.lemmas.List.{drop-drop, length-drop}
use Rattle.sd_ldap.specs.declared.entry.DirEntry.{DirEntry}
use Rattle.sd_ldap.specs.Values.{MessageValue}
use Rattle.sd_ldap.specs.MessageReading.{DecodedValue, whole, unfinished, wrong, decode_of}
use Rattle.sd_match.specs.Answering.{reply_bytes}
use Rattle.sd_stub.specs.Saying.{Said, is_unbind, said_from, answers}
use Rattle.sd_stub.specs.Passing.{after, IsPassed, Passes}
use Rattle.sd_ldap.proofs.Sizes.{used_within}
use Rattle.sd_stub.proofs.Hearing.{passes_message}

pub after_both : (a b : List MessageValue) (rest : Said) → after a (after b rest) ≡ after (a ++ b) rest
after_both a b rest = ap (λ (list : List MessageValue). record { messages = list; ending = rest.ending }) (sym (append_assoc a b rest.messages))

pub answers_both : (entries : List DirEntry) (a b : List MessageValue) → answers entries (a ++ b) ≡ answers entries a ++ answers entries b
answers_both entries a b = flat_map-append (λ (m : MessageValue). reply_bytes entries m) a b

pub answers_one : (entries : List DirEntry) (m : MessageValue) → answers entries (m ∷ []) ≡ reply_bytes entries m
answers_one entries m = append-nil (reply_bytes entries m)

-- none
pub passes_none : (entries : List DirEntry) (bytes : List ℕ) (held : Option (List ℕ)) → Passes entries bytes 0 held held
passes_none entries bytes held = record {
  done = [];
  says = λ place more. let same : place ≡ place + 0 = omega arith in ap (λ (p : ℕ). said_from p 0 (bytes ++ more)) same;
  written = Appends-nil held;
  within = omega arith;
}

-- one
pub passes_one : (entries : List DirEntry) (bytes : List ℕ) (used : ℕ) (m : MessageValue) (held held' : Option (List ℕ)) → decode_of bytes ≡ whole m used → is_unbind m.operation ≡ false
    → Appends held held' (reply_bytes entries m) → Passes entries bytes used held held'
passes_one entries bytes used m held held' e other_one written = record {
  done = m ∷ [];
  says = λ place more. passes_message place bytes more m used e other_one;
  written = subst (λ (bs : List ℕ). Appends held held' bs) (sym (answers_one entries m)) written;
  within = (used_within bytes m used e).1;
}

by_decoded : (entries : List DirEntry) (bytes : List ℕ) (used : ℕ) (d : DecodedValue) (held held' : Option (List ℕ)) → decode_of bytes ≡ d → IsPassed entries used d held held' → Passes entries bytes used held held'
by_decoded entries bytes used (whole m count) held held' e h =
    let same : decode_of bytes ≡ whole m used = e ∙ ap (whole m) h.0 in
    passes_one entries bytes used m held held' same h.1 h.2
by_decoded entries bytes used unfinished held held' e h = absurd h
by_decoded entries bytes used (wrong at) held held' e h = absurd h

pub passes_front : (entries : List DirEntry) (bytes : List ℕ) (used : ℕ) (held held' : Option (List ℕ)) → IsPassed entries used (decode_of bytes) held held' → Passes entries bytes used held held'
passes_front entries bytes used held held' h = by_decoded entries bytes used (decode_of bytes) held held' refl h

-- some, and then some
pub passes_both : (entries : List DirEntry) (bytes : List ℕ) (used more_used : ℕ) (held between held' : Option (List ℕ)) → Passes entries bytes used held between → Passes entries (drop used bytes) more_used between held'
    → Passes entries bytes (used + more_used) held held'
passes_both entries bytes used more_used held between held' first second = record {
  done = first.done ++ second.done;
  says = λ place more.
      let moved : place + used + more_used ≡ place + (used + more_used) = omega arith in
      let rest : drop more_used (drop used bytes) ≡ drop (used + more_used) bytes = drop-drop more_used used bytes in
      first.says place more
      ∙ ap (after first.done) (second.says (place + used) more)
      ∙ after_both first.done second.done (said_from (place + used + more_used) 0 (drop more_used (drop used bytes) ++ more))
      ∙ ap (λ (p : ℕ). after (first.done ++ second.done) (said_from p 0 (drop more_used (drop used bytes) ++ more))) moved
      ∙ ap (λ (list : List ℕ). after (first.done ++ second.done) (said_from (place + (used + more_used)) 0 (list ++ more))) rest;
  written = subst (λ (bs : List ℕ). Appends held held' bs) (sym (answers_both entries first.done second.done)) (Appends-trans held between held' (answers entries first.done) (answers entries second.done) first.written second.written);
  within = let size : length (drop used bytes) + used ≡ length bytes = omega (arith, length-drop used bytes, first.within) in omega (arith, second.within, size);
}

pub passes_more : (entries : List DirEntry) (bytes rest : List ℕ) (used count : ℕ) (held between held' : Option (List ℕ)) → rest ≡ drop used bytes → Passes entries bytes used held between
    → IsPassed entries count (decode_of rest) between held' → Passes entries bytes (used + count) held held'
passes_more entries bytes rest used count held between held' e first h =
    passes_both entries bytes used count held between held' first (passes_front entries (drop used bytes) count between held' (subst (λ (list : List ℕ). IsPassed entries count (decode_of list) between held') e h))

some_decoded : (entries : List DirEntry) (bytes : List ℕ) (used : ℕ) (d : DecodedValue) (held held' : Option (List ℕ)) → decode_of bytes ≡ d → IsPassed entries used d held held' → 0 < used
some_decoded entries bytes used (whole m count) held held' e h = (used_within bytes m used (e ∙ ap (whole m) h.0)).0
some_decoded entries bytes used unfinished held held' e h = absurd h
some_decoded entries bytes used (wrong at) held held' e h = absurd h

-- a message has a byte
pub passed_some : (entries : List DirEntry) (bytes : List ℕ) (used : ℕ) (held held' : Option (List ℕ)) → IsPassed entries used (decode_of bytes) held held' → 0 < used
passed_some entries bytes used held held' h = some_decoded entries bytes used (decode_of bytes) held held' refl h
