-- Where a link stands, from its first byte on.
use Rattle.std.proofs.Common.{◌≡◌, ℕ, ◌+◌, List, [], ◌++◌, length, drop, refl, sym, ap, ◌∙◌, append_assoc, append-nil, subst, arith}
use Rattle.std.specs.declared.option.Option.{Option}
use Rattle.std.specs.Io.KnownBytes.{Appends, Consumes}
use Rattle.std.proofs.KnownBytes.{Appends-nil, Appends-trans, Consumes-nil, Consumes-trans}
use Rattle.std.proofs.lemmas.List.{length-append, length-drop}
use Rattle.sd_ldap.specs.declared.entry.DirEntry.{DirEntry}
use Rattle.sd_ldap.specs.MessageReading.{DecodedValue, whole, unfinished, wrong, decode_of}
use Rattle.sd_stub.specs.declared.stepping.Stop.{Stop}
use Rattle.sd_stub.specs.declared.stepping.Stop.TheVariants as stops
use Rattle.sd_stub.specs.Saying.{said_from, answers}
use Rattle.sd_stub.specs.Passing.{after, Stops, Passes, PassesTo, Stands}
use Rattle.sd_stub.proofs.Passing.{after_both, answers_both}

-- before anything is taken
pub stands_first : (entries : List DirEntry) (left held : Option (List ℕ)) → Stands entries left left held held 0 []
stands_first entries left held = record {
  taken = [];
  done = [];
  consumed = Consumes-nil left;
  says = λ more. refl;
  written = Appends-nil held;
  counted = refl;
}

-- behind messages that were answered
pub stands_passed : (entries : List DirEntry) (left left' held between held' : Option (List ℕ)) (place used : ℕ) (unread : List ℕ)
    → Stands entries left left' held between place unread → Passes entries unread used between held' → Stands entries left left' held held' (place + used) (drop used unread)
stands_passed entries left left' held between held' place used unread s p = record {
  taken = s.taken;
  done = s.done ++ p.done;
  consumed = s.consumed;
  says = λ more. s.says more ∙ ap (after s.done) (p.says place more) ∙ after_both s.done p.done (said_from (place + used) 0 (drop used unread ++ more));
  written = subst (λ (bs : List ℕ). Appends held held' bs) (sym (answers_both entries s.done p.done)) (Appends-trans held between held' (answers entries s.done) (answers entries p.done) s.written p.written);
  counted = let size : length (drop used unread) + used ≡ length unread = omega (arith, length-drop used unread, p.within) in omega (arith, s.counted, size);
}

-- behind a piece that was taken
pub stands_taken : (entries : List DirEntry) (left between left' held held' : Option (List ℕ)) (place : ℕ) (unread piece : List ℕ)
    → Stands entries left between held held' place unread → Consumes between left' piece → Stands entries left left' held held' place (unread ++ piece)
stands_taken entries left between left' held held' place unread piece s c = record {
  taken = s.taken ++ piece;
  done = s.done;
  consumed = Consumes-trans left between left' s.taken piece s.consumed c;
  says = λ more.
      ap (λ (list : List ℕ). said_from 0 0 list) (append_assoc s.taken piece more)
      ∙ s.says (piece ++ more)
      ∙ ap (λ (list : List ℕ). after s.done (said_from place 0 list)) (sym (append_assoc unread piece more));
  written = s.written;
  counted = omega (arith, s.counted, length-append s.taken piece, length-append unread piece);
}

-- nothing was taken
pub stands_still : (entries : List DirEntry) (left between left' held held' : Option (List ℕ)) (place : ℕ) (unread piece : List ℕ)
    → Stands entries left between held held' place unread → Consumes between left' piece → piece ≡ [] → Stands entries left left' held held' place unread
stands_still entries left between left' held held' place unread piece s c none =
    let all : unread ++ piece ≡ unread = ap (λ (list : List ℕ). unread ++ list) none ∙ append-nil unread in
    subst (λ (list : List ℕ). Stands entries left left' held held' place list) all (stands_taken entries left between left' held held' place unread piece s c)

-- where answering stopped
pub record StandsTo (entries : List DirEntry) (left left' held held' : Option (List ℕ)) (place : ℕ) (unread : List ℕ) (stop : Stop) (writes : Type 0) : Type 0 where
  pub between : Option (List ℕ)
  pub stands : Stands entries left left' held between place unread
  pub stops : Stops entries stop (decode_of unread) between held' writes

pub stands_to : (entries : List DirEntry) (left left' held between held' : Option (List ℕ)) (place used : ℕ) (unread rest : List ℕ) (stop : Stop) (writes : Type 0) → rest ≡ drop used unread
    → Stands entries left left' held between place unread → PassesTo entries unread used stop between held' writes → StandsTo entries left left' held held' (place + used) rest stop writes
stands_to entries left left' held between held' place used unread rest stop writes e s p =
    subst (λ (list : List ℕ). StandsTo entries left left' held held' (place + used) list stop writes) (sym e)
    (record {
      between = p.between;
      stands = stands_passed entries left left' held between p.between place used unread s p.passes;
      stops = p.stops;
    })

waits_by : (entries : List DirEntry) (d : DecodedValue) (held held' : Option (List ℕ)) (writes : Type 0) → Stops entries stops.Waits d held held' writes → (d ≡ unfinished) × (held' ≡ held)
waits_by entries unfinished held held' writes h = (refl, h)
waits_by entries (whole m used) held held' writes h = absurd h
waits_by entries (wrong at) held held' writes h = absurd h

-- where more bytes are waited for
pub stands_waiting : (entries : List DirEntry) (left left' held held' : Option (List ℕ)) (place : ℕ) (unread : List ℕ) (writes : Type 0)
    → StandsTo entries left left' held held' place unread stops.Waits writes → Stands entries left left' held held' place unread × (decode_of unread ≡ unfinished)
stands_waiting entries left left' held held' place unread writes s =
    let w : (decode_of unread ≡ unfinished) × (held' ≡ s.between) = waits_by entries (decode_of unread) s.between held' writes s.stops in
    (subst (λ (h : Option (List ℕ)). Stands entries left left' held h place unread) (sym w.1) s.stands, w.0)
