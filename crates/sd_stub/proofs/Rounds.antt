-- One round of serving: the messages that are there are answered, and a piece is taken.
use Rattle.std.proofs.Common.{◌≡◌, ℕ, ◌+◌, ◌-◌, ◌≤◌, List, ◌++◌, length, drop, sym, ap, ◌∙◌, subst, arith}
use Rattle.std.specs.declared.option.Option.{Option}
use Rattle.std.proofs.lemmas.List.{length-append, length-drop}
use Rattle.sd_base.specs.Causes.{Rose}
use Rattle.sd_ldap.specs.declared.entry.DirEntry.{DirEntry}
use Rattle.sd_ldap.specs.MessageReading.{unfinished, decode_of}
use Rattle.sd_stub.specs.declared.ending.LinkEnd.{LinkEnd}
use Rattle.sd_stub.specs.declared.ending.LinkEnd.TheVariants as ends
use Rattle.sd_stub.specs.declared.stepping.Stop.{Stop}
use Rattle.sd_stub.specs.declared.stepping.Stop.TheVariants as stops
use Rattle.sd_inbox.specs.declared.taking.Taken.TheVariants as takes
use Rattle.sd_inbox.specs.Taking.{Takes}
use Rattle.sd_stub.specs.Saying.{ended_of}
use Rattle.sd_stub.specs.Passing.{PassesTo, Stands}
use Rattle.sd_stub.specs.Serving.{Served}
use Rattle.sd_stub.proofs.Standing.{StandsTo, stands_to, stands_taken, stands_still, stands_waiting}
use Rattle.sd_stub.proofs.LinkEnds.{ends_at_end, ends_read_fault, ends_unstored, ends_over}

-- a count that rose since, rose from before
pub rose_earlier : (a b c : ℕ) → a ≤ b → Rose b c → Rose a c
rose_earlier a b c before rose = omega arith

-- where answering stopped, within the limit
pub record Round (entries : List DirEntry) (left left' held held' : Option (List ℕ)) (place : ℕ) (unread : List ℕ) (stop : Stop) (writes : Type 0) : Type 0 where
  pub stands : StandsTo entries left left' held held' place unread stop writes
  pub few : place + length unread ≤ 1073741824

pub round : (entries : List DirEntry) (left left' held between held' : Option (List ℕ)) (place used : ℕ) (unread bytes rest : List ℕ) (found stop : Stop) (writes : Type 0)
    → bytes ≡ unread → rest ≡ drop used unread → found ≡ stop → Stands entries left left' held between place unread → place + length unread ≤ 1073741824
    → PassesTo entries bytes used found between held' writes → used ≤ length bytes → Round entries left left' held held' (place + used) rest stop writes
round entries left left' held between held' place used unread bytes rest found stop writes e1 e2 e3 s few p within =
    let p1 : PassesTo entries unread used found between held' writes = subst (λ (list : List ℕ). PassesTo entries list used found between held' writes) e1 p in
    let p2 : PassesTo entries unread used stop between held' writes = subst (λ (x : Stop). PassesTo entries unread used x between held' writes) e3 p1 in
    let size : length rest ≡ length (drop used unread) = ap length e2 in
    let there : used ≤ length unread = subst (λ (list : List ℕ). used ≤ length list) e1 within in
    record {
      stands = stands_to entries left left' held between held' place used unread rest stop writes e2 s p2;
      few = omega (arith, size, there, few, length-drop used unread);
    }

-- a piece came
pub record GoesOn (entries : List DirEntry) (left left' held held' : Option (List ℕ)) (place : ℕ) (unread : List ℕ) : Type 0 where
  pub stands : Stands entries left left' held held' place unread
  pub few : place + length unread ≤ 1073741824

pub goes_on : (entries : List DirEntry) (left between left' held held' : Option (List ℕ)) (place room : ℕ) (unread new : List ℕ) (reads writes : Type 0)
    → Round entries left between held held' place unread stops.Waits writes → Takes takes.Bytes between left' unread new room reads → room ≡ 1073741824 - place - length unread
    → GoesOn entries left left' held held' place new
goes_on entries left between left' held held' place room unread new reads writes r t e =
    let w : Stands entries left between held held' place unread × (decode_of unread ≡ unfinished) = stands_waiting entries left between held held' place unread writes r.stands in
    let grown : new ≡ unread ++ t.piece = t.by.0 in
    record {
      stands = subst (λ (list : List ℕ). Stands entries left left' held held' place list) (sym grown) (stands_taken entries left between left' held held' place unread t.piece w.0 t.consumed);
      few = omega (arith, ap length grown, length-append unread t.piece, t.by.2, e, r.few);
    }

pub at_end : (entries : List DirEntry) (left between left' held held' : Option (List ℕ)) (place room : ℕ) (unread new bytes : List ℕ) (ending : LinkEnd) (reads writes r1 w1 : Type 0)
    → Round entries left between held held' place unread stops.Waits writes → Takes takes.End between left' unread new room reads → bytes ≡ new → ending ≡ ended_of bytes
    → Served entries ending left left' held held' r1 w1
at_end entries left between left' held held' place room unread new bytes ending reads writes r1 w1 r t e1 e2 =
    let w : Stands entries left between held held' place unread × (decode_of unread ≡ unfinished) = stands_waiting entries left between held held' place unread writes r.stands in
    let same : ending ≡ ended_of unread = e2 ∙ ap ended_of (e1 ∙ t.by.2) in
    subst (λ (x : LinkEnd). Served entries x left left' held held' r1 w1) (sym same)
    (ends_at_end entries left left' held held' place unread r1 w1 (stands_still entries left between left' held held' place unread t.piece w.0 t.consumed t.by.0) w.1 r.few t.by.1)

pub over : (entries : List DirEntry) (left between left' held held' : Option (List ℕ)) (place room : ℕ) (unread new : List ℕ) (reads writes r1 w1 : Type 0)
    → Round entries left between held held' place unread stops.Waits writes → Takes takes.Over between left' unread new room reads → room ≡ 1073741824 - place - length unread
    → Served entries (ends.Long 1073741824) left left' held held' r1 w1
over entries left between left' held held' place room unread new reads writes r1 w1 r t e =
    let w : Stands entries left between held held' place unread × (decode_of unread ≡ unfinished) = stands_waiting entries left between held held' place unread writes r.stands in
    let full : place + length unread ≡ 1073741824 = omega (arith, r.few, e, t.by.1) in
    let one : length t.piece ≤ 1 = omega (arith, t.few, t.by.1) in
    ends_over entries left between left' held held' place unread t.piece r1 w1 w.0 w.1 t.consumed full t.by.0 one

pub failed : (entries : List DirEntry) (left between left' held held' : Option (List ℕ)) (place room : ℕ) (unread new : List ℕ) (reads writes r1 w1 : Type 0) → (reads → r1)
    → Round entries left between held held' place unread stops.Waits writes → Takes takes.Failed between left' unread new room reads → Served entries ends.ReadFault left left' held held' r1 w1
failed entries left between left' held held' place room unread new reads writes r1 w1 f r t =
    let w : Stands entries left between held held' place unread × (decode_of unread ≡ unfinished) = stands_waiting entries left between held held' place unread writes r.stands in
    ends_read_fault entries left left' held held' place unread r1 w1 (stands_still entries left between left' held held' place unread t.piece w.0 t.consumed t.by.0) w.1 r.few (f t.by.1)

pub unstored : (entries : List DirEntry) (left between left' held held' : Option (List ℕ)) (place room : ℕ) (unread new : List ℕ) (reads writes r1 w1 : Type 0)
    → Round entries left between held held' place unread stops.Waits writes → Takes takes.Memory between left' unread new room reads → room ≡ 1073741824 - place - length unread
    → Served entries ends.Memory left left' held held' r1 w1
unstored entries left between left' held held' place room unread new reads writes r1 w1 r t e =
    let w : Stands entries left between held held' place unread × (decode_of unread ≡ unfinished) = stands_waiting entries left between held held' place unread writes r.stands in
    ends_unstored entries left between left' held held' place unread t.piece r1 w1 w.0 t.consumed (omega (arith, t.by.1, e, r.few))
