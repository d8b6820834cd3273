-- What reading has gone over, and that it reads the triple of each text that spells one.
use Rattle.std.specs.Prelude.{◌==◌, ◌&&◌, not, IfOk}
use Rattle.std.proofs.Common.{◌≡◌, ℕ, ◌+◌, Bool, true, false, cond, List, [], ◌∷◌, ◌++◌, drop, Option, Some, None, Result, Ok, Err, refl, sym, ap, subst, ◌∙◌, append_assoc, inl, inr, ◌⊎◌}
use Rattle.std.specs.Option.{option_and_then}
use Rattle.std.proofs.lemmas.Bool.{and_parts, and_from, eqb-true, ne_eqb, true≢false, not-true, not_from_false}
use Rattle.std.proofs.lemmas.List.{append-nil, take-append-drop}
use Rattle.std.proofs.lemmas.List.Folds.{list_all-append}
use Rattle.sd_triples.specs.declared.triples.Triple.{Triple}
use Rattle.sd_triples.specs.declared.reading.TripleFault.{TripleFault}
use Rattle.sd_triples.specs.declared.reading.TripleFault.TheVariants as faults
use Rattle.sd_triples.specs.declared.reading.Stage.{Stage}
use Rattle.sd_triples.specs.declared.reading.Stage.TheVariants.{Start, Host, User, Domain, End}
use Rattle.sd_triples.specs.Grammar.{is_reserved, is_field, written, triple_of, Spells, IsFirstBad, Reads}
use Rattle.sd_triples.specs.Reading.{Progress, at, start, in_field, step_by, step, run, ended_at, ended, triple_by, triple_in, IsBadAt}
use Rattle.sd_pieces.specs.Steps as specs
use Rattle.sd_pieces.proofs.StepLaws as steps

-- ---- what was read so far

-- the fields fit, and those that reading has not come to are empty
abbrev pub IsGood : List ℕ → List ℕ → List ℕ → Stage → Type 0
IsGood host user domain Start = (host ≡ []) × ((user ≡ []) × (domain ≡ []))
IsGood host user domain Host = (is_field host ≡ true) × ((user ≡ []) × (domain ≡ []))
IsGood host user domain User = (is_field host ≡ true) × ((is_field user ≡ true) × (domain ≡ []))
IsGood host user domain Domain = (is_field host ≡ true) × ((is_field user ≡ true) × (is_field domain ≡ true))
IsGood host user domain End = (is_field host ≡ true) × ((is_field user ≡ true) × (is_field domain ≡ true))

abbrev pub gone_over : List ℕ → List ℕ → List ℕ → Stage → List ℕ
gone_over host user domain Start = []
gone_over host user domain Host = 40 ∷ host
gone_over host user domain User = 40 ∷ (host ++ (44 ∷ user))
gone_over host user domain Domain = 40 ∷ (host ++ (44 ∷ (user ++ (44 ∷ domain))))
gone_over host user domain End = written host user domain

pub record Moved (text : List ℕ) (p : Progress) : Type 0 where
  pub good : IsGood p.host p.user p.domain p.stage
  pub over : gone_over p.host p.user p.domain p.stage ≡ text

-- a step in a field: over the byte that ends it, or over a byte of it
record Taken (b ends : ℕ) (longer ended q : Progress) : Type 0 where
  either : ((b ≡ ends) × (ended ≡ q)) ⊎ ((is_reserved b ≡ false) × (longer ≡ q))

field_taken : (longer ended q : Progress) (ends b : ℕ) → in_field longer ended ends b ≡ Some q → Taken b ends longer ended q
field_taken longer ended q ends b h = by (b == ends) (is_reserved b) refl refl h
  where
    by : (s t : Bool) → (b == ends) ≡ s → is_reserved b ≡ t → cond s (Some ended) (cond t None (Some longer)) ≡ Some q → Taken b ends longer ended q
    by true t e f k = record { either = inl (eqb-true b ends e, cc) }
    by false true e f k = absurd cc
    by false false e f k = record { either = inr (f, cc) }

field_push : (field : List ℕ) (b : ℕ) → is_field field ≡ true → is_reserved b ≡ false → is_field (field ++ b ∷ []) ≡ true
field_push field b ok plain =
    list_all-append (λ c. not (is_reserved c)) field (b ∷ [])
    ∙ and_from (is_field field) (not (is_reserved b) && true) ok (and_from (not (is_reserved b)) true (not_from_false (is_reserved b) plain) refl)

regrouped : (host user domain : List ℕ) (b : ℕ) → 40 ∷ (host ++ (44 ∷ (user ++ (44 ∷ (domain ++ b ∷ []))))) ≡ (40 ∷ (host ++ (44 ∷ (user ++ (44 ∷ domain))))) ++ b ∷ []
regrouped host user domain b =
    ap (λ (w : List ℕ). 40 ∷ (host ++ (44 ∷ w))) (sym (append_assoc user (44 ∷ domain) (b ∷ []))) ∙ ap (λ (w : List ℕ). 40 ∷ w) (sym (append_assoc host (44 ∷ (user ++ (44 ∷ domain))) (b ∷ [])))

moves_by : (stage : Stage) (host user domain : List ℕ) (b : ℕ) (q : Progress) → IsGood host user domain stage → step_by stage (at host user domain stage) b ≡ Some q → Moved (gone_over host user domain stage ++ b ∷ []) q
moves_by Start host user domain b q good h = by (b == 40) refl h
  where
    by : (s : Bool) → (b == 40) ≡ s → cond s (Some (at host user domain Host)) None ≡ Some q → Moved (b ∷ []) q
    by false e k = absurd cc
    by true e k =
        let same : at host user domain Host ≡ q = cc in
        let open_is : b ≡ 40 = eqb-true b 40 e in
        subst (λ (r : Progress). Moved (b ∷ []) r) same (record {
          good = (ap is_field good.0, good.1);
          over = ap (λ (w : List ℕ). 40 ∷ w) good.0 ∙ ap (λ (c : ℕ). c ∷ []) (sym open_is);
        })
moves_by Host host user domain b q good h =
    elim ((field_taken (at (host ++ b ∷ []) user domain Host) (at host user domain User) q 44 b h).either) [
      | inl t ↦ subst (λ (r : Progress). Moved ((40 ∷ host) ++ b ∷ []) r) t.1 (record {
        good = (good.0, (ap is_field good.1.0, good.1.1));
        over = ap (λ (w : List ℕ). 40 ∷ (host ++ (44 ∷ w))) good.1.0 ∙ ap (λ (c : ℕ). 40 ∷ (host ++ c ∷ [])) (sym t.0);
      })
      | inr t ↦ subst (λ (r : Progress). Moved ((40 ∷ host) ++ b ∷ []) r) t.1 (record { good = (field_push host b good.0 t.0, good.1); over = refl })
    ]
moves_by User host user domain b q good h =
    elim ((field_taken (at host (user ++ b ∷ []) domain User) (at host user domain Domain) q 44 b h).either) [
      | inl t ↦ subst (λ (r : Progress). Moved ((40 ∷ (host ++ (44 ∷ user))) ++ b ∷ []) r) t.1 (record {
        good = (good.0, (good.1.0, ap is_field good.1.1));
        over = ap (λ (w : List ℕ). 40 ∷ (host ++ (44 ∷ (user ++ (44 ∷ w))))) good.1.1 ∙ (ap (λ (c : ℕ). 40 ∷ (host ++ (44 ∷ (user ++ c ∷ [])))) (sym t.0) ∙ ap (λ (w : List ℕ). 40 ∷ w) (sym (append_assoc host (44 ∷ user) (b ∷ []))));
      })
      | inr t ↦ subst (λ (r : Progress). Moved ((40 ∷ (host ++ (44 ∷ user))) ++ b ∷ []) r) t.1 (record {
        good = (good.0, (field_push user b good.1.0 t.0, good.1.1));
        over = ap (λ (w : List ℕ). 40 ∷ w) (sym (append_assoc host (44 ∷ user) (b ∷ [])));
      })
    ]
moves_by Domain host user domain b q good h =
    elim ((field_taken (at host user (domain ++ b ∷ []) Domain) (at host user domain End) q 41 b h).either) [
      | inl t ↦ subst (λ (r : Progress). Moved ((40 ∷ (host ++ (44 ∷ (user ++ (44 ∷ domain))))) ++ b ∷ []) r) t.1 (record {
        good = good;
        over = ap (λ (c : ℕ). 40 ∷ (host ++ (44 ∷ (user ++ (44 ∷ (domain ++ c ∷ [])))))) (sym t.0) ∙ regrouped host user domain b;
      })
      | inr t ↦ subst (λ (r : Progress). Moved ((40 ∷ (host ++ (44 ∷ (user ++ (44 ∷ domain))))) ++ b ∷ []) r) t.1 (record {
        good = (good.0, (good.1.0, field_push domain b good.1.1 t.0));
        over = regrouped host user domain b;
      })
    ]
moves_by End host user domain b q good h = absurd cc

step_moves : (p q : Progress) (b : ℕ) → IsGood p.host p.user p.domain p.stage → step p b ≡ Some q → Moved (gone_over p.host p.user p.domain p.stage ++ b ∷ []) q
step_moves p q b good h = moves_by p.stage p.host p.user p.domain b q good h

-- what reading reaches is good, and it has gone over all bytes
run_moves : (p : Progress) (xs : List ℕ) (q : Progress) → IsGood p.host p.user p.domain p.stage → run p xs ≡ Some q → Moved (gone_over p.host p.user p.domain p.stage ++ xs) q
run_moves p [] q good h =
    let same : p ≡ q = cc in
    subst (λ (r : Progress). Moved (gone_over p.host p.user p.domain p.stage ++ []) r) same (record { good = good; over = sym (append-nil (gone_over p.host p.user p.domain p.stage)) })
run_moves p (b ∷ bs) q good h = by (step p b) refl h (λ r g k. run_moves r bs q g k)
  where
    by : (o : Option Progress) → step p b ≡ o → option_and_then (λ r. run r bs) o ≡ Some q → ((r : Progress) → IsGood r.host r.user r.domain r.stage → run r bs ≡ Some q → Moved (gone_over r.host r.user r.domain r.stage ++ bs) q) → Moved (gone_over p.host p.user p.domain p.stage ++ (b ∷ bs)) q
    by None is went rest = absurd cc
    by (Some r) is went rest =
        let first = step_moves p r b good is in
        let text : gone_over r.host r.user r.domain r.stage ++ bs ≡ gone_over p.host p.user p.domain p.stage ++ (b ∷ bs) = ap (λ (w : List ℕ). w ++ bs) first.over ∙ append_assoc (gone_over p.host p.user p.domain p.stage) (b ∷ []) bs in
        subst (λ (w : List ℕ). Moved w q) text (rest r first.good went)

start_moves : (xs : List ℕ) (q : Progress) → run start xs ≡ Some q → Moved xs q
start_moves xs q h = run_moves start xs q (refl, (refl, refl)) h

-- ---- a text that spells a triple

plain_not : (b ends : ℕ) → is_reserved b ≡ false → is_reserved ends ≡ true → (b == ends) ≡ false
plain_not b ends plain reserved = ne_eqb b ends (λ e. true≢false (sym reserved ∙ (ap is_reserved (sym e) ∙ plain)))

goes_in : (longer ended : Progress) (ends b : ℕ) → is_reserved b ≡ false → is_reserved ends ≡ true → in_field longer ended ends b ≡ Some longer
goes_in longer ended ends b plain reserved =
    ap (λ (s : Bool). cond s (Some ended) (cond (is_reserved b) None (Some longer))) (plain_not b ends plain reserved) ∙ ap (λ (t : Bool). cond t None (Some longer)) plain

on_step : (p q : Progress) (b : ℕ) (rest : List ℕ) → step p b ≡ Some q → run p (b ∷ rest) ≡ run q rest
on_step p q b rest h = ap (λ (o : Option Progress). option_and_then (λ r. run r rest) o) h

host_read : (xs host user domain rest : List ℕ) → is_field xs ≡ true → run (at host user domain Host) (xs ++ rest) ≡ run (at (host ++ xs) user domain Host) rest
host_read [] host user domain rest ok = ap (λ (w : List ℕ). run (at w user domain Host) rest) (sym (append-nil host))
host_read (b ∷ bs) host user domain rest ok =
    let p = and_parts (not (is_reserved b)) (is_field bs) ok in
    on_step (at host user domain Host) (at (host ++ b ∷ []) user domain Host) b (bs ++ rest) (goes_in (at (host ++ b ∷ []) user domain Host) (at host user domain User) 44 b (not-true (is_reserved b) p.0) refl)
    ∙ (host_read bs (host ++ b ∷ []) user domain rest p.1 ∙ ap (λ (w : List ℕ). run (at w user domain Host) rest) (append_assoc host (b ∷ []) bs))

user_read : (xs host user domain rest : List ℕ) → is_field xs ≡ true → run (at host user domain User) (xs ++ rest) ≡ run (at host (user ++ xs) domain User) rest
user_read [] host user domain rest ok = ap (λ (w : List ℕ). run (at host w domain User) rest) (sym (append-nil user))
user_read (b ∷ bs) host user domain rest ok =
    let p = and_parts (not (is_reserved b)) (is_field bs) ok in
    on_step (at host user domain User) (at host (user ++ b ∷ []) domain User) b (bs ++ rest) (goes_in (at host (user ++ b ∷ []) domain User) (at host user domain Domain) 44 b (not-true (is_reserved b) p.0) refl)
    ∙ (user_read bs host (user ++ b ∷ []) domain rest p.1 ∙ ap (λ (w : List ℕ). run (at host w domain User) rest) (append_assoc user (b ∷ []) bs))

domain_read : (xs host user domain rest : List ℕ) → is_field xs ≡ true → run (at host user domain Domain) (xs ++ rest) ≡ run (at host user (domain ++ xs) Domain) rest
domain_read [] host user domain rest ok = ap (λ (w : List ℕ). run (at host user w Domain) rest) (sym (append-nil domain))
domain_read (b ∷ bs) host user domain rest ok =
    let p = and_parts (not (is_reserved b)) (is_field bs) ok in
    on_step (at host user domain Domain) (at host user (domain ++ b ∷ []) Domain) b (bs ++ rest) (goes_in (at host user (domain ++ b ∷ []) Domain) (at host user domain End) 41 b (not-true (is_reserved b) p.0) refl)
    ∙ (domain_read bs host user (domain ++ b ∷ []) rest p.1 ∙ ap (λ (w : List ℕ). run (at host user w Domain) rest) (append_assoc domain (b ∷ []) bs))

written_read : (host user domain : List ℕ) → is_field host ≡ true → is_field user ≡ true → is_field domain ≡ true → run start (written host user domain) ≡ Some (at host user domain End)
written_read host user domain host_ok user_ok domain_ok =
    host_read host [] [] [] (44 ∷ (user ++ (44 ∷ (domain ++ 41 ∷ [])))) host_ok
    ∙ (user_read user host [] [] (44 ∷ (domain ++ 41 ∷ [])) user_ok
    ∙ domain_read domain host user [] (41 ∷ []) domain_ok)

spelled_run : (text : List ℕ) (triple : Triple) (s : Spells text triple) → run start text ≡ Some (at s.host s.user s.domain End)
spelled_run text triple s = ap (run start) s.text_is ∙ written_read s.host s.user s.domain s.host_fits s.user_fits s.domain_fits

pub spelled_in : (text : List ℕ) (triple : Triple) → Spells text triple → triple_in text ≡ Some triple
spelled_in text triple s = ap triple_by (spelled_run text triple s) ∙ ap Some (sym s.meaning)

ends_spelled : (stage : Stage) (host user domain : List ℕ) (text : List ℕ) (triple : Triple) → IsGood host user domain stage → gone_over host user domain stage ≡ text → ended_at stage (at host user domain stage) ≡ Some triple → Spells text triple
ends_spelled Start host user domain text triple good over h = absurd cc
ends_spelled Host host user domain text triple good over h = absurd cc
ends_spelled User host user domain text triple good over h = absurd cc
ends_spelled Domain host user domain text triple good over h = absurd cc
ends_spelled End host user domain text triple good over h =
    let same : triple_of host user domain ≡ triple = cc in
    record { host = host; user = user; domain = domain; host_fits = good.0; user_fits = good.1.0; domain_fits = good.1.1; text_is = sym over; meaning = sym same }

pub in_spelled : (text : List ℕ) (triple : Triple) → triple_in text ≡ Some triple → Spells text triple
in_spelled text triple h = by (run start text) refl h
  where
    by : (o : Option Progress) → run start text ≡ o → triple_by o ≡ Some triple → Spells text triple
    by None is k = absurd cc
    by (Some p) is k =
        let m = start_moves text p is in
        ends_spelled p.stage p.host p.user p.domain text triple m.good m.over k

-- ---- what was reached goes on to a triple

abbrev GoesOn : List ℕ → Type 0
GoesOn text = specs.GoesOn Spells text

goes_to : (text more host user domain : List ℕ) → is_field host ≡ true → is_field user ≡ true → is_field domain ≡ true → text ++ more ≡ written host user domain → GoesOn text
goes_to text more host user domain host_ok user_ok domain_ok is =
    (more, triple_of host user domain, record { host = host; user = user; domain = domain; host_fits = host_ok; user_fits = user_ok; domain_fits = domain_ok; text_is = is; meaning = refl })

good_goes : (stage : Stage) (host user domain : List ℕ) → IsGood host user domain stage → GoesOn (gone_over host user domain stage)
good_goes Start host user domain good = goes_to [] (written [] [] []) [] [] [] refl refl refl refl
good_goes Host host user domain good = goes_to (40 ∷ host) (44 ∷ 44 ∷ 41 ∷ []) host [] [] good.0 refl refl refl
good_goes User host user domain good =
    goes_to (40 ∷ (host ++ (44 ∷ user))) (44 ∷ 41 ∷ []) host user [] good.0 good.1.0 refl (ap (λ (w : List ℕ). 40 ∷ w) (append_assoc host (44 ∷ user) (44 ∷ 41 ∷ [])))
good_goes Domain host user domain good =
    goes_to (40 ∷ (host ++ (44 ∷ (user ++ (44 ∷ domain))))) (41 ∷ []) host user domain good.0 good.1.0 good.1.1 (sym (regrouped host user domain 41))
good_goes End host user domain good = goes_to (written host user domain) [] host user domain good.0 good.1.0 good.1.1 (append-nil (written host user domain))

reached_goes : (text : List ℕ) (p : Progress) → run start text ≡ Some p → GoesOn text
reached_goes text p h =
    let m = start_moves text p h in
    subst GoesOn m.over (good_goes p.stage p.host p.user p.domain m.good)

-- ---- where reading stops

pub bad_none : (text : List ℕ) (place : ℕ) → IsBadAt text place → triple_in text ≡ None
bad_none text place (inl s) =
    ap triple_in (sym (take-append-drop (place + 1) text)) ∙ ap triple_by (steps.stops_all step start text place s (drop (place + 1) text))
bad_none text place (inr e) = ap triple_by e.whole ∙ e.none

not_both : (o : Option Triple) (triple : Triple) → o ≡ Some triple → o ≡ None → ⊥
not_both o triple p q = absurd cc

pub first_bad : (text : List ℕ) (place : ℕ) → IsBadAt text place → IsFirstBad text place
first_bad text place bad =
    steps.first_bad step ended Spells start reached_goes (λ t triple s. (at s.host s.user s.domain End, spelled_run t triple s, ap Some (sym s.meaning))) text place bad

one_triple : (o : Option Triple) (a b : Triple) → o ≡ Some a → o ≡ Some b → a ≡ b
one_triple o a b p q = let e : Some a ≡ Some b = sym p ∙ q in cc

pub reads_all : (text : List ℕ) (answer : Result Triple TripleFault) → ((triple : Triple) → answer ≡ Ok triple → triple_in text ≡ Some triple) → ((place : ℕ) → answer ≡ Err (faults.BadTriple place) → triple_in text ≡ None) → (triple : Triple) → Spells text triple → Reads answer triple
reads_all text (Ok read) made bad triple spelled = one_triple (triple_in text) read triple (made read refl) (spelled_in text triple spelled)
reads_all text (Err (faults.BadTriple place)) made bad triple spelled = not_both (triple_in text) triple (spelled_in text triple spelled) (bad place refl)
reads_all text (Err faults.Memory) made bad triple spelled = tt

pub made_spelled : (text : List ℕ) (answer : Result Triple TripleFault) → IfOk answer (λ triple. triple_in text ≡ Some triple) → IfOk answer (λ triple. Spells text triple)
made_spelled text (Ok triple) made = in_spelled text triple made
made_spelled text (Err fault) made = tt

pub made_at : (text : List ℕ) (answer : Result Triple TripleFault) → IfOk answer (λ triple. triple_in text ≡ Some triple) → (triple : Triple) → answer ≡ Ok triple → triple_in text ≡ Some triple
made_at text (Ok read) made triple h = let same : read ≡ triple = cc in subst (λ (t : Triple). triple_in text ≡ Some t) same made
made_at text (Err fault) made triple h = absurd cc
