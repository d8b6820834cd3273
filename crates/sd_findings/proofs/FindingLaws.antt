-- What was found once says of each entry what the journal says.
use Rattle.std.proofs.Common.{◌≡◌, ℕ, Bool, true, false, cond, ◌&&◌, ◌||◌, ◌==◌, nat_lt, List, [], ◌∷◌, ◌++◌, Option, None, Some, refl, ◌∙◌, ap}
use Rattle.std.specs.Option.{option_map}
use Rattle.std.proofs.lemmas.List.Folds.{list_any-append}
use Rattle.sd_rules.specs.declared.replies.Entry.{Entry}
use Rattle.sd_rules.specs.Needed.{is_number, is_number_of, last_where, is_asked_by, is_asked_before, is_after_asking, serves_ticket, serves_waiting}
use Rattle.sd_rules.specs.Past.{Standing}
use Rattle.sd_rules.specs.Requests.{is_open_request, waits_for}
use Rattle.sd_rules.specs.Steps.{is_asking}
use Rattle.sd_cache.specs.Kept.{kept_of}
use Rattle.sd_findings.specs.Findings.{is_number_kept, listed, is_among, has_below, asking_of, askings, closing_for, answer_for, awaited}

or_none : (p : Bool) → (p || false) ≡ p
or_none true = refl
or_none false = refl

or_turned : (p q : Bool) → (p || q) ≡ (q || p)
or_turned true true = refl
or_turned true false = refl
or_turned false true = refl
or_turned false false = refl

-- what the index keeps of the newest answer has its number
pub number_kept : (n : ℕ) (o : Option Standing) → is_number_kept n (option_map kept_of o) ≡ is_number_of n o
number_kept n None = refl
number_kept n (Some a) = refl

below_one : (n : ℕ) (o : Bool) (asking : Option ℕ) → has_below n (listed (cond o asking None)) ≡ (o && is_asked_by asking n)
below_one n true None = refl
below_one n true (Some m) = or_none (nat_lt m n)
below_one n false asking = refl

pub after_asking : (all part : List Entry) (n : ℕ) → has_below n (askings all part) ≡ is_after_asking all n part
after_asking all [] n = refl
after_asking all (e ∷ part) n =
    let own : List ℕ = listed (asking_of all e.number) in
    list_any-append (λ m. nat_lt m n) (askings all part) own
    ∙ or_turned (has_below n (askings all part)) (has_below n own)
    ∙ ap (λ (b : Bool). b || has_below n (askings all part))
    (below_one n (is_open_request all e.number) (last_where (λ (x : Entry). is_asking x e.number) all))
    ∙ ap (λ (b : Bool). (is_open_request all e.number && is_asked_before all e.number n) || b) (after_asking all part n)

among_one : (n : ℕ) (o : Option ℕ) → is_among n (listed o) ≡ is_number n o
among_one n None = refl
among_one n (Some m) = or_none (m == n)

among_two : (all : List Entry) (n : ℕ) (request : Option ℕ) → (is_among n (listed (closing_for all request)) || is_among n (listed (answer_for all request))) ≡ serves_ticket all n request
among_two all n None = refl
among_two all n (Some request) =
    ap (λ (b : Bool). b || is_among n (listed (answer_for all (Some request)))) (among_one n (closing_for all (Some request)))
    ∙ ap (λ (b : Bool). is_number n (closing_for all (Some request)) || b) (among_one n (answer_for all (Some request)))

or_moved : (p q r : Bool) → ((p || q) || r) ≡ ((q || r) || p)
or_moved true true true = refl
or_moved true true false = refl
or_moved true false true = refl
or_moved true false false = refl
or_moved false true r = refl
or_moved false false true = refl
or_moved false false false = refl

pub among_awaited : (all part : List Entry) (n : ℕ) → is_among n (awaited all part) ≡ serves_waiting all n part
among_awaited all [] n = refl
among_awaited all (e ∷ part) n =
    let closing : List ℕ = listed (closing_for all (waits_for all e.number)) in
    let answer : List ℕ = listed (answer_for all (waits_for all e.number)) in
    let rest : Bool = is_among n (awaited all part) in
    list_any-append (λ m. m == n) (awaited all part ++ closing) answer
    ∙ ap (λ (b : Bool). b || is_among n answer) (list_any-append (λ m. m == n) (awaited all part) closing)
    ∙ or_moved rest (is_among n closing) (is_among n answer)
    ∙ ap (λ (b : Bool). b || rest) (among_two all n (waits_for all e.number))
    ∙ ap (λ (b : Bool). serves_ticket all n (waits_for all e.number) || b) (among_awaited all part n)
