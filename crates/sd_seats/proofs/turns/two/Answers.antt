use Rattle.std.proofs.Common.{rules, ◌≡◌, ℕ, ◌++◌, map, IfOk, sym, ap, ◌∙◌, subst}
use Rattle.std.proofs.lemmas.List.{map-id}
use Rattle.sd_turn.specs.Counts.{occurrences, AreAllBetween}
use Rattle.sd_turn.specs.Seats.{opening, mine}
use Rattle.sd_seats.proofs.turns.two.Goals as goal

pub returns : goal.returns
returns g c n = let seat = c.join.new.seat in
    let begin : ℕ = (opening c.in_ok-turn.turn).next in
    let one : begin ≡ 1 = search rules in
    let own : mine seat ≡ c.in_ok-ones.field-0.items ++ c.in_ok-others.field-0.items = search rules in
    let all : AreAllBetween begin c.unwrap-value.result.next (map (λ (e : ℕ). e) (mine seat)) = subst (λ r. IfOk r (λ v. AreAllBetween begin v.next (map (λ (e : ℕ). e) (mine seat)))) c.unwrap-value.ensures (c.close.ensures.all (search rules) (search rules)) in
    ap (occurrences n) (sym own ∙ sym (map-id (mine seat))) ∙ subst (λ b. AreAllBetween b c.unwrap-value.result.next (map (λ (e : ℕ). e) (mine seat))) one all n
