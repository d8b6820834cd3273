use Rattle.std.proofs.Common.{◌≡◌, ℕ, List, true, ap, ◌∙◌, rules}
use Rattle.sd_ldap.specs.Values.{search_value}
use Rattle.sd_places.specs.Numbers.{value_number}
use Rattle.sd_places.proofs.Near.{value_all}
use Rattle.sd_places.proofs.narrowing.narrowed.Goals as goal

pub returns : goal.returns
returns c =
    let sure : c.is_sure.result ≡ true = search rules in
    let at : c.in_ok-number.number ≡ value_number c.args.name.now c.args.value.now =
    c.in_ok-number.ensures ∙ ap (λ (n : List ℕ). value_number n c.bytes-2.result.now) c.bytes.ensures ∙ ap (λ (v : List ℕ). value_number c.args.name.now v) c.bytes-2.ensures in
    value_all c.args.index.now c.args.slots.now (search_value c.args.request.now) c.args.name.now c.args.value.now c.in_ok-number.number c.places.ensures.some c.requires.index at c.if-number-eq0.false
    (c.is_sure.ensures sure) c.requires.implied
