use Rattle.std.proofs.Common.{◌≡◌, ◌<◌, true, length, sym, ap, ◌∙◌, arith}
use Rattle.sd_dn.specs.Comparing.{same_text}
use Rattle.sd_ldap.specs.declared.entry.Attribute.{Attribute}
use Rattle.std.proofs.Common.{ℕ, List}
use Rattle.sd_ldif.proofs.Placing.{put_there, one_there}
use Rattle.sd_ldif.proofs.records.put.Goals as goal

pub returns-then-same_text : goal.returns-then-same_text
returns-then-same_text c =
    let items = c.loop-place.attributes.items in
    let same = c.loop-place.invariant.same in
    let within : c.loop-place.place < length items = omega (arith, c.loop-place-test.true, c.len-place-end.ensures, ap length same) in
    let found : c.index.result.now ≡ c.index_mut.result.now = one_there items c.loop-place.place c.index.result.now c.index_mut.result.now within c.index.ensures c.index_mut.ensures.value in
    let named : same_text c.index_mut.result.now.name c.args.name.now ≡ true =
    sym (sym c.if-same_text.true ∙ (c.same_text.ensures ∙ (ap (λ (w : List ℕ). same_text w c.args.name.now) c.bytes.ensures ∙ ap (λ (a : Attribute). same_text a.name c.args.name.now) found))) in
    put_there c.push.result items c.args.attributes.now.items c.loop-place.place c.index_mut.result.now c.args.name.now c.args.value c.push.new.self
    c.push.ensures.ok within c.index_mut.ensures.value named same c.loop-place.invariant.passed
