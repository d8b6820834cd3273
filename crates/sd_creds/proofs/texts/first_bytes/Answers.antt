use Rattle.std.proofs.Common.{◌≡◌, ◌++◌, ◌∷◌, [], List, arith, refl, sym, ap, ◌∙◌, slice_index}
use Rattle.std.proofs.lemmas.List.{length-replicate, length-set, take_all, take_more, take_more_set}
use Rattle.sd_creds.proofs.texts.first_bytes.Goals as goal

pub loop-place-init : goal.loop-place-init
loop-place-init g c = (length-replicate _ _, refl)

pub loop-place-preserved : goal.loop-place-preserved
loop-place-preserved g c =
    let len = c.loop-place.invariant.0 in
    let byte = slice_index c.args.room.now c.loop-place.place in (
      length-set _ _ _ ∙ len,
      take_more_set c.loop-place.bytes c.loop-place.place byte (omega arith)
          ∙ ap (λ (l : List _). l ++ byte ∷ []) c.loop-place.invariant.1
          ∙ sym (take_more c.args.room.now c.loop-place.place 0 (omega arith)),
    )

pub returns : goal.returns
returns g c =
    let len = c.loop-place.invariant.0 in
    let done = c.loop-place.auto.place-end in
    let all : c.loop-place.place ≡ g.row.N = omega arith in
    sym (take_all g.row.N c.loop-place.bytes (omega arith)) ∙ rw all at c.loop-place.invariant.1
