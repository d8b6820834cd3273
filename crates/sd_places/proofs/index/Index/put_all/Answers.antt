use Rattle.std.proofs.Common.{◌+◌, ℕ, List, drop, slice_index_or, sym, ap, ◌∙◌}
use Rattle.std.proofs.lemmas.List.{drop_more}
use Rattle.sd_places.specs.Index.{with_numbers}
use Rattle.sd_places.proofs.Indexing.{still_more}
use Rattle.sd_places.proofs.index.Index.put_all.Goals as goal

pub loop-number-preserved : goal.loop-number-preserved
loop-number-preserved c =
    let i : ℕ = c.loop-number.number-index in
    let ns : List ℕ = c.args.numbers.now in
    record {
      left = ap (λ (bs : List (List ℕ)). with_numbers bs c.args.place (drop (i + 1) ns)) c.in_ok-put.ensures.ok
          ∙ (sym (ap (λ (ks : List ℕ). with_numbers c.loop-number.self c.args.place ks) (drop_more ns i 0 c.loop-number-test.true)) ∙ c.loop-number.invariant.left);
      still = λ slots at is. still_more c.loop-number.self c.put.new.self slots c.args.place (slice_index_or ns i 0) c.in_ok-put.ensures.ok at (c.loop-number.invariant.still slots at is);
    }
