use Rattle.std.proofs.Common.{[], ◌∷◌, Some, sym, subst}
use Rattle.sd_nested.specs.declared.rounds.Direction.{Direction}
use Rattle.sd_nested.specs.Searches.{entry_at, holders_of}
use Rattle.sd_nested.specs.Asking.{Exchanged, stop_of}
use Rattle.sd_nested.specs.Directions.{question_by}
use Rattle.sd_nested.proofs.Exchanges.{asked_once}
use Rattle.sd_nested.proofs.rounds.ask.Goals as goal

pub returns-in-Members-clause-exchanged : goal.returns-in-Members-clause-exchanged
returns-in-Members-clause-exchanged g c =
    subst (λ (d : Direction). Exchanged g.S.Searcher.went c.args.searcher.now c.read.new.self (stop_of c.given.result) (Some (question_by d c.args.dn.now ∷ []))) (sym c.in-Members.is)
    (asked_once g.S.Searcher.went c.args.searcher.now c.read.new.self c.given.result (entry_at c.args.dn.now) c.read.result c.read.ensures.went c.given.ensures c.read.ensures.code)

pub returns-in-Holders-clause-exchanged : goal.returns-in-Holders-clause-exchanged
returns-in-Holders-clause-exchanged g c =
    subst (λ (d : Direction). Exchanged g.S.Searcher.went c.args.searcher.now c.holders.new.self (stop_of c.given-in-Holders.result) (Some (question_by d c.args.dn.now ∷ []))) (sym c.in-Holders.is)
    (asked_once g.S.Searcher.went c.args.searcher.now c.holders.new.self c.given-in-Holders.result (holders_of c.args.dn.now) c.holders.result c.holders.ensures.went c.given-in-Holders.ensures c.holders.ensures.code)
