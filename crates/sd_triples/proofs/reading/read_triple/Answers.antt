use Rattle.sd_triples.proofs.Spelled.{made_spelled, first_bad, bad_none, reads_all, made_at}
use Rattle.sd_triples.proofs.reading.read_triple.Goals as goal

pub returns-clause-read : goal.returns-clause-read
returns-clause-read c = made_spelled c.args.text.now c.read_text.result c.read_text.ensures.made

pub returns-clause-all : goal.returns-clause-all
returns-clause-all c =
    reads_all c.args.text.now c.read_text.result
    (made_at c.args.text.now c.read_text.result c.read_text.ensures.made)
    (λ place h. bad_none c.args.text.now place (c.read_text.ensures.bad place h))

pub returns-clause-bad : goal.returns-clause-bad
returns-clause-bad c = λ place h. first_bad c.args.text.now place (c.read_text.ensures.bad place h)

pub returns-clause-none : goal.returns-clause-none
returns-clause-none c = λ place h. bad_none c.args.text.now place (c.read_text.ensures.bad place h)
