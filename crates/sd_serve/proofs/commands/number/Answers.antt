use Rattle.std.proofs.Common.{◌≡◌, ◌≢◌, Bool, true, None, map, subst, ◌≤◌, length}
use Rattle.std.specs.Prelude.{string_bytes, IfSome}
use Rattle.sd_base.specs.Causes.{Rose}
use Rattle.sd_base.specs.Written.{AppendsFront}
use Rattle.sd_idmap.specs.Endings as ids
use Rattle.sd_idmap.specs.Lines as lines
use Rattle.sd_serve.proofs.Spoken.{is_the_word_of_ids}
use Rattle.sd_serve.proofs.Played.{known_by}
use Rattle.sd_world.specs.declared.endings.TheConstants.{LIMIT}
use Rattle.sd_tools.specs.declared.endings.TheConstants.{DONE, NO_MEMORY}
use Rattle.sd_serve.proofs.commands.number.Goals as goal

pub returns-clause-numbers : goal.returns-clause-numbers
returns-clause-numbers g c =
    let is : ids.is_idmap (map string_bytes c.args.words.now) ≡ true = is_the_word_of_ids (map string_bytes c.args.words.now) c.requires in
    record {
      status_is = c.idmap.ensures.status;
      done = c.idmap.ensures.done;
      bad_line = c.idmap.ensures.bad_line;
      too_long = c.idmap.ensures.too_long;
      front = λ e. subst
          (λ (b : Bool). IfSome (g.S.Source.left c.args.source.now) (λ text. AppendsFront (g.W.Sink.held c.args.sink.now) (g.W.Sink.held c.idmap.new.sink) (ids.ending_by_words b text).output))
          is (c.idmap.ensures.write_fault e).1;
      exactly = subst
          (λ (b : Bool). IfSome (g.S.Source.left c.args.source.now) (λ text. ¬ (Rose (g.S.Source.faults c.args.source.now) (g.S.Source.faults c.idmap.new.source))
          → ¬ (Rose (g.W.Sink.faults c.args.sink.now) (g.W.Sink.faults c.idmap.new.sink)) → c.idmap.result ≢ NO_MEMORY → c.idmap.result ≡ (ids.ending_by_words b text).status))
          is c.idmap.ensures.exactly;
      complete = known_by (g.S.Source.left c.args.source.now)
          (λ text. ids.is_idmap (map string_bytes c.args.words.now) ≡ true → length text ≤ LIMIT → lines.first_bad text ≡ None
          → ¬ (Rose (g.S.Source.faults c.args.source.now) (g.S.Source.faults c.idmap.new.source)) → ¬ (Rose (g.W.Sink.faults c.args.sink.now) (g.W.Sink.faults c.idmap.new.sink))
          → c.idmap.result ≢ NO_MEMORY → c.idmap.result ≡ DONE)
          (λ text. length text ≤ LIMIT → lines.first_bad text ≡ None
          → ¬ (Rose (g.S.Source.faults c.args.source.now) (g.S.Source.faults c.idmap.new.source)) → ¬ (Rose (g.W.Sink.faults c.args.sink.now) (g.W.Sink.faults c.idmap.new.sink))
          → c.idmap.result ≢ NO_MEMORY → c.idmap.result ≡ DONE)
          (λ text f. f is) c.idmap.ensures.complete;
    }
