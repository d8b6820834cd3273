use Rattle.std.proofs.Common.{◌≡◌, ◌≢◌, Bool, true, None, map, subst, ◌≤◌, length}
use Rattle.std.specs.Prelude.{string_bytes, IfSome}
use Rattle.sd_base.specs.Causes.{Rose}
use Rattle.sd_base.specs.Written.{AppendsFront}
use Rattle.sd_layout.specs.Faults as lines
use Rattle.sd_scenario.specs.Endings as ends
use Rattle.sd_tools.specs.declared.endings.TheConstants.{NO_MEMORY}
use Rattle.sd_world.specs.Endings as played
use Rattle.sd_world.specs.Transcript as script
use Rattle.sd_world.specs.declared.endings.TheConstants.{LIMIT}
use Rattle.sd_serve.proofs.Spoken.{is_the_word}
use Rattle.sd_serve.proofs.Played.{known_by}
use Rattle.sd_serve.proofs.commands.play.Goals as goal

pub returns-clause-plays : goal.returns-clause-plays
returns-clause-plays g c =
    let is : ends.is_scenario (map string_bytes c.args.words.now) ≡ true = is_the_word (map string_bytes c.args.words.now) c.requires in
    record {
      status_is = c.scenario.ensures.status;
      done = c.scenario.ensures.done;
      bad_line = c.scenario.ensures.bad_line;
      journal_full = c.scenario.ensures.journal_full;
      too_long = c.scenario.ensures.too_long;
      front = λ e. subst
          (λ (b : Bool). IfSome (g.S.Source.left c.args.source.now) (λ text. AppendsFront (g.W.Sink.held c.args.sink.now) (g.W.Sink.held c.scenario.new.sink) (ends.ending_by_words b text).output))
          is (c.scenario.ensures.write_fault e).1;
      exactly = subst
          (λ (b : Bool). IfSome (g.S.Source.left c.args.source.now) (λ text. ¬ (Rose (g.S.Source.faults c.args.source.now) (g.S.Source.faults c.scenario.new.source))
          → ¬ (Rose (g.W.Sink.faults c.args.sink.now) (g.W.Sink.faults c.scenario.new.sink)) → c.scenario.result ≢ NO_MEMORY → c.scenario.result ≡ (ends.ending_by_words b text).status))
          is c.scenario.ensures.exactly;
      complete = known_by (g.S.Source.left c.args.source.now)
          (λ text. ends.is_scenario (map string_bytes c.args.words.now) ≡ true → length text ≤ LIMIT → lines.first_bad text ≡ None
          → ¬ (Rose (g.S.Source.faults c.args.source.now) (g.S.Source.faults c.scenario.new.source)) → ¬ (Rose (g.W.Sink.faults c.args.sink.now) (g.W.Sink.faults c.scenario.new.sink))
          → c.scenario.result ≢ NO_MEMORY → c.scenario.result ≡ played.status_by_journal (script.transcript text).is_full)
          (λ text. length text ≤ LIMIT → lines.first_bad text ≡ None
          → ¬ (Rose (g.S.Source.faults c.args.source.now) (g.S.Source.faults c.scenario.new.source)) → ¬ (Rose (g.W.Sink.faults c.args.sink.now) (g.W.Sink.faults c.scenario.new.sink))
          → c.scenario.result ≢ NO_MEMORY → c.scenario.result ≡ played.status_by_journal (script.transcript text).is_full)
          (λ text f. f is) c.scenario.ensures.complete;
    }
