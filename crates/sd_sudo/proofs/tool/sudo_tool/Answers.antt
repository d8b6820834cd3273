use Rattle.std.specs.Io.KnownBytes.{Appends}
use Rattle.std.proofs.Common.{ℕ, List, sym, ◌∙◌, subst}
use Rattle.sd_sudo.proofs.Ends.{ends_told, not_written}
use Rattle.sd_sudo.proofs.tool.sudo_tool.Goals as goal

pub returns-in-Ok-clause-ends : goal.returns-in-Ok-clause-ends
returns-in-Ok-clause-ends g c = λ ended.
    let w = c.end-in-Ok.ensures.written (not_written c.end-in-Ok.result ended) in
    ends_told _ (g.S.Source.left c.args.conf.now) (g.S.Source.left c.args.ldif.now) (g.W.Sink.held c.args.sink.now) (g.W.Sink.held c.end-in-Ok.new.sink) c.in-Ok-Some.user c.in-Ok.ending.status c.end-in-Ok.result c.in-Ok.ending.output
    (sym c.in-Ok-Some.field-0-is ∙ c.in-Ok-Some.ensures) c.in-Ok.ensures.ends
    (w.0, subst (λ (output : List ℕ). Appends (g.W.Sink.held c.args.sink.now) (g.W.Sink.held c.end-in-Ok.new.sink) output) c.bytes.ensures w.1)
