use Rattle.std.proofs.Common.{subst, List, ℕ}
use Rattle.std.specs.Prelude.{Result}
use Rattle.sd_ldap.specs.declared.entry.DirEntry.{DirEntry}
use Rattle.sd_ldif.specs.declared.LdifFault.{LdifFault}
use Rattle.sd_ldif.specs.Lines.{lines_of}
use Rattle.sd_ldif.specs.Records.{Answers, ldif_of}
use Rattle.sd_ldif.specs.Reading.{run_all}
use Rattle.sd_ldif.proofs.Grammar.{reads_ldif}
use Rattle.sd_ldif.proofs.LawProofs.{gives, refuses}
use Rattle.sd_ldif.proofs.reading.read_ldif.Goals as goal

exact : (text : List ℕ) (answer : Result (List DirEntry) LdifFault) → Answers (λ es. es) answer (run_all (lines_of text)) → Answers (λ es. es) answer (ldif_of text)
exact text answer a = subst (λ (said : Result (List DirEntry) LdifFault). Answers (λ es. es) answer said) (reads_ldif text) a

pub returns-clause-exact : goal.returns-clause-exact
returns-clause-exact c = exact c.args.text.now c.read_lines.result c.read_lines.ensures

pub returns-clause-entries : goal.returns-clause-entries
returns-clause-entries c = gives c.args.text.now c.read_lines.result (exact c.args.text.now c.read_lines.result c.read_lines.ensures)

pub returns-clause-refused : goal.returns-clause-refused
returns-clause-refused c = refuses c.args.text.now c.read_lines.result (exact c.args.text.now c.read_lines.result c.read_lines.ensures)
