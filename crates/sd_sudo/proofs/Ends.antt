-- Endings of the tool, by what the inputs tell.
use Rattle.std.specs.Prelude.{IfSome}
use Rattle.std.specs.Io.KnownBytes.{Appends}
use Rattle.std.proofs.Common.{◌≡◌, ◌≢◌, ℕ, List, Option, Some, Result, refl, sym, subst, arith}
use Rattle.sd_ldap.specs.declared.entry.DirEntry.{DirEntry}
use Rattle.sd_places.specs.Keeping.{kept}
use Rattle.sd_tools.specs.declared.endings.TheConstants.{WRITE_FAULT}
use Rattle.sd_inputs.specs.declared.inputs.Inputs.{Inputs}
use Rattle.sd_inputs.specs.declared.inputs.Stop.TheVariants as stops
use Rattle.sd_inputs.specs.Inputs.{AreInputs, StopsAt}
use Rattle.sd_netgroup.proofs.Tools as tools
use Rattle.sd_sudo.specs.declared.answer.Answer.{Answer}
use Rattle.sd_sudo.specs.declared.lookups.Halt.{Halt}
use Rattle.sd_sudo.specs.declared.tool.TheConstants.{NO_USER}
use Rattle.sd_sudo.specs.Answering.{IsOutcome}
use Rattle.sd_sudo.specs.Endings.{Tells, Ends, IsEnding, OfInputs}

-- want of memory has no cause
pub no_cause : (conf ldif : Option (List ℕ)) → IfSome conf (λ c. IfSome ldif (λ l. StopsAt stops.Memory c l))
no_cause conf ldif = tools.no_cause conf ldif

-- what was read, and what it comes to
pub read_ends : (conf ldif : Option (List ℕ)) (inputs : Inputs) (user : List ℕ) (status : ℕ) (output : List ℕ) → IfSome conf (λ c. IfSome ldif (λ l. AreInputs c l inputs)) → ((c l : List ℕ) → AreInputs c l inputs → Ends user c l status output)
    → IfSome conf (λ c. IfSome ldif (λ l. Ends user c l status output))
read_ends conf ldif inputs user status output h f = tools.told_by conf ldif (λ c l. AreInputs c l inputs) (λ c l. Ends user c l status output) h f

-- an outcome over the entries that were read
pub tells : (conf ldif user : List ℕ) (inputs : Inputs) (read : List DirEntry) (outcome : Result Answer Halt) → read ≡ inputs.entries → IsOutcome inputs.config (kept read) user outcome → AreInputs conf ldif inputs → Tells conf ldif user outcome
tells conf ldif user inputs read outcome same is are = record {
  config = inputs.config;
  entries = kept inputs.entries;
  reads = record { is_config = are.is_config; read = inputs.entries; are_read = are.are_entries; keeps = refl };
  is = subst (λ (es : List DirEntry). IsOutcome inputs.config (kept es) user outcome) same is;
}

-- an ending that was written
pub ends_told : (asked : Option (List ℕ)) (conf ldif held held' : Option (List ℕ)) (user : List ℕ) (status result : ℕ) (output : List ℕ) → Some user ≡ asked → IfSome conf (λ c. IfSome ldif (λ l. Ends user c l status output))
    → (result ≡ status) × Appends held held' output → OfInputs asked conf ldif (λ u c l. (x : List ℕ) × Ends u c l result x × Appends held held' x)
ends_told asked conf ldif held held' user status result output is h w =
    subst (λ (o : Option (List ℕ)). OfInputs o conf ldif (λ u c l. (x : List ℕ) × Ends u c l result x × Appends held held' x)) is
    (tools.told_by conf ldif (λ c l. Ends user c l status output) (λ c l. (x : List ℕ) × Ends user c l result x × Appends held held' x) h
    (λ c l e. (output, subst (λ (n : ℕ). Ends user c l n output) (sym w.0) e, w.1)))

pub not_written : (status : ℕ) → IsEnding status → status ≢ WRITE_FAULT
not_written status e = tools.none_written NO_USER status (λ f. omega arith) e
