-- Endings of the tools, by what the inputs tell.
use Rattle.std.specs.Prelude.{IfSome}
use Rattle.std.specs.Io.KnownBytes.{Appends}
use Rattle.std.proofs.Common.{◌≡◌, ◌≢◌, ◌⊎◌, ℕ, List, Option, Some, None, refl, sym, subst, ◌∙◌, inl, inr, arith}
use Rattle.sd_ldap.specs.declared.entry.DirEntry.{DirEntry}
use Rattle.sd_places.specs.Keeping.{kept}
use Rattle.sd_tools.specs.declared.endings.TheConstants.{DONE, TOO_LONG, WRITE_FAULT}
use Rattle.sd_inputs.specs.declared.endings.TheConstants.{REFUSED}
use Rattle.sd_inputs.specs.declared.inputs.Inputs.{Inputs}
use Rattle.sd_inputs.specs.declared.inputs.Stop.TheVariants as stops
use Rattle.sd_inputs.specs.Inputs.{AreInputs, StopsAt}
use Rattle.sd_netgroup.specs.declared.directory.Answer.{Answer}
use Rattle.sd_netgroup.specs.declared.tool.TheConstants.{NO_NETGROUP, DIRECTORY_LIMIT}
use Rattle.sd_netgroup.specs.declared.words.Question.{Question}
use Rattle.sd_netgroup.specs.Endings.{IsAnswer, Tells, Ends, IsEnding, OfInputs}

-- want of memory has no cause
pub no_cause : (conf ldif : Option (List ℕ)) → IfSome conf (λ c. IfSome ldif (λ l. StopsAt stops.Memory c l))
no_cause None ldif = tt
no_cause (Some c) None = tt
no_cause (Some c) (Some l) = tt

-- what follows from a fact of both texts
pub told_by : (conf ldif : Option (List ℕ)) (P R : List ℕ → List ℕ → Type 0) → IfSome conf (λ c. IfSome ldif (λ l. P c l)) → ((c l : List ℕ) → P c l → R c l) → IfSome conf (λ c. IfSome ldif (λ l. R c l))
told_by None ldif P R h f = tt
told_by (Some c) None P R h f = tt
told_by (Some c) (Some l) P R h f = f c l h

-- what was read, and what it comes to
pub read_ends : (conf ldif : Option (List ℕ)) (inputs : Inputs) (q : Question) (status : ℕ) (output : List ℕ) → IfSome conf (λ c. IfSome ldif (λ l. AreInputs c l inputs))
    → ((c l : List ℕ) → AreInputs c l inputs → Ends q c l status output) → IfSome conf (λ c. IfSome ldif (λ l. Ends q c l status output))
read_ends conf ldif inputs q status output h f = told_by conf ldif (λ c l. AreInputs c l inputs) (λ c l. Ends q c l status output) h f

-- an answer over the entries that were read
pub tells : (conf ldif : List ℕ) (q : Question) (inputs : Inputs) (read : List DirEntry) (answer : Answer) → read ≡ inputs.entries → IsAnswer (kept read) inputs.config.base q.name answer
    → AreInputs conf ldif inputs → Tells conf ldif q answer
tells conf ldif q inputs read answer same is are = record {
  config = inputs.config;
  entries = kept inputs.entries;
  reads = record { is_config = are.is_config; read = inputs.entries; are_read = are.are_entries; keeps = refl };
  is = subst (λ (es : List DirEntry). IsAnswer (kept es) inputs.config.base q.name answer) same is;
}

-- an ending that was written
pub ends_told : (question : Option Question) (conf ldif held held' : Option (List ℕ)) (q : Question) (status result : ℕ) (output : List ℕ) → Some q ≡ question → IfSome conf (λ c. IfSome ldif (λ l. Ends q c l status output))
    → (result ≡ status) × Appends held held' output → OfInputs question conf ldif (λ q c l. (x : List ℕ) × Ends q c l result x × Appends held held' x)
ends_told question conf ldif held held' q status result output asked h w =
    subst (λ (o : Option Question). OfInputs o conf ldif (λ q c l. (x : List ℕ) × Ends q c l result x × Appends held held' x)) asked
    (told_by conf ldif (λ c l. Ends q c l status output) (λ c l. (x : List ℕ) × Ends q c l result x × Appends held held' x) h
    (λ c l e. (output, subst (λ (n : ℕ). Ends q c l n output) (sym w.0) e, w.1)))

-- none of the statuses of an ending is that of a fault in writing, where the tool's own is not
pub none_written : (own status : ℕ) → own ≢ WRITE_FAULT → (status ≡ DONE) ⊎ ((status ≡ own) ⊎ ((status ≡ DIRECTORY_LIMIT) ⊎ ((status ≡ TOO_LONG) ⊎ (status ≡ REFUSED)))) → status ≢ WRITE_FAULT
none_written own status apart (inl e) = λ f. omega arith
none_written own status apart (inr (inl e)) = λ f. apart (sym e ∙ f)
none_written own status apart (inr (inr (inl e))) = λ f. omega arith
none_written own status apart (inr (inr (inr (inl e)))) = λ f. omega arith
none_written own status apart (inr (inr (inr (inr e)))) = λ f. omega arith

pub not_written : (status : ℕ) → IsEnding status → status ≢ WRITE_FAULT
not_written status e = none_written NO_NETGROUP status (λ f. omega arith) e
