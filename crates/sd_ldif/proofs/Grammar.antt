-- Reading unfolded lines reads the records that they are.
use Rattle.std.proofs.Common.{◌≡◌, ℕ, Bool, true, false, not, cond, List, [], ◌∷◌, ◌++◌, filter, Some, None, refl, sym, ap, ◌∙◌, append_assoc}
use Rattle.std.specs.Prelude.{Result, Ok, Err}
use Rattle.std.specs.List.{slice_split, onto_first}
use Rattle.std.proofs.lemmas.List.{append-nil}
use Rattle.std.proofs.lemmas.List.Splits.{slice_split-cons_yes, slice_split-cons_no}
use Rattle.sd_ldap.specs.declared.entry.Attribute.{Attribute}
use Rattle.sd_ldap.specs.declared.entry.DirEntry.{DirEntry}
use Rattle.sd_ldif.specs.declared.LdifFault.{LdifFault}
use Rattle.sd_ldif.specs.Lines.{Line, lines_of, unfolded, numbered_from}
use Rattle.sd_ldif.specs.Forms.{is_empty, is_passed}
use Rattle.sd_ldif.specs.Records.{◌>>=◌, all_of, Pair, dn_of, pair_of, attributes_of, entry, record_of, has_lines, parts, counted, records_in, ldif_of}
use Rattle.sd_ldif.specs.Reading.{State, state, step, taken, parted, with_draft, draft_of, draft_with, with_value, begun, run_all}
use Rattle.sd_ldif.proofs.Merging.{if_true, if_false, one_value_more}
use Rattle.sd_ldif.proofs.Unfolding.{read_on, run_is}

-- ---- steps

step_passed : (s : State) (l : Line) → is_passed l ≡ true → step s l ≡ Ok s
step_passed s l h = if_true (is_passed l) (Ok s) (cond (is_empty l.text) (Ok (parted s)) (taken s.entries s.draft l)) h

step_parted : (s : State) (l : Line) → is_passed l ≡ false → is_empty l.text ≡ true → step s l ≡ Ok (parted s)
step_parted s l h k = if_false (is_passed l) (Ok s) (cond (is_empty l.text) (Ok (parted s)) (taken s.entries s.draft l)) h ∙ if_true (is_empty l.text) (Ok (parted s)) (taken s.entries s.draft l) k

step_taken : (s : State) (l : Line) → is_passed l ≡ false → is_empty l.text ≡ false → step s l ≡ taken s.entries s.draft l
step_taken s l h k = if_false (is_passed l) (Ok s) (cond (is_empty l.text) (Ok (parted s)) (taken s.entries s.draft l)) h ∙ if_false (is_empty l.text) (Ok (parted s)) (taken s.entries s.draft l) k

-- ---- the groups of lines between empty lines

abbrev groups : List Line → List (List Line)
groups ls = slice_split parts (counted ls)

counted_passed : (l : Line) (ls : List Line) → is_passed l ≡ true → counted (l ∷ ls) ≡ counted ls
counted_passed l ls h = if_false (not (is_passed l)) (l ∷ counted ls) (counted ls) (ap not h)

counted_kept : (l : Line) (ls : List Line) → is_passed l ≡ false → counted (l ∷ ls) ≡ l ∷ counted ls
counted_kept l ls h = if_true (not (is_passed l)) (l ∷ counted ls) (counted ls) (ap not h)

groups_passed : (l : Line) (ls : List Line) → is_passed l ≡ true → groups (l ∷ ls) ≡ groups ls
groups_passed l ls h = ap (slice_split parts) (counted_passed l ls h)

groups_parted : (l : Line) (ls : List Line) → is_passed l ≡ false → is_empty l.text ≡ true → groups (l ∷ ls) ≡ [] ∷ groups ls
groups_parted l ls h k = ap (slice_split parts) (counted_kept l ls h) ∙ slice_split-cons_yes parts l (counted ls) k

groups_grown : (l : Line) (ls : List Line) → is_passed l ≡ false → is_empty l.text ≡ false → groups (l ∷ ls) ≡ onto_first l (groups ls)
groups_grown l ls h k = ap (slice_split parts) (counted_kept l ls h) ∙ slice_split-cons_no parts l (counted ls) k

-- ---- what records give behind entries

abbrev behind : List DirEntry → Result (List DirEntry) LdifFault → Result (List DirEntry) LdifFault
behind done more = more >>= λ es. Ok (done ++ es)

abbrev entries_of : List (List Line) → Result (List DirEntry) LdifFault
entries_of gs = all_of record_of (filter has_lines gs)

-- a record at hand, of which more lines are to come, and the records behind it
abbrev drafted : List DirEntry → List ℕ → List Pair → Result (List Pair) LdifFault → Result (List DirEntry) LdifFault → Result (List DirEntry) LdifFault
drafted done dn ps more es = more >>= λ qs. behind (done ++ entry dn (attributes_of (ps ++ qs)) ∷ []) es

abbrev goes_on : List DirEntry → List ℕ → List Pair → List (List Line) → Result (List DirEntry) LdifFault
goes_on done dn ps [] = drafted done dn ps (Ok []) (Ok [])
goes_on done dn ps (g ∷ gs) = drafted done dn ps (all_of pair_of g) (entries_of gs)

joined : (done : List DirEntry) (e : DirEntry) (es : Result (List DirEntry) LdifFault) → behind (done ++ e ∷ []) es ≡ behind done (es >>= λ xs. Ok (e ∷ xs))
joined done e (Ok xs) = ap (λ (w : List DirEntry). Ok w) (append_assoc done (e ∷ []) xs)
joined done e (Err fault) = refl

begun_record : (done : List DirEntry) (dn : List ℕ) (more : Result (List Pair) LdifFault) (es : Result (List DirEntry) LdifFault)
    → drafted done dn [] more es ≡ behind done ((more >>= λ ps. Ok (entry dn (attributes_of ps))) >>= λ e. es >>= λ xs. Ok (e ∷ xs))
begun_record done dn (Ok ps) es = joined done (entry dn (attributes_of ps)) es
begun_record done dn (Err fault) es = refl

-- a record that begins
begins : (done : List DirEntry) (dn : Result (List ℕ) LdifFault) (more : Result (List Pair) LdifFault) (es : Result (List DirEntry) LdifFault)
    → (dn >>= λ d. drafted done d [] more es) ≡ behind done ((dn >>= λ d. more >>= λ ps. Ok (entry d (attributes_of ps))) >>= λ e. es >>= λ xs. Ok (e ∷ xs))
begins done (Ok dn) more es = begun_record done dn more es
begins done (Err fault) more es = refl

begins_on : (done : List DirEntry) (l : Line) (gs : List (List Line)) → (dn_of l >>= λ dn. goes_on done dn [] gs) ≡ behind done (entries_of (onto_first l gs))
begins_on done l [] = begins done (dn_of l) (Ok []) (Ok [])
begins_on done l (g ∷ gs) = begins done (dn_of l) (all_of pair_of g) (entries_of gs)

moved : (done : List DirEntry) (dn : List ℕ) (ps : List Pair) (p : Pair) (more : Result (List Pair) LdifFault) (es : Result (List DirEntry) LdifFault)
    → drafted done dn (ps ++ p ∷ []) more es ≡ drafted done dn ps (more >>= λ qs. Ok (p ∷ qs)) es
moved done dn ps p (Ok qs) es = ap (λ (w : List Pair). behind (done ++ entry dn (attributes_of w) ∷ []) es) (append_assoc ps (p ∷ []) qs)
moved done dn ps p (Err fault) es = refl

-- a record that goes on
grows : (done : List DirEntry) (dn : List ℕ) (ps : List Pair) (pair : Result Pair LdifFault) (more : Result (List Pair) LdifFault) (es : Result (List DirEntry) LdifFault)
    → (pair >>= λ p. drafted done dn (ps ++ p ∷ []) more es) ≡ drafted done dn ps (pair >>= λ p. more >>= λ qs. Ok (p ∷ qs)) es
grows done dn ps (Ok p) more es = moved done dn ps p more es
grows done dn ps (Err fault) more es = refl

grows_on : (done : List DirEntry) (dn : List ℕ) (ps : List Pair) (l : Line) (gs : List (List Line)) → (pair_of l >>= λ p. goes_on done dn (ps ++ p ∷ []) gs) ≡ goes_on done dn ps (onto_first l gs)
grows_on done dn ps l [] = grows done dn ps (pair_of l) (Ok []) (Ok [])
grows_on done dn ps l (g ∷ gs) = grows done dn ps (pair_of l) (all_of pair_of g) (entries_of gs)

-- ---- reading

abbrev Says : Type 0
Says = Result (List DirEntry) LdifFault

then_begun : (done : List DirEntry) (dn : Result (List ℕ) LdifFault) (f : State → Says) (g : List ℕ → Says) → ((d : List ℕ) → f (state done (Some (entry d []))) ≡ g d) → (with_draft done (draft_of dn) >>= f) ≡ (dn >>= g)
then_begun done (Ok d) f g e = e d
then_begun done (Err fault) f g e = refl

then_grown : (done : List DirEntry) (draft : DirEntry) (pair : Result Pair LdifFault) (f : State → Says) (g : Pair → Says) → ((p : Pair) → f (state done (Some (entry draft.dn (with_value p draft.attributes)))) ≡ g p) → (with_draft done (draft_with draft pair) >>= f) ≡ (pair >>= g)
then_grown done draft (Ok p) f g e = e p
then_grown done draft (Err fault) f g e = refl

-- what is read of lines with no record at hand, and with one
pub record Reads (ls : List Line) : Type 0 where
  pub none : (done : List DirEntry) → read_on (state done None) ls ≡ behind done (entries_of (groups ls))
  pub some : (done : List DirEntry) (dn : List ℕ) (ps : List Pair) → read_on (state done (Some (entry dn (attributes_of ps)))) ls ≡ goes_on done dn ps (groups ls)

abbrev on : List Line → Result State LdifFault → Says
on ls r = r >>= λ s. read_on s ls

reads_passed : (l : Line) (ls : List Line) → is_passed l ≡ true → Reads ls → Reads (l ∷ ls)
reads_passed l ls h r = record {
  none = λ done. ap (on ls) (step_passed (state done None) l h) ∙ (r.none done ∙ ap (λ (gs : List (List Line)). behind done (entries_of gs)) (sym (groups_passed l ls h)));
  some = λ done dn ps. ap (on ls) (step_passed (state done (Some (entry dn (attributes_of ps)))) l h) ∙ (r.some done dn ps ∙ ap (goes_on done dn ps) (sym (groups_passed l ls h)));
}

ended_record : (done : List DirEntry) (dn : List ℕ) (ps : List Pair) (es : Says) → behind (done ++ entry dn (attributes_of ps) ∷ []) es ≡ drafted done dn ps (Ok []) es
ended_record done dn ps es = ap (λ (w : List Pair). behind (done ++ entry dn (attributes_of w) ∷ []) es) (sym (append-nil ps))

reads_parted : (l : Line) (ls : List Line) → is_passed l ≡ false → is_empty l.text ≡ true → Reads ls → Reads (l ∷ ls)
reads_parted l ls h k r = record {
  none = λ done. ap (on ls) (step_parted (state done None) l h k) ∙ (r.none done ∙ ap (λ (gs : List (List Line)). behind done (entries_of gs)) (sym (groups_parted l ls h k)));
  some = λ done dn ps.
      ap (on ls) (step_parted (state done (Some (entry dn (attributes_of ps)))) l h k)
      ∙ (r.none (done ++ entry dn (attributes_of ps) ∷ [])
      ∙ (ended_record done dn ps (entries_of (groups ls)) ∙ ap (goes_on done dn ps) (sym (groups_parted l ls h k))));
}

reads_taken : (l : Line) (ls : List Line) → is_passed l ≡ false → is_empty l.text ≡ false → Reads ls → Reads (l ∷ ls)
reads_taken l ls h k r = record {
  none = λ done.
      ap (on ls) (step_taken (state done None) l h k)
      ∙ (then_begun done (dn_of l) (λ s. read_on s ls) (λ dn. goes_on done dn [] (groups ls)) (λ dn. r.some done dn [])
      ∙ (begins_on done l (groups ls) ∙ ap (λ (gs : List (List Line)). behind done (entries_of gs)) (sym (groups_grown l ls h k))));
  some = λ done dn ps.
      ap (on ls) (step_taken (state done (Some (entry dn (attributes_of ps)))) l h k)
      ∙ (then_grown done (entry dn (attributes_of ps)) (pair_of l) (λ s. read_on s ls) (λ p. goes_on done dn (ps ++ p ∷ []) (groups ls))
      (λ p. ap (λ (rest : List Attribute). read_on (state done (Some (entry dn rest))) ls) (sym (one_value_more ps p)) ∙ r.some done dn (ps ++ p ∷ []))
      ∙ (grows_on done dn ps l (groups ls) ∙ ap (goes_on done dn ps) (sym (groups_grown l ls h k))));
}

reads_more : (b c : Bool) (l : Line) (ls : List Line) → is_passed l ≡ b → is_empty l.text ≡ c → Reads ls → Reads (l ∷ ls)
reads_more true c l ls h k r = reads_passed l ls h r
reads_more false true l ls h k r = reads_parted l ls h k r
reads_more false false l ls h k r = reads_taken l ls h k r

reads : (ls : List Line) → Reads ls
reads [] = record {
  none = λ done. ap (λ (w : List DirEntry). Ok w) (sym (append-nil done));
  some = λ done dn ps. ap (λ (w : List Pair). Ok (done ++ entry dn (attributes_of w) ∷ [])) (sym (append-nil ps)) ∙ ap (λ (w : List DirEntry). Ok w) (sym (append-nil (done ++ entry dn (attributes_of (ps ++ [])) ∷ [])));
}
reads (l ∷ ls) = reads_more (is_passed l) (is_empty l.text) l ls refl refl (reads ls)

alone : (es : Says) → behind [] es ≡ es
alone (Ok xs) = refl
alone (Err fault) = refl

all_lines : (texts : List (List ℕ)) → run_all texts ≡ all_of record_of (records_in (unfolded (numbered_from 1 texts)))
all_lines [] = refl
all_lines (text ∷ texts) =
    run_is texts (begun text) ∙ ((reads (unfolded (numbered_from 1 (text ∷ texts)))).none [] ∙ alone (all_of record_of (records_in (unfolded (numbered_from 1 (text ∷ texts))))))

-- reading line by line reads the grammar
pub reads_ldif : (text : List ℕ) → run_all (lines_of text) ≡ ldif_of text
reads_ldif text = all_lines (lines_of text)
