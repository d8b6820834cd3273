use Rattle.std.proofs.Common.{◌≡◌, List, [], ◌∷◌, map, sym, ap, subst, ◌∙◌}
use Rattle.std.specs.Prelude.{filter, IfOk}
use Rattle.sd_ldap.specs.declared.entry.DirEntry.{DirEntry}
use Rattle.sd_fetch.specs.Lookup.{fits, found_as, one_of}
use Rattle.sd_fetch.specs.Told.{where_one}
use Rattle.sd_fetch.specs.Further.{further_of}
use Rattle.sd_fetch.proofs.Found.{one_dn}
use Rattle.sd_fetch.proofs.Furthers.{none_further}
use Rattle.sd_fetch.proofs.Choosing.{one_item, many_none}
use Rattle.sd_fetch.proofs.lookup.choose.Goals as goal

pub returns-in-len1-clause-found : goal.returns-in-len1-clause-found
returns-in-len1-clause-found g c = λ b is quiet d.
    let one : filter (λ (e : DirEntry). fits c.args.config.now c.args.key.now e) c.args.entries.now ≡ c.entry-item.result.now ∷ [] =
    one_item (λ e. e.now) c.as_slice.result.now c.entry-item.result _ c.in-len1.len_at_least c.in-len1.len_below c.entry-item.is (ap (map (λ e. e.now)) c.as_slice.ensures.value ∙ c.in_ok-those.ensures) in
    subst (λ (es : List DirEntry). IfOk c.found.result (λ fetched. fetched ≡ one_of (λ e. found_as c.args.config.now c.args.key.now b.entries e) es)) (sym one)
    (c.found.ensures.found b is quiet (one_dn (λ (e : DirEntry). fits c.args.config.now c.args.key.now e) c.args.entries.now c.entry-item.result.now d one))

pub returns-clause-further : goal.returns-clause-further
returns-clause-further g c =
    none_further _ c.args.client.now (λ told. where_one (λ e. further_of c.args.config.now c.args.key.now e told) (filter (λ (e : DirEntry). fits c.args.config.now c.args.key.now e) c.args.entries.now))
    (λ told. many_none (λ e. e.now) c.as_slice.result.now _ (λ e. further_of c.args.config.now c.args.key.now e told) c.in_default.len_at_least (ap (map (λ e. e.now)) c.as_slice.ensures.value ∙ c.in_ok-those.ensures))
