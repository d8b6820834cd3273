use Rattle.std.proofs.Common.{◌≡◌, ◌∙◌, sym, ap, is_some, false}
use Rattle.std.specs.Prelude.{not}
use Rattle.std.specs.Map.{lookup}
use Rattle.sd_names.specs.Naming.{names_equal}
use Rattle.sd_names.proofs.Entries.{told, one_behind, still_names, dns_behind}
use Rattle.sd_names.proofs.dn_set.DnSet.insert.Goals as goal

pub returns-then-contains_key-clause-new : goal.returns-then-contains_key-clause-new
returns-then-contains_key-clause-new c =
    ap not
    (sym
    (told c.self.inside.dns.entries c.args.self.now c.in_ok-name.name c.args.dn c.contains_key.result c.self.invariant c.self.view_is c.in_ok-name.ensures c.contains_key.ensures
    ∙ c.if-contains_key.true))

pub invariant_of-self-2 : goal.invariant_of-self-2
invariant_of-self-2 c =
    let none : is_some (lookup (names_equal c.in_ok-name.name) c.self.inside.dns.entries) ≡ false = sym c.contains_key.ensures ∙ c.if-contains_key.false in
    still_names c.self.inside.dns.entries c.insert.new.self.entries c.in_ok-name.name c.args.dn c.self.invariant c.in_ok-name.ensures
    (one_behind c.self.inside.dns.entries c.insert.new.self.entries c.in_ok-name.name c.args.dn none c.in_ok-insert.ensures.entries)

pub returns-clause-new : goal.returns-clause-new
returns-clause-new c =
    ap not
    (sym
    (told c.self.inside.dns.entries c.args.self.now c.in_ok-name.name c.args.dn c.contains_key.result c.self.invariant c.self.view_is c.in_ok-name.ensures c.contains_key.ensures
    ∙ c.if-contains_key.false))

pub returns-clause-dns : goal.returns-clause-dns
returns-clause-dns c =
    let none : is_some (lookup (names_equal c.in_ok-name.name) c.self.inside.dns.entries) ≡ false = sym c.contains_key.ensures ∙ c.if-contains_key.false in
    dns_behind c.self.inside.dns.entries c.insert.new.self.entries c.args.self.now c.in_ok-name.name c.args.dn c.self.view_is
    (one_behind c.self.inside.dns.entries c.insert.new.self.entries c.in_ok-name.name c.args.dn none c.in_ok-insert.ensures.entries)
