use Rattle.std.proofs.Common.{◌++◌, length, ◌∙◌, subst, arith, inl, inr}
use Rattle.std.proofs.lemmas.List.{length-append}
use Rattle.sd_base.specs.Causes.{Rose}
use Rattle.sd_ldap.specs.Values.{search_value}
use Rattle.sd_ldap.specs.Spelling.{message_bytes}
use Rattle.sd_dial.specs.declared.searched.Searched.{Searched}
use Rattle.sd_client.specs.declared.step.Request.TheVariants as requests
use Rattle.sd_client.specs.Deciding.{decided}
use Rattle.sd_client.specs.Talk.{search_message}
use Rattle.sd_asking.specs.Searching.{told_search, IsSearchedBy}
use Rattle.sd_asking.proofs.Arriving.{arrived, restored}
use Rattle.sd_asking.proofs.Searches.{IsAsked, searched_by, told_unsent, searched_told, searched_settles, searched_ends, was_sent, no_failure}
use Rattle.sd_asking.proofs.searching.search.Goals as goal

pub returns-clause-answered : goal.returns-clause-answered
returns-clause-answered g c = λ settled used.
    let old = c.args.client.now in
    let new = c.search.new.self in
    searched_by c.search.result old.next old.at new.at old.received (g.L.Link.answer old.link (message_bytes (search_message old.next (search_value c.args.request.now)))) new.received (g.L.Link.coming new.link)
    (Rose (g.L.Link.faults old.link) (g.L.Link.faults new.link) × g.L.Link.ends new.link)
    (arrived _ _ _ _ _ _ _ settled.quiet (c.search.ensures.sent used).came)
    (omega (arith, settled.read))
    (c.search.ensures.reply used)

pub returns-clause-told : goal.returns-clause-told
returns-clause-told g c = λ behind is settled.
    let old = c.args.client.now in
    let new = c.search.new.self in
    let s = search_value c.args.request.now in
    let piece = message_bytes (search_message old.next s) in
    elim c.search.ensures.used [
      | inl same ↦ told_unsent c.search.result (told_search behind (length old.received) old.next s) _ (c.search.ensures.no_reply settled.well same)
      | inr used ↦
          let asked : IsAsked behind old.next old.at s old.received (g.L.Link.answer old.link piece) = record {
            sound = c.requires;
            small = omega (arith, used, c.search.ensures.counted);
            short = (g.met.L.DirectoryLink.tells_coming old.link behind is).2;
            few = settled.short;
            at_is = settled.read;
            answer_is = g.met.L.DirectoryLink.answers old.link behind piece is;
          } in
          searched_told c.search.result behind old.next old.at new.at s old.received (g.L.Link.answer old.link piece) (g.L.Link.coming new.link) asked (returns-clause-answered g c settled used)
    ]

pub returns-clause-goes_on : goal.returns-clause-goes_on
returns-clause-goes_on g c = λ behind is settled has.
    let old = c.args.client.now in
    let new = c.search.new.self in
    let s = search_value c.args.request.now in
    let piece = message_bytes (search_message old.next s) in
    elim c.search.ensures.used [
      | inl same ↦ absurd (was_sent c.search.result _ has (c.search.ensures.no_reply settled.well same))
      | inr used ↦
          let asked : IsAsked behind old.next old.at s old.received (g.L.Link.answer old.link piece) = record {
            sound = c.requires;
            small = omega (arith, used, c.search.ensures.counted);
            short = (g.met.L.DirectoryLink.tells_coming old.link behind is).2;
            few = settled.short;
            at_is = settled.read;
            answer_is = g.met.L.DirectoryLink.answers old.link behind piece is;
          } in
          let arrival = arrived _ _ _ _ _ _ _ settled.quiet (c.search.ensures.sent used).came in
          let r = searched_settles c.search.result behind old.next old.at new.at s old.received (g.L.Link.answer old.link piece) (g.L.Link.coming new.link) asked (returns-clause-answered g c settled used) new.received has arrival c.search.ensures.within in
          record {
            settled = record { well = c.search.ensures.fails settled.well ∙ no_failure c.search.result has; read = r.read; short = r.short; quiet = r.quiet };
            grown = r.grown;
            used = used;
          }
    ]

pub returns-clause-ends : goal.returns-clause-ends
returns-clause-ends g c = λ behind is settled used quiet fails.
    let old = c.args.client.now in
    let new = c.search.new.self in
    let s = search_value c.args.request.now in
    let piece = message_bytes (search_message old.next s) in
    let answer = g.L.Link.answer old.link piece in
    let asked : IsAsked behind old.next old.at s old.received answer = record {
      sound = c.requires;
      small = omega (arith, used, c.search.ensures.counted);
      short = (g.met.L.DirectoryLink.tells_coming old.link behind is).2;
      few = settled.short;
      at_is = settled.read;
      answer_is = g.met.L.DirectoryLink.answers old.link behind piece is;
    } in
    let h = subst (λ (r : Searched). IsSearchedBy r (decided requests.Search old.next old.at (old.received ++ answer)) new.at (g.L.Link.coming new.link)) fails (returns-clause-answered g c settled used) in
    searched_ends behind old.next old.at new.at s old.received answer (g.L.Link.coming new.link) asked h quiet

pub returns-clause-settles : goal.returns-clause-settles
returns-clause-settles g c = λ settled has end within.
    let old = c.args.client.now in
    let new = c.search.new.self in
    let answer = g.L.Link.answer old.link (message_bytes (search_message old.next (search_value c.args.request.now))) in
    elim c.search.ensures.used [
      | inl same ↦ absurd (was_sent c.search.result _ has (c.search.ensures.no_reply settled.well same))
      | inr used ↦
          let size = length-append old.received answer in
          let r =
          restored old.received answer new.received (g.L.Link.coming new.link) new.at (length answer) (arrived _ _ _ _ _ _ _ settled.quiet (c.search.ensures.sent used).came) c.search.ensures.within
          (omega (arith, size, end)) size within in
          record {
            settled = record { well = c.search.ensures.fails settled.well ∙ no_failure c.search.result has; read = r.read; short = r.short; quiet = r.quiet };
            grown = r.grown;
            used = used;
          }
    ]
