use Rattle.std.proofs.Common.{Some, List, map, sym, ap, subst, ◌∙◌}
use Rattle.rl_used_names.specs.Merged.{with_missing_name}
use Rattle.rl_used_names.specs.NameSearch.{is_used, IsSearched}
use Rattle.rl_used_names.specs.UsedName.{UsedName, used_name_of}
use Rattle.rl_used_names.proofs.NameEntries.{found_name, found_used, missing-known, missing-inserted}
use Rattle.rl_used_names.proofs.NameSearches.{searched-inserted, searched-missing}
use Rattle.rl_used_names.specs.declared.names.NameUser.{NameUser}
use Rattle.rl_used_names.proofs.names.merge_user.Goals as goal

pub returns-in-Some-clause-merged : goal.returns-in-Some-clause-merged
returns-in-Some-clause-merged c =
    let used = map used_name_of c.args.users.now in
    let user = c.args.user.now in
    missing-known used (used_name_of user)
    (ap (λ name. is_used used name) (sym c.as_str.ensures) ∙ found_used c.args.users.now c.in-Some.entry c.as_str.result.now c.in-Some.ensures.found)

pub returns-in-Some-clause-entry : goal.returns-in-Some-clause-entry
returns-in-Some-clause-entry c = found_name c.args.users.now c.in-Some.entry c.as_str.result.now (sym c.in-Some.ensures.found) ∙ ap (λ name. Some name) c.as_str.ensures

pub returns-clause-merged : goal.returns-clause-merged
returns-clause-merged c =
    let users = c.args.users.now in
    let user = c.args.user.now in
    let copy : NameUser = record { name = c.in_ok-name.name; symbol = user.symbol } in
    missing-inserted users c.find_or_insert.new.self copy _ c.in_ok-entry.ensures.is_new c.in_ok-entry.ensures.items
    ∙ ap (λ name. with_missing_name (map used_name_of users) (record { name = name; symbol = user.symbol.0 })) c.in_ok-name.ensures

pub returns-clause-entry : goal.returns-clause-entry
returns-clause-entry c = found_name c.find_or_insert.new.self c.in_ok-entry.entry c.in_ok-name.name c.in_ok-entry.ensures.index ∙ ap (λ name. Some name) c.in_ok-name.ensures

pub returns-clause-searched : goal.returns-clause-searched
returns-clause-searched c = λ numbers searched.
    let used = map used_name_of c.args.users.now in
    let user = c.args.user.now in
    let more = c.insert.new.self.keys in
    subst (λ (l : List UsedName). IsSearched l numbers more) (sym (returns-clause-merged c))
    (searched-missing used numbers more (used_name_of user)
    (searched-inserted used numbers c.args.owners.now.keys more user.symbol searched c.in_ok-insert.ensures.updates.0)
    c.in_ok-insert.ensures.updates.1)
