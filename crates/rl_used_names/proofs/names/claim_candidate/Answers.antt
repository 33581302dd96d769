use Rattle.std.proofs.Common.{◌≡◌, ◌++◌, [], ◌∷◌, Bool, nat_eq, not, if◌then◌else◌, get_or, map, refl, sym, ap, ◌∙◌}
use Rattle.std.proofs.lemmas.List.{map-append}
use Rattle.rl_used_names.specs.Choosing.{is_free, with_user}
use Rattle.rl_used_names.specs.UsedName.{used_name_of}
use Rattle.rl_used_names.specs.declared.names.NameUser.{NameUser}
use Rattle.rl_used_names.proofs.NameEntries.{known-entries, is_free-new, with_user-new, with_user-known, found_name, found_free}
use Rattle.rl_used_names.proofs.names.claim_candidate.Goals as goal

pub returns-then-is_new-clause-free : goal.returns-then-is_new-clause-free
returns-then-is_new-clause-free c =
    let used = map used_name_of c.args.users.now in
    let known = known-entries c.args.users.now used c.args.candidate c.args.candidate c.in_ok-entry.is_new refl refl c.in_ok-entry.ensures.is_new in
    c.if-is_new.true ∙ sym (is_free-new used c.args.symbol.0 c.args.candidate (known ∙ ap not c.if-is_new.true))

pub returns-then-is_new-clause-used : goal.returns-then-is_new-clause-used
returns-then-is_new-clause-used c =
    let users = c.args.users.now in
    let used = map used_name_of users in
    let user : NameUser = record { name = c.args.candidate; symbol = c.args.symbol } in
    let known = known-entries users used c.args.candidate c.args.candidate c.in_ok-entry.is_new refl refl c.in_ok-entry.ensures.is_new in
    ap (map used_name_of) (c.in_ok-entry.ensures.items ∙ ap (λ (b : Bool). if b then users ++ user ∷ [] else users) c.if-is_new.true)
    ∙ map-append used_name_of users (user ∷ [])
    ∙ sym (with_user-new used c.args.candidate c.args.symbol.0 (known ∙ ap not c.if-is_new.true))
    ∙ ap (λ (b : Bool). if b then with_user used c.args.candidate c.args.symbol.0 else used) (sym c.if-is_new.true)

pub returns-then-is_new-clause-named : goal.returns-then-is_new-clause-named
returns-then-is_new-clause-named c = found_name c.find_or_insert.new.self c.in_ok-entry.entry c.args.candidate c.in_ok-entry.ensures.index

pub returns-else-is_new-clause-free : goal.returns-else-is_new-clause-free
returns-else-is_new-clause-free c =
    let users = c.args.users.now in
    let user : NameUser = record { name = c.args.candidate; symbol = c.args.symbol } in
    let other = c.index-as_slice-entry.result in
    let same : c.find_or_insert.new.self ≡ users = c.in_ok-entry.ensures.items ∙ ap (λ (b : Bool). if b then users ++ user ∷ [] else users) c.if-is_new.false in
    ap (λ us. nat_eq (get_or us c.in_ok-entry.entry other).symbol.0 c.args.symbol.0) c.as_slice.ensures
    ∙ found_free c.find_or_insert.new.self c.in_ok-entry.entry c.args.candidate other c.args.symbol.0 c.in_ok-entry.ensures.index
    ∙ ap (λ us. is_free (map used_name_of us) c.args.symbol.0 c.args.candidate) same

pub returns-else-is_new-clause-used : goal.returns-else-is_new-clause-used
returns-else-is_new-clause-used c =
    let users = c.args.users.now in
    let used = map used_name_of users in
    let user : NameUser = record { name = c.args.candidate; symbol = c.args.symbol } in
    let known = known-entries users used c.args.candidate c.args.candidate c.in_ok-entry.is_new refl refl c.in_ok-entry.ensures.is_new in
    ap (map used_name_of) (c.in_ok-entry.ensures.items ∙ ap (λ (b : Bool). if b then users ++ user ∷ [] else users) c.if-is_new.false)
    ∙ with_user-known used c.args.candidate c.args.symbol.0 _ (known ∙ ap not c.if-is_new.false) (returns-else-is_new-clause-free c)

pub returns-else-is_new-clause-named : goal.returns-else-is_new-clause-named
returns-else-is_new-clause-named c = found_name c.find_or_insert.new.self c.in_ok-entry.entry c.args.candidate c.in_ok-entry.ensures.index
