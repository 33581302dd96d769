use Rattle.std.proofs.Common.{◌≡◌, ◌+◌, Bool, true, false, if◌then◌else◌, Some, List, ℕ, get_or, map, sym, ap, subst, ◌∙◌}
use Rattle.rl_used_names.specs.Choosing.{is_free, with_user, AllTaken}
use Rattle.rl_used_names.specs.NameSearch.{name_at, IsSearched}
use Rattle.rl_used_names.specs.UsedName.{UsedName, used_name_of}
use Rattle.rl_used_names.proofs.Candidates.{chosen-own}
use Rattle.rl_used_names.proofs.NameSearches.{searched-inserted, searched-named, searched-claimed, taken-first}
use Rattle.rl_used_names.proofs.names.UsedNames.claim.Goals as goal

pub invariant_of-self-then-is_own : goal.invariant_of-self-then-is_own
invariant_of-self-then-is_own c =
    let used = map used_name_of c.self.inside.users in
    let numbers = c.self.inside.numbers.items in
    let owners = c.insert.new.self.keys in
    let name = c.in_ok-copy.field-0 in
    let named = c.in_ok-entry.ensures.used ∙ ap (λ (b : Bool). if b then with_user used name c.args.symbol.0 else used) c.if-is_own.true in
    subst (λ (l : List UsedName). IsSearched l numbers owners) (sym named)
    (searched-named used numbers owners name c.args.symbol.0
    (searched-inserted used numbers c.self.inside.owners.keys owners c.args.symbol c.self.invariant c.in_ok-is_nameless.ensures.updates.0)
    c.in_ok-is_nameless.ensures.updates.1)

pub returns-then-is_own-clause-chosen : goal.returns-then-is_own-clause-chosen
returns-then-is_own-clause-chosen c =
    let used = c.args.self.now in
    let symbol = c.args.symbol.0 in
    let text : c.in_ok-copy.field-0 ≡ c.args.name.now = c.in_ok-copy.ensures ∙ c.in_ok-own.ensures in
    let free : is_free used symbol c.args.name.now ≡ true =
    ap (is_free used symbol) (sym text)
    ∙ ap (λ (l : List UsedName). is_free l symbol c.in_ok-copy.field-0) (sym c.self.view_is)
    ∙ sym c.in_ok-entry.ensures.free ∙ c.if-is_own.true in
    c.in_ok-own.ensures ∙ sym (chosen-own used symbol c.args.name.now free)

pub claim_numbered-requires : goal.claim_numbered-requires
claim_numbered-requires c =
    let used = map used_name_of c.self.inside.users in
    let numbers = c.self.inside.numbers.items in
    let symbol = c.args.symbol.0 in
    let name = c.args.name.now in
    let entry = c.in_ok-entry.entry in
    let first = c.first_number-first.result in
    let nameless = c.in_ok-is_nameless.is_nameless in
    let text : c.in_ok-copy.field-0 ≡ name = c.in_ok-copy.ensures ∙ c.in_ok-own.ensures in
    let same : map used_name_of c.claim_candidate.new.users ≡ used =
    c.in_ok-entry.ensures.used ∙ ap (λ (b : Bool). if b then with_user used c.in_ok-copy.field-0 symbol else used) c.if-is_own.false in
    let named : name_at used entry ≡ Some name = ap (λ (l : List UsedName). name_at l entry) (sym same) ∙ c.in_ok-entry.ensures.named ∙ ap (λ n. Some n) text in
    let taken : is_free used symbol name ≡ false = ap (is_free used symbol) (sym text) ∙ sym c.in_ok-entry.ensures.free ∙ c.if-is_own.false in
    let start : first ≡ (if nameless then get_or numbers entry 0 else 0) = c.first_number-first.ensures ∙ ap (λ (l : List ℕ). if nameless then get_or l entry 0 else 0) c.as_slice.ensures.value in
    subst (λ (l : List UsedName). AllTaken l symbol name (first + 1)) (sym same)
    (taken-first used numbers c.self.inside.owners.keys symbol entry first name nameless c.self.invariant c.in_ok-is_nameless.ensures.added named taken start)

pub invariant_of-self-in_err-raise_number : goal.invariant_of-self-in_err-raise_number
invariant_of-self-in_err-raise_number c =
    let used = map used_name_of c.self.inside.users in
    let owners = c.insert.new.self.keys in
    let numbers = c.self.inside.numbers.items in
    let same : map used_name_of c.claim_candidate.new.users ≡ used =
    c.in_ok-entry.ensures.used ∙ ap (λ (b : Bool). if b then with_user used c.in_ok-copy.field-0 c.args.symbol.0 else used) c.if-is_own.false in
    let searched : IsSearched (map used_name_of c.claim_candidate.new.users) numbers owners = subst (λ (l : List UsedName). IsSearched l numbers owners) (sym same)
    (searched-inserted used numbers c.self.inside.owners.keys owners c.args.symbol c.self.invariant c.in_ok-is_nameless.ensures.updates.0) in
    subst (λ (l : List UsedName). IsSearched l c.raise_number.new.numbers.items owners) (sym c.in_ok-number.ensures.used)
    (subst (λ (l : List ℕ). IsSearched (with_user (map used_name_of c.claim_candidate.new.users) c.in_ok-number.text c.args.symbol.0) l owners) (sym c.in_err-raise_number.ensures.err)
    (searched-named (map used_name_of c.claim_candidate.new.users) numbers owners c.in_ok-number.text c.args.symbol.0 searched c.in_ok-is_nameless.ensures.updates.1))

pub invariant_of-self-2 : goal.invariant_of-self-2
invariant_of-self-2 c =
    let used = map used_name_of c.self.inside.users in
    let owners = c.insert.new.self.keys in
    let numbers = c.self.inside.numbers.items in
    let text : c.in_ok-copy.field-0 ≡ c.args.name.now = c.in_ok-copy.ensures ∙ c.in_ok-own.ensures in
    let same : map used_name_of c.claim_candidate.new.users ≡ used =
    c.in_ok-entry.ensures.used ∙ ap (λ (b : Bool). if b then with_user used c.in_ok-copy.field-0 c.args.symbol.0 else used) c.if-is_own.false in
    let searched : IsSearched (map used_name_of c.claim_candidate.new.users) numbers owners = subst (λ (l : List UsedName). IsSearched l numbers owners) (sym same)
    (searched-inserted used numbers c.self.inside.owners.keys owners c.args.symbol c.self.invariant c.in_ok-is_nameless.ensures.updates.0) in
    subst (λ (l : List UsedName). IsSearched l c.raise_number.new.numbers.items owners) (sym c.in_ok-number.ensures.used)
    (searched-claimed (map used_name_of c.claim_candidate.new.users) numbers c.raise_number.new.numbers.items owners c.args.symbol.0 c.in_ok-entry.entry c.in_ok-number.number c.args.name.now c.in_ok-number.text searched
    c.in_ok-is_nameless.ensures.updates.1
    (c.in_ok-entry.ensures.named ∙ ap (λ n. Some n) text)
    c.in_ok-number.ensures.first c.in_ok-number.ensures.text c.in_ok-raise_number.ensures.raised)
