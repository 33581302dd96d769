use Rattle.std.proofs.Common.{◌≡◌, List, ℕ, map, sym, subst}
use Rattle.rl_used_names.specs.Merged.{merged_names}
use Rattle.rl_used_names.specs.NameSearch.{IsSearched, AreEntries, AreTried}
use Rattle.rl_used_names.specs.UsedName.{UsedName, used_name_of}
use Rattle.rl_used_names.proofs.NameSearches.{tried-merged}
use Rattle.rl_used_names.proofs.names.UsedNames.merge.Goals as goal

pub invariant_of-self-in_err-merge_numbers : goal.invariant_of-self-in_err-merge_numbers
invariant_of-self-in_err-merge_numbers c =
    let parent = map used_name_of c.self.inside.users in
    let child = map used_name_of c.as_slice-users.result.now in
    let used = map used_name_of c.merge_users.new.users in
    let numbers = c.child.inside.numbers.items in
    let entries = c.in_ok-entries.entries.items in
    let merged : used ≡ merged_names parent child = c.in_ok-entries.ensures.merged in
    let is : IsSearched child numbers c.child.inside.owners.keys = subst (λ us. IsSearched (map used_name_of us) numbers c.child.inside.owners.keys) (sym c.as_slice-users.ensures) c.child.invariant in
    let found : AreEntries (merged_names parent child) entries child = subst (λ (l : List UsedName). AreEntries l entries child) merged c.in_ok-entries.ensures.entries in
    let tried : AreTried used entries numbers = subst (λ (l : List UsedName). AreTried l entries numbers) (sym merged) (tried-merged parent child numbers entries c.child.inside.owners.keys is found) in
    c.merge_numbers.ensures used c.merge_users.new.owners.keys
    (subst (λ (l : List ℕ). AreTried used l c.as_slice-2.result.now) (sym c.as_slice.ensures.value) (subst (λ (l : List ℕ). AreTried used entries l) (sym c.as_slice-2.ensures.value) tried))
    (c.in_ok-entries.ensures.searched c.self.inside.numbers.items c.self.invariant)

pub invariant_of-self-2 : goal.invariant_of-self-2
invariant_of-self-2 c =
    let parent = map used_name_of c.self.inside.users in
    let child = map used_name_of c.as_slice-users.result.now in
    let used = map used_name_of c.merge_users.new.users in
    let numbers = c.child.inside.numbers.items in
    let entries = c.in_ok-entries.entries.items in
    let merged : used ≡ merged_names parent child = c.in_ok-entries.ensures.merged in
    let is : IsSearched child numbers c.child.inside.owners.keys = subst (λ us. IsSearched (map used_name_of us) numbers c.child.inside.owners.keys) (sym c.as_slice-users.ensures) c.child.invariant in
    let found : AreEntries (merged_names parent child) entries child = subst (λ (l : List UsedName). AreEntries l entries child) merged c.in_ok-entries.ensures.entries in
    let tried : AreTried used entries numbers = subst (λ (l : List UsedName). AreTried l entries numbers) (sym merged) (tried-merged parent child numbers entries c.child.inside.owners.keys is found) in
    c.merge_numbers.ensures used c.merge_users.new.owners.keys
    (subst (λ (l : List ℕ). AreTried used l c.as_slice-2.result.now) (sym c.as_slice.ensures.value) (subst (λ (l : List ℕ). AreTried used entries l) (sym c.as_slice-2.ensures.value) tried))
    (c.in_ok-entries.ensures.searched c.self.inside.numbers.items c.self.invariant)
