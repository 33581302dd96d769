use Rattle.std.proofs.Common.{◌≡◌, ◌+◌, ◌++◌, [], ◌∷◌, Some, List, drop, length, map, slice_get, refl, sym, ap, subst, ◌∙◌, length-append, arith}
use Rattle.std.proofs.lemmas.Option.{slice_get_read, slice_get-map}
use Rattle.std.specs.Option.{option_map}
use Rattle.rl_used_names.specs.Merged.{merged_names}
use Rattle.rl_used_names.specs.NameSearch.{name_at}
use Rattle.rl_used_names.specs.UsedName.{UsedName, used_name_of}
use Rattle.rl_used_names.proofs.Merging.{drop-at, entries-pushed}
use Rattle.rl_used_names.proofs.NameSearches.{name_at-missing}
use Rattle.rl_used_names.proofs.names.merge_users.Goals as goal

pub loop-user-preserved : goal.loop-user-preserved
loop-user-preserved c =
    let child = c.args.child.now in
    let index = c.loop-user.user-index in
    let used = map used_name_of c.loop-user.users in
    let user = c.user-item.result in
    let entries = c.loop-user.entries.items in
    let entry = c.in_ok-entry.entry in
    let merged = c.in_ok-entry.ensures.merged in
    let at : slice_get child index ≡ Some user = slice_get_read child (length child) index user refl c.loop-user-test.true c.user-item.is in
    let pushed : c.push.new.self.items ≡ entries ++ entry ∷ [] = c.in_ok-push.ensures.items in
    let more : length (entries ++ entry ∷ []) ≡ length entries + length (entry ∷ []) = length-append entries (entry ∷ []) in
    record {
      merged = ap (λ (l : List UsedName). merged_names l (map used_name_of (drop (index + 1) child))) merged
          ∙ ap (λ l. merged_names used (map used_name_of l)) (sym (drop-at child index user at))
          ∙ c.loop-user.invariant.merged;
      counted = omega (arith, ap length pushed, more, c.loop-user.invariant.counted);
      entries = entries-pushed used (map used_name_of c.merge_user.new.users) entries c.push.new.self.items (map used_name_of child) index entry user.name c.loop-user.invariant.entries
          (λ e n some. subst (λ (l : List UsedName). name_at l e ≡ Some n) (sym merged) (name_at-missing used (used_name_of user) e n some))
          pushed c.loop-user.invariant.counted
          (ap (option_map (λ (u : UsedName). u.name)) (slice_get-map used_name_of child index ∙ ap (option_map used_name_of) at))
          c.in_ok-entry.ensures.entry;
      searched = λ numbers is. c.in_ok-entry.ensures.searched numbers (c.loop-user.invariant.searched numbers is);
    }
