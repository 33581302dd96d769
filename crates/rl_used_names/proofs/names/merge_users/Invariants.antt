use Rattle.std.proofs.Common.{◌≡◌, drop, length, map}
use Rattle.rl_used_names.specs.Merged.{merged_names}
use Rattle.rl_used_names.specs.NameSearch.{AreEntries, KeepsSearched}
use Rattle.rl_used_names.specs.UsedName.{used_name_of}
use Rattle.rl_used_names.proofs.names.merge_users.Given as goal

-- The users that are left are merged into those that are there.
abbrev pub invariant-loop-user : goal.invariant-loop-user
invariant-loop-user l = record {
  merged : merged_names (map used_name_of l.users) (map used_name_of (drop l.user-index l.child)) ≡ merged_names (map used_name_of l.initial.users) (map used_name_of l.child);
  counted : length l.entries.items ≡ l.user-index;
  entries : AreEntries (map used_name_of l.users) l.entries.items (map used_name_of l.child);
  searched : KeepsSearched (map used_name_of l.initial.users) l.initial.owners.keys (map used_name_of l.users) l.owners.keys;
}
