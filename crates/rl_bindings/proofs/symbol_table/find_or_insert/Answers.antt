use Rattle.std.proofs.Common.{ℕ, Bool, Some, BTreeMap, sym, subst}
use Rattle.std.specs.BTreeMap.{Updates}
use Rattle.rl_bindings.specs.SymbolTables.{key_cmp}
use Rattle.rl_bindings.proofs.symbol_table.find_or_insert.Goals as goal

pub returns-in-Vacant-clause-changed : goal.returns-in-Vacant-clause-changed
returns-in-Vacant-clause-changed c =
    let same = rw c.in-Vacant.is at c.in_ok-entry.ensures.same_map in
    let update = rw c.in-Vacant.is at c.in_ok-entry.ensures.update in
    let final = c.numbers-in-Vacant-2-1.given.1 (sym same) in
    subst (λ (m : BTreeMap (ℕ × ℕ × Bool) ℕ). Updates key_cmp c.args.numbers.now m c.args.key (Some c.args.number)) (sym (rw c.insert.ensures.value at final)) (update.0 c.args.number)
