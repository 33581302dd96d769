use Rattle.std.proofs.Common.{◌||◌, ap, sym, ◌∙◌}
use Rattle.std.specs.BTreeSet.{contains_by}
use Rattle.std.specs.Ordering.{nat_cmp}
use Rattle.rl_code.proofs.Flagging.{eq_swapped}
use Rattle.rl_orderly.proofs.Repeating.{again, at_first}
use Rattle.rl_orderly.proofs.pattern.count.Goals as goal

pub returns-in_ok-add : goal.returns-in_ok-add
returns-in_ok-add c n rest =
    again (λ m. contains_by (nat_cmp m) c.args.once.now) (λ m. contains_by (nat_cmp m) c.args.twice.now)
    (λ m. contains_by (nat_cmp m) c.add.new.set) n c.args.number rest
    (sym c.contains.ensures ∙ c.if-contains.true)
    (λ m. c.in_ok-add.ensures m ∙ ap (λ b. contains_by (nat_cmp m) c.args.twice.now || b) (eq_swapped m c.args.number))

pub returns-in_ok-add-2 : goal.returns-in_ok-add-2
returns-in_ok-add-2 c n rest =
    at_first (λ m. contains_by (nat_cmp m) c.args.once.now) (λ m. contains_by (nat_cmp m) c.args.twice.now)
    (λ m. contains_by (nat_cmp m) c.add-else-contains.new.set) n c.args.number rest
    (sym c.contains.ensures ∙ c.if-contains.false)
    (λ m. c.in_ok-add-2.ensures m ∙ ap (λ b. contains_by (nat_cmp m) c.args.once.now || b) (eq_swapped m c.args.number))
