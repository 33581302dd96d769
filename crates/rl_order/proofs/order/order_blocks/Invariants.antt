use Rattle.rl_order.proofs.order.order_blocks.Given as goal

abbrev pub ghosts-order_counted : goal.ghosts-order_counted
ghosts-order_counted g a = record { name = a.blank.name; parts = a.blank.parts }
