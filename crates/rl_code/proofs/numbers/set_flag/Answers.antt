use Rattle.rl_code.proofs.Flagging.{flag_set}
use Rattle.rl_code.proofs.numbers.set_flag.Goals as goal

pub returns : goal.returns
returns c n =
    flag_set c.make_place.new.flags.items c.args.flags.now.items c.args.number n c.in_ok-make_place.ensures.place
    (c.in_ok-make_place.ensures.same n)
