use Rattle.rl_text.proofs.Numerals.{parse-exact}
use Rattle.rl_text.proofs.number.parse_number.Goals as goal

pub returns : goal.returns
returns c = parse-exact c.args.text.now c.read_digits.result c.read_digits.ensures.some c.read_digits.ensures.none
