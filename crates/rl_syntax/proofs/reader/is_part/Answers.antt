use Rattle.std.proofs.Common.{◌+◌, ◌==◌, drop, refl}
use Rattle.rl_syntax.proofs.ReadForms.{node-first, text-first, item-stands}
use Rattle.rl_syntax.proofs.reader.is_part.Goals as goal

pub returns-then-has_byte-clause-yes : goal.returns-then-has_byte-clause-yes
returns-then-has_byte-clause-yes c h s depth rest b =
    item-stands (c.args.close == 93) s (node-first s (drop c.args.at c.args.bytes.now) depth rest (drop (c.args.at + 1) c.args.bytes.now) b (c.if-has_byte.ensures.yes refl).1)

pub returns-clause-yes : goal.returns-clause-yes
returns-clause-yes c h s depth rest b =
    item-stands (c.args.close == 93) s (text-first s (drop c.args.at c.args.bytes.now) depth rest (drop (c.args.at + 1) c.args.bytes.now) b (c.has_byte-2.ensures.yes h).1)
