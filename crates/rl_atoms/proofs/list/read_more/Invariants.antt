use Rattle.std.proofs.Common.{◌-◌, length}
use Rattle.rl_atoms.proofs.Rows.{HasRow}
use Rattle.rl_atoms.proofs.list.read_more.Given as goal

abbrev pub invariant-values : goal.invariant-values
invariant-values g l = HasRow g.A.Atom.spells l.bytes l.at l.place l.initial.values l.values

abbrev pub decreases-values : goal.decreases-values
decreases-values g l = length l.bytes - l.place
