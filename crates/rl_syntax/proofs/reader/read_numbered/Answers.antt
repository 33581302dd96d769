use Rattle.std.proofs.Common.{[], drop, arith, length-drop}
use Rattle.std.proofs.lemmas.List.{drop_all}
use Rattle.rl_text.proofs.Spellings.{Spells-one}
use Rattle.rl_text.proofs.Forms.{begins-whole, whole-spells, more-none}
use Rattle.rl_syntax.specs.Syntax.{syntax, plain, outset}
use Rattle.rl_syntax.proofs.Placement.{placed-one}
use Rattle.rl_syntax.proofs.reader.read_numbered.Goals as goal

pub returns-in_default-clause-none : goal.returns-in_default-clause-none
returns-in_default-clause-none c s shaped low spells =
    let none = rw c.in_default.is at c.in_ok-tree.ensures.none in
    none s [] shaped (begins-whole c.args.depth c.args.bytes.now (plain s) spells low)

pub returns-then-at-bytes-clause-none : goal.returns-then-at-bytes-clause-none
returns-then-at-bytes-clause-none c s shaped low spells =
    let read = rw c.in-Some.is at c.in_ok-tree.ensures.found in
    let next = c.read_at.new.at.byte in
    more-none c.args.depth c.args.bytes.now (drop next c.args.bytes.now) (plain (syntax c.in-Some.tree)) (plain s) read.begins (omega (arith, c.if-at-bytes.true, length-drop next c.args.bytes.now)) spells

pub returns-clause-found : goal.returns-clause-found
returns-clause-found c =
    let read = rw c.in-Some.is at c.in_ok-tree.ensures.found in
    let next = c.read_at.new.at.byte in
    (whole-spells c.args.depth c.args.bytes.now (drop next c.args.bytes.now) (plain (syntax c.in-Some.tree)) read.begins (drop_all next c.args.bytes.now c.if-at-bytes.false), read.placed, read.shaped)

pub returns-clause-unique : goal.returns-clause-unique
returns-clause-unique c s spells placed =
    let found = returns-clause-found c in
    placed-one s (syntax c.in-Some.tree) outset (Spells-one c.args.bytes.now (plain s) (plain (syntax c.in-Some.tree)) spells found.0) placed found.1
