use Rattle.std.proofs.Common.{drop, refl}
use Rattle.rl_syntax.specs.Syntax.{Count}
use Rattle.rl_syntax.specs.declared.numbered.Numbered.TheVariants as numbered
use Rattle.rl_syntax.proofs.Layers.{syntax_number}
use Rattle.rl_syntax.proofs.ReadForms.{none-read, leaf-read}
use Rattle.rl_syntax.proofs.reader.read_number.Goals as goal

pub returns-in_default-clause-none : goal.returns-in_default-clause-none
returns-in_default-clause-none c depth =
    let none = rw c.in_default.is at c.read_number_at.ensures.none in
    none-read depth (drop c.args.at.now.byte c.args.bytes.now) (none depth)

pub returns-clause-found : goal.returns-clause-found
returns-clause-found c depth =
    let found = rw c.in-Some.is at c.read_number_at.ensures.found in
    leaf-read depth c.args.at.now c.in-Some.end c.args.bytes.now (numbered.Number c.in-Some.number) (Count c.in-Some.number) (syntax_number c.in-Some.number) refl refl refl refl tt found.0 found.1 c.requires.low found.2
