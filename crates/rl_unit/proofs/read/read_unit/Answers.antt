use Rattle.std.proofs.Common.{ℕ, List, Some, subst}
use Rattle.rl_unit.proofs.Known.{known_left}
use Rattle.rl_unit.specs.Known.{IsKnown}
use Rattle.rl_syntax.specs.Syntax.{syntax}
use Rattle.rl_unit.proofs.Answering.{reads_whole, refuses_left}
use Rattle.rl_unit.specs.Answers.{RefusesKnown}
use Rattle.rl_unit.proofs.read.read_unit.Goals as goal

pub returns-in-Ok-unit_of-clause-known : goal.returns-in-Ok-unit_of-clause-known
returns-in-Ok-unit_of-clause-known g c =
    let unit = c.in-Ok-unit_of.unit in
    known_left (g.S.Source.left c.args.source.now) c.in-Ok.bytes.items (syntax unit.tree) c.in-Ok.ensures.exact
    (subst (λ (b : List ℕ). IsKnown (Some b) (syntax unit.tree)) c.as_slice.ensures.value c.in-Ok-unit_of.ensures.known)

pub returns-in-Ok-unit_of-clause-whole : goal.returns-in-Ok-unit_of-clause-whole
returns-in-Ok-unit_of-clause-whole g c =
    reads_whole (g.S.Source.left c.args.source.now) (g.S.Source.left c.read_up_to.new.source) c.in-Ok.bytes.items c.in-Ok.ensures.bytes
    c.in-Ok.ensures.exact

pub returns-clause-status : goal.returns-clause-status
returns-clause-status g c =
    refuses_left (g.S.Source.left c.args.source.now) c.in-Ok.bytes.items c.in-Err.status c.in-Ok.ensures.exact
    (subst (λ (b : List ℕ). RefusesKnown (Some b) c.in-Err.status) c.as_slice.ensures.value c.in-Err.ensures.status)
