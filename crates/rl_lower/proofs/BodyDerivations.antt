-- Derivations of bodies.
use Rattle.std.proofs.Common.{◌≡◌, true, List, [], None, Result, Ok, Err, OnOk, map, reverse, refl, ap, sym, ◌∙◌, subst}
use Rattle.rl_base.specs.declared.stop.Stop.{Stop}
use Rattle.rl_builder.specs.Builder.{State, completed_by, new_block, reserved}
use Rattle.rl_builder.specs.declared.blocks.WipBlock.{WipBlock}
use Rattle.rl_builder.specs.declared.jumps.JumpScope.{JumpScope}
use Rattle.rl_grammar.specs.Grammar.{every}
use Rattle.rl_grammar.specs.declared.kind.Kind.TheVariants as sort
use Rattle.rl_hir.specs.declared.function.BlockKind.TheVariants as blocks
use Rattle.rl_hir.specs.declared.instruction.Place.{Place}
use Rattle.rl_hir.specs.declared.terminal.ReturnVariant.TheVariants as returns
use Rattle.rl_lowered.proofs.Names.{names_same}
use Rattle.rl_lowered.specs.Arounds.{around_of, arounds}
use Rattle.rl_lowered.specs.Lowered as lowered
use Rattle.rl_lowered.specs.Lowered.{Lowered, LoweredBody}
use Rattle.rl_lowered.specs.Named.{IsNamed}
use Rattle.rl_lowered.specs.Promised.{LowersExpression, LowersStatements}
use Rattle.rl_names.specs.Names.{Names}
use Rattle.rl_promises.specs.Lowerable.{AreLowerableIn, IsLowerableBody}
use Rattle.rl_runs.specs.Moves.{return_of}
use Rattle.rl_syntax.specs.Syntax.{Syntax, Node, Listed, Pieces, End, Then}
use Rattle.rl_syntax.specs.declared.numbered.At.{At}
use Rattle.rl_syntax.specs.declared.word.Word.TheVariants as word

-- A body that is an expression.

pub reserved_named : {names : Names} (s b : State) → b ≡ reserved s → IsNamed names s → IsNamed names b
reserved_named {names} s b is named = subst (IsNamed names) (sym is) ((names_same s (reserved s) refl).named named)

pub value_body : {names : Names} {tree e : Syntax} {s later mid : State} {p : Place} (new : State) (last : WipBlock) → e ≡ tree
    → later ≡ reserved s → last ≡ new_block s.env.next_block blocks.Block → LowersExpression names e later mid p
    → new ≡ completed_by mid (return_of None returns.Implicit p) last → LoweredBody names tree s new
value_body {names} {tree} {e} {s} {later} {mid} {p} new last is begun fresh l moved =
    subst (λ (t : Syntax). LoweredBody names t s new) is
    (subst (λ (n : State). LoweredBody names e s n)
    (sym (moved ∙ ap (λ (w : WipBlock). completed_by mid (return_of None returns.Implicit p) w) fresh))
    (lowered.Value e s mid p (subst (λ (o : State). Lowered names e o mid p) begun l.by)))

-- A body of statements, around which nothing is.

pub body_may : (names : Names) {at : At} {directives statements : Pieces} {tree : Syntax} (s : State)
    → Node at word.Body (Then (Listed directives) (Then (Listed statements) End)) ≡ tree → s.scopes ≡ [] → IsLowerableBody names tree
    → AreLowerableIn names (arounds s) statements
body_may names {at} {directives} {statements} {tree} s is none may =
    subst (λ (l : List JumpScope). AreLowerableIn names (map around_of (reverse l)) statements) (sym none)
    (subst (IsLowerableBody names) (sym is) may)

pub statements_body_ok : (names : Names) {at : At} {tree : Syntax} (s new : State) (r : Result (Unit {0}) Stop)
    (directives statements : Pieces)
    → Node at word.Body (Then (Listed directives) (Then (Listed statements) End)) ≡ tree → every sort.Text directives ≡ true
    → OnOk r (LowersStatements names statements s new) → OnOk r (LoweredBody names tree s new)
statements_body_ok names {at} {tree} s new (Ok x) directives statements is texts l =
    subst (λ (t : Syntax). LoweredBody names t s new) is (lowered.Statements at directives statements s new texts l.by)
statements_body_ok names {at} {tree} s new (Err e) directives statements is texts l = tt
