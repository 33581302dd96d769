-- Promises of the lowering of a part, from its derivation.
use Rattle.std.proofs.Common.{Bool, List, Option, refl, arith}
use Rattle.rl_frames.specs.SwitchParts.{switch_begun}
use Rattle.rl_hir.specs.declared.instruction.InstructionKind.{InstructionKind}
use Rattle.rl_hir.specs.declared.terminal.Case.{Case}
use Rattle.rl_lowered.proofs.Common.{BlockId, Names, Piece, Pieces, Place, Span, State, Syntax}
use Rattle.rl_lowered.proofs.Names.{all_names, case_test_names, cases_names, expression_names, front_names, head_names, init_names}
use Rattle.rl_lowered.proofs.Names.{last_names, link_names, loop_names, names_same, spine_names, statement_names, statements_names}
use Rattle.rl_lowered.proofs.Names.{bound_names, later_names, pattern_names, target_names, test_names}
use Rattle.rl_lowered.proofs.Sizes.{all_size, case_test_size, cases_size, expression_size, front_size, head_size, init_size, last_size}
use Rattle.rl_lowered.proofs.Sizes.{later_size, left_size, pattern_size, target_size}
use Rattle.rl_lowered.proofs.Sizes.{link_size, loop_size, spine_size, statement_size, statements_size, test_size}
use Rattle.rl_lowered.specs.Forms.{Front}
use Rattle.rl_lowered.specs.Lowered.{Lowered, LoweredAll, LoweredCaseTest, LoweredCases, LoweredFront, LoweredHead, LoweredInit}
use Rattle.rl_lowered.specs.Lowered.{LoweredLast, LoweredLink, LoweredLoop, LoweredProperties, LoweredSpine, LoweredStatement}
use Rattle.rl_lowered.specs.Items.{Later}
use Rattle.rl_lowered.specs.Lowered.{LoweredBound, LoweredLater, LoweredPattern, LoweredStatements, LoweredTarget}
use Rattle.rl_lowered.specs.Lowered.{LoweredTest}
use Rattle.rl_lowered.specs.Promised.{LowersAll, LowersCaseTest, LowersCases, LowersExpression, LowersFront, LowersHead, LowersInit}
use Rattle.rl_lowered.specs.Promised.{LowersLast, LowersLink, LowersLoop, LowersProperties, LowersSpine, LowersStatement}
use Rattle.rl_lowered.specs.Promised.{LowersBound, LowersLater, LowersPattern, LowersStatements, LowersTarget, LowersTest}
use Rattle.rl_model.specs.Actions.{Label}

pub told : {names : Names} {e : Syntax} {s t : State} {p : Place} → Lowered names e s t p → LowersExpression names e s t p
told l = record { by = l; named = (expression_names l).named; size = expression_size l }

pub told_spine : {names : Names} {below : Bool} {e : Syntax} {s t : State} {p : Place} → LoweredSpine names below e s t p
    → LowersSpine names below e s t p
told_spine l = record { by = l; named = (spine_names l).named; size = spine_size l }

pub told_link : {names : Names} {alternate : Option BlockId} {e : Syntax} {s t : State} {front : Front} {p : Place}
    → LoweredLink names alternate e s t front p → LowersLink names alternate e s t front p
told_link l = record { by = l; named = (link_names l).named; size = link_size l }

pub told_front : {names : Names} {alternate : BlockId} {called : Bool} {e : Syntax} {s t : State} {front : Front}
    → LoweredFront names alternate called e s t front → LowersFront names alternate called e s t front
told_front l = record { by = l; named = (front_names l).named; size = front_size l }

pub told_all : {names : Names} {es : Pieces} {s t : State} {pieces : List Piece} → LoweredAll names es s t pieces
    → LowersAll names es s t pieces
told_all l = record { by = l; named = (all_names l).named; size = all_size l }

pub told_properties : {names : Names} {es : Pieces} {s t : State} {pieces : List Piece} → LoweredProperties names es s t pieces
    → LowersProperties names es s t pieces
told_properties l = record { by = l; named = (all_names l).named; size = all_size l }

pub told_last : {names : Names} {es : Pieces} {s t : State} {p : Place} → LoweredLast names es s t p
    → LowersLast names es s t p
told_last l = record { by = l; named = (last_names l).named; size = last_size l }

pub told_statement : {names : Names} {e : Syntax} {s t : State} → LoweredStatement names e s t → LowersStatement names e s t
told_statement l = record { by = l; named = (statement_names l).named; size = statement_size l }

pub told_loop : {names : Names} {own : Label} {e : Syntax} {s t : State} → LoweredLoop names own e s t → LowersLoop names own e s t
told_loop l = record { by = l; named = (loop_names l).named; size = loop_size l }

pub told_init : {names : Names} {at : Span} {e : Syntax} {s t : State} → LoweredInit names at e s t → LowersInit names at e s t
told_init l = record { by = l; named = (init_names l).named; size = init_size l }

pub told_test : {names : Names} {at : Span} {e : Syntax} {s t : State} {p : Place} → LoweredTest names at e s t p
    → LowersTest names at e s t p
told_test l = record { by = l; named = (test_names l).named; size = test_size l }

pub told_head : {names : Names} {value : Place} {e : Syntax} {s t : State} {p : Place} → LoweredHead names value e s t p
    → LowersHead names value e s t p
told_head l = record { by = l; named = (head_names l).named; size = head_size l }

pub told_statements : {names : Names} {es : Pieces} {s t : State} → LoweredStatements names es s t → LowersStatements names es s t
told_statements l = record { by = l; named = (statements_names l).named; size = statements_size l }

pub told_case_test : {names : Names} {e : Syntax} {s t : State} {p : Option Place} → LoweredCaseTest names e s t p
    → LowersCaseTest names e s t p
told_case_test l = record { by = l; named = (case_test_names l).named; size = case_test_size l }

-- Defaults, targets and patterns.

pub told_target : {names : Names} {at : Span} {value : Place} {e : Syntax} {s t : State} {p : Place}
    → LoweredTarget names at value e s t p → LowersTarget names at value e s t p
told_target l = record { by = l; named = (target_names l).named; size = omega (arith, target_size l) }

pub told_later : {names : Names} {later : List Later} {s t : State} → LoweredLater names later s t → LowersLater names later s t
told_later l = record { by = l; named = (later_names l).named; size = omega (arith, later_size l) }

pub told_pattern : {names : Names} {again : Bool} {k : InstructionKind} {at : Span} {value : Place} {e : Syntax} {s t : State} {p : Place}
    → LoweredPattern names again k at value e s t p → LowersPattern names again k at value e s t p
told_pattern l = record { by = l; named = (pattern_names l).named; size = omega (arith, pattern_size l) }

pub told_bound : {names : Names} {again : Bool} {k : InstructionKind} {later : List Later} {s t : State}
    → LoweredBound names again k later s t → LowersBound names again k later s t
told_bound l = record { by = l; named = (bound_names l).named; size = omega (arith, left_size l) }

-- The block that was numbered for what follows a `switch` is told with its cases.
pub told_cases : {names : Names} {s : State} {es : Pieces} {ks : List Case} {t : State} → LoweredCases names s es ks t
    → LowersCases names s es ks t
told_cases {s = s} l = record {
  by = l;
  named = λ n. (cases_names l).named ((names_same s (switch_begun s) refl).named n);
  size = cases_size l;
}
