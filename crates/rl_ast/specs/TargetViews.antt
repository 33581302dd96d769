-- The trees that views show, one level each. Written by tools/syntax.py from tools/grammar.txt.
use Rattle.std.specs.Prelude.{map}
use Rattle.rl_grammar.specs.Fields.{maybe}
use Rattle.rl_syntax.specs.Syntax.{Syntax, End, Flag, Listed, Node, Said, Then, pieces_of, syntax}
use Rattle.rl_ast.specs.declared.target.AssignmentTarget.{AssignmentTarget}
use Rattle.rl_ast.specs.declared.target.AssignmentTarget.TheVariants as assignment_target
use Rattle.rl_ast.specs.declared.target.AssignmentTargetMaybeDefault.{AssignmentTargetMaybeDefault}
use Rattle.rl_ast.specs.declared.target.AssignmentTargetMaybeDefault.TheVariants as assignment_target_maybe_default
use Rattle.rl_ast.specs.declared.target.AssignmentTargetElement.{AssignmentTargetElement}
use Rattle.rl_ast.specs.declared.target.AssignmentTargetElement.TheVariants as assignment_target_element
use Rattle.rl_ast.specs.declared.target.AssignmentTargetProperty.{AssignmentTargetProperty}
use Rattle.rl_ast.specs.declared.target.AssignmentTargetProperty.TheVariants as assignment_target_property
use Rattle.rl_ast.specs.declared.target.AssignmentTargetRest.{AssignmentTargetRest}
use Rattle.rl_syntax.specs.declared.word.Word.TheVariants as word

abbrev pub seen_assignment_target : AssignmentTarget → Syntax
seen_assignment_target (assignment_target.Identifier inner) = syntax inner.tree.now
seen_assignment_target (assignment_target.Member at optional object property) = Node at word.Member (Then (Flag optional) (Then (syntax object.tree.now) (Then (Said property.now) End)))
seen_assignment_target (assignment_target.Index at optional object property) = Node at word.Index (Then (Flag optional) (Then (syntax object.tree.now) (Then (syntax property.tree.now) End)))
seen_assignment_target (assignment_target.PrivateMember at optional object property) = Node at word.Privatemember (Then (Flag optional) (Then (syntax object.tree.now) (Then (Said property.now) End)))
seen_assignment_target (assignment_target.Array at items rest) = Node at word.Arraytarget (Then (Listed (pieces_of (map syntax items.trees.now))) (Then (maybe rest (λ t. syntax t.tree.now)) End))
seen_assignment_target (assignment_target.Object at properties rest) = Node at word.Objecttarget (Then (Listed (pieces_of (map syntax properties.trees.now))) (Then (maybe rest (λ t. syntax t.tree.now)) End))
seen_assignment_target (assignment_target.As at expression annotation) = Node at word.As (Then (syntax expression.tree.now) (Then (syntax annotation.tree.now) End))
seen_assignment_target (assignment_target.Satisfies at expression annotation) = Node at word.Satisfies (Then (syntax expression.tree.now) (Then (syntax annotation.tree.now) End))
seen_assignment_target (assignment_target.Assert at annotation expression) = Node at word.Assert (Then (syntax annotation.tree.now) (Then (syntax expression.tree.now) End))
seen_assignment_target (assignment_target.NonNull at expression) = Node at word.Nonnull (Then (syntax expression.tree.now) End)

abbrev pub seen_assignment_target_maybe_default : AssignmentTargetMaybeDefault → Syntax
seen_assignment_target_maybe_default (assignment_target_maybe_default.Target inner) = syntax inner.tree.now
seen_assignment_target_maybe_default (assignment_target_maybe_default.Default at target default) = Node at word.Default (Then (syntax target.tree.now) (Then (syntax default.tree.now) End))

abbrev pub seen_assignment_target_element : AssignmentTargetElement → Syntax
seen_assignment_target_element (assignment_target_element.Target inner) = syntax inner.tree.now
seen_assignment_target_element (assignment_target_element.Hole at) = Node at word.Hole End

abbrev pub seen_assignment_target_property : AssignmentTargetProperty → Syntax
seen_assignment_target_property (assignment_target_property.Short at name default) = Node at word.Short (Then (syntax name.tree.now) (Then (maybe default (λ t. syntax t.tree.now)) End))
seen_assignment_target_property (assignment_target_property.Keyed at computed key value) = Node at word.Keyed (Then (Flag computed) (Then (syntax key.tree.now) (Then (syntax value.tree.now) End)))

abbrev pub seen_assignment_target_rest : AssignmentTargetRest → Syntax
seen_assignment_target_rest v = Node v.at word.Rest (Then (syntax v.target.tree.now) End)
