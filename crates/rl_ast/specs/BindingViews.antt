-- The trees that views show, one level each. Written by tools/syntax.py from tools/grammar.txt.
use Rattle.std.specs.Prelude.{map}
use Rattle.rl_base.specs.TypeKinds.{type_text}
use Rattle.rl_grammar.specs.Fields.{maybe}
use Rattle.rl_syntax.specs.Syntax.{Syntax, End, Flag, Listed, Node, Said, Then, pieces_of, syntax}
use Rattle.rl_ast.specs.declared.binding.BindingIdentifier.{BindingIdentifier}
use Rattle.rl_ast.specs.declared.binding.TypeAnnotation.{TypeAnnotation}
use Rattle.rl_ast.specs.declared.binding.IdentifierReference.{IdentifierReference}
use Rattle.rl_ast.specs.declared.binding.BindingPattern.{BindingPattern}
use Rattle.rl_ast.specs.declared.binding.BindingPattern.TheVariants as binding_pattern
use Rattle.rl_ast.specs.declared.binding.BindingPatternMaybeDefault.{BindingPatternMaybeDefault}
use Rattle.rl_ast.specs.declared.binding.BindingPatternMaybeDefault.TheVariants as binding_pattern_maybe_default
use Rattle.rl_ast.specs.declared.binding.BindingPatternElement.{BindingPatternElement}
use Rattle.rl_ast.specs.declared.binding.BindingPatternElement.TheVariants as binding_pattern_element
use Rattle.rl_ast.specs.declared.binding.BindingProperty.{BindingProperty}
use Rattle.rl_ast.specs.declared.binding.PropertyKey.{PropertyKey}
use Rattle.rl_ast.specs.declared.binding.PropertyKey.TheVariants as property_key
use Rattle.rl_syntax.specs.declared.word.Word.TheVariants as word

abbrev pub seen_binding_identifier : BindingIdentifier → Syntax
seen_binding_identifier v = Node v.at word.Bind (Then (Said v.name.now) (Then (maybe v.annotation (λ t. syntax t.tree.now)) End))

abbrev pub seen_type_annotation : TypeAnnotation → Syntax
seen_type_annotation v = Node v.at word.Type (Then (Said (type_text v.kind)) (Then (Listed (pieces_of (map syntax v.names.trees.now))) End))

abbrev pub seen_identifier_reference : IdentifierReference → Syntax
seen_identifier_reference v = Node v.at word.Id (Then (Said v.name.now) End)

abbrev pub seen_binding_pattern : BindingPattern → Syntax
seen_binding_pattern (binding_pattern.Identifier inner) = syntax inner.tree.now
seen_binding_pattern (binding_pattern.Array at items rest) = Node at word.Arraypat (Then (Listed (pieces_of (map syntax items.trees.now))) (Then (maybe rest (λ t. syntax t.tree.now)) End))
seen_binding_pattern (binding_pattern.Object at properties rest) = Node at word.Objectpat (Then (Listed (pieces_of (map syntax properties.trees.now))) (Then (maybe rest (λ t. syntax t.tree.now)) End))

abbrev pub seen_binding_pattern_maybe_default : BindingPatternMaybeDefault → Syntax
seen_binding_pattern_maybe_default (binding_pattern_maybe_default.Pattern inner) = syntax inner.tree.now
seen_binding_pattern_maybe_default (binding_pattern_maybe_default.Default at pattern default) = Node at word.Defaultpat (Then (syntax pattern.tree.now) (Then (syntax default.tree.now) End))

abbrev pub seen_binding_pattern_element : BindingPatternElement → Syntax
seen_binding_pattern_element (binding_pattern_element.Pattern inner) = syntax inner.tree.now
seen_binding_pattern_element (binding_pattern_element.Hole at) = Node at word.Hole End

abbrev pub seen_binding_property : BindingProperty → Syntax
seen_binding_property v = Node v.at word.Keyedpat (Then (Flag v.computed) (Then (syntax v.key.tree.now) (Then (syntax v.value.tree.now) End)))

abbrev pub seen_property_key : PropertyKey → Syntax
seen_property_key (property_key.Name at name) = Node at word.Name (Then (Said name.now) End)
seen_property_key (property_key.Private at name) = Node at word.Private (Then (Said name.now) End)
seen_property_key (property_key.Expression inner) = syntax inner.tree.now
