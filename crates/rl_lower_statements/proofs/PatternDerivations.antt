-- Derivations of binding patterns, and the room and the nodes of the parts that are left for behind the instruction that takes a value
-- apart.
use Rattle.std.proofs.Common.{◌≡◌, ℕ, ◌+◌, ◌*◌, ◌<◌, ◌≤◌, Bool, true, false, true≢false, not, List, [], ◌∷◌, length, Option, Some}
use Rattle.std.proofs.Common.{Result, Ok, Err, OnOk, IfOk, refl, sym, ap, ◌∙◌, subst, arith}
use Rattle.rl_base.specs.declared.span.Span.{Span}
use Rattle.rl_base.specs.declared.stop.Stop.{Stop}
use Rattle.rl_builder.specs.Builder.{State}
use Rattle.rl_builder.specs.Temporaries.{temporary, with_value}
use Rattle.rl_grammar.proofs.Viewing.{of_sort}
use Rattle.rl_grammar.specs.Grammar.{fits}
use Rattle.rl_grammar.specs.declared.kind.Field.TheVariants as field
use Rattle.rl_grammar.specs.declared.kind.Kind.TheVariants as kind
use Rattle.rl_hir.specs.Pieces.{Piece, pattern_pieces}
use Rattle.rl_hir.specs.declared.instruction.InstructionKind.{InstructionKind}
use Rattle.rl_hir.specs.declared.instruction.InstructionValue.{InstructionValue}
use Rattle.rl_hir.specs.declared.instruction.InstructionValue.TheVariants as values
use Rattle.rl_hir.specs.declared.instruction.Pattern.{Pattern}
use Rattle.rl_hir.specs.declared.instruction.Place.{Place}
use Rattle.rl_lower_statements.specs.Declarators.{IsMet}
use Rattle.rl_lower_statements.specs.Patterns.{AreLowerableLeft, HasPatternRoom, all_left, seen_part}
use Rattle.rl_lower_statements.specs.declared.pattern_items.LeftPattern.{LeftPattern}
use Rattle.rl_lower_statements.specs.declared.pattern_items.PatternPart.{PatternPart}
use Rattle.rl_lower_statements.specs.declared.pattern_items.PatternPart.TheVariants as part
use Rattle.rl_lower_parts.proofs.TargetTrees.{node_counts}
use Rattle.rl_lower_parts.specs.Patterns.{HasLeftRoom, TakesDefault}
use Rattle.rl_lowered.proofs.ItemSizes.{bound_size, item_nodes}
use Rattle.rl_lowered.proofs.Names.{items_names, names_value}
use Rattle.rl_lowered.proofs.Sizes.{pattern_size}
use Rattle.rl_lowered.proofs.Told.{told_pattern}
use Rattle.rl_lowered.specs.Forms.{BoundProperty, Element, IsAnnotation, IsItem}
use Rattle.rl_lowered.specs.Items as items
use Rattle.rl_lowered.specs.Items.{BoundItems, IsBinding, Later, destructured, form_piece, met, variable_at}
use Rattle.rl_lowered.specs.Lowered as lowered
use Rattle.rl_lowered.specs.Lowered.{LoweredBound, LoweredPattern}
use Rattle.rl_lowered.specs.Named.{IsNamed}
use Rattle.rl_lowered.specs.Promised.{HasRoom, LowersBound, LowersPattern, nodes_left, share}
use Rattle.rl_model.specs.Shapes.{is_plain_rest}
use Rattle.rl_names.specs.Names.{Names}
use Rattle.rl_promises.specs.Lowerable.{AreLowerable, IsLowerable, Where}
use Rattle.rl_promises.specs.Patterns.{is_lost_item}
use Rattle.rl_runs.specs.Blocks.{size_of}
use Rattle.rl_syntax.specs.declared.numbered.At.{At}
use Rattle.rl_syntax.specs.declared.word.Word.{Word}
use Rattle.rl_syntax.specs.declared.word.Word.TheVariants as word
use Rattle.rl_syntax.specs.Syntax.{Syntax, Node, Listed, Said, Pieces, End, Then, nodes, nodes_of, span_of, syntax}

-- Nodes.

pub pattern_node : (t : Syntax) → fits (field.One kind.BindingPattern) t ≡ true → 1 ≤ nodes t
pattern_node t fit = node_counts t (of_sort kind.BindingPattern t refl fit)

pub part_node : (p : PatternPart) → 1 ≤ nodes (seen_part p)
part_node (part.MaybeDefault pattern) =
    node_counts (syntax pattern.tree.now) (of_sort kind.BindingPatternMaybeDefault (syntax pattern.tree.now) refl pattern.fit)
part_node (part.Pattern pattern) = pattern_node (syntax pattern.tree.now) pattern.fit

pub left_nodes : (l : List LeftPattern) → length (all_left l) ≤ nodes_left (all_left l)
left_nodes [] = omega arith
left_nodes (x ∷ l) = omega (arith, part_node x.part, left_nodes l)

pub bound_nodes : {names : Names} {again of_object : Bool} {es : Pieces} {rest : Syntax} {s u : State} {pieces : List Piece}
    {later : List Later} → BoundItems names again of_object es rest s u pieces later → nodes_left later ≤ nodes_of es + nodes rest
bound_nodes (items.NoBound s) = omega arith
bound_nodes (items.RestNamed there bind name type symbol identifier s annotated is f) = omega arith
bound_nodes (items.RestNested there pattern s is) = omega arith
bound_nodes (items.RestUnbound rest s is) = omega arith
bound_nodes (items.BoundHole there es rest s t pieces later d) = omega (arith, bound_nodes d)
bound_nodes (items.BoundLost item es rest s t pieces later shaped is d) = omega (arith, bound_nodes d)
bound_nodes (items.BoundVariable item es rest bind name type symbol identifier s t key pieces later is annotated kept declared f d) =
    omega (arith, bound_nodes d)
bound_nodes (items.BoundLater item part es rest s t key pieces later is kept behind d) = omega (arith, item_nodes is, bound_nodes d)

-- The parts that are left, as a slice.
pub bound_slice : {names : Names} {again of_object : Bool} {es : Pieces} {rest : Syntax} {s u : State} {pieces : List Piece}
    {left parts : List LeftPattern} → parts ≡ left → BoundItems names again of_object es rest s u pieces (all_left left)
    → BoundItems names again of_object es rest s u pieces (all_left parts)
bound_slice {names} {again} {of_object} {es} {rest} {s} {u} {pieces} same d =
    subst (λ (l : List LeftPattern). BoundItems names again of_object es rest s u pieces (all_left l)) (sym same) d

-- The parts that are left may be lowered.

part_may : (names : Names) {of_object : Bool} {item part : Syntax} {key : List Piece} → IsItem true of_object item key part
    → is_lost_item item ≡ false → IsLowerable names item → IsLowerable names part
part_may names (Element whole shaped) kept may = may
part_may names (BoundProperty {at} {key} {pattern} {text} is) kept may =
    subst (λ (b : Bool). Where (not b) (IsLowerable names pattern)) kept may

pub bound_may : {names : Names} {again of_object : Bool} {es : Pieces} {rest : Syntax} {s u : State} {pieces : List Piece}
    {later : List Later} → BoundItems names again of_object es rest s u pieces later → AreLowerable names es
    → (of_object ≡ false → IsLowerable names rest) → AreLowerableLeft names later
bound_may (items.NoBound s) may behind = tt
bound_may (items.RestNamed there bind name type symbol identifier s annotated is f) may behind = tt
bound_may (items.RestNested there pattern s is) may behind = ((behind refl).1.0, tt)
bound_may (items.RestUnbound rest s is) may behind = tt
bound_may (items.BoundHole there es rest s t pieces later d) may behind = bound_may d may.1 behind
bound_may (items.BoundLost item es rest s t pieces later shaped is d) may behind = bound_may d may.1 behind
bound_may (items.BoundVariable item es rest bind name type symbol identifier s t key pieces later is annotated kept declared f d) may
    behind = bound_may d may.1 behind
bound_may {names} (items.BoundLater item part es rest s t key pieces later is kept later_met d) may behind =
    (part_may names is kept may.0, bound_may d may.1 behind)

-- A name.
pub stored_name_ok : {names : Names} {again : Bool} {bind : At} {identifier : ℕ} {old mid : State} (name : List ℕ) (type : Syntax)
    (r : Result Place Stop) (k : InstructionKind) (at : Span) (value : Place) (new : State) → IsAnnotation type
    → IsMet names again bind old mid identifier
    → OnOk r (new ≡ with_value mid (values.StoreLocal k (variable_at identifier at) value) (Some at))
    → IfOk r (λ place. place ≡ temporary mid (Some at))
    → IfOk r (λ place. LowersPattern names again k at value (Node bind word.Bind (Then (Said name) (Then type End))) old new place)
stored_name_ok {names} {again} {bind} {identifier} {old} {mid} name type (Ok place) k at value new annotated m moved placed =
    let tree : Syntax = Node bind word.Bind (Then (Said name) (Then type End)) in
    told_pattern
    (subst (λ (o : State). LoweredPattern names again k at value tree old o place)
    (sym (moved ∙ ap (λ (o : State). with_value o (values.StoreLocal k (variable_at identifier at) value) (Some at)) m.moved))
    (subst (λ (p : Place). LoweredPattern names again k at value tree old
    (with_value (met again names old m.symbol identifier bind.span) (values.StoreLocal k (variable_at identifier at) value) (Some at)) p)
    (sym (placed ∙ ap (λ (o : State). temporary o (Some at)) m.moved))
    (lowered.BoundName bind name type m.symbol identifier old annotated m.declared m.bound)))
stored_name_ok name type (Err e) k at value new annotated m moved placed = tt

-- A pattern, from the view of its tree.

pub pattern_told : {names : Names} {again : Bool} {k : InstructionKind} {at : Span} {value : Place} {e tree : Syntax} {s t : State}
    {p : Place} → e ≡ tree → LowersPattern names again k at value e s t p → LowersPattern names again k at value tree s t p
pattern_told {names} {again} {k} {at} {value} {s = s} {t} {p} is l =
    subst (λ (e : Syntax). LowersPattern names again k at value e s t p) is l

pub viewed_ok : {e tree : Syntax} (names : Names) (again : Bool) (k : InstructionKind) (at : Span) (value : Place) (s t : State)
    (r : Result Place Stop) → e ≡ tree → IfOk r (λ place. LowersPattern names again k at value e s t place)
    → IfOk r (λ place. LowersPattern names again k at value tree s t place)
viewed_ok names again k at value s t (Ok place) is l = pattern_told is l
viewed_ok names again k at value s t (Err e) is l = tt

-- A default.
pub defaulted_ok : {names : Names} {value q : Place} {there : At} {pattern default tree : Syntax} {s u : State} (again : Bool)
    (k : InstructionKind) (at : Span) (r : Result Place Stop) (new : State)
    → Node there word.Defaultpat (Then pattern (Then default End)) ≡ tree → TakesDefault names there.span default value s u q
    → IfOk r (λ place. LowersPattern names again k there.span q pattern u new place)
    → IfOk r (λ place. LowersPattern names again k at value tree s new place)
defaulted_ok {names} {value} {q} {there} {pattern} {default} {tree} {s} {u} again k at (Ok place) new is d l =
    pattern_told is
    (told_pattern (lowered.BoundDefault there pattern default s d.behind new d.given place d.by
    (subst (λ (o : State). LoweredPattern names again k there.span (temporary s (Some there.span)) pattern o new place) d.moved
    (subst (λ (p : Place). LoweredPattern names again k there.span p pattern u new place) d.taken l.by))))
defaulted_ok again k at (Err e) new is d l = tt

-- The default and the pattern have room, where both have room together.

pub default_room : {there : At} {pattern default tree : Syntax} (s : State)
    → Node there word.Defaultpat (Then pattern (Then default End)) ≡ tree → fits (field.One kind.BindingPattern) pattern ≡ true
    → HasPatternRoom s tree → HasRoom s (share (nodes default + 1))
default_room {there} {pattern} {default} {tree} s is fit room =
    let counted : nodes (Node there word.Defaultpat (Then pattern (Then default End))) ≡ nodes tree = ap nodes is in
    omega (arith, counted, pattern_node pattern fit, room)

pub behind_room : {names : Names} {there : At} {pattern default tree : Syntax} {value q : Place} (s u : State)
    → Node there word.Defaultpat (Then pattern (Then default End)) ≡ tree → TakesDefault names there.span default value s u q
    → HasPatternRoom s tree → HasPatternRoom u pattern
behind_room {names} {there} {pattern} {default} {tree} s u is d room =
    let counted : nodes (Node there word.Defaultpat (Then pattern (Then default End))) ≡ nodes tree = ap nodes is in
    omega (arith, counted, d.size, room)

pub default_may : (names : Names) {there : At} {pattern default tree : Syntax}
    → Node there word.Defaultpat (Then pattern (Then default End)) ≡ tree → IsLowerable names tree
    → IsLowerable names pattern × IsLowerable names default
default_may names is may = let both = (subst (IsLowerable names) (sym is) may).1 in (both.0, both.1.0)

-- A pattern that takes a value apart.

pub apart_told : {names : Names} {again of_object : Bool} {w : Word} {k : InstructionKind} {at : Span} {value place : Place} {there : At}
    {es : Pieces} {rest tree : Syntax} {pieces : List Piece} {later : List Later} {s u a v : State} (pattern : Pattern)
    → IsBinding w of_object → Node there w (Then (Listed es) (Then rest End)) ≡ tree
    → BoundItems names again of_object es rest s u pieces later → pattern_pieces pattern ≡ form_piece of_object ∷ pieces
    → a ≡ with_value u (destructured k pattern value) (Some at) → place ≡ temporary u (Some at)
    → LowersBound names again k later a v → LowersPattern names again k at value tree s v place
apart_told {names} {again} {of_object} {w} {k} {at} {value} {place} {there} {es} {rest} {tree} {pieces} {later} {s} {u} {a} {v} pattern
    binding is bound shaped moved placed l =
    pattern_told is
    (told_pattern
    (subst (λ (p : Place). LoweredPattern names again k at value (Node there w (Then (Listed es) (Then rest End))) s v p) (sym placed)
    (lowered.BoundPattern there w of_object es rest pattern pieces later s u v binding bound shaped
    (subst (λ (o : State). LoweredBound names again k later o v) moved l.by))))

module _ {there : At} {w : Word} {es : Pieces} {rest tree : Syntax} (s : State)
    (is : Node there w (Then (Listed es) (Then rest End)) ≡ tree) (room : HasPatternRoom s tree) where
  counted : nodes tree ≡ nodes_of es + nodes rest + 1
  counted =
      let same : nodes (Node there w (Then (Listed es) (Then rest End))) ≡ nodes tree = ap nodes is in
      omega (arith, same)

  pub items_room : HasRoom s (4 * nodes_of es + 4)
  items_room = omega (arith, counted, room)

  pub apart_room : {names : Names} {again of_object : Bool} {u : State} {pieces : List Piece} (left : List LeftPattern)
      → BoundItems names again of_object es rest s u pieces (all_left left) → HasRoom u 4
  apart_room left bound = omega (arith, counted, room, bound_size bound, left_nodes left)

  pub left_room : {names : Names} {again of_object : Bool} {u : State} {pieces : List Piece} (left : List LeftPattern) (a : State)
      → BoundItems names again of_object es rest s u pieces (all_left left) → size_of a ≤ size_of u + 4 → HasLeftRoom a (all_left left)
  left_room left a bound more = omega (arith, counted, room, bound_size bound, more)

  pub left_fewer : {names : Names} {again of_object : Bool} {u : State} {pieces : List Piece} {later : List Later}
      → BoundItems names again of_object es rest s u pieces later → 4 * nodes_left later + 3 < 4 * nodes tree
  left_fewer bound = omega (arith, counted, bound_nodes bound)

-- The names behind the instruction.

pub apart_named : {names : Names} {again of_object : Bool} {es : Pieces} {rest : Syntax} {s u a : State} {pieces : List Piece}
    {later : List Later} (v : InstructionValue) (span : Option Span)
    → a ≡ with_value u v span → BoundItems names again of_object es rest s u pieces later
    → IsNamed names s → IsNamed names a
apart_named {names} {u = u} v span moved d n =
    subst (IsNamed names) (sym moved) ((names_value {names = names} u v span).named ((items_names d).named n))

-- The items and the rest may be lowered.

pub array_may : (names : Names) {there : At} {es : Pieces} {rest tree : Syntax}
    → Node there word.Arraypat (Then (Listed es) (Then rest End)) ≡ tree → IsLowerable names tree
    → AreLowerable names es × IsLowerable names rest
array_may names is may = let both = (subst (IsLowerable names) (sym is) may).1 in (both.0, both.1.0)

pub object_may : (names : Names) {there : At} {es : Pieces} {rest tree : Syntax}
    → Node there word.Objectpat (Then (Listed es) (Then rest End)) ≡ tree → IsLowerable names tree
    → AreLowerable names es × Where (is_plain_rest rest) (IsLowerable names rest)
object_may names is may = subst (IsLowerable names) (sym is) may

-- No part that is left is the rest of an object.
pub no_rest : {X : Type 0} → true ≡ false → X
no_rest is = absurd (true≢false is)

-- The parts that were left, in order.

pub left_done : {names : Names} {again : Bool} {k : InstructionKind} {left : List LeftPattern} {s : State} → left ≡ []
    → LoweredBound names again k (all_left left) s s
left_done {names} {again} {k} {left} {s} done =
    subst (λ (l : List LeftPattern). LoweredBound names again k (all_left l) s s) (sym done) (lowered.NothingBound s)

pub left_next : {names : Names} {again : Bool} {k : InstructionKind} {left behind : List LeftPattern} {first : LeftPattern}
    {s t new : State} {p : Place} → left ≡ first ∷ behind
    → LowersPattern names again k (span_of (seen_part first.part)) first.value (seen_part first.part) s t p
    → LoweredBound names again k (all_left behind) t new → LoweredBound names again k (all_left left) s new
left_next {names} {again} {k} {left} {behind} {first} {s} {t} {new} {p} split l d =
    subst (λ (x : List LeftPattern). LoweredBound names again k (all_left x) s new) (sym split)
    (lowered.NextBound first.value (seen_part first.part) (all_left behind) s t new p l.by d)

pub first_room : {left behind : List LeftPattern} {first : LeftPattern} (s : State) → left ≡ first ∷ behind
    → HasLeftRoom s (all_left left) → HasPatternRoom s (seen_part first.part)
first_room {left} {behind} {first} s split room =
    let more : HasLeftRoom s (all_left (first ∷ behind)) = subst (λ (l : List LeftPattern). HasLeftRoom s (all_left l)) split room in
    omega (arith, more, left_nodes behind)

pub others_room : {names : Names} {again : Bool} {k : InstructionKind} {left behind : List LeftPattern} {first : LeftPattern} {at : Span}
    {value p : Place} (s t : State) → left ≡ first ∷ behind → LowersPattern names again k at value (seen_part first.part) s t p
    → HasLeftRoom s (all_left left) → HasLeftRoom t (all_left behind)
others_room {left = left} {behind} {first} s t split l room =
    let more : HasLeftRoom s (all_left (first ∷ behind)) = subst (λ (x : List LeftPattern). HasLeftRoom s (all_left x)) split room in
    omega (arith, more, pattern_size l.by)

pub first_may : (names : Names) {left behind : List LeftPattern} {first : LeftPattern} → left ≡ first ∷ behind
    → AreLowerableLeft names (all_left left) → IsLowerable names (seen_part first.part) × AreLowerableLeft names (all_left behind)
first_may names split may = subst (λ (l : List LeftPattern). AreLowerableLeft names (all_left l)) split may

pub left_split : {left behind : List LeftPattern} {first : LeftPattern} → left ≡ first ∷ behind
    → nodes_left (all_left left) ≡ nodes (seen_part first.part) + nodes_left (all_left behind)
left_split split = ap (λ (l : List LeftPattern). nodes_left (all_left l)) split

-- A name has room for its store.
pub name_room : {bind : At} {name : List ℕ} {type tree : Syntax} (s : State)
    → Node bind word.Bind (Then (Said name) (Then type End)) ≡ tree → HasPatternRoom s tree → HasRoom s 6
name_room {bind} {name} {type} {tree} s is room =
    let counted : nodes (Node bind word.Bind (Then (Said name) (Then type End))) ≡ nodes tree = ap nodes is in
    omega (arith, counted, room)
