-- Parts of targets that were left for later: they are lowerable, and leave room.
use Rattle.std.proofs.Common.{◌≡◌, ◌+◌, ◌*◌, ◌<◌, ◌≤◌, ◌^◌, ◌&&◌, Bool, true, false, not, List, [], ◌∷◌, length, refl, subst, arith}
use Rattle.rl_builder.specs.Builder.{State}
use Rattle.rl_grammar.proofs.Viewing.{first_fits, is_leaf, of_sort, rest_fit}
use Rattle.rl_grammar.specs.Grammar.{every}
use Rattle.rl_grammar.specs.declared.kind.Kind.{Kind}
use Rattle.rl_grammar.specs.declared.kind.Kind.TheVariants as kind
use Rattle.rl_hir.specs.Pieces.{Piece}
use Rattle.rl_lower_parts.proofs.TargetTrees.{node_counts}
use Rattle.rl_lower_parts.specs.Patterns.{AreLowerableLeft, HasLeftRoom, all_left, seen_part}
use Rattle.rl_lower_parts.specs.declared.target_items.LeftTarget.{LeftTarget}
use Rattle.rl_lower_parts.specs.declared.target_items.TargetPart.{TargetPart}
use Rattle.rl_lower_parts.specs.declared.target_items.TargetPart.TheVariants as part
use Rattle.rl_lowered.proofs.ItemSizes.{ahead_size, count_of, item_nodes, taken_size}
use Rattle.rl_lowered.specs.Forms.{Element, IsItem, Shorthand, ShorthandDefault, TakenProperty}
use Rattle.rl_lowered.specs.Items as items
use Rattle.rl_lowered.specs.Items.{Later, LoweredAhead, TakenItems}
use Rattle.rl_lowered.specs.Promised.{HasRoom, nodes_left, share}
use Rattle.rl_model.specs.Shapes.{is_plain_rest}
use Rattle.rl_names.specs.Names.{Names}
use Rattle.rl_promises.specs.Lowerable.{AreLowerableTo, IsLowerableTo, Where}
use Rattle.rl_promises.specs.Patterns.{is_lost_item}
use Rattle.rl_runs.specs.Blocks.{size_of}
use Rattle.rl_syntax.specs.Syntax.{Syntax, Pieces, End, Then, nodes, nodes_of, syntax}

-- Nodes.

pub part_counts : (p : TargetPart) → 1 ≤ nodes (seen_part p)
part_counts (part.MaybeDefault t) =
    node_counts (syntax t.tree.now) (of_sort kind.AssignmentTargetMaybeDefault (syntax t.tree.now) refl t.fit)
part_counts (part.Target t) = node_counts (syntax t.tree.now) (of_sort kind.AssignmentTarget (syntax t.tree.now) refl t.fit)
part_counts (part.Name t) = node_counts (syntax t.tree.now) (of_sort kind.IdentifierReference (syntax t.tree.now) refl t.fit)
part_counts (part.Short at name default) = omega arith

pub left_counts : (left : List LeftTarget) → length (all_left left) ≤ nodes_left (all_left left)
left_counts [] = omega arith
left_counts (x ∷ left) = omega (arith, part_counts x.part, left_counts left)

pub row_counts : (k : Kind) (ps : Pieces) → is_leaf k ≡ false → every k ps ≡ true → count_of ps ≤ nodes_of ps
row_counts k End leaf h = omega arith
row_counts k (Then p ps) leaf h =
    omega (
      arith,
      node_counts p (of_sort k p leaf (first_fits k (Then p ps) p ps refl h)),
      row_counts k ps leaf (rest_fit k (Then p ps) p ps refl h),
    )

pub taken_nodes : {names : Names} {of_object forced : Bool} {es : Pieces} {rest : Syntax} {s u : State} {pieces : List Piece}
    {later : List Later} → TakenItems names of_object forced es rest s u pieces later → nodes_left later ≤ nodes_of es + nodes rest
taken_nodes (items.NoItem s) = omega arith
taken_nodes (items.RestTaken there target s is) = omega arith
taken_nodes (items.RestLost rest s is) = omega arith
taken_nodes (items.ItemHole there es rest s t pieces later d) = omega (arith, taken_nodes d)
taken_nodes (items.ItemLost item es rest s t pieces later shaped is d) = omega (arith, taken_nodes d)
taken_nodes (items.ItemVariable item es rest there name symbol identifier s t key pieces later is means kept mutable f d) =
    omega (arith, taken_nodes d)
taken_nodes (items.ItemConstant item es rest there name symbol identifier s t key pieces later is means kept constant f d) =
    omega (arith, taken_nodes d)
taken_nodes (items.ItemLater item part es rest s t key pieces later is kept d) = omega (arith, item_nodes is, taken_nodes d)

-- Parts of items are lowerable.

item_may : (names : Names) {of_object : Bool} {item part : Syntax} {key : List Piece} → IsItem false of_object item key part
    → is_lost_item item ≡ false → IsLowerableTo names item → IsLowerableTo names part
item_may names (Element is shaped) kept may = may
item_may names (TakenProperty {at} {key} {target} {text} is) kept may =
    subst (λ (b : Bool). Where (not b) (IsLowerableTo names target)) kept may
item_may names Shorthand kept may = may.1
item_may names (ShorthandDefault is) kept may = may

pub taken_may : {names : Names} {of_object forced : Bool} {es : Pieces} {rest : Syntax} {s u : State} {pieces : List Piece}
    {later : List Later} → TakenItems names of_object forced es rest s u pieces later → AreLowerableTo names es
    → Where (not (of_object && not (is_plain_rest rest))) (IsLowerableTo names rest) → AreLowerableLeft names later
taken_may (items.NoItem s) may last = tt
taken_may {names} (items.RestTaken there target s is) may last =
    (subst (λ (b : Bool). Where (not b) (IsLowerableTo names target)) is last, tt)
taken_may (items.RestLost rest s is) may last = tt
taken_may (items.ItemHole there es rest s t pieces later d) may last = taken_may d may.1 last
taken_may (items.ItemLost item es rest s t pieces later shaped is d) may last = taken_may d may.1 last
taken_may (items.ItemVariable item es rest there name symbol identifier s t key pieces later is means kept mutable f d) may last =
    taken_may d may.1 last
taken_may (items.ItemConstant item es rest there name symbol identifier s t key pieces later is means kept constant f d) may last =
    taken_may d may.1 last
taken_may {names} (items.ItemLater item part es rest s t key pieces later is kept d) may last =
    (item_may names is kept may.0, taken_may d may.1 last)

pub object_rest : (X : Type 0) (plain : Bool) → Where plain X → Where (not (true && not plain)) X
object_rest X true holds = holds
object_rest X false holds = tt

-- Room in front of the look-ups, behind them, behind the items, and behind the instruction that takes the value apart.

pub look_room : (s : State) (es : Pieces) (rest : Syntax) → size_of s + 64 * (nodes_of es + (nodes rest + 0) + 1) < 2 ^ 31 + 40
    → HasRoom s (share (nodes_of es))
look_room s es rest room = omega (arith, room)

pub take_room : {names : Names} {forced : Bool} {s t : State} (es : Pieces) (rest : Syntax)
    → size_of s + 64 * (nodes_of es + (nodes rest + 0) + 1) < 2 ^ 31 + 40 → count_of es ≤ nodes_of es
    → LoweredAhead names es rest s t forced → HasRoom t (4 * nodes_of es + 4)
take_room es rest room counted ahead = omega (arith, room, counted, ahead_size ahead)

pub apart_room : {names : Names} {of_object forced : Bool} {es : Pieces} {rest : Syntax} {s t u : State} {pieces : List Piece}
    (left : List LeftTarget) → size_of s + 64 * (nodes_of es + (nodes rest + 0) + 1) < 2 ^ 31 + 40
    → LoweredAhead names es rest s t forced → TakenItems names of_object forced es rest t u pieces (all_left left) → HasRoom u 4
apart_room left room ahead taken = omega (arith, room, ahead_size ahead, taken_size taken, left_counts left)

pub left_room : {names : Names} {of_object forced : Bool} {es : Pieces} {rest : Syntax} {s t u : State} {pieces : List Piece}
    (left : List LeftTarget) (v : State) → size_of v ≤ size_of u + 4
    → size_of s + 64 * (nodes_of es + (nodes rest + 0) + 1) < 2 ^ 31 + 40 → LoweredAhead names es rest s t forced
    → TakenItems names of_object forced es rest t u pieces (all_left left) → HasLeftRoom v (all_left left)
left_room left v grown room ahead taken = omega (arith, room, grown, ahead_size ahead, taken_size taken)
