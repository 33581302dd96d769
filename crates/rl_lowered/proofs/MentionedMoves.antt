-- A relation that each move of the lowering keeps, of those moves that look up some symbols alone, holds between the states in front of a
-- lowered part that mentions no others and behind it.
use Rattle.std.proofs.Common.{◌≡◌, inl, inr, ℕ, Bool, false, List, [], ◌∷◌, Option, Some, None, refl}
use Rattle.std.proofs.lemmas.Option.{none-some}
use Rattle.rl_base.specs.Diagnostics.{diagnostic_at}
use Rattle.rl_base.specs.declared.row.Row.TheVariants as row
use Rattle.rl_builder.specs.Builder.{recorded, with_temporary}
use Rattle.rl_builder.specs.Temporaries.{temporary, with_value}
use Rattle.rl_frames.specs.Frames.{LogicalParts, TernaryParts, logical_after, logical_at, logical_righted, sequence_at}
use Rattle.rl_frames.specs.Frames.{ternary_after, ternary_alternated, ternary_at, ternary_consequent, ternary_ended, ternary_parted}
use Rattle.rl_frames.specs.Parts.{logical_begun, sequence_begun, ternary_begun}
use Rattle.rl_hir.specs.declared.instruction.InstructionKind.TheVariants as variables
use Rattle.rl_hir.specs.declared.instruction.InstructionKind.{InstructionKind}
use Rattle.rl_hir.specs.declared.instruction.InstructionValue.TheVariants as values
use Rattle.rl_hir.specs.declared.instruction.PrimitiveValue.TheVariants as primitives
use Rattle.rl_lowered.proofs.Carried.{carried_default, carried_linked, carried_logical_begun, carried_logical_ended}
use Rattle.rl_lowered.proofs.Carried.{carried_logical_righted}
use Rattle.rl_lowered.proofs.Carried.{carried_member, carried_noted, carried_sequence_begun, carried_sequence_ended}
use Rattle.rl_lowered.proofs.Carried.{carried_ternary_alternated, carried_ternary_begun, carried_ternary_consequent, carried_typed}
use Rattle.rl_lowered.proofs.Carried.{carried_value}
use Rattle.rl_lowered.proofs.Carrying.{IsCarried, naming}
use Rattle.rl_lowered.proofs.Common.{BlockId, Diagnostic, InstructionValue, Names, Piece, Pieces, Place, Span, State, SymbolId, Syntax}
use Rattle.rl_lowered.proofs.MentionedParts.{ahead_mentions, cast_mentions, default_mentions, form_mentions, item_mentions, key_mentions}
use Rattle.rl_lowered.proofs.MentionedParts.{member_mentions, object_mentions, private_mentions, refusing_mentions, target_mentions}
use Rattle.rl_lowered.proofs.MentionedParts.{binding_mentions, taking_mentions, wrapper_mentions}
use Rattle.rl_lowered.specs.Forms.{Front, call_of, load_of, store_of, tested_front, typed}
use Rattle.rl_lowered.specs.Items as items
use Rattle.rl_lowered.specs.Items.{BoundItems, Later, LoweredAhead, TakenItems, destructured, fraction_met, key_met}
use Rattle.rl_lowered.specs.Items.{promoted, variable_at}
use Rattle.rl_lowered.specs.Lowered as lowered
use Rattle.rl_lowered.specs.Lowered.{Lowered, LoweredBound, LoweredFront, LoweredLast, LoweredLater, LoweredLink, LoweredMoved}
use Rattle.rl_lowered.specs.Lowered.{LoweredParts}
use Rattle.rl_lowered.specs.Lowered.{LoweredPattern, LoweredSpine, LoweredTarget, assigned_to, member_computed, name_computed, name_stored}
use Rattle.rl_lowered.specs.Lowered.{private_met, value_span}
use Rattle.rl_lowered.specs.Named.{IsFound, found}
use Rattle.rl_optional_frames.specs.Frames.{default_at, default_ended, link_at, link_objected}
use Rattle.rl_optional_frames.specs.Parts.{default_begun}
use Rattle.rl_promises.specs.Locals.{Mentions, MentionsAmong}
use Rattle.rl_promises.specs.Moved.{type_name}
use Rattle.rl_promises.specs.Patterns.{fraction_in, lost_item, lost_rest, target_under}
use Rattle.rl_promises.specs.Rows.{refusal, row_of_head}
use Rattle.rl_syntax.specs.Syntax.{span_of}

-- A relation of states that each move keeps which looks up no symbols but those that `May` allows.
pub record IsKept (names : Names) (May : SymbolId → Type 0) (R : State → State → Type 0) : Type 0 where
  pub chain : (a b c : State) → R a b → R b c → R a c
  pub same : (s t : State) → naming s ≡ naming t → R s t
  pub temporary : (s : State) (span : Option Span) → R s (with_temporary s span)
  pub noted : (s : State) (d : Diagnostic) → R s (recorded s d)
  pub promotes : (s : State) (span : Span) → R s (promoted s span)
  pub looked : (s : State) (symbol : SymbolId) (at : Span) (identifier : ℕ) → May symbol → IsFound names s symbol at identifier
      → R s (found names s symbol at)

module _ {names : Names} {May : SymbolId → Type 0} {R : State → State → Type 0} (moves : IsKept names May R) where
  -- The symbols that a tree or some parts mention are allowed.

  abbrev pub Allowed : Syntax → Type 0
  Allowed e = (x : SymbolId) → Mentions names x e → May x

  abbrev pub AllAllowed : Pieces → Type 0
  AllAllowed es = (x : SymbolId) → MentionsAmong names x es → May x

  -- Names by which no variable is found: of moves that look nothing up.
  abbrev nameless : Names
  nameless = record names { declaration = λ symbol. None }

  silent : IsCarried nameless (λ behind s t. R s t)
  silent = record {
    alike = λ s t same r. r;
    chain = λ a b c first second. moves.chain a b c first second;
    same = λ s t is. moves.same s t is;
    temporary = λ s span. moves.temporary s span;
    noted = λ s d. moves.noted s d;
    promotes = λ s span. moves.promotes s span;
    looked = λ s symbol at identifier f. absurd (none-some f.variable.at f.variable.declared);
    again = λ s symbol at identifier f. absurd (none-some f.variable.at f.variable.declared);
  }

  value : (s : State) (v : InstructionValue) (span : Option Span) → R s (with_value s v span)
  value s v span = carried_value silent s v span

  noted_value : (s : State) (d : Diagnostic) (v : InstructionValue) (span : Option Span) → R s (with_value (recorded s d) v span)
  noted_value s d v span = carried_noted silent s d v span

  found_value : (s : State) (symbol : SymbolId) (at : Span) (identifier : ℕ) (v : InstructionValue) (span : Option Span) → May symbol
      → IsFound names s symbol at identifier → R s (with_value (found names s symbol at) v span)
  found_value s symbol at identifier v span may f =
      moves.chain s (found names s symbol at) _ (moves.looked s symbol at identifier may f) (value (found names s symbol at) v span)

  -- A constant is looked up, and refused (row F6).
  found_constant : (s : State) (symbol : SymbolId) (at : Span) (identifier : ℕ) (span : Option Span) → May symbol
      → IsFound names s symbol at identifier
      → R s (with_value (recorded (found names s symbol at) (diagnostic_at row.F6 (names.name symbol.0) at))
      (values.Primitive primitives.Undefined) span)
  found_constant s symbol at identifier span may f =
      let first : State = found names s symbol at in
      moves.chain s first _ (moves.looked s symbol at identifier may f)
      (noted_value first (diagnostic_at row.F6 (names.name symbol.0) at) (values.Primitive primitives.Undefined) span)

  -- The items of patterns.

  fraction_kept : (s : State) (o : Option Span) → R s (fraction_met s o)
  fraction_kept s None = moves.same s s refl
  fraction_kept s (Some at) = moves.noted s (diagnostic_at row.F43 [] at)

  key_kept : (s : State) (item : Syntax) → R s (key_met s item)
  key_kept s item = fraction_kept s (fraction_in item)

  key_promoted : (s : State) (item : Syntax) (span : Span) → R s (promoted (key_met s item) span)
  key_promoted s item span = moves.chain s (key_met s item) _ (key_kept s item) (moves.promotes (key_met s item) span)

  ahead_kept : {es : Pieces} {rest : Syntax} {s t : State} {forced : Bool} → LoweredAhead names es rest s t forced → AllAllowed es → R s t
  ahead_kept (items.NoLook es rest s is) a = moves.same s s refl
  ahead_kept (items.LookEnds s) a = moves.same s s refl
  ahead_kept (items.LookOther item es s is) a = moves.same s s refl
  ahead_kept (items.LookLocal item es symbol identifier s t forced is f d) a =
      moves.chain s _ t
      (moves.looked s symbol (span_of (target_under item)) identifier (a symbol (inl (ahead_mentions names symbol item is))) f)
      (ahead_kept d (λ x m. a x (inr m)))

  taken_kept : {of_object forced : Bool} {es : Pieces} {rest : Syntax} {s t : State} {pieces : List Piece} {later : List Later}
      → TakenItems names of_object forced es rest s t pieces later → AllAllowed es → R s t
  taken_kept (items.NoItem s) a = moves.same s s refl
  taken_kept (items.RestTaken there target s is) a = moves.promotes s there.span
  taken_kept (items.RestLost rest s is) a = moves.noted s (lost_rest rest)
  taken_kept (items.ItemHole there es rest s t pieces later d) a = taken_kept d (λ x m. a x (inr m))
  taken_kept (items.ItemLost item es rest s t pieces later shaped is d) a =
      moves.chain s (recorded s (lost_item item)) t (moves.noted s (lost_item item)) (taken_kept d (λ x m. a x (inr m)))
  taken_kept (items.ItemVariable item es rest there name symbol identifier s t key pieces later is means kept mutable f d) a =
      let at_key : State = key_met s item in
      moves.chain s at_key t (key_kept s item)
      (moves.chain at_key _ t
      (moves.looked at_key symbol there.span identifier (a symbol (inl (item_mentions names symbol is means))) f)
      (taken_kept d (λ x m. a x (inr m))))
  taken_kept (items.ItemConstant item es rest there name symbol identifier s t key pieces later is means kept constant f d) a =
      let at_key : State = key_met s item in
      let first : State = found names at_key symbol there.span in
      let noted : Diagnostic = diagnostic_at row.F6 (names.name symbol.0) there.span in
      moves.chain s at_key t (key_kept s item)
      (moves.chain at_key first t
      (moves.looked at_key symbol there.span identifier (a symbol (inl (item_mentions names symbol is means))) f)
      (moves.chain first (recorded first noted) t (moves.noted first noted) (taken_kept d (λ x m. a x (inr m)))))
  taken_kept (items.ItemLater item part es rest s t key pieces later is kept d) a =
      moves.chain s (promoted (key_met s item) (span_of part)) t (key_promoted s item (span_of part)) (taken_kept d (λ x m. a x (inr m)))

  bound_kept : {of_object : Bool} {es : Pieces} {rest : Syntax} {s t : State} {pieces : List Piece} {later : List Later}
      → BoundItems names false of_object es rest s t pieces later → AllAllowed es → Allowed rest → R s t
  bound_kept (items.NoBound s) a b = moves.same s s refl
  bound_kept (items.RestNamed there bind_at name type declared identifier s annotated is f) a b =
      moves.looked s declared bind_at.span identifier (b declared (inl is)) f
  bound_kept (items.RestNested there pattern s is) a b = moves.promotes s there.span
  bound_kept (items.RestUnbound rest s is) a b = moves.noted s (lost_rest rest)
  bound_kept (items.BoundHole there es rest s t pieces later d) a b = bound_kept d (λ x m. a x (inr m)) b
  bound_kept (items.BoundLost item es rest s t pieces later shaped is d) a b =
      moves.chain s (recorded s (lost_item item)) t (moves.noted s (lost_item item)) (bound_kept d (λ x m. a x (inr m)) b)
  bound_kept (items.BoundVariable item es rest bind_at name type declared identifier s t key pieces later is annotated kept means f d) a b =
      let at_key : State = key_met s item in
      moves.chain s at_key t (key_kept s item)
      (moves.chain at_key _ t
      (moves.looked at_key declared bind_at.span identifier (a declared (inl (item_mentions names declared is means))) f)
      (bound_kept d (λ x m. a x (inr m)) b))
  bound_kept (items.BoundLater item part es rest s t key pieces later is kept late d) a b =
      moves.chain s (promoted (key_met s item) (span_of part)) t (key_promoted s item (span_of part)) (bound_kept d (λ x m. a x (inr m)) b)

  -- The symbols that the parts mention which are left are allowed.
  abbrev LeftAllowed : List Later → Type 0
  LeftAllowed [] = Unit {0}
  LeftAllowed (first ∷ later) = Allowed first.part × LeftAllowed later

  taken_left : {of_object forced : Bool} {es : Pieces} {rest : Syntax} {s t : State} {pieces : List Piece} {later : List Later}
      → TakenItems names of_object forced es rest s t pieces later → AllAllowed es → Allowed rest → LeftAllowed later
  taken_left (items.NoItem s) a b = tt
  taken_left (items.RestTaken there target s is) a b = (λ x m. b x (inl m), tt)
  taken_left (items.RestLost rest s is) a b = tt
  taken_left (items.ItemHole there es rest s t pieces later d) a b = taken_left d (λ x m. a x (inr m)) b
  taken_left (items.ItemLost item es rest s t pieces later shaped is d) a b = taken_left d (λ x m. a x (inr m)) b
  taken_left (items.ItemVariable item es rest there name symbol identifier s t key pieces later is means kept mutable f d) a b =
      taken_left d (λ x m. a x (inr m)) b
  taken_left (items.ItemConstant item es rest there name symbol identifier s t key pieces later is means kept constant f d) a b =
      taken_left d (λ x m. a x (inr m)) b
  taken_left (items.ItemLater item part es rest s t key pieces later is kept d) a b =
      (λ x m. a x (inl (item_mentions names x is m)), taken_left d (λ x m. a x (inr m)) b)

  bound_left : {of_object : Bool} {es : Pieces} {rest : Syntax} {s t : State} {pieces : List Piece} {later : List Later}
      → BoundItems names false of_object es rest s t pieces later → AllAllowed es → Allowed rest → LeftAllowed later
  bound_left (items.NoBound s) a b = tt
  bound_left (items.RestNamed there bind_at name type declared identifier s annotated is f) a b = tt
  bound_left (items.RestNested there pattern s is) a b = (λ x m. b x (inl m), tt)
  bound_left (items.RestUnbound rest s is) a b = tt
  bound_left (items.BoundHole there es rest s t pieces later d) a b = bound_left d (λ x m. a x (inr m)) b
  bound_left (items.BoundLost item es rest s t pieces later shaped is d) a b = bound_left d (λ x m. a x (inr m)) b
  bound_left (items.BoundVariable item es rest bind_at name type declared identifier s t key pieces later is annotated kept means f d) a b =
      bound_left d (λ x m. a x (inr m)) b
  bound_left (items.BoundLater item part es rest s t key pieces later is kept late d) a b =
      (λ x m. a x (inl (item_mentions names x is m)), bound_left d (λ x m. a x (inr m)) b)

  mutual
    pub expression_kept : {e : Syntax} {s t : State} {p : Place} → Lowered names e s t p → Allowed e → R s t
    expression_kept (lowered.Literal at w fields p s is) a = value s (values.Primitive p) (Some at.span)
    expression_kept (lowered.Refused at w fields r s is) a =
        noted_value s (refusal r at.span) (values.Primitive primitives.Undefined) (Some at.span)
    expression_kept (lowered.RefusedBefore at w fields parts r pieces s t is l) a =
        let noted : State = recorded s (refusal r at.span) in
        moves.chain s noted _ (moves.noted s (refusal r at.span))
        (moves.chain noted t _ (all_kept l (λ x m. a x (refusing_mentions names x is at m)))
        (value t (values.Primitive primitives.Undefined) (Some at.span)))
    expression_kept (lowered.RefusedBehind at object name s t p l) a =
        moves.chain s t _ (expression_kept l (λ x m. a x (inr (inl m))))
        (noted_value t (refusal row.F3 at.span) (values.Primitive primitives.Undefined) (Some at.span))
    expression_kept (lowered.Private at w fields e s t p is l) a = expression_kept l (λ x m. a x (private_mentions names x is at m))
    expression_kept (lowered.Variable at name symbol identifier s is f) a =
        found_value s symbol at.span identifier _ (Some at.span) (a symbol is) f
    expression_kept (lowered.UpdatedVariable at there name symbol identifier operator prefix s is mutable f g) a =
        let first : State = found names s symbol there.span in
        let may : May symbol = a symbol (inr (inr (inl is))) in
        moves.chain s first _ (moves.looked s symbol there.span identifier may f)
        (found_value first symbol there.span identifier _ (Some at.span) may g)
    expression_kept (lowered.UpdatedConstant at there name symbol identifier operator prefix s is constant f) a =
        found_constant s symbol there.span identifier (Some at.span) (a symbol (inr (inr (inl is)))) f
    expression_kept (lowered.UpdatedMember at there w fields parts pieces object key operator prefix s t is l) a =
        moves.chain s t _ (all_kept l (λ x m. a x (inr (inr (inl (member_mentions names x is there m))))))
        (carried_member silent t object key operator there.span)
    expression_kept (lowered.AssignedVariable at there name right symbol identifier s t p is mutable l f) a =
        moves.chain s t _ (expression_kept l (λ x m. a x (inr (inr (inl m)))))
        (found_value t symbol there.span identifier _ (Some there.span) (a symbol (inr (inl is))) f)
    expression_kept (lowered.AssignedConstant at there name right symbol identifier s t p is constant l f) a =
        moves.chain s t _ (expression_kept l (λ x m. a x (inr (inr (inl m)))))
        (found_constant t symbol there.span identifier (Some there.span) (a symbol (inr (inl is))) f)
    expression_kept (lowered.AssignedGlobal at there name right binding s t p is l) a =
        moves.chain s t _ (expression_kept l (λ x m. a x (inr (inr (inl m))))) (value t (values.StoreGlobal name p) (Some there.span))
    expression_kept (lowered.AssignedMember at there w fields parts pieces object key right s t u p is l all) a =
        moves.chain s t _ (expression_kept l (λ x m. a x (inr (inr (inl m)))))
        (moves.chain t u _ (all_kept all (λ x m. a x (inr (inl (member_mentions names x is there m)))))
        (value u (store_of object key p) (Some there.span)))
    expression_kept (lowered.AssignedPrivate at there object name right s t u p q l inside) a =
        moves.chain s t _ (expression_kept l (λ x m. a x (inr (inr (inl m)))))
        (moves.chain t u _ (expression_kept inside (λ x m. a x (inr (inl (inr (inl m))))))
        (noted_value u (refusal row.F5 at.span) (values.Primitive primitives.Undefined) (Some at.span)))
    expression_kept (lowered.AssignedPattern at there w fields right s t u p q is l d) a =
        moves.chain s t u (expression_kept l (λ x m. a x (inr (inr (inl m))))) (target_kept d (λ x m. a x (inr (inl m))))
    expression_kept
        (lowered.CompoundVariable at there name operator applied right symbol identifier s t u q p is mutable applies l m f) a =
        let computed : State = name_computed u applied q p at.span in
        let stored : State = name_stored names u applied q p at.span there.span symbol identifier in
        moves.chain s t _ (expression_kept l (λ x n. a x (inr (inl n))))
        (moves.chain t u _ (expression_kept m (λ x n. a x (inr (inr (inl n)))))
        (moves.chain u computed _ (value u (values.BinaryExpression applied q p) (Some at.span))
        (moves.chain computed stored _ (found_value computed symbol there.span identifier _ (Some at.span) (a symbol (inr (inl is))) f)
        (value stored (values.LoadLocal (variable_at identifier there.span)) (Some at.span)))))
    expression_kept
        (lowered.CompoundConstant at there name operator applied right symbol identifier s t u q p is constant applies l m f) a =
        moves.chain s t _ (expression_kept l (λ x n. a x (inr (inl n))))
        (moves.chain t u _ (expression_kept m (λ x n. a x (inr (inr (inl n)))))
        (found_constant u symbol there.span identifier (Some at.span) (a symbol (inr (inl is))) f))
    expression_kept (lowered.CompoundGlobal at there name operator applied right binding s t u q p is applies l m) a =
        let computed : State = name_computed u applied q p at.span in
        moves.chain s t _ (expression_kept l (λ x n. a x (inr (inl n))))
        (moves.chain t u _ (expression_kept m (λ x n. a x (inr (inr (inl n)))))
        (moves.chain u computed _ (value u (values.BinaryExpression applied q p) (Some at.span))
        (value computed (values.StoreGlobal name (temporary u (Some at.span))) (Some at.span))))
    expression_kept (lowered.CompoundMember at there w fields parts pieces object key operator applied right s t u p is applies all l) a =
        let loaded : State = with_value t (load_of object key) (Some there.span) in
        let computed : State = member_computed t u applied p there.span in
        moves.chain s t _ (all_kept all (λ x m. a x (inr (inl (member_mentions names x is there m)))))
        (moves.chain t loaded _ (value t (load_of object key) (Some there.span))
        (moves.chain loaded u _ (expression_kept l (λ x m. a x (inr (inr (inl m)))))
        (moves.chain u computed _ (value u (values.BinaryExpression applied (temporary t (Some there.span)) p) (Some there.span))
        (value computed (store_of object key (temporary u (Some there.span))) (Some there.span)))))
    expression_kept (lowered.CompoundPrivate at there fields operator applied right s t u q p applies l m) a =
        moves.chain s t _ (expression_kept l (λ x n. a x (inr (inl n))))
        (moves.chain t u _ (expression_kept m (λ x n. a x (inr (inr (inl n)))))
        (value u (values.Primitive primitives.Undefined) (Some at.span)))
    expression_kept (lowered.Method at there w fields parts es pieces given_pieces object key given s t u is l given_are m) a =
        let loaded : State = with_value t (load_of object key) (Some there.span) in
        moves.chain s t _ (all_kept l (λ x n. a x (inr (inl (member_mentions names x is there n)))))
        (moves.chain t loaded _ (value t (load_of object key) (Some there.span))
        (moves.chain loaded u _ (all_kept given_are (λ x n. a x (inr (inr (inl n))))) (value u _ (Some at.span))))
    expression_kept (lowered.Cast at there w fields e type k s t p is annotated l) a =
        moves.chain s t _ (expression_kept l (λ x m. a x (cast_mentions names x is at m)))
        (moves.chain t (typed t k) _ (carried_typed silent t k) (value (typed t k) _ (Some at.span)))
    expression_kept (lowered.Global at name binding s is plain) a = value s (values.LoadGlobal binding) (Some at.span)
    expression_kept (lowered.RefusedGlobal at name binding s is refused) a =
        noted_value s (refusal row.F2 at.span) (values.LoadGlobal binding) (Some at.span)
    expression_kept (lowered.Same at w fields e s t p is l) a = expression_kept l (λ x m. a x (wrapper_mentions names x is at m))
    expression_kept (lowered.Asked at w fields parts pieces v s t is l) a =
        moves.chain s t (with_value t v (Some at.span)) (all_kept l (λ x m. a x (form_mentions names x is at m))) (value t v (Some at.span))
    expression_kept (lowered.Object at es pieces properties s t is l) a =
        moves.chain s t _ (all_kept l (λ x m. a x (inl m))) (value t (values.ObjectExpression properties) (Some at.span))
    expression_kept (lowered.Logical at operator left right s s2 s3 l r second first) a =
        let f : LogicalParts = logical_at s at.span operator (span_of left) in
        let begun : State = logical_begun s at.span (span_of left) in
        let righted : State = logical_righted f s2 r (value_span r right) in
        moves.chain s begun _ (carried_logical_begun silent s at.span (span_of left))
        (moves.chain begun s2 _ (expression_kept second (λ x m. a x (inr (inr (inl m)))))
        (moves.chain s2 righted _ (carried_logical_righted silent f s2 r (value_span r right))
        (moves.chain righted s3 _ (expression_kept first (λ x m. a x (inr (inl m))))
        (carried_logical_ended silent (logical_after f) s3 l))))
    expression_kept (lowered.Conditional at test consequent alternate s s2 s3 s4 c d p second third first) a =
        let f : TernaryParts = ternary_at s at.span in
        let parted : TernaryParts = ternary_parted f s2 c (span_of consequent) in
        let begun : State = ternary_begun s at.span in
        let between : State = ternary_consequent f s2 c (span_of consequent) in
        let behind : State = ternary_alternated parted s3 d (span_of alternate) in
        moves.chain s begun _ (carried_ternary_begun silent s at.span)
        (moves.chain begun s2 _ (expression_kept second (λ x m. a x (inr (inl m))))
        (moves.chain s2 between _ (carried_ternary_consequent silent f s2 c (span_of consequent))
        (moves.chain between s3 _ (expression_kept third (λ x m. a x (inr (inr (inl m)))))
        (moves.chain s3 behind _ (carried_ternary_alternated silent parted s3 d (span_of alternate))
        (moves.chain behind s4 _ (expression_kept first (λ x m. a x (inl m)))
        (moves.same s4 (ternary_ended (ternary_after parted) s4 p) refl))))))
    expression_kept (lowered.Sequence at e es s s2 p l) a =
        let begun : State = sequence_begun s at.span in
        moves.chain s begun _ (carried_sequence_begun silent s at.span)
        (moves.chain begun s2 _ (last_kept l (λ x m. a x (inl m))) (carried_sequence_ended silent (sequence_at s at.span) s2 p at.span))
    expression_kept (lowered.Chain at e s t p l) a = spine_kept l (λ x m. a x (inl m))

    pub moved_kept : {e : Syntax} {s t : State} {p : Place} → LoweredMoved names e s t p → Allowed e → R s t
    moved_kept (lowered.Stays e s t p is d) a = expression_kept d a
    moved_kept (lowered.Moved at w fields s t p is d) a =
        let noted : Diagnostic = diagnostic_at row.F29 (type_name w) at.span in
        moves.chain s (recorded s noted) t (moves.noted s noted) (expression_kept d a)

    target_kept : {at : Span} {v : Place} {e : Syntax} {s t : State} {p : Place} → LoweredTarget names at v e s t p → Allowed e → R s t
    target_kept {at} {v} (lowered.TargetVariable there name symbol identifier s is mutable f) a =
        found_value s symbol there.span identifier (assigned_to identifier at v) (Some at) (a symbol is) f
    target_kept (lowered.TargetConstant there name symbol identifier s is constant f) a =
        let first : State = found names s symbol there.span in
        moves.chain s first _ (moves.looked s symbol there.span identifier (a symbol is) f)
        (moves.noted first (diagnostic_at row.F6 (names.name symbol.0) there.span))
    target_kept {at} {v} (lowered.TargetGlobal there name binding s is) a = value s (values.StoreGlobal name v) (Some at)
    target_kept {at} {v} (lowered.TargetMember there w fields parts pieces object key s t is l) a =
        moves.chain s t _ (all_kept l (λ x m. a x (member_mentions names x is there m))) (value t (store_of object key v) (Some at))
    target_kept (lowered.TargetLost there w fields s is) a = moves.noted s (refusal (row_of_head w) there.span)
    target_kept {at} {v} (lowered.TargetDefaulted there w fields target default s t u q p is d dt) a =
        moves.chain s (default_ended (default_at s there.span v) t q) u
        (carried_default silent s t q v there.span (moved_kept d (λ x m. a x (default_mentions names x is there m))))
        (target_kept dt (λ x m. a x (target_mentions names x is there m)))
    target_kept {at} {v} (lowered.TargetPattern there w of_object forced es rest pattern pieces later s t u r is ahead taken are l) a =
        let apart : InstructionValue = destructured variables.Reassign pattern v in
        let in_items : AllAllowed es = λ x m. a x (taking_mentions names x is there _ (inl m)) in
        moves.chain s t r (ahead_kept ahead in_items)
        (moves.chain t u r (taken_kept taken in_items)
        (moves.chain u (with_value u apart (Some at)) r (value u apart (Some at))
        (later_kept l (taken_left taken in_items (λ x m. a x (taking_mentions names x is there _ (inr (inl m))))))))

    later_kept : {later : List Later} {s t : State} → LoweredLater names later s t → LeftAllowed later → R s t
    later_kept (lowered.NoLater s) a = moves.same s s refl
    later_kept (lowered.NextLater v part later s t u p d ds) a = moves.chain s t u (target_kept d a.0) (later_kept ds a.1)

    spine_kept : {below : Bool} {e : Syntax} {s t : State} {p : Place} → LoweredSpine names below e s t p → Allowed e → R s t
    spine_kept (lowered.Outermost e s t front p l) a = link_kept l a
    spine_kept (lowered.Asserted at e s t p l) a = spine_kept l (λ x m. a x (inl m))
    spine_kept (lowered.Broken at e s t p is l) a =
        let noted : State = recorded s (refusal row.F44 at.span) in
        moves.chain s noted t (moves.noted s (refusal row.F44 at.span)) (spine_kept l (λ x m. a x (inl m)))

    link_kept : {alternate : Option BlockId} {e : Syntax} {s t : State} {front : Front} {p : Place}
        → LoweredLink names alternate e s t front p → Allowed e → R s t
    link_kept (lowered.LinkedProperty alternate at w optional object rest parts pieces o key s t u is l more) a =
        let x : State = link_objected (link_at s at.span optional alternate) t o in
        let loaded : State = with_value u (load_of o key) (Some at.span) in
        carried_linked silent alternate s t loaded at.span optional o (temporary u (Some at.span))
        (front_kept l (λ y m. a y (object_mentions names y is at optional object m)))
        (moves.chain x u loaded (all_kept more (λ y m. a y (key_mentions names y is at optional object m)))
        (value u (load_of o key) (Some at.span)))
    link_kept (lowered.LinkedPrivate alternate at optional object name o s t l) a =
        let x : State = link_objected (link_at s at.span optional alternate) t o in
        let met : State = private_met x at.span in
        let made : State = with_value met (values.Primitive primitives.Undefined) (Some at.span) in
        carried_linked silent alternate s t made at.span optional o (temporary met (Some at.span))
        (front_kept l (λ y m. a y (inr (inl m))))
        (noted_value x (refusal row.F3 at.span) (values.Primitive primitives.Undefined) (Some at.span))
    link_kept (lowered.LinkedCall alternate at optional callee es pieces given front s t u l more is) a =
        let x : State = link_objected (link_at s at.span optional alternate) t (tested_front front) in
        let called : State = with_value u (call_of front given) (Some at.span) in
        carried_linked silent alternate s t called at.span optional (tested_front front) (temporary u (Some at.span))
        (front_kept l (λ y m. a y (inr (inl m))))
        (moves.chain x u called (all_kept more (λ y m. a y (inr (inr (inl m))))) (value u (call_of front given) (Some at.span)))

    front_kept : {alternate : BlockId} {is_called : Bool} {e : Syntax} {s t : State} {front : Front}
        → LoweredFront names alternate is_called e s t front → Allowed e → R s t
    front_kept (lowered.FrontLink alternate is_called e s t front p l) a = link_kept l a
    front_kept (lowered.FrontBroken alternate is_called at e s t p l) a = spine_kept l a
    front_kept (lowered.FrontMethod alternate at w fields parts pieces object key s t is l) a =
        moves.chain s t _ (all_kept l (λ x m. a x (member_mentions names x is at m))) (value t (load_of object key) (Some at.span))
    front_kept (lowered.FrontAlone alternate is_called e s t p other l) a = expression_kept l a

    all_kept : {of_object : Bool} {es : Pieces} {s t : State} {pieces : List Piece} → LoweredParts names of_object es s t pieces
        → AllAllowed es → R s t
    all_kept (lowered.NoPart s) a = moves.same s s refl
    all_kept (lowered.NextPart e es s t u p pieces l more) a =
        moves.chain s t u (expression_kept l (λ x m. a x (inl m))) (all_kept more (λ x m. a x (inr m)))
    all_kept (lowered.NextSpread at e es s t u p pieces l more) a =
        moves.chain s t u (expression_kept l (λ x m. a x (inl (inl m)))) (all_kept more (λ x m. a x (inr m)))
    all_kept (lowered.NextHole at es s u pieces more) a = all_kept more (λ x m. a x (inr m))
    all_kept (lowered.NextProperty at computed key e text es s t u p pieces is l more) a =
        moves.chain s t u (expression_kept l (λ x m. a x (inl (inr (inr (inl m)))))) (all_kept more (λ x m. a x (inr m)))
    all_kept (lowered.NextComputed at key e es s r t u p q pieces is k l more) a =
        moves.chain s r u (expression_kept k (λ x m. a x (inl (inr (inl m)))))
        (moves.chain r t u (expression_kept l (λ x m. a x (inl (inr (inr (inl m)))))) (all_kept more (λ x m. a x (inr m))))
    all_kept (lowered.NextFraction at there e text es s t u p pieces is l more) a =
        let noted : State = recorded s (refusal row.F43 there.span) in
        moves.chain s noted u (moves.noted s (refusal row.F43 there.span))
        (moves.chain noted t u (expression_kept l (λ x m. a x (inl (inr (inr (inl m)))))) (all_kept more (λ x m. a x (inr m))))
    all_kept (lowered.NextUnknown at computed key e es s u pieces is more) a =
        let noted : State = recorded s (refusal row.F9 (span_of key)) in
        moves.chain s noted u (moves.noted s (refusal row.F9 (span_of key))) (all_kept more (λ x m. a x (inr m)))

    last_kept : {es : Pieces} {s t : State} {p : Place} → LoweredLast names es s t p → AllAllowed es → R s t
    last_kept (lowered.LastPart e s t p l) a = expression_kept l (λ x m. a x (inl m))
    last_kept (lowered.EarlierPart e next es s t u p q l more) a =
        moves.chain s t u (expression_kept l (λ x m. a x (inl m))) (last_kept more (λ x m. a x (inr m)))

  -- A default, in front of the pattern that takes its value.
  pub default_kept : {default : Syntax} (s t : State) (q v : Place) (span : Span)
      → LoweredMoved names default (default_begun s span) t q → Allowed default
      → R s (default_ended (default_at s span v) t q)
  default_kept s t q v span d a = carried_default silent s t q v span (moved_kept d a)

  -- Binding patterns of parameters.

  mutual
    pub pattern_kept : {k : InstructionKind} {at : Span} {v : Place} {e : Syntax} {s t : State} {p : Place}
        → LoweredPattern names false k at v e s t p → Allowed e → R s t
    pattern_kept {k} {at} {v} (lowered.BoundName bind name type declared identifier s annotated is f) a =
        found_value s declared bind.span identifier (values.StoreLocal k (variable_at identifier at) v) (Some at) (a declared is) f
    pattern_kept {k} {at} {v} (lowered.BoundDefault there pattern default s t u q p d dt) a =
        moves.chain s (default_ended (default_at s there.span v) t q) u
        (default_kept s t q v there.span d (λ x m. a x (inr (inl m)))) (pattern_kept dt (λ x m. a x (inl m)))
    pattern_kept {k} {at} {v} (lowered.BoundPattern there w of_object es rest pattern pieces later s u r is bound are l) a =
        let apart : InstructionValue = destructured k pattern v in
        let behind : State = with_value u apart (Some at) in
        let in_items : AllAllowed es = λ x m. a x (binding_mentions names x is there _ (inl m)) in
        let in_rest : Allowed rest = λ x m. a x (binding_mentions names x is there _ (inr (inl m))) in
        moves.chain s u r (bound_kept bound in_items in_rest)
        (moves.chain u behind r (value u apart (Some at)) (left_kept l (bound_left bound in_items in_rest)))

    left_kept : {k : InstructionKind} {later : List Later} {s t : State} → LoweredBound names false k later s t → LeftAllowed later → R s t
    left_kept (lowered.NothingBound s) a = moves.same s s refl
    left_kept (lowered.NextBound v part later s t u p d ds) a = moves.chain s t u (pattern_kept d a.0) (left_kept ds a.1)
