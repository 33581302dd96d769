-- The items of patterns: those of a target get their places, or temporaries from which they take their pieces later, and so do those of a
-- binding pattern. No expression is lowered for them.
use Rattle.std.specs.Prelude.{◌≡◌, ℕ, ◌+◌, Bool, true, false, not, List, [], ◌∷◌, ◌++◌, ◌&&◌, length, Option, Some, None, codes}
use Rattle.std.specs.Fmt.{decimal}
use Rattle.rl_base.specs.Diagnostics.{diagnostic_at}
use Rattle.rl_base.specs.declared.ids.SymbolId.{SymbolId}
use Rattle.rl_base.specs.declared.row.Row.TheVariants as row
use Rattle.rl_base.specs.declared.span.Span.{Span}
use Rattle.rl_builder.specs.Builder.{State, recorded}
use Rattle.rl_builder.specs.Temporaries.{temporary}
use Rattle.rl_hir.specs.Identifiers.{changed_at, with_span}
use Rattle.rl_hir.specs.Pieces.{Piece, Gives, Says, Spreads}
use Rattle.rl_hir.specs.declared.function.Identifier.{Identifier}
use Rattle.rl_hir.specs.declared.function.IdentifierName.TheVariants as identifiers
use Rattle.rl_hir.specs.declared.instruction.InstructionKind.{InstructionKind}
use Rattle.rl_hir.specs.declared.instruction.InstructionValue.{InstructionValue}
use Rattle.rl_hir.specs.declared.instruction.InstructionValue.TheVariants as values
use Rattle.rl_hir.specs.declared.instruction.Pattern.{Pattern}
use Rattle.rl_hir.specs.declared.instruction.Place.{Place}
use Rattle.rl_lowered.specs.Forms.{IsAnnotation, IsItem, IsProperty}
use Rattle.rl_lowered.specs.Named.{IsFound, found}
use Rattle.rl_model.specs.Shapes.{is_absent, is_plain_rest}
use Rattle.rl_names.specs.Names.{Names}
use Rattle.rl_names.specs.declared.names.Meaning.TheVariants.{Local}
use Rattle.rl_promises.specs.Patterns.{fraction_in, is_ahead, is_lost_item, local_at, lost_item, lost_rest, takes_apart, target_under}
use Rattle.rl_syntax.specs.declared.numbered.At.{At}
use Rattle.rl_syntax.specs.declared.word.Word.{Word}
use Rattle.rl_syntax.specs.declared.word.Word.TheVariants as word
use Rattle.rl_syntax.specs.Syntax.{Syntax, Node, Said, Absent, Pieces, End, Then, span_of}

-- The place of a variable at a name.
abbrev pub variable_at : (identifier : ℕ) → Span → Place
variable_at identifier there = record { identifier = record { 0 = identifier }; span = Some there }

-- The state behind a declaration whose identifier gets another span.
abbrev pub redeclared : State → (identifier : ℕ) → Span → State
redeclared s identifier span =
    record s { env = record s.env { identifiers = changed_at (with_span span) identifier s.env.identifiers } }

-- The state behind the look-up of a variable that the head of a loop declares.
abbrev pub found_again : Names → State → SymbolId → (identifier : ℕ) → Span → State
found_again names s symbol identifier span = redeclared (found names s symbol span) identifier span

-- The identifier of a promoted temporary, by its id.
abbrev pub promoted_identifier : (id : ℕ) → (type_id : ℕ) → Span → Identifier
promoted_identifier id type_id span = record {
  name = Some (identifiers.Promoted (codes "#t" ++ decimal id));
  span = Some span;
  type_id = record { 0 = type_id };
}

-- The state with one more identifier, which has a name of its own.
abbrev pub promoted : State → Span → State
promoted s span = record s {
  env = record s.env {
    next_type = s.env.next_type + 1;
    identifiers = s.env.identifiers ++ promoted_identifier (length s.env.identifiers) s.env.next_type span ∷ [];
  };
}

-- The place of that identifier: it takes the value that is caught, or a piece of a value.
abbrev pub caught : State → (param : Span) → Place
caught s param = temporary s (Some param)

-- A part of a pattern that is left for behind the instruction that takes the value apart, and the temporary that has its piece.
pub record Later : Type 0 where
  pub value : Place
  pub part : Syntax

-- The names of a target that is a pattern were looked at: `forced` is true of one whose items all take their pieces from temporaries. That
-- is so of a target with a rest, and otherwise each name in front of the first item that is no local variable is looked up.
pub data LoweredAhead (names : Names) : (items : Pieces) → (rest : Syntax) → (old new : State) → (forced : Bool) → Type 0 where
  NoLook : (items : Pieces) (rest : Syntax) (s : State) → is_absent rest ≡ false → LoweredAhead names items rest s s true
  LookEnds : (s : State) → LoweredAhead names End Absent s s false
  LookOther : (item : Syntax) (items : Pieces) (s : State) → local_at names (target_under item) ≡ None
      → LoweredAhead names (Then item items) Absent s s true
  LookLocal : (item : Syntax) (items : Pieces) (symbol : SymbolId) (identifier : ℕ) (s t : State) (forced : Bool)
      → local_at names (target_under item) ≡ Some symbol → IsFound names s symbol (span_of (target_under item)) identifier
      → LoweredAhead names items Absent (found names s symbol (span_of (target_under item))) t forced
      → LoweredAhead names (Then item items) Absent s t forced

-- The state behind the key of an item, which may be a number that is refused (row F43).
abbrev pub fraction_met : State → Option Span → State
fraction_met s None = s
fraction_met s (Some at) = recorded s (diagnostic_at row.F43 [] at)

abbrev pub key_met : State → (item : Syntax) → State
key_met s item = fraction_met s (fraction_in item)

-- The piece of a constant among the items of a target, which is refused (row F6): a hole of an array, and nothing of an object.
abbrev pub lost_pieces : (of_object : Bool) → List Piece
lost_pieces true = []
lost_pieces false = Says (codes "hole") ∷ []

-- The items of a target got their places: the pieces that they give to the instruction that takes the value apart, and the parts that are
-- left for behind it. Where `forced` is true, each item takes its piece from a temporary, else each is a local variable.
pub data TakenItems (names : Names) : (of_object forced : Bool) → (items : Pieces) → (rest : Syntax) → (old new : State) → List Piece
    → List Later → Type 0 where
  NoItem : {of_object forced : Bool} (s : State) → TakenItems names of_object forced End Absent s s [] []
  RestTaken : {of_object : Bool} (there : At) (target : Syntax) (s : State)
      → (of_object && not (is_plain_rest (Node there word.Rest (Then target End)))) ≡ false
      → TakenItems names of_object true End (Node there word.Rest (Then target End)) s (promoted s there.span)
      (Spreads (caught s there.span) ∷ []) (record { value = caught s there.span; part = target } ∷ [])
  -- The rest of an object that is no plain name (row F10).
  RestLost : {forced : Bool} (rest : Syntax) (s : State) → is_plain_rest rest ≡ false
      → TakenItems names true forced End rest s (recorded s (lost_rest rest)) [] []
  ItemHole : {forced : Bool} (there : At) (items : Pieces) (rest : Syntax) (s t : State) (pieces : List Piece) (later : List Later)
      → TakenItems names false forced items rest s t pieces later
      → TakenItems names false forced (Then (Node there word.Hole End) items) rest s t (Says (codes "hole") ∷ pieces) later
  -- A property that is left out, by its key (rows F8 and F9).
  ItemLost : {forced : Bool} (item : Syntax) (items : Pieces) (rest : Syntax) (s t : State) (pieces : List Piece) (later : List Later)
      → IsProperty false item → is_lost_item item ≡ true → TakenItems names true forced items rest (recorded s (lost_item item)) t pieces later
      → TakenItems names true forced (Then item items) rest s t pieces later
  ItemVariable : {of_object : Bool} (item : Syntax) (items : Pieces) (rest : Syntax) (there : At) (name : List ℕ) (symbol : SymbolId)
      (identifier : ℕ) (s t : State) (key pieces : List Piece) (later : List Later)
      → IsItem false of_object item key (Node there word.Id (Then (Said name) End)) → names.meaning there.reference.0 name ≡ Local symbol
      → is_lost_item item ≡ false → names.is_const symbol.0 ≡ false → IsFound names (key_met s item) symbol there.span identifier
      → TakenItems names of_object false items rest (found names (key_met s item) symbol there.span) t pieces later
      → TakenItems names of_object false (Then item items) rest s t (key ++ Gives (variable_at identifier there.span) ∷ pieces) later
  -- A constant (row F6).
  ItemConstant : {of_object : Bool} (item : Syntax) (items : Pieces) (rest : Syntax) (there : At) (name : List ℕ) (symbol : SymbolId)
      (identifier : ℕ) (s t : State) (key pieces : List Piece) (later : List Later)
      → IsItem false of_object item key (Node there word.Id (Then (Said name) End)) → names.meaning there.reference.0 name ≡ Local symbol
      → is_lost_item item ≡ false → names.is_const symbol.0 ≡ true → IsFound names (key_met s item) symbol there.span identifier
      → TakenItems names of_object false items rest
      (recorded (found names (key_met s item) symbol there.span) (diagnostic_at row.F6 (names.name symbol.0) there.span)) t pieces later
      → TakenItems names of_object false (Then item items) rest s t (lost_pieces of_object ++ pieces) later
  ItemLater : {of_object : Bool} (item part : Syntax) (items : Pieces) (rest : Syntax) (s t : State) (key pieces : List Piece)
      (later : List Later)
      → IsItem false of_object item key part → is_lost_item item ≡ false
      → TakenItems names of_object true items rest (promoted (key_met s item) (span_of part)) t pieces later
      → TakenItems names of_object true (Then item items) rest s t (key ++ Gives (caught (key_met s item) (span_of part)) ∷ pieces)
      (record { value = caught (key_met s item) (span_of part); part = part } ∷ later)

-- The form of a pattern in front of its pieces.
abbrev pub form_piece : (of_object : Bool) → Piece
form_piece true = Says (codes "object")
form_piece false = Says (codes "array")

-- True of a target that takes an object apart. False of one that takes an array apart.
pub data IsTaking : Word → (of_object : Bool) → Type 0 where
  TakesArray : IsTaking word.Arraytarget false
  TakesObject : IsTaking word.Objecttarget true

-- The instruction that takes a value apart.
abbrev pub destructured : InstructionKind → Pattern → (value : Place) → InstructionValue
destructured kind pattern value = values.Destructure (record { kind = kind; pattern = pattern; value = value })

-- The state behind the look-up of a variable that a pattern declares; `again` is true in the head of a loop, where the variable's
-- identifier gets the span of its name there.
abbrev pub met : (again : Bool) → Names → State → SymbolId → (identifier : ℕ) → Span → State
met true names s symbol identifier span = found_again names s symbol identifier span
met false names s symbol identifier span = found names s symbol span

-- As `TakenItems`, for the items of a binding pattern: names get their places, and each other item takes its piece from a temporary.
pub data BoundItems (names : Names) (again : Bool) : (of_object : Bool) → (items : Pieces) → (rest : Syntax) → (old new : State)
    → List Piece → List Later → Type 0 where
  NoBound : {of_object : Bool} (s : State) → BoundItems names again of_object End Absent s s [] []
  RestNamed : {of_object : Bool} (there bind : At) (name : List ℕ) (type : Syntax) (symbol : SymbolId) (identifier : ℕ) (s : State)
      → IsAnnotation type → names.declared bind.id.0 ≡ Some symbol → IsFound names s symbol bind.span identifier
      → BoundItems names again of_object End
      (Node there word.Rest (Then (Node bind word.Bind (Then (Said name) (Then type End))) End)) s
      (met again names s symbol identifier bind.span) (Spreads (variable_at identifier there.span) ∷ []) []
  RestNested : (there : At) (pattern : Syntax) (s : State) → takes_apart pattern ≡ true
      → BoundItems names again false End (Node there word.Rest (Then pattern End)) s (promoted s there.span)
      (Spreads (caught s there.span) ∷ []) (record { value = caught s there.span; part = pattern } ∷ [])
  -- The rest of an object that is no plain name (row F10).
  RestUnbound : (rest : Syntax) (s : State) → is_plain_rest rest ≡ false
      → BoundItems names again true End rest s (recorded s (lost_rest rest)) [] []
  BoundHole : (there : At) (items : Pieces) (rest : Syntax) (s t : State) (pieces : List Piece) (later : List Later)
      → BoundItems names again false items rest s t pieces later
      → BoundItems names again false (Then (Node there word.Hole End) items) rest s t (Says (codes "hole") ∷ pieces) later
  -- A property that is left out, by its key (rows F8 and F9).
  BoundLost : (item : Syntax) (items : Pieces) (rest : Syntax) (s t : State) (pieces : List Piece) (later : List Later)
      → IsProperty true item → is_lost_item item ≡ true → BoundItems names again true items rest (recorded s (lost_item item)) t pieces later
      → BoundItems names again true (Then item items) rest s t pieces later
  BoundVariable : {of_object : Bool} (item : Syntax) (items : Pieces) (rest : Syntax) (bind : At) (name : List ℕ) (type : Syntax)
      (symbol : SymbolId) (identifier : ℕ) (s t : State) (key pieces : List Piece) (later : List Later)
      → IsItem true of_object item key (Node bind word.Bind (Then (Said name) (Then type End))) → IsAnnotation type
      → is_lost_item item ≡ false → names.declared bind.id.0 ≡ Some symbol → IsFound names (key_met s item) symbol bind.span identifier
      → BoundItems names again of_object items rest (met again names (key_met s item) symbol identifier bind.span) t pieces later
      → BoundItems names again of_object (Then item items) rest s t (key ++ Gives (variable_at identifier bind.span) ∷ pieces) later
  BoundLater : {of_object : Bool} (item part : Syntax) (items : Pieces) (rest : Syntax) (s t : State) (key pieces : List Piece)
      (later : List Later)
      → IsItem true of_object item key part → is_lost_item item ≡ false → is_ahead part ≡ false
      → BoundItems names again of_object items rest (promoted (key_met s item) (span_of part)) t pieces later
      → BoundItems names again of_object (Then item items) rest s t (key ++ Gives (caught (key_met s item) (span_of part)) ∷ pieces)
      (record { value = caught (key_met s item) (span_of part); part = part } ∷ later)

-- As `IsTaking`, for a binding pattern.
pub data IsBinding : Word → (of_object : Bool) → Type 0 where
  BindsArray : IsBinding word.Arraypat false
  BindsObject : IsBinding word.Objectpat true
