-- Lowering an assignment keeps places known and parts writable, and its value is in a place that was made.
use Rattle.std.proofs.Common.{ℕ, false, List, [], ◌∷◌, length, All, Some, codes, refl}
use Rattle.std.proofs.lemmas.List.Elements.{All-cons, All-head, All-tail}
use Rattle.std.specs.Str.{IsUtf8}
use Rattle.rl_base.proofs.ClosedTexts.{text_utf8}
use Rattle.rl_base.specs.Diagnostics.{diagnostic_at}
use Rattle.rl_base.specs.FoundOperators.{operators_found}
use Rattle.rl_base.specs.Operators.{operator_text, operators}
use Rattle.rl_base.specs.declared.operator.BinaryOperator.{BinaryOperator}
use Rattle.rl_base.specs.declared.row.Row.TheVariants as row
use Rattle.rl_builder.specs.Builder.{recorded}
use Rattle.rl_builder.specs.Temporaries.{temporary, with_value}
use Rattle.rl_hir.specs.Listing as listing
use Rattle.rl_hir.specs.declared.instruction.InstructionKind.TheVariants as kinds
use Rattle.rl_hir.specs.declared.instruction.InstructionValue.TheVariants as values
use Rattle.rl_hir.specs.declared.instruction.PrimitiveValue.TheVariants as primitives
use Rattle.rl_lowered.proofs.Common.{At, Diagnostic, End, Names, Node, Piece, Pieces, Place, Said, Span, State, SymbolId, Syntax, Then}
use Rattle.rl_lowered.proofs.SoundForms.{global_store_writable, member_small}
use Rattle.rl_lowered.proofs.SoundListing.{binary_writable, local_writable, undefined_writable}
use Rattle.rl_lowered.proofs.SoundMoves.{none_known, one_known, place_later, place_next, place_weaker, sound_next, sound_recorded}
use Rattle.rl_lowered.proofs.SoundMoves.{sound_refl, sound_then, sound_weaker}
use Rattle.rl_lowered.proofs.SoundNames.{found_below, sound_found}
use Rattle.rl_lowered.proofs.SoundValues.{IsSound, loaded_sound, one_place, over_sound, places_next, places_weaker, property_stored}
use Rattle.rl_lowered.proofs.SoundValues.{value_sound, variable_place, variable_stored}
use Rattle.rl_lowered.specs.Forms.{IsMember, MemberKey, load_of, places_in, store_of}
use Rattle.rl_lowered.specs.Items.{variable_at}
use Rattle.rl_lowered.specs.Lowered.{assigned_to, member_assigned, member_computed, name_computed, name_found, name_reloaded, name_stored}
use Rattle.rl_lowered.specs.Named.{IsFound, found}
use Rattle.rl_lowered.specs.Sound.{AreSmallTrees, IsSmallTree, IsSoundPlace, StaysSound}
use Rattle.rl_promises.specs.Locals.{IsSmallSpan}
use Rattle.rl_promises.specs.Rows.{refusal}
use Rattle.rl_syntax.specs.declared.word.Word.{Word}
use Rattle.rl_syntax.specs.declared.word.Word.TheVariants as word
use Rattle.rl_syntax.specs.Syntax.{Flag}
use Rattle.rl_text.specs.Notation.{IsWritable}

-- Undefined stands for what is refused.

pub undefined_sound : (small : Type 0) (s t : State) (span : Span) → StaysSound small s t → (small → IsSmallSpan span)
    → IsSound small s (with_value t (values.Primitive primitives.Undefined) (Some span)) (temporary t (Some span))
undefined_sound small s t span before at =
    value_sound small s t (values.Primitive primitives.Undefined) span before (none_known (length t.env.identifiers))
    (λ holds fits. undefined_writable) at

pub noted_sound : (small : Type 0) (s t : State) (d : Diagnostic) (span : Span) → StaysSound small s t → (small → IsSmallSpan span)
    → IsSound small s (with_value (recorded t d) (values.Primitive primitives.Undefined) (Some span)) (temporary (recorded t d) (Some span))
noted_sound small s t d span before at =
    undefined_sound small s (recorded t d) span (sound_next small s t (recorded t d) before (sound_recorded small t d)) at

-- A constant that was looked up is refused.
pub constant_sound : (small : Type 0) (names : Names) (s t : State) (symbol : SymbolId) (there span : Span) (identifier : ℕ)
    → StaysSound small s t → IsFound names t symbol there identifier → (small → IsSmallSpan there) → (small → IsSmallSpan span)
    → IsSound small s
    (with_value (recorded (found names t symbol there) (diagnostic_at row.F6 (names.name symbol.0) there))
    (values.Primitive primitives.Undefined) (Some span))
    (temporary (recorded (found names t symbol there) (diagnostic_at row.F6 (names.name symbol.0) there)) (Some span))
constant_sound small names s t symbol there span identifier before f there_small at =
    noted_sound small s (found names t symbol there) (diagnostic_at row.F6 (names.name symbol.0) there) span
    (sound_next small s t (found names t symbol there) before (sound_found small names t symbol there identifier f there_small)) at

-- A variable that is looked up takes a value.
found_stored : (small : Type 0) (names : Names) (s t : State) (symbol : SymbolId) (there span : Span) (identifier : ℕ) (value : Place)
    → IsSound small s t value → IsFound names t symbol there identifier → (small → IsSmallSpan there) → (small → IsSmallSpan span)
    → IsSound small s (with_value (found names t symbol there) (assigned_to identifier there value) (Some span))
    (temporary (found names t symbol there) (Some span))
found_stored small names s t symbol there span identifier value given f there_small at =
    let stored = variable_stored small t (found names t symbol there) kinds.Reassign identifier there span value
    (sound_found small names t symbol there identifier f there_small) (found_below names t symbol there identifier f) given.1 there_small
    at in (
      sound_next small s t (with_value (found names t symbol there) (assigned_to identifier there value) (Some span)) given.0 stored.0,
      stored.1,
    )

-- Any other name takes a value.
pub outer_stored : (small : Type 0) (s t : State) (name : List ℕ) (value : Place) (span : Span) → IsSound small s t value
    → (small → IsUtf8 name) → (small → IsSmallSpan span)
    → IsSound small s (with_value t (values.StoreGlobal name value) (Some span)) (temporary t (Some span))
outer_stored small s t name value span given utf8 at =
    value_sound small s t (values.StoreGlobal name value) span given.0 (one_known (length t.env.identifiers) value given.1.known)
    (λ holds fits. global_store_writable name value (utf8 holds) (given.1.writable holds fits)) at

-- The value of an operator over two places.

operator_utf8 : (operator : BinaryOperator) → IsUtf8 (operator_text operator)
operator_utf8 operator = text_utf8 operator_text operators operators_found refl operator

pub combined_sound : (small : Type 0) (s t : State) (operator : BinaryOperator) (q p : Place) (span : Span) → StaysSound small s t
    → IsSoundPlace small t q → IsSoundPlace small t p → (small → IsSmallSpan span)
    → IsSound small s (with_value t (values.BinaryExpression operator q p) (Some span)) (temporary t (Some span))
combined_sound small s t operator q p span before first second at =
    over_sound small s t (values.BinaryExpression operator q p) span (q ∷ p ∷ []) before
    (All-cons (IsSoundPlace small t) q (p ∷ []) first (one_place small t p second)) refl
    (λ holds fits all. binary_writable operator q p (operator_utf8 operator)
    (All-head (λ (r : Place). IsWritable (listing.place r)) q (p ∷ []) all)
    (All-head (λ (r : Place). IsWritable (listing.place r)) p []
    (All-tail (λ (r : Place). IsWritable (listing.place r)) q (p ∷ []) all))) at

-- A variable takes the value of an operator, and is loaded again.
reloaded_sound : (small : Type 0) (names : Names) (s u : State) (operator : BinaryOperator) (q p : Place) (at there : Span)
    (symbol : SymbolId) (identifier : ℕ) → StaysSound small s u → IsSoundPlace small u q → IsSoundPlace small u p
    → IsFound names (name_computed u operator q p at) symbol there identifier → (small → IsSmallSpan there) → (small → IsSmallSpan at)
    → IsSound small s (name_reloaded names u operator q p at there symbol identifier)
    (temporary (name_stored names u operator q p at there symbol identifier) (Some at))
reloaded_sound small names s u operator q p at there symbol identifier before first second f there_small at_small =
    over_sound small s stored (values.LoadLocal variable) at (variable ∷ []) (sound_next small s mid stored looked store.0)
    (one_place small stored variable
    (place_next small mid stored variable store.0 (variable_place small names computed symbol there there identifier f there_small))) refl
    (λ holds fits all. local_writable variable (All-head (λ (r : Place). IsWritable (listing.place r)) variable [] all)) at_small
  where
    computed : State
    computed = name_computed u operator q p at

    mid : State
    mid = name_found names u operator q p at there symbol

    stored : State
    stored = name_stored names u operator q p at there symbol identifier

    variable : Place
    variable = variable_at identifier there

    value : Place
    value = temporary u (Some at)

    combined : IsSound small s computed value
    combined = combined_sound small s u operator q p at before first second at_small

    found_next : StaysSound small computed mid
    found_next = sound_found small names computed symbol there identifier f there_small

    looked : StaysSound small s mid
    looked = sound_next small s computed mid combined.0 found_next

    store : IsSound small mid stored (temporary mid (Some at))
    store =
        variable_stored small mid mid kinds.Reassign identifier there at value (sound_refl small mid)
        (found_below names computed symbol there identifier f) (place_next small computed mid value found_next combined.1) there_small
        at_small

-- A property takes the value of an operator over its old value, which was loaded.
changed_sound : (small : Type 0) (s t u : State) (there : At) (operator : BinaryOperator) (p : Place) {w : Word} {fields parts : Pieces}
    {pieces : List Piece} {object : Place} {key : MemberKey} → IsMember w fields parts pieces object key → StaysSound small s t
    → All (IsSoundPlace small t) (places_in pieces) → IsSound small (with_value t (load_of object key) (Some there.span)) u p
    → (small → IsSmallTree (Node there w fields))
    → IsSound small s (member_assigned t u object key operator p there.span)
    (temporary (member_computed t u operator p there.span) (Some there.span))
changed_sound small s t u there operator p {pieces} {object} {key} is before all part inner =
    property_stored small s computed there (temporary u (Some there.span)) is
    (sound_next small s t computed before (sound_next small t u computed behind combined.0))
    (places_next small t computed (places_in pieces) (sound_next small t u computed behind combined.0) all) combined.1 inner
  where
    loaded : State
    loaded = with_value t (load_of object key) (Some there.span)

    computed : State
    computed = member_computed t u operator p there.span

    old : Place
    old = temporary t (Some there.span)

    first : IsSound small t loaded old
    first = loaded_sound small t there is all inner

    behind : StaysSound small t u
    behind = sound_next small t loaded u first.0 part.0

    combined : IsSound small u computed (temporary u (Some there.span))
    combined =
        combined_sound small u u operator old p there.span (sound_refl small u) (place_next small loaded u old part.0 first.1) part.1
        (λ holds. (inner holds).0.0)

-- Two parts were lowered, and their values are in places that were made.
record AreSound (small : Type 0) (s u : State) (q p : Place) : Type 0 where
  stays : StaysSound small s u
  first : IsSoundPlace small u q
  second : IsSoundPlace small u p

both_sound : (P Q R : Type 0) (s t u : State) (q p : Place) → (R → P) → (R → Q) → IsSound P s t q → IsSound Q t u p
    → AreSound R s u q p
both_sound P Q R s t u q p one other a b = record {
  stays = sound_then P Q R s t u one other a.0 b.0;
  first = place_later P Q R t u q one b.0 a.1;
  second = place_weaker Q R u p other b.1;
}

-- An assignment with this operator, target and right part.
module _ (at : At) (operator : List ℕ) (target right : Syntax) where
  abbrev pub IsSmall : Type 0
  IsSmall = IsSmallTree (Node at word.Assign (Then (Said operator) (Then target (Then right End))))

  at_small : IsSmall → IsSmallSpan at.span
  at_small holds = holds.0.0

  pub target_small : IsSmall → IsSmallTree target
  target_small holds = (holds.0.1.1.0, holds.1.1.1.0)

  right_small : IsSmall → IsSmallTree right
  right_small holds = (holds.0.1.1.1.0, holds.1.1.1.1.0)

  -- The right part alone
  pub taken : (s t : State) (p : Place) → IsSound (IsSmallTree right) s t p → IsSound IsSmall s t p
  taken s t p inner = (
    sound_weaker (IsSmallTree right) IsSmall s t right_small inner.0,
    place_weaker (IsSmallTree right) IsSmall t p right_small inner.1,
  )

  -- The target and then the right part
  both_taken : (s t u : State) (q p : Place) → IsSound (IsSmallTree target) s t q → IsSound (IsSmallTree right) t u p
      → AreSound IsSmall s u q p
  both_taken s t u q p first second =
      both_sound (IsSmallTree target) (IsSmallTree right) IsSmall s t u q p target_small right_small first second

  -- A target that is refused where it is loaded
  pub compound_private_sound : (s t u : State) (q p : Place) → IsSound (IsSmallTree target) s t q → IsSound (IsSmallTree right) t u p
      → IsSound IsSmall s (with_value u (values.Primitive primitives.Undefined) (Some at.span)) (temporary u (Some at.span))
  compound_private_sound s t u q p first second =
      undefined_sound IsSmall s u at.span (both_taken s t u q p first second).stays at_small

-- Names

abbrev named : At → List ℕ → Syntax
named there name = Node there word.Id (Then (Said name) End)

module _ (at there : At) (operator name : List ℕ) (right : Syntax) where
  abbrev Small : Type 0
  Small = IsSmall at operator (named there name) right

  there_small : Small → IsSmallSpan there.span
  there_small holds = holds.0.1.1.0.0

  name_utf8 : Small → IsUtf8 name
  name_utf8 holds = (target_small at operator (named there name) right holds).1.1.0

pub assigned_variable_sound : (names : Names) (at there : At) (name : List ℕ) (right : Syntax) (symbol : SymbolId) (identifier : ℕ)
    (s t : State) (p : Place) → IsSound (IsSmallTree right) s t p → IsFound names t symbol there.span identifier
    → IsSound (IsSmall at (codes "=") (named there name) right) s
    (with_value (found names t symbol there.span) (assigned_to identifier there.span p) (Some there.span))
    (temporary (found names t symbol there.span) (Some there.span))
assigned_variable_sound names at there name right symbol identifier s t p inner f =
    found_stored (IsSmall at (codes "=") (named there name) right) names s t symbol there.span there.span identifier p
    (taken at (codes "=") (named there name) right s t p inner) f (there_small at there (codes "=") name right)
    (there_small at there (codes "=") name right)

pub assigned_constant_sound : (names : Names) (at there : At) (name : List ℕ) (right : Syntax) (symbol : SymbolId) (identifier : ℕ)
    (s t : State) (p : Place) → IsSound (IsSmallTree right) s t p → IsFound names t symbol there.span identifier
    → IsSound (IsSmall at (codes "=") (named there name) right) s
    (with_value (recorded (found names t symbol there.span) (diagnostic_at row.F6 (names.name symbol.0) there.span))
    (values.Primitive primitives.Undefined) (Some there.span))
    (temporary (recorded (found names t symbol there.span) (diagnostic_at row.F6 (names.name symbol.0) there.span)) (Some there.span))
assigned_constant_sound names at there name right symbol identifier s t p inner f =
    constant_sound (IsSmall at (codes "=") (named there name) right) names s t symbol there.span there.span identifier
    (taken at (codes "=") (named there name) right s t p inner).0 f (there_small at there (codes "=") name right)
    (there_small at there (codes "=") name right)

pub assigned_global_sound : (at there : At) (name : List ℕ) (right : Syntax) (s t : State) (p : Place)
    → IsSound (IsSmallTree right) s t p
    → IsSound (IsSmall at (codes "=") (named there name) right) s (with_value t (values.StoreGlobal name p) (Some there.span))
    (temporary t (Some there.span))
assigned_global_sound at there name right s t p inner =
    outer_stored (IsSmall at (codes "=") (named there name) right) s t name p there.span
    (taken at (codes "=") (named there name) right s t p inner) (name_utf8 at there (codes "=") name right)
    (there_small at there (codes "=") name right)

pub compound_variable_sound : (names : Names) (at there : At) (name operator : List ℕ) (applied : BinaryOperator) (right : Syntax)
    (symbol : SymbolId) (identifier : ℕ) (s t u : State) (q p : Place) → IsSound (IsSmallTree (named there name)) s t q
    → IsSound (IsSmallTree right) t u p → IsFound names (name_computed u applied q p at.span) symbol there.span identifier
    → IsSound (IsSmall at operator (named there name) right) s (name_reloaded names u applied q p at.span there.span symbol identifier)
    (temporary (name_stored names u applied q p at.span there.span symbol identifier) (Some at.span))
compound_variable_sound names at there name operator applied right symbol identifier s t u q p first second f =
    let both = both_taken at operator (named there name) right s t u q p first second in
    reloaded_sound (IsSmall at operator (named there name) right) names s u applied q p at.span there.span symbol identifier both.stays
    both.first both.second f (there_small at there operator name right) (at_small at operator (named there name) right)

pub compound_constant_sound : (names : Names) (at there : At) (name operator : List ℕ) (right : Syntax) (symbol : SymbolId)
    (identifier : ℕ) (s t u : State) (q p : Place) → IsSound (IsSmallTree (named there name)) s t q → IsSound (IsSmallTree right) t u p
    → IsFound names u symbol there.span identifier
    → IsSound (IsSmall at operator (named there name) right) s
    (with_value (recorded (found names u symbol there.span) (diagnostic_at row.F6 (names.name symbol.0) there.span))
    (values.Primitive primitives.Undefined) (Some at.span))
    (temporary (recorded (found names u symbol there.span) (diagnostic_at row.F6 (names.name symbol.0) there.span)) (Some at.span))
compound_constant_sound names at there name operator right symbol identifier s t u q p first second f =
    constant_sound (IsSmall at operator (named there name) right) names s u symbol there.span at.span identifier
    (both_taken at operator (named there name) right s t u q p first second).stays f (there_small at there operator name right)
    (at_small at operator (named there name) right)

pub compound_global_sound : (at there : At) (name operator : List ℕ) (applied : BinaryOperator) (right : Syntax) (s t u : State)
    (q p : Place) → IsSound (IsSmallTree (named there name)) s t q → IsSound (IsSmallTree right) t u p
    → IsSound (IsSmall at operator (named there name) right) s
    (with_value (name_computed u applied q p at.span) (values.StoreGlobal name (temporary u (Some at.span))) (Some at.span))
    (temporary (name_computed u applied q p at.span) (Some at.span))
compound_global_sound at there name operator applied right s t u q p first second =
    let both = both_taken at operator (named there name) right s t u q p first second in
    outer_stored (IsSmall at operator (named there name) right) s (name_computed u applied q p at.span) name (temporary u (Some at.span))
    at.span
    (combined_sound (IsSmall at operator (named there name) right) s u applied q p at.span both.stays both.first both.second
    (at_small at operator (named there name) right)) (name_utf8 at there operator name right)
    (at_small at operator (named there name) right)

-- Properties

module _ (at there : At) (operator : List ℕ) (right : Syntax) {w : Word} {fields parts : Pieces} {pieces : List Piece} {object : Place}
    {key : MemberKey} (is : IsMember w fields parts pieces object key) where
  abbrev target : Syntax
  target = Node there w fields

  abbrev SmallMember : Type 0
  SmallMember = IsSmall at operator target right

  parts_small : SmallMember → AreSmallTrees parts
  parts_small holds = member_small is there (target_small at operator target right holds)

  pub assigned_member_sound : (s t u : State) (p : Place) → IsSound (IsSmallTree right) s t p
      → StaysSound (AreSmallTrees parts) t u × All (IsSoundPlace (AreSmallTrees parts) u) (places_in pieces)
      → IsSound SmallMember s (with_value u (store_of object key p) (Some there.span)) (temporary u (Some there.span))
  assigned_member_sound s t u p inner all =
      property_stored SmallMember s u there p is
      (sound_then (IsSmallTree right) (AreSmallTrees parts) SmallMember s t u (right_small at operator target right) parts_small inner.0
      all.0)
      (places_weaker (AreSmallTrees parts) SmallMember u (places_in pieces) parts_small all.1)
      (place_later (IsSmallTree right) (AreSmallTrees parts) SmallMember t u p (right_small at operator target right) all.0 inner.1)
      (target_small at operator target right)

  pub compound_member_sound : (applied : BinaryOperator) (s t u : State) (p : Place)
      → StaysSound (AreSmallTrees parts) s t × All (IsSoundPlace (AreSmallTrees parts) t) (places_in pieces)
      → IsSound (IsSmallTree right) (with_value t (load_of object key) (Some there.span)) u p
      → IsSound SmallMember s (member_assigned t u object key applied p there.span)
      (temporary (member_computed t u applied p there.span) (Some there.span))
  compound_member_sound applied s t u p all inner =
      changed_sound SmallMember s t u there applied p is (sound_weaker (AreSmallTrees parts) SmallMember s t parts_small all.0)
      (places_weaker (AreSmallTrees parts) SmallMember t (places_in pieces) parts_small all.1)
      (taken at operator target right (with_value t (load_of object key) (Some there.span)) u p inner)
      (target_small at operator target right)

-- A property of a private name
abbrev private_at : At → (object : Syntax) → (name : List ℕ) → Syntax
private_at there object name = Node there word.Privatemember (Then (Flag false) (Then object (Then (Said name) End)))

pub assigned_private_sound : (at there : At) (object : Syntax) (name : List ℕ) (right : Syntax) (s t u : State) (p q : Place)
    → IsSound (IsSmallTree right) s t p → IsSound (IsSmallTree object) t u q
    → IsSound (IsSmall at (codes "=") (private_at there object name) right) s
    (with_value (recorded u (refusal row.F5 at.span)) (values.Primitive primitives.Undefined) (Some at.span))
    (temporary (recorded u (refusal row.F5 at.span)) (Some at.span))
assigned_private_sound at there object name right s t u p q first second =
    noted_sound small s u (refusal row.F5 at.span) at.span
    (sound_then (IsSmallTree right) (IsSmallTree object) small s t u
    (right_small at (codes "=") (private_at there object name) right) object_small first.0 second.0)
    (at_small at (codes "=") (private_at there object name) right)
  where
    small : Type 0
    small = IsSmall at (codes "=") (private_at there object name) right

    object_small : small → IsSmallTree object
    object_small holds = (holds.0.1.1.0.1.1.0, holds.1.1.1.0.1.1.0)
