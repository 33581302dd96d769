-- The nodes of a tree whose instructions are counted, by the kinds and the span of a counted node.
use Rattle.std.specs.Prelude.{ℕ, ◌+◌, Bool, false, ◌&&◌, if◌then◌else◌, Option, Some, None, List, [], ◌∷◌, ◌++◌, codes}
use Rattle.std.specs.List.{list_any}
use Rattle.std.specs.Str.{bytes_eq}
use Rattle.rl_model.specs.Counted.{Counted}
use Rattle.rl_base.specs.declared.span.Span.{Span}
use Rattle.rl_names.specs.Names.{Names}
use Rattle.rl_promises.specs.Held.{is_span}
use Rattle.rl_promises.specs.Patterns.{is_forced, is_lost_item}
use Rattle.rl_syntax.specs.Syntax.{Syntax, Node, Listed, Said, Count, Flag, Absent, Pieces, End, Then, span_of}
use Rattle.rl_syntax.specs.declared.numbered.At.{At}
use Rattle.rl_syntax.specs.declared.word.Word.{Word}
use Rattle.rl_syntax.specs.declared.word.Word.TheVariants as word

-- The word of a call's instruction: a call of a property is one of a method.
abbrev pub call_word : (callee : Syntax) → List ℕ
call_word (Node at word.Member parts) = codes "methodcall"
call_word (Node at word.Index parts) = codes "methodcall"
call_word callee = codes "call"

-- The word of a store to a target, where that is a name: one of the three that stores have.
abbrev pub store_word : (target : Syntax) → Option (List ℕ)
store_word (Node at word.Id parts) = Some (codes "storelocal")
store_word target = None

-- The word of a node's instruction, where the instruction is counted. None of any other node. A store has any of its words.
abbrev pub held_word : Word → Pieces → Option (List ℕ)
held_word word.Call (Then optional (Then callee arguments)) = Some (call_word callee)
held_word word.Call parts = Some (codes "call")
held_word word.New parts = Some (codes "new")
held_word word.Await parts = Some (codes "await")
held_word word.Assign (Then (Said operator) (Then target parts)) = store_word target
held_word word.Forin (Then head parts) = store_word head
held_word word.Forof (Then is_await (Then head parts)) = store_word head
held_word _ parts = None

-- A node whose instruction is counted: the word and the span of the instruction.
pub record Held : Type 0 where
  pub word : List ℕ
  pub span : Span

-- The store to a name that takes its piece of a value from a temporary, with the span that the store has.
abbrev pub stored_by : (target : Syntax) → Span → List Held
stored_by (Node at word.Id parts) span = record { word = codes "storelocal"; span = span } ∷ []
stored_by target span = []

-- The store of an item of a target, where its pieces are taken from temporaries, if the item is a name. One with a default has the span of
-- both.
abbrev pub stored_in : (item : Syntax) → List Held
stored_in (Node at word.Id parts) = stored_by (Node at word.Id parts) at.span
stored_in (Node at word.Default (Then target default)) = stored_by target at.span
stored_in (Node at word.Short (Then name (Then Absent End))) = stored_by name (span_of name)
stored_in (Node at word.Short (Then name default)) = stored_by name at.span
stored_in (Node at word.Keyed (Then computed (Then key (Then target End)))) =
    if is_lost_item (Node at word.Keyed (Then computed (Then key (Then target End)))) then [] else stored_in target
stored_in (Node at word.Rest (Then target End)) = stored_in target
stored_in item = []

abbrev pub stored_among : (items : Pieces) → List Held
stored_among End = []
stored_among (Then item items) = stored_in item ++ stored_among items

-- The stores of the items of a target, where their pieces are taken from temporaries.
abbrev pub stores_of : Names → (items : Pieces) → (rest : Syntax) → List Held
stores_of names items rest = if is_forced names items rest then stored_among items ++ stored_in rest else []

-- As `stores_of`, for a node by its word and parts.
abbrev pub stores_at : Names → Word → Pieces → List Held
stores_at names word.Arraytarget (Then (Listed items) (Then rest End)) = stores_of names items rest
stores_at names word.Objecttarget (Then (Listed properties) (Then rest End)) = stores_of names properties rest
stores_at names _ parts = []

-- The span of a node's instruction: `=` and the head of a loop have that of the target.
abbrev pub held_span : Word → Pieces → Span → Span
held_span word.Assign (Then (Said operator) (Then target parts)) at = if bytes_eq operator (codes "=") then span_of target else at
held_span word.Forin (Then head parts) at = span_of head
held_span word.Forof (Then is_await (Then head parts)) at = span_of head
held_span _ parts at = at

-- The kinds that a counted node has in a covered function.
pub data IsHeldKind : (kinds : List (List ℕ)) → Type 0 where
  Calls : IsHeldKind (codes "call" ∷ codes "methodcall" ∷ [])
  Constructions : IsHeldKind (codes "new" ∷ [])
  Awaits : IsHeldKind (codes "await" ∷ [])
  Stores : IsHeldKind (codes "storeglobal" ∷ codes "storelocal" ∷ codes "storecontext" ∷ [])

-- True of a word that is one of the kinds.
abbrev pub is_among : (kinds : List (List ℕ)) → Option (List ℕ) → Bool
is_among kinds None = false
is_among kinds (Some text) = list_any (bytes_eq text) kinds

-- The number of these that have the counted node's span and one of its kinds.
abbrev pub tally_of : Counted → List Held → ℕ
tally_of key [] = 0
tally_of key (held ∷ more) = (if is_among key.kinds (Some held.word) && is_span key.span (Some held.span) then 1 else 0) + tally_of key more

-- The number of a node's own instructions that have the counted node's span and one of its kinds: those of its items, for a target, and
-- otherwise 1 or 0.
abbrev pub tally_at : Names → Counted → Word → Pieces → At → ℕ
tally_at names key w parts at =
    (if is_among key.kinds (held_word w parts) && is_span key.span (Some (held_span w parts at.span)) then 1 else 0)
    + tally_of key (stores_at names w parts)

abbrev mutual
  -- The number of nodes of a tree whose instructions have the counted node's span and one of its kinds.
  pub tallied : Names → Counted → Syntax → ℕ
  tallied names key (Node at w parts) = tally_at names key w parts at + tallied_among names key parts
  tallied names key (Listed parts) = tallied_among names key parts
  tallied names key (Said text) = 0
  tallied names key (Count number) = 0
  tallied names key (Flag flag) = 0
  tallied names key Absent = 0

  -- As `tallied`, for parts in a row.
  pub tallied_among : Names → Counted → Pieces → ℕ
  tallied_among names key End = 0
  tallied_among names key (Then part parts) = tallied names key part + tallied_among names key parts
