-- Entities are found by name, the first of a name.
use Rattle.std.proofs.Common.{◌≡◌, ℕ, ◌+◌, Bool, true, false, not, ◌&&◌, if◌then◌else◌, Option, Some, None, is_some, List, [], ◌∷◌, ◌++◌, refl, sym, ap, ◌∙◌, true≢false, inl, inr}
use Rattle.std.proofs.lemmas.Bool.{cases_Bool, and_parts, not-false}
use Rattle.std.proofs.lemmas.List.Folds.{list_all-append}
use Rattle.std.proofs.lemmas.Slice.Eq.{bytes_eq-Decides}
use Rattle.std.specs.Option.{option_map}
use Rattle.std.specs.Str.{bytes_eq}
use Rattle.rl_base.specs.NameTables.{index_from, index_named, item_named}
use Rattle.rl_base.specs.Scalars.{is_scalar_value}
use Rattle.rl_atoms.specs.Entities.{entity_name, entity_value, are_scalar}
use Rattle.rl_atoms.specs.declared.entity.Entity.{Entity}

module _ {X : Type 0} (name_of : X → List ℕ) where
  -- An item of another name does not change a look-up.
  item-other : (items : List X) (item : X) (name : List ℕ) → bytes_eq (name_of item) name ≡ false → item_named name_of (items ++ item ∷ []) name ≡ item_named name_of items name
  item-other [] item name other = ap (λ (b : Bool). if b then Some item else None) other
  item-other (x ∷ items) item name other = ap (λ o. if bytes_eq (name_of x) name then Some x else o) (item-other items item name other)

  -- An item behind one of its name changes no look-up.
  item-known : (first : ℕ) (items : List X) (item : X) (name : List ℕ) → is_some (index_from name_of first items (name_of item)) ≡ true
      → item_named name_of (items ++ item ∷ []) name ≡ item_named name_of items name
  item-known first [] item name known = absurd (true≢false (sym known))
  item-known first (x ∷ items) item name known = elim (cases_Bool (bytes_eq (name_of x) name)) [
    | inl here ↦
        ap (λ (b : Bool). if b then Some x else item_named name_of (items ++ item ∷ []) name) here
        ∙ sym (ap (λ (b : Bool). if b then Some x else item_named name_of items name) here)
    | inr away ↦
        ap (λ (b : Bool). if b then Some x else item_named name_of (items ++ item ∷ []) name) away
        ∙ elim (cases_Bool (bytes_eq (name_of x) (name_of item))) [
          | inl same ↦
              let equal : name_of x ≡ name_of item = (bytes_eq-Decides (name_of x) (name_of item)).0 same in
              item-other items item name (ap (λ n. bytes_eq n name) (sym equal) ∙ away)
          | inr differ ↦
              item-known (first + 1) items item name
              (ap (λ (b : Bool). is_some (if b then Some first else index_from name_of (first + 1) items (name_of item))) (sym differ) ∙ known)
        ]
        ∙ sym (ap (λ (b : Bool). if b then Some x else item_named name_of items name) away)
  ]

or_else : {X : Type 0} → Option X → Option X → Option X
or_else None other = other
or_else (Some x) other = Some x

-- The value of a name in a list with one more entity is that in the list, or that of the entity where the list has none.
entity-behind : (entities : List Entity) (entity : Entity) (name : List ℕ)
    → entity_value (entities ++ entity ∷ []) name ≡ or_else (entity_value entities name) (entity_value (entity ∷ []) name)
unfolding or_else
entity-behind [] entity name = refl
entity-behind (x ∷ entities) entity name = elim (cases_Bool (bytes_eq x.name name)) [
  | inl here ↦
      ap (λ (b : Bool). option_map (λ e. e.value) (if b then Some x else item_named entity_name (entities ++ entity ∷ []) name)) here
      ∙ sym (ap (λ (b : Bool). or_else (option_map (λ e. e.value) (if b then Some x else item_named entity_name entities name)) (entity_value (entity ∷ []) name)) here)
  | inr away ↦
      ap (λ (b : Bool). option_map (λ e. e.value) (if b then Some x else item_named entity_name (entities ++ entity ∷ []) name)) away
      ∙ entity-behind entities entity name
      ∙ sym (ap (λ (b : Bool). or_else (option_map (λ e. e.value) (if b then Some x else item_named entity_name entities name)) (entity_value (entity ∷ []) name)) away)
]

-- Lists in which look-ups agree go on to agree when one entity is put behind both.
pub entities_more : (entities others : List Entity) (entity : Entity) (name : List ℕ) → entity_value entities name ≡ entity_value others name
    → entity_value (entities ++ entity ∷ []) name ≡ entity_value (others ++ entity ∷ []) name
entities_more entities others entity name same =
    entity-behind entities entity name ∙ ap (λ o. or_else o (entity_value (entity ∷ []) name)) same ∙ sym (entity-behind others entity name)

-- A table to which an entity was added, unless its name was taken, finds what the list with the entity behind it has first.
pub entity_added : (is_new : Bool) (old new : List Entity) (entity : Entity) → is_new ≡ not (is_some (index_named entity_name old (entity_name entity)))
    → new ≡ (if is_new then old ++ entity ∷ [] else old) → (name : List ℕ) → entity_value new name ≡ entity_value (old ++ entity ∷ []) name
entity_added true old new entity known is name = ap (λ l. entity_value l name) is
entity_added false old new entity known is name =
    ap (λ l. entity_value l name) is ∙ ap (option_map (λ e. e.value)) (sym (item-known entity_name 0 old entity name (not-false _ (sym known))))

-- Values stay scalar.
pub scalar_added : (is_new : Bool) (old new : List Entity) (entity : Entity) → new ≡ (if is_new then old ++ entity ∷ [] else old)
    → are_scalar old ≡ true → is_scalar_value entity.value ≡ true → are_scalar new ≡ true
scalar_added true old new entity is all one = ap are_scalar is ∙ list_all-append _ old (entity ∷ []) ∙ ap (λ b. b && (is_scalar_value entity.value && true)) all ∙ ap (λ b. b && true) one
scalar_added false old new entity is all one = ap are_scalar is ∙ all

-- The value of an entity that is found is scalar.
pub entity_scalar : (entities : List Entity) (name : List ℕ) (entity : Entity) → item_named entity_name entities name ≡ Some entity → are_scalar entities ≡ true
    → is_scalar_value entity.value ≡ true
entity_scalar [] name entity found all = absurd (cc)
entity_scalar (x ∷ entities) name entity found all = elim (cases_Bool (bytes_eq x.name name)) [
  | inl here ↦
      let at : Some x ≡ Some entity = ap (λ (b : Bool). if b then Some x else item_named entity_name entities name) (sym here) ∙ found in
      let same : x ≡ entity = cc in
      ap (λ (e : Entity). is_scalar_value e.value) (sym same) ∙ (and_parts _ _ all).0
  | inr away ↦
      entity_scalar entities name entity (ap (λ (b : Bool). if b then Some x else item_named entity_name entities name) (sym away) ∙ found) (and_parts _ _ all).1
]
