-- Entities of a unit in a table.
use Rattle.std.proofs.Common.{◌≡◌, ℕ, Bool, true, false, if◌then◌else◌, Option, Some, None, List, [], ◌∷◌, ◌++◌, refl, ap, sym, ◌∙◌}
use Rattle.std.specs.Option.{option_map}
use Rattle.std.specs.Str.{bytes_eq}
use Rattle.rl_atoms.specs.Entities.{entity_name, entity_value}
use Rattle.rl_atoms.specs.declared.entity.Entity.{Entity}
use Rattle.rl_base.specs.NameTables.{item_named}
use Rattle.rl_base.specs.Scalars.{is_scalar_value}
use Rattle.rl_grammar.specs.Grammar.{fits}
use Rattle.rl_grammar.specs.declared.kind.Field.TheVariants as field
use Rattle.rl_grammar.specs.declared.kind.Kind.TheVariants as kind
use Rattle.rl_grammar.proofs.Viewing.{two_fit}
use Rattle.rl_model.specs.JsxText.{entity_of, value_among}
use Rattle.rl_source_scene.specs.Entities.{AreAdded, IsAdded, entity_node, first_found}
use Rattle.rl_syntax.specs.Syntax.{Syntax, Node, Listed, Said, Count, Pieces, End, Then}
use Rattle.rl_syntax.specs.declared.numbered.At.{At}
use Rattle.rl_syntax.specs.declared.word.Word.TheVariants as word

-- The value of an entity of a unit that fits.
pub entity_scalar : (at : At) (name : List ℕ) (value : ℕ) (tree : Syntax) → entity_node at name value ≡ tree
    → fits (field.One kind.Entity) tree ≡ true → is_scalar_value value ≡ true
entity_scalar at name value tree is h =
    (two_fit _ (Said name) (Count value) refl (field.One kind.Text) (field.One kind.ScalarValue) (ap (fits (field.One kind.Entity)) is ∙ h)).1

abbrev value_in : Option Entity → Option ℕ
value_in found = option_map (λ (e : Entity). e.value) found

alone : (b : Bool) (e : Entity) → value_in (if b then Some e else None) ≡ (if b then Some e.value else None)
alone true e = refl
alone false e = refl

found_behind : (b : Bool) (x : Entity) (more less : Option Entity) (late : Option ℕ) → value_in more ≡ first_found (value_in less) late
    → value_in (if b then Some x else more) ≡ first_found (value_in (if b then Some x else less)) late
found_behind true x more less late same = refl
found_behind false x more less late same = same

-- The value of a name in a list with an entity behind it.
behind : (entities : List Entity) (e : Entity) (name : List ℕ)
    → entity_value (entities ++ e ∷ []) name ≡ first_found (entity_value entities name) (if bytes_eq e.name name then Some e.value else None)
behind [] e name = alone (bytes_eq e.name name) e
behind (x ∷ entities) e name =
    found_behind (bytes_eq x.name name) x (item_named entity_name (entities ++ e ∷ []) name) (item_named entity_name entities name)
    (if bytes_eq e.name name then Some e.value else None) (behind entities e name)

pub entity_added : (table new : List Entity) (e : Entity) (at : At) (tree : Syntax) → entity_node at e.name e.value ≡ tree
    → ((name : List ℕ) → entity_value new name ≡ entity_value (table ++ e ∷ []) name) → IsAdded table tree new
entity_added table new e at tree is added = record {
  at = at;
  text = e.name;
  value = e.value;
  is = is;
  same = λ name. added name ∙ behind table e name ∙ ap (λ t. first_found (entity_value table name) (value_among (Then t End) name)) is;
}

found_last : (found : Option ℕ) → first_found found None ≡ found
found_last None = refl
found_last (Some value) = refl

found_twice : (a b c : Option ℕ) → first_found (first_found a b) c ≡ first_found a (first_found b c)
found_twice None b c = refl
found_twice (Some value) b c = refl

found_at : (b : Bool) (value : ℕ) (later : Option ℕ) → first_found (if b then Some value else None) later ≡ (if b then Some value else later)
found_at true value later = refl
found_at false value later = refl

-- The entities that are left, without the first.
value_split : (at : At) (text : List ℕ) (value : ℕ) (entity : Syntax) (rest : Pieces) (name : List ℕ) → entity_node at text value ≡ entity
    → first_found (value_among (Then entity End) name) (value_among rest name) ≡ value_among (Then entity rest) name
value_split at text value entity rest name is =
    ap (λ t. first_found (value_among (Then t End) name) (value_among rest name)) (sym is)
    ∙ found_at (bytes_eq text name) value (value_among rest name)
    ∙ ap (λ t. value_among (Then t rest) name) is

pub entities_first : (all : Pieces) → AreAdded [] all all
entities_first all = record { same = λ name. refl }

pub entities_next : (table new : List Entity) (left rest all : Pieces) (entity : Syntax) → left ≡ Then entity rest
    → IsAdded table entity new → AreAdded table left all → AreAdded new rest all
entities_next table new left rest all entity split added before = record {
  same = λ name.
      ap (λ found. first_found found (value_among rest name)) (added.same name)
      ∙ found_twice (entity_value table name) (value_among (Then entity End) name) (value_among rest name)
      ∙ ap (first_found (entity_value table name)) (value_split added.at added.text added.value entity rest name added.is)
      ∙ ap (λ ps. first_found (entity_value table name) (value_among ps name)) (sym split)
      ∙ before.same name;
}

-- The table of all entities of a unit.
pub entities_last : (table : List Entity) (left entities parts : Pieces) (at : At) (unit : Syntax) → left ≡ End
    → Node at word.Unit (Then (Listed entities) parts) ≡ unit → AreAdded table left entities
    → (name : List ℕ) → entity_value table name ≡ entity_of unit name
entities_last table left entities parts at unit ends is before name =
    sym (found_last (entity_value table name))
    ∙ ap (λ ps. first_found (entity_value table name) (value_among ps name)) (sym ends)
    ∙ before.same name
    ∙ ap (λ t. entity_of t name) is

pub ruleset listing = (entities_first, entities_next, entities_last)
