-- Calls and tagged templates of a covered function that is orderly: as it is written and as it is ported they lend one receiver.
use Rattle.std.proofs.Common.{◌≡◌, ℕ, Bool, true, false, true≢false, ◌&&◌, ◌||◌, nat_eq, not, None, List, [], ◌∷◌, ◌++◌, refl, sym, ap, ◌∙◌}
use Rattle.std.proofs.lemmas.Bool.{and_parts, not-true}
use Rattle.std.proofs.lemmas.List.Folds.{list_all-append}
use Rattle.std.specs.List.{AllByRecursion, list_all}
use Rattle.rl_model.specs.Code.{assigned_at, assigned_in, code, code_among, code_of, contains, first_code, flat, inner_functions}
use Rattle.rl_model.specs.Code.{lowered_functions}
use Rattle.rl_model.specs.Marked.{marked}
use Rattle.rl_model.specs.Orderly.{is_link_inside, is_orderly_node}
use Rattle.rl_model.specs.Shapes.{is_link, lends}
use Rattle.rl_model.specs.Source.{is_orderly}
use Rattle.rl_model.specs.Units.{names_of}
use Rattle.rl_names.proofs.Items.{each_left, each_right}
use Rattle.rl_names.specs.Functions.{body_in, params_in}
use Rattle.rl_names.specs.Names.{Names}
use Rattle.rl_promises.proofs.CoveredWorlds.{body_covered, params_covered}
use Rattle.rl_promises.proofs.FormedParts.{AreFormed, HasFormedParts, IsFormed}
use Rattle.rl_promises.specs.Covered.{AreCovered, IsCovered, IsCoveredFunction, covers}
use Rattle.rl_syntax.specs.Syntax.{Syntax, Node, Listed, Said, Count, Flag, Absent, Pieces, End, Then}
use Rattle.rl_syntax.specs.declared.numbered.At.{At}
use Rattle.rl_syntax.specs.declared.word.Word.{Word}
use Rattle.rl_syntax.specs.declared.word.Word.TheVariants as word

-- True of a call whose callee lends its object as it is written, but not as it is ported, and of a template whose tag lends one.
abbrev pub lends_at : Word → Pieces → Bool
lends_at word.Call (Then optional (Then callee parts)) = lends callee && not (is_link callee)
lends_at word.Tagged (Then tag parts) = lends tag
lends_at _ parts = false

-- The facts that are asked of the parts of a node: none of a type, and of an instantiation that on its first part alone.
abbrev pub Within : Word → (first all : Type 0) → Type 0
Within word.Type first all = Unit {0}
Within word.Instantiate first all = first
Within _ first all = all

-- Facts of a node by itself: it lends one receiver, as it is written and as it is ported, it is orderly, no function assigns a variable
-- beside those `assigned` that it assigns, and its parts that the port evaluates in another order fit the grammar.
pub record IsOrderlyAt (names : Names) (assigned : List ℕ) (at : At) (w : Word) (parts : Pieces) : Type 0 where
  pub lends : lends_at w parts ≡ false
  pub orderly : is_orderly_node names assigned (Node at w parts) ≡ true
  pub assigns : (symbol : ℕ) → contains (assigned_at names (Node at w parts)) symbol ≡ true → contains assigned symbol ≡ true
  pub formed : HasFormedParts w parts

module _ (Facts : At → Word → Pieces → Type 0) where
  abbrev mutual
    -- Every node of the tree that is code is covered, and has these facts.
    pub Each : Syntax → Type 0
    Each (Node at w parts) = (covers w parts ≡ true) × Facts at w parts × Within w (EachFirst parts) (EachAmong parts)
    Each (Listed parts) = EachAmong parts
    Each (Said text) = Unit {0}
    Each (Count number) = Unit {0}
    Each (Flag flag) = Unit {0}
    Each Absent = Unit {0}

    -- As `Each`, for parts in a row.
    pub EachAmong : Pieces → Type 0
    EachAmong End = Unit {0}
    EachAmong (Then piece pieces) = Each piece × EachAmong pieces

    -- As `Each`, for the first of some parts.
    pub EachFirst : Pieces → Type 0
    EachFirst End = Unit {0}
    EachFirst (Then piece pieces) = Each piece

-- Every node of the tree that is code is covered, and orderly.
abbrev pub LendsAlike : Names → (assigned : List ℕ) → Syntax → Type 0
LendsAlike names assigned = Each (IsOrderlyAt names assigned)

-- As `LendsAlike`, for parts in a row.
abbrev pub LendAlike : Names → (assigned : List ℕ) → Pieces → Type 0
LendAlike names assigned = EachAmong (IsOrderlyAt names assigned)

-- As `LendsAlike`, for the first of some parts.
abbrev pub LendsFirst : Names → (assigned : List ℕ) → Pieces → Type 0
LendsFirst names assigned = EachFirst (IsOrderlyAt names assigned)

-- A callee that is no property or chain inside parentheses and types lends no object.
lends_none : (e : Syntax) → is_link_inside e ≡ false → lends e ≡ false
lends_none (Node at word.Member parts) none = absurd (true≢false none)
lends_none (Node at word.Index parts) none = absurd (true≢false none)
lends_none (Node at word.Privatemember parts) none = absurd (true≢false none)
lends_none (Node at word.Chain parts) none = absurd (true≢false none)
lends_none (Node at word.Paren (Then expression End)) none = lends_none expression none
lends_none (Node at word.As (Then expression parts)) none = lends_none expression none
lends_none (Node at word.Satisfies (Then expression parts)) none = lends_none expression none
lends_none (Node at word.Assert (Then type (Then expression End))) none = lends_none expression none
lends_none (Node at word.Nonnull (Then expression End)) none = lends_none expression none
lends_none (Node at word.Instantiate (Then expression parts)) none = lends_none expression none
lends_none _ none = refl

-- An orderly callee is a property, which lends its object both ways, or lends none.
property_or_none : (lends link inside : Bool) → (inside ≡ false → lends ≡ false) → link || not inside ≡ true → lends && not link ≡ false
property_or_none true true inside none orderly = refl
property_or_none false true inside none orderly = refl
property_or_none lends false true none orderly = absurd (true≢false (sym orderly))
property_or_none lends false false none orderly = ap (λ (b : Bool). b && true) (none refl)

call_lends : (names : Names) (assigned : List ℕ) (at : At) (parts : Pieces)
    → is_orderly_node names assigned (Node at word.Call parts) ≡ true → lends_at word.Call parts ≡ false
call_lends names assigned at (Then optional (Then callee parts)) orderly =
    property_or_none (lends callee) (is_link callee) (is_link_inside callee) (lends_none callee) orderly
call_lends names assigned at _ orderly = refl

tag_lends : (names : Names) (assigned : List ℕ) (at : At) (parts : Pieces)
    → is_orderly_node names assigned (Node at word.Tagged parts) ≡ true → lends_at word.Tagged parts ≡ false
tag_lends names assigned at (Then tag parts) orderly = lends_none tag (not-true (is_link_inside tag) orderly)
tag_lends names assigned at End orderly = refl

or_either : (a b c : Bool) → (b ≡ true → c ≡ true) → a || b ≡ true → a || c ≡ true
or_either true b c more h = refl
or_either false b c more h = more h

or_second : (a b : Bool) → b ≡ true → a || b ≡ true
or_second true b h = refl
or_second false b h = h

-- The nodes of some code assign no other variables.
abbrev AreAssigning : Names → (assigned : List ℕ) → List Syntax → Type 0
AreAssigning names assigned nodes =
    AllByRecursion (λ (node : Syntax).
    (symbol : ℕ) → contains (assigned_at names node) symbol ≡ true → contains assigned symbol ≡ true) nodes

pub contains_left : (xs ys : List ℕ) (symbol : ℕ) → contains xs symbol ≡ true → contains (xs ++ ys) symbol ≡ true
contains_left [] ys symbol there = absurd (true≢false (sym there))
contains_left (x ∷ xs) ys symbol there =
    or_either (nat_eq symbol x) (contains xs symbol) (contains (xs ++ ys) symbol) (contains_left xs ys symbol) there

pub contains_right : (xs ys : List ℕ) (symbol : ℕ) → contains ys symbol ≡ true → contains (xs ++ ys) symbol ≡ true
contains_right [] ys symbol there = there
contains_right (x ∷ xs) ys symbol there = or_second (nat_eq symbol x) (contains (xs ++ ys) symbol) (contains_right xs ys symbol there)

-- A list that begins alike, and goes on with all that the other one has.
pub in_front : (xs ys zs : List ℕ) (symbol : ℕ) → (contains ys symbol ≡ true → contains zs symbol ≡ true)
    → contains (xs ++ ys) symbol ≡ true → contains (xs ++ zs) symbol ≡ true
in_front [] ys zs symbol more there = more there
in_front (x ∷ xs) ys zs symbol more there =
    or_either (nat_eq symbol x) (contains (xs ++ ys) symbol) (contains (xs ++ zs) symbol) (in_front xs ys zs symbol more) there

assigning : (names : Names) (assigned : List ℕ) (nodes : List Syntax)
    → ((symbol : ℕ) → contains (flat (assigned_at names) nodes) symbol ≡ true → contains assigned symbol ≡ true)
    → AreAssigning names assigned nodes
assigning names assigned [] among = tt
assigning names assigned (node ∷ nodes) among = (
  (λ symbol there. among symbol (contains_left (assigned_at names node) (flat (assigned_at names) nodes) symbol there)),
  assigning names assigned nodes
      (λ symbol there. among symbol (contains_right (assigned_at names node) (flat (assigned_at names) nodes) symbol there)),
)

module _ (names : Names) (assigned : List ℕ) where
  abbrev orderly_node : Syntax → Bool
  orderly_node = is_orderly_node names assigned

  abbrev Assigning : List Syntax → Type 0
  Assigning = AreAssigning names assigned

  abbrev Lends : Syntax → Type 0
  Lends = LendsAlike names assigned

  -- A covered node by itself.
  node_lends : (at : At) (w : Word) (parts : Pieces) → is_orderly_node names assigned (Node at w parts) ≡ true → lends_at w parts ≡ false
  node_lends at word.Call parts orderly = call_lends names assigned at parts orderly
  node_lends at word.Tagged parts orderly = tag_lends names assigned at parts orderly
  node_lends at _ parts orderly = refl

  -- A covered node is code, but for a type: itself, and then its parts.
  itself : (at : At) (w : Word) (parts : Pieces) → covers w parts ≡ true → list_all orderly_node (code (Node at w parts)) ≡ true
      → Assigning (code (Node at w parts)) → HasFormedParts w parts → IsOrderlyAt names assigned at w parts
  itself at word.Type parts covered orderly assigns formed = record {
    lends = refl;
    orderly = refl;
    assigns = λ symbol there. absurd (true≢false (sym there));
    formed = formed;
  }
  itself at word.Classdecl parts covered orderly assigns formed = absurd (true≢false (sym covered))
  itself at word.Classexpr parts covered orderly assigns formed = absurd (true≢false (sym covered))
  itself at word.Fundecl parts covered orderly assigns formed = absurd (true≢false (sym covered))
  itself at w parts covered orderly assigns formed =
      let own = (and_parts (orderly_node (Node at w parts)) _ orderly).0 in
      record { lends = node_lends at w parts own; orderly = own; assigns = assigns.0; formed = formed }

  -- The code of the parts of a covered node, which is no function.
  within : (at : At) (w : Word) (parts : Pieces) (First All : Type 0) → covers w parts ≡ true
      → list_all orderly_node (code (Node at w parts)) ≡ true → Assigning (code (Node at w parts))
      → (list_all orderly_node (first_code parts) ≡ true → Assigning (first_code parts) → First)
      → (list_all orderly_node (code_among parts) ≡ true → Assigning (code_among parts) → All) → Within w First All
  within at word.Type parts First All covered orderly assigns one each = tt
  within at word.Instantiate parts First All covered orderly assigns one each =
      one (and_parts (orderly_node (Node at word.Instantiate parts)) (list_all orderly_node (first_code parts)) orderly).1 assigns.1
  within at word.Arrow parts First All covered orderly assigns one each = absurd (true≢false (sym covered))
  within at word.Funexpr parts First All covered orderly assigns one each = absurd (true≢false (sym covered))
  within at word.Fundecl parts First All covered orderly assigns one each = absurd (true≢false (sym covered))
  within at word.Classdecl parts First All covered orderly assigns one each = absurd (true≢false (sym covered))
  within at word.Classexpr parts First All covered orderly assigns one each = absurd (true≢false (sym covered))
  within at w parts First All covered orderly assigns one each =
      each (and_parts (orderly_node (Node at w parts)) (list_all orderly_node (code_among parts)) orderly).1 assigns.1

  mutual
    lends_in : (e : Syntax) → IsCovered e → list_all orderly_node (code e) ≡ true → Assigning (code e) → IsFormed e → Lends e
    lends_in (Node at w parts) covered orderly assigns formed = (
      covered.0,
      itself at w parts covered.0 orderly assigns formed.0,
      within at w parts (LendsFirst names assigned parts) (LendAlike names assigned parts) covered.0 orderly assigns
          (λ o a. lends_first parts covered.1 o a formed.1) (λ o a. lends_among parts covered.1 o a formed.1),
    )
    lends_in (Listed parts) covered orderly assigns formed = lends_among parts covered orderly assigns formed
    lends_in (Said text) covered orderly assigns formed = tt
    lends_in (Count number) covered orderly assigns formed = tt
    lends_in (Flag flag) covered orderly assigns formed = tt
    lends_in Absent covered orderly assigns formed = tt

    lends_first : (parts : Pieces) → AreCovered parts → list_all orderly_node (first_code parts) ≡ true → Assigning (first_code parts)
        → AreFormed parts
        → LendsFirst names assigned parts
    lends_first End covered orderly assigns formed = tt
    lends_first (Then part parts) covered orderly assigns formed = lends_in part covered.0 orderly assigns formed.0

    lends_among : (parts : Pieces) → AreCovered parts → list_all orderly_node (code_among parts) ≡ true → Assigning (code_among parts)
        → AreFormed parts
        → LendAlike names assigned parts
    lends_among End covered orderly assigns formed = tt
    lends_among (Then part parts) covered orderly assigns formed =
        let both = and_parts (list_all orderly_node (code part)) (list_all orderly_node (code_among parts))
        (sym (list_all-append orderly_node (code part) (code_among parts)) ∙ orderly) in (
          lends_in part covered.0 both.0 (each_left _ (code part) (code_among parts) assigns) formed.0,
          lends_among parts covered.1 both.1 (each_right _ (code part) (code_among parts) assigns) formed.1,
        )

-- The variables that the lowered functions of a unit assign.
abbrev pub assigned_of : (u : Syntax) → List ℕ
assigned_of u = flat (assigned_in (names_of u)) (lowered_functions (marked u))

-- Parameters and body of the marked function lend one receiver to each call and tag, as it is written and as it is ported, if the function
-- is covered and orderly.
pub function_lends : (u : Syntax) → IsCoveredFunction (marked u) → IsFormed (params_in (marked u)) → IsFormed (body_in (marked u))
    → is_orderly u None ≡ true
    → LendsAlike (names_of u) (assigned_of u) (params_in (marked u)) × LendsAlike (names_of u) (assigned_of u) (body_in (marked u))
function_lends u covered formed also orderly =
    let names : Names = names_of u in
    let assigned : List ℕ = assigned_of u in
    let nodes : list_all (is_orderly_node names assigned) (code_of (marked u)) ≡ true = (and_parts _ _ (and_parts _ _ orderly).0).0 in
    let parted = list_all-append (is_orderly_node names assigned) (code (params_in (marked u))) (code (body_in (marked u))) in
    let both = and_parts _ _ (sym parted ∙ nodes) in
    let assigns = assigning names assigned (code_of (marked u))
    (contains_left (assigned_in names (marked u)) (flat (assigned_in names) (inner_functions (marked u)))) in (
      lends_in names assigned (params_in (marked u)) (params_covered (marked u) covered) both.0
          (each_left _ (code (params_in (marked u))) (code (body_in (marked u))) assigns) formed,
      lends_in names assigned (body_in (marked u)) (body_covered (marked u) covered) both.1
          (each_right _ (code (params_in (marked u))) (code (body_in (marked u))) assigns) also,
    )
