-- The least marker of each symbol.
use Rattle.std.proofs.Common.{◌≡◌, ◌<◌, ◌≤◌, ℕ, zero, suc, nat_eq, nat_le, eqb-true, Bool, true, false, ◌&&◌, ◌||◌, Option, Some, None}
use Rattle.std.proofs.Common.{List, [], ◌∷◌, ◌++◌, length, slice_get, slice_set, arith, ap, sym, refl, ◌∙◌}
use Rattle.std.specs.List.{list_any}
use Rattle.std.proofs.lemmas.Bool.{eqb-false, le-leb, leb-true}
use Rattle.rl_bindings.proofs.LookUps.{by_test, get_set_other, get_set_same}
use Rattle.rl_bindings.specs.declared.bindings.Bindings.{Bindings}
use Rattle.rl_bindings.specs.declared.event.Bound.{Bound}
use Rattle.rl_code.proofs.Flagging.{eq_swapped}
use Rattle.rl_markers.specs.Named.{AddsMarks, is_marked, marks_list}
use Rattle.rl_markers.specs.Tables.{AreMarkers, before, is_before, itself, least_at}
use Rattle.rl_markers.specs.declared.marker_table.MarkerTable.{MarkerTable}
use Rattle.rl_markers.specs.declared.marking.Mark.{Mark}
use Rattle.rl_model.specs.Hoisting.{StatementList, is_marked_before, lists_in, marker_in}
use Rattle.rl_names.specs.Names.{Names}
use Rattle.rl_semantic.specs.Items.{of_item}
use Rattle.rl_syntax.specs.Syntax.{Syntax}

pub added : (least : List (Option ℕ)) (n node : ℕ) → before (least ++ None ∷ []) n node ≡ before least n node
added [] zero node = refl
added [] (suc n) node = refl
added (m ∷ least) zero node = refl
added (m ∷ least) (suc n) node = added least n node

or_false : (b : Bool) → (b || false) ≡ b
or_false true = refl
or_false false = refl

-- The lesser of two is up to a node where one of them is.
pub lesser_first : (known number node : ℕ) → known ≤ number → nat_le known node ≡ (nat_le known node || nat_le number node)
lesser_first known number node less = by_test (nat_le number node)
    (λ holds. let low : number ≤ node = leb-true number node holds in
    let first : nat_le known node ≡ true = le-leb known node (omega (arith, less, low)) in
    first ∙ ap (λ b. b || nat_le number node) (sym first))
    (λ fails. sym (or_false (nat_le known node)) ∙ ap (λ b. nat_le known node || b) (sym fails))

pub lesser_second : (known number node : ℕ) → number ≤ known → nat_le number node ≡ (nat_le known node || nat_le number node)
lesser_second known number node less = by_test (nat_le known node)
    (λ holds. let low : known ≤ node = leb-true known node holds in
    le-leb number node (omega (arith, less, low)) ∙ ap (λ b. b || nat_le number node) (sym holds))
    (λ fails. ap (λ b. b || nat_le number node) (sym fails))

pub ruleset lesser = (lesser_first, lesser_second)

pub before_is : (least : List (Option ℕ)) (symbol node : ℕ) → is_before node (least_at least symbol) ≡ before least symbol node
before_is least symbol node = read (slice_get least symbol)
  where
    read : (o : Option (Option ℕ)) → is_before node (of_item None itself o) ≡ of_item false (is_before node) o
    read None = refl
    read (Some marker) = refl

pub lowered_at : (least old : List (Option ℕ)) (known : Option ℕ) (symbol node low n m : ℕ) → symbol < length least
    → known ≡ least_at least symbol → ((k : ℕ) → nat_le low k ≡ (is_before k known || nat_le node k))
    → ((n m : ℕ) → before least n m ≡ before old n m)
    → before (slice_set least symbol (Some low)) n m ≡ (before old n m || (nat_eq n symbol && nat_le node m))
lowered_at least old known symbol node low n m within here tells same = by_test (nat_eq symbol n)
    (λ holds. let at : symbol ≡ n = eqb-true symbol n holds in
    ap (of_item false (is_before m)) (ap (slice_get (slice_set least symbol (Some low))) (sym at) ∙ get_set_same least symbol (Some low) within)
    ∙ tells m
    ∙ ap (λ b. b || nat_le node m) (ap (is_before m) here ∙ before_is least symbol m ∙ ap (λ k. before least k m) at ∙ same n m)
    ∙ ap (λ b. before old n m || (b && nat_le node m)) (sym (eq_swapped n symbol ∙ holds)))
    (λ fails. ap (of_item false (is_before m)) (get_set_other least symbol n (Some low) (eqb-false symbol n fails)) ∙ same n m
    ∙ sym (or_false (before old n m)) ∙ ap (λ b. before old n m || (b && nat_le node m)) (sym (eq_swapped n symbol ∙ fails)))

-- The marks that are left, behind those in the table.
pub least_more : (least new : List (Option ℕ)) (mark : Mark) (rest all : List Mark)
    → ((s n : ℕ) → (before least s n || is_marked (mark ∷ rest) s n) ≡ is_marked all s n)
    → ((s n : ℕ) → before new s n ≡ (before least s n || (nat_eq s mark.symbol && nat_le mark.node n))) → (s n : ℕ)
    → (before new s n || is_marked rest s n) ≡ is_marked all s n
least_more least new mark rest all so step s n =
    ap (λ b. b || is_marked rest s n) (step s n)
    ∙ or_assoc (before least s n) (nat_eq s mark.symbol && nat_le mark.node n) (is_marked rest s n) ∙ so s n
  where
    or_assoc : (a b c : Bool) → (a || b) || c ≡ a || (b || c)
    or_assoc true b c = refl
    or_assoc false b c = refl

pub tabled : (b : Bindings) (names : Names) (function : Syntax) (table : MarkerTable) (least : List (Option ℕ)) (marks : List Mark)
    (lists : List StatementList) → lists ≡ lists_in function
    → AddsMarks b [] marks (λ n s first. list_any (marks_list b names n s first) lists)
    → ((s n : ℕ) → before least s n ≡ is_marked marks s n) → table.least.items ≡ least → AreMarkers b names function table
tabled b names function table least marks lists are q tells same = record {
  are = λ n s first is.
      ap (λ l. before l s n) same ∙ tells s n ∙ q.adds n s first is ∙ ap (λ l. list_any (marks_list b names n s first) l) are;
}

pub answered_some : (b : Bindings) (names : Names) (function : Syntax) (table : MarkerTable) (node symbol : ℕ) (first : Bound)
    → Some first ≡ slice_get b.symbols symbol → AreMarkers b names function table
    → before table.least.items symbol node ≡ is_marked_before b names function node symbol
answered_some b names function table node symbol first is q =
    q.are node symbol first (sym is)
    ∙ ap (of_item false (λ d. list_any (λ list. of_item false (λ m. nat_le m node) (marker_in b names symbol d list)) (lists_in function))) is

pub answered_none : (b : Bindings) (names : Names) (function : Syntax) (node symbol : ℕ) → None ≡ slice_get b.symbols symbol
    → false ≡ is_marked_before b names function node symbol
answered_none b names function node symbol none =
    ap (of_item false (λ d. list_any (λ list. of_item false (λ m. nat_le m node) (marker_in b names symbol d list)) (lists_in function))) none

pub ruleset answered = (answered_some, answered_none)
