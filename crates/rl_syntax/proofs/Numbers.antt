-- The ids in the table of a placed tree's nodes: of nodes, of scopes and of references they are consecutive.
use Rattle.std.proofs.Common.{◌≡◌, ℕ, ◌+◌, ◌<◌, get_or, Bool, true, false, Option, Some, List, [], ◌∷◌, ◌++◌, length, map, zero, suc, ap, sym, ◌∙◌, refl, arith, subst}
use Rattle.std.specs.List.{range_with_len, filter}
use Rattle.std.proofs.lemmas.List.{map-append, length-map, get_or-map}
use Rattle.std.proofs.lemmas.List.FromFn.{length-range_with_len, get_or-range_with_len}
use Rattle.std.proofs.lemmas.List.Elements.{filter-append}
use Rattle.rl_base.specs.declared.ids.NodeId.{NodeId}
use Rattle.rl_syntax.specs.Words.{makes_scope}
use Rattle.rl_syntax.specs.Nodes.{entries_under, entries_among, entries}
use Rattle.rl_syntax.specs.Syntax.{Syntax, Node, Listed, Said, Count, Flag, Absent, Pieces, End, Then, nodes, nodes_of, one_if, tally, tally_of, scopes, references, is_reference, outset, next_byte, inside, behind, StandsAt, IsPlaced, ArePlaced}
use Rattle.rl_syntax.specs.declared.nodes.NodeEntry.{NodeEntry}
use Rattle.rl_syntax.specs.declared.numbered.At.{At}
use Rattle.rl_syntax.specs.declared.numbered.Position.{Position}
use Rattle.rl_syntax.specs.declared.word.Word.{Word}

range_more : (a m n : ℕ) → range_with_len a (m + n) ≡ range_with_len a m ++ range_with_len (a + m) n
range_more a zero n = λ i. range_with_len ((let e : a ≡ a + 0 = omega arith in e) i) ((let e : 0 + n ≡ n = omega arith in e) i)
range_more a (suc m) n =
    ap (range_with_len a) (let e : suc m + n ≡ suc (m + n) = omega arith in e)
    ∙ ap (λ l. a ∷ l) (range_more (a + 1) m n ∙ ap (λ b. range_with_len (a + 1) m ++ range_with_len b n) (let e : a + 1 + m ≡ a + suc m = omega arith in e))

-- The field `id` of a node is the value of `counter` where it opens, and `counter` counts the nodes that `counted` is true of.
pub record Numbers (counted : Word → Bool) (id : At → ℕ) (counter : Position → ℕ) : Type 0 where
  pub own : (at : At) (from next : Position) → StandsAt at from next → id at ≡ counter from
  pub still : (from : Position) → counter (next_byte from) ≡ counter from
  pub entered : (from : Position) (word : Word) → counter (inside from word) ≡ counter from + one_if counted word
  pub passed : (from : Position) (tree : Syntax) → counter (behind from tree) ≡ counter from + tally counted tree

-- The ids of those nodes of a table that are counted.
abbrev pub ids : (counted : Word → Bool) (id : At → ℕ) → List NodeEntry → List ℕ
ids counted id table = map (λ e. id e.at) (filter (λ e. counted e.word) table)

module _ (counted : Word → Bool) (id : At → ℕ) (counter : Position → ℕ) (numbers : Numbers counted id counter) where
  ids_behind : (a b : List NodeEntry) → ids counted id (a ++ b) ≡ ids counted id a ++ ids counted id b
  ids_behind a b = ap (λ l. map (λ e. id e.at) l) (filter-append (λ e. counted e.word) a b) ∙ map-append (λ e. id e.at) (filter (λ e. counted e.word) a) (filter (λ e. counted e.word) b)

  ids_of_node : (parent : Option NodeId) (from : Position) (at : At) (word : Word) (rest : List NodeEntry) (n : ℕ) (b : Bool) → counted word ≡ b → id at ≡ counter from → ids counted id rest ≡ range_with_len (counter from + one_if counted word) n → ids counted id (record { word = word; parent = parent; at = at } ∷ rest) ≡ range_with_len (counter from) (n + one_if counted word)
  ids_of_node parent from at word rest n true is own more = rw is
      ((λ i. own i ∷ (rw is at more) i) ∙ sym (ap (range_with_len (counter from)) (let e : n + 1 ≡ 1 + n = omega arith in e) ∙ range_more (counter from) 1 n))
  ids_of_node parent from at word rest n false is own more = rw is
      ((rw is at more) ∙ λ i. range_with_len ((let e : counter from + 0 ≡ counter from = omega arith in e) i) ((let e : n ≡ n + 0 = omega arith in e) i))

  mutual
    pub ids_numbered : (parent : Option NodeId) (from : Position) (tree : Syntax) → IsPlaced from tree → ids counted id (entries_under parent tree) ≡ range_with_len (counter from) (tally counted tree)
    ids_numbered parent from (Node at word parts) placed =
        ids_of_node parent from at word (entries_among (Some at.id) parts) (tally_of counted parts) (counted word) refl
        (numbers.own at from (behind from (Node at word parts)) placed.0)
        (ids_among (Some at.id) (inside from word) parts placed.1 ∙ ap (λ n. range_with_len n (tally_of counted parts)) (numbers.entered from word))
    ids_numbered parent from (Listed parts) placed = ids_among parent from parts placed
    ids_numbered parent from (Said text) placed = refl
    ids_numbered parent from (Count number) placed = refl
    ids_numbered parent from (Flag flag) placed = refl
    ids_numbered parent from Absent placed = refl

    pub ids_among : (parent : Option NodeId) (from : Position) (parts : Pieces) → ArePlaced from parts → ids counted id (entries_among parent parts) ≡ range_with_len (counter from) (tally_of counted parts)
    ids_among parent from End placed = refl
    ids_among parent from (Then s p) placed =
        let first : ids counted id (entries_under parent s) ≡ range_with_len (counter from) (tally counted s) = ids_numbered parent (next_byte from) s placed.0 ∙ ap (λ n. range_with_len n (tally counted s)) (numbers.still from) in
        let there : counter (behind (next_byte from) s) ≡ counter from + tally counted s = numbers.passed (next_byte from) s ∙ ap (λ n. n + tally counted s) (numbers.still from) in
        let rest : ids counted id (entries_among parent p) ≡ range_with_len (counter from + tally counted s) (tally_of counted p) = ids_among parent (behind (next_byte from) s) p placed.1 ∙ ap (λ n. range_with_len n (tally_of counted p)) there in
        ids_behind (entries_under parent s) (entries_among parent p) ∙ (λ i. first i ++ rest i) ∙ sym (range_more (counter from) (tally counted s) (tally_of counted p))

-- The scopes of a unit have the ids from 0 on, in the order in which their nodes open.
pub scopes_numbered : (tree : Syntax) → IsPlaced outset tree → ids makes_scope (λ at. at.scope.0) (entries tree) ≡ range_with_len 0 (scopes tree)
scopes_numbered tree placed = ids_numbered makes_scope (λ at. at.scope.0) (λ p. p.scope) (record { own = λ at from next s. s.scope; still = λ from. refl; entered = λ from word. refl; passed = λ from tree. refl }) _ outset tree placed

-- The references of a unit have the ids from 0 on, in the order of their nodes.
pub references_numbered : (tree : Syntax) → IsPlaced outset tree → ids is_reference (λ at. at.reference.0) (entries tree) ≡ range_with_len 0 (references tree)
references_numbered tree placed = ids_numbered is_reference (λ at. at.reference.0) (λ p. p.reference) (record { own = λ at from next s. s.reference; still = λ from. refl; entered = λ from word. refl; passed = λ from tree. refl }) _ outset tree placed

-- All nodes are counted by the test that is always true.
mutual
  tally_all : (tree : Syntax) → tally (λ w. true) tree ≡ nodes tree
  tally_all (Node at word parts) = ap (λ n. n + 1) (tally_of_all parts)
  tally_all (Listed parts) = tally_of_all parts
  tally_all (Said text) = refl
  tally_all (Count number) = refl
  tally_all (Flag flag) = refl
  tally_all Absent = refl

  tally_of_all : (parts : Pieces) → tally_of (λ w. true) parts ≡ nodes_of parts
  tally_of_all End = refl
  tally_of_all (Then s p) = λ i. tally_all s i + tally_of_all p i

filter_all : (table : List NodeEntry) → filter (λ e. true) table ≡ table
filter_all [] = refl
filter_all (e ∷ table) = ap (λ l. e ∷ l) (filter_all table)

-- The index of a node in the table is its id.
pub nodes_numbered : (tree : Syntax) → IsPlaced outset tree → map (λ e. e.at.id.0) (entries tree) ≡ range_with_len 0 (nodes tree)
nodes_numbered tree placed =
    ap (λ l. map (λ e. e.at.id.0) l) (sym (filter_all (entries tree)))
    ∙ ids_numbered (λ w. true) (λ at. at.id.0) (λ p. p.node) (record { own = λ at from next s. s.number; still = λ from. refl; entered = λ from word. refl; passed = λ from tree. ap (λ n. from.node + n) (sym (tally_all tree)) }) _ outset tree placed
    ∙ ap (range_with_len 0) (tally_all tree)

module _ (tree : Syntax) (placed : IsPlaced outset tree) where
  pub table_length : length (entries tree) ≡ nodes tree
  table_length = sym (length-map (entries tree) (λ e. e.at.id.0)) ∙ ap length (nodes_numbered tree placed) ∙ length-range_with_len 0 (nodes tree)

  -- The entry at an index has it as its id.
  pub table_id : (index : ℕ) (other : NodeEntry) → index < nodes tree → (get_or (entries tree) index other).at.id.0 ≡ index
  table_id index other below =
      sym (get_or-map (λ e. e.at.id.0) (entries tree) index other 0 (subst (λ n. index < n) (sym table_length) below))
      ∙ ap (λ l. get_or l index 0) (nodes_numbered tree placed)
      ∙ get_or-range_with_len 0 (nodes tree) index 0 below
      ∙ (let e : 0 + index ≡ index = omega arith in e)
