-- The nodes of the marked function that the lowering covers, and those that it does not.
use Rattle.std.specs.Prelude.{◌≡◌, ℕ, true, if◌then◌else◌, Option, List, [], ◌∷◌, ◌++◌}
use Rattle.rl_ast.specs.Marked.{first}
use Rattle.rl_model.specs.Marked.{marked}
pub use Rattle.rl_promises.specs.CoveredWords.{covers}
use Rattle.rl_syntax.specs.Syntax.{Syntax, Node, Listed, Said, Count, Flag, Absent, Pieces, End, Then}
use Rattle.rl_syntax.specs.declared.word.Word.TheVariants as word

abbrev mutual
  -- The ids of the nodes of a tree that are not covered, in the order of the nodes: ascending.
  pub uncovered : Syntax → List ℕ
  uncovered (Node at w parts) = (if covers w parts then [] else at.id.0 ∷ []) ++ uncovered_among parts
  uncovered (Listed parts) = uncovered_among parts
  uncovered (Said text) = []
  uncovered (Count number) = []
  uncovered (Flag flag) = []
  uncovered Absent = []

  -- As `uncovered`, for parts in a row.
  pub uncovered_among : Pieces → List ℕ
  uncovered_among End = []
  uncovered_among (Then piece pieces) = uncovered piece ++ uncovered_among pieces

-- The ids of the nodes of the marked function that are not covered. The function itself is.
abbrev pub uncovered_in : Syntax → List ℕ
uncovered_in (Node at word.Arrow parts) = uncovered_among parts
uncovered_in (Node at word.Fundecl parts) = uncovered_among parts
uncovered_in (Node at word.Funexpr parts) = uncovered_among parts
uncovered_in function = uncovered function

-- The least id of a node of the marked function that the lowering does not cover; None if it covers the whole function.
abbrev pub pending : (u : Syntax) → Option ℕ
pending u = first (uncovered_in (marked u))

abbrev mutual
  -- Every node of the tree is covered: a tree inside the marked function.
  pub IsCovered : Syntax → Type 0
  IsCovered (Node at w parts) = (covers w parts ≡ true) × AreCovered parts
  IsCovered (Listed parts) = AreCovered parts
  IsCovered (Said text) = Unit {0}
  IsCovered (Count number) = Unit {0}
  IsCovered (Flag flag) = Unit {0}
  IsCovered Absent = Unit {0}

  -- As `IsCovered`, for parts in a row.
  pub AreCovered : Pieces → Type 0
  AreCovered End = Unit {0}
  AreCovered (Then piece pieces) = IsCovered piece × AreCovered pieces

-- A function of which every node is covered.
abbrev pub IsCoveredFunction : Syntax → Type 0
IsCoveredFunction (Node at word.Arrow parts) = AreCovered parts
IsCoveredFunction (Node at word.Fundecl parts) = AreCovered parts
IsCoveredFunction (Node at word.Funexpr parts) = AreCovered parts
IsCoveredFunction _ = ⊥
