-- The search for the marked function.
use Rattle.std.specs.Prelude.{Option, Some, None, List, [], ◌∷◌, Bool, true, false}

-- The search through marked functions in a row, each true if it has a body, if `found` says that one was found before them: true
-- behind them if one is found by then; None if there are two by then, or one without a body.
abbrev pub found_behind : (found : Bool) → List Bool → Option Bool
found_behind found [] = Some found
found_behind false (true ∷ bodies) = found_behind true bodies
found_behind false (false ∷ bodies) = None
found_behind true (body ∷ bodies) = None

-- The result `search`, if `passed` says that all nodes of the search passed a test; None if not.
abbrev pub found_if : (passed : Bool) → (search : Option Bool) → Option Bool
found_if true search = search
found_if false search = None
