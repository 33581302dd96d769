-- Binding patterns run alike from a store and from one in which variables are set that they neither name nor bind.
use Rattle.std.proofs.Common.{◌≡◌, ℕ, Bool, true, false, ◌&&◌, not, List, [], ◌∷◌, ◌++◌, map, refl, sym, ap, subst}
use Rattle.rl_machine.specs.declared.trace.Assignment.{Assignment}
use Rattle.rl_machine.specs.declared.trace.Value.{Value}
use Rattle.rl_model.specs.Actions.{Action, ◌>>=◌, ◌>>◌, done, no_meaning}
use Rattle.rl_model.specs.Code.{contains, flat}
use Rattle.rl_model.specs.Expressions.{eval, first_piece, later_pieces, or_default}
use Rattle.rl_model.specs.Functions.{take_argument}
use Rattle.rl_model.specs.Orderly.{Item, Binds, Passes, defaults_among, defaults_in, items_among, items_of_part, symbols_in, used_in}
use Rattle.rl_model.specs.Patterns.{bind, bind_items, in_turn, is_early, is_turn}
use Rattle.rl_model.specs.Scene.{Scene}
use Rattle.rl_model.specs.Shapes as shapes
use Rattle.rl_promises.proofs.OrderlyCalls.{LendAlike, LendsAlike, contains_left}
use Rattle.rl_promises.proofs.OrderlyItems.{symbols_left, symbols_right}
use Rattle.rl_promises.proofs.ReadNames.{flat_left, flat_right, read_by}
use Rattle.rl_promises.proofs.RelatedStores.{Relates, Relation, eval_relates, relates_apart, relates_bind, relates_default, relates_give}
use Rattle.rl_promises.proofs.RelatedStores.{relates_if, relates_none, relates_row}
use Rattle.rl_promises.proofs.SetStores.{relates_declare, set_ahead, set_by}
use Rattle.rl_syntax.specs.Syntax.{Syntax, Node, Listed, Absent, Pieces, End, Then}
use Rattle.rl_syntax.specs.declared.word.Word.TheVariants as word

-- The items and the rest of a pattern take their pieces in two rounds.
abbrev pub rounds : Scene → (everywhere : Bool) → (items : Pieces) → (rest : Syntax) → List Value → Action (Unit {0})
rounds scene everywhere items rest pieces = do
  last ← bind_items scene everywhere true items pieces
  in_turn (is_early scene everywhere rest) (bind scene everywhere rest (first_piece last))
  left ← bind_items scene everywhere false items pieces
  in_turn (not (is_early scene everywhere rest)) (bind scene everywhere rest (first_piece left))

pub binds_symbols : (symbols : List ℕ) → symbols_in (map (λ (symbol : ℕ). Binds symbol) symbols) ≡ symbols
binds_symbols [] = refl
binds_symbols (symbol ∷ symbols) = ap (λ (l : List ℕ). symbol ∷ l) (binds_symbols symbols)

module _ (t : Scene) (assigned : List ℕ) (closed : (symbol : ℕ) → t.world.opens symbol ≡ false) (sets : List Assignment) where
  abbrev r : Relation assigned
  r = set_ahead assigned sets

  -- None of these variables is set.
  abbrev AreApart : List ℕ → Type 0
  AreApart symbols = (symbol : ℕ) → contains symbols symbol ≡ true → contains (set_by sets) symbol ≡ false

  abbrev Bound : List Item → Type 0
  Bound items = AreApart (symbols_in items)

  abbrev Uses : (defaults : List Syntax) → Type 0
  Uses defaults = AreApart (flat (used_in t.names) defaults)

  default_relates : (pattern default : Syntax) → LendsAlike t.names assigned default → Uses (defaults_in pattern ++ default ∷ [])
      → Relates r.R (eval t default)
  default_relates pattern default covered used =
      eval_relates t assigned closed r default (read_by t.names assigned r.Reads default covered (λ symbol there.
      used symbol (flat_right (used_in t.names) (defaults_in pattern) (default ∷ []) symbol
      (contains_left (used_in t.names default) [] symbol there))))

  -- The items of a pattern, and its rest.

  bound_first : (items : Pieces) (rest : Syntax) → Bound (items_among t.names items ++ items_of_part t.names rest ++ Passes ∷ [])
      → Bound (items_among t.names items)
  bound_first items rest bound symbol there =
      bound symbol (symbols_left (items_among t.names items ++ items_of_part t.names rest) (Passes ∷ []) symbol
      (symbols_left (items_among t.names items) (items_of_part t.names rest) symbol there))

  bound_last : (items : Pieces) (rest : Syntax) → Bound (items_among t.names items ++ items_of_part t.names rest ++ Passes ∷ [])
      → Bound (items_of_part t.names rest)
  bound_last items rest bound symbol there =
      bound symbol (symbols_left (items_among t.names items ++ items_of_part t.names rest) (Passes ∷ []) symbol
      (symbols_right (items_among t.names items) (items_of_part t.names rest) symbol there))

  used_first : (items : Pieces) (rest : Syntax) → Uses (defaults_among items ++ defaults_in rest) → Uses (defaults_among items)
  used_first items rest used symbol there = used symbol (flat_left (used_in t.names) (defaults_among items) (defaults_in rest) symbol there)

  used_last : (items : Pieces) (rest : Syntax) → Uses (defaults_among items ++ defaults_in rest) → Uses (defaults_in rest)
  used_last items rest used symbol there = used symbol (flat_right (used_in t.names) (defaults_among items) (defaults_in rest) symbol there)

  rounds_relate : (everywhere : Bool) (items : Pieces) (rest : Syntax) (pieces : List Value)
      → ((early : Bool) → Relates r.R (bind_items t everywhere early items pieces))
      → ((v : Value) → Relates r.R (bind t everywhere rest v)) → Relates r.R (rounds t everywhere items rest pieces)
  rounds_relate everywhere items rest pieces taken last =
      relates_bind _ _ (taken true) (λ vs.
      relates_row _ _ (relates_if (is_early t everywhere rest) _ done (last (first_piece vs)) (relates_give (tt {0})))
      (relates_bind _ _ (taken false) (λ ws.
      relates_if (not (is_early t everywhere rest)) _ done (last (first_piece ws)) (relates_give (tt {0})))))

  mutual
    pub part_relates : (everywhere : Bool) (part : Syntax) (v : Value) → LendsAlike t.names assigned part
        → Bound (items_of_part t.names part) → Uses (defaults_in part) → Relates r.R (bind t everywhere part v)
    part_relates everywhere Absent v covered bound used = relates_give (tt {0})
    part_relates everywhere (Node at word.Bind parts) v covered bound used =
        relates_declare assigned sets (t.names.declared at.id.0) v (λ symbol there.
        bound symbol (subst (λ (l : List ℕ). contains l symbol ≡ true) (sym (binds_symbols _)) there))
    part_relates everywhere (Node at word.Defaultpat (Then pattern (Then default End))) v covered bound used =
        relates_bind (or_default t v (eval t default)) _
        (relates_default t closed v (eval t default) (default_relates pattern default covered.2.1.0 used)) (λ w.
        part_relates everywhere pattern w covered.2.0
        (λ symbol there. bound symbol (symbols_left (items_of_part t.names pattern) (Passes ∷ []) symbol there))
        (λ symbol there. used symbol (flat_left (used_in t.names) (defaults_in pattern) (default ∷ []) symbol there)))
    part_relates everywhere (Node at word.Keyedpat (Then computed (Then key (Then pattern End)))) v covered bound used =
        part_relates everywhere pattern v covered.2.1.1.0 bound used
    part_relates everywhere (Node at word.Rest (Then pattern End)) v covered bound used =
        part_relates everywhere pattern v covered.2.0 bound used
    part_relates everywhere (Node at word.Arraypat (Then (Listed items) (Then rest End))) v covered bound used =
        relates_bind _ _ (relates_apart t closed _ v) (λ pieces.
        rounds_relate everywhere items rest pieces
        (λ early. items_relate everywhere early items pieces covered.2.0 (bound_first items rest bound) (used_first items rest used))
        (λ w. part_relates everywhere rest w covered.2.1.0 (bound_last items rest bound) (used_last items rest used)))
    part_relates everywhere (Node at word.Objectpat (Then (Listed properties) (Then rest End))) v covered bound used =
        relates_if (shapes.have_keys properties && shapes.is_plain_rest rest) _ no_meaning
        (relates_bind _ _ (relates_apart t closed _ v) (λ pieces.
        rounds_relate everywhere properties rest pieces
        (λ early. items_relate everywhere early properties pieces covered.2.0 (bound_first properties rest bound)
        (used_first properties rest used))
        (λ w. part_relates everywhere rest w covered.2.1.0 (bound_last properties rest bound) (used_last properties rest used))))
        relates_none
    part_relates everywhere _ v covered bound used = relates_none

    items_relate : (everywhere early : Bool) (items : Pieces) (pieces : List Value) → LendAlike t.names assigned items
        → Bound (items_among t.names items) → Uses (defaults_among items) → Relates r.R (bind_items t everywhere early items pieces)
    items_relate everywhere early End pieces covered bound used = relates_give pieces
    items_relate everywhere early (Then item items) pieces covered bound used =
        let behind : Bound (items_among t.names items) =
        (λ symbol there. bound symbol (symbols_right (items_of_part t.names item) (items_among t.names items) symbol there)) in
        let later : Uses (defaults_among items) =
        (λ symbol there. used symbol (flat_right (used_in t.names) (defaults_in item) (defaults_among items) symbol there)) in
        relates_if (shapes.is_hole item) _ _
        (items_relate everywhere early items pieces covered.1 behind later)
        (relates_row _ _
        (relates_if (is_turn early (is_early t everywhere item)) _ done
        (part_relates everywhere item (first_piece pieces) covered.0
        (λ symbol there. bound symbol (symbols_left (items_of_part t.names item) (items_among t.names items) symbol there))
        (λ symbol there. used symbol (flat_left (used_in t.names) (defaults_in item) (defaults_among items) symbol there)))
        (relates_give (tt {0})))
        (items_relate everywhere early items (later_pieces pieces) covered.1 behind later))

  -- A parameter takes its argument.
  pub param_relates : (param : Syntax) (v : Value) → LendsAlike t.names assigned param → Bound (items_of_part t.names param)
      → Uses (defaults_in param) → Relates r.R (take_argument t param v)
  param_relates (Node at word.Param (Then pattern (Then Absent End))) v covered bound used =
      part_relates true pattern v covered.2.0 bound
      (λ symbol there. used symbol (flat_left (used_in t.names) (defaults_in pattern) (Absent ∷ []) symbol there))
  param_relates (Node at word.Param (Then pattern (Then default End))) v covered bound used =
      relates_bind (or_default t v (eval t default)) _
      (relates_default t closed v (eval t default) (default_relates pattern default covered.2.1.0 used)) (λ w.
      part_relates true pattern w covered.2.0
      (λ symbol there. bound symbol (symbols_left (items_of_part t.names pattern) (Passes ∷ []) symbol there))
      (λ symbol there. used symbol (flat_left (used_in t.names) (defaults_in pattern) (default ∷ []) symbol there)))
  param_relates _ v covered bound used = relates_give (tt {0})
