-- The items of a binding pattern: the slots that take its pieces, in the two rounds of the model.
use Rattle.std.proofs.Common.{◌≡◌, ℕ, ◌+◌, ◌++◌, ◌&&◌, Bool, true, false, true≢false, not, if◌then◌else◌, List, [], ◌∷◌, length, map}
use Rattle.std.proofs.Common.{append_assoc, codes, Option, Some, refl, sym, ap, ◌∙◌, arith}
use Rattle.rl_hir.specs.Pieces.{operands, texts}
use Rattle.rl_lowered.proofs.Catches.{extends_promoted, length_promoted}
use Rattle.rl_lowered.proofs.Clean.{first_none, second_none}
use Rattle.rl_lowered.proofs.Common.{Diagnostic, Names, Piece, Pieces, Span, State, SymbolId, Syntax, Then}
use Rattle.rl_lowered.proofs.ItemBlocks.{bound_stays, stays_key, stays_key_met, stays_met}
use Rattle.rl_lowered.proofs.ItemForms.{apart_behind, early_ahead, item_ahead, item_binds, item_hole, item_key, item_refuses, item_shape}
use Rattle.rl_lowered.proofs.ItemForms.{item_targets, lost_never}
use Rattle.rl_lowered.proofs.SlotRuns.{AreSlots, Keeps, NextKeeps, NextSets, NoSlot, Sets, Slot, followed, kept_of, set_slots, slot_at}
use Rattle.rl_lowered.proofs.SlotRuns.{slots_from}
use Rattle.rl_lowered.specs.Items.{BoundItems, Later, caught, key_met, met, promoted, variable_at}
use Rattle.rl_lowered.specs.Items as items
use Rattle.rl_lowered.specs.Named.{IsFound}
use Rattle.rl_lowered.specs.Params.{TakesEarly}
use Rattle.rl_machine.specs.Acts.{targets}
use Rattle.rl_machine.specs.Machine.{Code}
use Rattle.rl_machine.specs.Traces.{Cont, Store, set}
use Rattle.rl_machine.specs.declared.trace.Answer.{Answer}
use Rattle.rl_machine.specs.declared.trace.Value.{Value}
use Rattle.rl_model.specs.Actions.{◌>>=◌, ◌>>◌, Action, Ways}
use Rattle.rl_model.specs.Expressions.{first_piece, later_pieces}
use Rattle.rl_model.specs.Patterns.{bind, bind_items, declare, in_turn, is_early, is_turn}
use Rattle.rl_model.specs.Scene.{Scene}
use Rattle.rl_model.specs.Shapes.{have_keys, is_hole, is_plain_rest, piece_shape, piece_shapes, rest_shape}
use Rattle.rl_promises.specs.Patterns.{is_ahead, said_of_key}
use Rattle.rl_promises.specs.Rows.{refusals, refusals_in_round}
use Rattle.rl_runs.proofs.FinalNames.{nobody_fresh}
use Rattle.rl_runs.proofs.Moves.{contained_before}
use Rattle.rl_runs.specs.Facts.{HasSoundNames, IsContainedIn, Nobody}
use Rattle.rl_syntax.specs.Syntax.{span_of}

-- No refusals of the parts that were left.
abbrev pub AreClean : (refuses : Syntax → List Diagnostic) → List Later → Type 0
AreClean refuses [] = Unit {0}
AreClean refuses (first ∷ later) = (refuses first.part ≡ []) × AreClean refuses later

-- A look-up of a variable, and a temporary.

pub met_ident : (again : Bool) (names : Names) (s : State) (symbol : SymbolId) (at : Span) (identifier : ℕ)
    → IsFound names s symbol at identifier → (c : Code) → IsContainedIn (met again names s symbol identifier at) c
    → HasSoundNames (met again names s symbol identifier at) → c.ident symbol.0 ≡ Some identifier
met_ident true names s symbol at identifier f c cover sound =
    cover.names.kept symbol.0 identifier (sym (sound.same symbol.0) ∙ f.bound)
met_ident false names s symbol at identifier f c cover sound =
    cover.names.kept symbol.0 identifier (sym (sound.same symbol.0) ∙ f.bound)

pub promoted_free : (s : State) (span : Span) (c : Code) → IsContainedIn (promoted s span) c → HasSoundNames s
    → Nobody c.ident (length s.env.identifiers)
promoted_free s span c cover sound =
    nobody_fresh s (length (promoted s span).env.identifiers) c.ident (length s.env.identifiers) sound cover.names (omega arith)
    (omega (arith, length_promoted s span))

-- The items and the rest in the first round, and in the second one.

abbrev pub first_round : Scene → (everywhere : Bool) → Pieces → (rest : Syntax) → List Value → Action (Unit {0})
first_round scene everywhere es rest vs = do
  last ← bind_items scene everywhere true es vs
  in_turn (is_early scene everywhere rest) (bind scene everywhere rest (first_piece last))

abbrev pub second_round : Scene → (everywhere : Bool) → Pieces → (rest : Syntax) → List Value → Action (Unit {0})
second_round scene everywhere es rest vs = do
  left ← bind_items scene everywhere false es vs
  in_turn (not (is_early scene everywhere rest)) (bind scene everywhere rest (first_piece left))

-- The slots of items and a rest that are lowered from `s` to `u`, with these pieces and parts that are left.
pub record BoundSlots (scene : Scene) (everywhere of_object : Bool) (es : Pieces) (rest : Syntax) (s u : State) (pieces : List Piece)
    (later : List Later) : Type 0 where
  pub slots : List Slot
  pub are : targets (operands pieces) ≡ map slot_at slots
  pub kept : kept_of slots ≡ later
  pub clean : AreClean (refusals scene.names) later
  pub shape : texts pieces ≡ piece_shapes es ++ rest_shape rest
  pub keys : of_object ≡ true → have_keys es ≡ true
  pub fits : (c : Code) → IsContainedIn u c → HasSoundNames s → AreSlots c (length u.env.identifiers) (length s.env.identifiers) slots
  pub first : (vs : List Value) (ways : Ways) (onward : Unit {0} → Cont) (source : Store) (answers : List Answer)
      → first_round scene everywhere es rest vs ways onward source answers ≡ onward (tt {0}) (set_slots slots vs source) answers
  pub second : (vs : List Value) → second_round scene everywhere es rest vs ≡ followed (bind scene everywhere) slots vs

-- An item in a round.

stepped : (scene : Scene) (everywhere early : Bool) (item : Syntax) (es : Pieces) (vs : List Value) → is_hole item ≡ false
    → bind_items scene everywhere early (Then item es) vs
    ≡ (in_turn (is_turn early (is_early scene everywhere item)) (bind scene everywhere item (first_piece vs))
    >> bind_items scene everywhere early es (later_pieces vs))
stepped scene everywhere early item es vs is =
    ap (λ (b : Bool). if b then bind_items scene everywhere early es vs
    else (in_turn (is_turn early (is_early scene everywhere item)) (bind scene everywhere item (first_piece vs))
    >> bind_items scene everywhere early es (later_pieces vs))) is

turned : (scene : Scene) (everywhere early : Bool) (item : Syntax) (es : Pieces) (vs : List Value) (ahead : Bool)
    → is_hole item ≡ false → is_early scene everywhere item ≡ ahead
    → bind_items scene everywhere early (Then item es) vs
    ≡ (in_turn (is_turn early ahead) (bind scene everywhere item (first_piece vs))
    >> bind_items scene everywhere early es (later_pieces vs))
turned scene everywhere early item es vs ahead is when =
    stepped scene everywhere early item es vs is
    ∙ ap (λ (b : Bool). in_turn (is_turn early b) (bind scene everywhere item (first_piece vs))
    >> bind_items scene everywhere early es (later_pieces vs)) when

-- The refusals of an item in the two rounds, and those of the items behind it.

abbrev said_of_round : Names → Bool → (item : Syntax) → List Diagnostic
said_of_round names turn item = if turn then refusals names item else []

pub keys_none : (names : Names) (item : Syntax) (es : Pieces) → refusals_in_round names true (Then item es) ≡ [] → said_of_key item ≡ []
keys_none names item es none = first_none (said_of_key item) _ (first_none _ (refusals_in_round names true es) none)

pub behind_none : (names : Names) (ahead : Bool) (item : Syntax) (es : Pieces) → refusals_in_round names ahead (Then item es) ≡ []
    → refusals_in_round names ahead es ≡ []
behind_none names ahead item es none = second_none _ (refusals_in_round names ahead es) none

pub later_none : (names : Names) (item : Syntax) (es : Pieces) → is_ahead item ≡ false → refusals_in_round names false (Then item es) ≡ []
    → refusals names item ≡ []
later_none names item es is none =
    sym (ap (λ (b : Bool). said_of_round names (not b) item) is)
    ∙ second_none [] (said_of_round names (not (is_ahead item)) item) (first_none _ (refusals_in_round names false es) none)

pub keyed : {first : Bool} {others : Bool} → first ≡ true → others ≡ true → (first && others) ≡ true
keyed {first} {others} a b = ap (λ (x : Bool). x && others) a ∙ b

pub bound_slots : {names : Names} {again of_object : Bool} {es : Pieces} {rest : Syntax} {s u : State} {pieces : List Piece}
    {later : List Later} → BoundItems names again of_object es rest s u pieces later → refusals_in_round names true es ≡ []
    → refusals_in_round names false es ≡ [] → refusals names rest ≡ [] → (of_object ≡ true → is_plain_rest rest ≡ true)
    → (scene : Scene) → scene.names ≡ names → TakesEarly scene → (everywhere : Bool)
    → BoundSlots scene everywhere of_object es rest s u pieces later
bound_slots (items.NoBound s) ahead behind last plain scene same takes everywhere = record {
  slots = [];
  are = refl;
  kept = refl;
  clean = tt;
  shape = refl;
  keys = λ objects. refl;
  fits = λ c cover sound. NoSlot;
  first = λ vs ways onward source answers. refl;
  second = λ vs. refl;
}
bound_slots {names} {again} (items.RestNamed there bind_at name type symbol identifier s annotated is f) ahead behind last plain scene same
    takes everywhere = record {
      slots = Sets symbol.0 identifier ∷ [];
      are = refl;
      kept = refl;
      clean = tt;
      shape = refl;
      keys = λ objects. refl;
      fits = λ c cover sound.
          NextSets symbol.0 identifier []
          (met_ident again names s symbol bind_at.span identifier f c cover
          ((stays_met again names s symbol bind_at.span identifier f).blocks.extends.sound sound)) NoSlot;
      first = λ vs ways onward source answers.
          ap (λ (b : Bool). in_turn b (declare (scene.names.declared bind_at.id.0) (first_piece vs)) ways onward source answers)
          (takes.early everywhere bind_at.id.0)
          ∙ ap (λ (o : Option SymbolId). declare o (first_piece vs) ways onward source answers)
          (ap (λ (n : Names). n.declared bind_at.id.0) same ∙ is);
      second = λ vs.
          ap (λ (b : Bool). in_turn (not b) (declare (scene.names.declared bind_at.id.0) (first_piece vs)))
          (takes.early everywhere bind_at.id.0);
    }
bound_slots {names} (items.RestNested there pattern s is) ahead behind last plain scene same takes everywhere =
    let early : is_early scene everywhere pattern ≡ false = early_ahead scene takes everywhere pattern ∙ apart_behind pattern is in record {
      slots = Keeps (record { value = caught s there.span; part = pattern }) ∷ [];
      are = refl;
      kept = refl;
      clean = (ap (λ (n : Names). refusals n pattern) same ∙ first_none (refusals names pattern) [] last, tt);
      shape = refl;
      keys = λ objects. refl;
      fits = λ c cover sound.
          NextKeeps (record { value = caught s there.span; part = pattern }) [] (omega arith) (omega (arith, length_promoted s there.span))
          (promoted_free s there.span c cover sound) NoSlot;
      first = λ vs ways onward source answers.
          ap (λ (b : Bool). in_turn b (bind scene everywhere pattern (first_piece vs)) ways onward source answers) early;
      second = λ vs. ap (λ (b : Bool). in_turn (not b) (bind scene everywhere pattern (first_piece vs))) early;
    }
bound_slots (items.RestUnbound rest s is) ahead behind last plain scene same takes everywhere =
    absurd (true≢false (sym (plain refl) ∙ is))
bound_slots (items.BoundHole there es rest s t pieces later d) ahead behind last plain scene same takes everywhere =
    let r = bound_slots d ahead behind last plain scene same takes everywhere in record {
      slots = r.slots;
      are = r.are;
      kept = r.kept;
      clean = r.clean;
      shape = ap (λ (l : List (List ℕ)). codes "hole" ∷ l) r.shape;
      keys = r.keys;
      fits = r.fits;
      first = r.first;
      second = r.second;
    }
bound_slots {names} (items.BoundLost item es rest s t pieces later shaped is d) ahead behind last plain scene same takes everywhere =
    absurd (lost_never item is (keys_none names item es ahead))
bound_slots {names} {again} {of_object}
    (items.BoundVariable item es rest bind_at name type symbol identifier s t key pieces later is annotated kept declared f d) ahead behind
    last plain scene same takes everywhere =
    let said = keys_none names item es ahead in
    let r = bound_slots d (behind_none names true item es ahead) (behind_none names false item es behind) last plain scene same takes
    everywhere in
    let mid : State = met again names (key_met s item) symbol identifier bind_at.span in
    let g = stays_key_met again names s item symbol bind_at.span identifier f in
    let early : is_early scene everywhere item ≡ true = early_ahead scene takes everywhere item ∙ item_ahead is in
    record {
      slots = Sets symbol.0 identifier ∷ r.slots;
      are = item_targets is (variable_at identifier bind_at.span) pieces ∙ ap (λ (l : List ℕ). identifier ∷ l) r.are;
      kept = r.kept;
      clean = r.clean;
      shape = item_shape is kept said (variable_at identifier bind_at.span) pieces
          ∙ ap (λ (l : List (List ℕ)). piece_shape item ++ l) r.shape
          ∙ sym (append_assoc (piece_shape item) (piece_shapes es) (rest_shape rest));
      keys = λ objects. keyed (item_key is objects kept said) (r.keys objects);
      fits = λ c cover sound.
          NextSets symbol.0 identifier r.slots
          (met_ident again names (key_met s item) symbol bind_at.span identifier f c
          (contained_before (bound_stays d).blocks.extends cover) (g.blocks.extends.sound sound))
          (slots_from (r.fits c cover (g.blocks.extends.sound sound)) (length s.env.identifiers) g.blocks.extends.identifiers);
      first = λ vs ways onward source answers.
          ap (λ (a : Action (List Value)). (a >>= (λ left. in_turn (is_early scene everywhere rest)
          (bind scene everywhere rest (first_piece left)))) ways onward source answers)
          (turned scene everywhere true item es vs true (item_hole is) early
          ∙ ap (λ (a : Action (Unit {0})). a >> bind_items scene everywhere true es (later_pieces vs))
          (item_binds is scene everywhere (first_piece vs)
          ∙ ap (λ (o : Option SymbolId). declare o (first_piece vs)) (ap (λ (n : Names). n.declared bind_at.id.0) same ∙ declared)))
          ∙ r.first (later_pieces vs) ways onward (set source symbol.0 (first_piece vs)) answers;
      second = λ vs.
          ap (λ (a : Action (List Value)). a >>= (λ left. in_turn (not (is_early scene everywhere rest))
          (bind scene everywhere rest (first_piece left)))) (turned scene everywhere false item es vs true (item_hole is) early)
          ∙ r.second (later_pieces vs);
    }
bound_slots {names} {again} {of_object} (items.BoundLater item part es rest s t key pieces later is kept late d) ahead behind last plain
    scene same takes everywhere =
    let said = keys_none names item es ahead in
    let r = bound_slots d (behind_none names true item es ahead) (behind_none names false item es behind) last plain scene same takes
    everywhere in
    let at_key : State = key_met s item in
    let g = stays_key s item in
    let gp = extends_promoted at_key (span_of part) in
    let gd = (bound_stays d).blocks.extends in
    let ahead_is : is_ahead item ≡ false = item_ahead is ∙ late in
    let early : is_early scene everywhere item ≡ false = early_ahead scene takes everywhere item ∙ ahead_is in
    let here : Later = record { value = caught at_key (span_of part); part = part } in
    record {
      slots = Keeps here ∷ r.slots;
      are = item_targets is (caught at_key (span_of part)) pieces ∙ ap (λ (l : List ℕ). length at_key.env.identifiers ∷ l) r.are;
      kept = ap (λ (l : List Later). here ∷ l) r.kept;
      clean = (
        ap (λ (n : Names). refusals n part) same ∙ sym (item_refuses is kept names) ∙ later_none names item es ahead_is behind,
        r.clean,
      );
      shape = item_shape is kept said (caught at_key (span_of part)) pieces
          ∙ ap (λ (l : List (List ℕ)). piece_shape item ++ l) r.shape
          ∙ sym (append_assoc (piece_shape item) (piece_shapes es) (rest_shape rest));
      keys = λ objects. keyed (item_key is objects kept said) (r.keys objects);
      fits = λ c cover sound.
          let at_sound : HasSoundNames at_key = g.blocks.extends.sound sound in
          NextKeeps here r.slots g.blocks.extends.identifiers
          (omega (arith, length_promoted at_key (span_of part), gd.identifiers))
          (promoted_free at_key (span_of part) c (contained_before gd cover) at_sound)
          (slots_from (r.fits c cover (gp.sound at_sound)) (length at_key.env.identifiers + 1)
          (omega (arith, length_promoted at_key (span_of part))));
      first = λ vs ways onward source answers.
          ap (λ (a : Action (List Value)). (a >>= (λ left. in_turn (is_early scene everywhere rest)
          (bind scene everywhere rest (first_piece left)))) ways onward source answers)
          (turned scene everywhere true item es vs false (item_hole is) early)
          ∙ r.first (later_pieces vs) ways onward source answers;
      second = λ vs.
          ap (λ (a : Action (List Value)). a >>= (λ left. in_turn (not (is_early scene everywhere rest))
          (bind scene everywhere rest (first_piece left))))
          (turned scene everywhere false item es vs false (item_hole is) early
          ∙ ap (λ (a : Action (Unit {0})). a >> bind_items scene everywhere false es (later_pieces vs))
          (item_binds is scene everywhere (first_piece vs)))
          ∙ ap (λ (a : Action (Unit {0})). bind scene everywhere part (first_piece vs) >> a) (r.second (later_pieces vs));
    }
