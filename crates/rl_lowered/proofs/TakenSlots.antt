-- The items of a target that is a pattern: the slots that take its pieces. They are all variables, or all temporaries.
use Rattle.std.proofs.Common.{◌≡◌, ℕ, ◌+◌, ◌++◌, Bool, true, false, true≢false, if◌then◌else◌, List, [], ◌∷◌, length, map}
use Rattle.std.proofs.Common.{append_assoc, codes, refl, sym, ap, ◌∙◌, arith}
use Rattle.rl_hir.specs.Pieces.{operands, texts}
use Rattle.rl_lowered.proofs.BoundSlots.{AreClean, keyed, met_ident, promoted_free}
use Rattle.rl_lowered.proofs.Catches.{extends_promoted, length_promoted}
use Rattle.rl_lowered.proofs.Clean.{constant_head_never, first_none, second_none}
use Rattle.rl_lowered.proofs.Common.{Names, Piece, Pieces, State, Syntax, Then}
use Rattle.rl_lowered.proofs.ItemBlocks.{stays_key, stays_key_met, taken_stays}
use Rattle.rl_lowered.proofs.ItemForms.{item_hole, item_key, item_shape, item_taken, item_takes, item_targets, lost_never}
use Rattle.rl_lowered.proofs.SlotRuns.{AreSlots, Keeps, NextKeeps, NextSets, NoSlot, Sets, Slot, followed, kept_of, set_slots, slot_at}
use Rattle.rl_lowered.proofs.SlotRuns.{slots_from}
use Rattle.rl_lowered.specs.Items.{Later, TakenItems, caught, key_met, variable_at}
use Rattle.rl_lowered.specs.Items as items
use Rattle.rl_machine.specs.Acts.{targets}
use Rattle.rl_machine.specs.Machine.{Code}
use Rattle.rl_machine.specs.Traces.{Cont, Store, set}
use Rattle.rl_machine.specs.declared.trace.Answer.{Answer}
use Rattle.rl_machine.specs.declared.trace.Value.{Value}
use Rattle.rl_model.specs.Actions.{◌>>=◌, ◌>>◌, Action, Ways, done}
use Rattle.rl_model.specs.Expressions.{assign_items, assign_to, first_piece, later_pieces, write}
use Rattle.rl_model.specs.Scene.{Scene}
use Rattle.rl_model.specs.Shapes.{have_keys, is_hole, is_plain_rest, piece_shape, piece_shapes, rest_shape}
use Rattle.rl_names.specs.declared.names.Meaning.{Meaning}
use Rattle.rl_promises.specs.Patterns.{said_of_key}
use Rattle.rl_promises.specs.Rows.{refusals_to, refusals_to_round}
use Rattle.rl_runs.proofs.Moves.{contained_before}
use Rattle.rl_runs.specs.Facts.{HasSoundNames, IsContainedIn}
use Rattle.rl_syntax.specs.Syntax.{span_of}

-- The items, and the rest behind them.
abbrev pub taking : Scene → Pieces → (rest : Syntax) → List Value → Action (Unit {0})
taking scene es rest vs = do
  left ← assign_items scene es vs
  assign_to scene rest (first_piece left)

-- As `BoundSlots`, for a target.
pub record TakenSlots (scene : Scene) (of_object forced : Bool) (es : Pieces) (rest : Syntax) (s u : State) (pieces : List Piece)
    (later : List Later) : Type 0 where
  pub slots : List Slot
  pub are : targets (operands pieces) ≡ map slot_at slots
  pub kept : kept_of slots ≡ later
  pub clean : AreClean (refusals_to scene.names) later
  pub shape : texts pieces ≡ piece_shapes es ++ rest_shape rest
  pub keys : of_object ≡ true → have_keys es ≡ true
  pub fits : (c : Code) → IsContainedIn u c → HasSoundNames s → AreSlots c (length u.env.identifiers) (length s.env.identifiers) slots
  pub still : forced ≡ true → (vs : List Value) (source : Store) → set_slots slots vs source ≡ source
  pub means : (vs : List Value) (ways : Ways) (onward : Unit {0} → Cont) (source : Store) (answers : List Answer)
      → taking scene es rest vs ways onward source answers
      ≡ followed (assign_to scene) slots vs ways onward (set_slots slots vs source) answers

stepped : (scene : Scene) (item : Syntax) (es : Pieces) (vs : List Value) → is_hole item ≡ false
    → assign_items scene (Then item es) vs ≡ (assign_to scene item (first_piece vs) >> assign_items scene es (later_pieces vs))
stepped scene item es vs is =
    ap (λ (b : Bool). if b then assign_items scene es vs
    else (assign_to scene item (first_piece vs) >> assign_items scene es (later_pieces vs))) is

-- The refusals of an item, and those of the items behind it.

pub keys_none : (names : Names) (forced : Bool) (item : Syntax) (es : Pieces) → refusals_to_round names forced true (Then item es) ≡ []
    → said_of_key item ≡ []
keys_none names forced item es none =
    first_none (said_of_key item) _ (first_none _ (refusals_to_round names forced true es) none)

pub behind_none : (names : Names) (forced ahead : Bool) (item : Syntax) (es : Pieces)
    → refusals_to_round names forced ahead (Then item es) ≡ [] → refusals_to_round names forced ahead es ≡ []
behind_none names forced ahead item es none = second_none _ (refusals_to_round names forced ahead es) none

pub later_none : (names : Names) (item : Syntax) (es : Pieces) → refusals_to_round names true false (Then item es) ≡ []
    → refusals_to names item ≡ []
later_none names item es none =
    second_none [] (refusals_to names item) (first_none _ (refusals_to_round names true false es) none)

pub ahead_none : (names : Names) (item : Syntax) (es : Pieces) → refusals_to_round names false true (Then item es) ≡ []
    → refusals_to names item ≡ []
ahead_none names item es none =
    second_none (said_of_key item) (refusals_to names item) (first_none _ (refusals_to_round names false true es) none)

pub taken_slots : {names : Names} {of_object forced : Bool} {es : Pieces} {rest : Syntax} {s u : State} {pieces : List Piece}
    {later : List Later} → TakenItems names of_object forced es rest s u pieces later → refusals_to_round names forced true es ≡ []
    → refusals_to_round names forced false es ≡ [] → refusals_to names rest ≡ [] → (of_object ≡ true → is_plain_rest rest ≡ true)
    → (scene : Scene) → scene.names ≡ names → TakenSlots scene of_object forced es rest s u pieces later
taken_slots (items.NoItem s) ahead behind last plain scene same = record {
  slots = [];
  are = refl;
  kept = refl;
  clean = tt;
  shape = refl;
  keys = λ objects. refl;
  fits = λ c cover sound. NoSlot;
  still = λ forced vs source. refl;
  means = λ vs ways onward source answers. refl;
}
taken_slots {names} (items.RestTaken there target s is) ahead behind last plain scene same = record {
  slots = Keeps (record { value = caught s there.span; part = target }) ∷ [];
  are = refl;
  kept = refl;
  clean = (ap (λ (n : Names). refusals_to n target) same ∙ last, tt);
  shape = refl;
  keys = λ objects. refl;
  fits = λ c cover sound.
      NextKeeps (record { value = caught s there.span; part = target }) [] (omega arith) (omega (arith, length_promoted s there.span))
      (promoted_free s there.span c cover sound) NoSlot;
  still = λ forced vs source. refl;
  means = λ vs ways onward source answers. refl;
}
taken_slots (items.RestLost rest s is) ahead behind last plain scene same = absurd (true≢false (sym (plain refl) ∙ is))
taken_slots (items.ItemHole there es rest s t pieces later d) ahead behind last plain scene same =
    let r = taken_slots d (second_none _ _ ahead) (second_none _ _ behind) last plain scene same in record {
      slots = r.slots;
      are = r.are;
      kept = r.kept;
      clean = r.clean;
      shape = ap (λ (l : List (List ℕ)). codes "hole" ∷ l) r.shape;
      keys = r.keys;
      fits = r.fits;
      still = r.still;
      means = r.means;
    }
taken_slots {names} {of_object} {forced} (items.ItemLost item es rest s t pieces later shaped is d) ahead behind last plain scene same =
    absurd (lost_never item is (keys_none names forced item es ahead))
taken_slots {names}
    (items.ItemVariable item es rest there name symbol identifier s t key pieces later is means kept mutable f d) ahead behind last plain
    scene same =
    let said = keys_none names false item es ahead in
    let r = taken_slots d (behind_none names false true item es ahead) (behind_none names false false item es behind) last plain scene same
    in
    let g = stays_key_met false names s item symbol there.span identifier f in
    record {
      slots = Sets symbol.0 identifier ∷ r.slots;
      are = item_targets is (variable_at identifier there.span) pieces ∙ ap (λ (l : List ℕ). identifier ∷ l) r.are;
      kept = r.kept;
      clean = r.clean;
      shape = item_shape is kept said (variable_at identifier there.span) pieces
          ∙ ap (λ (l : List (List ℕ)). piece_shape item ++ l) r.shape
          ∙ sym (append_assoc (piece_shape item) (piece_shapes es) (rest_shape rest));
      keys = λ objects. keyed (item_key is objects kept said) (r.keys objects);
      fits = λ c cover sound.
          NextSets symbol.0 identifier r.slots
          (met_ident false names (key_met s item) symbol there.span identifier f c
          (contained_before (taken_stays d).blocks.extends cover) (g.blocks.extends.sound sound))
          (slots_from (r.fits c cover (g.blocks.extends.sound sound)) (length s.env.identifiers) g.blocks.extends.identifiers);
      still = λ never. absurd (true≢false (sym never));
      means = λ vs ways onward source answers.
          ap (λ (a : Action (List Value)). (a >>= (λ left. assign_to scene rest (first_piece left))) ways onward source answers)
          (stepped scene item es vs (item_hole is)
          ∙ ap (λ (a : Action (Unit {0})). a >> assign_items scene es (later_pieces vs))
          (item_takes is scene (first_piece vs)
          ∙ ap (λ (m : Meaning). write scene m name (first_piece vs) >>= (λ w. done))
          (ap (λ (n : Names). n.meaning there.reference.0 name) same ∙ means)))
          ∙ r.means (later_pieces vs) ways onward (set source symbol.0 (first_piece vs)) answers;
    }
taken_slots {names}
    (items.ItemConstant item es rest there name symbol identifier s t key pieces later is means kept constant f d) ahead behind last plain
    scene same =
    absurd (constant_head_never names there name symbol means constant (sym (item_taken is kept names) ∙ ahead_none names item es ahead))
taken_slots {names} (items.ItemLater item part es rest s t key pieces later is kept d) ahead behind last plain scene same =
    let said = keys_none names true item es ahead in
    let r = taken_slots d (behind_none names true true item es ahead) (behind_none names true false item es behind) last plain scene same in
    let at_key : State = key_met s item in
    let g = stays_key s item in
    let gp = extends_promoted at_key (span_of part) in
    let gd = (taken_stays d).blocks.extends in
    let here : Later = record { value = caught at_key (span_of part); part = part } in
    record {
      slots = Keeps here ∷ r.slots;
      are = item_targets is (caught at_key (span_of part)) pieces ∙ ap (λ (l : List ℕ). length at_key.env.identifiers ∷ l) r.are;
      kept = ap (λ (l : List Later). here ∷ l) r.kept;
      clean = (
        ap (λ (n : Names). refusals_to n part) same ∙ sym (item_taken is kept names) ∙ later_none names item es behind,
        r.clean,
      );
      shape = item_shape is kept said (caught at_key (span_of part)) pieces
          ∙ ap (λ (l : List (List ℕ)). piece_shape item ++ l) r.shape
          ∙ sym (append_assoc (piece_shape item) (piece_shapes es) (rest_shape rest));
      keys = λ objects. keyed (item_key is objects kept said) (r.keys objects);
      fits = λ c cover sound.
          let at_sound : HasSoundNames at_key = g.blocks.extends.sound sound in
          NextKeeps here r.slots g.blocks.extends.identifiers
          (omega (arith, length_promoted at_key (span_of part), gd.identifiers))
          (promoted_free at_key (span_of part) c (contained_before gd cover) at_sound)
          (slots_from (r.fits c cover (gp.sound at_sound)) (length at_key.env.identifiers + 1)
          (omega (arith, length_promoted at_key (span_of part))));
      still = λ forced vs source. r.still refl (later_pieces vs) source;
      means = λ vs ways onward source answers.
          ap (λ (a : Action (List Value)). (a >>= (λ left. assign_to scene rest (first_piece left))) ways onward source answers)
          (stepped scene item es vs (item_hole is)
          ∙ ap (λ (a : Action (Unit {0})). a >> assign_items scene es (later_pieces vs)) (item_takes is scene (first_piece vs)))
          ∙ ap (λ (k : Cont). assign_to scene part (first_piece vs) ways (λ end. k) source answers)
          (λ i source1 answers1. (r.means (later_pieces vs) ways onward source1 answers1
          ∙ ap (λ (x : Store). followed (assign_to scene) r.slots (later_pieces vs) ways onward x answers1)
          (r.still refl (later_pieces vs) source1)) i)
          ∙ ap (λ (x : Store). assign_to scene part (first_piece vs) ways
          (λ end. followed (assign_to scene) r.slots (later_pieces vs) ways onward) x answers)
          (sym (r.still refl (later_pieces vs) source));
    }
