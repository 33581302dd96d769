-- The counted nodes of patterns: those of their items are those of the parts that are left for behind the instruction, in another order.
-- The stores of such parts count too.
use Rattle.std.proofs.Common.{◌≡◌, ℕ, ◌++◌, Bool, true, false, true≢false, if◌then◌else◌, List, [], ◌∷◌, Option, Some, None, codes, refl}
use Rattle.std.proofs.Common.{sym, ap, ◌∙◌}
use Rattle.std.proofs.Common.{append-nil, append_assoc}
use Rattle.std.proofs.lemmas.Option.{none-some}
use Rattle.rl_lowered.proofs.BoundSlots.{AreClean}
use Rattle.rl_lowered.proofs.BoundSlots as bound
use Rattle.rl_lowered.proofs.Clean.{constant_head_never, first_none, second_none}
use Rattle.rl_lowered.proofs.Common.{At, End, Names, Node, Piece, Pieces, Place, Said, Span, State, Syntax, Then}
use Rattle.rl_lowered.proofs.HeldParts.{bind_held, member_held}
use Rattle.rl_lowered.proofs.ItemForms.{item_ahead, item_refuses, item_taken, lost_never}
use Rattle.rl_lowered.proofs.Rearranged.{Rearranged, rearranged_both, rearranged_cross, rearranged_refl, rearranged_same, rearranged_then}
use Rattle.rl_lowered.proofs.TakenSlots as taken
use Rattle.rl_lowered.specs.Forms.{BoundProperty, DefaultName, DefaultTarget, Element, IsDefaulted, IsItem, IsMember, MemberKey, Shorthand}
use Rattle.rl_lowered.specs.Forms.{ShorthandDefault, TakenProperty, is_whole_target}
use Rattle.rl_lowered.specs.Forms as forms
use Rattle.rl_lowered.specs.Items.{BoundItems, IsBinding, IsTaking, Later, TakenItems}
use Rattle.rl_lowered.specs.Items as items
use Rattle.rl_model.specs.Shapes.{is_absent, is_plain_rest}
use Rattle.rl_promises.specs.Live.{Held, held_among, held_as, held_in}
use Rattle.rl_promises.specs.Patterns.{is_forced, is_lost_item, is_pattern, key_name}
use Rattle.rl_promises.specs.Rows.{refusals, refusals_in_round, refusals_to, refusals_to_round}
use Rattle.rl_promises.specs.Tallies.{held_span, store_word, stored_among, stored_by, stored_in}
use Rattle.rl_syntax.specs.declared.word.Word.{Word}
use Rattle.rl_syntax.specs.declared.word.Word.TheVariants as word
use Rattle.rl_syntax.specs.Syntax.{Absent, Listed, span_of}

-- The store of a target that takes a value, by an instruction at the span: that of a name, in front of which a default may be taken.

abbrev pub stored_at : (target : Syntax) → Span → List Held
stored_at (Node at word.Id parts) span = stored_by (Node at word.Id parts) span
stored_at target span = stored_in target

-- A part that is left is stored at its own span.
pub part_stored : (part : Syntax) → stored_at part (span_of part) ≡ stored_in part
part_stored (Node at word.Id parts) = refl
part_stored _ = refl

whole_stored : (target : Syntax) (span : Span) → is_whole_target target ≡ true → stored_at target span ≡ stored_by target span
whole_stored (Node at word.Id parts) span is = refl
whole_stored (Node at word.Default parts) span is = absurd (true≢false (sym is))
whole_stored (Node at word.Short parts) span is = absurd (true≢false (sym is))
whole_stored (Node at word.Keyed parts) span is = absurd (true≢false (sym is))
whole_stored (Node at word.Rest parts) span is = absurd (true≢false (sym is))
whole_stored _ span is = refl

short_stored : (at : At) (name default : Syntax) → is_absent default ≡ false
    → stored_in (Node at word.Short (Then name (Then default End))) ≡ stored_by name at.span
short_stored at name Absent is = absurd (true≢false is)
short_stored at name _ is = refl

pub defaulted_stored : {w : Word} {fields : Pieces} {target default : Syntax} → IsDefaulted w fields target default
    → (at : At) (span : Span)
    → stored_at (Node at w fields) span ≡ stored_at target at.span
defaulted_stored (DefaultTarget {target} whole) at span = sym (whole_stored target at.span whole)
defaulted_stored (DefaultName {name} {default} whole is) at span =
    short_stored at name default is ∙ sym (whole_stored name at.span whole)

pub member_stores : {w : Word} {fields parts : Pieces} {pieces : List Piece} {object : Place} {key : MemberKey}
    → IsMember w fields parts pieces object key → (at : At) (span : Span) → stored_at (Node at w fields) span ≡ []
member_stores forms.Static at span = refl
member_stores _ at span = refl

-- A pattern is no name.

pub pattern_stored : (e : Syntax) (span : Span) → is_pattern e ≡ true → stored_at e span ≡ []
pattern_stored (Node at word.Arraytarget parts) span is = refl
pattern_stored (Node at word.Objecttarget parts) span is = refl
pattern_stored _ span is = absurd (true≢false (sym is))

pub pattern_unstored : (e : Syntax) → is_pattern e ≡ true → store_word e ≡ None
pattern_unstored (Node at word.Arraytarget parts) is = refl
pattern_unstored (Node at word.Objecttarget parts) is = refl
pattern_unstored _ is = absurd (true≢false (sym is))

-- Two lists, each behind which nothing stands.
pub nothing_behind : (l m : List Held) → l ++ (m ++ []) ≡ l ++ m
nothing_behind l m = ap (λ (k : List Held). l ++ k) (append-nil m)

module _ (names : Names) where
  pub defaulted_held : {w : Word} {fields : Pieces} {target default : Syntax} → IsDefaulted w fields target default → (at : At)
      → held_in names (Node at w fields) ≡ held_in names target ++ held_in names default
  defaulted_held (DefaultTarget {target} {default} whole) at = nothing_behind (held_in names target) (held_in names default)
  defaulted_held (DefaultName {name} {default} whole is) at = nothing_behind (held_in names name) (held_in names default)

  -- Items hold what their parts do.

  named_held : (key : Syntax) (text : List ℕ) → key_name key ≡ Some text → held_in names key ≡ []
  named_held (Node at word.Name (Then (Said name) End)) text is = refl
  named_held (Node at word.Name _) text is = absurd (none-some text is)
  named_held (Node at word.Str (Then (Said name) End)) text is = refl
  named_held (Node at word.Str _) text is = absurd (none-some text is)
  named_held (Node at word.Num (Then (Said name) End)) text is = refl
  named_held (Node at word.Num _) text is = absurd (none-some text is)
  named_held _ text is = absurd (none-some text is)

  item_held : {binds of_object : Bool} {item part : Syntax} {key : List Piece} → IsItem binds of_object item key part
      → held_in names item ≡ held_in names part
  item_held (Element is shaped) = refl
  item_held (BoundProperty {at} {key} {pattern} {text} is) =
      ap (λ (l : List Held). l ++ (held_in names pattern ++ [])) (named_held key text is) ∙ append-nil (held_in names pattern)
  item_held (TakenProperty {at} {key} {target} {text} is) =
      ap (λ (l : List Held). l ++ (held_in names target ++ [])) (named_held key text is) ∙ append-nil (held_in names target)
  item_held Shorthand = refl
  item_held (ShorthandDefault is) = refl

  item_stored : {of_object : Bool} {item part : Syntax} {key : List Piece} → IsItem false of_object item key part
      → is_lost_item item ≡ false → stored_in item ≡ stored_in part
  item_stored (Element is shaped) kept = refl
  item_stored (TakenProperty {at} {key} {target} {text} is) kept = ap (λ (b : Bool). if b then [] else stored_in target) kept
  item_stored Shorthand kept = refl
  item_stored (ShorthandDefault is) kept = refl

  -- The counted nodes of parts that are left: of a target with their stores, of a binding pattern without.

  abbrev pub left_held : List Later → List Held
  left_held [] = []
  left_held (here ∷ later) = (stored_in here.part ++ held_in names here.part) ++ left_held later

  abbrev pub kept_held : List Later → List Held
  kept_held [] = []
  kept_held (here ∷ later) = held_in names here.part ++ kept_held later

  -- The items of a target.

  pub record TakenHeld (forced : Bool) (es : Pieces) (rest : Syntax) (later : List Later) : Type 0 where
    pub clean : AreClean (refusals_to names) later
    pub held : Rearranged (left_held later)
        ((if forced then stored_among es ++ stored_in rest else []) ++ (held_among names es ++ held_in names rest))

  pub taken_held : {of_object forced : Bool} {es : Pieces} {rest : Syntax} {s u : State} {pieces : List Piece} {later : List Later}
      → TakenItems names of_object forced es rest s u pieces later → refusals_to_round names forced true es ≡ []
      → refusals_to_round names forced false es ≡ [] → refusals_to names rest ≡ [] → (of_object ≡ true → is_plain_rest rest ≡ true)
      → TakenHeld forced es rest later
  taken_held {forced = true} (items.NoItem s) ahead behind last plain = record { clean = tt; held = rearranged_refl [] }
  taken_held {forced = false} (items.NoItem s) ahead behind last plain = record { clean = tt; held = rearranged_refl [] }
  taken_held (items.RestTaken there target s is) ahead behind last plain = record {
    clean = (last, tt);
    held = rearranged_same
        (append-nil (stored_in target ++ held_in names target)
        ∙ ap (λ (l : List Held). stored_in target ++ l) (sym (append-nil (held_in names target))))
        (rearranged_refl ((stored_in target ++ held_in names target) ++ []));
  }
  taken_held (items.RestLost rest s is) ahead behind last plain = absurd (true≢false (sym (plain refl) ∙ is))
  taken_held (items.ItemHole there es rest s t pieces later d) ahead behind last plain =
      let r = taken_held d (second_none _ _ ahead) (second_none _ _ behind) last plain in record { clean = r.clean; held = r.held }
  taken_held {forced = forced} (items.ItemLost item es rest s t pieces later shaped is d) ahead behind last plain =
      absurd (lost_never item is (taken.keys_none names forced item es ahead))
  taken_held (items.ItemVariable item es rest there name symbol identifier s t key pieces later is means kept mutable f d) ahead behind last
      plain =
      let r = taken_held d (taken.behind_none names false true item es ahead) (taken.behind_none names false false item es behind) last
      plain in
      record {
        clean = r.clean;
        held = rearranged_same (ap (λ (l : List Held). (l ++ held_among names es) ++ held_in names rest) (sym (item_held is))) r.held;
      }
  taken_held (items.ItemConstant item es rest there name symbol identifier s t key pieces later is means kept constant f d) ahead behind
      last plain =
      absurd (constant_head_never names there name symbol means constant
      (sym (item_taken is kept names) ∙ taken.ahead_none names item es ahead))
  taken_held (items.ItemLater item part es rest s t key pieces later is kept d) ahead behind last plain =
      let r = taken_held d (taken.behind_none names true true item es ahead) (taken.behind_none names true false item es behind) last plain
      in
      record {
        clean = (sym (item_taken is kept names) ∙ taken.later_none names item es behind, r.clean);
        held = rearranged_same
            (ap (λ (l : List Held). (l ++ (stored_among es ++ stored_in rest))
            ++ (held_in names part ++ (held_among names es ++ held_in names rest))) (sym (item_stored is kept))
            ∙ ap (λ (l : List Held). (stored_in item ++ (stored_among es ++ stored_in rest))
            ++ (l ++ (held_among names es ++ held_in names rest))) (sym (item_held is))
            ∙ ap (λ (l : List Held). l ++ (held_in names item ++ (held_among names es ++ held_in names rest)))
            (sym (append_assoc (stored_in item) (stored_among es) (stored_in rest)))
            ∙ ap (λ (l : List Held). ((stored_in item ++ stored_among es) ++ stored_in rest) ++ l)
            (sym (append_assoc (held_in names item) (held_among names es) (held_in names rest))))
            (rearranged_then
            (rearranged_both _ _ _ _ (rearranged_refl (stored_in part ++ held_in names part)) r.held)
            (rearranged_cross (stored_in part) (held_in names part) (stored_among es ++ stored_in rest)
            (held_among names es ++ held_in names rest)));
      }

  -- The items of a binding pattern.

  pub record BoundHeld (es : Pieces) (rest : Syntax) (later : List Later) : Type 0 where
    pub clean : AreClean (refusals names) later
    pub held : held_among names es ++ held_in names rest ≡ kept_held later

  pub bound_held : {again of_object : Bool} {es : Pieces} {rest : Syntax} {s u : State} {pieces : List Piece} {later : List Later}
      → BoundItems names again of_object es rest s u pieces later → refusals_in_round names true es ≡ []
      → refusals_in_round names false es ≡ [] → refusals names rest ≡ [] → (of_object ≡ true → is_plain_rest rest ≡ true)
      → BoundHeld es rest later
  bound_held (items.NoBound s) ahead behind last plain = record { clean = tt; held = refl }
  bound_held (items.RestNamed there bind_at name type symbol identifier s annotated is f) ahead behind last plain =
      record { clean = tt; held = append-nil _ ∙ bind_held names bind_at name type annotated }
  bound_held (items.RestNested there pattern s is) ahead behind last plain =
      record { clean = (first_none (refusals names pattern) [] last, tt); held = refl }
  bound_held (items.RestUnbound rest s is) ahead behind last plain = absurd (true≢false (sym (plain refl) ∙ is))
  bound_held (items.BoundHole there es rest s t pieces later d) ahead behind last plain =
      let r = bound_held d ahead behind last plain in record { clean = r.clean; held = r.held }
  bound_held (items.BoundLost item es rest s t pieces later shaped is d) ahead behind last plain =
      absurd (lost_never item is (bound.keys_none names item es ahead))
  bound_held (items.BoundVariable item es rest bind_at name type symbol identifier s t key pieces later is annotated kept declared f d)
      ahead behind last plain =
      let r = bound_held d (bound.behind_none names true item es ahead) (bound.behind_none names false item es behind) last plain in
      record {
        clean = r.clean;
        held = ap (λ (l : List Held). (l ++ held_among names es) ++ held_in names rest)
            (item_held is ∙ bind_held names bind_at name type annotated)
            ∙ r.held;
      }
  bound_held (items.BoundLater item part es rest s t key pieces later is kept late d) ahead behind last plain =
      let r = bound_held d (bound.behind_none names true item es ahead) (bound.behind_none names false item es behind) last plain in
      record {
        clean = (sym (item_refuses is kept names) ∙ bound.later_none names item es (item_ahead is ∙ late) behind, r.clean);
        held = append_assoc (held_in names item) (held_among names es) (held_in names rest)
            ∙ ap (λ (l : List Held). l ++ (held_among names es ++ held_in names rest)) (item_held is)
            ∙ ap (λ (l : List Held). held_in names part ++ l) r.held;
      }

  -- A pattern holds what its items and its rest do, and a target that is one holds the stores of its items too.

  pub binding_held : {w : Word} {of_object : Bool} → IsBinding w of_object → (at : At) (es : Pieces) (rest : Syntax)
      → held_in names (Node at w (Then (Listed es) (Then rest End))) ≡ held_among names es ++ held_in names rest
  binding_held items.BindsArray at es rest = nothing_behind (held_among names es) (held_in names rest)
  binding_held items.BindsObject at es rest = nothing_behind (held_among names es) (held_in names rest)

  pub taking_held : {w : Word} {of_object : Bool} → IsTaking w of_object → (forced : Bool) (at : At) (es : Pieces) (rest : Syntax)
      (span : Span)
      → is_forced names es rest ≡ forced
      → stored_at (Node at w (Then (Listed es) (Then rest End))) span ++ held_in names (Node at w (Then (Listed es) (Then rest End)))
      ≡ (if forced then stored_among es ++ stored_in rest else []) ++ (held_among names es ++ held_in names rest)
  taking_held items.TakesArray forced at es rest span is =
      ap (λ (b : Bool). (if b then stored_among es ++ stored_in rest else []) ++ (held_among names es ++ (held_in names rest ++ []))) is
      ∙ ap (λ (l : List Held). (if forced then stored_among es ++ stored_in rest else []) ++ l)
      (nothing_behind (held_among names es) (held_in names rest))
  taking_held items.TakesObject forced at es rest span is =
      ap (λ (b : Bool). (if b then stored_among es ++ stored_in rest else []) ++ (held_among names es ++ (held_in names rest ++ []))) is
      ∙ ap (λ (l : List Held). (if forced then stored_among es ++ stored_in rest else []) ++ l)
      (nothing_behind (held_among names es) (held_in names rest))

  -- An assignment to a pattern holds what its target and its right part do.
  pub assigned_pattern_held : (at : At) (target right : Syntax) → is_pattern target ≡ true
      → held_in names (Node at word.Assign (Then (Said (codes "=")) (Then target (Then right End))))
      ≡ held_in names target ++ held_in names right
  assigned_pattern_held at target right is =
      let span : Span = held_span word.Assign (Then (Said (codes "=")) (Then target (Then right End))) at.span in
      ap (λ (o : Option (List ℕ)). (held_as o span ++ []) ++ (held_in names target ++ (held_in names right ++ [])))
      (pattern_unstored target is)
      ∙ nothing_behind (held_in names target) (held_in names right)

  -- A target with a default stores as its target does, and holds what that and the default do.
  pub defaulted_whole_held : {w : Word} {fields : Pieces} {target default : Syntax} → IsDefaulted w fields target default → (at : At)
      (span : Span)
      → stored_at (Node at w fields) span ++ held_in names (Node at w fields)
      ≡ (stored_at target at.span ++ held_in names target) ++ held_in names default
  defaulted_whole_held {w} {fields} {target} {default} is at span =
      ap (λ (l : List Held). l ++ held_in names (Node at w fields)) (defaulted_stored is at span)
      ∙ ap (λ (l : List Held). stored_at target at.span ++ l) (defaulted_held is at)
      ∙ sym (append_assoc (stored_at target at.span) (held_in names target) (held_in names default))

  pub member_target_held : {w : Word} {fields parts : Pieces} {pieces : List Piece} {object : Place} {key : MemberKey}
      → IsMember w fields parts pieces object key → (at : At) (span : Span)
      → stored_at (Node at w fields) span ++ held_in names (Node at w fields) ≡ held_among names parts
  member_target_held {w} {fields} is at span =
      ap (λ (l : List Held). l ++ held_in names (Node at w fields)) (member_stores is at span) ∙ member_held names is at

  -- The head of a loop that declares a pattern.
  pub declared_pattern_held : (at there : At) (kind : List ℕ) (pattern : Syntax)
      → held_in names
      (Node at word.Var (Then (Said kind) (Then (Listed (Then (Node there word.Declarator (Then pattern (Then Absent End))) End)) End)))
      ≡ held_in names pattern
  declared_pattern_held at there kind pattern =
      append-nil ((held_in names pattern ++ []) ++ []) ∙ append-nil (held_in names pattern ++ []) ∙ append-nil (held_in names pattern)
