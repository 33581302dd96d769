-- Derivations of the items of binding patterns.
use Rattle.std.proofs.Common.{◌≡◌, ℕ, ◌+◌, ◌*◌, ◌≤◌, ◌++◌, not, Bool, true, false, true≢false, List, [], ◌∷◌, codes}
use Rattle.std.proofs.Common.{Option, Some, None, Result, Ok, Err, OnOk, IfOk, refl, sym, ap, ◌∙◌, subst, arith, append-nil, append_assoc}
use Rattle.rl_ast.specs.BindingViews.{seen_binding_identifier}
use Rattle.rl_ast.specs.declared.binding.BindingIdentifier.{BindingIdentifier}
use Rattle.rl_base.specs.Diagnostics.{diagnostic_at}
use Rattle.rl_base.specs.declared.row.Row.TheVariants as row
use Rattle.rl_base.specs.declared.span.Span.{Span}
use Rattle.rl_base.specs.declared.stop.Stop.{Stop}
use Rattle.rl_builder.specs.Builder.{State, recorded}
use Rattle.rl_grammar.specs.Fields.{maybe}
use Rattle.rl_grammar.proofs.Viewing.{of_sort}
use Rattle.rl_grammar.specs.Grammar.{fits}
use Rattle.rl_grammar.specs.declared.kind.Field.TheVariants as field
use Rattle.rl_grammar.specs.declared.kind.Kind.TheVariants as kind
use Rattle.rl_hir.specs.Pieces.{Gives, Names as Named, Piece, Says, Spreads, element_pieces, gathered}
use Rattle.rl_hir.specs.declared.instruction.ArrayElement.{ArrayElement}
use Rattle.rl_hir.specs.declared.instruction.ArrayElement.TheVariants as elements
use Rattle.rl_hir.specs.declared.instruction.Place.{Place}
use Rattle.rl_lower_statements.proofs.DeclarationDerivations.{annotation_fits}
use Rattle.rl_lower_statements.specs.Declarators.{IsMet}
use Rattle.rl_lower_statements.specs.Patterns.{BindsItem, BindsLater, BindsName, BindsPart, BindsRest, PlacesName, RestLater, RestName}
use Rattle.rl_lower_statements.specs.Patterns.{all_left, seen_left, seen_part}
use Rattle.rl_lower_statements.specs.declared.pattern_items.LeftPattern.{LeftPattern}
use Rattle.rl_lower_statements.specs.declared.pattern_items.PatternPart.{PatternPart}
use Rattle.rl_lower_parts.proofs.Gathered.{gathered_more}
use Rattle.rl_lower_parts.proofs.TargetTrees.{known_by_name, node_counts}
use Rattle.rl_lower_parts.specs.Patterns.{LosesKey, MeetsKey}
use Rattle.rl_lowered.proofs.Catches.{size_promoted}
use Rattle.rl_lowered.proofs.ItemSizes.{fraction_size}
use Rattle.rl_lowered.proofs.Names.{names_promoted, names_recorded}
use Rattle.rl_lowered.specs.Forms.{BoundProperty, Element, IsAnnotation, IsItem, OfBinding}
use Rattle.rl_lowered.specs.Items as items
use Rattle.rl_lowered.specs.Items.{BoundItems, Later, caught, fraction_met, key_met, met, promoted, variable_at}
use Rattle.rl_lowered.specs.Named.{IsFound, IsNamed}
use Rattle.rl_lowered.specs.Promised.{HasRoom}
use Rattle.rl_model.specs.Shapes.{is_plain_rest}
use Rattle.rl_names.specs.Names.{Names}
use Rattle.rl_promises.proofs.CoveredForms.{none_fits}
use Rattle.rl_promises.proofs.CoveredNames.{never}
use Rattle.rl_promises.specs.Lowerable.{DeclaresFree, IsLowerable, Where}
use Rattle.rl_promises.specs.Patterns.{fraction_in, is_ahead, is_lost_item, key_name, loses_item, lost_key, rest_type, takes_apart}
use Rattle.rl_runs.specs.Blocks.{size_of}
use Rattle.rl_syntax.specs.declared.numbered.At.{At}
use Rattle.rl_syntax.specs.declared.word.Word.TheVariants as word
use Rattle.rl_syntax.specs.Syntax.{Syntax, Node, Said, Flag, Absent, Pieces, End, Then, nodes, nodes_of, span_of, syntax}

all_more : (a b : List LeftPattern) → all_left (a ++ b) ≡ all_left a ++ all_left b
all_more [] b = refl
all_more (x ∷ a) b = ap (λ (l : List Later). seen_left x ∷ l) (all_more a b)

-- Names.

pub placed_told : {names : Names} {again : Bool} {bind : At} {old new : State} {identifier : ℕ} (at : Span)
    → IsMet names again bind old new identifier → PlacesName names again bind at old new (variable_at identifier at)
placed_told {identifier = identifier} at m = record {
  symbol = m.symbol;
  identifier = identifier;
  declared = m.declared;
  found = m.bound;
  moved = m.moved;
  is = refl;
  named = m.named;
  size = m.size;
}

-- The part that takes a piece.

pub named_part_ok : {pattern : Syntax} (names : Names) (again : Bool) (left : List LeftPattern) (r : Result Place Stop)
    (name : BindingIdentifier) (s t : State) → seen_binding_identifier name ≡ pattern
    → IfOk r (λ place. PlacesName names again name.at name.at.span s t place)
    → IfOk r (λ place. BindsPart names again pattern left left s t place)
named_part_ok names again left (Ok place) name s t is placed =
    BindsName name.at name.name.now (maybe name.annotation (λ t. syntax t.tree.now)) s t place (sym is)
    (annotation_fits (λ t. syntax t.tree.now) name.annotation (λ t. t.fit)) placed
named_part_ok names again left (Err e) name s t is placed = tt

pub left_part_ok : {pattern : Syntax} {at : Span} (names : Names) (again : Bool) (before after : List LeftPattern) (r : Result Place Stop)
    (left : PatternPart) (s t : State) → seen_part left ≡ pattern → is_ahead pattern ≡ false → at ≡ span_of (seen_part left)
    → OnOk r (t ≡ promoted s at) → IfOk r (λ place. place ≡ caught s at)
    → IfOk r (λ place. after ≡ before ++ record { value = place; part = left } ∷ [])
    → IfOk r (λ place. BindsPart names again pattern before after s t place)
left_part_ok {pattern} {at} names again before after (Ok place) left s t is behind same moved placed grown =
    let there : at ≡ span_of pattern = same ∙ ap span_of is in
    subst (λ (o : State). BindsPart names again pattern before after s o place)
    (sym (moved ∙ ap (λ (a : Span). promoted s a) there))
    (subst (λ (l : List LeftPattern). BindsPart names again pattern before l s (promoted s (span_of pattern)) place) (sym grown)
    (subst (λ (p : Place). BindsPart names again pattern before (before ++ record { value = p; part = left } ∷ []) s
    (promoted s (span_of pattern)) p) (sym (placed ∙ ap (λ (a : Span). caught s a) there))
    (BindsLater left s is behind)))
left_part_ok names again before after (Err e) left s t is behind same moved placed grown = tt

-- The part that takes the rest of an array.

pub named_rest_ok : {pattern : Syntax} (names : Names) (again : Bool) (left : List LeftPattern) (at : Span) (r : Result Place Stop)
    (name : BindingIdentifier) (s t : State) → seen_binding_identifier name ≡ pattern
    → IfOk r (λ place. PlacesName names again name.at at s t place)
    → IfOk r (λ place. BindsRest names again at pattern left left s t place)
named_rest_ok names again left at (Ok place) name s t is placed =
    RestName name.at name.name.now (maybe name.annotation (λ t. syntax t.tree.now)) s t place (sym is)
    (annotation_fits (λ t. syntax t.tree.now) name.annotation (λ t. t.fit)) placed
named_rest_ok names again left at (Err e) name s t is placed = tt

pub left_rest_ok : {pattern : Syntax} (names : Names) (again : Bool) (before after : List LeftPattern) (at : Span) (r : Result Place Stop)
    (left : PatternPart) (s t : State) → seen_part left ≡ pattern → takes_apart pattern ≡ true
    → OnOk r (t ≡ promoted s at) → IfOk r (λ place. place ≡ caught s at)
    → IfOk r (λ place. after ≡ before ++ record { value = place; part = left } ∷ [])
    → IfOk r (λ place. BindsRest names again at pattern before after s t place)
left_rest_ok {pattern} names again before after at (Ok place) left s t is apart moved placed grown =
    subst (λ (o : State). BindsRest names again at pattern before after s o place) (sym moved)
    (subst (λ (l : List LeftPattern). BindsRest names again at pattern before l s (promoted s at) place) (sym grown)
    (subst (λ (p : Place). BindsRest names again at pattern before (before ++ record { value = p; part = left } ∷ []) s (promoted s at) p)
    (sym placed) (RestLater left s is apart)))
left_rest_ok names again before after at (Err e) left s t is apart moved placed grown = tt

-- An item whose part got its place.

fraction_named : {names : Names} (s : State) (o : Option Span) → IsNamed names s → IsNamed names (fraction_met s o)
fraction_named s None n = n
fraction_named s (Some at) n = (names_recorded s _).named n

pub item_bound : {names : Names} {again of_object : Bool} {item pattern : Syntax} {key : List Piece} {before after : List LeftPattern}
    {s m t : State} {place : Place}
    → IsItem true of_object item key pattern → is_lost_item item ≡ false → IsNamed names s → m ≡ key_met s item
    → BindsPart names again pattern before after m t place
    → BindsItem names again of_object item (key ++ Gives place ∷ []) before after s t
item_bound {names} {again} {of_object} {item} {pattern} {key} {before} {s = s} shaped kept n same
    (BindsName bind name type m t place is annotated p) = record {
      added = [];
      grown = sym (append-nil before);
      next = λ es rest last more later d.
          subst (λ (q : List Piece). BoundItems names again of_object (Then item es) rest s last q later)
          (sym (append_assoc key (Gives place ∷ []) more))
          (subst (λ (q : Place). BoundItems names again of_object (Then item es) rest s last (key ++ Gives q ∷ more) later) (sym p.is)
          (items.BoundVariable item es rest bind name type p.symbol p.identifier s last key more later
          (subst (IsItem true of_object item key) is shaped) annotated kept p.declared
          (subst (λ (o : State). IsFound names o p.symbol bind.span p.identifier) same p.found)
          (subst (λ (o : State). BoundItems names again of_object es rest o last more later)
          (p.moved ∙ ap (λ (o : State). met again names o p.symbol p.identifier bind.span) same) d)));
      named = p.named;
      size =
          let key_size : size_of m ≡ size_of s = ap size_of same ∙ fraction_size s (fraction_in item) in
          omega (arith, key_size, p.size);
    }
item_bound {names} {again} {of_object} {item} {pattern} {key} {before} {s = s} shaped kept n same (BindsLater left m is behind) =
    let there : Span = span_of pattern in
    record {
      added = record { value = caught m there; part = left } ∷ [];
      grown = refl;
      next = λ es rest last more later d.
          subst (λ (q : List Piece). BoundItems names again of_object (Then item es) rest s last q
          (record { value = caught m there; part = seen_part left } ∷ later))
          (sym (append_assoc key (Gives (caught m there) ∷ []) more))
          (subst (λ (e : Syntax). BoundItems names again of_object (Then item es) rest s last (key ++ Gives (caught m there) ∷ more)
          (record { value = caught m there; part = e } ∷ later)) (sym is)
          (subst (λ (o : State). BoundItems names again of_object (Then item es) rest s last (key ++ Gives (caught o there) ∷ more)
          (record { value = caught o there; part = pattern } ∷ later)) (sym same)
          (items.BoundLater item pattern es rest s last key more later shaped kept behind
          (subst (λ (o : State). BoundItems names again of_object es rest (promoted o there) last more later) same d))));
      named = (names_promoted m there).named (subst (IsNamed names) (sym same) (fraction_named s (fraction_in item) n));
      size =
          let key_size : size_of m ≡ size_of s = ap size_of same ∙ fraction_size s (fraction_in item) in
          omega (arith, key_size, size_promoted m there);
    }

-- An element.

-- A pattern in an array has no key.
record IsElement (pattern : Syntax) : Type 0 where
  item : IsItem true false pattern [] pattern
  kept : is_lost_item pattern ≡ false
  keyless : fraction_in pattern ≡ None

element_pattern : (t : Syntax) → fits (field.One kind.BindingPatternMaybeDefault) t ≡ true → IsElement t
element_pattern (Node at word.Hole ps) h = absurd (none_fits ps h)
element_pattern (Node at word.Keyedpat ps) h = absurd (none_fits ps h)
element_pattern (Node at word.Keyed ps) h = absurd (none_fits ps h)
element_pattern (Node at word.Short ps) h = absurd (none_fits ps h)
element_pattern (Node at _ ps) h = record { item = Element refl refl; kept = refl; keyless = refl }
element_pattern _ h = never h

pub element_bound : {names : Names} {again : Bool} {item : Syntax} {before after : List LeftPattern} {s u : State} {place : Place}
    (t : Syntax) → fits (field.One kind.BindingPatternMaybeDefault) t ≡ true → t ≡ item → IsNamed names s
    → BindsPart names again t before after s u place
    → BindsItem names again false item (Gives place ∷ []) before after s u
element_bound {names} {again} {item} {before} {after} {s} {u} {place} t fit is n d =
    let e = element_pattern t fit in
    subst (λ (i : Syntax). BindsItem names again false i (Gives place ∷ []) before after s u) is
    (item_bound e.item e.kept n (sym (ap (λ (o : Option Span). fraction_met s o) e.keyless)) d)

pub hole_bound : {names : Names} {again : Bool} {at : At} {item : Syntax} {left : List LeftPattern} {s : State}
    → Node at word.Hole End ≡ item → IsNamed names s → BindsItem names again false item (Says (codes "hole") ∷ []) left left s s
hole_bound {names} {again} {at} {item} {left} {s} is n =
    subst (λ (i : Syntax). BindsItem names again false i (Says (codes "hole") ∷ []) left left s s) is
    (record {
      added = [];
      grown = sym (append-nil left);
      next = λ es rest last more later d. items.BoundHole at es rest s last more later d;
      named = n;
      size = omega arith;
    })

-- A property.

pub met_named : {names : Names} {computed : Bool} {key : Syntax} {text : List ℕ} {s m : State} → MeetsKey computed key text s m
    → IsNamed names s → IsNamed names m
met_named {names} {computed} {key} {text} {s} {m} k n = subst (IsNamed names) (sym k.moved) (fraction_named s _ n)

pub met_room : {computed : Bool} {key : Syntax} {text : List ℕ} {s m : State} (more all : ℕ) → MeetsKey computed key text s m → more ≤ all
    → HasRoom s all → HasRoom m more
met_room {s = s} {m} more all k fits room =
    let same : size_of m ≡ size_of s = ap size_of k.moved ∙ fraction_size s _ in
    omega (arith, same, fits, room)

kept_key : (key : Syntax) (text : List ℕ) → key_name key ≡ Some text → loses_item (Flag false) key ≡ false
kept_key key text is = ap (λ (b : Bool). not b) (known_by_name key text is)

-- The value of a property that is not left out may be lowered.
pub value_may : (names : Names) {at : At} {computed : Bool} {key pattern item : Syntax} {text : List ℕ} {s m : State}
    → Node at word.Keyedpat (Then (Flag computed) (Then key (Then pattern End))) ≡ item → MeetsKey computed key text s m
    → IsLowerable names item → IsLowerable names pattern
value_may names {at} {computed} {key} {pattern} {item} {text} is k may =
    subst (λ (b : Bool). Where (not b) (IsLowerable names pattern)) (kept_key key text k.named)
    (subst (λ (c : Bool). IsLowerable names (Node at word.Keyedpat (Then (Flag c) (Then key (Then pattern End))))) k.plain
    (subst (IsLowerable names) (sym is) may))

pub keyed_bound : {names : Names} {again : Bool} {at : At} {computed : Bool} {key pattern item : Syntax} {text : List ℕ}
    {before after : List LeftPattern} {s m t : State} {place : Place}
    → Node at word.Keyedpat (Then (Flag computed) (Then key (Then pattern End))) ≡ item → IsNamed names s → MeetsKey computed key text s m
    → BindsPart names again pattern before after m t place
    → BindsItem names again true item (Named text ∷ Gives place ∷ []) before after s t
keyed_bound {names} {again} {at} {computed} {key} {pattern} {item} {text} {before} {after} {s} {m} {t} {place} is n k d =
    subst (λ (i : Syntax). BindsItem names again true i (Named text ∷ Gives place ∷ []) before after s t) is
    (subst (λ (c : Bool). BindsItem names again true (Node at word.Keyedpat (Then (Flag c) (Then key (Then pattern End))))
    (Named text ∷ Gives place ∷ []) before after s t) (sym k.plain)
    (item_bound (BoundProperty k.named) (kept_key key text k.named) n k.moved d))

pub lost_bound : {names : Names} {again : Bool} {at : At} {computed : Bool} {key pattern item : Syntax} {left : List LeftPattern}
    {s t : State} → Node at word.Keyedpat (Then (Flag computed) (Then key (Then pattern End))) ≡ item → IsNamed names s
    → LosesKey at.span computed key s t → BindsItem names again true item [] left left s t
lost_bound {names} {again} {at} {computed} {key} {pattern} {item} {left} {s} {t} is n lost =
    let property : Syntax = Node at word.Keyedpat (Then (Flag computed) (Then key (Then pattern End))) in
    subst (λ (i : Syntax). BindsItem names again true i [] left left s t) is
    (record {
      added = [];
      grown = sym (append-nil left);
      next = λ es rest last more later d.
          items.BoundLost property es rest s last more later OfBinding lost.lost
          (subst (λ (o : State). BoundItems names again true es rest o last more later) lost.moved d);
      named = subst (IsNamed names) (sym lost.moved) ((names_recorded s (lost_key at.span computed key)).named n);
      size = let same : size_of t ≡ size_of s = ap size_of lost.moved in omega (arith, same);
    })

-- Items in order.

-- With the items that wait in `left`, all got their places.
abbrev pub BindsLeft : {X : Type 0} → (X → List Piece) → Names → (again of_object : Bool) → (all left : Pieces) → (rest : Syntax)
    → (old now : State) → List X → List LeftPattern → Type 0
BindsLeft f names again of_object all left rest old now given parts =
    (new : State) (more : List Piece) (later : List Later) → BoundItems names again of_object left rest now new more later
    → BoundItems names again of_object all rest old new (gathered f given ++ more) (all_left parts ++ later)

pub binds_next : {X : Type 0} {names : Names} {again of_object : Bool} {all left behind : Pieces} {first rest : Syntax} {old s t : State}
    {pieces : List Piece} {before after : List LeftPattern} (f : X → List Piece) (given : List X) {grown : List X} (added : List X)
    → left ≡ Then first behind → grown ≡ given ++ added → gathered f added ≡ pieces
    → BindsItem names again of_object first pieces before after s t
    → BindsLeft f names again of_object all left rest old s given before
    → BindsLeft f names again of_object all behind rest old t grown after
binds_next {names = names} {again} {of_object} {all} {left} {behind} {first} {rest} {old} {s} {t} {pieces} {before} {after} f given {grown}
    added split pushed same one gives = λ new more later l.
    subst (λ (q : List Later). BoundItems names again of_object all rest old new (gathered f grown ++ more) q)
    (sym (append_assoc (all_left before) (all_left one.added) later)
    ∙ ap (λ (q : List Later). q ++ later) (sym (all_more before one.added) ∙ sym (ap all_left one.grown)))
    (subst (λ (p : List Piece). BoundItems names again of_object all rest old new p (all_left before ++ (all_left one.added ++ later)))
    (sym (append_assoc (gathered f given) pieces more)
    ∙ ap (λ (p : List Piece). p ++ more)
    (sym (ap (gathered f) pushed ∙ gathered_more f given added ∙ ap (λ (p : List Piece). gathered f given ++ p) same)))
    (gives new (pieces ++ more) (all_left one.added ++ later)
    (subst (λ (es : Pieces). BoundItems names again of_object es rest s new (pieces ++ more) (all_left one.added ++ later)) (sym split)
    (one.next behind rest new more later l))))

-- The items behind the first have the room that is left.

pub items_more : {left behind : Pieces} {first : Syntax} (s t : State) → fits (field.One kind.BindingPatternElement) first ≡ true
    → left ≡ Then first behind → size_of t ≤ size_of s + 4 → HasRoom s (4 * nodes_of left + 4) → HasRoom t (4 * nodes_of behind + 4)
items_more {left} {behind} {first} s t fit split size room =
    let counted : nodes_of left ≡ nodes first + nodes_of behind = ap nodes_of split in
    let one : 1 ≤ nodes first = node_counts first (of_sort kind.BindingPatternElement first refl fit) in
    omega (arith, counted, one, size, room)

pub properties_more : {left behind : Pieces} {first : Syntax} (s t : State) → fits (field.One kind.BindingProperty) first ≡ true
    → left ≡ Then first behind → size_of t ≤ size_of s + 4 → HasRoom s (4 * nodes_of left + 4) → HasRoom t (4 * nodes_of behind + 4)
properties_more {left} {behind} {first} s t fit split size room =
    let counted : nodes_of left ≡ nodes first + nodes_of behind = ap nodes_of split in
    let one : 1 ≤ nodes first = node_counts first (of_sort kind.BindingProperty first refl fit) in
    omega (arith, counted, one, size, room)

-- Behind the last item: the rest, or none.

binds_end : {X : Type 0} {names : Names} {again of_object : Bool} {all left : Pieces} {rest : Syntax} {old now new : State}
    {pieces : List Piece} {later : List Later} (f : X → List Piece) (given : List X) {grown : List X} (added : List X)
    {after : List LeftPattern} (parts more : List LeftPattern)
    → left ≡ End → grown ≡ given ++ added → gathered f added ≡ pieces → after ≡ parts ++ more → all_left more ≡ later
    → BoundItems names again of_object End rest now new pieces later
    → BindsLeft f names again of_object all left rest old now given parts
    → BoundItems names again of_object all rest old new (gathered f grown) (all_left after)
binds_end {names = names} {again} {of_object} {all} {left} {rest} {old} {now} {new} {pieces} {later} f given {grown} added {after}
    parts more done pushed same left_more left_same last gives =
    subst (λ (q : List Later). BoundItems names again of_object all rest old new (gathered f grown) q)
    (sym (ap all_left left_more ∙ all_more parts more ∙ ap (λ (q : List Later). all_left parts ++ q) left_same))
    (subst (λ (p : List Piece). BoundItems names again of_object all rest old new p (all_left parts ++ later))
    (sym (ap (gathered f) pushed ∙ gathered_more f given added ∙ ap (λ (p : List Piece). gathered f given ++ p) same))
    (gives new pieces later
    (subst (λ (es : Pieces). BoundItems names again of_object es rest now new pieces later) (sym done) last)))

pub binds_done : {X : Type 0} {names : Names} {again of_object : Bool} {all left : Pieces} {rest : Syntax} {old now : State}
    (f : X → List Piece) (given : List X) (parts : List LeftPattern) → left ≡ End → rest ≡ Absent
    → BindsLeft f names again of_object all left rest old now given parts
    → BoundItems names again of_object all rest old now (gathered f given) (all_left parts)
binds_done {names = names} {again} {of_object} {now = now} f given parts done absent gives =
    binds_end f given [] parts [] done (sym (append-nil given)) refl (sym (append-nil parts)) refl
    (subst (λ (e : Syntax). BoundItems names again of_object End e now now [] []) (sym absent) (items.NoBound now)) gives

rest_named : {names : Names} {again of_object : Bool} {at bind : At} {name : List ℕ} {type pattern rest : Syntax} {s t : State}
    {place : Place} → Node at word.Rest (Then pattern End) ≡ rest → pattern ≡ Node bind word.Bind (Then (Said name) (Then type End))
    → IsAnnotation type → PlacesName names again bind at.span s t place
    → BoundItems names again of_object End rest s t (Spreads place ∷ []) []
rest_named {names} {again} {of_object} {at} {bind} {name} {type} {pattern} {rest} {s} {t} {place} is shaped annotated p =
    subst (λ (e : Syntax). BoundItems names again of_object End e s t (Spreads place ∷ []) [])
    (ap (λ (e : Syntax). Node at word.Rest (Then e End)) (sym shaped) ∙ is)
    (subst (λ (o : State). BoundItems names again of_object End
    (Node at word.Rest (Then (Node bind word.Bind (Then (Said name) (Then type End))) End)) s o (Spreads place ∷ []) []) (sym p.moved)
    (subst (λ (q : Place). BoundItems names again of_object End
    (Node at word.Rest (Then (Node bind word.Bind (Then (Said name) (Then type End))) End)) s
    (met again names s p.symbol p.identifier bind.span) (Spreads q ∷ []) []) (sym p.is)
    (items.RestNamed at bind name type p.symbol p.identifier s annotated p.declared p.found)))

-- The rest of an array.
pub binds_rest : {names : Names} {again : Bool} {all left : Pieces} {rest pattern : Syntax} {old now new : State} {place : Place}
    {before after : List LeftPattern} {at : At} (given : List ArrayElement) {grown : List ArrayElement}
    → left ≡ End → Node at word.Rest (Then pattern End) ≡ rest → grown ≡ given ++ elements.Spread place ∷ []
    → BindsRest names again at.span pattern before after now new place
    → BindsLeft element_pieces names again false all left rest old now given before
    → BoundItems names again false all rest old new (gathered element_pieces grown) (all_left after)
binds_rest {before = before} given done is pushed (RestName bind name type s t place shaped annotated p) gives =
    binds_end element_pieces given (elements.Spread place ∷ []) before [] done pushed refl (sym (append-nil before)) refl
    (rest_named is shaped annotated p) gives
binds_rest {names} {again} {rest = rest} {pattern} {before = before} {at = at} given done is pushed (RestLater left s seen apart) gives =
    binds_end element_pieces given (elements.Spread (caught s at.span) ∷ []) before (record {
      value = caught s at.span;
      part = left;
    } ∷ []) done
    pushed refl refl refl
    (subst (λ (e : Syntax). BoundItems names again false End e s (promoted s at.span) (Spreads (caught s at.span) ∷ [])
    (record { value = caught s at.span; part = seen_part left } ∷ [])) is
    (subst (λ (e : Syntax). BoundItems names again false End (Node at word.Rest (Then pattern End)) s (promoted s at.span)
    (Spreads (caught s at.span) ∷ []) (record { value = caught s at.span; part = e } ∷ [])) (sym seen)
    (items.RestNested at pattern s apart))) gives

-- The rest of an object that is a name, and any other, which is left out.

pub binds_named_rest : {X : Type 0} {names : Names} {again of_object : Bool} {all left : Pieces} {rest pattern : Syntax}
    {old now new : State} {place : Place} {at : At} (f : X → List Piece) (given : List X) {grown : List X} (item : X)
    (parts : List LeftPattern) (name : BindingIdentifier)
    → left ≡ End → Node at word.Rest (Then pattern End) ≡ rest → seen_binding_identifier name ≡ pattern
    → grown ≡ given ++ item ∷ [] → f item ≡ Spreads place ∷ [] → PlacesName names again name.at at.span now new place
    → BindsLeft f names again of_object all left rest old now given parts
    → BoundItems names again of_object all rest old new (gathered f grown) (all_left parts)
binds_named_rest f given item parts name done is named pushed spread p gives =
    binds_end f given (item ∷ []) parts [] done pushed (ap (λ (l : List Piece). l ++ []) spread) (sym (append-nil parts)) refl
    (rest_named is (sym named) (annotation_fits (λ t. syntax t.tree.now) name.annotation (λ t. t.fit)) p) gives

apart_rest : (at : At) (pattern : Syntax) → takes_apart pattern ≡ true → is_plain_rest (Node at word.Rest (Then pattern End)) ≡ false
apart_rest at (Node there word.Arraypat parts) is = refl
apart_rest at (Node there word.Objectpat parts) is = refl
apart_rest at _ is = absurd (true≢false (sym is))

pub loses_rest : {X : Type 0} {names : Names} {again : Bool} {all left : Pieces} {rest pattern : Syntax} {old now new : State} {at : At}
    {type : List ℕ} (f : X → List Piece) (given : List X) (parts : List LeftPattern)
    → left ≡ End → Node at word.Rest (Then pattern End) ≡ rest → takes_apart pattern ≡ true → type ≡ rest_type pattern
    → new ≡ recorded now (diagnostic_at row.F10 type at.span)
    → BindsLeft f names again true all left rest old now given parts
    → BoundItems names again true all rest old new (gathered f given) (all_left parts)
loses_rest {names = names} {again} {rest = rest} {pattern} {now = now} {new} {at} f given parts done is apart same moved gives =
    binds_end f given [] parts [] done (sym (append-nil given)) refl (sym (append-nil parts)) refl
    (subst (λ (e : Syntax). BoundItems names again true End e now new [] []) is
    (subst (λ (o : State). BoundItems names again true End (Node at word.Rest (Then pattern End)) now o [] [])
    (sym (moved ∙ ap (λ (n : List ℕ). recorded now (diagnostic_at row.F10 n at.span)) same))
    (items.RestUnbound (Node at word.Rest (Then pattern End)) now (apart_rest at pattern apart)))) gives

-- The rest of an object that is a name may be looked up.
pub plain_rest_may : {names : Names} {at : At} {pattern rest : Syntax} (name : BindingIdentifier)
    → Node at word.Rest (Then pattern End) ≡ rest → seen_binding_identifier name ≡ pattern
    → Where (is_plain_rest rest) (IsLowerable names rest) → DeclaresFree names (names.declared name.at.id.0)
plain_rest_may {names} {at} name is named may =
    (subst (λ (e : Syntax). Where (is_plain_rest e) (IsLowerable names e))
    (sym (ap (λ (p : Syntax). Node at word.Rest (Then p End)) named ∙ is)) may).1.0

pub rest_may : (names : Names) {at : At} {pattern rest : Syntax} → Node at word.Rest (Then pattern End) ≡ rest → IsLowerable names rest
    → IsLowerable names pattern
rest_may names is may = (subst (IsLowerable names) (sym is) may).1.0

pub name_may : {names : Names} {pattern : Syntax} (name : BindingIdentifier) → seen_binding_identifier name ≡ pattern
    → IsLowerable names pattern → DeclaresFree names (names.declared name.at.id.0)
name_may {names} name is may = subst (IsLowerable names) (sym is) may
