-- Derivations of targets that take a value, of the patterns that they stand in, and of defaults.
use Rattle.std.proofs.Common.{◌≡◌, ℕ, ◌+◌, ◌*◌, ◌≤◌, ◌<◌, ◌^◌, Bool, true, false, List, [], ◌∷◌, length, Option, Some, None}
use Rattle.std.proofs.Common.{Result, Ok, Err, OnOk, IfOk, refl, sym, ap, ◌∙◌, subst, arith}
use Rattle.rl_base.specs.Diagnostics.{diagnostic_at}
use Rattle.rl_base.specs.declared.ids.SymbolId.{SymbolId}
use Rattle.rl_base.specs.declared.row.Row.{Row}
use Rattle.rl_base.specs.declared.row.Row.TheVariants as row
use Rattle.rl_base.specs.declared.span.Span.{Span}
use Rattle.rl_base.specs.declared.stop.Stop.{Stop}
use Rattle.rl_builder.specs.Builder.{State, recorded, with_temporary}
use Rattle.rl_builder.specs.Temporaries.{temporary, with_value}
use Rattle.rl_grammar.specs.Grammar.{fits}
use Rattle.rl_grammar.specs.declared.kind.Field.TheVariants as field
use Rattle.rl_grammar.specs.declared.kind.Kind.TheVariants as kind
use Rattle.rl_hir.specs.Pieces.{Piece, pattern_pieces}
use Rattle.rl_hir.specs.declared.instruction.InstructionKind.TheVariants as kinds
use Rattle.rl_hir.specs.declared.instruction.InstructionValue.{InstructionValue}
use Rattle.rl_hir.specs.declared.instruction.InstructionValue.TheVariants as values
use Rattle.rl_hir.specs.declared.instruction.NonLocalBinding.{NonLocalBinding}
use Rattle.rl_hir.specs.declared.instruction.Pattern.{Pattern}
use Rattle.rl_hir.specs.declared.instruction.Place.{Place}
use Rattle.rl_lower_expressions.proofs.CallDerivations.{named_behind}
use Rattle.rl_lower_expressions.specs.Members.{LowersMember, key_of}
use Rattle.rl_lower_expressions.specs.declared.member.LoweredMember.{LoweredMember}
use Rattle.rl_lower_parts.proofs.LeftParts.{left_counts, part_counts, taken_may}
use Rattle.rl_lower_parts.proofs.MovedDerivations.{moving_by, moving_named, moving_size}
use Rattle.rl_lower_parts.proofs.TargetTrees.{one_there}
use Rattle.rl_lower_parts.specs.Moving.{moving}
use Rattle.rl_lower_parts.specs.Patterns.{AreLowerableLeft, HasLeftRoom, HasTargetRoom, TakesDefault, all_left, seen_part}
use Rattle.rl_lower_parts.specs.declared.target_items.LeftTarget.{LeftTarget}
use Rattle.rl_lower_parts.specs.declared.target_items.TargetPart.{TargetPart}
use Rattle.rl_lowered.proofs.Names.{names_carried, names_same, names_temporary}
use Rattle.rl_lowered.proofs.Carried.{carried_default}
use Rattle.rl_lowered.proofs.ItemCarried.{ahead_carried, taken_carried}
use Rattle.rl_lowered.proofs.Sizes.{moved_size, target_size}
use Rattle.rl_lowered.proofs.TargetForms.{fits_whole}
use Rattle.rl_lowered.proofs.Told.{told_later, told_target}
use Rattle.rl_lowered.proofs.Names.{moved_names}
use Rattle.rl_lowered.specs.Forms.{DefaultName, DefaultTarget, IsDefaulted, is_whole_target, store_of}
use Rattle.rl_lowered.specs.Items.{IsTaking, Later, LoweredAhead, TakenItems, destructured, form_piece}
use Rattle.rl_lowered.specs.Lowered.{Lowered, LoweredLater, LoweredMoved, LoweredTarget, assigned_to}
use Rattle.rl_lowered.specs.Lowered as lowered
use Rattle.rl_lowered.specs.Named.{IsFound, IsNamed, found}
use Rattle.rl_lowered.specs.Promised.{HasRoom, LowersExpression, LowersLater, LowersTarget, nodes_left, share}
use Rattle.rl_names.specs.Names.{Names}
use Rattle.rl_names.specs.declared.names.Meaning.TheVariants.{Local, Outer}
use Rattle.rl_optional_frames.proofs.Sizes.{default_begun_size, default_size}
use Rattle.rl_optional_frames.specs.Frames.{DefaultParts, default_at, default_ended}
use Rattle.rl_optional_frames.specs.Parts.{default_begun}
use Rattle.rl_promises.proofs.CoveredForms.{none_fits}
use Rattle.rl_promises.specs.Lowerable.{IsLowerable, IsLowerableTo}
use Rattle.rl_promises.specs.Moved.{may_move}
use Rattle.rl_promises.specs.Outs.{is_lost_head}
use Rattle.rl_promises.specs.Rows.{refusal, row_of_head}
use Rattle.rl_runs.specs.Blocks.{size_of}
use Rattle.rl_syntax.specs.declared.numbered.At.{At}
use Rattle.rl_syntax.specs.declared.word.Word.{Word}
use Rattle.rl_syntax.specs.declared.word.Word.TheVariants as word
use Rattle.rl_syntax.specs.Syntax.{Syntax, Node, Listed, Said, Count, Flag, Absent, Pieces, End, Then, nodes, span_of}

-- Promises, from derivations.

target_moved : {names : Names} {at : Span} {value : Place} {e tree : Syntax} {s t new : State} {p place : Place} → e ≡ tree → new ≡ t
    → place ≡ p → LoweredTarget names at value e s t p → LowersTarget names at value tree s new place
target_moved {names} {at} {value} {e} {tree} {s} {t} {new} {p} {place} is moved placed l =
    told_target
    (subst (λ (n : Syntax). LoweredTarget names at value n s new place) is
    (subst (λ (o : State). LoweredTarget names at value e s o place) (sym moved)
    (subst (λ (q : Place). LoweredTarget names at value e s t q) (sym placed) l)))

-- Of a target by its view.
pub target_shown : {shown tree : Syntax} (names : Names) (at : Span) (value : Place) (s new : State) (r : Result Place Stop) → shown ≡ tree
    → IfOk r (λ place. LowersTarget names at value shown s new place) → IfOk r (λ place. LowersTarget names at value tree s new place)
target_shown names at value s new (Ok place) is l = subst (λ (n : Syntax). LowersTarget names at value n s new place) is l
target_shown names at value s new (Err e) is l = tt

-- A name.

pub target_variable_ok : {s mid : State} (names : Names) (at : Span) (value : Place) (there : At) (symbol : SymbolId) (identifier : ℕ)
    (store : InstructionValue) (new : State) (r : Result Place Stop) → mid ≡ found names s symbol there.span
    → IsFound names s symbol there.span identifier → names.is_const symbol.0 ≡ false → store ≡ assigned_to identifier at value
    → OnOk r (new ≡ with_value mid store (Some at)) → IfOk r (λ place. place ≡ temporary mid (Some at))
    → IfOk r (λ place. (name : List ℕ) → names.meaning there.reference.0 name ≡ Local symbol
    → LowersTarget names at value (Node there word.Id (Then (Said name) End)) s new place)
target_variable_ok {s} {mid} names at value there symbol identifier store new (Ok place) begun f mutable same moved placed = λ name is.
    target_moved refl
    (moved ∙ ap (λ (v : InstructionValue). with_value mid v (Some at)) same
    ∙ ap (λ (o : State). with_value o (assigned_to identifier at value) (Some at)) begun)
    (placed ∙ ap (λ (o : State). temporary o (Some at)) begun) (lowered.TargetVariable there name symbol identifier s is mutable f)
target_variable_ok names at value there symbol identifier store new (Err e) begun f mutable same moved placed = tt

pub target_constant : {at : Span} {value : Place} {s mid new : State} (names : Names) (there : At) (symbol : SymbolId) (identifier : ℕ)
    → mid ≡ found names s symbol there.span → IsFound names s symbol there.span identifier
    → names.is_const symbol.0 ≡ true → new ≡ recorded mid (diagnostic_at row.F6 (names.name symbol.0) there.span)
    → (name : List ℕ) → names.meaning there.reference.0 name ≡ Local symbol
    → LowersTarget names at value (Node there word.Id (Then (Said name) End)) s new value
target_constant {s = s} names there symbol identifier begun f constant moved = λ name is.
    target_moved refl (moved ∙ ap (λ (o : State). recorded o (diagnostic_at row.F6 (names.name symbol.0) there.span)) begun) refl
    (lowered.TargetConstant there name symbol identifier s is constant f)

pub target_local_ok : {symbol : SymbolId} (names : Names) (at : Span) (value : Place) (there : At) (name : List ℕ) (s new : State)
    (r : Result Place Stop) → names.meaning there.reference.0 name ≡ Local symbol
    → IfOk r (λ place. (name : List ℕ) → names.meaning there.reference.0 name ≡ Local symbol
    → LowersTarget names at value (Node there word.Id (Then (Said name) End)) s new place)
    → IfOk r (λ place. LowersTarget names at value (Node there word.Id (Then (Said name) End)) s new place)
target_local_ok names at value there name s new (Ok place) is l = l name is
target_local_ok names at value there name s new (Err e) is l = tt

pub target_global_ok : {copy : List ℕ} {binding : NonLocalBinding} (names : Names) (at : Span) (value : Place) (there : At)
    (name : List ℕ) (s new : State) (r : Result Place Stop) → names.meaning there.reference.0 name ≡ Outer binding → copy ≡ name
    → OnOk r (new ≡ with_value s (values.StoreGlobal copy value) (Some at)) → IfOk r (λ place. place ≡ temporary s (Some at))
    → IfOk r (λ place. LowersTarget names at value (Node there word.Id (Then (Said name) End)) s new place)
target_global_ok {binding = binding} names at value there name s new (Ok place) is same moved placed =
    target_moved refl (moved ∙ ap (λ (n : List ℕ). with_value s (values.StoreGlobal n value) (Some at)) same) placed
    (lowered.TargetGlobal there name binding s is)
target_global_ok names at value there name s new (Err e) is same moved placed = tt

-- A property.
pub target_member_ok : {names : Names} {tree : Syntax} {there : At} {w : Word} {fields : Pieces} {s u : State} (at : Span)
    (value : Place) (new : State) (m : LoweredMember) (r : Result Place Stop) → Node there w fields ≡ tree
    → LowersMember names w fields s u m
    → OnOk r (new ≡ with_value u (store_of m.object (key_of m.property) value) (Some at))
    → IfOk r (λ place. place ≡ temporary u (Some at))
    → IfOk r (λ place. LowersTarget names at value tree s new place)
target_member_ok {there = there} {w} {fields} {s} {u} at value new m (Ok place) is parts moved placed =
    target_moved is moved placed
    (lowered.TargetMember there w fields parts.parts parts.pieces m.object (key_of m.property) s u parts.member parts.by)
target_member_ok at value new m (Err e) is parts moved placed = tt

-- A target that is refused without its parts.
pub target_lost_ok : {tree : Syntax} {there : At} {w : Word} {fields : Pieces} (names : Names) (at : Span) (value : Place) (s new : State)
    (r : Result Place Stop) → Node there w fields ≡ tree → is_lost_head (Node there w fields) ≡ true
    → OnOk r (new ≡ recorded s (refusal (row_of_head w) there.span)) → IfOk r (λ place. place ≡ value)
    → IfOk r (λ place. LowersTarget names at value tree s new place)
target_lost_ok {there = there} {w} {fields} names at value s new (Ok place) is lost moved placed =
    target_moved is moved placed (lowered.TargetLost there w fields s lost)
target_lost_ok names at value s new (Err e) is lost moved placed = tt

-- A pattern.
pub target_pattern : {names : Names} {at : Span} {value place : Place} {w : Word} {of_object forced : Bool} {es : Pieces} {rest : Syntax}
    {pieces : List Piece} {later : List Later} {s t u behind v : State} (pattern : Pattern) (there : At)
    → IsTaking w of_object → LoweredAhead names es rest s t forced → TakenItems names of_object forced es rest t u pieces later
    → pattern_pieces pattern ≡ form_piece of_object ∷ pieces
    → behind ≡ with_value u (destructured kinds.Reassign pattern value) (Some at) → place ≡ temporary u (Some at)
    → LowersLater names later behind v
    → LowersTarget names at value (Node there w (Then (Listed es) (Then rest End))) s v place
target_pattern {names} {at} {value} {w = w} {of_object} {forced} {es} {rest} {pieces} {later} {s} {t} {u} {behind} {v} pattern there takes
    ahead taken are moved placed l =
    target_moved refl refl placed
    (lowered.TargetPattern there w of_object forced es rest pattern pieces later s t u v takes ahead taken are
    (subst (λ (o : State). LoweredLater names later o v) moved l.by))

-- A default.

moved_default : {names : Names} (at : At) (w : Word) (fields : Pieces) (s t : State) (p : Place) (b : Bool)
    → may_move names (Node at w fields) ≡ b → Lowered names (Node at w fields) (moving_by b w at.span s) t p
    → LoweredMoved names (Node at w fields) s t p
moved_default at w fields s t p true is l = lowered.Stays (Node at w fields) s t p is l
moved_default at w fields s t p false is l = lowered.Moved at w fields s t p is l

default_moved : {names : Names} (e : Syntax) {s b t : State} {p : Place} → fits (field.One kind.Expression) e ≡ true
    → b ≡ moving names s e → LowersExpression names e b t p → LoweredMoved names e s t p
default_moved {names} (Node at w fields) {s} {b} {t} {p} fit is l =
    moved_default at w fields s t p (may_move names (Node at w fields)) refl
    (subst (λ (o : State). Lowered names (Node at w fields) o t p) is l.by)
default_moved (Listed parts) fit is l = absurd (cc)
default_moved (Said text) fit is l = absurd (cc)
default_moved (Count number) fit is l = absurd (cc)
default_moved (Flag flag) fit is l = absurd (cc)
default_moved Absent fit is l = absurd (cc)

begun_named : {names : Names} (s b : State) (span : Span) → b ≡ default_begun s span → IsNamed names s → IsNamed names b
begun_named {names} s b span moved n =
    subst (IsNamed names) (sym moved)
    ((names_same (with_temporary s (Some span)) (default_begun s span) refl).named ((names_temporary s (Some span)).named n))

pub default_room : (names : Names) (e : Syntax) (s b noted : State) (at : Span) → b ≡ default_begun s at → noted ≡ moving names b e
    → HasRoom s (share (nodes e + 1)) → HasRoom noted (share (nodes e))
default_room names e s b noted at began met room =
    let begun : size_of b ≡ size_of (default_begun s at) = ap size_of began in
    let moved : size_of noted ≡ size_of (moving names b e) = ap size_of met in
    omega (arith, begun, moved, default_begun_size s at, moving_size names e b, room)

pub default_named : (names : Names) (e : Syntax) (s b noted : State) (at : Span) → b ≡ default_begun s at → noted ≡ moving names b e
    → IsNamed names s → IsNamed names noted
default_named names e s b noted at began met n = moving_named e b noted met (begun_named s b at began n)

pub takes_default : {names : Names} {at : Span} {e : Syntax} {value given place : Place} {s begun noted behind new : State}
    (f : DefaultParts) → fits (field.One kind.Expression) e ≡ true → IsNamed names s → begun ≡ default_begun s at
    → f ≡ default_at s at value → noted ≡ moving names begun e → LowersExpression names e noted behind given
    → new ≡ default_ended f behind given → place ≡ f.place → TakesDefault names at e value s new place
takes_default {names} {at} {e} {value} {given} {place} {s} {begun} {noted} {behind} {new} f fit n began opened met l closed closed_at =
    let ended : new ≡ default_ended (default_at s at value) behind given =
    closed ∙ ap (λ (d : DefaultParts). default_ended d behind given) opened in
    let placed : place ≡ temporary s (Some at) = closed_at ∙ ap (λ (d : DefaultParts). d.place) opened in
    let moved : LoweredMoved names e (default_begun s at) behind given =
    subst (λ (o : State). LoweredMoved names e o behind given) began (default_moved e fit met l) in
    let size : size_of (default_ended (default_at s at value) behind given) ≤ size_of s + (22 + share (nodes e)) =
    default_size s behind value given at (share (nodes e)) (moved_size moved) in
    let same : size_of new ≡ size_of (default_ended (default_at s at value) behind given) = ap size_of ended in
    record {
      behind = behind;
      given = given;
      by = moved;
      moved = ended;
      taken = placed;
      named = subst (IsNamed names) (sym ended)
          ((carried_default names_carried s behind given value at (moved_names moved)).named n);
      size = omega (arith, size, same);
    }

-- A target with a default.

target_defaulted : {names : Names} {at : Span} {value given place : Place} {there : At} {w : Word} {fields : Pieces}
    {target default : Syntax} {s t new : State} → IsDefaulted w fields target default
    → TakesDefault names there.span default value s t given
    → LowersTarget names there.span given target t new place → LowersTarget names at value (Node there w fields) s new place
target_defaulted {names} {value = value} {given = given} {place = place} {there} {w} {fields} {target} {default} {s} {new = new} is d l =
    let behind : State = default_ended (default_at s there.span value) d.behind d.given in
    told_target
    (lowered.TargetDefaulted there w fields target default s d.behind new d.given place is d.by
    (subst (λ (q : Place). LoweredTarget names there.span q target behind new place)
    d.taken
    (subst (λ (o : State). LoweredTarget names there.span given target o new place) d.moved l.by)))

pub target_defaulted_ok : {names : Names} {value given : Place} {tree : Syntax} {there : At} {w : Word} {fields : Pieces}
    {target default : Syntax} {s t : State} (at : Span) (new : State) (r : Result Place Stop) → Node there w fields ≡ tree
    → IsDefaulted w fields target default
    → TakesDefault names there.span default value s t given
    → IfOk r (λ place. LowersTarget names there.span given target t new place)
    → IfOk r (λ place. LowersTarget names at value tree s new place)
target_defaulted_ok {names} {value} {s = s} at new (Ok place) is defaulted d l =
    subst (λ (n : Syntax). LowersTarget names at value n s new place) is (target_defaulted defaulted d l)
target_defaulted_ok at new (Err e) is defaulted d l = tt

name_whole : (name : Syntax) → fits (field.One kind.IdentifierReference) name ≡ true → is_whole_target name ≡ true
name_whole (Node at word.Default parts) fit = absurd (none_fits parts fit)
name_whole (Node at word.Short parts) fit = absurd (none_fits parts fit)
name_whole (Node at word.Keyed parts) fit = absurd (none_fits parts fit)
name_whole (Node at word.Rest parts) fit = absurd (none_fits parts fit)
name_whole _ fit = refl

pub defaults_target : (target default : Syntax) → fits (field.One kind.AssignmentTarget) target ≡ true
    → IsDefaulted word.Default (Then target (Then default End)) target default
defaults_target target default fit = DefaultTarget (fits_whole target fit)

pub defaults_name : (name default : Syntax) → fits (field.One kind.IdentifierReference) name ≡ true
    → fits (field.One kind.Expression) default ≡ true → IsDefaulted word.Short (Then name (Then default End)) name default
defaults_name name default fit given = DefaultName (name_whole name fit) (one_there kind.Expression default given)

pub default_may : (names : Names) {w : Word} {fields : Pieces} {target default tree : Syntax} (there : At) → Node there w fields ≡ tree
    → IsDefaulted w fields target default → IsLowerableTo names tree → IsLowerable names default × IsLowerableTo names target
default_may names there is (DefaultTarget whole) may = subst (IsLowerableTo names) (sym is) may
default_may names there is (DefaultName whole given) may = subst (IsLowerableTo names) (sym is) may

pub default_before : {w : Word} {fields : Pieces} {target default tree : Syntax} (s : State) (there : At) → Node there w fields ≡ tree
    → IsDefaulted w fields target default → 1 ≤ nodes target → HasTargetRoom s tree → HasRoom s (share (nodes default + 1))
default_before s there is (DefaultTarget whole) counted room = omega (arith, ap nodes is, counted, room)
default_before s there is (DefaultName whole given) counted room = omega (arith, ap nodes is, counted, room)

pub default_behind : {names : Names} {w : Word} {fields : Pieces} {target default tree : Syntax} {value given : Place} {at : Span}
    (s t : State) (there : At) → Node there w fields ≡ tree → IsDefaulted w fields target default
    → TakesDefault names at default value s t given → HasTargetRoom s tree → HasTargetRoom t target
default_behind s t there is (DefaultTarget whole) d room = omega (arith, ap nodes is, d.size, room)
default_behind s t there is (DefaultName whole given) d room = omega (arith, ap nodes is, d.size, room)

-- Parts of a target that is lowerable, and its room.

pub as_member : (names : Names) {tree : Syntax} {at : At} {parts : Pieces} → Node at word.Member parts ≡ tree → IsLowerableTo names tree
    → IsLowerable names tree
as_member names is may = subst (IsLowerable names) is (subst (IsLowerableTo names) (sym is) may)

pub as_index : (names : Names) {tree : Syntax} {at : At} {parts : Pieces} → Node at word.Index parts ≡ tree → IsLowerableTo names tree
    → IsLowerable names tree
as_index names is may = subst (IsLowerable names) is (subst (IsLowerableTo names) (sym is) may)

pub name_room : (s : State) {tree : Syntax} {at : At} {w : Word} {fields : Pieces} → Node at w fields ≡ tree → HasTargetRoom s tree
    → HasRoom s 6
name_room s is room = omega (arith, ap nodes is, room)

-- A pattern.

-- Ids of a node. The promises of a pattern hold for any.
abbrev pub somewhere : At
somewhere = record {
  id = record { 0 = 0 };
  end = record { 0 = 0 };
  scope = record { 0 = 0 };
  reference = record { 0 = 0 };
  span = record { start = 0; end = 0 };
}

pub array_may : (names : Names) {tree rest : Syntax} {at : At} {items : Pieces}
    → Node at word.Arraytarget (Then (Listed items) (Then rest End)) ≡ tree → IsLowerableTo names tree
    → (there : At) → IsLowerableTo names (Node there word.Arraytarget (Then (Listed items) (Then rest End)))
array_may names is may = λ there. subst (IsLowerableTo names) (sym is) may

pub object_may : (names : Names) {tree rest : Syntax} {at : At} {items : Pieces}
    → Node at word.Objecttarget (Then (Listed items) (Then rest End)) ≡ tree → IsLowerableTo names tree
    → (there : At) → IsLowerableTo names (Node there word.Objecttarget (Then (Listed items) (Then rest End)))
object_may names is may = λ there. subst (IsLowerableTo names) (sym is) may

pub apart_room_at : (s : State) {tree : Syntax} {at : At} {w : Word} {parts : Pieces} → Node at w parts ≡ tree → HasTargetRoom s tree
    → (there : At) → HasTargetRoom s (Node there w parts)
apart_room_at s is room = λ there. omega (arith, ap nodes is, room)

pub target_apart_ok : {tree : Syntax} {there : At} {w : Word} {fields : Pieces} (names : Names) (at : Span) (value : Place)
    (s new : State) (r : Result Place Stop) → Node there w fields ≡ tree
    → IfOk r (λ place. (there : At) → LowersTarget names at value (Node there w fields) s new place)
    → IfOk r (λ place. LowersTarget names at value tree s new place)
target_apart_ok {there = there} names at value s new (Ok place) is l =
    subst (λ (n : Syntax). LowersTarget names at value n s new place) is (l there)
target_apart_ok names at value s new (Err e) is l = tt

pub ahead_named : {names : Names} {es : Pieces} {rest : Syntax} {s t : State} {forced : Bool} → LoweredAhead names es rest s t forced
    → IsNamed names s → IsNamed names t
ahead_named l n = (ahead_carried names_carried l).named n

pub apart_named : {names : Names} {of_object forced : Bool} {es : Pieces} {rest : Syntax} {s t u : State} {pieces : List Piece}
    {later : List Later} (pattern : Pattern) (value : Place) (at : Span) (v : State) → LoweredAhead names es rest s t forced
    → TakenItems names of_object forced es rest t u pieces later
    → v ≡ with_value u (destructured kinds.Reassign pattern value) (Some at) → IsNamed names s → IsNamed names v
apart_named {names} {t = t} {u} pattern value at v ahead taken moved n =
    named_behind u v (destructured kinds.Reassign pattern value) (Some at) moved
    ((taken_carried names_carried taken).named (ahead_named ahead n))

-- Items were taken, of which these are the parts that were left.
pub taken_as : {names : Names} {of_object forced : Bool} {es : Pieces} {rest : Syntax} {t u : State} {pieces : List Piece}
    {left parts : List LeftTarget} → parts ≡ left → TakenItems names of_object forced es rest t u pieces (all_left left)
    → TakenItems names of_object forced es rest t u pieces (all_left parts)
taken_as {names} {of_object} {forced} {es} {rest} {t} {u} {pieces} same taken =
    subst (λ (l : List LeftTarget). TakenItems names of_object forced es rest t u pieces (all_left l)) (sym same) taken

-- Parts that were left.

pub left_ok : {at : Span} {shown : Syntax} {p q : TargetPart} (names : Names) (value : Place) (s new : State) (r : Result Place Stop)
    → p ≡ q → shown ≡ seen_part q → at ≡ span_of (seen_part p) → IfOk r (λ place. LowersTarget names at value shown s new place)
    → IfOk r (λ place. LowersTarget names (span_of (seen_part p)) value (seen_part p) s new place)
left_ok {at} {p = p} names value s new (Ok place) is seen spans l =
    subst (λ (a : Span). LowersTarget names a value (seen_part p) s new place) spans
    (subst (λ (n : Syntax). LowersTarget names at value n s new place) (seen ∙ sym (ap seen_part is)) l)
left_ok names value s new (Err e) is seen spans l = tt

pub left_may : (names : Names) {p q : TargetPart} → p ≡ q → IsLowerableTo names (seen_part p) → IsLowerableTo names (seen_part q)
left_may names is may = subst (λ (t : TargetPart). IsLowerableTo names (seen_part t)) is may

pub left_room_at : (s : State) {p q : TargetPart} → p ≡ q → HasTargetRoom s (seen_part p) → HasTargetRoom s (seen_part q)
left_room_at s is room = subst (λ (t : TargetPart). HasTargetRoom s (seen_part t)) is room

pub first_room : {left rest : List LeftTarget} {first : LeftTarget} (s : State) → left ≡ first ∷ rest → HasLeftRoom s (all_left left)
    → HasTargetRoom s (seen_part first.part)
first_room {left} {rest} {first} s split room =
    let all : HasLeftRoom s (all_left (first ∷ rest)) = subst (λ (l : List LeftTarget). HasLeftRoom s (all_left l)) split room in
    omega (arith, all, left_counts rest)

pub first_may : (names : Names) {left rest : List LeftTarget} {first : LeftTarget} → left ≡ first ∷ rest
    → AreLowerableLeft names (all_left left) → IsLowerableTo names (seen_part first.part)
first_may names split may = (subst (λ (l : List LeftTarget). AreLowerableLeft names (all_left l)) split may).0

-- The parts that are left behind one may be lowered, and with them all are.
pub record AreLeft (names : Names) (all left : List LeftTarget) (old now : State) : Type 0 where
  pub names_now : IsNamed names now
  pub may : AreLowerableLeft names (all_left left)
  pub room : HasLeftRoom now (all_left left)
  pub fewer : nodes_left (all_left left) ≤ nodes_left (all_left all)
  pub gives : (new : State) → LoweredLater names (all_left left) now new → LoweredLater names (all_left all) old new

pub next_left : {names : Names} {all left rest : List LeftTarget} {first : LeftTarget} {old now : State} {place : Place} (behind : State)
    → left ≡ first ∷ rest
    → LowersTarget names (span_of (seen_part first.part)) first.value (seen_part first.part) now behind place
    → AreLeft names all left old now → AreLeft names all rest old behind
next_left {names} {all} {left} {rest} {first} {old} {now} {place} behind split l are =
    let row : AreLeft names all (first ∷ rest) old now = subst (λ (m : List LeftTarget). AreLeft names all m old now) split are in
    record {
      names_now = l.named row.names_now;
      may = row.may.1;
      room = omega (arith, row.room, target_size l.by);
      fewer = omega (arith, row.fewer);
      gives = λ new more.
          row.gives new
          (lowered.NextLater first.value (seen_part first.part) (all_left rest) now behind new place l.by more);
    }

pub all_lowered : {names : Names} {left : List LeftTarget} {old now : State} (all : List LeftTarget) → left ≡ []
    → ((new : State) → LoweredLater names (all_left left) now new → LoweredLater names (all_left all) old new)
    → LowersLater names (all_left all) old now
all_lowered {names} {left} {old} {now} all done gives =
    told_later (gives now (subst (λ (m : List LeftTarget). LoweredLater names (all_left m) now now) (sym done) (lowered.NoLater now)))
