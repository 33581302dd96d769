-- Covered trees without a stop: the lowering goes through them.
use Rattle.std.proofs.Common.{◌≡◌, ℕ, Bool, true, false, true≢false, not, if◌then◌else◌, Option, Some, None, List, [], ◌∷◌, codes, ap, sym, refl, ◌∙◌}
use Rattle.std.specs.Option.{option_or}
use Rattle.std.specs.Str.{bytes_eq}
use Rattle.rl_base.specs.Reserved.{is_reserved}
use Rattle.rl_base.specs.Diagnostics.{diagnostic_at}
use Rattle.rl_base.specs.declared.diagnostic.Diagnostic.{Diagnostic}
use Rattle.rl_base.specs.declared.ids.SymbolId.{SymbolId}
use Rattle.rl_base.specs.declared.row.Row.TheVariants as row
use Rattle.rl_base.specs.declared.span.Span.{Span}
use Rattle.rl_model.specs.Actions.{Label}
use Rattle.rl_context.specs.Sites.{sites_in}
use Rattle.rl_context.specs.Wrapped as wrapped
use Rattle.rl_model.specs.Shapes.{are_raw, is_absent, is_logical, is_plain_rest}
use Rattle.rl_names.specs.Functions.{body_in, params_in}
use Rattle.rl_names.specs.Names.{Names, local_of}
use Rattle.rl_promises.proofs.LoopHeads.{plain_in_front}
use Rattle.rl_promises.specs.Chains.{AreChained, Below, HasChains, IsChained, IsChainedAt, Off, Spine, Top}
use Rattle.rl_promises.specs.Conditions.{is_plain_head}
use Rattle.rl_promises.specs.Covered.{AreCovered, IsCovered, IsCoveredFunction}
use Rattle.rl_promises.proofs.CoveredWorlds.{body_covered, params_covered}
use Rattle.rl_promises.proofs.Unwrapped.{AreUnwrapped, IsUnwrapped, body_unwrapped, params_unwrapped}
use Rattle.rl_promises.specs.Jumps.{Around, InLoop, InSwitch, own_label, within_label}
use Rattle.rl_promises.specs.Locals.{DeclareIn, DeclaresIn, DeclaresVariable, HasLocals}
use Rattle.rl_promises.specs.Lowerable.{AreFreeAhead, AreLowerable, AreLowerableCases, AreLowerableIn, AreLowerableTo, DeclaresFree, IsFree}
use Rattle.rl_promises.specs.Lowerable.{IsFreeAhead, IsLowerable, IsLowerableAt, IsLowerableBody, IsLowerableCase, IsLowerableHead}
use Rattle.rl_promises.specs.Lowerable.{IsLowerableIn, IsLowerableTo, Where}
use Rattle.rl_promises.specs.Outs.{is_known_key, is_lost_delete, is_lost_head, is_wrapped}
use Rattle.rl_promises.specs.Patterns.{is_ahead, is_lost_item, is_pattern, local_at, stop_of_caught, target_under}
use Rattle.rl_promises.specs.Stops.{first_among, first_in_round, first_stop, stop_ahead, stop_among, stop_at_head, stop_in, stop_in_body}
use Rattle.rl_promises.specs.Stops.{stop_in_case, stop_in_cases, stop_of, stop_of_local, stop_to, stop_to_all}
use Rattle.rl_semantic.specs.Items.{of_item}
use Rattle.rl_syntax.specs.Syntax.{Syntax, Node, Listed, Said, Count, Flag, Absent, Pieces, End, Then, span_of}
use Rattle.rl_syntax.specs.declared.numbered.At.{At}
use Rattle.rl_syntax.specs.declared.word.Word.{Word}
use Rattle.rl_syntax.specs.declared.word.Word.TheVariants as word

-- Of two searches that find nothing, neither does.
pub none_both : {X : Type 0} (a b : Option X) → option_or a b ≡ None → (a ≡ None) × (b ≡ None)
none_both None b none = (refl, none)
none_both (Some x) b none = absurd (cc)

not_found : {X : Type 0} (test : Bool) (x : X) → (if test then Some x else None) ≡ None → test ≡ false
not_found true x none = absurd (cc)
not_found false x none = refl

-- A local variable without a stop has a name that is not reserved.
free_local : (names : Names) (local : Option SymbolId) (label : Span) → stop_of_local names local label ≡ None → IsFree names local
free_local names None label none = tt
free_local names (Some symbol) label none =
    not_found (is_reserved (names.name symbol.0)) (diagnostic_at row.S1 (names.name symbol.0) label) none

free_declared : (names : Names) (bind : ℕ) (label : Span) → DeclaresVariable names bind
    → stop_of_local names (names.declared bind) label ≡ None → DeclaresFree names (names.declared bind)
free_declared names bind label d none = record {
  symbol = d.symbol;
  is = d.is;
  variable = d.variable;
  free =
      not_found (is_reserved (names.name d.symbol.0)) (diagnostic_at row.S1 (names.name d.symbol.0) label)
      (ap (λ o. stop_of_local names o label) (sym d.is) ∙ none);
}

-- A part that is lowered where a test holds, or where it does not.
where_test : (test : Bool) (stop : Option Diagnostic) (A : Type 0) → (if test then stop else None) ≡ None → (stop ≡ None → A) → Where test A
where_test true stop A none holds = holds none
where_test false stop A none holds = tt

not_held : (test : Bool) → not test ≡ true → test ≡ false
not_held true is = sym is
not_held false is = refl

where_not : (test : Bool) (stop : Option Diagnostic) (A : Type 0) → (if test then None else stop) ≡ None → (stop ≡ None → A)
    → Where (not test) A
where_not true stop A none holds = tt
where_not false stop A none holds = holds none

-- The target and the value of an assignment, by its operator, which is `=`, a logical one, or another, and by whether the target is a
-- pattern.
where_assigned : (plain logical apart : Bool) (target right to : Option Diagnostic) (A B : Type 0)
    → (if plain then option_or right (if apart then to else target)
    else if logical then None else if apart then None else option_or target right) ≡ None
    → (target ≡ None → right ≡ None → A) → (to ≡ None → right ≡ None → B)
    → Where (not apart) (Where (not logical) A) × Where apart (Where plain B)
where_assigned true logical true target right to A B none holds takes =
    let both = none_both right to none in (tt, takes both.1 both.0)
where_assigned true true false target right to A B none holds takes = (tt, tt)
where_assigned true false false target right to A B none holds takes =
    let both = none_both right target none in (holds both.1 both.0, tt)
where_assigned false logical true target right to A B none holds takes = (tt, tt)
where_assigned false true false target right to A B none holds takes = (tt, tt)
where_assigned false false false target right to A B none holds takes =
    let both = none_both target right none in (holds both.0 both.1, tt)

-- Of a pattern's items that have no stop in either round, none has one.

both_rounds : (test : Bool) (stop ahead behind among : Option Diagnostic) → (ahead ≡ None → behind ≡ None → among ≡ None)
    → option_or (if test then stop else None) ahead ≡ None → option_or (if not test then stop else None) behind ≡ None
    → option_or stop among ≡ None
both_rounds true stop ahead behind among later one two =
    let first = none_both stop ahead one in ap (λ o. option_or o among) first.0 ∙ later first.1 two
both_rounds false stop ahead behind among later one two =
    let second = none_both stop behind two in ap (λ o. option_or o among) second.0 ∙ later one second.1

no_rounds : (names : Names) (items : Pieces) → first_in_round names true items ≡ None → first_in_round names false items ≡ None
    → first_among names items ≡ None
no_rounds names End ahead behind = refl
no_rounds names (Then item items) ahead behind =
    both_rounds (is_ahead item) (first_stop names item) (first_in_round names true items) (first_in_round names false items)
    (first_among names items) (no_rounds names items) ahead behind

-- A tree that is lowered before others or behind them has no stop, if neither time it has one.
either_time : (test : Bool) (stop : Option Diagnostic) → (if test then stop else None) ≡ None → (if test then None else stop) ≡ None
    → stop ≡ None
either_time true stop ahead behind = ahead
either_time false stop ahead behind = behind

-- The parts of an array pattern, and of an object pattern, without a stop.

array_parts : (names : Names) (listed : Pieces) (last : Syntax)
    → option_or (first_in_round names true listed)
    (option_or (if is_ahead last then first_stop names last else None)
    (option_or (first_in_round names false listed) (if is_ahead last then None else first_stop names last))) ≡ None
    → (first_among names listed ≡ None) × (first_stop names last ≡ None)
array_parts names listed last none =
    let late : Option Diagnostic = if is_ahead last then None else first_stop names last in
    let early : Option Diagnostic = if is_ahead last then first_stop names last else None in
    let first = none_both (first_in_round names true listed) (option_or early (option_or (first_in_round names false listed) late)) none in
    let second = none_both early (option_or (first_in_round names false listed) late) first.1 in
    let third = none_both (first_in_round names false listed) late second.1 in
    (no_rounds names listed first.0 third.0, either_time (is_ahead last) (first_stop names last) second.0 third.1)

object_parts : (names : Names) (listed : Pieces) (last : Syntax)
    → option_or (first_in_round names true listed)
    (option_or (if is_plain_rest last then first_stop names last else None) (first_in_round names false listed)) ≡ None
    → (first_among names listed ≡ None) × ((if is_plain_rest last then first_stop names last else None) ≡ None)
object_parts names listed last none =
    let early : Option Diagnostic = if is_plain_rest last then first_stop names last else None in
    let first = none_both (first_in_round names true listed) (option_or early (first_in_round names false listed)) none in
    let second = none_both early (first_in_round names false listed) first.1 in (no_rounds names listed first.0 second.1, second.0)

-- The names of a target that are looked at first are not reserved, where there is no stop at them.

free_ahead : (names : Names) (local : Option SymbolId) (label : Span) (behind : Option Diagnostic) (A : Type 0)
    → of_item None (λ (symbol : SymbolId). option_or (stop_of_local names (Some symbol) label) behind) local ≡ None
    → (behind ≡ None → A) → IsFreeAhead names local A
free_ahead names None label behind A none holds = tt
free_ahead names (Some symbol) label behind A none holds =
    let both = none_both (stop_of_local names (Some symbol) label) behind none in
    (not_found (is_reserved (names.name symbol.0)) (diagnostic_at row.S1 (names.name symbol.0) label) both.0, holds both.1)

all_free_ahead : (names : Names) (items : Pieces) → stop_ahead names items ≡ None → AreFreeAhead names items
all_free_ahead names End none = tt
all_free_ahead names (Then item items) none =
    free_ahead names (local_at names (target_under item)) (span_of (target_under item)) (stop_ahead names items) (AreFreeAhead names items)
    none (all_free_ahead names items)

-- True of chains, their links, and `!`: the nodes that are on a spine, or have one.
abbrev is_spine : Word → Bool
is_spine word.Chain = true
is_spine word.Member = true
is_spine word.Index = true
is_spine word.Privatemember = true
is_spine word.Call = true
is_spine word.Nonnull = true
is_spine _ = false

-- The parts of a node that is no part of a chain stand off the spine.
chained_parts : (place : Spine) (at : At) (w : Word) (parts : Pieces) → is_spine w ≡ false → IsChainedAt place (Node at w parts)
    → AreChained parts
chained_parts place at word.Chain parts other chained = absurd (true≢false other)
chained_parts place at word.Member parts other chained = absurd (true≢false other)
chained_parts place at word.Index parts other chained = absurd (true≢false other)
chained_parts place at word.Privatemember parts other chained = absurd (true≢false other)
chained_parts place at word.Call parts other chained = absurd (true≢false other)
chained_parts place at word.Nonnull parts other chained = absurd (true≢false other)
chained_parts Off at w parts other chained = chained
chained_parts Top at w parts other chained = chained
chained_parts Below at w parts other chained = chained

-- Nodes whose parts are lowered in another order are lowerable anywhere, if their parts are.

conditional_at : (names : Names) (place : Spine) (at : At) (parts : Pieces) → AreLowerable names parts
    → IsLowerableAt names place (Node at word.Cond parts)
conditional_at names Off at parts are = (refl, are)
conditional_at names Top at parts are = (refl, are)
conditional_at names Below at parts are = (refl, are)

logical_at : (names : Names) (place : Spine) (at : At) (parts : Pieces) → AreLowerable names parts
    → IsLowerableAt names place (Node at word.Logical parts)
logical_at names Off at parts are = (refl, are)
logical_at names Top at parts are = (refl, are)
logical_at names Below at parts are = (refl, are)

declarator_at : (names : Names) (place : Spine) (at : At) (parts : Pieces) → AreLowerable names parts
    → IsLowerableAt names place (Node at word.Declarator parts)
declarator_at names Off at parts are = (refl, are)
declarator_at names Top at parts are = (refl, are)
declarator_at names Below at parts are = (refl, are)

param_at : (names : Names) (place : Spine) (at : At) (parts : Pieces) → AreLowerable names parts
    → IsLowerableAt names place (Node at word.Param parts)
param_at names Off at parts are = (refl, are)
param_at names Top at parts are = (refl, are)
param_at names Below at parts are = (refl, are)

defaultpat_at : (names : Names) (place : Spine) (at : At) (parts : Pieces) → AreLowerable names parts
    → IsLowerableAt names place (Node at word.Defaultpat parts)
defaultpat_at names Off at parts are = (refl, are)
defaultpat_at names Top at parts are = (refl, are)
defaultpat_at names Below at parts are = (refl, are)

arraypat_at : (names : Names) (place : Spine) (at : At) (parts : Pieces) → AreLowerable names parts
    → IsLowerableAt names place (Node at word.Arraypat parts)
arraypat_at names Off at parts are = (refl, are)
arraypat_at names Top at parts are = (refl, are)
arraypat_at names Below at parts are = (refl, are)

-- The parts of a link on the spine: its flag, its object or callee below it, and those behind.
abbrev AreLinked : Names → (optional object : Syntax) → (rest : Pieces) → Type 0
AreLinked names optional object rest = IsLowerableAt names Off optional × IsLowerableAt names Below object × AreLowerable names rest

linked : (names : Names) (optional object : Syntax) (rest : Pieces) → first_among names (Then optional (Then object rest)) ≡ None
    → (first_stop names optional ≡ None → IsLowerableAt names Off optional)
    → (first_stop names object ≡ None → IsLowerableAt names Below object)
    → (first_among names rest ≡ None → AreLowerable names rest) → AreLinked names optional object rest
linked names optional object rest none flag front more =
    let first = none_both (first_stop names optional) (option_or (first_stop names object) (first_among names rest)) none in
    let others = none_both (first_stop names object) (first_among names rest) first.1 in (flag first.0, front others.0, more others.1)

mutual
  -- A covered tree without a stop whose declarations are of variables, and whose links are where they may be, is lowerable.
  pub lowerable_at : (names : Names) (place : Spine) (t : Syntax) → IsCovered t → IsUnwrapped t → IsChainedAt place t → DeclaresIn names t
      → first_stop names t ≡ None → IsLowerableAt names place t
  lowerable_at names place (Node at word.Id (Then (Said name) End)) covered unwrapped chained declares none =
      free_local names (local_of (names.meaning at.reference.0 name)) at.span none
  lowerable_at names place (Node at word.Bind (Then (Said name) type)) covered unwrapped chained declares none =
      free_declared names at.id.0 at.span declares.0 none
  lowerable_at names Off (Node at word.Bind parts) covered unwrapped chained declares none =
      (covered.0, all_lowerable names parts covered.1 unwrapped.1 chained declares.1 none)
  lowerable_at names Top (Node at word.Bind parts) covered unwrapped chained declares none =
      (covered.0, all_lowerable names parts covered.1 unwrapped.1 chained declares.1 none)
  lowerable_at names Below (Node at word.Bind parts) covered unwrapped chained declares none =
      (covered.0, all_lowerable names parts covered.1 unwrapped.1 chained declares.1 none)
  lowerable_at names place (Node at word.Cond (Then condition (Then consequent (Then alternate End)))) covered unwrapped chained declares
      none =
      let parts : Pieces = Then condition (Then consequent (Then alternate End)) in
      let inside = chained_parts place at word.Cond parts refl chained in
      let first = none_both (first_stop names consequent) (option_or (first_stop names alternate) (first_stop names condition)) none in
      let others = none_both (first_stop names alternate) (first_stop names condition) first.1 in
      conditional_at names place at parts (
        lowerable_at names Off condition covered.1.0 unwrapped.1.0 inside.0 declares.0 others.1,
        (
          lowerable_at names Off consequent covered.1.1.0 unwrapped.1.1.0 inside.1.0 declares.1.0 first.0,
          (lowerable_at names Off alternate covered.1.1.1.0 unwrapped.1.1.1.0 inside.1.1.0 declares.1.1.0 others.0, tt),
        ),
      )
  lowerable_at names place (Node at word.Logical (Then (Said operator) (Then left (Then right End)))) covered unwrapped chained declares
      none =
      let parts : Pieces = Then (Said operator) (Then left (Then right End)) in
      let inside = chained_parts place at word.Logical parts refl chained in
      let both = none_both (first_stop names right) (first_stop names left) none in
      logical_at names place at parts (
        tt,
        (
          lowerable_at names Off left covered.1.1.0 unwrapped.1.1.0 inside.1.0 declares.1.0 both.1,
          (lowerable_at names Off right covered.1.1.1.0 unwrapped.1.1.1.0 inside.1.1.0 declares.1.1.0 both.0, tt),
        ),
      )
  lowerable_at names place (Node at word.Declarator (Then pattern (Then init End))) covered unwrapped chained declares none =
      let parts : Pieces = Then pattern (Then init End) in
      let inside = chained_parts place at word.Declarator parts refl chained in
      let both = none_both (first_stop names init) (first_stop names pattern) none in
      declarator_at names place at parts (
        lowerable_at names Off pattern covered.1.0 unwrapped.1.0 inside.0 declares.0 both.1,
        (lowerable_at names Off init covered.1.1.0 unwrapped.1.1.0 inside.1.0 declares.1.0 both.0, tt),
      )
  lowerable_at names place (Node at word.Param (Then pattern (Then default End))) covered unwrapped chained declares none =
      let parts : Pieces = Then pattern (Then default End) in
      let inside = chained_parts place at word.Param parts refl chained in
      let both = none_both (first_stop names default) (first_stop names pattern) none in
      param_at names place at parts (
        lowerable_at names Off pattern covered.1.0 unwrapped.1.0 inside.0 declares.0 both.1,
        (lowerable_at names Off default covered.1.1.0 unwrapped.1.1.0 inside.1.0 declares.1.0 both.0, tt),
      )
  lowerable_at names place (Node at word.Defaultpat (Then pattern (Then default End))) covered unwrapped chained declares none =
      let parts : Pieces = Then pattern (Then default End) in
      let inside = chained_parts place at word.Defaultpat parts refl chained in
      let both = none_both (first_stop names default) (first_stop names pattern) none in
      defaultpat_at names place at parts (
        lowerable_at names Off pattern covered.1.0 unwrapped.1.0 inside.0 declares.0 both.1,
        (lowerable_at names Off default covered.1.1.0 unwrapped.1.1.0 inside.1.0 declares.1.0 both.0, tt),
      )
  lowerable_at names place (Node at word.Keyedpat (Then computed (Then key (Then pattern End)))) covered unwrapped chained declares none =
      let parts : Pieces = Then computed (Then key (Then pattern End)) in
      let inside = chained_parts place at word.Keyedpat parts refl chained in
      where_not (is_lost_item (Node at word.Keyedpat parts)) (first_stop names pattern) (IsLowerable names pattern) none
      (λ n. lowerable_at names Off pattern covered.1.1.1.0 unwrapped.1.1.1.0 inside.1.1.0 declares.1.1.0 n)
  lowerable_at names place (Node at word.Arraypat (Then (Listed items) (Then rest End))) covered unwrapped chained declares none =
      let parts : Pieces = Then (Listed items) (Then rest End) in
      let inside = chained_parts place at word.Arraypat parts refl chained in
      let both = array_parts names items rest none in
      arraypat_at names place at parts (
        all_lowerable names items covered.1.0 unwrapped.1.0 inside.0 declares.0 both.0,
        (lowerable_at names Off rest covered.1.1.0 unwrapped.1.1.0 inside.1.0 declares.1.0 both.1, tt),
      )
  lowerable_at names place (Node at word.Objectpat (Then (Listed properties) (Then rest End))) covered unwrapped chained declares none =
      let inside = chained_parts place at word.Objectpat (Then (Listed properties) (Then rest End)) refl chained in
      let both = object_parts names properties rest none in (
        all_lowerable names properties covered.1.0 unwrapped.1.0 inside.0 declares.0 both.0,
        where_test (is_plain_rest rest) (first_stop names rest) (IsLowerable names rest) both.1
            (λ n. lowerable_at names Off rest covered.1.1.0 unwrapped.1.1.0 inside.1.0 declares.1.0 n),
      )
  lowerable_at names place (Node at word.Type parts) covered unwrapped chained declares none = tt
  lowerable_at names place (Node at word.Instantiate (Then expression types)) covered unwrapped chained declares none =
      let inside = chained_parts place at word.Instantiate (Then expression types) refl chained in
      lowerable_at names Off expression covered.1.0 unwrapped.1.0 inside.0 declares.0 none
  lowerable_at names place (Node at word.Yield parts) covered unwrapped chained declares none = tt
  lowerable_at names place (Node at word.Unary (Then (Said operator) (Then argument End))) covered unwrapped chained declares none =
      let inside = chained_parts place at word.Unary (Then (Said operator) (Then argument End)) refl chained in
      where_not (is_lost_delete operator argument) (first_stop names argument) (IsLowerable names argument) none
      (λ n. lowerable_at names Off argument covered.1.1.0 unwrapped.1.1.0 inside.1.0 declares.1.0 n)
  lowerable_at names place (Node at word.Update (Then operator (Then prefix (Then target End)))) covered unwrapped chained declares none =
      let inside = chained_parts place at word.Update (Then operator (Then prefix (Then target End))) refl chained in
      let plain : is_pattern target ≡ false = not_held (is_pattern target) covered.0 in (
        plain,
        where_not (is_wrapped target) (first_stop names target) (IsLowerable names target) none
            (λ n. lowerable_at names Off target covered.1.1.1.0 unwrapped.1.1.1.0 inside.1.1.0 declares.1.1.0 n),
      )
  lowerable_at names place (Node at word.Assign (Then (Said operator) (Then target (Then right End)))) covered unwrapped chained declares
      none =
      let inside = chained_parts place at word.Assign (Then (Said operator) (Then target (Then right End))) refl chained in
      let parts = where_assigned (bytes_eq operator (codes "=")) (is_logical operator) (is_pattern target) (first_stop names target)
      (first_stop names right) (stop_to names target) (IsLowerable names target × IsLowerable names right)
      (IsLowerableTo names target × IsLowerable names right) none
      (λ t r. (
        lowerable_at names Off target covered.1.1.0 unwrapped.1.1.0 inside.1.0 declares.1.0 t,
        lowerable_at names Off right covered.1.1.1.0 unwrapped.1.1.1.0 inside.1.1.0 declares.1.1.0 r,
      ))
      (λ t r. (
        lowerable_to names target covered.1.1.0 unwrapped.1.1.0 inside.1.0 declares.1.0 t,
        lowerable_at names Off right covered.1.1.1.0 unwrapped.1.1.1.0 inside.1.1.0 declares.1.1.0 r,
      )) in (unwrapped.0, parts.0, parts.1)
  lowerable_at names place
      (Node at word.Tagged (Then tag (Then (Node there word.Template (Then (Listed quasis) (Then (Listed expressions) End))) End)))
      covered unwrapped chained declares none =
      let inside = chained_parts place at word.Tagged
      (Then tag (Then (Node there word.Template (Then (Listed quasis) (Then (Listed expressions) End))) End)) refl chained in
      where_test (are_raw quasis) (option_or (first_stop names tag) (first_among names expressions))
      (IsLowerable names tag × AreLowerable names expressions) none
      (λ n. let both = none_both (first_stop names tag) (first_among names expressions) n in (
        lowerable_at names Off tag covered.1.0 unwrapped.1.0 inside.0 declares.0 both.0,
        all_lowerable names expressions covered.1.1.0.1.1.0 unwrapped.1.1.0.1.1.0 inside.1.0.1.0 declares.1.0.1.0 both.1,
      ))
  lowerable_at names place (Node at word.Prop (Then (Flag computed) (Then key (Then expression End)))) covered unwrapped chained declares
      none =
      let inside = chained_parts place at word.Prop (Then (Flag computed) (Then key (Then expression End))) refl chained in
      where_test (is_known_key computed key) (option_or (first_stop names key) (first_stop names expression))
      (IsLowerable names key × IsLowerable names expression) none
      (λ n. let both = none_both (first_stop names key) (first_stop names expression) n in (
        lowerable_at names Off key covered.1.1.0 unwrapped.1.1.0 inside.1.0 declares.1.0 both.0,
        lowerable_at names Off expression covered.1.1.1.0 unwrapped.1.1.1.0 inside.1.1.0 declares.1.1.0 both.1,
      ))
  lowerable_at names place (Node at word.Chain (Then expression rest)) covered unwrapped chained declares none = (
    chained.0,
    lowerable_at names Top expression covered.1.0 unwrapped.1.0 chained.1 declares.0
        (none_both (first_stop names expression) (first_among names rest) none).0,
  )
  lowerable_at names Off (Node at word.Member parts) covered unwrapped chained declares none =
      (chained.0, all_lowerable names parts covered.1 unwrapped.1 chained.1 declares none)
  lowerable_at names Off (Node at word.Index parts) covered unwrapped chained declares none =
      (chained.0, all_lowerable names parts covered.1 unwrapped.1 chained.1 declares none)
  lowerable_at names Off (Node at word.Privatemember parts) covered unwrapped chained declares none =
      (chained.0, all_lowerable names parts covered.1 unwrapped.1 chained.1 declares none)
  lowerable_at names Off (Node at word.Call parts) covered unwrapped chained declares none =
      (chained.0, all_lowerable names parts covered.1 unwrapped.1 chained.1 declares none)
  lowerable_at names Off (Node at w parts) covered unwrapped chained declares none =
      (covered.0, all_lowerable names parts covered.1 unwrapped.1 chained declares none)
  lowerable_at names Top (Node at word.Member (Then optional (Then object rest))) covered unwrapped chained declares none =
      linked names optional object rest none (lowerable_at names Off optional covered.1.0 unwrapped.1.0 chained.0 declares.0)
      (lowerable_at names Below object covered.1.1.0 unwrapped.1.1.0 chained.1 declares.1.0)
      (all_lowerable names rest covered.1.1.1 unwrapped.1.1.1 chained.2 declares.1.1)
  lowerable_at names Top (Node at word.Member parts) covered unwrapped chained declares none = tt
  lowerable_at names Top (Node at word.Index (Then optional (Then object rest))) covered unwrapped chained declares none =
      linked names optional object rest none (lowerable_at names Off optional covered.1.0 unwrapped.1.0 chained.0 declares.0)
      (lowerable_at names Below object covered.1.1.0 unwrapped.1.1.0 chained.1 declares.1.0)
      (all_lowerable names rest covered.1.1.1 unwrapped.1.1.1 chained.2 declares.1.1)
  lowerable_at names Top (Node at word.Index parts) covered unwrapped chained declares none = tt
  lowerable_at names Top (Node at word.Privatemember (Then optional (Then object rest))) covered unwrapped chained declares none =
      linked names optional object rest none (lowerable_at names Off optional covered.1.0 unwrapped.1.0 chained.0 declares.0)
      (lowerable_at names Below object covered.1.1.0 unwrapped.1.1.0 chained.1 declares.1.0)
      (all_lowerable names rest covered.1.1.1 unwrapped.1.1.1 chained.2 declares.1.1)
  lowerable_at names Top (Node at word.Privatemember parts) covered unwrapped chained declares none = tt
  lowerable_at names Top (Node at word.Call (Then optional (Then object rest))) covered unwrapped chained declares none =
      linked names optional object rest none (lowerable_at names Off optional covered.1.0 unwrapped.1.0 chained.0 declares.0)
      (lowerable_at names Below object covered.1.1.0 unwrapped.1.1.0 chained.1 declares.1.0)
      (all_lowerable names rest covered.1.1.1 unwrapped.1.1.1 chained.2 declares.1.1)
  lowerable_at names Top (Node at word.Call parts) covered unwrapped chained declares none = tt
  lowerable_at names Top (Node at word.Nonnull (Then expression rest)) covered unwrapped chained declares none =
      lowerable_at names Top expression covered.1.0 unwrapped.1.0 chained declares.0
      (none_both (first_stop names expression) (first_among names rest) none).0
  lowerable_at names Top (Node at w parts) covered unwrapped chained declares none =
      (covered.0, all_lowerable names parts covered.1 unwrapped.1 chained declares none)
  lowerable_at names Below (Node at word.Member (Then optional (Then object rest))) covered unwrapped chained declares none =
      linked names optional object rest none (lowerable_at names Off optional covered.1.0 unwrapped.1.0 chained.0 declares.0)
      (lowerable_at names Below object covered.1.1.0 unwrapped.1.1.0 chained.1 declares.1.0)
      (all_lowerable names rest covered.1.1.1 unwrapped.1.1.1 chained.2 declares.1.1)
  lowerable_at names Below (Node at word.Member parts) covered unwrapped chained declares none = tt
  lowerable_at names Below (Node at word.Index (Then optional (Then object rest))) covered unwrapped chained declares none =
      linked names optional object rest none (lowerable_at names Off optional covered.1.0 unwrapped.1.0 chained.0 declares.0)
      (lowerable_at names Below object covered.1.1.0 unwrapped.1.1.0 chained.1 declares.1.0)
      (all_lowerable names rest covered.1.1.1 unwrapped.1.1.1 chained.2 declares.1.1)
  lowerable_at names Below (Node at word.Index parts) covered unwrapped chained declares none = tt
  lowerable_at names Below (Node at word.Privatemember (Then optional (Then object rest))) covered unwrapped chained declares none =
      linked names optional object rest none (lowerable_at names Off optional covered.1.0 unwrapped.1.0 chained.0 declares.0)
      (lowerable_at names Below object covered.1.1.0 unwrapped.1.1.0 chained.1 declares.1.0)
      (all_lowerable names rest covered.1.1.1 unwrapped.1.1.1 chained.2 declares.1.1)
  lowerable_at names Below (Node at word.Privatemember parts) covered unwrapped chained declares none = tt
  lowerable_at names Below (Node at word.Call (Then optional (Then object rest))) covered unwrapped chained declares none =
      linked names optional object rest none (lowerable_at names Off optional covered.1.0 unwrapped.1.0 chained.0 declares.0)
      (lowerable_at names Below object covered.1.1.0 unwrapped.1.1.0 chained.1 declares.1.0)
      (all_lowerable names rest covered.1.1.1 unwrapped.1.1.1 chained.2 declares.1.1)
  lowerable_at names Below (Node at word.Call parts) covered unwrapped chained declares none = tt
  lowerable_at names Below (Node at word.Nonnull (Then expression rest)) covered unwrapped chained declares none =
      lowerable_at names Below expression covered.1.0 unwrapped.1.0 chained declares.0
      (none_both (first_stop names expression) (first_among names rest) none).0
  lowerable_at names Below (Node at w parts) covered unwrapped chained declares none =
      (covered.0, all_lowerable names parts covered.1 unwrapped.1 chained declares none)
  lowerable_at names Off (Listed parts) covered unwrapped chained declares none =
      all_lowerable names parts covered unwrapped chained declares none
  lowerable_at names Top (Listed parts) covered unwrapped chained declares none = tt
  lowerable_at names Below (Listed parts) covered unwrapped chained declares none = tt
  lowerable_at names place (Said text) covered unwrapped chained declares none = tt
  lowerable_at names place (Count number) covered unwrapped chained declares none = tt
  lowerable_at names place (Flag flag) covered unwrapped chained declares none = tt
  lowerable_at names place Absent covered unwrapped chained declares none = tt

  -- As `lowerable_at`, for parts in a row off the spine.
  pub all_lowerable : (names : Names) (ps : Pieces) → AreCovered ps → AreUnwrapped ps → AreChained ps → DeclareIn names ps
      → first_among names ps ≡ None → AreLowerable names ps
  all_lowerable names End covered unwrapped chained declares none = tt
  all_lowerable names (Then p ps) covered unwrapped chained declares none =
      let both = none_both (first_stop names p) (first_among names ps) none in (
        lowerable_at names Off p covered.0 unwrapped.0 chained.0 declares.0 both.0,
        all_lowerable names ps covered.1 unwrapped.1 chained.1 declares.1 both.1,
      )

  -- As `lowerable_at`, for a target that takes a piece of a value, in a pattern.
  pub lowerable_to : (names : Names) (t : Syntax) → IsCovered t → IsUnwrapped t → IsChained t → DeclaresIn names t
      → stop_to names t ≡ None → IsLowerableTo names t
  lowerable_to names (Node at word.Id (Then (Said name) End)) covered unwrapped chained declares none =
      free_local names (local_of (names.meaning at.reference.0 name)) at.span none
  lowerable_to names (Node at word.Member parts) covered unwrapped chained declares none =
      (chained.0, all_lowerable names parts covered.1 unwrapped.1 chained.1 declares none)
  lowerable_to names (Node at word.Index parts) covered unwrapped chained declares none =
      (chained.0, all_lowerable names parts covered.1 unwrapped.1 chained.1 declares none)
  lowerable_to names (Node at word.Default (Then target (Then default End))) covered unwrapped chained declares none =
      let both = none_both (first_stop names default) (stop_to names target) none in (
        lowerable_at names Off default covered.1.1.0 unwrapped.1.1.0 chained.1.0 declares.1.0 both.0,
        lowerable_to names target covered.1.0 unwrapped.1.0 chained.0 declares.0 both.1,
      )
  lowerable_to names (Node at word.Short (Then target (Then default End))) covered unwrapped chained declares none =
      let both = none_both (first_stop names default) (stop_to names target) none in (
        lowerable_at names Off default covered.1.1.0 unwrapped.1.1.0 chained.1.0 declares.1.0 both.0,
        lowerable_to names target covered.1.0 unwrapped.1.0 chained.0 declares.0 both.1,
      )
  lowerable_to names (Node at word.Keyed (Then computed (Then key (Then target End)))) covered unwrapped chained declares none =
      where_not (is_lost_item (Node at word.Keyed (Then computed (Then key (Then target End))))) (stop_to names target)
      (IsLowerableTo names target) none
      (λ n. lowerable_to names target covered.1.1.1.0 unwrapped.1.1.1.0 chained.1.1.0 declares.1.1.0 n)
  lowerable_to names (Node at word.Rest (Then target End)) covered unwrapped chained declares none =
      lowerable_to names target covered.1.0 unwrapped.1.0 chained.0 declares.0 none
  lowerable_to names (Node at word.Arraytarget (Then (Listed items) (Then rest End))) covered unwrapped chained declares none =
      let front : Option Diagnostic = if is_absent rest then stop_ahead names items else None in
      let first = none_both front (option_or (stop_to_all names items) (stop_to names rest)) none in
      let others = none_both (stop_to_all names items) (stop_to names rest) first.1 in (
        where_test (is_absent rest) (stop_ahead names items) (AreFreeAhead names items) first.0 (all_free_ahead names items),
        all_lowerable_to names items covered.1.0 unwrapped.1.0 chained.0 declares.0 others.0,
        lowerable_to names rest covered.1.1.0 unwrapped.1.1.0 chained.1.0 declares.1.0 others.1,
      )
  lowerable_to names (Node at word.Objecttarget (Then (Listed properties) (Then rest End))) covered unwrapped chained declares none =
      let front : Option Diagnostic = if is_absent rest then stop_ahead names properties else None in
      let last : Option Diagnostic = if is_plain_rest rest then stop_to names rest else None in
      let first = none_both front (option_or (stop_to_all names properties) last) none in
      let others = none_both (stop_to_all names properties) last first.1 in (
        where_test (is_absent rest) (stop_ahead names properties) (AreFreeAhead names properties) first.0
            (all_free_ahead names properties),
        all_lowerable_to names properties covered.1.0 unwrapped.1.0 chained.0 declares.0 others.0,
        where_test (is_plain_rest rest) (stop_to names rest) (IsLowerableTo names rest) others.1
            (λ n. lowerable_to names rest covered.1.1.0 unwrapped.1.1.0 chained.1.0 declares.1.0 n),
      )
  lowerable_to names _ covered unwrapped chained declares none = tt

  -- As `lowerable_to`, for items in a row.
  pub all_lowerable_to : (names : Names) (ps : Pieces) → AreCovered ps → AreUnwrapped ps → AreChained ps → DeclareIn names ps
      → stop_to_all names ps ≡ None → AreLowerableTo names ps
  all_lowerable_to names End covered unwrapped chained declares none = tt
  all_lowerable_to names (Then p ps) covered unwrapped chained declares none =
      let both = none_both (stop_to names p) (stop_to_all names ps) none in (
        lowerable_to names p covered.0 unwrapped.0 chained.0 declares.0 both.0,
        all_lowerable_to names ps covered.1 unwrapped.1 chained.1 declares.1 both.1,
      )

-- As `lowerable_at`, for a tree off the spine.
pub lowerable : (names : Names) (t : Syntax) → IsCovered t → IsUnwrapped t → IsChained t → DeclaresIn names t → first_stop names t ≡ None
    → IsLowerable names t
lowerable names t covered unwrapped chained declares none = lowerable_at names Off t covered unwrapped chained declares none

-- A target that takes a value apart is not lost in the head of a loop.
kept_apart : (head : Syntax) → is_pattern head ≡ true → is_lost_head head ≡ false
kept_apart (Node at word.Arraytarget parts) apart = refl
kept_apart (Node at word.Objecttarget parts) apart = refl
kept_apart _ apart = absurd (cc)

-- The head of a loop, by whether it is lost, and whether it is a pattern.

where_plain : (lost apart : Bool) (stop to : Option Diagnostic) (A : Type 0)
    → (if lost then None else if apart then to else stop) ≡ None → (stop ≡ None → A) → Where (not apart) (Where (not lost) A)
where_plain lost true stop to A none holds = tt
where_plain true false stop to A none holds = tt
where_plain false false stop to A none holds = holds none

where_taken : (lost apart : Bool) (stop to : Option Diagnostic) (A : Type 0) → (apart ≡ true → lost ≡ false)
    → (if lost then None else if apart then to else stop) ≡ None → (to ≡ None → A) → Where apart A
where_taken lost false stop to A kept none holds = tt
where_taken false true stop to A kept none holds = holds none
where_taken true true stop to A kept none holds = absurd (true≢false (kept refl))

-- As `lowerable`, for the head of a `for`-`in` or `for`-`of` loop.
head_lowerable : (names : Names) (head : Syntax) → is_plain_head head ≡ true → IsCovered head → IsUnwrapped head → IsChained head
    → DeclaresIn names head → stop_at_head names head ≡ None → IsLowerableHead names head
head_lowerable names head plain covered unwrapped chained declares none = record {
  plain = plain;
  lowerable =
      where_plain (is_lost_head head) (is_pattern head) (first_stop names head) (stop_to names head) (IsLowerable names head) none
      (λ n. lowerable names head covered unwrapped chained declares n);
  taken =
      where_taken (is_lost_head head) (is_pattern head) (first_stop names head) (stop_to names head) (IsLowerableTo names head)
      (kept_apart head) none (λ n. lowerable_to names head covered unwrapped chained declares n);
}

mutual
  -- As `lowerable`, for a statement inside others, with the label that is its own.
  pub lowerable_in : (names : Names) (around : List Around) (own : Label) (s : Syntax) → IsCovered s → IsUnwrapped s → IsChained s
      → DeclaresIn names s → stop_in names around own s ≡ None → IsLowerableIn names around own s
  lowerable_in names around own (Node at word.Break (Then Absent End)) covered unwrapped chained declares none = none
  lowerable_in names around own (Node at word.Break (Then (Said label) End)) covered unwrapped chained declares none = none
  lowerable_in names around own (Node at word.Continue (Then Absent End)) covered unwrapped chained declares none = none
  lowerable_in names around own (Node at word.Continue (Then (Said label) End)) covered unwrapped chained declares none = none
  lowerable_in names around own (Node at word.Block (Then (Listed statements) End)) covered unwrapped chained declares none =
      all_lowerable_in names around statements covered.1.0 unwrapped.1.0 chained.0 declares.0 none
  lowerable_in names around own (Node at word.If (Then condition (Then consequent (Then alternate End)))) covered unwrapped chained declares
      none =
      let first = none_both (stop_in names around None consequent)
      (option_or (stop_in names around None alternate) (first_stop names condition)) none in
      let others = none_both (stop_in names around None alternate) (first_stop names condition) first.1 in (
        lowerable names condition covered.1.0 unwrapped.1.0 chained.0 declares.0 others.1,
        lowerable_in names around None consequent covered.1.1.0 unwrapped.1.1.0 chained.1.0 declares.1.0 first.0,
        lowerable_in names around None alternate covered.1.1.1.0 unwrapped.1.1.1.0 chained.1.1.0 declares.1.1.0 others.0,
      )
  lowerable_in names around own (Node at word.While (Then condition (Then body End))) covered unwrapped chained declares none =
      let both = none_both (stop_in names (InLoop own ∷ around) None body) (first_stop names condition) none in (
        lowerable names condition covered.1.0 unwrapped.1.0 chained.0 declares.0 both.1,
        lowerable_in names (InLoop own ∷ around) None body covered.1.1.0 unwrapped.1.1.0 chained.1.0 declares.1.0 both.0,
      )
  lowerable_in names around own (Node at word.Dowhile (Then body (Then condition End))) covered unwrapped chained declares none =
      let both = none_both (stop_in names (InLoop own ∷ around) None body) (first_stop names condition) none in (
        lowerable_in names (InLoop own ∷ around) None body covered.1.0 unwrapped.1.0 chained.0 declares.0 both.0,
        lowerable names condition covered.1.1.0 unwrapped.1.1.0 chained.1.0 declares.1.0 both.1,
      )
  lowerable_in names around own (Node at word.For (Then init (Then condition (Then update (Then body End))))) covered unwrapped chained
      declares none =
      let within : Option Diagnostic = option_or (stop_in names (InLoop own ∷ around) None body) (first_stop names condition) in
      let first = none_both (first_stop names init) (option_or (first_stop names update) within) none in
      let second = none_both (first_stop names update) within first.1 in
      let both = none_both (stop_in names (InLoop own ∷ around) None body) (first_stop names condition) second.1 in (
        lowerable names init covered.1.0 unwrapped.1.0 chained.0 declares.0 first.0,
        lowerable names condition covered.1.1.0 unwrapped.1.1.0 chained.1.0 declares.1.0 both.1,
        lowerable names update covered.1.1.1.0 unwrapped.1.1.1.0 chained.1.1.0 declares.1.1.0 second.0,
        lowerable_in names (InLoop own ∷ around) None body covered.1.1.1.1.0 unwrapped.1.1.1.1.0 chained.1.1.1.0 declares.1.1.1.0 both.0,
      )
  lowerable_in names around own (Node at word.Forin (Then head (Then right (Then body End)))) covered unwrapped chained declares none =
      let inside = InLoop own ∷ around in
      let first = none_both (stop_in names inside None body) (option_or (first_stop names right) (stop_at_head names head)) none in
      let others = none_both (first_stop names right) (stop_at_head names head) first.1 in (
        lowerable_in names inside None body covered.1.1.1.0 unwrapped.1.1.1.0 chained.1.1.0 declares.1.1.0 first.0,
        lowerable names right covered.1.1.0 unwrapped.1.1.0 chained.1.0 declares.1.0 others.0,
        head_lowerable names head (plain_in_front head (Then right (Then body End)) covered.0) covered.1.0 unwrapped.1.0 chained.0
            declares.0 others.1,
      )
  lowerable_in names around own (Node at word.Forof (Then (Flag is_await) (Then head (Then right (Then body End))))) covered unwrapped
      chained declares none =
      let inside : List Around = InLoop own ∷ around in
      let stop : Option Diagnostic =
      option_or (stop_in names inside None body) (option_or (first_stop names right) (stop_at_head names head)) in
      where_not is_await stop (IsLowerableIn names inside None body × IsLowerable names right × IsLowerableHead names head) none (λ n.
      let first = none_both (stop_in names inside None body) (option_or (first_stop names right) (stop_at_head names head)) n in
      let others = none_both (first_stop names right) (stop_at_head names head) first.1 in (
        lowerable_in names inside None body covered.1.1.1.1.0 unwrapped.1.1.1.1.0 chained.1.1.1.0 declares.1.1.1.0 first.0,
        lowerable names right covered.1.1.1.0 unwrapped.1.1.1.0 chained.1.1.0 declares.1.1.0 others.0,
        head_lowerable names head covered.0 covered.1.1.0 unwrapped.1.1.0 chained.1.0 declares.1.0 others.1,
      ))
  lowerable_in names around own (Node at word.Switch (Then discriminant (Then (Listed cases) End))) covered unwrapped chained declares
      none =
      let both = none_both (stop_in_cases names (InSwitch own ∷ around) cases) (first_stop names discriminant) none in (
        cases_lowerable names (InSwitch own ∷ around) cases covered.1.1.0 unwrapped.1.1.0 chained.1.0 declares.1.0 both.0,
        lowerable names discriminant covered.1.0 unwrapped.1.0 chained.0 declares.0 both.1,
      )
  lowerable_in names around own
      (Node at word.Try (Then block (Then (Node there word.Catch (Then param (Then body End))) (Then finalizer End)))) covered unwrapped
      chained declares none =
      let within : Option Diagnostic = option_or (stop_in names around None body) (stop_in names around None block) in
      let caught = none_both (stop_of_caught param) (option_or (first_stop names param) within) none in
      let first = none_both (first_stop names param) within caught.1 in
      let others = none_both (stop_in names around None body) (stop_in names around None block) first.1 in (
        caught.0,
        lowerable names param covered.1.1.0.1.0 unwrapped.1.1.0.1.0 chained.1.0.0 declares.1.0.0 first.0,
        lowerable_in names around None body covered.1.1.0.1.1.0 unwrapped.1.1.0.1.1.0 chained.1.0.1.0 declares.1.0.1.0 others.0,
        lowerable_in names around None block covered.1.0 unwrapped.1.0 chained.0 declares.0 others.1,
      )
  lowerable_in names around own (Node at word.Try parts) covered unwrapped chained declares none = tt
  lowerable_in names around own (Node at word.With parts) covered unwrapped chained declares none = tt
  lowerable_in names around own (Node at word.Labeled (Then (Said label) (Then body End))) covered unwrapped chained declares none =
      lowerable_in names (within_label label body around) (own_label label body) body covered.1.1.0 unwrapped.1.1.0 chained.1.0
      declares.1.0 none
  lowerable_in names around own s covered unwrapped chained declares none = lowerable names s covered unwrapped chained declares none

  -- As `lowerable_in`, for statements in a row.
  pub all_lowerable_in : (names : Names) (around : List Around) (ss : Pieces) → AreCovered ss → AreUnwrapped ss → AreChained ss
      → DeclareIn names ss → stop_among names around ss ≡ None → AreLowerableIn names around ss
  all_lowerable_in names around End covered unwrapped chained declares none = tt
  all_lowerable_in names around (Then s ss) covered unwrapped chained declares none =
      let both = none_both (stop_in names around None s) (stop_among names around ss) none in (
        lowerable_in names around None s covered.0 unwrapped.0 chained.0 declares.0 both.0,
        all_lowerable_in names around ss covered.1 unwrapped.1 chained.1 declares.1 both.1,
      )

  -- As `lowerable_in`, for a case of a `switch`.
  case_lowerable : (names : Names) (around : List Around) (case : Syntax) → IsCovered case → IsUnwrapped case → IsChained case
      → DeclaresIn names case → stop_in_case names around case ≡ None → IsLowerableCase names around case
  case_lowerable names around (Node at word.Case (Then condition (Then (Listed statements) End))) covered unwrapped chained declares none =
      let both = none_both (stop_among names around statements) (first_stop names condition) none in (
        all_lowerable_in names around statements covered.1.1.0 unwrapped.1.1.0 chained.1.0 declares.1.0 both.0,
        lowerable names condition covered.1.0 unwrapped.1.0 chained.0 declares.0 both.1,
      )
  case_lowerable names around _ covered unwrapped chained declares none = tt

  -- As `case_lowerable`, for cases in a row.
  cases_lowerable : (names : Names) (around : List Around) (cases : Pieces) → AreCovered cases → AreUnwrapped cases → AreChained cases
      → DeclareIn names cases → stop_in_cases names around cases ≡ None → AreLowerableCases names around cases
  cases_lowerable names around End covered unwrapped chained declares none = tt
  cases_lowerable names around (Then case cases) covered unwrapped chained declares none =
      let both = none_both (stop_in_cases names around cases) (stop_in_case names around case) none in (
        case_lowerable names around case covered.0 unwrapped.0 chained.0 declares.0 both.1,
        cases_lowerable names around cases covered.1 unwrapped.1 chained.1 declares.1 both.0,
      )

-- As `lowerable`, for a body.
lowerable_body : (names : Names) (b : Syntax) → IsCovered b → IsUnwrapped b → IsChained b → DeclaresIn names b → stop_in_body names b ≡ None
    → IsLowerableBody names b
lowerable_body names (Node at word.Body (Then directives (Then (Listed statements) End))) covered unwrapped chained declares none =
    all_lowerable_in names [] statements covered.1.1.0 unwrapped.1.1.0 chained.1.0 declares.1.0 none
lowerable_body names b covered unwrapped chained declares none = lowerable names b covered unwrapped chained declares none

-- Of a function without a stop neither the parameters nor the body has one, and no target is wrapped.
pub record HasNoStops (names : Names) (f : Syntax) : Type 0 where
  pub wrapped : wrapped.stop_among (sites_in f) ≡ None
  pub params : first_stop names (params_in f) ≡ None
  pub body : stop_in_body names (body_in f) ≡ None

pub no_stops : (names : Names) (f : Syntax) → stop_of names f ≡ None → HasNoStops names f
no_stops names f none =
    let inside : Option Diagnostic = option_or (first_stop names (params_in f)) (stop_in_body names (body_in f)) in
    let first = none_both _ (option_or (wrapped.stop_among (sites_in f)) inside) none in
    let second = none_both (wrapped.stop_among (sites_in f)) inside first.1 in
    let both = none_both (first_stop names (params_in f)) (stop_in_body names (body_in f)) second.1 in
    record { wrapped = second.0; params = both.0; body = both.1 }

-- The parameters of a covered function without a stop are lowerable, and so is its body.
pub params_lowerable : (names : Names) (f : Syntax) → IsCoveredFunction f → HasChains f → HasLocals names f → stop_of names f ≡ None
    → IsLowerable names (params_in f)
params_lowerable names f covered chains locals none =
    lowerable names (params_in f) (params_covered f covered) (params_unwrapped f covered (no_stops names f none).wrapped) chains.params
    locals.params (no_stops names f none).params

pub body_lowerable : (names : Names) (f : Syntax) → IsCoveredFunction f → HasChains f → HasLocals names f → stop_of names f ≡ None
    → IsLowerableBody names (body_in f)
body_lowerable names f covered chains locals none =
    lowerable_body names (body_in f) (body_covered f covered) (body_unwrapped f covered (no_stops names f none).wrapped) chains.body
    locals.body (no_stops names f none).body
