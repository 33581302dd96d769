-- Derivations of parameters.
use Rattle.std.proofs.Common.{◌≡◌, ℕ, ◌+◌, ◌<◌, ◌≤◌, ◌^◌, ◌++◌, true, false, List, [], ◌∷◌, Some, Result, Ok, Err, IfOk}
use Rattle.std.proofs.Common.{sym, ap, ◌∙◌, subst, arith, append-nil, append_assoc}
use Rattle.rl_base.specs.declared.span.Span.{Span}
use Rattle.rl_base.specs.declared.stop.Stop.{Stop}
use Rattle.rl_builder.specs.Builder.{State, with_temporary}
use Rattle.rl_builder.specs.Temporaries.{temporary}
use Rattle.rl_grammar.specs.Grammar.{fits}
use Rattle.rl_grammar.specs.declared.kind.Field.TheVariants as field
use Rattle.rl_grammar.specs.declared.kind.Kind.TheVariants as kind
use Rattle.rl_hir.specs.declared.function.Param.{Param}
use Rattle.rl_hir.specs.declared.function.Param.TheVariants as params
use Rattle.rl_hir.specs.declared.instruction.InstructionKind.TheVariants as kinds
use Rattle.rl_hir.specs.declared.instruction.Place.{Place}
use Rattle.rl_lower.specs.Params.{LowersParam, LowersRestParam}
use Rattle.rl_lower_parts.specs.Patterns.{TakesDefault}
use Rattle.rl_lower_statements.proofs.PatternDerivations.{pattern_node}
use Rattle.rl_lower_statements.specs.Declarators.{IsDeclared}
use Rattle.rl_lower_statements.specs.Patterns.{HasPatternRoom}
use Rattle.rl_lowered.proofs.Catches.{size_promoted}
use Rattle.rl_lowered.proofs.Names.{names_promoted, names_temporary}
use Rattle.rl_lowered.proofs.Sizes.{pattern_size}
use Rattle.rl_lowered.specs.Forms.{IsAnnotation}
use Rattle.rl_lowered.specs.Items.{caught, promoted, variable_at}
use Rattle.rl_lowered.specs.Lowered as lowered
use Rattle.rl_lowered.specs.Lowered.{LoweredMoved, LoweredParams, LoweredPattern}
use Rattle.rl_lowered.specs.Named.{IsNamed}
use Rattle.rl_lowered.specs.Promised.{HasRoom, LowersPattern, share}
use Rattle.rl_names.specs.Names.{Names}
use Rattle.rl_optional_frames.specs.Frames.{default_at, default_ended}
use Rattle.rl_optional_frames.specs.Parts.{default_begun}
use Rattle.rl_promises.specs.Lowerable.{IsLowerable}
use Rattle.rl_promises.specs.Patterns.{takes_apart}
use Rattle.rl_runs.proofs.Sizes.{size_temporary}
use Rattle.rl_runs.specs.Blocks.{size_of}
use Rattle.rl_syntax.specs.declared.numbered.At.{At}
use Rattle.rl_syntax.specs.declared.word.Word.TheVariants as word
use Rattle.rl_syntax.specs.Syntax.{Syntax, Node, Said, Absent, Pieces, End, Then, nodes}

-- From the views of a parameter and of its pattern.
pub param_ok : {e tree : Syntax} (names : Names) (old new : State) (r : Result Place Stop) → e ≡ tree
    → IfOk r (λ place. LowersParam names e (params.Place place) old new)
    → IfOk r (λ place. LowersParam names tree (params.Place place) old new)
param_ok names old new (Ok place) is l = subst (λ (t : Syntax). LowersParam names t (params.Place place) old new) is l
param_ok names old new (Err e) is l = tt

-- A name.
pub named_param : {names : Names} {bind : At} {name : List ℕ} {type : Syntax} {identifier : ℕ} {old new : State} (at : At)
    → IsAnnotation type → IsDeclared names bind old new identifier
    → LowersParam names (Node at word.Param (Then (Node bind word.Bind (Then (Said name) (Then type End))) (Then Absent End)))
    (params.Place (variable_at identifier bind.span)) old new
named_param {names} {bind} {name} {type} {identifier} {old} {new} at annotated d = record {
  next = λ more rest last ps l.
      lowered.PlainParam at bind name type rest more d.symbol identifier old last ps annotated d.declared d.bound
      (subst (λ (s : State). LoweredParams names more rest s last ps) d.moved l);
  named = d.named;
  size = omega (arith, d.size);
}

-- The temporary that takes the argument of any other parameter.

pub promoted_named : {names : Names} (at : Span) (s m : State) → m ≡ promoted s at → IsNamed names s → IsNamed names m
promoted_named {names} at s m made n = subst (IsNamed names) (sym made) ((names_promoted s at).named n)

pub promoted_grown : (at : Span) (s m : State) → m ≡ promoted s at → size_of m ≡ size_of s + 2
promoted_grown at s m made = ap size_of made ∙ size_promoted s at

pub promoted_room : (at : Span) (s m : State) (count : ℕ) → m ≡ promoted s at → 1 ≤ count → HasRoom s (share (count + 1))
    → size_of m + share count < 2 ^ 31 + 40
promoted_room at s m count made some room = omega (arith, promoted_grown at s m made, room)

-- A pattern.
pub apart_param : {names : Names} {at : At} {pattern : Syntax} {place p : Place} {s m new : State} → takes_apart pattern ≡ true
    → m ≡ promoted s at.span → place ≡ caught s at.span → LowersPattern names false kinds.Let at.span place pattern m new p
    → IsNamed names s → LowersParam names (Node at word.Param (Then pattern (Then Absent End))) (params.Place place) s new
apart_param {names} {at} {pattern} {place} {p} {s} {m} {new} apart made placed l n =
    subst (λ (q : Place). LowersParam names (Node at word.Param (Then pattern (Then Absent End))) (params.Place q) s new) (sym placed)
    (record {
      next = λ more rest last ps d.
          lowered.PatternParam at pattern rest more s new last p ps apart
          (subst (λ (o : State). LoweredPattern names false kinds.Let at.span (caught s at.span) pattern o new p) made
          (subst (λ (q : Place). LoweredPattern names false kinds.Let at.span q pattern m new p) placed l.by)) d;
      named = l.named (promoted_named at.span s m made n);
      size = omega (arith, promoted_grown at.span s m made, pattern_size l.by);
    })

-- A default.
pub defaulted_param : {names : Names} {at : At} {pattern default : Syntax} {place value p : Place} {s m b new : State}
    → m ≡ promoted s at.span → place ≡ caught s at.span → TakesDefault names at.span default place m b value
    → LowersPattern names false kinds.Let at.span value pattern b new p
    → LowersParam names (Node at word.Param (Then pattern (Then default End))) (params.Place place) s new
defaulted_param {names} {at} {pattern} {default} {place} {value} {p} {s} {m} {b} {new} made placed d l =
    subst (λ (q : Place). LowersParam names (Node at word.Param (Then pattern (Then default End))) (params.Place q) s new) (sym placed)
    (record {
      next = λ more rest last ps behind.
          lowered.DefaultParam at pattern default rest more s d.behind new last d.given p ps
          (subst (λ (o : State). LoweredMoved names default (default_begun o at.span) d.behind d.given) made d.by)
          (subst
          (λ (o : State). LoweredPattern names false kinds.Let at.span (temporary (promoted s at.span) (Some at.span)) pattern o new p)
          (d.moved ∙ ap (λ (o : State). default_ended (default_at o at.span place) d.behind d.given) made
          ∙ ap (λ (q : Place). default_ended (default_at (promoted s at.span) at.span q) d.behind d.given) placed)
          (subst (λ (q : Place). LoweredPattern names false kinds.Let at.span q pattern b new p)
          (d.taken ∙ ap (λ (o : State). temporary o (Some at.span)) made) l.by)) behind;
      named = l.named d.named;
      size = omega (arith, promoted_grown at.span s m made, d.size, pattern_size l.by);
    })

pub default_room : (at : Span) (pattern default : Syntax) (s m : State) → m ≡ promoted s at
    → fits (field.One kind.BindingPattern) pattern ≡ true → HasRoom s (share (nodes pattern + nodes default + 1))
    → HasRoom m (share (nodes default + 1))
default_room at pattern default s m made fit room = omega (arith, promoted_grown at s m made, pattern_node pattern fit, room)

pub behind_room : {names : Names} {at : Span} {default : Syntax} {place value : Place} (pattern : Syntax) (s m b : State)
    → m ≡ promoted s at → TakesDefault names at default place m b value → HasRoom s (share (nodes pattern + nodes default + 1))
    → HasPatternRoom b pattern
behind_room {at = at} pattern s m b made d room = omega (arith, promoted_grown at s m made, d.size, room)

-- The rest.

pub temporary_named : {names : Names} (at : Span) (s m : State) → m ≡ with_temporary s (Some at) → IsNamed names s → IsNamed names m
temporary_named {names} at s m made n = subst (IsNamed names) (sym made) ((names_temporary s (Some at)).named n)

temporary_grown : (at : Span) (s m : State) → m ≡ with_temporary s (Some at) → size_of m ≤ size_of s + 2
temporary_grown at s m made =
    let same : size_of m ≡ size_of (with_temporary s (Some at)) = ap size_of made in
    omega (arith, same, size_temporary s (Some at))

pub rest_param_ok : {names : Names} {at : At} {pattern tree : Syntax} {place p : Place} {s m new : State}
    → Node at word.Rest (Then pattern End) ≡ tree → m ≡ with_temporary s (Some at.span) → place ≡ temporary s (Some at.span)
    → LowersPattern names false kinds.Let at.span place pattern m new p → IsNamed names s
    → LowersRestParam names tree (params.Spread place) s new
rest_param_ok {names} {at} {pattern} {tree} {place} {p} {s} {m} {new} is made placed l n =
    subst (λ (t : Syntax). LowersRestParam names t (params.Spread place) s new) is
    (subst (λ (q : Place). LowersRestParam names (Node at word.Rest (Then pattern End)) (params.Spread q) s new) (sym placed)
    (record {
      by = lowered.RestParam at pattern s new p
          (subst (λ (o : State). LoweredPattern names false kinds.Let at.span (temporary s (Some at.span)) pattern o new p) made
          (subst (λ (q : Place). LoweredPattern names false kinds.Let at.span q pattern m new p) placed l.by));
      named = l.named (temporary_named at.span s m made n);
      size = omega (arith, temporary_grown at.span s m made, pattern_size l.by);
    }))

pub rest_room : {at : At} {pattern tree : Syntax} (s m : State) → Node at word.Rest (Then pattern End) ≡ tree
    → m ≡ with_temporary s (Some at.span) → HasRoom s (share (nodes tree)) → HasPatternRoom m pattern
rest_room {at} {pattern} {tree} s m is made room =
    let counted : nodes (Node at word.Rest (Then pattern End)) ≡ nodes tree = ap nodes is in
    omega (arith, counted, temporary_grown at.span s m made, room)

-- Parameters in order.

pub params_next : {names : Names} {all left behind : Pieces} {first rest : Syntax} {old s t : State} {param : Param}
    {after : List Param} (before : List Param) → left ≡ Then first behind → after ≡ before ++ param ∷ [] → LowersParam names first param s t
    → ((new : State) (more : List Param) → LoweredParams names left rest s new more → LoweredParams names all rest old new (before ++ more))
    → (new : State) (more : List Param) → LoweredParams names behind rest t new more → LoweredParams names all rest old new (after ++ more)
params_next {names} {all} {left} {behind} {first} {rest} {old} {s} {t} {param} {after} before split pushed l gives new more d =
    subst (λ (ps : List Param). LoweredParams names all rest old new ps)
    (sym (append_assoc before (param ∷ []) more) ∙ ap (λ (ps : List Param). ps ++ more) (sym pushed))
    (gives new (param ∷ more)
    (subst (λ (es : Pieces). LoweredParams names es rest s new (param ∷ more)) (sym split) (l.next behind rest new more d)))

pub params_done : {names : Names} {all left : Pieces} {rest : Syntax} {old s : State} {ps : List Param} → left ≡ End → rest ≡ Absent
    → ((new : State) (more : List Param) → LoweredParams names left rest s new more → LoweredParams names all rest old new (ps ++ more))
    → LoweredParams names all rest old s ps
params_done {names} {all} {left} {rest} {old} {s} {ps} done absent gives =
    subst (λ (l : List Param). LoweredParams names all rest old s l) (append-nil ps)
    (gives s []
    (subst (λ (es : Pieces). LoweredParams names es rest s s []) (sym done)
    (subst (λ (e : Syntax). LoweredParams names End e s s []) (sym absent) (lowered.NoParam s))))

pub params_rest : {names : Names} {all left : Pieces} {tree rest : Syntax} {old s new : State} {param : Param} {after : List Param}
    (before : List Param) → left ≡ End → tree ≡ rest → after ≡ before ++ param ∷ [] → LowersRestParam names tree param s new
    → ((new : State) (more : List Param) → LoweredParams names left rest s new more → LoweredParams names all rest old new (before ++ more))
    → LoweredParams names all rest old new after
params_rest {names} {all} {left} {tree} {rest} {old} {s} {new} {param} before done is pushed l gives =
    subst (λ (ps : List Param). LoweredParams names all rest old new ps) (sym pushed)
    (gives new (param ∷ [])
    (subst (λ (es : Pieces). LoweredParams names es rest s new (param ∷ [])) (sym done)
    (subst (λ (e : Syntax). LoweredParams names End e s new (param ∷ [])) is l.by)))

-- A parameter, from the view of its default and its own.

pub param_viewed : {at : At} {pattern default shown tree : Syntax} → default ≡ shown
    → Node at word.Param (Then pattern (Then shown End)) ≡ tree → Node at word.Param (Then pattern (Then default End)) ≡ tree
param_viewed {at} {pattern} is views = ap (λ (d : Syntax). Node at word.Param (Then pattern (Then d End))) is ∙ views

pub default_parts_may : (names : Names) {at : At} {pattern default tree : Syntax}
    → Node at word.Param (Then pattern (Then default End)) ≡ tree → IsLowerable names tree
    → IsLowerable names pattern × IsLowerable names default
default_parts_may names is may = let both = (subst (IsLowerable names) (sym is) may).1 in (both.0, both.1.0)

pub default_parts_room : {at : At} {pattern default tree : Syntax} (s : State)
    → Node at word.Param (Then pattern (Then default End)) ≡ tree → HasRoom s (share (nodes tree))
    → HasRoom s (share (nodes pattern + nodes default + 1))
default_parts_room {at} {pattern} {default} {tree} s is room =
    let counted : nodes (Node at word.Param (Then pattern (Then default End))) ≡ nodes tree = ap nodes is in
    omega (arith, counted, room)

pub pattern_may : (names : Names) {at : At} {pattern default tree : Syntax}
    → Node at word.Param (Then pattern (Then default End)) ≡ tree → IsLowerable names tree → IsLowerable names pattern
pattern_may names is may = (subst (IsLowerable names) (sym is) may).1.0

pub pattern_room : {at : At} {pattern default tree : Syntax} (s : State)
    → Node at word.Param (Then pattern (Then default End)) ≡ tree → HasRoom s (share (nodes tree)) → HasRoom s (share (nodes pattern + 1))
pattern_room {at} {pattern} {default} {tree} s is room =
    let counted : nodes (Node at word.Param (Then pattern (Then default End))) ≡ nodes tree = ap nodes is in
    omega (arith, counted, room)

-- A parameter that is a name, from the views of its parts.

pub named_viewed : {at : At} {bind pattern tree : Syntax} → bind ≡ pattern → Node at word.Param (Then pattern (Then Absent End)) ≡ tree
    → Node at word.Param (Then bind (Then Absent End)) ≡ tree
named_viewed {at} is views = ap (λ (b : Syntax). Node at word.Param (Then b (Then Absent End))) is ∙ views
