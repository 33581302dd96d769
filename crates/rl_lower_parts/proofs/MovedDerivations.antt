-- Expressions that are lowered in another place than they stand in, and temporaries with names: the moves in front of them.
use Rattle.std.proofs.Common.{◌≡◌, ℕ, ◌+◌, ◌≤◌, ◌++◌, if◌then◌else◌, Bool, true, false, List, length, codes}
use Rattle.std.proofs.Common.{Some, None, Result, Ok, Err, OnOk, refl, ap, sym, ◌∙◌, subst, arith}
use Rattle.std.specs.Fmt.{decimal}
use Rattle.rl_base.specs.Diagnostics.{diagnostic_at}
use Rattle.rl_base.specs.declared.diagnostic.Diagnostic.{Diagnostic}
use Rattle.rl_base.specs.declared.row.Row.TheVariants as row
use Rattle.rl_base.specs.declared.span.Span.{Span}
use Rattle.rl_builder.specs.Builder.{State, recorded, with_temporary}
use Rattle.rl_hir.specs.Identifiers.{changed_at, with_name}
use Rattle.rl_hir.specs.declared.environment.Environment.{Environment}
use Rattle.rl_hir.specs.declared.function.Identifier.{Identifier}
use Rattle.rl_hir.specs.declared.function.IdentifierName.TheVariants as identifiers
use Rattle.rl_lower_parts.specs.Moving.{moving}
use Rattle.rl_lowered.proofs.Names.{names_recorded}
use Rattle.rl_lowered.specs.Items.{promoted}
use Rattle.rl_lowered.specs.Named.{IsNamed}
use Rattle.rl_names.specs.Names.{Names}
use Rattle.rl_promises.specs.Moved.{may_move, type_name}
use Rattle.rl_runs.specs.Blocks.{size_of}
use Rattle.rl_syntax.specs.Syntax.{Syntax, Node, Listed, Said, Count, Flag, Absent, Pieces}
use Rattle.rl_syntax.specs.declared.numbered.At.{At}
use Rattle.rl_syntax.specs.declared.word.Word.{Word}
use Rattle.rl_used_names.proofs.NameLaws.{changed_at-last}

abbrev pub moving_by : Bool → Word → Span → State → State
moving_by b w at s = if b then s else recorded s (diagnostic_at row.F29 (type_name w) at)

named_by : {names : Names} (b : Bool) (w : Word) (at : Span) (s : State) → IsNamed names s → IsNamed names (moving_by b w at s)
named_by true w at s named = named
named_by false w at s named = (names_recorded s (diagnostic_at row.F29 (type_name w) at)).named named

moving_keeps : {names : Names} (e : Syntax) (s : State) → IsNamed names s → IsNamed names (moving names s e)
moving_keeps {names} (Node at w fields) s named = named_by (may_move names (Node at w fields)) w at.span s named
moving_keeps (Listed parts) s named = named
moving_keeps (Said text) s named = named
moving_keeps (Count number) s named = named
moving_keeps (Flag flag) s named = named
moving_keeps Absent s named = named

pub moving_named : {names : Names} (e : Syntax) (s b : State) → b ≡ moving names s e → IsNamed names s → IsNamed names b
moving_named {names} e s b is named = subst (IsNamed names) (sym is) (moving_keeps e s named)

size_by : (b : Bool) (w : Word) (at : Span) (s : State) → size_of (moving_by b w at s) ≤ size_of s + 0
size_by true w at s = omega arith
size_by false w at s = omega arith

pub moving_size : (names : Names) (e : Syntax) (s : State) → size_of (moving names s e) ≤ size_of s + 0
moving_size names (Node at w fields) s = size_by (may_move names (Node at w fields)) w at.span s
moving_size names (Listed parts) s = omega arith
moving_size names (Said text) s = omega arith
moving_size names (Count number) s = omega arith
moving_size names (Flag flag) s = omega arith
moving_size names Absent s = omega arith

-- The state in front of such an expression, from whether it may move.

pub moving_kept : (names : Names) (e : Syntax) (s : State) → may_move names e ≡ true → s ≡ moving names s e
moving_kept names (Node at w fields) s is = ap (λ (b : Bool). moving_by b w at.span s) (sym is)
moving_kept names (Listed parts) s is = refl
moving_kept names (Said text) s is = refl
moving_kept names (Count number) s is = refl
moving_kept names (Flag flag) s is = refl
moving_kept names Absent s is = refl

pub moving_noted : (names : Names) {at : At} {w : Word} {fields : Pieces} {e : Syntax} (s new : State) → Node at w fields ≡ e
    → may_move names e ≡ false → new ≡ recorded s (diagnostic_at row.F29 (type_name w) at.span) → new ≡ moving names s e
moving_noted names {at} {w} {fields} {e} s new is stays noted =
    subst (λ (t : Syntax). new ≡ moving names s t) is
    (noted ∙ ap (λ (b : Bool). moving_by b w at.span s) (sym (ap (λ (t : Syntax). may_move names t) is ∙ stays)))

pub moving_noted_ok : (names : Names) {at : At} {w : Word} {fields : Pieces} {e : Syntax} {text : List ℕ} {E : Type 0} (s new : State)
    (d : Diagnostic) (r : Result (Unit {0}) E) → Node at w fields ≡ e → may_move names e ≡ false
    → d ≡ diagnostic_at row.F29 text at.span → text ≡ type_name w → OnOk r (new ≡ recorded s d) → OnOk r (new ≡ moving names s e)
moving_noted_ok names {at} {w} s new d (Ok x) is stays said named noted =
    moving_noted names s new is stays
    (noted ∙ ap (λ (q : Diagnostic). recorded s q) (said ∙ ap (λ (t : List ℕ). diagnostic_at row.F29 t at.span) named))
moving_noted_ok names s new d (Err e) is stays said named noted = tt

pub unmoved : (names : Names) (s : State) {tree shown : Syntax} → tree ≡ shown → s ≡ moving names s shown → s ≡ moving names s tree
unmoved names s is kept = subst (λ (t : Syntax). s ≡ moving names s t) (sym is) kept

-- The place that takes the caught value.
pub promoted_is : (s made new : State) (e0 e1 : Environment) (identifier : ℕ) (name : List ℕ) (span : Span)
    → made ≡ with_temporary s (Some span) → identifier ≡ length s.env.identifiers → name ≡ codes "#t" ++ decimal identifier
    → e0 ≡ made.env → e1 ≡ record e0 { identifiers = changed_at (with_name (identifiers.Promoted name)) identifier e0.identifiers }
    → new ≡ record made { env = e1 } → new ≡ promoted s span
promoted_is s made new e0 e1 identifier name span is_made is_next named lent changed is_new =
    is_new
    ∙ ap (λ (e : Environment). record made { env = e })
    (changed ∙ ap (λ (e : Environment). record e { identifiers = changed_at (with_name (identifiers.Promoted name)) identifier e.identifiers }) lent)
    ∙ ap (λ (o : State). after o name identifier) is_made
    ∙ ap (λ (n : List ℕ). after (with_temporary s (Some span)) n identifier) named
    ∙ ap (λ (i : ℕ). after (with_temporary s (Some span)) (codes "#t" ++ decimal i) i) is_next
    ∙ ap (λ (l : List Identifier). record s { env = record s.env { next_type = s.env.next_type + 1; identifiers = l } })
    (changed_at-last (with_name (identifiers.Promoted (codes "#t" ++ decimal (length s.env.identifiers)))) s.env.identifiers plain)
  where
    after : State → List ℕ → ℕ → State
    after o n i = record o { env = record o.env { identifiers = changed_at (with_name (identifiers.Promoted n)) i o.env.identifiers } }

    plain : Identifier
    plain = record { name = None; span = Some span; type_id = record { 0 = s.env.next_type } }
