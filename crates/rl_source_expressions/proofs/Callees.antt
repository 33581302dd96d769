-- A callee that lends its object gives two values: the object, and the function.
use Rattle.std.proofs.Common.{◌≡◌, if◌then◌else◌, true, false, List, [], ◌∷◌, refl, ap, sym, ◌∙◌}
use Rattle.rl_machine.specs.Traces.{Cont, waiting}
use Rattle.rl_machine.specs.declared.trace.Trace.{Trace}
use Rattle.rl_machine.specs.declared.trace.Value.{Value}
use Rattle.rl_machine.specs.declared.trace.Value.TheVariants as value
use Rattle.rl_model.specs.Actions.{Ways, ◌>>=◌, ask}
use Rattle.rl_model.specs.Events.{fixed_key, load}
use Rattle.rl_model.specs.Expressions.{callee, delete_property, eval, key_in, one_value, unless_nullish}
use Rattle.rl_model.specs.Scene.{Scene}
use Rattle.rl_model.specs.Shapes.{lends}
use Rattle.rl_source_expressions.specs.Callees.{heading_then, heading_value}
use Rattle.rl_source_stack.specs.Controls.{from, paired, runs}
use Rattle.rl_source_stack.specs.Frames.{headed, konts_at}
use Rattle.rl_source_stack.specs.Konts.{Konts}
use Rattle.rl_source_stack.specs.States.{State, pushed}
use Rattle.rl_source_stack.specs.declared.stack.Frame.TheVariants as frame
use Rattle.rl_source_stack.specs.declared.stack.Heading.{Heading}
use Rattle.rl_source_stack.specs.declared.stack.Heading.TheVariants as heading
use Rattle.rl_syntax.specs.Syntax.{Syntax, Node, Said, Flag, Pieces, End, Then}
use Rattle.rl_syntax.specs.declared.numbered.At.{At}
use Rattle.rl_syntax.specs.declared.word.Word.{Word}
use Rattle.rl_syntax.specs.declared.word.Word.TheVariants as word
use Rattle.rl_trace.specs.Progress.{after}

pub pairs_alone : (scene : Scene) (s : Syntax) (ways : Ways) (f g : List Value → Cont) → ((o v : Value) → f (o ∷ v ∷ []) ≡ g (o ∷ v ∷ []))
    → callee scene s ways f ≡ callee scene s ways g
pairs_alone scene (Node at word.Paren (Then e End)) ways f g same = pairs_alone scene e ways f g same
pairs_alone scene (Node at word.As (Then e (Then type End))) ways f g same = pairs_alone scene e ways f g same
pairs_alone scene (Node at word.Satisfies (Then e (Then type End))) ways f g same = pairs_alone scene e ways f g same
pairs_alone scene (Node at word.Assert (Then type (Then e End))) ways f g same = pairs_alone scene e ways f g same
pairs_alone scene (Node at word.Nonnull (Then e End)) ways f g same = pairs_alone scene e ways f g same
pairs_alone scene (Node at word.Instantiate (Then e (Then names End))) ways f g same = pairs_alone scene e ways f g same
pairs_alone scene (Node at word.Chain (Then e End)) ways f g same =
    ap (λ early. callee scene e (record ways { short = early }) f) (same value.Undefined value.Undefined)
    ∙ pairs_alone scene e (record ways { short = g (value.Undefined ∷ value.Undefined ∷ []) }) f g same
pairs_alone scene (Node at word.Member (Then (Flag optional) (Then object (Then (Said name) End)))) ways f g same =
    λ i. eval scene object ways (λ v. unless_nullish scene optional v ways
    (λ u. ask scene (load v (fixed_key (value.Text name))) ways (λ w. same v w i)))
pairs_alone scene (Node at word.Index (Then (Flag optional) (Then object (Then property End)))) ways f g same =
    λ i. eval scene object ways (λ v. unless_nullish scene optional v ways
    (λ u. key_in property (eval scene property) ways (λ key. ask scene (load v key) ways (λ w. same v w i))))
pairs_alone scene _ ways f g same = refl

-- A heading does the same with its callee, whether it stands in a frame or behind the callee.
pub headed_same : (scene : Scene) (h : Heading) (head : List Value) (k : Konts)
    → headed scene h head k ≡ heading_then scene h head k.ways k.value
headed_same scene (heading.Call optional arguments) [] k = refl
headed_same scene (heading.Call optional arguments) (f ∷ []) k = refl
headed_same scene (heading.Call optional arguments) (o ∷ f ∷ vs) k = refl
headed_same scene (heading.Tagged quasis expressions) head k = refl

-- Behind a callee that lends its object, the heading has both.
pub lent_first : (s : State) (h : Heading) (t : Syntax)
    → runs (callee s.scene t s.konts.ways (paired (konts_at s.scene (frame.Head h) s.konts))) s
    ≡ from (callee s.scene t >>= heading_then s.scene h) s
lent_first s h t =
    ap (λ cont. runs cont s)
    (pairs_alone s.scene t s.konts.ways (paired (konts_at s.scene (frame.Head h) s.konts))
    (λ head. heading_then s.scene h head s.konts.ways s.konts.value) (λ o f. headed_same s.scene h (o ∷ f ∷ []) s.konts))

-- Behind another callee, the heading has the function alone.
pub plain_first : (s : State) (h : Heading) (t : Syntax)
    → runs (eval s.scene t s.konts.ways (λ f. headed s.scene h (f ∷ []) s.konts)) s
    ≡ from (one_value (eval s.scene t) >>= heading_then s.scene h) s
plain_first s h t = λ i. runs (eval s.scene t s.konts.ways (λ f. headed_same s.scene h (f ∷ []) s.konts i)) s

-- A construct goes on with its callee.
pub lent_heading : (s : State) (h : Heading) (t : Syntax) → lends t ≡ true
    → runs (callee s.scene t s.konts.ways (paired (konts_at s.scene (frame.Head h) s.konts))) s ≡ from (heading_value s.scene h t) s
lent_heading s h t is =
    lent_first s h t
    ∙ ap (λ b. from ((if b then callee s.scene t else one_value (eval s.scene t)) >>= heading_then s.scene h) s) (sym is)

pub plain_heading : (s : State) (h : Heading) (t : Syntax) → lends t ≡ false
    → runs (eval s.scene t s.konts.ways (λ f. headed s.scene h (f ∷ []) s.konts)) s ≡ from (heading_value s.scene h t) s
plain_heading s h t is =
    plain_first s h t
    ∙ ap (λ b. from ((if b then callee s.scene t else one_value (eval s.scene t)) >>= heading_then s.scene h) s) (sym is)

-- The trace of a run that evaluates a callee next.
abbrev pub callee_trace : State → Syntax → Trace
callee_trace s t = runs (callee s.scene t s.konts.ways (paired s.konts)) s

-- A chain that lends its object stands in a frame.
pub chain_callee : (s : State) (at : At) (t : Syntax)
    → callee_trace (pushed (frame.Chained true) s) t ≡ callee_trace s (Node at word.Chain (Then t End))
chain_callee s at t =
    ap (λ cont. runs cont s)
    (pairs_alone s.scene t (konts_at s.scene (frame.Chained true) s.konts).ways (paired (konts_at s.scene (frame.Chained true) s.konts))
    (paired s.konts)
    (λ o f. refl))

-- Any other callee has no meaning.
pub callee_other : (s : State) (at : At) (w : Word) (ps : Pieces)
    → (w ≡ word.Paren → ⊥) → (w ≡ word.Nonnull → ⊥) → (w ≡ word.As → ⊥) → (w ≡ word.Satisfies → ⊥) → (w ≡ word.Assert → ⊥)
    → (w ≡ word.Instantiate → ⊥) → (w ≡ word.Chain → ⊥) → (w ≡ word.Member → ⊥) → (w ≡ word.Index → ⊥)
    → after s.events waiting ≡ callee_trace s (Node at w ps)
callee_other s at word.Paren ps paren nonnull as_type satisfies assert instantiate chain member index = absurd (paren refl)
callee_other s at word.Nonnull ps paren nonnull as_type satisfies assert instantiate chain member index = absurd (nonnull refl)
callee_other s at word.As ps paren nonnull as_type satisfies assert instantiate chain member index = absurd (as_type refl)
callee_other s at word.Satisfies ps paren nonnull as_type satisfies assert instantiate chain member index = absurd (satisfies refl)
callee_other s at word.Assert ps paren nonnull as_type satisfies assert instantiate chain member index = absurd (assert refl)
callee_other s at word.Instantiate ps paren nonnull as_type satisfies assert instantiate chain member index = absurd (instantiate refl)
callee_other s at word.Chain ps paren nonnull as_type satisfies assert instantiate chain member index = absurd (chain refl)
callee_other s at word.Member ps paren nonnull as_type satisfies assert instantiate chain member index = absurd (member refl)
callee_other s at word.Index ps paren nonnull as_type satisfies assert instantiate chain member index = absurd (index refl)
callee_other s at _ ps paren nonnull as_type satisfies assert instantiate chain member index = refl

pub delete_other : (s : State) (at : At) (w : Word) (ps : Pieces)
    → (w ≡ word.Paren → ⊥) → (w ≡ word.Member → ⊥) → (w ≡ word.Index → ⊥)
    → after s.events waiting ≡ from (delete_property s.scene (Node at w ps)) s
delete_other s at word.Paren ps paren member index = absurd (paren refl)
delete_other s at word.Member ps paren member index = absurd (member refl)
delete_other s at word.Index ps paren member index = absurd (index refl)
delete_other s at _ ps paren member index = refl
