-- No `var` passes a lexical name if none is declared.
use Rattle.std.proofs.Common.{◌≡◌, ℕ, Bool, true, false, ◌&&◌, ◌||◌, Option, Some, None, List, [], ◌∷◌, replicate, refl, sym, ap, ◌∙◌}
use Rattle.std.proofs.lemmas.Bool.{or_parts}
use Rattle.std.specs.List.{list_any}
use Rattle.rl_bindings.specs.Machines.{look, write_all, overwritten, undo, entries_at, run, count_names, resolved, any_var}
use Rattle.rl_bindings.specs.NameRules.{is_passing, is_inside, is_var}
use Rattle.rl_bindings.specs.declared.event.Bound.{Bound}
use Rattle.rl_bindings.specs.declared.event.Event.{Event}
use Rattle.rl_bindings.specs.declared.event.Event.TheVariants as event
use Rattle.rl_bindings.specs.declared.resolve.Answer.{Answer}
use Rattle.rl_bindings.specs.declared.resolve.Entry.{Entry}

pub or_regroup : (a b c : Bool) → ((a || b) || c) ≡ (a || (b || c))
or_regroup true b c = refl
or_regroup false b c = refl

passes-none : (lexical : List Bound) (m : ℕ → List Entry) (es : List Event) (env : List (Option ℕ)) (fs : List (List Entry)) → any_var es ≡ false → list_any (is_passing lexical) (run m env fs es) ≡ false
passes-none lexical m [] env fs none = refl
passes-none lexical m (event.Scope s ∷ es) env fs none = passes-none lexical m es env fs none
passes-none lexical m (event.Open s ∷ es) env fs none = passes-none lexical m es (write_all (m s.0) env) (overwritten (m s.0) env ∷ fs) none
passes-none lexical m (event.Close ∷ es) env [] none = passes-none lexical m es env [] none
passes-none lexical m (event.Close ∷ es) env (f ∷ fs) none = passes-none lexical m es (undo f env) fs none
passes-none lexical m (event.Bind b ∷ es) env fs none =
    ap (λ v. (v && is_inside lexical b.scope.0 (look env b.name)) || list_any (is_passing lexical) (run m env fs es)) (or_parts (is_var b.kind) (any_var es) none).0
    ∙ passes-none lexical m es env fs (or_parts (is_var b.kind) (any_var es) none).1
passes-none lexical m (event.Use node name ∷ es) env fs none = passes-none lexical m es env fs none

pub none_passes : (lexical : List Bound) (es : List Event) → any_var es ≡ false → false ≡ list_any (is_passing lexical) (resolved lexical es)
none_passes lexical es none = sym (passes-none lexical (entries_at lexical) es (replicate (count_names 0 lexical) None) [] none)

inside_none : (scope : ℕ) (o : Option ℕ) → is_inside [] scope o ≡ false
inside_none scope None = refl
inside_none scope (Some k) = refl

and_none : (a b : Bool) → b ≡ false → (a && b) ≡ false
and_none true b none = none
and_none false b none = refl

passing_none : (e : Event) (o : Option ℕ) → is_passing [] (record { event = e; symbol = o }) ≡ false
passing_none (event.Scope s) o = refl
passing_none (event.Open s) o = refl
passing_none event.Close o = refl
passing_none (event.Bind b) o = and_none (is_var b.kind) (is_inside [] b.scope.0 o) (inside_none b.scope.0 o)
passing_none (event.Use node name) o = refl

any_none : (xs : List Answer) → list_any (is_passing []) xs ≡ false
any_none [] = refl
any_none (x ∷ xs) = λ i. passing_none x.event x.symbol i || any_none xs i

-- No `var` passes a lexical name if there is none.
pub none_lexical : (lexical : List Bound) (es : List Event) → lexical ≡ [] → false ≡ list_any (is_passing lexical) (resolved lexical es)
none_lexical lexical es none = sym (ap (λ l. list_any (is_passing l) (resolved lexical es)) none ∙ any_none (resolved lexical es))
