-- Words that spell the arguments of `trace`.
use Rattle.std.proofs.Common.{◌≡◌, ℕ, ◌<◌, ◌≤◌, List, [], ◌∷◌, Option, Some, None, Result, Ok, Err, IfOk, IfSome, IfNone}
use Rattle.std.proofs.Common.{codes, get_or, length, refl, ap, sym, subst, arith}
use Rattle.react_lower.specs.Traced.{AreWords}
use Rattle.rl_trace_text.specs.RunWords.{AreOnlyArguments, SpellArguments}
use Rattle.rl_trace_text.specs.declared.words.Arguments.{Arguments}

-- The value of an Ok: one fact of it from another.
pub ok_so : {X E : Type 0} {P Q : X → Type 0} (r : Result X E) → IfOk r P → ((x : X) → P x → Q x) → IfOk r Q
ok_so (Ok x) p f = f x p
ok_so (Err e) p f = tt

-- The arguments that words spell, where these are the words of `trace`.

pub trace_found : (words : List (List ℕ)) (function start args answers : List ℕ)
    → words ≡ codes "trace" ∷ function ∷ start ∷ args ∷ answers ∷ [] → (o : Option Arguments)
    → IfSome o (SpellArguments function start args answers) → IfSome o (AreWords words)
trace_found words function start args answers is None spelled = tt
trace_found words function start args answers is (Some a) spelled = subst (λ (w : List (List ℕ)). AreWords w a) (sym is) (refl, spelled)

pub trace_only : (words : List (List ℕ)) (function start args answers : List ℕ)
    → words ≡ codes "trace" ∷ function ∷ start ∷ args ∷ answers ∷ [] → (o : Option Arguments)
    → IfSome o (AreOnlyArguments function start args answers)
    → IfSome o (λ a. (other : Arguments) → AreWords words other → other ≡ a)
trace_only words function start args answers is None only = tt
trace_only words function start args answers is (Some a) only =
    λ other spelled. only other (subst (λ (w : List (List ℕ)). AreWords w other) is spelled).1

pub trace_none : (words : List (List ℕ)) (function start args answers : List ℕ)
    → words ≡ codes "trace" ∷ function ∷ start ∷ args ∷ answers ∷ [] → (o : Option Arguments)
    → IfNone o ((a : Arguments) → SpellArguments function start args answers a → ⊥)
    → IfNone o ((a : Arguments) → AreWords words a → ⊥)
trace_none words function start args answers is None none =
    λ a spelled. none a (subst (λ (w : List (List ℕ)). AreWords w a) is spelled).1
trace_none words function start args answers is (Some a) none = tt

-- A list of one item.
pub alone : {X : Type 0} (items : List X) (item : X) → 1 ≤ length items → length items < 2 → item ≡ get_or items 0 item → items ≡ item ∷ []
alone [] item low high first = absurd (omega arith)
alone (other ∷ []) item low high first = ap (λ t. t ∷ []) (sym first)
alone (other ∷ more ∷ rest) item low high first = absurd (omega arith)

-- A list of five items.
pub five : {X : Type 0} (items : List X) (a b c d e : X) → 5 ≤ length items → length items < 6 → a ≡ get_or items 0 a → b ≡ get_or items 1 b
    → c ≡ get_or items 2 c → d ≡ get_or items 3 d → e ≡ get_or items 4 e → items ≡ a ∷ b ∷ c ∷ d ∷ e ∷ []
five [] a b c d e low high pa pb pc pd pe = absurd (omega arith)
five (v ∷ []) a b c d e low high pa pb pc pd pe = absurd (omega arith)
five (v ∷ w ∷ []) a b c d e low high pa pb pc pd pe = absurd (omega arith)
five (v ∷ w ∷ x ∷ []) a b c d e low high pa pb pc pd pe = absurd (omega arith)
five (v ∷ w ∷ x ∷ y ∷ []) a b c d e low high pa pb pc pd pe = absurd (omega arith)
five (v ∷ w ∷ x ∷ y ∷ z ∷ []) a b c d e low high pa pb pc pd pe =
    λ i. sym pa i ∷ sym pb i ∷ sym pc i ∷ sym pd i ∷ sym pe i ∷ []
five (v ∷ w ∷ x ∷ y ∷ z ∷ more ∷ rest) a b c d e low high pa pb pc pd pe = absurd (omega arith)

-- Arguments that were found alone.
pub only_some : (AreSpelled : Arguments → Type 0) (o : Option Arguments) (a : Arguments) → o ≡ Some a
    → IfSome o (λ (b : Arguments). (other : Arguments) → AreSpelled other → other ≡ b)
    → (other : Arguments) → AreSpelled other → other ≡ a
only_some AreSpelled o a is only =
    subst (λ (o : Option Arguments). IfSome o (λ (b : Arguments). (other : Arguments) → AreSpelled other → other ≡ b)) is only
