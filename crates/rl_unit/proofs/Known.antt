-- Units that were read, where the bytes that were left may not be known.
use Rattle.std.proofs.Common.{◌≡◌, ◌≢◌, inl, inr, ℕ, List, Option, Some, None, IfSome, sym, subst, take}
use Rattle.rl_ast.proofs.Units.{one_unit}
use Rattle.rl_ast.specs.Units.{Spells}
use Rattle.rl_unit.specs.Known.{IsCompleteBy, IsKnown, RefusesUnit, WritesBy}
use Rattle.rl_semantic.specs.Rules.{least_broken}
use Rattle.rl_syntax.specs.Limits.{IsTooLarge, most_read}
use Rattle.rl_syntax.specs.Syntax.{Syntax}
use Rattle.rl_unit.proofs.Answering.{all_read, refusal_complete, within_bytes}
use Rattle.rl_unit.specs.Answers.{BreaksRules, RefusesKnown}
use Rattle.rl_unit.specs.declared.run.Status.{Status}
use Rattle.rl_unit.specs.declared.run.Status.TheVariants.{Done, Reported, Malformed, TooLarge, ReadFault, WriteFault, OutOfMemory, Usage}

-- Bytes that were read within the limit are all that were left.
pub known_left : (left : Option (List ℕ)) (bytes : List ℕ) (u : Syntax) → IfSome left (λ known. bytes ≡ take most_read known)
    → IsKnown (Some bytes) u → IsKnown left u
known_left None bytes u first k = record { spelled = tt; within = tt }
known_left (Some known) bytes u first k =
    let same : bytes ≡ known = all_read (Some known) bytes first (within_bytes bytes k.within) in
    record { spelled = subst (λ b. Spells b u) same k.spelled; within = subst (λ b. IsTooLarge b → ⊥) same k.within }

-- Bytes whose unit breaks a rule are malformed.
pub broken_known : (left : Option (List ℕ)) (u : Syntax) → IsKnown left u → least_broken u ≢ None → RefusesKnown left Malformed
broken_known None u k broken = record { no_output = tt; refuses = tt }
broken_known (Some known) u k broken = record {
  no_output = tt;
  refuses = record {
    within = k.within;
    no_unit = λ v spells. record { broken = subst (λ (s : Syntax). least_broken s ≢ None) (one_unit known u v k.spelled spells) broken };
  };
}

nothing_left : (left : Option (List ℕ)) → IfSome left (λ known. Unit {0})
nothing_left None = tt
nothing_left (Some known) = tt

-- The statuses of a unit that has no output: it breaks a rule, or an allocation failed.
pub refused_known : (left : Option (List ℕ)) (u : Syntax) (status : Status) → IsKnown left u
    → RefusesUnit u status → RefusesKnown left status
refused_known left u status k (inl broken) = subst (RefusesKnown left) (sym broken.0) (broken_known left u k broken.1)
refused_known left u status k (inr memory) =
    subst (RefusesKnown left) (sym memory) (record { no_output = tt; refuses = nothing_left left })

-- A fact about the unit that was read holds of each unit that the bytes spell.
pub complete_by : (IsOutput : Status → Syntax → List ℕ → Type 0) (IsAnswer : Syntax → Status → Type 0)
    → ((status : Status) (u : Syntax) (text : List ℕ) → IsOutput status u text → IsAnswer u status)
    → (left : Option (List ℕ)) (status : Status) (text : List ℕ) → WritesBy IsOutput left status text → IsCompleteBy IsAnswer left status
complete_by IsOutput IsAnswer answers left status text w = record {
  answers = λ bytes u is within spells.
      let read : Spells bytes w.source = subst (λ o. IfSome o (λ known. Spells known w.source)) is w.known.spelled in
      subst (λ (s : Syntax). IsAnswer s status) (one_unit bytes w.source u read spells) (answers status w.source text w.is_output);
}

-- The statuses that say nothing of a unit, and that of a unit that breaks a rule.
pub record FitsRefusals (IsAnswer : Syntax → Status → Type 0) : Type 0 where
  pub malformed : (u : Syntax) → BreaksRules u → IsAnswer u Malformed
  pub read : (u : Syntax) → IsAnswer u ReadFault
  pub memory : (u : Syntax) → IsAnswer u OutOfMemory

-- A status without output, of bytes within the limits, is the answer to each unit that they spell.
pub refusal_by : (IsAnswer : Syntax → Status → Type 0) → FitsRefusals IsAnswer → (left : Option (List ℕ)) (status : Status)
    → RefusesKnown left status → IsCompleteBy IsAnswer left status
refusal_by IsAnswer fits left Malformed r =
    record { answers = λ bytes u is within spells. fits.malformed u ((refusal_complete left Malformed r).answers bytes u is within spells) }
refusal_by IsAnswer fits left TooLarge r =
    record { answers = λ bytes u is within spells. absurd ((refusal_complete left TooLarge r).answers bytes u is within spells) }
refusal_by IsAnswer fits left ReadFault r = record { answers = λ bytes u is within spells. fits.read u }
refusal_by IsAnswer fits left OutOfMemory r = record { answers = λ bytes u is within spells. fits.memory u }
refusal_by IsAnswer fits left Usage r = absurd r.no_output
refusal_by IsAnswer fits left Reported r = absurd r.no_output
refusal_by IsAnswer fits left Done r = absurd r.no_output
refusal_by IsAnswer fits left WriteFault r = absurd r.no_output
