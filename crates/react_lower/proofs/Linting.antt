-- The output of `lint` for a unit, and its answers.
use Rattle.std.proofs.Common.{◌≡◌, ℕ, None, List, subst}
use Rattle.rl_unit.proofs.Known.{FitsRefusals}
use Rattle.react_lower.specs.Linted.{IsLinted, IsLintAnswer, IsLintOutput, text_of}
use Rattle.rl_lint.specs.Findings.{Lists}
use Rattle.rl_lint.specs.Rules.{findings, findings_in}
use Rattle.rl_lint.specs.Tables.{Tables, tables, tables_in}
use Rattle.rl_lint.specs.declared.finding.Finding.{Finding}
use Rattle.rl_semantic.specs.declared.semantic.Semantic.{Semantic}
use Rattle.rl_syntax.specs.Syntax.{Syntax}
use Rattle.rl_unit.specs.declared.run.Status.{Status}
use Rattle.rl_unit.specs.declared.run.Status.TheVariants.{Done, Reported, Malformed, TooLarge, ReadFault, WriteFault, OutOfMemory, Usage}
use Rattle.rl_worlds.specs.Units.{IsSemanticOf}

-- The tables that the rules read are the unit's.
same_tables : (s : Semantic) (u : Syntax) → IsSemanticOf s u → tables s.bindings ≡ tables_in u
same_tables s u is = λ i. record {
  names = is.names i;
  scopes = is.scopes i;
  symbols = is.symbols i;
  declarations = is.declarations i;
  references = is.references i;
}

pub lint_output : (s : Semantic) (u : Syntax) (found : List Finding) (text : List ℕ) → IsSemanticOf s u
    → Lists (findings (tables s.bindings) u) found
    → text ≡ text_of found → IsLinted u text
lint_output s u found text is lists written = record {
  rules = is.rules;
  listed = found;
  lists = subst (λ (t : Tables). Lists (findings t u) found) (same_tables s u is) lists;
  written = written;
}

pub ruleset linted = (lint_output)

pub lint_answers : (status : Status) (u : Syntax) (text : List ℕ) → IsLintOutput status u text → IsLintAnswer u status
lint_answers Done u text is = record { rules = is.rules }
lint_answers Reported u text is = absurd is
lint_answers Malformed u text is = absurd is
lint_answers TooLarge u text is = absurd is
lint_answers ReadFault u text is = absurd is
lint_answers WriteFault u text is = absurd is
lint_answers OutOfMemory u text is = absurd is
lint_answers Usage u text is = absurd is

pub lint_fits : FitsRefusals IsLintAnswer
lint_fits = record { malformed = λ u broken. broken; read = λ u. tt; memory = λ u. tt }
