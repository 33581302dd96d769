-- All that is promised of parameters and of a body, from their derivations.
use Rattle.std.proofs.Common.{◌≡◌, List, []}
use Rattle.rl_hir.specs.declared.function.Param.{Param}
use Rattle.rl_lowered.proofs.Blocks.{body_blocks, params_blocks}
use Rattle.rl_lowered.proofs.Common.{Names, Pieces, State, Syntax}
use Rattle.rl_lowered.proofs.Listing.{body_lists, params_lists}
use Rattle.rl_lowered.proofs.Names.{body_names, params_names}
use Rattle.rl_lowered.proofs.ParamRuns.{params_runs}
use Rattle.rl_lowered.proofs.PatternLives.{params_lives}
use Rattle.rl_lowered.proofs.PatternTallies.{params_tallies}
use Rattle.rl_lowered.proofs.Refused.{body_refused, params_refused}
use Rattle.rl_lowered.proofs.Respanned.{body_respans}
use Rattle.rl_lowered.proofs.Sizes.{body_size, params_size}
use Rattle.rl_lowered.proofs.SoundPatterns.{params_sound}
use Rattle.rl_lowered.proofs.SoundStatements.{body_sound}
use Rattle.rl_lowered.proofs.StatementLives.{body_lives}
use Rattle.rl_lowered.proofs.StatementRuns.{body_runs}
use Rattle.rl_lowered.proofs.Steps.{body_steps, params_steps}
use Rattle.rl_lowered.proofs.StatementTallies.{body_tallies}
use Rattle.rl_lowered.proofs.Unread.{body_unread, params_unread}
use Rattle.rl_lowered.specs.Lowered.{LoweredBody, LoweredParams}
use Rattle.rl_lowered.specs.Named.{IsNamed}
use Rattle.rl_lowered.specs.Promised.{LowersBody, LowersParams}
use Rattle.rl_lowered.specs.Sound.{AreSmallTrees, IsSmallTree}

-- The names are told before the parameters.
pub told_params : {names : Names} {es : Pieces} {rest : Syntax} {s t : State} {ps : List Param} → IsNamed names s
    → LoweredParams names es rest s t ps → LowersParams names es rest s t ps
told_params {names} {es} {rest} named l = record {
  by = l;
  names_kept = params_names l;
  size = params_size l;
  blocks = params_blocks l;
  lists = params_lists l;
  unread = (params_unread l).keeps;
  steps = params_steps l;
  refused = params_refused l;
  tallies = λ none key held. params_tallies names key held l none;
  lives = λ none. params_lives l none;
  sound = (params_sound (AreSmallTrees es × IsSmallTree rest) named.knows l (λ small. small.0) (λ small. small.1)).stays;
  runs = λ none scene same ported takes. params_runs l none scene same ported takes;
}

-- The names are told before the body, and no handler is open there.
pub told_body : {names : Names} {b : Syntax} {s t : State} → IsNamed names s → s.handlers ≡ [] → LoweredBody names b s t
    → LowersBody names b s t
told_body {names} named unhandled l = record {
  by = l;
  names_kept = body_names l;
  respans = body_respans l;
  size = body_size l;
  blocks = body_blocks l;
  lists = body_lists l;
  unread = body_unread l;
  steps = body_steps l;
  refused = body_refused unhandled l;
  tallies = λ none key held. body_tallies names key held l none;
  lives = λ none. body_lives l none;
  sound = body_sound named.knows l;
  runs = λ none unused scene same ported. body_runs unhandled l none unused scene same ported;
}
