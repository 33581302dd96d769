use Rattle.std.proofs.Common.{◌≡◌, ◌+◌, ◌-◌, ◌≤◌, ◌<◌, length, drop, get_or}
use Rattle.std.specs.List.{prefix_len}
use Rattle.rl_jsx.specs.JsxTexts.{is_space}
use Rattle.rl_jsx.proofs.trim.without_leading_spaces.Given as goal

abbrev pub invariant-skipping : goal.invariant-skipping
invariant-skipping l = record {
  within : l.start ≤ length l.line;
  passed : l.start + prefix_len is_space (drop l.start l.line) ≡ prefix_len is_space l.line;
  ascii : 0 < l.start → get_or l.line (l.start - 1) 0 < 128;
}

abbrev pub decreases-skipping : goal.decreases-skipping
decreases-skipping l = length l.line - l.start
