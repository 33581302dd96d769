use Rattle.std.proofs.Common.{◌≡◌, ◌+◌, ◌≤◌, ◌<◌, length, take, get_or}
use Rattle.std.specs.List.{suffix_len}
use Rattle.rl_jsx.specs.JsxTexts.{is_space}
use Rattle.rl_jsx.proofs.trim.without_trailing_spaces.Given as goal

abbrev pub invariant-skipping : goal.invariant-skipping
invariant-skipping l = record {
  within : l.end ≤ length l.line;
  passed : l.end + suffix_len is_space l.line ≡ length l.line + suffix_len is_space (take l.end l.line);
  ascii : l.end < length l.line → get_or l.line l.end 0 < 128;
}

abbrev pub decreases-skipping : goal.decreases-skipping
decreases-skipping l = l.end
