use Rattle.std.proofs.Common.{◌≡◌, ◌-◌, ◌≤◌, ◌++◌, drop, length}
use Rattle.rl_text.specs.Quoted.{quoted_rest}
use Rattle.rl_text.specs.ByteClasses.{is_plain}
use Rattle.rl_text.specs.Places.{StopsAt}
use Rattle.rl_text.proofs.quoted.write_rest.Given as goal

abbrev pub invariant-writing : goal.invariant-writing
invariant-writing l = record {
  within : l.end ≤ length l.text;
  stopped : StopsAt is_plain (drop l.end l.text);
  written : l.out.items ++ quoted_rest (drop l.end l.text) ≡ l.fn.out.items ++ quoted_rest l.text;
}

abbrev pub decreases-writing : goal.decreases-writing
decreases-writing l = length l.text - l.end
