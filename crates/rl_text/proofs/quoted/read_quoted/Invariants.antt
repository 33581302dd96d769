use Rattle.std.proofs.Common.{◌-◌, ◌≤◌, drop, length}
use Rattle.rl_text.specs.ByteClasses.{is_plain}
use Rattle.rl_text.specs.Places.{StopsAt}
use Rattle.rl_text.proofs.Quotes.{ReadsText}
use Rattle.rl_text.proofs.quoted.read_quoted.Given as goal

abbrev pub invariant-reading : goal.invariant-reading
invariant-reading l = record {
  forward : l.at ≤ l.end;
  within : l.end ≤ length l.bytes;
  stopped : StopsAt is_plain (drop l.end l.bytes);
  reads : ReadsText l.bytes l.at l.end l.text.items;
}

abbrev pub decreases-reading : goal.decreases-reading
decreases-reading l = length l.bytes - l.end
