use Rattle.std.proofs.Common.{◌≡◌, drop}
use Rattle.std.specs.Char.{is_digit}
use Rattle.std.specs.List.{list_all}
use Rattle.rl_lint.proofs.stems.are_digits.Given as goal

abbrev pub invariant-bytes : goal.invariant-bytes
invariant-bytes l = list_all (λ digit. is_digit digit 10) (drop l.byte-index l.bytes) ≡ list_all (λ digit. is_digit digit 10) l.bytes
