use Rattle.std.proofs.Common.{◌≡◌, ◌≤◌, ◌^◌, drop}
use Rattle.std.specs.List.{list_all}
use Rattle.std.specs.Char.{is_ascii_digit}
use Rattle.rl_text.proofs.Numbers.{read_on}
use Rattle.rl_text.proofs.number.read_digits.Given as goal

abbrev pub invariant-read : goal.invariant-read
invariant-read l = record {
  rest : read_on l.value (drop l.digit-index l.text) ≡ read_on 0 l.text;
  digits : list_all is_ascii_digit (drop l.digit-index l.text) ≡ list_all is_ascii_digit l.text;
  small : l.value ≤ 2 ^ 53;
}
