-- Unicode scalar values.
use Rattle.std.specs.Prelude.{ℕ, Bool, not, ◌&&◌, nat_le}

-- True of a code point, from 0 to 1,114,111, that is no surrogate, from 55,296 to 57,343.
abbrev pub is_scalar_value : ℕ → Bool
is_scalar_value value = nat_le value 1114111 && not (nat_le 55296 value && nat_le value 57343)
