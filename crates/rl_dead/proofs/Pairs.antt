-- Pairs in options.
use Rattle.std.proofs.Common.{◌≡◌, Some, ap}
use Rattle.rl_code.proofs.Smaller.{unpacked}

pub first_of : {X Y : Type 0} (p q : X × Y) → Some p ≡ Some q → p.0 ≡ q.0
first_of {X} {Y} p q e = ap (λ (r : X × Y). r.0) (unpacked p q e)

pub second_of : {X Y : Type 0} (p q : X × Y) → Some p ≡ Some q → p.1 ≡ q.1
second_of {X} {Y} p q e = ap (λ (r : X × Y). r.1) (unpacked p q e)
