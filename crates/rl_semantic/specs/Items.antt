-- Items that may be absent.
use Rattle.std.specs.Prelude.{Option, Some, None}

-- The value of a function at an item, or `other` where there is none.
abbrev pub of_item : {X Y : Type 0} → (other : Y) → (X → Y) → Option X → Y
of_item other f None = other
of_item other f (Some x) = f x
