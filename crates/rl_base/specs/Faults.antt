-- Counts of faults and of calls, as 64-bit numbers that stand still at their greatest value.
use Rattle.std.specs.Prelude.{ℕ, ◌+◌, ◌-◌, ◌^◌, ◌≤◌, min}

-- The count after `count`: one more, up to 2^64 - 1.
abbrev pub next_count : (count : ℕ) → ℕ
next_count count = min (count + 1) (2 ^ 64 - 1)

-- The count of faults rose from `before` to `now`, or stands at 2^64 - 1.
abbrev pub Rose : (before now : ℕ) → Type 0
Rose before now = next_count before ≤ now
