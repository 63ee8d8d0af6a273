-- A chain of rules: the first that is broken gives its number.
-- Assumes nothing: this is a definition.
use Rattle.std.specs.Prelude.{ℕ, Bool, cond}

-- the number where the rule is broken, else what the later rules say
abbrev pub unless : Bool → ℕ → ℕ → ℕ
unless ok code later = cond ok later code
