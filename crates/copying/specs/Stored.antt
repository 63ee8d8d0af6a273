-- What is stored in an output, and whether there is room for it
use Rattle.std.specs.Prelude.{ℕ, ◌+◌, Bool, cond, List, ◌++◌, leb, length, take, drop}

-- there is room for `x` in `out` from place `at`
abbrev pub fits : List ℕ → ℕ → List ℕ → Bool
fits out at x = leb (at + length x) (length out)

-- `out` with `x` from place `at`; unchanged where there is no room
unfoldable pub stored : List ℕ → ℕ → List ℕ → List ℕ
stored out at x = cond (fits out at x) (take at out ++ x ++ drop (at + length x) out) out
