-- `has_room` meets its contract. The sum of place and size is within the length exactly if the size is within what the place leaves.
use Prim.Native.Nat.{ℕ, ◌+◌, ◌-◌, ◌<◌, ◌≤◌}
use mathlib.Core.Path.{◌≡◌, refl, sym, ◌∙◌}
use mathlib.Core.Bool.{Bool, true, false}
use lib.Dec.{leb}
use native.Mathlib.Omega.{arith}
use borrow.Author.Tests.{le-leb, lt-leb, leb-true, leb-false}
use Rattle.copying.proofs.has_room.Goals as goal

sooner : (at size len : ℕ) → at ≤ len → leb size (len - at) ≡ leb (at + size) len
sooner at size len h = by (leb size (len - at)) refl
  where
    by : (b : Bool) → leb size (len - at) ≡ b → leb size (len - at) ≡ leb (at + size) len
    by true e = e ∙ sym (le-leb (at + size) len (omega (arith, leb-true size (len - at) e)))
    by false e = e ∙ sym (lt-leb (at + size) len (omega (arith, leb-false size (len - at) e)))

past : (at size len : ℕ) → len < at → false ≡ leb (at + size) len
past at size len h = sym (lt-leb (at + size) len (omega arith))

pub returns-then-at-out : goal.returns-then-at-out
returns-then-at-out c =
    sooner _ _ _ c.if-at-out.true

pub returns-else-at-out : goal.returns-else-at-out
returns-else-at-out c =
    past _ _ _ c.if-at-out.false
