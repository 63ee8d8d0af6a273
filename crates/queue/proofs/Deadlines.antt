-- The order of due times: irreflexive and asymmetric; where x is before b and y is not, x is before y.
-- Assumes nothing.
use mathlib.Core.Path.{◌≡◌, refl}
use mathlib.Core.Bool.{true, false, true≢false, false≢true}
use native.Mathlib.Omega.{arith}
use borrow.Author.Tests.{lt-ltb, le-ltb, ltb-true, ltb-false}
use Rattle.queue.specs.Due.{Due, at, never, earlier}

pub earlier_self : (x : Due) → earlier x x ≡ false
earlier_self never = refl
earlier_self (at m) = le-ltb m m (omega arith)

pub earlier_back : (x y : Due) → earlier x y ≡ true → earlier y x ≡ false
earlier_back never y e = absurd (false≢true e)
earlier_back (at m) never e = refl
earlier_back (at m) (at n) e = le-ltb n m (omega (arith, ltb-true m n e))

pub earlier_past : (x b y : Due) → earlier x b ≡ true → earlier y b ≡ false → earlier x y ≡ true
earlier_past never b y e f = absurd (false≢true e)
earlier_past (at m) never never e f = refl
earlier_past (at m) never (at n) e f = absurd (true≢false f)
earlier_past (at m) (at p) never e f = refl
earlier_past (at m) (at p) (at n) e f = lt-ltb m n (omega (arith, ltb-true m p e, ltb-false n p f))
