-- One number of both bytes is that of the magic exactly if each byte is, since the second is below 256.
use Prim.Native.Nat.{ℕ, ◌+◌, ◌*◌, ◌<◌}
use mathlib.Core.Path.{◌≡◌, ap, ◌∙◌}
use mathlib.Core.Bool.{◌&&◌}
use native.Mathlib.Omega.{arith}
use native.Mathlib.Decide.{ℕ_discrete}
use borrow.Author.Rules.{rules}
use borrow.Author.Tests.{eq-eqb, ne_eqb}
use lib.Dec.{eqb}
use Rattle.fixed_header.specs.Header.{magic_ok}
use Rattle.fixed_header.proofs.header.magic_ok.Goals as goal

at_once : (first second : ℕ) → second < 256 → eqb (first * 256 + second) 0x0930 ≡ eqb first 0x09 && eqb second 0x30
at_once first second low = by (ℕ_discrete first 0x09) (ℕ_discrete second 0x30)
  where
    by : Dec (first ≡ 0x09) → Dec (second ≡ 0x30) → eqb (first * 256 + second) 0x0930 ≡ eqb first 0x09 && eqb second 0x30
    by (yes p) (yes q) = rw (eq-eqb first 0x09 p, eq-eqb second 0x30 q) (eq-eqb (first * 256 + second) 0x0930 (omega arith))
    by (yes p) (no q) = rw (eq-eqb first 0x09 p, ne_eqb second 0x30 q) (ne_eqb (first * 256 + second) 0x0930 (λ e. q (omega arith)))
    by (no p) q = rw (ne_eqb first 0x09 p) (ne_eqb (first * 256 + second) 0x0930 (λ e. p (omega arith)))

pub returns : goal.returns
unfolding magic_ok
returns c =
    ap (λ (n : ℕ). eqb n 0x0930) c.from_be_bytes.ensures ∙ at_once c.args.first c.args.second (search rules)
