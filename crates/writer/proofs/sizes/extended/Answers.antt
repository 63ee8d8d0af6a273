-- Two's complement in 32 bits, then in 64.
use Prim.Native.Nat.{ℕ, ◌+◌, ◌%◌, ◌≤◌, ◌<◌}
use mathlib.Core.Path.{◌≡◌, refl, sym, ◌∙◌}
use native.Mathlib.Omega.{arith}
use borrow.Author.Tests.{lt-ltb, le-ltb, ne_eqb}
use Rattle.wire_read.specs.Varint.{twos_complement}
use Rattle.wire_write.specs.Writing.{sign_extended}
use Rattle.schema.specs.Schema.{int32}
use Rattle.writer.specs.Encoding.{wide}
use Rattle.writer.proofs.sizes.extended.Goals as goal

low : (v : ℕ) → v < 2147483648 → v ≡ wide int32 v
unfolding wide sign_extended twos_complement
low v h =
    let same : v % 4294967296 ≡ v = omega arith in
    rw (same, lt-ltb v 2147483648 h)

high : (v : ℕ) → 2147483648 ≤ v → v < 4294967296 → v + 18446744069414584320 ≡ wide int32 v
unfolding wide sign_extended twos_complement
high v h k =
    let same : v % 4294967296 ≡ v = omega arith in
    rw (same, le-ltb v 2147483648 h) (omega arith)

pub returns-then-v-lt2147483648 : goal.returns-then-v-lt2147483648
returns-then-v-lt2147483648 c =
    (low _ c.if-v-lt2147483648.true, refl)

pub returns : goal.returns
returns c =
    let v = c.args.v in
    (high _ c.if-v-lt2147483648.false (omega arith), ne_eqb _ 0 (omega arith) ∙ sym (ne_eqb v 0 (omega arith)))
