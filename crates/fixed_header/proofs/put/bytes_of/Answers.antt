-- Byte by byte, the definition's.
use Prim.Native.Nat.{ℕ, ◌+◌, ◌*◌, ◌/◌, ◌%◌, ◌<◌}
use mathlib.Core.Path.{◌≡◌, ap, ◌∙◌}
use native.Mathlib.Omega.{arith}
use borrow.Author.Rules.{rules}
use Rattle.fixed_header.specs.Put.{fixed_header, put16, put32}
use Rattle.std.specs.Int.{w16, w32, to_be_bytes, to_le_bytes, swap_bytes}
use Rattle.fixed_header.proofs.put.bytes_of.Goals as goal

high_first : (n : ℕ) → to_be_bytes w32 (n % 4294967296) ≡ put32 n
high_first n =
    let a : n % 4294967296 / 16777216 % 256 ≡ n / 65536 / 256 % 256 = omega arith in
    let b : n % 4294967296 / 65536 % 256 ≡ n / 65536 % 256 = omega arith in
    let c : n % 4294967296 / 256 % 256 ≡ n % 65536 / 256 % 256 = omega arith in
    let d : n % 4294967296 % 256 ≡ n % 65536 % 256 = omega arith in rw (a, b, c, d)

small : (n : ℕ) → n < 4294967296 → to_be_bytes w32 n ≡ put32 n
small n h = let same : n ≡ n % 4294967296 = omega arith in ap (to_be_bytes w32) same ∙ high_first n

turned : (n : ℕ) → to_le_bytes w32 (swap_bytes w32 n) ≡ to_be_bytes w32 n
turned n =
    let m = n % 256 * 16777216 + n / 256 % 256 * 65536 + n / 65536 % 256 * 256 + n / 16777216 % 256 in
    let same : swap_bytes w32 n ≡ m = omega arith in
    let a : m % 256 ≡ n / 16777216 % 256 = omega arith in
    let b : m / 256 % 256 ≡ n / 65536 % 256 = omega arith in
    let c : m / 65536 % 256 ≡ n / 256 % 256 = omega arith in
    let d : m / 16777216 % 256 ≡ n % 256 = omega arith in rw (same, a, b, c, d)

pair : (n : ℕ) → to_be_bytes w16 (n % 65536) ≡ put16 n
pair n =
    let a : n % 65536 / 256 % 256 ≡ n / 256 % 256 = omega arith in
    let b : n % 65536 % 256 ≡ n % 256 = omega arith in rw (a, b)

pub returns : goal.returns
unfolding fixed_header
returns c =
    let h = c.args.header in
    let version_is : h.version ≡ h.version % 256 = let byte : h.version < 256 = search rules in omega arith in
    rw (
      c.data_type.ensures,
      c.stream_type.ensures,
      c.to_le_bytes-total.ensures ∙ ap (to_le_bytes w32) c.swap_bytes.ensures ∙ turned _ ∙ high_first h.total,
      c.to_be_bytes-size.ensures ∙ pair h.header_size,
      c.to_le_bytes-id.ensures ∙ ap (to_le_bytes w32) c.swap_bytes-2.ensures ∙ turned _ ∙ small h.id (search rules),
      ← version_is,
    )
