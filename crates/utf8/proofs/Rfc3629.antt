-- For a user: what `is_utf8` takes is UTF-8 by RFC 3629, on the definition that its contract names.
--
-- Promised, for every list of numbers: `utf8`, which is the grammar of the RFC's section 4, byte by byte, holds exactly where the list is
-- the encodings, by the table of section 3, of numbers up to U+10FFFF that are no surrogates, one after the other. So the two sections
-- say the same, and each number has the shortest form only, since the table gives it one.
-- Not promised: that a number is assigned, printable or a character at all. NUL, noncharacters and a byte order mark are good anywhere.
-- Ruled out: a test that takes an overlong form, a surrogate, a number above U+10FFFF, a byte 80 to BF that no first byte asks for, or a
-- character that is cut off; and one that refuses any text that is none of these.
-- Assumes nothing, not even that the numbers are bytes: `utf8` refuses what is above F4.
use Prim.Native.Nat.{ℕ}
use mathlib.Core.Path.{◌≡◌, sym, ap, ◌∙◌}
use mathlib.Core.Bool.{true}
use mathlib.Core.Logic.{◌↔◌}
use mathlib.Core.List.{List}
use native.Mathlib.Omega.{arith}
use lib.ListN.{length}
use Rattle.utf8.specs.Grammar.{utf8}
use Rattle.utf8.specs.Encoding.{Utf8}
use Rattle.utf8.proofs.Accepted.{accepted}
use Rattle.utf8.proofs.Decoded.{decoded}

pub rfc3629 : (x : List ℕ) → (utf8 x ≡ true) ↔ Utf8 x
rfc3629 x = (decoded (length x) x (omega arith), λ k. sym (ap utf8 k.2) ∙ accepted k.1)
