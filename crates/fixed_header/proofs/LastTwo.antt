-- Promised (document 02, P2): the last two bytes of a fixed header are judged by no rule. Of two lists of one length that agree on their
-- first 14 bytes both have the same error code under every ceiling (`last_two_ignored`). If they agree on byte 15, too, they say the same: byte 16 is not
-- looked at (`byte_16_unparsed`). The version is byte 15 (`version_is_byte_15`).
-- Not promised: that lists that differ in byte 15 say the same; it is the version.
-- Ruled out: a check that refuses a version, and one that looks at byte 16; a version that is only some bits of byte 15.
-- Assumes nothing.
use Prim.Native.Nat.{ℕ, ◌+◌, ◌^◌, ◌<◌}
use mathlib.Core.Path.{◌≡◌, sym, ap, ◌∙◌}
use mathlib.Core.List.{List}
use native.Mathlib.Omega.{arith}
use lib.ListN.{length, take, get_or, length-take}
use lib.Seq.{get_or-take, take-take}
use Rattle.fixed_header.specs.Header.{be16_of, be32_of, total_of, header_size_of, id_of, version_of, fault_of, header_error, parsed}

module _ (a b : List ℕ) (agree : take 14 a ≡ take 14 b) where
  pub same_byte : (i : ℕ) → i < 14 → get_or a i 0 ≡ get_or b i 0
  same_byte i h = sym (get_or-take 14 a i 0 h) ∙ ap (λ (l : List ℕ). get_or l i 0) agree ∙ get_or-take 14 b i 0 h

  same_16 : (at : ℕ) → at + 1 < 14 → be16_of a at ≡ be16_of b at
  unfolding be16_of
  same_16 at h = rw (same_byte at (omega arith), same_byte (at + 1) h)

  same_32 : (at : ℕ) → at + 3 < 14 → be32_of a at ≡ be32_of b at
  unfolding be32_of
  same_32 at h = rw (same_16 at (omega arith), same_16 (at + 2) (omega arith))

  pub same_total : total_of a ≡ total_of b
  unfolding total_of
  same_total = same_32 4 (omega arith)

  pub same_header_size : header_size_of a ≡ header_size_of b
  unfolding header_size_of
  same_header_size = same_16 8 (omega arith)

  pub same_id : id_of a ≡ id_of b
  unfolding id_of
  same_id = same_32 10 (omega arith)

  same_fault : (c : ℕ) → fault_of c a ≡ fault_of c b
  unfolding fault_of
  same_fault c =
      rw (
        same_byte 0 (omega arith),
        same_byte 1 (omega arith),
        same_byte 2 (omega arith),
        same_byte 3 (omega arith),
        same_total,
        same_header_size,
      )

  pub last_two_ignored : (c : ℕ) → length a ≡ length b → header_error c a ≡ header_error c b
  unfolding header_error
  last_two_ignored c e = rw (e, same_fault c)

-- the same of the first 16 bytes of longer lists
module _ (a b : List ℕ) (long : length a ≡ length b) (agree : take 14 a ≡ take 14 b) where
  front : take 14 (take 16 a) ≡ take 14 (take 16 b)
  front = take-take 14 16 a (omega arith) ∙ agree ∙ sym (take-take 14 16 b (omega arith))

  pub first_error : (c : ℕ) → header_error c (take 16 a) ≡ header_error c (take 16 b)
  first_error c = last_two_ignored (take 16 a) (take 16 b) front c (omega (arith, length-take 16 a, length-take 16 b, long))

  pub first_total : total_of (take 16 a) ≡ total_of (take 16 b)
  first_total = same_total (take 16 a) (take 16 b) front

module _ (a b : List ℕ) (agree : take 15 a ≡ take 15 b) where
  pub same_14 : take 14 a ≡ take 14 b
  same_14 = sym (take-take 14 15 a (omega arith)) ∙ ap (take 14) agree ∙ take-take 14 15 b (omega arith)

  pub same_version : version_of a ≡ version_of b
  unfolding version_of
  same_version =
      let byte : get_or a 14 0 ≡ get_or b 14 0
      = sym (get_or-take 15 a 14 0 (omega arith)) ∙ ap (λ (l : List ℕ). get_or l 14 0) agree ∙ get_or-take 15 b 14 0 (omega arith) in
      rw byte

  pub byte_16_unparsed : (c : ℕ) → length a ≡ length b → parsed c a ≡ parsed c b
  unfolding parsed
  byte_16_unparsed c e =
      rw (
        last_two_ignored a b same_14 c e,
        same_byte a b same_14 2 (omega arith),
        same_byte a b same_14 3 (omega arith),
        same_total a b same_14,
        same_header_size a b same_14,
        same_id a b same_14,
        same_version,
      )

pub version_is_byte_15 : (h : List ℕ) → get_or h 14 0 < 2 ^ 8 → version_of h ≡ get_or h 14 0
unfolding version_of
version_is_byte_15 h byte = omega (arith, byte)
