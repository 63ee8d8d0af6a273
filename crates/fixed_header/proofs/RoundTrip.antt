-- The round trip of the 16 bytes.
--
-- Promised: a header that keeps the rules of document 01 under a ceiling in range, with an id of 32 bits and a version of 8, is written as
-- 16 bytes that are read under that ceiling as that header.
-- Not promised: anything of another header. It is written by the low 32 bits of its total and the low 16 of its header size, so the bytes
-- may be those of a header that keeps the rules.
-- Ruled out: two headers that keep the rules and have the same 16 bytes.
use Prim.Native.Nat.{ℕ, ◌+◌, ◌*◌, ◌-◌, ◌/◌, ◌%◌, ◌^◌, ◌<◌, ◌≤◌}
use mathlib.Core.Path.{◌≡◌, refl, ◌∙◌}
use mathlib.Core.Bool.{Bool, true, false, cond}
use mathlib.Core.List.{List, [], ◌++◌}
use native.Mathlib.Omega.{arith}
use borrow.Author.Tests.{leb-true, eqb-true, eq-eqb}
use lib.Dec.{eqb, leb}
use lib.ListN.{length}
use Rattle.fixed_header.specs.Header.{max_frame, be16_of, be32_of, total_of, header_size_of, id_of, version_of, type_of, parsed}
use Rattle.fixed_header.specs.Header.{magic_ok, data_type_ok, stream_type_ok, total_ok, header_size_ok, fault_of, header_error}
use Rattle.fixed_header.specs.Put.{data_type_of, stream_type_of, fixed_header, Keeps}
use Rattle.fixed_header.specs.declared.FixedHeader.{FixedHeader}
use Rattle.fixed_header.specs.declared.FrameType.{FrameType}
use Rattle.fixed_header.specs.declared.FrameType.TheVariants.{Unary, Init, Data, Feedback, Close}
use Rattle.std.specs.Prelude.{Ok}
use Rattle.laws.proofs.Booleans.{both, passes}
use Rattle.fixed_header.proofs.Codes.{sixteen}

-- ---- "Numbers are big-endian"
sixteen_bits : (n : ℕ) → n < 65536 → n / 256 % 256 * 256 + n % 256 ≡ n
sixteen_bits n h = omega arith

thirty_two_bits : (n : ℕ) → n < 2 ^ 32
    → (n / 65536 / 256 % 256 * 256 + n / 65536 % 256) * 65536 + (n % 65536 / 256 % 256 * 256 + n % 65536 % 256) ≡ n
thirty_two_bits n h = omega arith

-- ---- the types of a frame type are good, and it is theirs
types_good : (t : FrameType) → (data_type_ok (data_type_of t) ≡ true) × (stream_type_ok (data_type_of t) (stream_type_of t) ≡ true)
unfolding data_type_ok stream_type_ok
types_good Unary = (refl, refl)
types_good Init = (refl, refl)
types_good Data = (refl, refl)
types_good Feedback = (refl, refl)
types_good Close = (refl, refl)

type_back : (t : FrameType) → type_of (data_type_of t) (stream_type_of t) ≡ t
unfolding type_of
type_back Unary = refl
type_back Init = refl
type_back Data = refl
type_back Feedback = refl
type_back Close = refl

pub sixteen_bytes : (h : FixedHeader) → length (fixed_header h) ≡ 16
unfolding fixed_header
sixteen_bytes h = refl

module _ (c : ℕ) (h : FixedHeader) (k : Keeps c h) where
  total_bounds : (16 ≤ h.total) × (h.total ≤ max_frame)
  unfolding total_ok
  total_bounds =
      let a = both (leb 16 h.total) (leb h.total c) k.total_good in
      (leb-true _ _ a.0, omega (arith, leb-true h.total c a.1, k.in_range))

  size_small : h.header_size < 65536
  unfolding header_size_ok
  size_small = by (eqb (data_type_of h.frame_type) 0) k.size_good
    where
      by : (unary : Bool) → cond unary (leb h.header_size (h.total - 16)) (eqb h.header_size 0) ≡ true → h.header_size < 65536
      by true e = let fits : h.header_size ≤ h.total - 16 = leb-true _ _ e in omega (arith, total_bounds)
      by false e = let none : h.header_size ≡ 0 = eqb-true _ _ e in omega arith

  -- its numbers, with anything after it
  module _ (rest : List ℕ) where
    pub total_back : total_of (fixed_header h ++ rest) ≡ h.total
    unfolding fixed_header total_of be32_of be16_of
    total_back = thirty_two_bits h.total (omega (arith, total_bounds))

    pub size_back : header_size_of (fixed_header h ++ rest) ≡ h.header_size
    unfolding fixed_header header_size_of be16_of
    size_back = sixteen_bits h.header_size size_small

    pub id_back : id_of (fixed_header h ++ rest) ≡ h.id
    unfolding fixed_header id_of be32_of be16_of
    id_back = thirty_two_bits h.id k.id_small

    pub version_back : version_of (fixed_header h ++ rest) ≡ h.version
    unfolding fixed_header version_of
    version_back = omega (arith, k.version_small)

  -- ---- it is good
  pub header_good : header_error c (fixed_header h) ≡ 0
  unfolding fixed_header fault_of magic_ok
  header_good =
      let total_is : total_of (fixed_header h) ≡ h.total = total_back [] in
      let size_is : header_size_of (fixed_header h) ≡ h.header_size = size_back [] in
      let types = types_good h.frame_type in
      sixteen c k.in_range (fixed_header h) (sixteen_bytes h)
      ∙ passes (data_type_ok (data_type_of h.frame_type)) 4 types.0
      (passes (stream_type_ok (data_type_of h.frame_type) (stream_type_of h.frame_type)) 5 types.1
      (passes (total_ok c (total_of (fixed_header h))) 6 (rw total_is k.total_good)
      (passes (header_size_ok (data_type_of h.frame_type) (total_of (fixed_header h)) (header_size_of (fixed_header h))) 7
      (rw (total_is, size_is) k.size_good) refl)))

  -- ---- the theorem
  pub header_back : parsed c (fixed_header h) ≡ Ok h
  unfolding parsed fixed_header version_of
  header_back =
      rw (eq-eqb _ _ header_good, total_back [], size_back [], id_back [], version_back [], type_back h.frame_type)
