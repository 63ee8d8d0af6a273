-- What the fixed header of a frame says of the frame
use Prim.Native.Nat.{ℕ, ◌+◌, ◌-◌, ◌%◌, ◌≤◌, ◌<◌}
use mathlib.Core.Path.{◌≡◌, refl, ap, ◌∙◌}
use mathlib.Core.Bool.{Bool, true, false, cond}
use mathlib.Core.List.{List}
use native.Mathlib.Omega.{arith}
use borrow.Author.Tests.{eqb-true, eqb-false, leb-true}
use lib.Dec.{eqb, leb}
use lib.ListN.{length, take, get_or}
use lib.Seq.{get_or-take}
use Rattle.fixed_header.specs.Header.{ceiling_ok, be16_of, be32_of, total_of, header_size_of, id_of, version_of, magic_ok, data_type_ok}
use Rattle.fixed_header.specs.Header.{stream_type_ok, total_ok, header_size_ok, fault_of, header_error, type_of, parsed}
use Rattle.fixed_header.specs.declared.FixedHeader.{FixedHeader}
use Rattle.std.specs.Prelude.{Ok, Err}
use Rattle.laws.proofs.Booleans.{kept}
use Rattle.fixed_header.proofs.Codes.{good_total}

-- ---- the numbers of the first 16 bytes are the frame's
be16_take : (f : List ℕ) (at : ℕ) → at + 1 < 16 → be16_of (take 16 f) at ≡ be16_of f at
unfolding be16_of
be16_take f at h = rw (get_or-take 16 f at 0 (omega arith), get_or-take 16 f (at + 1) 0 h)

be32_take : (f : List ℕ) (at : ℕ) → at + 3 < 16 → be32_of (take 16 f) at ≡ be32_of f at
unfolding be32_of
be32_take f at h = rw (be16_take f at (omega arith), be16_take f (at + 2) (omega arith))

pub total_take : (f : List ℕ) → total_of (take 16 f) ≡ total_of f
unfolding total_of
total_take f = be32_take f 4 (omega arith)

size_take : (f : List ℕ) → header_size_of (take 16 f) ≡ header_size_of f
unfolding header_size_of
size_take f = be16_take f 8 (omega arith)

id_take : (f : List ℕ) → id_of (take 16 f) ≡ id_of f
unfolding id_of
id_take f = be32_take f 10 (omega arith)

version_take : (f : List ℕ) → version_of (take 16 f) ≡ version_of f
unfolding version_of
version_take f = ap (λ (n : ℕ). n % 256) (get_or-take 16 f 14 0 (omega arith))

-- ---- a good header
small : (unary : Bool) (size total : ℕ) → cond unary (leb size (total - 16)) (eqb size 0) ≡ true → size ≤ total - 16
small true size total e = leb-true _ _ e
small false size total e = let z : size ≡ 0 = eqb-true _ _ e in omega arith

module _ (c : ℕ) where
  -- the header lies within the frame: in a stream frame it is empty
  pub good_size : (f : List ℕ) → header_error c (take 16 f) ≡ 0 → header_size_of f ≤ total_of f - 16
  unfolding header_error fault_of header_size_ok
  good_size f e =
      let h = take 16 f in
      let r = kept (ceiling_ok c) 41 _ (omega arith) e in
      let a = kept (eqb (length h) 16) 9 _ (omega arith) r.1 in
      let b = kept (magic_ok (get_or h 0 0) (get_or h 1 0)) 3 _ (omega arith) a.1 in
      let q = kept (data_type_ok (get_or h 2 0)) 4 _ (omega arith) b.1 in
      let d = kept (stream_type_ok (get_or h 2 0) (get_or h 3 0)) 5 _ (omega arith) q.1 in
      let g = kept (total_ok c (total_of h)) 6 _ (omega arith) d.1 in
      let k = kept (cond (eqb (get_or h 2 0) 0) (leb (header_size_of h) (total_of h - 16)) (eqb (header_size_of h) 0)) 7 _ (omega arith) g.1 in
      rw (← size_take f, ← total_take f) (small (eqb (get_or h 2 0) 0) (header_size_of h) (total_of h) k.0)

  pub good_whole : (f : List ℕ) → header_error c (take 16 f) ≡ 0 → (16 ≤ total_of f) × (total_of f ≤ c)
  good_whole f e = rw (← total_take f) (good_total c (take 16 f) e)

-- ---- what `parse_header` answers
pub record Says (c : ℕ) (f : List ℕ) (x : FixedHeader) : Type 0 where
  pub good : header_error c (take 16 f) ≡ 0
  pub total_is : x.total ≡ total_of f
  pub size_is : x.header_size ≡ header_size_of f
  pub id_is : x.id ≡ id_of f
  pub version_is : x.version ≡ version_of f

abbrev told : List ℕ → FixedHeader
told f =
    record {
      frame_type = type_of (get_or (take 16 f) 2 0) (get_or (take 16 f) 3 0);
      total = total_of (take 16 f);
      header_size = header_size_of (take 16 f);
      id = id_of (take 16 f);
      version = version_of (take 16 f);
    }

module _ (c : ℕ) where
  pub parsed_good : (f : List ℕ) (x : FixedHeader) → Ok x ≡ parsed c (take 16 f) → Says c f x
  unfolding parsed
  parsed_good f x e = go (eqb (header_error c (take 16 f)) 0) refl e
    where
      go : (b : Bool) → eqb (header_error c (take 16 f)) 0 ≡ b → Ok x ≡ cond b (Ok (told f)) (Err (header_error c (take 16 f)))
          → Says c f x
      go true t g =
          let same : x ≡ told f = cc in
          record {
            good = eqb-true _ _ t;
            total_is = ap (λ (y : FixedHeader). y.total) same ∙ total_take f;
            size_is = ap (λ (y : FixedHeader). y.header_size) same ∙ size_take f;
            id_is = ap (λ (y : FixedHeader). y.id) same ∙ id_take f;
            version_is = ap (λ (y : FixedHeader). y.version) same ∙ version_take f;
          }
      go false t g = let z : ◌≡◌ {A = ℕ} 0 1 = cc in absurd (omega arith)

  pub parsed_refused : (f : List ℕ) (code : ℕ) → Err code ≡ parsed c (take 16 f)
      → (header_error c (take 16 f) ≡ 0 → ⊥) × (code ≡ header_error c (take 16 f))
  unfolding parsed
  parsed_refused f code e = go (eqb (header_error c (take 16 f)) 0) refl e
    where
      go : (b : Bool) → eqb (header_error c (take 16 f)) 0 ≡ b → Err code ≡ cond b (Ok (told f)) (Err (header_error c (take 16 f)))
          → (header_error c (take 16 f) ≡ 0 → ⊥) × (code ≡ header_error c (take 16 f))
      go true t g = let z : ◌≡◌ {A = ℕ} 0 1 = cc in absurd (omega arith)
      go false t g = (eqb-false _ _ t, cc)
