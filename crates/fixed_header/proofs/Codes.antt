-- What the error code of a header says
use Prim.Native.Nat.{ℕ, ◌≤◌}
use mathlib.Core.Path.{◌≡◌, refl}
use mathlib.Core.Logic.{◌⊎◌, inl, inr}
use mathlib.Core.Bool.{Bool, true, false, cond, ◌&&◌}
use mathlib.Core.List.{List}
use native.Mathlib.Omega.{arith}
use borrow.Author.Tests.{le-ltb, le-leb, eq-eqb, eqb-true, leb-true}
use lib.Dec.{eqb, leb}
use lib.ListN.{length, take, get_or}
use lib.Seq.{length-take-le}
use Rattle.laws.proofs.Booleans.{kept, both}
use Rattle.fixed_header.specs.Header.{max_frame, ceiling_ok, CeilingOk, total_of, header_size_of, header_error, declared_size}
use Rattle.fixed_header.specs.Header.{magic_ok, data_type_ok, stream_type_ok, total_ok, header_size_ok}
use Rattle.fixed_header.specs.Header.{type_fault, fault_of}

-- ---- the ceiling: the test and the premise are the same, and 65,536 keeps both
pub ceiling_range : (c : ℕ) → ceiling_ok c ≡ true → CeilingOk c
unfolding ceiling_ok
ceiling_range c e = let a = both (leb 16 c) (leb c max_frame) e in (leb-true _ _ a.0, leb-true _ _ a.1)

pub ceiling_ok_lem : (c : ℕ) → CeilingOk c → ceiling_ok c ≡ true
unfolding ceiling_ok
ceiling_ok_lem c h = rw (le-leb _ _ h.0, le-leb _ _ h.1)

pub largest : CeilingOk max_frame
largest = (omega arith, omega arith)

-- ---- the error code under a ceiling
module _ (c : ℕ) where
  pub bad_ceiling_lem : (h : List ℕ) → ceiling_ok c ≡ false → header_error c h ≡ 41
  unfolding header_error
  bad_ceiling_lem h e = rw e

  -- 16 bytes are judged by the rules only
  pub sixteen : CeilingOk c → (h : List ℕ) → length h ≡ 16 → header_error c h ≡ fault_of c h
  unfolding header_error
  sixteen r h l = rw (ceiling_ok_lem c r, eq-eqb (length h) 16 l)

  pub first_sixteen : CeilingOk c → (s : List ℕ) → 16 ≤ length s → header_error c (take 16 s) ≡ fault_of c (take 16 s)
  first_sixteen r s h = sixteen r (take 16 s) (length-take-le 16 s h)

  -- a good header's ceiling is in range
  pub good_ceiling : (h : List ℕ) → header_error c h ≡ 0 → CeilingOk c
  unfolding header_error
  good_ceiling h e = ceiling_range c (kept (ceiling_ok c) 41 _ (omega arith) e).0

  -- a good header has 16 bytes
  pub good_length : (h : List ℕ) → header_error c h ≡ 0 → length h ≡ 16
  unfolding header_error
  good_length h e = eqb-true _ _ (kept (eqb (length h) 16) 9 _ (omega arith) (kept (ceiling_ok c) 41 _ (omega arith) e).1).0

  -- and its total is 16 to the ceiling
  pub good_total : (h : List ℕ) → header_error c h ≡ 0 → (16 ≤ total_of h) × (total_of h ≤ c)
  unfolding header_error fault_of total_ok
  good_total h e =
      let a = kept (eqb (length h) 16) 9 _ (omega arith) (kept (ceiling_ok c) 41 _ (omega arith) e).1 in
      let b = kept (magic_ok (get_or h 0 0) (get_or h 1 0)) 3 _ (omega arith) a.1 in
      let d = kept (data_type_ok (get_or h 2 0)) 4 _ (omega arith) b.1 in
      let f = kept (stream_type_ok (get_or h 2 0) (get_or h 3 0)) 5 _ (omega arith) d.1 in
      let g = kept (leb 16 (total_of h) && leb (total_of h) c) 6 _ (omega arith) f.1 in
      let t = both (leb 16 (total_of h)) (leb (total_of h) c) g.0 in
      (leb-true _ _ t.0, leb-true _ _ t.1)

  -- so it is no longer than the longest frame of all
  pub good_small : (h : List ℕ) → header_error c h ≡ 0 → (16 ≤ total_of h) × (total_of h ≤ max_frame)
  good_small h e = ((good_total h e).0, omega (arith, good_total h e, good_ceiling h e))

-- the code of 16 bytes is 0, or 3 to 7
abbrev pub Code : ℕ → Type 0
Code n = (n ≡ 0) ⊎ ((3 ≤ n) × (n ≤ 7))

rule : (ok : Bool) (code : ℕ) {later : ℕ} → 3 ≤ code → code ≤ 7 → Code later → Code (cond ok later code)
rule true code l u p = p
rule false code l u p = inr (l, u)

pub fault_code : (c : ℕ) (h : List ℕ) → Code (fault_of c h)
unfolding fault_of
fault_code c h =
    rule (magic_ok (get_or h 0 0) (get_or h 1 0)) 3 (omega arith) (omega arith)
    (rule (data_type_ok (get_or h 2 0)) 4 (omega arith) (omega arith)
    (rule (stream_type_ok (get_or h 2 0) (get_or h 3 0)) 5 (omega arith) (omega arith)
    (rule (total_ok c (total_of h)) 6 (omega arith) (omega arith)
    (rule (header_size_ok (get_or h 2 0) (total_of h) (header_size_of h)) 7 (omega arith) (omega arith)
    (inl refl)))))

-- the size that 16 bytes and more declare
pub declared : (s : List ℕ) → 16 ≤ length s → declared_size s ≡ total_of (take 16 s)
unfolding declared_size
declared s h = rw (le-ltb _ _ h)

-- ---- a part of the chain of rules, with what the later ones say
-- with no number of its own it says what they say, and with one that number
abbrev pub Passes : (ℕ → ℕ) → Type 0
Passes f = (later : ℕ) → (f 0 ≡ 0 → f later ≡ later) × ((f 0 ≡ 0 → ⊥) → f later ≡ f 0)

one_rule : (ok : Bool) (code : ℕ) {f : ℕ → ℕ} → (code ≡ 0 → ⊥) → Passes f → Passes (λ later. cond ok (f later) code)
one_rule true code n p = p
one_rule false code n p = λ later. (λ e. absurd (n e), λ e. refl)

last_rule : Passes (λ later. later)
last_rule later = (λ e. refl, λ e. absurd (e refl))

pub types_pass : (a b d s : ℕ) → Passes (type_fault a b d s)
types_pass a b d s =
    one_rule (magic_ok a b) 3 (omega arith)
    (one_rule (data_type_ok d) 4 (omega arith) (one_rule (stream_type_ok d s) 5 (omega arith) last_rule))
