-- For a user (document 02, P11): what a connection's ceiling decides.
--
-- Promised: a header whose total is no more than a ceiling in range has the same error code, and says the same, as under 65,536
-- (`same_under`, `parsed_under`). So a header that is good under one ceiling is good under each larger one up to 65,536 (`good_larger`,
-- `good_largest`), and 65,536 is document 01's judge. A total over the ceiling is 6, where magic and types are good
-- (`over_ceiling`). The test for 41 finds just its ground (`ceiling_tested`).
-- Not promised: that a header which is refused under one ceiling has the same number under another: 6 comes before 7.
-- Ruled out: a judge that ignores the ceiling, or goes by it in another rule than that of the total.
-- Assumes nothing.
use Prim.Native.Nat.{ℕ, ◌≤◌, ◌<◌}
use mathlib.Core.Path.{◌≡◌, sym, ◌∙◌}
use mathlib.Core.Logic.{inl, inr}
use mathlib.Core.Bool.{true, not}
use mathlib.Core.List.{List}
use native.Mathlib.Omega.{arith}
use borrow.Author.Tests.{le-leb, lt-leb}
use lib.ListN.{length, get_or}
use Rattle.refusals.proofs.Tests.{Finds, Tests, both_pass, at_most}
use Rattle.fixed_header.specs.Header.{max_frame, ceiling_ok, CeilingOk, WrongCeiling, total_of, total_ok, fault_of, header_error, parsed}
use Rattle.fixed_header.specs.Header.{magic_ok, data_type_ok, stream_type_ok}
use Rattle.fixed_header.proofs.Codes.{ceiling_ok_lem, largest, good_total, good_ceiling, sixteen}

-- ---- the test and the ground of 41
pub ceiling_tested : (c : ℕ) → Tests (ceiling_ok c) (WrongCeiling c)
unfolding ceiling_ok
ceiling_tested c = both_pass (at_most 16 c) (at_most c max_frame)

-- the same where the test is the other way round
pub ceiling_found : (c : ℕ) → Finds (not (ceiling_ok c)) (WrongCeiling c)
ceiling_found c = record { told = (ceiling_tested c).told }

pub right_ceiling : (c : ℕ) → (WrongCeiling c → ⊥) → CeilingOk c
right_ceiling c right =
    let low : c < 16 → ⊥ = λ l. right (inl l) in
    let high : max_frame < c → ⊥ = λ l. right (inr l) in
    (omega arith, omega arith)

-- ---- under one ceiling as under another
module _ (c : ℕ) (in_range : CeilingOk c) (h : List ℕ) where
  module _ (within : total_of h ≤ c) where
    same_total : total_ok c (total_of h) ≡ total_ok max_frame (total_of h)
    unfolding total_ok
    same_total = rw (le-leb (total_of h) c within, le-leb (total_of h) max_frame (omega (arith, in_range)))

    pub same_under : header_error c h ≡ header_error max_frame h
    unfolding header_error fault_of
    same_under = rw (ceiling_ok_lem c in_range, ceiling_ok_lem max_frame largest, same_total)

    pub parsed_under : parsed c h ≡ parsed max_frame h
    unfolding parsed
    parsed_under = rw same_under

  pub over_ceiling : length h ≡ 16 → magic_ok (get_or h 0 0) (get_or h 1 0) ≡ true → data_type_ok (get_or h 2 0) ≡ true
      → stream_type_ok (get_or h 2 0) (get_or h 3 0) ≡ true → c < total_of h → header_error c h ≡ 6
  unfolding fault_of total_ok
  over_ceiling long magic data_type stream_type over =
      sixteen c in_range h long
      ∙ rw (magic, data_type, stream_type, le-leb 16 (total_of h) (omega (arith, in_range)), lt-leb (total_of h) c over)

pub good_larger : (c d : ℕ) (h : List ℕ) → c ≤ d → d ≤ max_frame → header_error c h ≡ 0 → header_error d h ≡ 0
good_larger c d h more most good =
    let t = good_total c h good in
    let r = good_ceiling c h good in
    same_under d (omega (arith, r), most) h (omega (arith, t)) ∙ sym (same_under c r h t.1) ∙ good

pub good_largest : (c : ℕ) (h : List ℕ) → header_error c h ≡ 0 → header_error max_frame h ≡ 0
good_largest c h good = good_larger c max_frame h (good_ceiling c h good).1 (omega arith) good
