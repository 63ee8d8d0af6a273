-- For a user in C: the judge of a fixed header, and what a header says.
--
-- Promised, of any ceiling and any bytes: whatever a call of `trpc_header_parse` gave, if it gave what its contract ensures, then the
-- number returned and the five numbers together say what the header says, or its error code (`header_told`), and the number returned is the
-- one that `trpc_header_check` returns under the same ceiling (`same_code`). Nothing else is known of a call (`proofs/Contracts`).
-- Not promised: anything of the bytes after the 16, or of a frame that such a header begins.
-- Ruled out: a header that is reported with another type, total, header size, id or version than it has, and a number of the five that no
-- contract speaks of.
use Prim.Native.Nat.{ℕ}
use mathlib.Core.Path.{◌≡◌, refl, ap, sym, ◌∙◌}
use mathlib.Core.List.{List}
use borrow.Author.Tests.{eqb-true, eqb-false, ne_eqb}
use lib.Dec.{eqb}
use Rattle.fixed_header.specs.Header.{header_error, parsed}
use Rattle.fixed_header.specs.declared.FrameType.{FrameType}
use Rattle.fixed_header.specs.declared.FrameType.TheVariants.{Unary, Init, Data, Feedback, Close}
use Rattle.fixed_header.specs.declared.FixedHeader.{FixedHeader}
use Rattle.std.specs.Prelude.{Result, Ok, Err}
use Rattle.bekurapi.specs.Answers.{type_number, parsed_error}
use Rattle.thm_c.specs.Header.{CParsed, CChecks, CParses, type_from, header_from}
use Rattle.thm_c.specs.Entries.{parsed_C}
use Rattle.thm_c.proofs.Given.{all_parsed}
use Rattle.laws.proofs.Booleans.{choose}

-- ---- the numbers of an answer, put together, are the answer: an error code is never 0
type_back : (t : FrameType) → type_from (type_number t) ≡ t
type_back Unary = refl
type_back Init = refl
type_back Data = refl
type_back Feedback = refl
type_back Close = refl

abbrev Told : Result FixedHeader ℕ → Type 0
Told (Ok h) = Unit {0}
Told (Err code) = code ≡ 0 → ⊥

back : (p : Result FixedHeader ℕ) → Told p → header_from (parsed_C p) ≡ p
back (Ok h) t =
    ap (λ (y : FrameType). Ok (record {
      frame_type = y;
      total = h.total;
      header_size = h.header_size;
      id = h.id;
      version = h.version;
    })) (type_back h.frame_type)
back (Err code) t = rw (ne_eqb code 0 t) refl

told : (c : ℕ) (bytes : List ℕ) → Told (parsed c bytes)
unfolding parsed
told c bytes = choose Told (eqb (header_error c bytes) 0) _ _ (λ e. tt) (λ e. eqb-false (header_error c bytes) 0 e)

pub header_told : (c : ℕ) (bytes : List ℕ) (x : CParsed) → CParses c bytes x → header_from x ≡ parsed c bytes
header_told c bytes x e = ap header_from (all_parsed c bytes x e) ∙ back (parsed c bytes) (told c bytes)

-- "Returns a code of enum trpc_header_error, the one that trpc_header_check returns."
parsed_code : (c : ℕ) (bytes : List ℕ) → parsed_error (parsed c bytes) ≡ header_error c bytes
unfolding parsed
parsed_code c bytes =
    choose (λ (p : Result FixedHeader ℕ). parsed_error p ≡ header_error c bytes) (eqb (header_error c bytes) 0) _ _
    (λ e. sym (eqb-true (header_error c bytes) 0 e)) (λ e. refl)

pub same_code : (c : ℕ) (bytes : List ℕ) (code : ℕ) (x : CParsed) → CChecks c bytes code → CParses c bytes x → x.code ≡ code
same_code c bytes code x checks parses = parses.code_is ∙ parsed_code c bytes ∙ sym checks
