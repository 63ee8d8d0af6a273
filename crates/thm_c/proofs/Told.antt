-- What the numbers of an answer say is the answer: a frame's size, a count held and an error code are never 0, so 0 is free to say the
-- rest.
use Prim.Native.Nat.{ℕ}
use mathlib.Core.Path.{◌≡◌, refl}
use mathlib.Core.Bool.{not}
use mathlib.Core.List.{List}
use native.Mathlib.Omega.{arith}
use borrow.Author.Tests.{eqb-false, ne_eqb, not-true}
use lib.Dec.{eqb, ltb}
use lib.ListN.{length, take}
use Rattle.laws.proofs.Booleans.{choose}
use Rattle.fixed_header.specs.Header.{ceiling_ok}
use Rattle.deframer.specs.Deframe.{Out, known_of, stream, next_frame, deframed, ended}
use Rattle.deframer.specs.declared.Deframer.{Deframer}
use Rattle.deframer.specs.Progress.{Progress}
use Rattle.deframer.specs.Progress.{Frame, NeedMore, Refused}
use Rattle.deframer.specs.End.{End}
use Rattle.deframer.specs.End as end
use Rattle.fixed_header.proofs.Codes.{good_total}
use Rattle.deframer.proofs.Advance.{next_short, next_bad, next_part, next_whole, Shape, short, bad, part, whole, shape}
use Rattle.bekurapi.specs.Answers.{progress_error, progress_size, end_error, end_short}
use Rattle.thm_c.specs.Calls.{progress_of, end_of}

-- ---- a call of the deframer
abbrev Told : Progress → Type 0
Told (Frame size) = size ≡ 0 → ⊥
Told NeedMore = Unit {0}
Told (Refused code) = code ≡ 0 → ⊥

told_back : (p : Progress) → Told p → progress_of (progress_error p) (progress_size p) ≡ p
told_back (Frame size) t = rw (ne_eqb size 0 t) refl
told_back NeedMore t = refl
told_back (Refused code) t = rw (ne_eqb code 0 t) refl

told_next : (c : ℕ) (s : List ℕ) → Told (next_frame c s)
told_next c s = go (shape c s)
  where
    go : Shape c s → Told (next_frame c s)
    go (short p) = rw (next_short c s p) tt
    go (bad p b) = rw (next_bad c s p b) b
    go (part p e t) = rw (next_part c s p e t) tt
    go (whole p e t) = rw (next_whole c s p e t) (λ z. absurd (omega (arith, z, (good_total c (take 16 s) e).0)))

abbrev ToldBy : Out → Type 0
ToldBy o = Told o.step.progress

told_call : (c : ℕ) (st : Deframer) (buffer piece : List ℕ) → Told (deframed c st buffer piece).step.progress
unfolding deframed
told_call c st buffer piece =
    choose ToldBy (not (ceiling_ok c)) _ _ (λ e z. absurd (omega (arith, z)))
    (λ e. choose ToldBy (ltb (length buffer) c) _ _ (λ e z. absurd (omega (arith, z)))
    (λ e. choose ToldBy (not (known_of c st buffer)) _ _ (λ k z. absurd (omega (arith, z)))
    (λ k. choose ToldBy (not (eqb st.error 0)) _ _ (λ n. eqb-false st.error 0 (not-true (eqb st.error 0) n))
    (λ z. told_next c (stream st.held buffer piece)))))

pub progress_back : (c : ℕ) (st : Deframer) (buffer piece : List ℕ)
    → progress_of (progress_error (deframed c st buffer piece).step.progress) (progress_size (deframed c st buffer piece).step.progress)
    ≡ (deframed c st buffer piece).step.progress
progress_back c st buffer piece = told_back (deframed c st buffer piece).step.progress (told_call c st buffer piece)

-- ---- the end of a stream
abbrev TellsEnd : End → Type 0
TellsEnd end.Clean = Unit {0}
TellsEnd (end.Short count) = count ≡ 0 → ⊥
TellsEnd (end.Refused code) = code ≡ 0 → ⊥

tells_back : (e : End) → TellsEnd e → end_of (end_error e) (end_short e) ≡ e
tells_back end.Clean t = refl
tells_back (end.Short count) t = rw (ne_eqb count 0 t) refl
tells_back (end.Refused code) t = rw (ne_eqb code 0 t) refl

tells_end : (c : ℕ) (st : Deframer) (buffer : List ℕ) → TellsEnd (ended c st buffer)
unfolding ended
tells_end c st buffer =
    choose TellsEnd (not (ceiling_ok c)) _ _ (λ e z. absurd (omega (arith, z)))
    (λ e. choose TellsEnd (ltb (length buffer) c) _ _ (λ e z. absurd (omega (arith, z)))
    (λ e. choose TellsEnd (not (known_of c st buffer)) _ _ (λ k z. absurd (omega (arith, z)))
    (λ k. choose TellsEnd (not (eqb st.error 0)) _ _ (λ n. eqb-false st.error 0 (not-true (eqb st.error 0) n))
    (λ z. choose TellsEnd (eqb st.held 0) _ _ (λ none. tt) (λ n. eqb-false st.held 0 n)))))

pub end_back : (c : ℕ) (st : Deframer) (buffer : List ℕ)
    → end_of (end_error (ended c st buffer)) (end_short (ended c st buffer)) ≡ ended c st buffer
end_back c st buffer = tells_back (ended c st buffer) (tells_end c st buffer)
